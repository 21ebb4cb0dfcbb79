pub mod ChunkLaws
