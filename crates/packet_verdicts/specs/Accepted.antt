-- Posts, and where those of each place stand among them.
use Rattle.std.specs.Prelude.{◌≡◌, ℕ, suc, ◌<◌, List, [], ◌∷◌, ◌++◌, length, map, slice_index_or, All, ◌==◌, if◌then◌else◌}
use Rattle.jam_records.specs.declared.message.Message.{Message}
use Rattle.packet_verdicts.specs.Typed.{IsTypedPost}
use Rattle.packet_verdicts.specs.declared.accepted.Accepted.{Accepted}

-- the indexes, from 0, of the posts in a place
abbrev pub indexes_in : ℕ → List (ℕ × Message) → List ℕ
indexes_in place [] = []
indexes_in place (p ∷ posts) = (if p.0 == place then 0 ∷ [] else []) ++ map suc (indexes_in place posts)

-- the indexes of each place are kept, no post has a msgid yet, and the bytes and moments of each are of their types
pub record IsIndexed (a : Accepted) : Type 0 where
  pub places : length a.by_place.items ≡ 64
  pub indexes : (place : ℕ) → place < 64 → slice_index_or a.by_place.items place [] ≡ indexes_in place a.posts
  pub drafts : All (λ p. p.1.msgid ≡ []) a.posts
  pub typed : All IsTypedPost a.posts
