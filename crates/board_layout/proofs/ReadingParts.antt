-- The parts that were read make a board, whose layout the files are.
use Rattle.std.proofs.Common.{◌≡◌, ℕ, ◌-◌, ◌≤◌, eqb, List, length, Ok, sym, ap, ◌∙◌, subst, arith}
use Rattle.std.specs.Prelude.{All, IsTrue}
use Rattle.std.specs.List.{AllZip}
use Rattle.board_ledger.specs.Ledger.{stored_text}
use Rattle.board_ledger.specs.Valid.{IsLedger, IsStored, today}
use Rattle.board_ledger.specs.declared.ledger.Ledger.{Ledger}
use Rattle.board_ledger.proofs.VersionLaws.{today_valid}
use Rattle.door_outside.specs.File.{ledger_file}
use Rattle.board_ledger.specs.intent_journal.Patches.{HostFiles}
use Rattle.jam_base.specs.Contents.{Contents}
use Rattle.jam_base.specs.jam_layout.Valid.{IsConference}
use Rattle.jam_base.specs.jam_layout.declared.conference.ConferenceContents.{ConferenceContents}
use Rattle.jam_base.specs.jam_layout.declared.shape.Shape.{Shape}
use Rattle.board_layout.specs.Board.{Board, board_with, conferences_in, shapes_in, shapes_of}
use Rattle.board_layout.specs.Damage.{size_limit}
use Rattle.board_layout.specs.Layout.{layouts, base_files, HasPlaces, AreAt, data_size, board_size}
use Rattle.board_layout.specs.Rules.{IsLaidOutAs}
use Rattle.board_layout.specs.Valid.{board_limit, offers_fit, IsBoard}
use Rattle.board_layout.proofs.BasePlaces.{IsBase, layouts_count, shapes_count, zipped}
use Rattle.board_layout.proofs.BoardLaws.{all_places}
use Rattle.board_layout.proofs.BoardParts.{rest_in}
use Rattle.board_layout.proofs.RestLaws.{rest_take}
use Rattle.board_layout.proofs.StoredLedgers.{in_either, laid_as, stored_small}

module _ (l : Ledger) (bases : List Contents) (shapes : shapes_in bases ≡ shapes_of l) where
  pub is_board : IsLedger l → All IsBase bases → All (λ u. IsTrue (offers_fit (conferences_in bases) u.offers)) l.users → board_size (board_with l bases) ≤ board_limit → IsBoard (board_with l bases)
  is_board ok all highs small = record {
    ledger = ok;
    conferences = subst (λ (s : List Shape). AllZip IsConference s (conferences_in bases)) shapes (zipped bases all);
    highs = highs;
    small = small;
  }

-- conferences that were read whole, each of its shape
module _ (l : Ledger) (wholes : List ConferenceContents) (zip : AllZip IsConference (shapes_of l) wholes) where
  whole_count : length (layouts (shapes_of l) wholes) ≡ length l.setup.conferences
  whole_count = layouts_count (shapes_of l) wholes zip ∙ shapes_count l 0 l.setup.conferences

  whole_few : IsLedger l → length (layouts (shapes_of l) wholes) ≤ 64
  whole_few ok = let many = ok.setup.conferences.many in omega (arith, whole_count, many)

  pub has_places : (files : HostFiles) (u : Unit {0}) → AreAt 0 (layouts (shapes_of l) wholes) files → rest_in files l ≡ Ok u → HasPlaces (record { ledger = l; conferences = wholes }) files
  has_places files u there rest =
      let n : ℕ = length l.setup.conferences in
      all_places n (layouts (shapes_of l) wholes) files there whole_count (rest_take n (64 - n) files u rest)

-- the ledger that was read is of today's form, and the board is of it
module _ (raw : Ledger) (b : Board) (same : b.ledger ≡ today raw) (zip : AllZip IsConference (shapes_of (today raw)) b.conferences) (files : HostFiles) (stored : IsStored raw) (text : files ledger_file ≡ stored_text raw)
    (places : HasPlaces b files) (short : data_size files ≤ size_limit (files ledger_file)) where
  valid : IsLedger (today raw)
  valid = today_valid raw stored

  few_files : length (base_files b) ≤ 64
  few_files = omega (arith, ap (λ (l : Ledger). length (layouts (shapes_of l) b.conferences)) same, whole_few (today raw) b.conferences zip valid)

  pub laid_out : IsLaidOutAs (eqb raw.version 1) b files
  laid_out = laid_as raw b files same text places few_files short stored

  -- files that aren't too long make no board that is
  pub small : board_size b ≤ board_limit
  small = stored_small b files (subst IsLedger (sym same) valid) few_files (in_either (eqb raw.version 1) b files laid_out) short
