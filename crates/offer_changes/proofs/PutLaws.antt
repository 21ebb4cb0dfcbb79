-- The put of a user's record begins the intent of an offer, and of its acknowledgement.
use Rattle.std.proofs.Common.{◌≡◌, ℕ, ◌-◌, List, [], length, sym, subst, arith}
use Rattle.std.specs.Prelude.{slice_get, Option, Some, IsSomeAnd}
use Rattle.board_changes.proofs.LedgerPuts.{Begins, begins_gather, begins_join, one_begins}
use Rattle.board_changes.specs.Gathered.{Gathered, HasBases, Joins}
use Rattle.board_ledger.proofs.UserPutLaws.{put_length, record_ends, user_turns}
use Rattle.board_ledger.specs.Ledger.{ledger_text}
use Rattle.board_ledger.specs.UserPuts.{record_in, user_place, user_puts}
use Rattle.board_ledger.specs.Valid.{IsLedger}
use Rattle.board_ledger.specs.declared.ledger.Ledger.{Ledger}
use Rattle.board_ledger.specs.declared.user.User.{User}
use Rattle.door_outside.specs.File.{ledger_file}
use Rattle.intent_journal.specs.Patches.{HostFiles}
use Rattle.jam_layout.specs.declared.files.BaseFiles.{BaseFiles}
use Rattle.offer_changes.specs.Changed.{with_user_replaced}

-- a user whose name is as long
pub there_room : (o : Option User) (u v : User) → o ≡ Some u → length v.name ≡ length u.name → IsSomeAnd o (λ old. length v.name ≡ length old.name)
there_room o u v here room = subst (λ (p : Option User). IsSomeAnd p (λ old. length v.name ≡ length old.name)) (sym here) room

module _ (l : Ledger) (id : ℕ) (u v : User) (here : slice_get l.users (id - 1) ≡ Some u) (same : length (record_in l v) ≡ length (record_in l u)) where
  user_begins : Begins (ledger_text (with_user_replaced id v l)) (user_puts (id - 1) v l)
  user_begins = one_begins (ledger_text (with_user_replaced id v l)) (record_in l v) (user_place (id - 1) l) (omega (arith, record_ends l (id - 1) u v here same, put_length l (id - 1) u v here same))

  pub user_joins : IsLedger (with_user_replaced id v l) → Joins [] (user_puts (id - 1) v l)
  user_joins next = begins_join (with_user_replaced id v l) (user_puts (id - 1) v l) user_begins next

  pub gathered_user : (P : HostFiles → Type 0) (old new : List BaseFiles) → ((files : HostFiles) → P files → HasBases old files) → ((files : HostFiles) → P files → files ledger_file ≡ ledger_text l)
      → Gathered P (ledger_text (with_user_replaced id v l)) old new 0 (user_puts (id - 1) v l)
  gathered_user P old new has right = begins_gather P (ledger_text l) (ledger_text (with_user_replaced id v l)) old new (user_puts (id - 1) v l) (user_turns l (id - 1) u v here same) user_begins has right
