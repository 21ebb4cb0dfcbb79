-- A ledger with another user in place of one of the same name and places: its shapes, its validity and its length.
use Rattle.std.proofs.Common.{◌≡◌, ℕ, ◌-◌, [], length, set, sym, subst, arith}
use Rattle.std.specs.Prelude.{All, slice_get, Some}
use Rattle.std.proofs.lemmas.List.{length-set}
use Rattle.std.proofs.lemmas.List.Elements.{All-set, All-weaker}
use Rattle.board_changes.proofs.OneBase.{all_at, set_there}
use Rattle.board_layout.specs.Board.{shapes_of}
use Rattle.board_ledger.proofs.UserPutLaws.{put_length}
use Rattle.board_ledger.specs.Ledger.{ledger_text}
use Rattle.open_offers.specs.Offers.{IsOffer}
use Rattle.board_ledger.specs.Uploads.{IsUpload}
use Rattle.board_ledger.specs.UserPuts.{record_in}
use Rattle.board_ledger.specs.Users.{IsUser}
use Rattle.board_ledger.specs.Valid.{IsLedger}
use Rattle.board_ledger.specs.declared.ledger.Ledger.{Ledger}
use Rattle.open_offers.specs.declared.offer.OpenOffer.{OpenOffer}
use Rattle.board_ledger.specs.declared.user.User.{User}
use Rattle.offer_changes.proofs.UserLaws.{Alike, AllAlike, OneHighEach, one_alike, same_names, same_record, same_shapes}
use Rattle.offer_changes.specs.Changed.{with_user_replaced}

module _ (l : Ledger) (id : ℕ) (u v : User) (here : slice_get l.users (id - 1) ≡ Some u) (alike : Alike u v) where
  all_alike : AllAlike l.users (set l.users (id - 1) v)
  all_alike = one_alike l.users (id - 1) u v here alike

  same_count : length (set l.users (id - 1) v) ≡ length l.users
  same_count = length-set l.users (id - 1) v

  pub shapes_stay : shapes_of (with_user_replaced id v l) ≡ shapes_of l
  shapes_stay = same_shapes l (set l.users (id - 1) v) 0 l.setup.conferences all_alike

  -- ---- validity
  pub ledger_is : IsLedger l → IsUser (length l.setup.conferences) v → IsLedger (with_user_replaced id v l)
  ledger_is ok user = record {
    version = ok.version;
    setup = ok.setup;
    created = ok.created;
    few_users = omega (arith, ok.few_users, same_count);
    users = All-set (IsUser (length l.setup.conferences)) l.users (id - 1) v user ok.users;
    names = same_names [] [] l.users (set l.users (id - 1) v) tt all_alike ok.names;
    few_uploads = ok.few_uploads;
    uploads = subst (λ (n : ℕ). All (IsUpload n) l.uploads) (sym same_count) ok.uploads;
    pairs = ok.pairs;
  }

  pub user_was : IsLedger l → IsUser (length l.setup.conferences) u
  user_was ok = all_at (IsUser (length l.setup.conferences)) l.users (id - 1) u here ok.users

  pub user_is : IsLedger (with_user_replaced id v l) → IsUser (length l.setup.conferences) v
  user_is ok = all_at (IsUser (length l.setup.conferences)) (set l.users (id - 1) v) (id - 1) v (set_there l.users (id - 1) u v here) ok.users

  pub was_each : IsLedger l → OneHighEach (length l.setup.conferences) u
  was_each ok = All-weaker (IsOffer (length l.setup.conferences) u.members) (λ (o : OpenOffer). length o.highs ≡ length l.setup.conferences) (λ o is. is.one_high_each) u.offers (user_was ok).offers.each

  -- ---- how many bytes it has
  pub same_text : IsLedger l → OneHighEach (length l.setup.conferences) v → length (record_in l v) ≡ length (record_in l u)
  same_text ok each = same_record (length l.setup.conferences) u v alike (was_each ok) each

  pub text_stays : IsLedger l → OneHighEach (length l.setup.conferences) v → length (ledger_text (with_user_replaced id v l)) ≡ length (ledger_text l)
  text_stays ok each = put_length l (id - 1) u v here (same_text ok each)
