use Rattle.std.proofs.Common.{◌≡◌, ◌∙◌, ◌++◌, List, length, sym, ap, subst, arith}
use Rattle.std.specs.Prelude.{slice_get}
use Rattle.std.proofs.lemmas.Option.{slice_get_within}
use Rattle.intent_journal.specs.Patches.{byte_count}
use Rattle.intent_journal.specs.declared.patch.Patch.{Patch}
use Rattle.intent_journal.specs.door_outside.File.{ledger_file}
use Rattle.setup_file.specs.declared.fields.SetupFields.{SetupFields}
use Rattle.board_ledger.specs.Ledger.{ledger_text}
use Rattle.board_ledger.specs.OneFile.{TurnsFile}
use Rattle.board_ledger.specs.UserPuts.{record_in, with_user_at}
use Rattle.board_ledger.specs.Users.{user_text}
use Rattle.open_offers.specs.declared.version.Version.TheVariants.{Second}
use Rattle.board_ledger.proofs.SetupBounds.{user_small}
use Rattle.board_ledger.proofs.UserPutLaws.{as_long, one_patch, room_there, user_bytes, user_is, user_turns}
use Rattle.board_ledger.proofs.VersionLaws.{as_today}
use Rattle.board_ledger.proofs.user_puts.user_patches.Goals as goal

pub write-requires-clause-name : goal.write-requires-clause-name
write-requires-clause-name c =
    let l = c.args.ledger.now in
    let u = c.args.user.now in
    let there = room_there (slice_get l.users c.args.place) u c.requires.room in
    omega (arith, user_small u.name (user_is l c.args.place there.0 u there.1 c.requires.next).name)

pub write-requires-clause-offers : goal.write-requires-clause-offers
write-requires-clause-offers c =
    let l = c.args.ledger.now in
    let u = c.args.user.now in
    let there = room_there (slice_get l.users c.args.place) u c.requires.room in
    (user_is l c.args.place there.0 u there.1 c.requires.next).offers.few

pub user_place-at-requires-clause-ledger : goal.user_place-at-requires-clause-ledger
user_place-at-requires-clause-ledger c = as_today c.args.ledger.now c.requires.ledger

pub user_place-at-requires-clause-within : goal.user_place-at-requires-clause-within
user_place-at-requires-clause-within c =
    let l = c.args.ledger.now in
    let there = room_there (slice_get l.users c.args.place) c.args.user.now c.requires.room in
    omega (arith, slice_get_within l.users c.args.place there.0 there.1)

pub overflow_cast-at : goal.overflow_cast-at
overflow_cast-at c = omega (arith, c.user_place-at.ensures.small, c.requires.ledger.few_users)

pub returns-clause-puts : goal.returns-clause-puts
returns-clause-puts c =
    let l = c.args.ledger.now in
    let u = c.args.user.now in
    let there = room_there (slice_get l.users c.args.place) u c.requires.room in
    let same = as_long l c.args.place there.0 u there.1 there.2 c.requires.ledger c.requires.next in
    let bytes : c.write.new.out ≡ record_in l u = c.in_ok-write.ensures ∙ (λ i. c.new-bytes.ensures i ++ user_text Second ((c.len-conferences.ensures ∙ ap (λ (s : SetupFields). length s.conferences) c.fields.ensures.fields) i) u) in
    one_patch l c.args.place there.0 u there.1 same c.new-patches.result c.add.new.self c.ledger-file.result c.user_place-at.result c.write.new.out c.new-patches.ensures c.ledger-file.ensures c.user_place-at.ensures.place bytes c.in_ok-add.ensures.ok

pub returns-clause-files : goal.returns-clause-files
returns-clause-files c =
    let l = c.args.ledger.now in
    let u = c.args.user.now in
    let there = room_there (slice_get l.users c.args.place) u c.requires.room in
    let same = as_long l c.args.place there.0 u there.1 there.2 c.requires.ledger c.requires.next in
    subst (λ (patches : List Patch). TurnsFile ledger_file (ledger_text l) (ledger_text (with_user_at c.args.place u l)) patches) (sym (returns-clause-puts c)) (user_turns l c.args.place there.0 u there.1 same)

pub returns-clause-costs : goal.returns-clause-costs
returns-clause-costs c =
    let l = c.args.ledger.now in
    let u = c.args.user.now in
    let there = room_there (slice_get l.users c.args.place) u c.requires.room in
    let same = as_long l c.args.place there.0 u there.1 there.2 c.requires.ledger c.requires.next in
    let puts = returns-clause-puts c in
    (ap length puts, omega (arith, ap byte_count puts, user_bytes l c.args.place there.0 u there.1 same c.requires.ledger c.requires.next))
