use Rattle.std.proofs.Common.{rules, ◌≡◌, ◌≤◌, length, Some, None, Err, sym, ap, ◌∙◌, subst}
use Rattle.std.specs.Prelude.{option_map}
use Rattle.post_changes.specs.board_changes.Changed.{base_at}
use Rattle.board_layout.specs.Board.{Board}
use Rattle.board_layout.specs.Valid.{IsBoard}
use Rattle.board_layout.specs.declared.error.ReadError.TheVariants.{Damaged}
use Rattle.board_layout.specs.jam_base.Contents.{Contents}
use Rattle.board_layout.specs.jam_base.Slots.{numbered}
use Rattle.jam_layout.specs.Outlines.{message_outline}
use Rattle.jam_records.specs.declared.message.Message.{Message}
use Rattle.mail_board.proofs.BodyLaws.{none_whole, same_error}
use Rattle.mail_board.proofs.MessageLaws.{base_there, base_valid, message_here, message_there, no_base, no_base_there, no_message, other, other_bodies, place_small}
use Rattle.mail_board.proofs.OneHost.{alike_held}
use Rattle.mail_board.specs.Held.{HeldBoard}
use Rattle.mail_board.proofs.board.Board.message.Goals as goal

-- ---- the place has no base
pub returns-in_default-clause-message : goal.returns-in_default-clause-message
returns-in_default-clause-message g c = λ tells b holds.
    let held : Board = c.args.self.now.board in
    let past : length c.bases.result.now ≤ c.from.result = search rules in
    let none : base_at c.args.place c.self.inside.stored ≡ None = no_base_there c.self.inside.stored c.bases.result.now c.args.place c.from.result c.bases.ensures.contents c.from.ensures past in
    let gone : base_at c.args.place held ≡ None = subst (λ (k : Board). base_at c.args.place k ≡ None) (ap (λ (h : HeldBoard). h.board) c.self.view_is) none in
    no_base held b (alike_held held (g.H.Host.disk c.args.host.now) (c.requires.rests tells) b holds) c.args.place c.args.number holds.0 gone

pub returns-in_default-clause-outline : goal.returns-in_default-clause-outline
returns-in_default-clause-outline g c =
    let held : Board = c.args.self.now.board in
    let past : length c.bases.result.now ≤ c.from.result = search rules in
    let none : base_at c.args.place c.self.inside.stored ≡ None = no_base_there c.self.inside.stored c.bases.result.now c.args.place c.from.result c.bases.ensures.contents c.from.ensures past in
    let gone : base_at c.args.place held ≡ None = subst (λ (k : Board). base_at c.args.place k ≡ None) (ap (λ (h : HeldBoard). h.board) c.self.view_is) none in
    let valid : IsBoard held = subst IsBoard (ap (λ (h : HeldBoard). h.board) c.self.view_is) c.bases.ensures.board in
    ap (option_map message_outline) (sym (message_here held c.args.place c.args.number None valid gone))

-- ---- it has one
pub fetched-requires-clause-base : goal.fetched-requires-clause-base
fetched-requires-clause-base g c =
    let there : base_at c.args.place c.self.inside.stored ≡ Some c.in-Some.base.now =
    base_there c.self.inside.stored c.bases.result.now c.args.place c.from.result c.in-Some.base.now c.bases.ensures.contents c.from.ensures (search rules) (search rules) in
    base_valid c.self.inside.stored c.args.place c.in-Some.base.now c.bases.ensures.board there

pub fetched-requires-clause-place : goal.fetched-requires-clause-place
fetched-requires-clause-place g c =
    let there : base_at c.args.place c.self.inside.stored ≡ Some c.in-Some.base.now =
    base_there c.self.inside.stored c.bases.result.now c.args.place c.from.result c.in-Some.base.now c.bases.ensures.contents c.from.ensures (search rules) (search rules) in
    place_small c.self.inside.stored c.args.place c.in-Some.base.now c.bases.ensures.board there

pub returns-in_err-found-in-Some-message_of-clause-undamaged : goal.returns-in_err-found-in-Some-message_of-clause-undamaged
returns-in_err-found-in-Some-message_of-clause-undamaged g c = λ tells damage e.
    let held : Board = c.args.self.now.board in
    let disk = g.H.Host.disk c.args.host.now in
    let base : Contents = c.in-Some.base.now in
    let there : base_at c.args.place c.self.inside.stored ≡ Some base =
    base_there c.self.inside.stored c.bases.result.now c.args.place c.from.result c.in-Some.base.now c.bases.ensures.contents c.from.ensures (search rules) (search rules) in
    let here : base_at c.args.place held ≡ Some base = subst (λ (k : Board). base_at c.args.place k ≡ Some base) (ap (λ (h : HeldBoard). h.board) c.self.view_is) there in
    let rests = c.requires.rests tells in
    let b : Board = rests.stands.board in
    let one = other held b rests.stands.alike c.args.place c.args.number base here in
    let has = other_bodies held b rests.stands.alike c.args.place c.args.number base here disk.files rests.stands.valid rests.stands.layout in
    let r : c.from_residual.result ≡ Err c.in_err-found-in-Some-message_of.field-0.0 = search rules in
    c.in_err-found-in-Some-message_of.ensures.undamaged tells one.0 has damage (same_error Message c.in_err-found-in-Some-message_of.field-0.0 (Damaged damage) c.from_residual.result r e)

pub returns-in_ok-found-in-Some-message_of-clause-message : goal.returns-in_ok-found-in-Some-message_of-clause-message
returns-in_ok-found-in-Some-message_of-clause-message g c = λ tells b holds.
    let held : Board = c.args.self.now.board in
    let disk = g.H.Host.disk c.args.host.now in
    let base : Contents = c.in-Some.base.now in
    let there : base_at c.args.place c.self.inside.stored ≡ Some base =
    base_there c.self.inside.stored c.bases.result.now c.args.place c.from.result c.in-Some.base.now c.bases.ensures.contents c.from.ensures (search rules) (search rules) in
    let here : base_at c.args.place held ≡ Some base = subst (λ (k : Board). base_at c.args.place k ≡ Some base) (ap (λ (h : HeldBoard). h.board) c.self.view_is) there in
    let alike = alike_held held disk (c.requires.rests tells) b holds in
    let one = other held b alike c.args.place c.args.number base here in
    let has = other_bodies held b alike c.args.place c.args.number base here disk.files holds.0 holds.1.files in
    message_there held b alike c.args.place c.args.number base here c.in_ok-found-in-Some-message_of.found holds.0 (c.in_ok-found-in-Some-message_of.ensures.message tells one.0 has)

pub returns-in_ok-found-in-Some-message_of-clause-outline : goal.returns-in_ok-found-in-Some-message_of-clause-outline
returns-in_ok-found-in-Some-message_of-clause-outline g c =
    let held : Board = c.args.self.now.board in
    let base : Contents = c.in-Some.base.now in
    let there : base_at c.args.place c.self.inside.stored ≡ Some base =
    base_there c.self.inside.stored c.bases.result.now c.args.place c.from.result c.in-Some.base.now c.bases.ensures.contents c.from.ensures (search rules) (search rules) in
    let here : base_at c.args.place held ≡ Some base = subst (λ (k : Board). base_at c.args.place k ≡ Some base) (ap (λ (h : HeldBoard). h.board) c.self.view_is) there in
    let valid : IsBoard held = subst IsBoard (ap (λ (h : HeldBoard). h.board) c.self.view_is) c.bases.ensures.board in
    c.in_ok-found-in-Some-message_of.ensures.outline ∙ ap (option_map message_outline) (sym (message_here held c.args.place c.args.number (Some base) valid here))

-- ---- no slot of the number holds a message
pub returns-in-None-clause-message : goal.returns-in-None-clause-message
returns-in-None-clause-message g c = λ tells b holds.
    let held : Board = c.args.self.now.board in
    let base : Contents = c.in-Some.base.now in
    let there : base_at c.args.place c.self.inside.stored ≡ Some base =
    base_there c.self.inside.stored c.bases.result.now c.args.place c.from.result c.in-Some.base.now c.bases.ensures.contents c.from.ensures (search rules) (search rules) in
    let here : base_at c.args.place held ≡ Some base = subst (λ (k : Board). base_at c.args.place k ≡ Some base) (ap (λ (h : HeldBoard). h.board) c.self.view_is) there in
    no_message held b (alike_held held (g.H.Host.disk c.args.host.now) (c.requires.rests tells) b holds) c.args.place c.args.number base here holds.0 (none_whole (numbered base.conference.slots c.args.number) c.in-None.ensures)

pub returns-in-None-clause-outline : goal.returns-in-None-clause-outline
returns-in-None-clause-outline g c =
    let held : Board = c.args.self.now.board in
    let base : Contents = c.in-Some.base.now in
    let there : base_at c.args.place c.self.inside.stored ≡ Some base =
    base_there c.self.inside.stored c.bases.result.now c.args.place c.from.result c.in-Some.base.now c.bases.ensures.contents c.from.ensures (search rules) (search rules) in
    let here : base_at c.args.place held ≡ Some base = subst (λ (k : Board). base_at c.args.place k ≡ Some base) (ap (λ (h : HeldBoard). h.board) c.self.view_is) there in
    let valid : IsBoard held = subst IsBoard (ap (λ (h : HeldBoard). h.board) c.self.view_is) c.bases.ensures.board in
    ap (option_map message_outline) (none_whole (numbered base.conference.slots c.args.number) c.in-None.ensures ∙ sym (message_here held c.args.place c.args.number (Some base) valid here))
