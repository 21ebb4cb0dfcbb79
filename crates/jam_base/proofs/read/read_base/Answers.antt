use Rattle.std.proofs.Common.{◌≡◌, inl, inr, Ok, sym, ap, subst, ◌∙◌}
use Rattle.jam_writing.specs.jam_layout.Bare.{bare_of, filled}
use Rattle.jam_writing.specs.jam_layout.Valid.{IsConference}
use Rattle.jam_writing.specs.jam_layout.declared.bare.BareConference.{BareConference}
use Rattle.jam_writing.specs.jam_layout.declared.conference.ConferenceContents.{ConferenceContents}
use Rattle.jam_writing.proofs.jam_layout.BareLaws.{bare_filled}
use Rattle.jam_writing.proofs.jam_layout.OutlineLaws.{conference_outline}
use Rattle.jam_base.specs.Contents.{Contents}
use Rattle.jam_base.proofs.read.read_base.Goals as goal

pub linked-requires-clause-conference : goal.linked-requires-clause-conference
linked-requires-clause-conference c =
    let read = c.in_ok-bare.ensures.ok in
    subst (λ (k : ConferenceContents). IsConference c.args.shape.now k) (sym (ap filled read.bared ∙ bare_filled read.whole)) (conference_outline c.args.shape.now read.whole read.valid)

pub returns-clause-ok : goal.returns-clause-ok
returns-clause-ok c =
    let read = c.in_ok-bare.ensures.ok in
    record {
      whole = read.whole;
      shaped = ap (λ (k : Contents). k.shape) c.in_ok-linked.ensures;
      alike = ap (λ (k : Contents). k.conference) c.in_ok-linked.ensures ∙ (ap filled read.bared ∙ bare_filled read.whole);
      valid = read.valid;
      stored = read.stored;
    }

pub returns-clause-only_ok : goal.returns-clause-only_ok
returns-clause-only_ok c = λ k valid stored. elim (c.in_ok-bare.ensures.only_ok k valid stored) [
  | inl same ↦
      let is : c.in_ok-bare.bare ≡ bare_of k = cc same in
      inl (ap Ok (c.in_ok-linked.ensures ∙ (ap (λ (b : BareConference). record { shape = c.args.shape.now; conference = filled b }) is ∙ ap (λ (x : ConferenceContents). record { shape = c.args.shape.now; conference = x }) (bare_filled k))))
  | inr starved ↦ absurd (cc starved)
]
