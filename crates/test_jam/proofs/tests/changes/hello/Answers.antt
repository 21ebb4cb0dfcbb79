use Rattle.std.proofs.Common.{◌≡◌, ◌-◌, List, ℕ, inl, inr, length, refl, sym, ap, subst, arith}
use Rattle.std.specs.Prelude.{All, IsTrue, slice_index}
use Rattle.std.proofs.lemmas.List.Elements.{All-nil}
use Rattle.byte_lists.specs.Byte.{IsByte}
use Rattle.jam_layout.specs.Fields.{is_text}
use Rattle.jam_layout.specs.Messages.{EmptyOr}
use Rattle.test_jam.proofs.tests.changes.hello.Goals as goal

pub returns : goal.returns
unfolding is_text
returns c = record {
  bytes = record {
    origin = subst (All IsByte) (sym c.new.ensures) (All-nil IsByte);
    destination = subst (All IsByte) (sym c.new-2.ensures) (All-nil IsByte);
    from = c.in_ok-text.ensures.bytes;
    to = c.in_ok-text-2.ensures.bytes;
    msgid = c.in_ok-text-4.ensures.bytes;
    replyid = c.in_ok-text-5.ensures.bytes;
    subject = c.in_ok-text-3.ensures.bytes;
    body = c.in_ok-text-6.ensures.bytes;
  };
  origin = inl (ap length c.new.ensures);
  destination = inl (ap length c.new-2.ensures);
  from = subst (λ (t : List ℕ). IsTrue (is_text 36 t)) (sym c.in_ok-text.ensures.same) refl;
  to = subst (λ (t : List ℕ). IsTrue (is_text 36 t)) (sym c.in_ok-text-2.ensures.same) refl;
  msgid = subst (λ (t : List ℕ). IsTrue (is_text 80 t)) (sym c.in_ok-text-4.ensures.same) c.requires.msgid;
  replyid = subst (EmptyOr (is_text 80)) (sym c.in_ok-text-5.ensures.same) c.requires.replyid;
  subject = inr (subst (λ (t : List ℕ). IsTrue (is_text 72 t)) (sym c.in_ok-text-3.ensures.same) refl);
  body = omega (arith, ap length c.in_ok-text-6.ensures.same);
  ended = inr (subst (λ (t : List ℕ). slice_index t (length t - 1) ≡ 0x0D) (sym c.in_ok-text-6.ensures.same) refl);
  written = omega arith;
  received = omega arith;
  processed = omega arith;
  private = λ net. net;
}
