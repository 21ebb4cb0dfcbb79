use Rattle.std.proofs.Common.{◌≡◌, min, ℕ, ◌+◌, ◌*◌, length, sym, ap, ◌∙◌, arith}
use Rattle.board_changes.specs.Changed.{new_user, with_member}
use Rattle.board_changes.specs.Enrolling.{joined_count as joined_count_of}
use Rattle.board_changes.proofs.UserSizes.{member_size, new_length}
use Rattle.board_layout.proofs.BoardLookups.{conferences_count}
use Rattle.board_layout.specs.Board.{Board}
use Rattle.board_layout.specs.Layout.{board_size}
use Rattle.board_ledger.specs.declared.ledger.Ledger.{Ledger}
use Rattle.board_ledger.specs.declared.user.User.{User}
use Rattle.board_ledger.specs.setup_file.declared.fields.SetupFields.{SetupFields}
use Rattle.board_changes.proofs.size.size_with_user.Goals as goal

pub returns : goal.returns
returns c =
    let b : Board = c.args.board.now in
    let count : ℕ = length b.ledger.setup.conferences in
    let u : User = new_user c.args.name.now c.args.net c.args.members in
    let ok = c.ledger.ensures.board in
    let len : c.len-count.result ≡ count = c.len-count.ensures ∙ ap (λ (s : SetupFields). length s.conferences) c.fields.ensures.fields ∙ ap (λ (l : Ledger). length l.setup.conferences) c.ledger.ensures.ledger in
    let joined : c.joined_count-readers.result ≡ joined_count_of c.args.members 0 (length b.conferences) =
    c.joined_count-readers.ensures.count ∙ ap (joined_count_of c.args.members 0) (len ∙ sym (conferences_count b ok)) in
    let total : c.size.result + 16 * c.joined_count-readers.result + (31 + 16 * c.len-count.result) + length c.args.name.now ≡ board_size (with_member u b) =
    omega (arith, c.size.ensures, joined, len, member_size b u ok, new_length count c.args.name.now c.args.net c.args.members) in
    c.saturating_add.ensures ∙ ap (λ (n : ℕ). min n 18446744073709551615) total
