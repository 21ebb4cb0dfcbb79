use Rattle.std.proofs.Common.{rules, ◌≡◌, ℕ, List, ◌++◌, length, take, drop, ap, ◌∙◌, arith}
use Rattle.std.proofs.Math.Seq.{take-append_seam}
use Rattle.door_outside.specs.Disk.{read_into}
use Rattle.door_outside.specs.File.{jdt_file}
use Rattle.mail_board.proofs.BodyLaws.{read_whole}
use Rattle.mail_board.proofs.bodies.read_body.Goals as goal

pub returns-clause-body : goal.returns-clause-body
returns-clause-body g c = λ tells within.
    let file : List ℕ = (g.H.Host.disk c.args.host.now).files (jdt_file c.args.place) in
    let buf : List ℕ = c.deref_mut.result.now in
    let long : length buf ≡ c.args.span.len = search rules in
    let read : c.read_at.new.buf ≡ read_into file c.args.span.at buf = c.in_ok-count.ensures.bytes tells ∙ ap (λ (id : ℕ). read_into ((g.H.Host.disk c.args.host.now).files id) c.args.span.at buf) c.jdt.ensures in
    let size : c.in_ok-bytes.bytes.len ≡ length c.read_at.new.buf = search rules in
    let text : c.from_vec.result ≡ c.read_at.new.buf =
    c.from_vec.ensures ∙ (ap (λ (n : ℕ). take n (c.read_at.new.buf ++ drop (length c.read_at.new.buf) c.in_ok-bytes.bytes.items)) size ∙ take-append_seam c.read_at.new.buf (drop (length c.read_at.new.buf) c.in_ok-bytes.bytes.items)) in
    text ∙ (read ∙ (read_whole file c.args.span.at buf (omega (arith, within, long)) ∙ ap (λ (n : ℕ). take n (drop c.args.span.at file)) long))
