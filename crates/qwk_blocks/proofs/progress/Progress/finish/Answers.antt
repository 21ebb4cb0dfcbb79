use Rattle.std.proofs.Common.{inl, inr, arith}
use Rattle.qwk_blocks.proofs.Stream.{awaits_known, header_whole, header_cut, notice_cut, text_cut, bad_count}
use Rattle.qwk_blocks.proofs.progress.Progress.finish.Goals as goal

pub returns-in-Notice : goal.returns-in-Notice
returns-in-Notice c = λ g s short len h. elim c.in-Notice.is [
  | inl is ↦ notice_cut c.args.self.front c.args.self.messages g s short (awaits_known c.args.self _ g s is h)
  | inr is ↦ text_cut c.args.self.front c.args.self.messages g is.0 s short (awaits_known c.args.self _ g s is.1 h)
]

pub returns-in-Header : goal.returns-in-Header
returns-in-Header c = λ g s short len h. header_cut c.args.self.front c.args.self.messages g s short (awaits_known c.args.self _ g s c.in-Header.is h) (omega arith)

pub returns-in-Header-2 : goal.returns-in-Header-2
returns-in-Header-2 c = λ g s short len h. header_whole c.args.self.front c.args.self.messages g s (awaits_known c.args.self _ g s c.in-Header.is h) (omega arith)

pub returns-in-Nothing : goal.returns-in-Nothing
returns-in-Nothing c = λ g s short len h. bad_count c.args.self.front c.args.self.messages g s (awaits_known c.args.self _ g s c.in-Nothing.is h)
