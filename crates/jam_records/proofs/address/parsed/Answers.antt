use Rattle.std.proofs.Common.{◌≡◌, ◌∙◌, sym, ap, subst, arith, Ok}
use Rattle.std.specs.Result.{result_ok}
use Rattle.std.specs.Str.{IsUtf8}
use Rattle.std.proofs.lemmas.Fmt.{parse-decimal}
use Rattle.jam_records.proofs.AddressLemmas.{utf8_decimal}
use Rattle.jam_records.proofs.address.parsed.Goals as goal

pub returns-in_default : goal.returns-in_default
returns-in_default c n small written = absurd (c.in_default.ensures.cases.0 (subst IsUtf8 (sym written) (utf8_decimal n (omega arith))))

pub returns : goal.returns
returns c n small written =
    let is : c.parse.result ≡ Ok n = parse-decimal 16 n _ _ small (omega arith) (c.in-Ok.ensures.cases.0 ∙ written) c.parse.ensures.value.0 in
    c.ok.ensures.value ∙ ap result_ok is
