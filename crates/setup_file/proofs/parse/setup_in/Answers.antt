use Rattle.std.proofs.Common.{[], ◌∷◌, refl, sym, subst}
use Rattle.std.proofs.lemmas.Result.{err_from_is_err_and}
use Rattle.std.specs.Str.Lines.{lines}
use Rattle.text_fields.proofs.Numbered.{lines_numbered}
use Rattle.setup_file.specs.Reads.{SetupLinesRead}
use Rattle.setup_file.proofs.KeptLines.{kept_start}
use Rattle.setup_file.proofs.Readings.{setup_reads}
use Rattle.setup_file.proofs.parse.setup_in.Goals as goal

pub head_of-requires : goal.head_of-requires
head_of-requires c = lines_numbered c.args.bytes.now c.requires

pub returns-in_err-head : goal.returns-in_err-head
returns-in_err-head c =
    let p = err_from_is_err_and c.from_residual.result c.from_residual.ensures.1 in
    let all = lines c.args.bytes.now in
    rw (p.1, p.2) (c.in_err-head.ensures.head all (kept_start all))

pub returns-in_err-zones : goal.returns-in_err-zones
returns-in_err-zones c =
    let p = err_from_is_err_and c.from_residual-in_err-zones.result c.from_residual-in_err-zones.ensures.1 in
    let all = lines c.args.bytes.now in
    let t = c.in_ok-head.ensures.head all (kept_start all) in
    rw (p.1, p.2) (c.in_err-zones.ensures.zones all (t.0 ∷ t.1 ∷ t.2 ∷ t.3 ∷ t.4 ∷ t.5 ∷ []) refl t.7)

pub returns-in_err-conferences : goal.returns-in_err-conferences
returns-in_err-conferences c =
    let p = err_from_is_err_and c.from_residual-in_err-conferences.result c.from_residual-in_err-conferences.ensures.1 in
    let all = lines c.args.bytes.now in
    let t = c.in_ok-head.ensures.head all (kept_start all) in
    let z = c.in_ok-zones.ensures.zones all (t.0 ∷ t.1 ∷ t.2 ∷ t.3 ∷ t.4 ∷ t.5 ∷ []) refl t.7 in
    rw (p.1, p.2) (c.in_err-conferences.ensures all (t.0 ∷ t.1 ∷ t.2 ∷ t.3 ∷ t.4 ∷ t.5 ∷ z.0 ∷ []) refl z.2)

pub of-requires : goal.of-requires
of-requires c =
    let all = lines c.args.bytes.now in
    let t = c.in_ok-head.ensures.head all (kept_start all) in
    let z = c.in_ok-zones.ensures.zones all (t.0 ∷ t.1 ∷ t.2 ∷ t.3 ∷ t.4 ∷ t.5 ∷ []) refl t.7 in
    let q = c.in_ok-conferences.ensures all (t.0 ∷ t.1 ∷ t.2 ∷ t.3 ∷ t.4 ∷ t.5 ∷ z.0 ∷ []) refl z.2 in
    (setup_reads all (record { board = t.0; city = t.1; phone = t.2; sysop = t.3; bbsid = t.4; serial = t.5; zones = z.0 }) q.own q.number c.in_ok-head.head c.in_ok-zones.zones c.in_ok-conferences.conferences c.in_ok-fields.fields
    q.whole q.some t.6 z.1 q.are
    c.in_ok-fields.ensures).valid

pub returns : goal.returns
returns c =
    let all = lines c.args.bytes.now in
    let t = c.in_ok-head.ensures.head all (kept_start all) in
    let z = c.in_ok-zones.ensures.zones all (t.0 ∷ t.1 ∷ t.2 ∷ t.3 ∷ t.4 ∷ t.5 ∷ []) refl t.7 in
    let q = c.in_ok-conferences.ensures all (t.0 ∷ t.1 ∷ t.2 ∷ t.3 ∷ t.4 ∷ t.5 ∷ z.0 ∷ []) refl z.2 in
    subst (SetupLinesRead all) (sym c.of.ensures)
    (setup_reads all (record { board = t.0; city = t.1; phone = t.2; sysop = t.3; bbsid = t.4; serial = t.5; zones = z.0 }) q.own q.number c.in_ok-head.head c.in_ok-zones.zones c.in_ok-conferences.conferences c.in_ok-fields.fields
    q.whole q.some t.6 z.1 q.are
    c.in_ok-fields.ensures)
