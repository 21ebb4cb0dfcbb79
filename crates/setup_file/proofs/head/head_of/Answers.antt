use Rattle.std.proofs.Common.{[], ◌∷◌, refl}
use Rattle.std.proofs.lemmas.Result.{err_from_is_err_and}
use Rattle.setup_file.proofs.head.head_of.Goals as goal

pub returns-in_err-board-clause-head : goal.returns-in_err-board-clause-head
returns-in_err-board-clause-head c = λ all k.
    let p = err_from_is_err_and c.from_residual.result c.from_residual.ensures.1 in
    rw (p.1, p.2) (c.in_err-board.ensures.value all [] refl k)

pub returns-in_err-city-clause-head : goal.returns-in_err-city-clause-head
returns-in_err-city-clause-head c = λ all k.
    let p = err_from_is_err_and c.from_residual-in_err-city.result c.from_residual-in_err-city.ensures.1 in
    let t0 = c.in_ok-board.ensures.value all [] refl k in
    rw (p.1, p.2) (c.in_err-city.ensures.value all (t0.0 ∷ []) refl t0.2)

pub returns-in_err-phone-clause-head : goal.returns-in_err-phone-clause-head
returns-in_err-phone-clause-head c = λ all k.
    let p = err_from_is_err_and c.from_residual-in_err-phone.result c.from_residual-in_err-phone.ensures.1 in
    let t0 = c.in_ok-board.ensures.value all [] refl k in
    let t1 = c.in_ok-city.ensures.value all (t0.0 ∷ []) refl t0.2 in
    rw (p.1, p.2) (c.in_err-phone.ensures.value all (t0.0 ∷ t1.0 ∷ []) refl t1.2)

pub returns-in_err-sysop-clause-head : goal.returns-in_err-sysop-clause-head
returns-in_err-sysop-clause-head c = λ all k.
    let p = err_from_is_err_and c.from_residual-in_err-sysop.result c.from_residual-in_err-sysop.ensures.1 in
    let t0 = c.in_ok-board.ensures.value all [] refl k in
    let t1 = c.in_ok-city.ensures.value all (t0.0 ∷ []) refl t0.2 in
    let t2 = c.in_ok-phone.ensures.value all (t0.0 ∷ t1.0 ∷ []) refl t1.2 in
    rw (p.1, p.2) (c.in_err-sysop.ensures.value all (t0.0 ∷ t1.0 ∷ t2.0 ∷ []) refl t2.2)

pub returns-in_err-bbsid-clause-head : goal.returns-in_err-bbsid-clause-head
returns-in_err-bbsid-clause-head c = λ all k.
    let p = err_from_is_err_and c.from_residual-in_err-bbsid.result c.from_residual-in_err-bbsid.ensures.1 in
    let t0 = c.in_ok-board.ensures.value all [] refl k in
    let t1 = c.in_ok-city.ensures.value all (t0.0 ∷ []) refl t0.2 in
    let t2 = c.in_ok-phone.ensures.value all (t0.0 ∷ t1.0 ∷ []) refl t1.2 in
    let t3 = c.in_ok-sysop.ensures.value all (t0.0 ∷ t1.0 ∷ t2.0 ∷ []) refl t2.2 in
    rw (p.1, p.2) (c.in_err-bbsid.ensures.value all (t0.0 ∷ t1.0 ∷ t2.0 ∷ t3.0 ∷ []) refl t3.2)

pub returns-in_err-serial-clause-head : goal.returns-in_err-serial-clause-head
returns-in_err-serial-clause-head c = λ all k.
    let p = err_from_is_err_and c.from_residual-in_err-serial.result c.from_residual-in_err-serial.ensures.1 in
    let t0 = c.in_ok-board.ensures.value all [] refl k in
    let t1 = c.in_ok-city.ensures.value all (t0.0 ∷ []) refl t0.2 in
    let t2 = c.in_ok-phone.ensures.value all (t0.0 ∷ t1.0 ∷ []) refl t1.2 in
    let t3 = c.in_ok-sysop.ensures.value all (t0.0 ∷ t1.0 ∷ t2.0 ∷ []) refl t2.2 in
    let t4 = c.in_ok-bbsid.ensures.value all (t0.0 ∷ t1.0 ∷ t2.0 ∷ t3.0 ∷ []) refl t3.2 in
    rw (p.1, p.2) (c.in_err-serial.ensures.value all (t0.0 ∷ t1.0 ∷ t2.0 ∷ t3.0 ∷ t4.0 ∷ []) refl t4.2)

pub returns-clause-head : goal.returns-clause-head
returns-clause-head c = λ all k.
    let t0 = c.in_ok-board.ensures.value all [] refl k in
    let t1 = c.in_ok-city.ensures.value all (t0.0 ∷ []) refl t0.2 in
    let t2 = c.in_ok-phone.ensures.value all (t0.0 ∷ t1.0 ∷ []) refl t1.2 in
    let t3 = c.in_ok-sysop.ensures.value all (t0.0 ∷ t1.0 ∷ t2.0 ∷ []) refl t2.2 in
    let t4 = c.in_ok-bbsid.ensures.value all (t0.0 ∷ t1.0 ∷ t2.0 ∷ t3.0 ∷ []) refl t3.2 in
    let t5 = c.in_ok-serial.ensures.value all (t0.0 ∷ t1.0 ∷ t2.0 ∷ t3.0 ∷ t4.0 ∷ []) refl t4.2 in
    (t0.0, t1.0, t2.0, t3.0, t4.0, t5.0, record { board = t0.1; city = t1.1; phone = t2.1; sysop = t3.1; bbsid = t4.1; serial = t5.1 }, t5.2)
