use Rattle.std.proofs.Common.{subst, arith}
use Rattle.std.proofs.lemmas.Result.{err_from_is_err_and}
use Rattle.script.specs.Reading.{Matters, here, behind}
use Rattle.script.proofs.Reading.{remark_at, said_no_remark}
use Rattle.script.proofs.reader.+matters.Goals as goal

pub returns-in_err-found : goal.returns-in_err-found
returns-in_err-found t c =
    let p = err_from_is_err_and c.from_residual.result c.from_residual.ensures.1 in
    rw (p.1, p.2) (here _ _ c.in_err-found.ensures.stands tt)

pub matters-requires : goal.matters-requires
matters-requires t c =
    let on = remark_at c.args.script.now (λ i. omega (arith, c.type_inv.script i)) _ _ _ c.in_ok-found.ensures.stands c.in-Remark.is in
    (omega (arith, on.nine_on, on.inside, c.decreases), tt)

pub returns-in-Remark : goal.returns-in-Remark
returns-in-Remark t c =
    let on = remark_at c.args.script.now (λ i. omega (arith, c.type_inv.script i)) _ _ _ c.in_ok-found.ensures.stands c.in-Remark.is in
    behind _ _ _ _ on.read (subst (λ k. Matters c.args.script.now k c.matters.result) on.nine_on c.matters.ensures)

pub returns-in_default : goal.returns-in_default
returns-in_default t c = here _ _ c.in_ok-found.ensures.stands (λ text. said_no_remark c.in_ok-found.found.command text c.in_default.not-Remark)
