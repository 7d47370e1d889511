use Rattle.std.proofs.Common.{refl, arith}
use Rattle.std.proofs.lemmas.Result.{err_from_is_err_and}
use Rattle.script.proofs.Loads.{on_way_first, on_way_more, place_rises, stops_there, bytes_behind_end, read_to_end, still_open, at_end}
use Rattle.script.proofs.loader.read_all.Goals as goal

pub loop-at-init : goal.loop-at-init
loop-at-init c = on_way_first c.args.script.now _ c.requires c.opening.ensures refl refl

pub returns-in_err-at : goal.returns-in_err-at
returns-in_err-at c =
    let p = err_from_is_err_and c.from_residual.result c.from_residual.ensures.1 in
    let told = c.in_err-at.ensures c.loop-at.invariant.standing c.loop-at.invariant.holds in
    rw (p.1, p.2) (stops_there c.args.script.now (λ i. omega (arith, c.type_inv.script i)) c.loop-at.at c.loop-at.invariant (still_open c.loop-at.at.plan.phase c.loop-at-test.ensures) _ told.0 told.1 told.2)

pub loop-at-smaller : goal.loop-at-smaller
loop-at-smaller c =
    let told = c.in_ok-at.ensures c.loop-at.invariant.standing c.loop-at.invariant.holds in
    let rises = place_rises c.args.script.now (λ i. omega (arith, c.type_inv.script i)) c.loop-at.at c.loop-at.invariant (still_open c.loop-at.at.plan.phase c.loop-at-test.ensures) c.in_ok-at.at told in
    omega arith

pub loop-at-preserved : goal.loop-at-preserved
loop-at-preserved c =
    on_way_more c.args.script.now (λ i. omega (arith, c.type_inv.script i)) c.loop-at.at c.loop-at.invariant (still_open c.loop-at.at.plan.phase c.loop-at-test.ensures) c.in_ok-at.at
    (c.in_ok-at.ensures c.loop-at.invariant.standing c.loop-at.invariant.holds)

pub returns-then-at-script : goal.returns-then-at-script
returns-then-at-script c = bytes_behind_end c.args.script.now c.loop-at.at c.loop-at.invariant (at_end c.loop-at.at.plan.phase c.loop-at-test.ensures) (omega arith)

pub returns : goal.returns
returns c = read_to_end c.args.script.now c.loop-at.at c.loop-at.invariant (at_end c.loop-at.at.plan.phase c.loop-at-test.ensures) (omega arith)
