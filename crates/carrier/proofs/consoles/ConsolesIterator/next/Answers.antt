use Rattle.std.proofs.Common.{◌≡◌, ◌+◌, ◌-◌, [], length, ◌∷◌, ap, ◌∙◌, arith}
use Rattle.carrier.specs.Rising.{members_among, still_to_come}
use Rattle.carrier.proofs.Rising.{none_among, first_among}
use Rattle.carrier.proofs.consoles.ConsolesIterator.next.Goals as goal

pub returns-in_err-console-clause-steps : goal.returns-in_err-console-clause-steps
returns-in_err-console-clause-steps c =
    let none : still_to_come c.args.self.now ≡ [] = none_among _ _ _ (λ k above below. c.in_err-console.ensures k above (omega arith)) in
    rw c.from_residual.ensures (none, none)

given : (c : goal.After-self-1) → still_to_come c.args.self.now ≡ c.in_ok-console.console ∷ still_to_come (record { set = c.args.self.now.set; start = c.in_ok-console.console + 1 })
given c =
    let s = c.args.self.now.set.bits in
    let start = c.args.self.now.start in
    let m = c.in_ok-console.console in
    let found = c.in_ok-console.ensures in
    let left : start + (16 - start) - (m + 1) ≡ 16 - (m + 1) = omega arith in
    first_among s start (16 - start) m found.0 (omega arith) found.2 found.3 ∙ ap (λ j. m ∷ members_among s (m + 1) j) left

pub returns-clause-steps : goal.returns-clause-steps
returns-clause-steps c = given c

pub returns-clause-goes : goal.returns-clause-goes
returns-clause-goes c = let e = given c in record { on = λ _. (tt, tt, omega (arith, ap length e)); keeps = tt; rests = λ _. tt }
