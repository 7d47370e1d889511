use Rattle.std.proofs.Common.{◌≡◌, ℕ, ◌+◌, ◌*◌, ◌^◌, ◌<◌, Bool, true, false, cond, sym, ap, ◌∙◌, add-one, arith}
use Rattle.carrier.specs.Losses.{up_after}
use Rattle.carrier.specs.Sets.{Added, those}
use Rattle.carrier.specs.SetsLemmas.{those_below}
use Rattle.std.proofs.lemmas.Bool.Decides.{nat_tests}
use Rattle.std.proofs.lemmas.Nat.{or_comm, or_shifted}
use Rattle.script.specs.Fates.{fates, fate_of}
use Rattle.script.proofs.scripted_carrier.staying.Goals as goal
use Rattle.script.proofs.scripted_carrier.staying.Goals.{then-up_after, else-up_after}

-- one console more
those_more : (n : ℕ) (test : ℕ → Bool) → those (n + 1) test ≡ those n test + cond (test n) (2 ^ n) 0
unfolding those
those_more n test = ap (λ k. those k test) (add-one n)

those_with : (n : ℕ) (test : ℕ → Bool) (s r : ℕ) → n < 16 → s ≡ those n test → test n ≡ true → Added s n r → r ≡ those (n + 1) test
those_with n test s r few same passes added =
    let joined = or_shifted 1 n (those n test) (those_below n test) in grind (arith, nat_tests, those_more n test, added.number, or_comm s (1 * 2 ^ n))

those_without : (n : ℕ) (test : ℕ → Bool) → test n ≡ false → those n test ≡ those (n + 1) test
those_without n test fails = grind (arith, nat_tests, those_more n test)

pub loop-console-preserved : goal.loop-console-preserved
loop-console-preserved c =
    let n = c.loop-console.console in
    let test : ℕ → Bool = λ k. up_after c.args.round (fates c.args.table.now.entries k) in
    let tested : c.up_after.result ≡ test n = c.up_after.ensures ∙ ap (λ x. up_after c.args.round (fate_of x)) c.entry.ensures in
    elim c.if-up_after.branch [
      | then-up_after w ↦ ap (λ x. x.bits) w.up-is ∙ those_with n test _ _ (omega arith) c.loop-console.invariant (sym tested ∙ w.if-up_after.true) w.with-up.ensures
      | else-up_after w ↦ ap (λ x. x.bits) w.up-is ∙ c.loop-console.invariant ∙ those_without n test (sym tested ∙ w.if-up_after.false)
    ]
