use Rattle.std.proofs.Common.{◌≡◌, true, false, ◌∙◌, rules, arith, tests}
use Rattle.std.proofs.lemmas.Iterator.{first_from_Range}
use Rattle.script.specs.Listing.{has_card}
use Rattle.script.proofs.Content.{searched}
use Rattle.script.proofs.Plans.{dealt_listed}
use Rattle.script.proofs.plan.Plan.uncarded.Goals as goal

pub returns : goal.returns
returns c = λ l h.
    searched l.n l.cards _ _ _
    (first_from_Range _ _ _ _ (λ k. has_card k l.cards ≡ false) (λ k. has_card k l.cards ≡ true) c.find.ensures.ran
    (λ x q k. let listed = dealt_listed _ _ (h.cards x) in grind (arith, tests))
    (λ x q k. let listed = dealt_listed _ _ (h.cards x) in (search rules, grind (arith, tests))))
    (omega arith) (c.consoles.ensures ∙ h.sizes.0)
