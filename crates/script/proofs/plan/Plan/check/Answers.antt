use Rattle.std.proofs.Common.{◌≡◌, ◌^◌, min, not, leb, sym, ap, ◌∙◌, arith}
use Rattle.carrier.specs.Sets.{everybody}
use Rattle.std.proofs.lemmas.Bool.Decides.{nat_tests}
use Rattle.script.specs.Fates.{fate_of}
use Rattle.script.specs.Listing.{Listing, crash_for, has_crash}
use Rattle.script.specs.Plans.{Holds}
use Rattle.script.specs.Rules.{under_way}
use Rattle.script.proofs.Plans.{hearers_tested, lost_listed}
use Rattle.script.proofs.plan.Plan.check.Goals as goal
use Rattle.script.proofs.plan.Plan.check.Goals.{After-is_subset, After-is_some}

-- what the tests of the hearers and of the entry decide
heard : (c : After-is_subset) (l : Listing) → Holds c.args.self.now (under_way l) → leb (2 ^ l.n) c.args.entry.hearers.bits ≡ not c.is_subset.result
heard c l h =
    let ring : min c.consoles-2.result 16 ≡ l.n = omega (arith, c.consoles-2.ensures, h.sizes.0, h.content.sizes.1) in
    hearers_tested l.n _ _ _ (c.all_of.ensures.number ∙ ap everybody ring) c.is_subset.ensures

listed : (c : After-is_some) (l : Listing) → Holds c.args.self.now (under_way l) → has_crash c.args.entry.console l.crashes ≡ c.is_some.result
listed c l h = sym (c.is_some.ensures ∙ lost_listed c.entry.result (crash_for c.args.entry.console l.crashes) (ap fate_of c.entry.ensures ∙ h.fate c.args.entry.console))

pub returns-then-not-is_subset-clause-rules : goal.returns-then-not-is_subset-clause-rules
returns-then-not-is_subset-clause-rules c = λ l h.
    let out = heard (goal.at.returns-then-not-is_subset-clause-rules c).After-is_subset l h in
    grind (arith, nat_tests)

pub returns-then-is_some-clause-rules : goal.returns-then-is_some-clause-rules
returns-then-is_some-clause-rules c = λ l h.
    let out = heard (goal.at.returns-then-is_some-clause-rules c).After-is_subset l h in
    let old = listed (goal.at.returns-then-is_some-clause-rules c).After-is_some l h in
    grind (arith, nat_tests)

pub returns-then-self-losses-clause-rules : goal.returns-then-self-losses-clause-rules
returns-then-self-losses-clause-rules c = λ l h.
    let out = heard (goal.at.returns-then-self-losses-clause-rules c).After-is_subset l h in
    let old = listed (goal.at.returns-then-self-losses-clause-rules c).After-is_some l h in
    let count = h.losses in
    grind (arith, nat_tests)

pub returns-clause-rules : goal.returns-clause-rules
returns-clause-rules c = λ l h.
    let out = heard (goal.at.returns-clause-rules c).After-is_subset l h in
    let old = listed (goal.at.returns-clause-rules c).After-is_some l h in
    let count = h.losses in
    grind (arith, nat_tests)
