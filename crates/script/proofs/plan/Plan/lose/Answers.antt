use Rattle.script.proofs.Plans.{crash_taken}
use Rattle.script.proofs.plan.Plan.lose.Goals as goal

pub returns : goal.returns
returns c = λ l h. crash_taken c.args.self l c.args.entry _ h (c.in_ok-check.ensures.rules l h) c.set.ensures
