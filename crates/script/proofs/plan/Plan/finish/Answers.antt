use Rattle.std.proofs.Common.{sym, ap}
use Rattle.script.specs.Rules.{first_broken, missing_card}
use Rattle.script.proofs.Plans.{end_taken}
use Rattle.script.proofs.plan.Plan.finish.Goals as goal

pub returns-in-None : goal.returns-in-None
returns-in-None c = λ l h. end_taken c.args.self l h (ap (λ o. first_broken (missing_card o)) (sym (c.in-None.ensures l h)))
