use Rattle.std.proofs.Common.{sym, ◌∙◌, arith}
use Rattle.script.proofs.Plans.{card_taken}
use Rattle.script.proofs.plan.Plan.deal.Goals as goal

pub returns : goal.returns
returns c = λ l h none.
    let (is, read) = c.in_ok-card.ensures in
    card_taken c.args.self l c.args.entry _ h none (omega arith) (sym c.is_some.ensures ∙ c.if-is_some.false) is read
