use Rattle.script.specs.Plans.{Filled}
use Rattle.script.proofs.loader.deal_out.Given as goal

abbrev pub invariant-loop-console : goal.invariant-loop-console
invariant-loop-console l = Filled l.dealt l.console l.initial.cards l.cards
