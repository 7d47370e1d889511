use Rattle.std.proofs.Common.{◌≡◌}
use Rattle.carrier.specs.Losses.{up_after}
use Rattle.carrier.specs.Sets.{those}
use Rattle.script.specs.Fates.{fates}
use Rattle.script.proofs.scripted_carrier.staying.Given as goal

abbrev pub invariant-loop-console : goal.invariant-loop-console
invariant-loop-console l = l.up.bits ≡ those l.console (λ c. up_after l.round (fates l.table.entries c))
