use Rattle.std.proofs.Common.{◌-◌, length}
use Rattle.script.proofs.Loads.{OnWay}
use Rattle.script.proofs.loader.read_all.Given as goal

abbrev pub invariant-loop-at : goal.invariant-loop-at
invariant-loop-at l = OnWay l.script l.at

abbrev pub decreases-loop-at : goal.decreases-loop-at
decreases-loop-at l = length l.script - l.at.place
