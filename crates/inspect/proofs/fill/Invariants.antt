use Rattle.std.proofs.Common.{◌-◌, ◌≤◌}
use Rattle.inspect.proofs.fill.Given as goal

abbrev pub invariant-loop-filled : goal.invariant-loop-filled
invariant-loop-filled g l = l.filled ≤ 4097

abbrev pub decreases-loop-filled : goal.decreases-loop-filled
decreases-loop-filled g l = 4097 - l.filled
