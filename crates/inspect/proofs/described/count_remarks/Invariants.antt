use Rattle.std.proofs.Common.{◌≤◌}
use Rattle.inspect.proofs.described.count_remarks.Given as goal

abbrev pub invariant-loop : goal.invariant-loop
invariant-loop l = l.remarks ≤ l.counter
