use Rattle.std.proofs.Common.{arith}
use Rattle.carrier.proofs.Sets.{lowest_bit}
use Rattle.carrier.proofs.set.ConsoleSet.lowest_from.Goals as goal

pub returns : goal.returns
returns c = lowest_bit _ _ _ _ c.all_of.ensures c.difference-rest.ensures (omega arith) (omega arith)
