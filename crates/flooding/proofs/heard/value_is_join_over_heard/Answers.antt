use Rattle.flooding.proofs.HeardSets.{value_is_join_over_heard_lem}
use Rattle.flooding.proofs.heard.value_is_join_over_heard.Goals as goal

pub returns : goal.returns
returns g c = value_is_join_over_heard_lem g.J.Joining.Meaning
