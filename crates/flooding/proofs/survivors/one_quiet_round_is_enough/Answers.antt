use Rattle.flooding.proofs.Agreeing.{one_quiet_round_is_enough_lem}
use Rattle.flooding.proofs.survivors.one_quiet_round_is_enough.Goals as goal

pub returns : goal.returns
returns g c = one_quiet_round_is_enough_lem g.J.Joining.Meaning
