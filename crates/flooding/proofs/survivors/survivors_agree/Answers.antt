use Rattle.flooding.proofs.Agreeing.{survivors_agree_lem}
use Rattle.flooding.proofs.survivors.survivors_agree.Goals as goal

pub returns : goal.returns
returns g c = survivors_agree_lem g.J.Joining.Meaning
