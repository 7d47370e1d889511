use Rattle.flooding.proofs.Legality.{rounds_are_legal_lem}
use Rattle.flooding.proofs.legal.rounds_are_legal.Goals as goal

pub returns : goal.returns
returns g c = rounds_are_legal_lem g.J.Joining.Meaning
