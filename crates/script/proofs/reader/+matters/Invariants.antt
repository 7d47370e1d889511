use Rattle.std.proofs.Common.{◌-◌, length}
use Rattle.script.proofs.reader.+matters.Given as goal

abbrev pub decreases-matters : goal.decreases-matters
decreases-matters l = length l.script.now - l.place
