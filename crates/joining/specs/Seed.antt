-- How seeds join.
use Rattle.std.specs.Prelude.{min}
use Rattle.joining.specs.declared.seed.Seed.{Seed}

-- the smaller remains
abbrev pub seed_join : Seed → Seed → Seed
seed_join x y = record { value = min x.value y.value }
