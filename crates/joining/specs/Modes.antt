-- How sets of link modes join.
use Rattle.std.specs.Prelude.{bit_and}
use Rattle.joining.specs.declared.modes.Modes.{Modes}

-- what both have remains
abbrev pub modes_join : Modes → Modes → Modes
modes_join x y = record { set = bit_and x.set y.set }
