-- The three laws of a joining.
use Rattle.std.specs.Prelude.{◌≡◌}

pub record Semilattice {M : Type 0} (join : M → M → M) : Type 0 where
  pub order : (x y : M) → join x y ≡ join y x
  pub grouping : (x y z : M) → join (join x y) z ≡ join x (join y z)
  pub itself : (x : M) → join x x ≡ x
