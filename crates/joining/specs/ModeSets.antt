-- A set of modes is known by its number, so the laws of its join are those of the digits that numbers share.
use Rattle.std.specs.Prelude.{ℕ}
use Rattle.std.specs.Int.Bits.{and_self}
use Rattle.std.proofs.Common.{ap}
use Rattle.std.proofs.lemmas.Nat.{and_comm, and_assoc}
use Rattle.joining.specs.Modes.{modes_join}
use Rattle.joining.specs.Semilattice.{Semilattice}
use Rattle.joining.specs.declared.modes.Modes.{Modes}

-- the set of modes of a number
abbrev pub modes : ℕ → Modes
modes n = record { set = n }

pub modes_laws : Semilattice modes_join
modes_laws = record {
  order = λ x y. ap modes (and_comm x.set y.set);
  grouping = λ x y z. ap modes (and_assoc z.set x.set y.set);
  itself = λ x. ap modes (and_self x.set);
}
