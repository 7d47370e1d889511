-- Unions of sets are joins, and one set lies below another where it lies within it.
use Rattle.std.proofs.Common.{◌≡◌, ℕ, true, subst, inl, inr, ⊎_elim, arith}
use lib.Bits.{bit_or, or_comm, or_self}
use Rattle.std.proofs.lemmas.Bool.{eqb-true, eq-eqb}
use Rattle.std.proofs.lemmas.Nat.Bits.{bit_at_or, same_from_bits}
use Rattle.carrier.specs.Sets.{Member, Members, Within, holds}
use Rattle.carrier.specs.SetsLemmas.{or_members, same_members}
use Rattle.joining.specs.Semilattice.{Semilattice}
use Rattle.flooding.proofs.Joins.{Below}

pub held : (s c : ℕ) → holds s c ≡ true → Member c s
held s c e = eqb-true _ _ e

pub holding : (s c : ℕ) → Member c s → holds s c ≡ true
holding s c m = eq-eqb _ _ m

-- each member of s is one of itself, to compare a set with another by members
itself : (s : ℕ) → Members s (λ c. Member c s)
itself s c = ((λ m. m), (λ m. m))

or_grouping : (s t u : ℕ) → bit_or (bit_or s t) u ≡ bit_or s (bit_or t u)
or_grouping s t u = same_from_bits _ _ (λ c. omega (arith, bit_at_or (bit_or s t) u c, bit_at_or s t c, bit_at_or s (bit_or t u) c, bit_at_or t u c))

pub union_laws : Semilattice bit_or
union_laws = record { order = or_comm; grouping = or_grouping; itself = or_self }

pub below_within : (s t : ℕ) → Below bit_or s t → Within s t
below_within s t e c m = subst (Member c) e ((or_members s t c).1 (inl m))

pub within_below : (s t : ℕ) → Within s t → Below bit_or s t
within_below s t w = same_members _ _ (or_members s t) (itself t) (λ c m. ⊎_elim (w c) (λ in_t. in_t) m) (λ c m. inr m)

pub same_within : (s t : ℕ) → Within s t → Within t s → s ≡ t
same_within s t st ts = same_members s t (itself s) (itself t) st ts
