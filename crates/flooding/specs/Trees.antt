-- Joins in some order and grouping: binary trees with a console at each leaf.
use Rattle.std.specs.Prelude.{◌≡◌, ℕ, bit_or}
use Rattle.carrier.specs.Sets.{Member, alone}
use Rattle.joining.specs.Semilattice.{Semilattice}

pub data Tree : Type 0 where
  leaf : ℕ → Tree
  node : Tree → Tree → Tree

-- the set of the consoles at its leaves, each of which may stand there more than once
unfoldable pub leaves : Tree → ℕ
leaves (leaf c) = alone c
leaves (node s t) = bit_or (leaves s) (leaves t)

-- its value over what each console has: what stands at the leaves, joined as the tree is grouped
unfoldable pub value_over : {X : Type 0} → (X → X → X) → (ℕ → X) → Tree → X
value_over join has (leaf c) = has c
value_over join has (node s t) = join (value_over join has s) (value_over join has t)

-- Order, grouping and repetition do not matter: over any operation with the three laws, two trees with the same set of
-- leaves have the same value.
abbrev pub SameLeavesSameValue : Type 0 → Type 0
SameLeavesSameValue M =
    (join : M → M → M) → Semilattice join → (has : ℕ → M) (s t : Tree)
    → leaves s ≡ leaves t → value_over join has s ≡ value_over join has t

-- Every set that is not empty is the leaves of some tree, so no statement about all trees over such a set is empty.
abbrev pub EverySetHasATree : Type 0
EverySetHasATree = (s c : ℕ) → Member c s → (t : Tree) × (leaves t ≡ s)
