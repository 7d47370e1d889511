-- Heard sets along the rounds, and what the value beside one is.
use Rattle.std.specs.Prelude.{◌≡◌, ℕ, ◌<◌, ◌≤◌}
use Rattle.carrier.specs.Losses.{quiet}
use Rattle.carrier.specs.Pattern.{Pattern, RoundRule}
use Rattle.carrier.specs.Sets.{Member, Within, everybody}
use Rattle.carrier.specs.Sizes.{InRange}
use Rattle.joining.specs.Semilattice.{Semilattice}
use Rattle.flooding.specs.Rounds.{Record, join_records, rounds, own, heard_after}
use Rattle.flooding.specs.Trees.{Tree, leaves, value_over}

-- the record's heard set is s, and its value is the join, in any order and grouping, of what exactly the consoles of s propose
pub record JoinOver {M : Type 0} (join : M → M → M) (proposal : ℕ → M) (s : ℕ) (x : Record M) : Type 0 where
  pub heard_is : x.heard ≡ s
  pub value_is : (t : Tree) → leaves t ≡ s → x.value ≡ value_over join proposal t

-- Along any number of rounds the value of a console is the join over its heard set: where each console of the ring starts
-- with its own proposal and itself alone, each holds after r rounds the join over the set that the rounds give it.
abbrev pub ValueIsJoinOverHeard : Type 0 → Type 0
ValueIsJoinOverHeard M =
    (join : M → M → M) → Semilattice join → (p : Pattern) (proposal : ℕ → M) (start : ℕ → Record M)
    → ((i : ℕ) → i < p.n → start i ≡ own proposal i)
    → (r i : ℕ) → i < p.n → JoinOver join proposal (heard_after p r i) (rounds (join_records join) p start r i)

-- From round 1 on, the heard set of a console that is up contains every console that is up.
abbrev pub SurvivorsAreHeard : Type 0
SurvivorsAreHeard =
    (p : Pattern) → RoundRule p → (r : ℕ) → 1 ≤ r → (i : ℕ) → Member i (p.up r) → Within (p.up r) (heard_after p r i)

-- Heard sets only grow.
abbrev pub HeardSetsGrow : Type 0
HeardSetsGrow = (p : Pattern) (i r s : ℕ) → r ≤ s → Within (heard_after p r i) (heard_after p s i)

-- The heard set of a console of the ring names only consoles of the ring.
abbrev pub HeardSetsNameTheRing : Type 0
HeardSetsNameTheRing = (p : Pattern) (r i : ℕ) → i < p.n → (c : ℕ) → Member c (heard_after p r i) → c < p.n

-- On a quiet ring of any size every heard set is full after one round.
abbrev pub QuietRingHearsAll : Type 0
QuietRingHearsAll = (n f : ℕ) → InRange n f → (i : ℕ) → i < n → heard_after (quiet n f) 1 i ≡ everybody n
