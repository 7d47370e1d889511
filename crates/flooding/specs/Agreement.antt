-- Flooding: one round without a loss makes all that are up equal, and f + 1 rounds contain one.
use Rattle.std.specs.Prelude.{◌≡◌, ℕ, suc, ◌≤◌}
use Rattle.carrier.specs.Pattern.{Pattern, RoundRule}
use Rattle.carrier.specs.Sets.{Member, Within}
use Rattle.joining.specs.Semilattice.{Semilattice}
use Rattle.flooding.specs.Rounds.{Record, join_records, rounds, heard_after}

-- round r + 1 passes without a loss: everyone that was up before it is up after it
abbrev pub LosesNobody : Pattern → ℕ → Type 0
LosesNobody p r = Within (p.up r) (p.up (suc r))

-- any two consoles that are up after round r have the same
abbrev pub Agree : {X : Type 0} → Pattern → ℕ → (ℕ → X) → Type 0
Agree p r has = (i j : ℕ) → Member i (p.up r) → Member j (p.up r) → has i ≡ has j

-- after round r all that are up have equal heard sets; and whatever records the consoles started with, equal values too
pub record AllAgree {M : Type 0} (join : M → M → M) (p : Pattern) (r : ℕ) : Type 0 where
  pub heard_sets : Agree p r (heard_after p r)
  pub records : (start : ℕ → Record M) → Agree p r (rounds (join_records join) p start r)

-- One quiet round is enough: once a round passes without a loss, all that are up agree from then on.
abbrev pub OneQuietRoundIsEnough : Type 0 → Type 0
OneQuietRoundIsEnough M =
    (join : M → M → M) → Semilattice join → (p : Pattern) → RoundRule p
    → (q : ℕ) → LosesNobody p q → (r : ℕ) → suc q ≤ r → AllAgree join p r

-- One of the first f + 1 rounds passes without a loss.
abbrev pub SomeRoundLosesNobody : Type 0
SomeRoundLosesNobody = (p : Pattern) → RoundRule p → (q : ℕ) × (suc q ≤ suc p.f) × LosesNobody p q

-- After f + 1 rounds, and any number from there on, all that are up agree.
abbrev pub SurvivorsAgree : Type 0 → Type 0
SurvivorsAgree M =
    (join : M → M → M) → Semilattice join → (p : Pattern) → RoundRule p
    → (r : ℕ) → suc p.f ≤ r → AllAgree join p r
