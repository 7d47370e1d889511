-- The sizes that a ring may have.
use Rattle.std.specs.Prelude.{◌≡◌, ℕ, ◌<◌, ◌≤◌, Ok, Err, Result}
use Rattle.refusal.specs.declared.content.ContentFault.{ContentFault}
use Rattle.refusal.specs.declared.content.ContentFault.TheVariants.{SizesOutOfRange}

-- 1 to 16 consoles, and fewer losses than consoles
abbrev pub InRange : ℕ → ℕ → Type 0
InRange n f = (1 ≤ n) × (n ≤ 16) × (f < n)

-- what is made from n and f has these sizes, which are in range; or they are not, and that is the refusal
abbrev pub MadeFrom : {C : Type 0} → ℕ → ℕ → (C → ℕ) → (C → ℕ) → Result C ContentFault → Type 0
MadeFrom n f consoles losses (Ok c) = InRange n f × (consoles c ≡ n) × (losses c ≡ f)
MadeFrom n f consoles losses (Err e) = (InRange n f → ⊥) × (e ≡ SizesOutOfRange)
