-- What the library's lemmas on the bits of a number leave out.
use Rattle.std.specs.Prelude.{◌≡◌, ℕ, zero, suc, ◌+◌, ◌-◌, ◌*◌, ◌/◌, ◌%◌, ◌^◌, ◌<◌}
use Rattle.std.proofs.Common.{sym, ap, ◌∙◌, arith}
use Rattle.std.proofs.Math.Pow.{high}
use Rattle.std.proofs.Math.Nat.{two-pow-succ}
use Rattle.std.proofs.lemmas.Nat.Bits.{bit_at_lowest, bit_at-suc}
use Rattle.carrier.specs.Sets.{bit}

pub bit_on_top : (k a r : ℕ) → r < 2 ^ k → bit (a * 2 ^ k + r) k ≡ a % 2
bit_on_top k a r h = ap (λ q. q % 2) (high a k h)

-- the digits that a number of k digits lacks
pub bit_not : (k t c : ℕ) → t < 2 ^ k → c < k → bit (2 ^ k - 1 - t) c ≡ 1 - bit t c
bit_not zero t c h lt = absurd (omega arith)
bit_not (suc k) t zero h lt =
    bit_at_lowest _ ∙ omega (arith, two-pow-succ k, bit_at_lowest t)
bit_not (suc k) t (suc c) h lt =
    bit_at-suc _ c ∙ ap (λ q. bit q c) (omega (arith, two-pow-succ k))
    ∙ bit_not k (t / 2) c (omega (arith, two-pow-succ k)) (omega arith) ∙ ap (λ b. 1 - b) (sym (bit_at-suc t c))
