-- How many consoles are in a set.
use Rattle.std.specs.Prelude.{◌≡◌, ℕ, zero, suc, ◌+◌, ◌%◌, ◌^◌, ◌<◌, ◌≤◌, Bool, cond, refl}
use Rattle.std.specs.Int.Count.{ones, ones_in}
use Rattle.std.proofs.Common.{pow_pos, ⊎_elim, sym, ap, ◌∙◌, mod-eq_of_lt, one-add, arith}
use Rattle.std.proofs.Math.Nat.{mod-one}
use Rattle.std.proofs.lemmas.Nat.{mod_below, ones_cat, mod-pow-add}
use Rattle.std.proofs.lemmas.Bool.{cases_lt}
use Rattle.std.proofs.lemmas.Nat.Bits.{bit_at-lt, bit_at_above}
use Rattle.carrier.specs.Sets.{bit, those, tally, count_below, size}
use Rattle.carrier.specs.SetsLemmas.{bit_of_those, those_below}

ones_of_digit : (b : ℕ) → b < 2 → ones b ≡ b
unfolding ones ones_in
ones_of_digit zero h = refl
ones_of_digit (suc zero) h = refl
ones_of_digit (suc (suc b)) h = absurd (omega arith)

ones_below : (s k : ℕ) → ones (s % 2 ^ k) ≡ count_below s k
unfolding count_below ones ones_in
ones_below s zero = ap ones (mod-one s)
ones_below s (suc k) =
    ap (λ j. ones (s % 2 ^ j)) (sym (one-add k)) ∙ ap ones (mod-pow-add s 1 k)
    ∙ ones_cat k (bit s k) (s % 2 ^ k) (mod_below s (2 ^ k) (pow_pos k))
    ∙ omega (arith, ones_of_digit (bit s k) (bit_at-lt s k), ones_below s k)

-- the number of digits set is the number of members
pub ones_size : (s : ℕ) → s < 2 ^ 16 → ones s ≡ size s
unfolding size
ones_size s h = ap ones (sym (mod-eq_of_lt h)) ∙ ones_below s 16

count_tested : (s k : ℕ) (test : ℕ → Bool) → ((c : ℕ) → c < k → bit s c ≡ cond (test c) 1 0) → count_below s k ≡ tally k test
unfolding count_below
count_tested s zero test each = refl
count_tested s (suc k) test each = omega (arith, count_tested s k test (λ c h. each c (omega arith)), each k (omega arith))

count_above : (s n k : ℕ) → s < 2 ^ n → n ≤ k → count_below s k ≡ count_below s n
unfolding count_below
count_above s n zero h le = let e : 0 ≡ n = omega arith in ap (count_below s) e
count_above s n (suc k) h le =
    ⊎_elim
    (λ lt. omega (arith, count_above s n k h (omega arith), bit_at_above s n k h (omega arith)))
    (λ ge. let e : suc k ≡ n = omega arith in ap (count_below s) e)
    (cases_lt n (suc k))

pub size_of_those : (n : ℕ) (test : ℕ → Bool) → n ≤ 16 → size (those n test) ≡ tally n test
unfolding size
size_of_those n test h =
    count_above (those n test) n 16 (those_below n test) h
    ∙ count_tested (those n test) n test (bit_of_those n test)

-- consoles each of which passes one of two tests
pub tally_either : (n : ℕ) (first second : ℕ → Bool) → ((c : ℕ) → 1 ≤ cond (first c) 1 0 + cond (second c) 1 0) → n ≤ tally n first + tally n second
tally_either zero first second each = omega arith
tally_either (suc n) first second each = omega (arith, tally_either n first second each, each n)
