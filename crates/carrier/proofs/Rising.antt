-- What an iterator over a set gives next is the lowest member, and what is left are the members behind it.
use Rattle.std.proofs.Common.{◌≡◌, ℕ, zero, suc, ◌+◌, ◌-◌, ◌<◌, ◌≤◌, [], ◌∷◌, length, not, cond, refl, sym, ap, ◌∙◌, subst, ⊎_elim, arith}
use Rattle.std.proofs.lemmas.Bool.{cond-true, cond-false, cases_lt, eq-eqb, ne_eqb}
use Rattle.std.proofs.lemmas.List.Filters.{length-filter_both}
use Rattle.std.proofs.lemmas.List.FromFn.{length-range_with_len}
use Rattle.std.specs.List.{range_with_len}
use Rattle.carrier.specs.Sets.{bit, holds, Member}
use Rattle.carrier.specs.Rising.{members_among}

first_or_not : (s start k : ℕ)
    → members_among s start (suc k) ≡ cond (holds s start) (start ∷ members_among s (start + 1) k) (members_among s (start + 1) k)
unfolding members_among
first_or_not s start k = refl

pub few_among : (s start k : ℕ) → length (members_among s start k) ≤ k
unfolding members_among
few_among s start k =
    omega (arith, length-filter_both (holds s) (λ c. not (holds s c)) (λ c. refl) (range_with_len start k), length-range_with_len start k)

pub none_among : (s start k : ℕ) → ((c : ℕ) → start ≤ c → c < start + k → Member c s → ⊥) → members_among s start k ≡ []
unfolding members_among
none_among s start zero none = refl
none_among s start (suc k) none =
    first_or_not s start k
    ∙ cond-false _ _ _ (ne_eqb (bit s start) 1 (none start (omega arith) (omega arith)))
    ∙ none_among s (start + 1) k (λ c above below. none c (omega arith) (omega arith))

pub first_among : (s start k m : ℕ) → start ≤ m → m < start + k → Member m s → ((c : ℕ) → start ≤ c → c < m → Member c s → ⊥)
    → members_among s start k ≡ m ∷ members_among s (m + 1) (start + k - (m + 1))
first_among s start zero m above below member lower = absurd (omega arith)
first_among s start (suc k) m above below member lower =
    first_or_not s start k
    ∙ ⊎_elim
    (λ before.
    let left : start + 1 + k - (m + 1) ≡ start + suc k - (m + 1) = omega arith in
    cond-false _ _ _ (ne_eqb (bit s start) 1 (lower start (omega arith) before))
    ∙ first_among s (start + 1) k m (omega arith) (omega arith) member (λ c lo hi. lower c (omega arith) hi)
    ∙ ap (λ j. m ∷ members_among s (m + 1) j) left)
    (λ here.
    let is_start : m ≡ start = omega arith in
    let left : k ≡ start + suc k - (m + 1) = omega arith in
    cond-true _ _ _ (eq-eqb (bit s start) 1 (subst (λ c. Member c s) is_start member))
    ∙ ap (λ c. c ∷ members_among s (c + 1) k) (sym is_start)
    ∙ ap (λ j. m ∷ members_among s (m + 1) j) left)
    (cases_lt start m)
