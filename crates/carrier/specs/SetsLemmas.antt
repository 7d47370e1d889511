-- The members of the sets that are made of others, and that a set is known by its members.
use Rattle.std.specs.Prelude.{◌≡◌, ℕ, zero, suc, ◌+◌, ◌-◌, ◌^◌, ◌<◌, min, Bool, true, false, cond, ◌⊎◌}
use Rattle.std.specs.Int.Bits.{bit_and, bit_or}
use Rattle.std.proofs.lemmas.Nat.{and_comm, and-not}
use Rattle.std.proofs.Common.{inl, inr, ⊎_elim, sym, ap, subst, ◌∙◌, one-mul, add-zero, arith}
use Rattle.std.proofs.Math.Nat.{two-pow-succ}
use Rattle.std.proofs.lemmas.Bool.{cases_eq, cases_lt, cases_Bool, both_ways}
use Rattle.std.proofs.lemmas.Nat.Bits.{bit_at-pow_same, bit_at-pow_other, bit_at_ones_above, bit_at-lt, bit_at-zero, bit_at_above, bit_at_and, bit_at_or, bit_at_ones, same_from_bits, bit_at_cat_low}
use Rattle.carrier.specs.Sets.{bit, Member, Members, Within, nobody, everybody, alone, those}
use Rattle.carrier.specs.Digits.{bit_on_top, bit_not}

pub nobody_members : Members nobody (λ c. ⊥)
nobody_members c = (λ m. omega (arith, bit_at-zero c), λ none. absurd none)

pub everybody_members : (n : ℕ) → Members (everybody n) (λ c. c < n)
everybody_members n c = (
  (λ m. ⊎_elim (λ h. h) (λ h. absurd (omega (arith, bit_at_ones_above n c h))) (cases_lt c n)),
  (λ h. bit_at_ones n c h),
)

-- the consoles below n, of the sixteen that there are
pub everybody_here : (n s : ℕ) → s ≡ everybody (min n 16) → Members s (λ c. (c < n) × (c < 16))
everybody_here n s e c = (
  (λ m. omega (arith, (everybody_members (min n 16) c).0 (subst (Member c) e m))),
  (λ h. subst (Member c) (sym e) ((everybody_members (min n 16) c).1 (omega (arith, h.0, h.1)))),
)

pub alone_members : (k : ℕ) → Members (alone k) (λ c. c ≡ k)
alone_members k c = (
  (λ m. ⊎_elim (λ e. e) (λ ne. absurd (omega (arith, m, bit_at-pow_other k c ne))) (cases_eq c k)),
  (λ e. subst (λ x. Member x (alone k)) (sym e) (bit_at-pow_same k)),
)

pub and_members : (s t : ℕ) → Members (bit_and s t) (λ c. Member c s × Member c t)
and_members s t c =
    let both = bit_at_and s t c in
    let left = bit_at-lt s c in
    let right = bit_at-lt t c in
    ((λ m. (omega arith, omega arith)), (λ m. omega arith))

pub or_members : (s t : ℕ) → Members (bit_or s t) (λ c. Member c s ⊎ Member c t)
or_members s t c =
    let either = bit_at_or s t c in
    let left = bit_at-lt s c in
    let right = bit_at-lt t c in (
      (λ m. ⊎_elim inl (λ h. inr (omega arith)) (cases_eq (bit s c) 1)),
      (λ m. ⊎_elim (λ h. omega arith) (λ h. omega arith) m),
    )

-- s without t, where both are of consoles below k
pub minus_members : (k s t : ℕ) → s < 2 ^ k → t < 2 ^ k → Members (bit_and s (2 ^ k - 1 - t)) (λ c. Member c s × (Member c t → ⊥))
minus_members k s t hs ht c =
    let both = bit_at_and s (2 ^ k - 1 - t) c in
    let left = bit_at-lt s c in
    let right = bit_at-lt t c in
    ⊎_elim
    (λ lt. let other = bit_not k t c ht lt in ((λ m. (omega arith, λ n. omega arith)), (λ m. absent m.1 (λ (e : bit t c ≡ 0). omega (arith, m.0)))))
    (λ ge. let none = bit_at_above s k c hs ge in ((λ m. absurd (omega arith)), (λ m. absurd (omega (arith, m.0)))))
    (cases_lt c k)
  where
    absent : {A : Type 0} → (Member c t → ⊥) → (bit t c ≡ 0 → A) → A
    absent out then = ⊎_elim (λ e. absurd (out e)) (λ ne. then (omega (arith, bit_at-lt t c))) (cases_eq (bit t c) 1)

-- two sets with the same members are the same number
pub same_members : {P Q : ℕ → Type 0} (s t : ℕ) → Members s P → Members t Q → ((c : ℕ) → P c → Q c) → ((c : ℕ) → Q c → P c) → s ≡ t
same_members s t ms mt there back =
    same_from_bits s t (λ c. let left = bit_at-lt s c in let right = bit_at-lt t c in
    ⊎_elim
    (λ e. e ∙ sym ((mt c).1 (there c ((ms c).0 e))))
    (λ ne. ⊎_elim (λ e. absurd (ne ((ms c).1 (back c ((mt c).0 e))))) (λ ne2. omega arith) (cases_eq (bit t c) 1))
    (cases_eq (bit s c) 1))

pub minus_number : (k s t : ℕ) → s < 2 ^ k → t < 2 ^ k → bit_and s (2 ^ k - 1 - t) ≡ s - bit_and s t
minus_number k s t hs ht = omega (arith, and-not k t s ht hs, and_comm s (2 ^ k - 1 - t), and_comm s t)

pub those_below : (n : ℕ) (test : ℕ → Bool) → those n test < 2 ^ n
unfolding those
those_below zero test = omega arith
those_below (suc n) test =
    let below = those_below n test in
    let double = two-pow-succ n in
    (elim (test n) as (λ b. those n test + cond b (alone n) nobody < 2 ^ suc n) [ true ↦ omega arith | false ↦ omega arith ])

-- the digit that the newest console gets
those_top : (n : ℕ) (test : ℕ → Bool) → bit (those (suc n) test) n ≡ cond (test n) 1 0
unfolding those
those_top n test =
    elim (test n) as (λ b. bit (those n test + cond b (alone n) nobody) n ≡ cond b 1 0) [
      | true ↦ ap (λ s. bit s n) (omega (arith, one-mul (2 ^ n))) ∙ bit_on_top n 1 (those n test) (those_below n test)
      | false ↦ ap (λ s. bit s n) (add-zero _) ∙ bit_at_above _ n n (those_below n test) (omega arith)
    ]

those_low : (n : ℕ) (test : ℕ → Bool) (c : ℕ) → c < n → bit (those (suc n) test) c ≡ bit (those n test) c
unfolding those
those_low n test c h =
    elim (test n) as (λ b. bit (those n test + cond b (alone n) nobody) c ≡ bit (those n test) c) [
      | true ↦ ap (λ s. bit s c) (omega (arith, one-mul (2 ^ n))) ∙ bit_at_cat_low 1 n (those n test) c h
      | false ↦ ap (λ s. bit s c) (add-zero _)
    ]

pub bit_of_those : (n : ℕ) (test : ℕ → Bool) (c : ℕ) → c < n → bit (those n test) c ≡ cond (test c) 1 0
bit_of_those zero test c h = absurd (omega arith)
bit_of_those (suc n) test c h =
    ⊎_elim
    (λ lt. those_low n test c lt ∙ bit_of_those n test c lt)
    (λ ge. let e : c ≡ n = omega arith in subst (λ x. bit (those (suc n) test) x ≡ cond (test x) 1 0) (sym e) (those_top n test))
    (cases_lt c n)

pub those_members : (n : ℕ) (test : ℕ → Bool) → Members (those n test) (λ c. (c < n) × (test c ≡ true))
those_members n test c =
    ⊎_elim
    (λ lt. let here = bit_of_those n test c lt in
    ⊎_elim
    (λ yes_is. ((λ m. (lt, yes_is)), (λ p. here ∙ ap (λ b. cond b 1 0) yes_is)))
    (λ no_is. ((λ m. absurd (omega (arith, m, here ∙ ap (λ b. cond b 1 0) no_is))), (λ p. absurd (both_ways _ no_is p.1))))
    (cases_Bool (test c)))
    (λ ge. ((λ m. absurd (omega (arith, m, bit_at_above _ n c (those_below n test) ge))), (λ p. absurd (omega (arith, p.0)))))
    (cases_lt c n)

pub within_and : (s t : ℕ) → Within s t → bit_and s t ≡ s
within_and s t w = same_members _ _ (and_members s t) (λ c. ((λ m. m), (λ m. m))) (λ c m. m.0) (λ c m. (m, w c m))

pub and_within : (s t : ℕ) → bit_and s t ≡ s → Within s t
and_within s t e c m = ((and_members s t c).0 (subst (Member c) (sym e) m)).1
