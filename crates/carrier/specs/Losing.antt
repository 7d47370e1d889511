-- Patterns given by who is lost when obey the round rule.
use Rattle.std.specs.Prelude.{◌≡◌, ℕ, zero, suc, ◌+◌, ◌<◌, ◌≤◌, min, true, cond, ◌==◌, ◌≢◌, nat_lt, refl}
use Rattle.std.proofs.Common.{⊎_elim, sym, subst, ◌∙◌, arith}
use Rattle.std.proofs.lemmas.Bool.{cases_lt, ltb-true, ltb-false, lt-ltb, le-ltb, le-leb, lt-leb, ne_eqb, or_from, or_right, cond-true, cond-false, cond_both}
use Rattle.carrier.specs.Losses.{Fate, stays, lost, loses, up_after, heard_in, losing, quiet, staggered_fate, staggered}
use Rattle.carrier.specs.Pattern.{RoundRule}
use Rattle.carrier.specs.Sets.{Member, Members, nobody, everybody, alone, those, tally}
use Rattle.carrier.specs.Sizes.{InRange}
use Rattle.carrier.specs.Counting.{size_of_those, tally_either}
use Rattle.carrier.specs.SetsLemmas.{nobody_members, everybody_members, alone_members, those_members, same_members}

-- what the round rule asks of a fate on a ring of n
abbrev pub Sound : ℕ → Fate → Type 0
Sound n stays = Unit {0}
Sound n (lost round hearers) = (1 ≤ round) × ((c : ℕ) → Member c hearers → c < n)

up_first : (n : ℕ) (x : Fate) → Sound n x → up_after 0 x ≡ true
up_first n stays h = refl
up_first n (lost round hearers) h = lt-ltb 0 round h.0

up_before : (r : ℕ) (x : Fate) → up_after (suc r) x ≡ true → up_after r x ≡ true
up_before r stays h = refl
up_before r (lost round hearers) h = lt-ltb r round (omega (arith, ltb-true _ _ h))

up_or_loses : (r : ℕ) (x : Fate) → 1 ≤ cond (up_after r x) 1 0 + cond (loses x) 1 0
up_or_loses r stays = omega arith
up_or_loses r (lost round hearers) = omega arith

heard_while_up : (n r : ℕ) (x : Fate) → up_after r x ≡ true → heard_in n r x ≡ everybody n
heard_while_up n r stays h = refl
heard_while_up n r (lost round hearers) h = cond-true _ _ _ h

unheard_once_down : (n r : ℕ) (x : Fate) → (up_after r x ≢ true) → heard_in n (suc r) x ≡ nobody
unheard_once_down n r stays h = absurd (h refl)
unheard_once_down n r (lost round hearers) h =
    ⊎_elim
    (λ lt. absurd (h (lt-ltb r round lt)))
    (λ ge. cond-false _ _ _ (le-ltb (suc r) round (omega arith)) ∙ cond-false _ _ _ (ne_eqb (suc r) round (λ e. omega arith)))
    (cases_lt r round)

hearers_below : (n r : ℕ) (x : Fate) → Sound n x → (c : ℕ) → Member c (heard_in n r x) → c < n
hearers_below n r stays h c = (everybody_members n c).0
hearers_below n r (lost round hearers) h c =
    cond_both (nat_lt r round) _ _ (λ s. Member c s → c < n)
    (λ _. (everybody_members n c).0)
    (λ _. cond_both (r == round) hearers nobody (λ s. Member c s → c < n) (λ _. h.1 c) (λ _ m. absurd ((nobody_members c).0 m)))

module _ (n f : ℕ) (fate : ℕ → Fate) where
  abbrev up : ℕ → ℕ
  up = (losing n f fate).up

  abbrev heard : ℕ → ℕ → ℕ
  heard = (losing n f fate).heard

  in_up : (r : ℕ) → Members (up r) (λ c. (c < n) × (up_after r (fate c) ≡ true))
  in_up r = those_members n (λ c. up_after r (fate c))

  heard_inside : (r j : ℕ) → j < n → heard (suc r) j ≡ heard_in n (suc r) (fate j)
  heard_inside r j h = cond-false _ _ _ (or_from _ _ (ne_eqb (suc r) 0 (λ e. omega arith)) (lt-leb n j h))

  heard_outside : (r j : ℕ) → n ≤ j → heard r j ≡ nobody
  heard_outside r j h = cond-true _ _ _ (or_right _ _ (le-leb n j h))

  pub losing_obeys : InRange n f → tally n (λ c. loses (fate c)) ≤ f → ((c : ℕ) → c < n → Sound n (fate c)) → RoundRule (losing n f fate)
  losing_obeys ranges few sound = record {
    in_range = ranges;
    all_up_first = same_members _ _ (in_up 0) (everybody_members n) (λ c m. m.0) (λ c h. (h, up_first n (fate c) (sound c h)));
    none_returns = λ r c m. let (below, is_up) = (in_up (suc r) c).0 m in (in_up r c).1 (below, up_before r (fate c) is_up);
    enough_stay = λ r.
        omega (arith, few, size_of_those n (λ c. up_after r (fate c)) ranges.1, tally_either n (λ c. up_after r (fate c)) (λ c. loses (fate c)) (λ c. up_or_loses r (fate c)));
    up_is_heard_by_up = λ r j m c k.
        let (below, is_up) = (in_up (suc r) j).0 m in
        subst (Member c) (sym (heard_inside r j below ∙ heard_while_up n (suc r) (fate j) is_up)) ((everybody_members n c).1 ((in_up (suc r) c).0 k).0);
    down_is_unheard = λ r j down.
        ⊎_elim
        (λ below. heard_inside r j below ∙ unheard_once_down n r (fate j) (λ is_up. down ((in_up r j).1 (below, is_up))))
        (λ outside. heard_outside (suc r) j outside)
        (cases_lt j n);
    hearers_exist = hearers_exist;
    unheard_before_round_1 = λ j. refl;
    unheard_from_outside = heard_outside;
  }
    where
      hearers_exist : (r j c : ℕ) → Member c (heard r j) → c < n
      hearers_exist zero j c m = absurd ((nobody_members c).0 m)
      hearers_exist (suc r) j c m =
          ⊎_elim
          (λ below. hearers_below n (suc r) (fate j) (sound j below) c (subst (Member c) (heard_inside r j below) m))
          (λ outside. absurd ((nobody_members c).0 (subst (Member c) (heard_outside (suc r) j outside) m)))
          (cases_lt j n)

tally_none : (n : ℕ) → tally n (λ c. loses stays) ≡ 0
tally_none zero = refl
tally_none (suc n) = omega (arith, tally_none n)

pub quiet_obeys : (n f : ℕ) → InRange n f → RoundRule (quiet n f)
quiet_obeys n f ranges = losing_obeys n f (λ c. stays) ranges (omega (arith, tally_none n)) (λ c h. tt)

tally_staggered : (n f : ℕ) → tally n (λ c. loses (staggered_fate f c)) ≤ min n f
tally_staggered zero f = omega arith
tally_staggered (suc n) f =
    cond_both (nat_lt n f) (lost (suc n) (alone (suc n))) stays (λ x. tally n (λ c. loses (staggered_fate f c)) + cond (loses x) 1 0 ≤ min (suc n) f)
    (λ e. omega (arith, tally_staggered n f, ltb-true n f e))
    (λ e. omega (arith, tally_staggered n f, ltb-false n f e))

staggered_sound : (n f : ℕ) → f < n → (c : ℕ) → Sound n (staggered_fate f c)
staggered_sound n f h c =
    cond_both (nat_lt c f) (lost (suc c) (alone (suc c))) stays (Sound n)
    (λ e. (omega arith, λ k m. omega (arith, ltb-true c f e, (alone_members (suc c) k).0 m)))
    (λ e. tt)

pub staggered_obeys : (n f : ℕ) → InRange n f → RoundRule (staggered n f)
staggered_obeys n f ranges =
    losing_obeys n f (staggered_fate f) ranges (omega (arith, tally_staggered n f)) (λ c h. staggered_sound n f ranges.2 c)

pub quiet_up : (n : ℕ) → everybody n ≡ those n (λ c. true)
quiet_up n = same_members _ _ (everybody_members n) (those_members n _) (λ c h. (h, refl)) (λ c m. m.0)

-- all of n without those below r and f
pub staggered_up : (n f r all gone s : ℕ) → n ≤ 16 → Members all (λ c. (c < n) × (c < 16)) → Members gone (λ c. (c < min r f) × (c < 16))
    → Members s (λ c. Member c all × (Member c gone → ⊥)) → s ≡ (staggered n f).up r
staggered_up n f r all gone s few in_all in_gone in_s =
    same_members _ _ in_s (those_members n _)
    (λ c m. let lt = (in_all c).0 m.0 in (
      lt.0,
      cond_both (nat_lt c f) _ _ (λ x. up_after r x ≡ true)
          (λ e. lt-ltb r (suc c) (⊎_elim (λ h. absurd (m.1 ((in_gone c).1 (h, lt.1)))) (λ h. omega (arith, ltb-true c f e)) (cases_lt c (min r f))))
          (λ e. refl),
    ))
    (λ c m. (
      (in_all c).1 (m.0, omega (arith, m.0)),
      λ g. let below = ((in_gone c).0 g).0 in
          let lost_here : staggered_fate f c ≡ lost (suc c) (alone (suc c)) = cond-true _ _ _ (lt-ltb c f (omega arith)) in
          omega (arith, ltb-true r (suc c) (subst (λ x. up_after r x ≡ true) lost_here m.1)),
    ))
