-- What a command adds to what stands, rule by rule: a command that breaks no rule keeps what is listed sound, and the last
-- command of what is soundly listed breaks no rule.
use Rattle.std.proofs.Common.{◌≡◌, ℕ, zero, suc, ◌^◌, ◌<◌, ◌≤◌, true, false, cond, List, [], ◌∷◌, length, Some, None, MatchOption, Option, sym, refl, ap, ◌∙◌, subst, ⊎_elim, arith, length-append, pow_pos}
use Rattle.carrier.specs.SetsLemmas.{everybody_members, within_and}
use Rattle.carrier.specs.Sets.{Within, everybody}
use Rattle.carrier.specs.Sizes.{InRange}
use Rattle.script.specs.Admitted.{Sound, Complete, TestsMean}
use Rattle.script.specs.Format.{Statement, link, card, crash, end}
use Rattle.script.specs.Listing.{Listing, Lowest, UncardedIsLowest, has_card, otherwise, uncarded}
use Rattle.script.specs.Rules.{Standing, nothing, under_way, rules, first_broken, with_card, with_crash, missing_card}
use Rattle.script.specs.declared.command.CardEntry.{CardEntry}
use Rattle.script.specs.declared.command.CrashEntry.{CrashEntry}
use Rattle.script.proofs.Entries.{all_front, no_two_push, no_two_front, absent_others, others_absent}
use Rattle.std.proofs.lemmas.Nat.{and_mask, mod_below}
use Rattle.std.proofs.ByRecursion.{All-push}
use Rattle.std.proofs.lemmas.Bool.Decides.{nat_tests}
use Rattle.std.proofs.lemmas.Bool.{cases_lt}
use Rattle.std.proofs.lemmas.Nat.Bits.{bit_at_above}

-- the command breaks none of its rules there
abbrev pub Passes : Standing → Statement → Type 0
Passes s c = first_broken (rules s c) ≡ None

-- the hearers are of the ring exactly where their number is below 2 ^ n
pub hearers_below : (n s : ℕ) → s < 2 ^ n → Within s (everybody n)
hearers_below n s h c m =
    (everybody_members n c).1 (⊎_elim (λ lt. lt) (λ ge. absurd (omega (arith, m, bit_at_above s n c h ge))) (cases_lt c n))

pub below_hearers : (n s : ℕ) → Within s (everybody n) → s < 2 ^ n
below_hearers n s w = subst (λ x. x < 2 ^ n) (sym (and_mask s n) ∙ within_and s (everybody n) w) (mod_below s (2 ^ n) (pow_pos n))

-- what the lowest console without a card is
abbrev IsUncarded : ℕ → List CardEntry → Option ℕ → Type 0
IsUncarded n cards o = MatchOption o ((c : ℕ) → c < n → has_card c cards ≡ true) (Lowest n cards)

one_further : (n : ℕ) (cards : List CardEntry) (o : Option ℕ) → IsUncarded n cards o → IsUncarded (suc n) cards (otherwise o (cond (has_card n cards) None (Some n)))
one_further n cards o h = grind (arith, nat_tests)

uncarded_is : (n : ℕ) (cards : List CardEntry) → IsUncarded n cards (uncarded n cards)
uncarded_is zero cards = λ c lt. absurd (omega arith)
uncarded_is (suc n) cards = one_further n cards (uncarded n cards) (uncarded_is n cards)

one_uncarded : (n : ℕ) (cards : List CardEntry) (o p : Option ℕ) → IsUncarded n cards o → IsUncarded n cards p → o ≡ p
one_uncarded n cards o p h k = grind arith

is_uncarded : (n : ℕ) (cards : List CardEntry) (o : Option ℕ) → IsUncarded n cards o → uncarded n cards ≡ o
is_uncarded n cards o h = one_uncarded n cards (uncarded n cards) o (uncarded_is n cards) h

-- a search among the consoles from the first one on, below m
pub searched : (n : ℕ) (cards : List CardEntry) (first m : ℕ) (r : Option ℕ)
    → MatchOption r ((k : ℕ) → first ≤ k → k < m → has_card k cards ≡ true)
    (λ i. (first ≤ i) × (i < m) × (has_card i cards ≡ false) × ((k : ℕ) → first ≤ k → k < i → has_card k cards ≡ true))
    → first ≡ 0 → m ≡ n → r ≡ uncarded n cards
searched n cards first m r h begin same = sym (is_uncarded n cards r (grind arith))

pub uncarded_is_lowest : UncardedIsLowest
uncarded_is_lowest = record {
  is_lowest = λ n cards c e. subst (IsUncarded n cards) e (uncarded_is n cards);
  lowest_is = λ n cards c. is_uncarded n cards (Some c);
  none_lacks = λ n cards e. subst (IsUncarded n cards) e (uncarded_is n cards);
}

-- LINK
pub link_next : (n f : ℕ) → Passes nothing (link n f) → Sound (record { n = n; f = f; cards = []; crashes = [] })
link_next n f p = record {
  sizes = grind (arith, nat_tests);
  cards_in_ring = tt;
  one_card_each = tt;
  cards_readable = tt;
  crashes_in_ring = tt;
  rounds_in_time = tt;
  hearers_in_ring = tt;
  one_crash_each = tt;
  few_crashes = omega arith;
}

pub link_last : (n f : ℕ) → InRange n f → Passes nothing (link n f)
link_last n f h = grind (arith, nat_tests)

-- CARD
pub card_next : (l : Listing) (e : CardEntry) → Sound l → Passes (under_way l) (card e) → Sound (with_card l e)
card_next l e h p = record {
  sizes = h.sizes;
  cards_in_ring = All-push _ l.cards e h.cards_in_ring (grind (arith, nat_tests));
  one_card_each = no_two_push _ l.cards e h.one_card_each (absent_others _ e.console l.cards (grind (arith, nat_tests)));
  cards_readable = All-push _ l.cards e h.cards_readable (grind (arith, nat_tests));
  crashes_in_ring = h.crashes_in_ring;
  rounds_in_time = h.rounds_in_time;
  hearers_in_ring = h.hearers_in_ring;
  one_crash_each = h.one_crash_each;
  few_crashes = h.few_crashes;
}

pub no_crashes : (l : Listing) (e : CardEntry) → Passes (under_way l) (card e) → length l.crashes ≡ 0
no_crashes l e p = grind (arith, nat_tests)

pub card_last : (l : Listing) (e : CardEntry) → length l.crashes ≡ 0 → Sound (with_card l e) → Sound l × Passes (under_way l) (card e)
card_last l e none h =
    let rings = all_front _ l.cards e h.cards_in_ring in
    let apart = no_two_front _ l.cards e h.one_card_each in
    let read = all_front _ l.cards e h.cards_readable in
    let new = others_absent _ e.console l.cards apart.1 in (
      record {
        sizes = h.sizes;
        cards_in_ring = rings.0;
        one_card_each = apart.0;
        cards_readable = read.0;
        crashes_in_ring = h.crashes_in_ring;
        rounds_in_time = h.rounds_in_time;
        hearers_in_ring = h.hearers_in_ring;
        one_crash_each = h.one_crash_each;
        few_crashes = h.few_crashes;
      },
      grind (arith, nat_tests),
    )

-- CRASH
pub crash_next : (l : Listing) (e : CrashEntry) → Sound l → Passes (under_way l) (crash e) → Sound (with_crash l e)
crash_next l e h p = record {
  sizes = h.sizes;
  cards_in_ring = h.cards_in_ring;
  one_card_each = h.one_card_each;
  cards_readable = h.cards_readable;
  crashes_in_ring = All-push _ l.crashes e h.crashes_in_ring (grind (arith, nat_tests));
  rounds_in_time = All-push _ l.crashes e h.rounds_in_time (grind (arith, nat_tests));
  hearers_in_ring = All-push _ l.crashes e h.hearers_in_ring (hearers_below l.n e.hearers.bits (grind (arith, nat_tests)));
  one_crash_each = no_two_push _ l.crashes e h.one_crash_each (absent_others _ e.console l.crashes (grind (arith, nat_tests)));
  few_crashes = grind (arith, nat_tests, length-append l.crashes (e ∷ []));
}

pub crash_last : (l : Listing) (e : CrashEntry) → Sound (with_crash l e) → Sound l × Passes (under_way l) (crash e)
crash_last l e h =
    let rings = all_front _ l.crashes e h.crashes_in_ring in
    let times = all_front _ l.crashes e h.rounds_in_time in
    let heard = all_front _ l.crashes e h.hearers_in_ring in
    let apart = no_two_front _ l.crashes e h.one_crash_each in
    let new = others_absent _ e.console l.crashes apart.1 in
    let below = below_hearers l.n e.hearers.bits heard.1 in
    let room : length l.crashes < l.f = omega (arith, h.few_crashes, length-append l.crashes (e ∷ [])) in (
      record {
        sizes = h.sizes;
        cards_in_ring = h.cards_in_ring;
        one_card_each = h.one_card_each;
        cards_readable = h.cards_readable;
        crashes_in_ring = rings.0;
        rounds_in_time = times.0;
        hearers_in_ring = heard.0;
        one_crash_each = apart.0;
        few_crashes = omega arith;
      },
      grind (arith, nat_tests),
    )

-- END
pub end_next : (l : Listing) → Passes (under_way l) end → Complete l
end_next l p = uncarded_is_lowest.none_lacks l.n l.cards (go (uncarded l.n l.cards) p)
  where
    go : (o : Option ℕ) → first_broken (missing_card o) ≡ None → o ≡ None
    go None h = refl
    go (Some c) h = cc

pub end_last : (l : Listing) → Complete l → Passes (under_way l) end
end_last l h = ap (λ o. first_broken (missing_card o)) (is_uncarded l.n l.cards None h)

-- what the tests of the rules amount to
pub tests_mean : TestsMean
tests_mean = record {
  sizes = λ n f. grind (arith, nat_tests);
  no_card = λ c cards. grind (arith, nat_tests, absent_others {A = CardEntry}, others_absent {A = CardEntry});
  no_crash = λ c crashes. grind (arith, nat_tests, absent_others {A = CrashEntry}, others_absent {A = CrashEntry});
  card_readable = λ e. grind (arith, nat_tests);
  round_in_time = λ f round. grind (arith, nat_tests);
  hearers_in_ring = λ n hearers. (
    (λ h. hearers_below n hearers (grind (arith, nat_tests))),
    (λ w. let below = below_hearers n hearers w in grind (arith, nat_tests)),
  );
}
