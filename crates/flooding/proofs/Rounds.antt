-- Rounds over any operation: what a round does to each console, and what any number of rounds keeps.
use Rattle.std.proofs.Common.{◌≡◌, ℕ, zero, suc, ◌<◌, ◌≤◌, Bool, true, false, cond, ◌⊎◌, sym, refl, ap, ◌∙◌, subst, ⊎_elim}
use lib.Bits.{bit_or}
use mathlib.Core.Path.{fun_ext}
use native.Mathlib.Decide.{le_ind}
use Rattle.std.proofs.lemmas.Bool.{cases_Bool, and_from, and_parts, cond-true, cond-false, cond_both}
use Rattle.carrier.specs.Pattern.{Pattern, RoundRule}
use Rattle.carrier.specs.Sets.{Member, Members, Within, holds}
use Rattle.carrier.specs.SetsLemmas.{everybody_members, those_members}
use Rattle.joining.specs.Semilattice.{Semilattice}
use Rattle.flooding.specs.Rounds.{collects, senders, gathered, round, rounds}
use Rattle.flooding.proofs.Gathering.{gathered_same, gathered_through, gathered_first, gathered_each, gathered_least, gathered_from}
use Rattle.flooding.proofs.Joins.{Below, below_itself, below_through}
use Rattle.flooding.proofs.Sets.{held, holding}

pub collecting : (p : Pattern) (r i j : ℕ) → Member j (p.up r) → Member i (p.heard (suc r) j) → collects p r i j ≡ true
collecting p r i j was_up heard = and_from _ _ (holding _ j was_up) (holding _ i heard)

pub collected : (p : Pattern) (r i j : ℕ) → collects p r i j ≡ true → Member j (p.up r) × Member i (p.heard (suc r) j)
collected p r i j e = let both = and_parts _ _ e in (held _ j both.0, held _ i both.1)

pub senders_are : (p : Pattern) (r i : ℕ) → Members (senders p r i) (λ j. (j < p.n) × (collects p r i j ≡ true))
senders_are p r i = those_members p.n (collects p r i)

-- What the round rule gives.
module _ (p : Pattern) (rule : RoundRule p) where
  pub up_in_ring : (r c : ℕ) → Member c (p.up r) → c < p.n
  up_in_ring zero c m = (everybody_members p.n c).0 (subst (Member c) rule.all_up_first m)
  up_in_ring (suc r) c m = up_in_ring r c (rule.none_returns r c m)

  pub survivors_collect : (r i j : ℕ) → Member i (p.up (suc r)) → Member j (p.up (suc r)) → collects p r i j ≡ true
  survivors_collect r i j i_up j_up = collecting p r i j (rule.none_returns r j j_up) (rule.up_is_heard_by_up r j j_up i i_up)

  pub senders_are_heard : (r i : ℕ) → Members (senders p r i) (λ j. Member j (p.up r) × Member i (p.heard (suc r) j))
  senders_are_heard r i j = (
    (λ m. collected p r i j ((senders_are p r i j).0 m).1),
    (λ m. (senders_are p r i j).1 (up_in_ring r j m.0, collecting p r i j m.0 m.1)),
  )

  pub survivors_are_senders : (r i : ℕ) → Member i (p.up (suc r)) → Within (p.up (suc r)) (senders p r i)
  survivors_are_senders r i is_up j stays = (senders_are p r i j).1 (up_in_ring (suc r) j stays, survivors_collect r i j is_up stays)

module _ {X : Type 0} (join : X → X → X) (p : Pattern) where
  pub round_up : (r : ℕ) (has : ℕ → X) (i : ℕ) → Member i (p.up (suc r)) → round join p r has i ≡ gathered join p.n (collects p r i) has (has i)
  unfolding round
  round_up r has i m = cond-true _ _ _ (holding _ i m)

  pub round_down : (r : ℕ) (has : ℕ → X) (i : ℕ) → (Member i (p.up (suc r)) → ⊥) → round join p r has i ≡ has i
  unfolding round
  round_down r has i out =
      ⊎_elim (λ is_up. absurd (out (held _ i is_up))) (λ is_down. cond-false _ _ _ is_down) (cases_Bool (holds (p.up (suc r)) i))

  -- rounds depend on what the consoles of the ring have alone
  round_same : (r : ℕ) (has had : ℕ → X) → ((j : ℕ) → j < p.n → has j ≡ had j) → (i : ℕ) → i < p.n → round join p r has i ≡ round join p r had i
  unfolding round
  round_same r has had same i h =
      ap (λ x. cond (holds (p.up (suc r)) i) x (has i))
      (gathered_same join p.n (collects p r i) has had (has i) same ∙ ap (gathered join p.n (collects p r i) had) (same i h))
      ∙ ap (cond (holds (p.up (suc r)) i) (gathered join p.n (collects p r i) had (had i))) (same i h)

  pub rounds_same : (start other : ℕ → X) → ((j : ℕ) → j < p.n → start j ≡ other j) → (r i : ℕ) → i < p.n → rounds join p start r i ≡ rounds join p other r i
  unfolding rounds
  rounds_same start other same zero i h = same i h
  rounds_same start other same (suc r) i h = round_same r _ _ (rounds_same start other same r) i h

  -- what keeps joins keeps what the rounds give
  module _ {Y : Type 0} (meet : Y → Y → Y) (h : X → Y) (keeps : (x y : X) → h (join x y) ≡ meet (h x) (h y)) where
    through_cond : (b : Bool) (x y : X) → h (cond b x y) ≡ cond b (h x) (h y)
    through_cond b x y = elim b as (λ v. h (cond v x y) ≡ cond v (h x) (h y)) [ true ↦ refl | false ↦ refl ]

    pub round_through : (r : ℕ) (has : ℕ → X) (i : ℕ) → h (round join p r has i) ≡ round meet p r (λ j. h (has j)) i
    unfolding round
    round_through r has i =
        through_cond _ _ _
        ∙ ap (λ y. cond (holds (p.up (suc r)) i) y (h (has i))) (gathered_through join meet h keeps p.n (collects p r i) has (has i))

    pub rounds_through : (start : ℕ → X) (r i : ℕ) → h (rounds join p start r i) ≡ rounds meet p (λ j. h (start j)) r i
    unfolding rounds
    rounds_through start zero i = refl
    rounds_through start (suc r) i = round_through r _ i ∙ ap (λ has. round meet p r has i) (fun_ext (rounds_through start r))

  module _ (laws : Semilattice join) (r : ℕ) (has : ℕ → X) where
    pub round_each : (i j : ℕ) → Member i (p.up (suc r)) → j < p.n → collects p r i j ≡ true → Below join (has j) (round join p r has i)
    round_each i j is_up h collects_j =
        subst (Below join (has j)) (sym (round_up r has i is_up)) (gathered_each join laws (collects p r i) has (has i) p.n j h collects_j)

    pub round_grows : (i : ℕ) → Below join (has i) (round join p r has i)
    unfolding round
    round_grows i =
        cond_both (holds (p.up (suc r)) i) _ _ (Below join (has i))
        (λ e. gathered_first join laws (collects p r i) has (has i) p.n)
        (λ e. below_itself join laws (has i))

    pub round_least : (i : ℕ) (z : X) → Below join (has i) z
        → (Member i (p.up (suc r)) → (j : ℕ) → j < p.n → collects p r i j ≡ true → Below join (has j) z) → Below join (round join p r has i) z
    unfolding round
    round_least i z first each =
        cond_both (holds (p.up (suc r)) i) _ _ (λ x. Below join x z)
        (λ e. gathered_least join laws (collects p r i) has (has i) p.n z first (each (held _ i e)))
        (λ e. first)

  pub rounds_grow : Semilattice join → (start : ℕ → X) (i r s : ℕ) → r ≤ s → Below join (rounds join p start r i) (rounds join p start s i)
  unfolding rounds
  rounds_grow laws start i r s h =
      le_ind (λ k. Below join (rounds join p start r i) (rounds join p start k i)) (below_itself join laws _)
      (λ k le below. below_through join laws _ _ _ below (round_grows laws k (rounds join p start k) i))
      s h

-- whoever is in the set of a console that stays up, after a round of unions, was in its own set or is in one that it collects
pub round_from : (p : Pattern) (r : ℕ) (has : ℕ → ℕ) (i c : ℕ) → Member i (p.up (suc r)) → Member c (round bit_or p r has i)
    → Member c (has i) ⊎ ((j : ℕ) × (j < p.n) × (collects p r i j ≡ true) × Member c (has j))
round_from p r has i c is_up m =
    gathered_from p.n (collects p r i) has (has i) c (subst (Member c) (round_up bit_or p r has i is_up) m)
