-- Heard sets along the rounds, and that the value beside a heard set is the join over it.
use Rattle.std.proofs.Common.{◌≡◌, ℕ, zero, suc, ◌<◌, ◌≤◌, true, sym, refl, ap, ◌∙◌, subst, subst₂, ⊎_elim, arith}
use lib.Bits.{bit_or}
use Rattle.std.proofs.lemmas.Bool.{cases_Bool, both_ways}
use Rattle.carrier.specs.Losses.{quiet}
use Rattle.carrier.specs.Pattern.{Pattern}
use Rattle.carrier.specs.Sets.{Member, alone, everybody, holds}
use Rattle.carrier.specs.Sizes.{InRange}
use Rattle.carrier.specs.Losing.{quiet_obeys}
use Rattle.carrier.specs.SetsLemmas.{alone_members, everybody_members, those_members}
use Rattle.joining.specs.Semilattice.{Semilattice}
use Rattle.flooding.specs.Heard.{ValueIsJoinOverHeard, SurvivorsAreHeard, HeardSetsGrow, HeardSetsNameTheRing, QuietRingHearsAll}
use Rattle.flooding.specs.Rounds.{join_records, round, rounds, own, heard_after}
use Rattle.flooding.proofs.Joins.{Below, below_itself, below_through, value_is_least}
use Rattle.flooding.proofs.Records.{rounds_heard, rounds_value}
use Rattle.flooding.proofs.Rounds.{up_in_ring, survivors_collect, round_down, rounds_same, round_each, round_grows, round_least, round_from, rounds_grow}
use Rattle.flooding.proofs.Sets.{held, holding, union_laws, below_within, within_below, same_within}

pub heard_sets_grow_lem : HeardSetsGrow
heard_sets_grow_lem p i r s h = below_within _ _ (rounds_grow bit_or p union_laws alone i r s (omega arith))

hears_itself : (p : Pattern) (r i : ℕ) → Member i (heard_after p r i)
unfolding rounds
hears_itself p r i = heard_sets_grow_lem p i 0 r (omega arith) i ((alone_members i i).1 refl)

pub survivors_are_heard_lem : SurvivorsAreHeard
unfolding rounds
survivors_are_heard_lem p rule zero h i is_up j stays = absurd (omega arith)
survivors_are_heard_lem p rule (suc r) h i is_up j stays =
    below_within _ _
    (round_each bit_or p union_laws r (heard_after p r) i j is_up (up_in_ring p rule (suc r) j stays) (survivors_collect p rule r i j is_up stays))
    j (hears_itself p r j)

heard_in_ring : (p : Pattern) (r i : ℕ) → i < p.n → Below bit_or (heard_after p r i) (everybody p.n)
unfolding rounds
heard_in_ring p zero i h = within_below _ _ (λ c (m : Member c (alone i)). (everybody_members p.n c).1 (omega (arith, (alone_members i c).0 m)))
heard_in_ring p (suc r) i h =
    round_least bit_or p union_laws r (heard_after p r) i _ (heard_in_ring p r i h) (λ _ j below _. heard_in_ring p r j below)

pub heard_sets_name_the_ring_lem : HeardSetsNameTheRing
heard_sets_name_the_ring_lem p r i h c m = omega (arith, (everybody_members p.n c).0 (below_within _ _ (heard_in_ring p r i h) c m))

hears_all : (n f : ℕ) → InRange n f → (r : ℕ) → 1 ≤ r → (i : ℕ) → i < n → heard_after (quiet n f) r i ≡ everybody n
hears_all n f ranges r from i h =
    same_within _ _
    (λ c m. (everybody_members n c).1 (heard_sets_name_the_ring_lem (quiet n f) r i h c m))
    (λ c m. survivors_are_heard_lem (quiet n f) (quiet_obeys n f ranges) r from i (up i h) c (up c ((everybody_members n c).0 m)))
  where
    up : (c : ℕ) → c < n → Member c ((quiet n f).up r)
    up c below = (those_members n (λ _. true) c).1 (below, refl)

pub quiet_ring_hears_all_lem : QuietRingHearsAll
quiet_ring_hears_all_lem n f ranges = hears_all n f ranges _ (omega arith)

-- x is the least to take in what each console of s proposes
record LeastOver {M : Type 0} (join : M → M → M) (proposal : ℕ → M) (s : ℕ) (x : M) : Type 0 where
  each : (c : ℕ) → Member c s → Below join (proposal c) x
  least : (z : M) → ((c : ℕ) → Member c s → Below join (proposal c) z) → Below join x z

module _ {M : Type 0} (join : M → M → M) (laws : Semilattice join) (p : Pattern) (proposal : ℕ → M) where
  over_itself : (i : ℕ) → LeastOver join proposal (alone i) (proposal i)
  over_itself i = record {
    each = λ c m. subst (λ k. Below join (proposal k) (proposal i)) (sym ((alone_members i c).0 m)) (below_itself join laws (proposal i));
    least = λ z each. each i ((alone_members i i).1 refl);
  }

  over_collected : (r : ℕ) (sets : ℕ → ℕ) (values : ℕ → M) → ((i : ℕ) → LeastOver join proposal (sets i) (values i))
      → (i : ℕ) → Member i (p.up (suc r)) → LeastOver join proposal (round bit_or p r sets i) (round join p r values i)
  over_collected r sets values over i is_up = record {
    each = λ c m. ⊎_elim
        (λ first. below_through join laws _ _ _ ((over i).each c first) (round_grows join p laws r values i))
        (λ from. below_through join laws _ _ _ ((over from.0).each c from.3) (round_each join p laws r values i from.0 is_up from.1 from.2))
        (round_from p r sets i c is_up m);
    least = λ z each. round_least join p laws r values i z
        ((over i).least z (λ c m. each c (below_within _ _ (round_grows bit_or p union_laws r sets i) c m)))
        (λ _ j h collects_j. (over j).least z (λ c m. each c (below_within _ _ (round_each bit_or p union_laws r sets i j is_up h collects_j) c m)));
  }

  over_round : (r : ℕ) (sets : ℕ → ℕ) (values : ℕ → M) → ((i : ℕ) → LeastOver join proposal (sets i) (values i))
      → (i : ℕ) → LeastOver join proposal (round bit_or p r sets i) (round join p r values i)
  over_round r sets values over i =
      ⊎_elim
      (λ is_up. over_collected r sets values over i (held _ i is_up))
      (λ is_down. let out : Member i (p.up (suc r)) → ⊥ = λ m. both_ways _ is_down (holding _ i m) in
      subst₂ (LeastOver join proposal) (sym (round_down bit_or p r sets i out)) (sym (round_down join p r values i out)) (over i))
      (cases_Bool (holds (p.up (suc r)) i))

  over_rounds : (r i : ℕ) → LeastOver join proposal (heard_after p r i) (rounds join p proposal r i)
  unfolding rounds
  over_rounds zero i = over_itself i
  over_rounds (suc r) i = over_round r _ _ (over_rounds r) i

pub value_is_join_over_heard_lem : (M : Type 0) → ValueIsJoinOverHeard M
value_is_join_over_heard_lem M join laws p proposal start begins r i h = record {
  heard_is = ap (λ x. x.heard) begun ∙ rounds_heard join p (own proposal) r i;
  value_is = λ t e. ap (λ x. x.value) begun ∙ rounds_value join p (own proposal) r i
      ∙ value_is_least join laws proposal (heard_after p r i) _ over.each over.least t e;
}
  where
    begun : rounds (join_records join) p start r i ≡ rounds (join_records join) p (own proposal) r i
    begun = rounds_same (join_records join) p start (own proposal) begins r i h

    over : LeastOver join proposal (heard_after p r i) (rounds join p proposal r i)
    over = over_rounds join laws p proposal r i
