-- One round without a loss makes all that are up equal, and they stay equal; f + 1 rounds contain one.
use Rattle.std.proofs.Common.{ℕ, zero, suc, ◌+◌, ◌<◌, ◌≤◌, ◌⊎◌, subst, inl, inr, ⊎_elim, arith}
use lib.Bits.{bit_or}
use native.Mathlib.Decide.{le_ind}
use Rattle.std.proofs.lemmas.Bool.{cases_eq}
use Rattle.carrier.specs.Pattern.{Pattern, RoundRule}
use Rattle.carrier.specs.Sets.{Member, alone, size}
use Rattle.joining.specs.Semilattice.{Semilattice}
use Rattle.flooding.specs.Agreement.{LosesNobody, Agree, OneQuietRoundIsEnough, SomeRoundLosesNobody, SurvivorsAgree}
use Rattle.flooding.specs.Rounds.{join_records, round, rounds}
use Rattle.flooding.proofs.Counting.{size_within, size_same, size_few}
use Rattle.flooding.proofs.Joins.{Below, below_both}
use Rattle.flooding.proofs.Records.{record_laws}
use Rattle.flooding.proofs.Rounds.{collected, up_in_ring, survivors_collect, round_each, round_grows, round_least}
use Rattle.flooding.proofs.Sets.{union_laws}

module _ (p : Pattern) (rule : RoundRule p) where
  module _ {X : Type 0} (join : X → X → X) (laws : Semilattice join) where
    module _ (r : ℕ) (has : ℕ → X) where
      -- whoever stays up takes in what everyone has that stays up
      takes_in : (i j : ℕ) → Member i (p.up (suc r)) → Member j (p.up (suc r)) → Below join (has j) (round join p r has i)
      takes_in i j i_up j_up = round_each join p laws r has i j i_up (up_in_ring p rule (suc r) j j_up) (survivors_collect p rule r i j i_up j_up)

      -- where that holds of everyone that was up before, all end with the same
      all_taken_in : ((j k : ℕ) → Member j (p.up (suc r)) → Member k (p.up r) → Below join (has k) (round join p r has j)) → Agree p (suc r) (round join p r has)
      all_taken_in each i j i_up j_up = below_both join laws _ _ (below i j i_up j_up) (below j i j_up i_up)
        where
          below : (i j : ℕ) → Member i (p.up (suc r)) → Member j (p.up (suc r)) → Below join (round join p r has i) (round join p r has j)
          below i j i_up j_up =
              round_least join p laws r has i _ (each j i j_up (rule.none_returns r i i_up)) (λ _ k h collects_k. each j k j_up (collected p r i k collects_k).0)

      quiet_agrees : LosesNobody p r → Agree p (suc r) (round join p r has)
      quiet_agrees quiet = all_taken_in (λ j k j_up k_was_up. takes_in j k j_up (quiet k k_was_up))

      agree_on : Agree p r has → Agree p (suc r) (round join p r has)
      agree_on agree =
          all_taken_in (λ j k j_up k_was_up.
          subst (λ x. Below join x (round join p r has j)) (agree j k (rule.none_returns r j j_up) k_was_up) (round_grows join p laws r has j))

    agree_after : (start : ℕ → X) (q : ℕ) → LosesNobody p q → (r : ℕ) → suc q ≤ r → Agree p r (rounds join p start r)
    unfolding rounds
    agree_after start q quiet r h =
        le_ind (λ k. Agree p k (rounds join p start k)) (quiet_agrees q (rounds join p start q) quiet)
        (λ k le agree. agree_on k (rounds join p start k) agree)
        r h

  -- among the first k rounds one loses nobody, or each loses someone
  quiet_or_fewer : (k : ℕ) → ((q : ℕ) × (q < k) × LosesNobody p q) ⊎ (size (p.up k) + k ≤ p.n)
  quiet_or_fewer zero = inr (omega (arith, size_few (p.up 0) p.n (up_in_ring p rule 0)))
  quiet_or_fewer (suc k) = ⊎_elim (λ found. inl (found.0, omega (arith, found.1), found.2)) next (quiet_or_fewer k)
    where
      next : size (p.up k) + k ≤ p.n → ((q : ℕ) × (q < suc k) × LosesNobody p q) ⊎ (size (p.up (suc k)) + suc k ≤ p.n)
      next few =
          ⊎_elim
          (λ same. inl (k, omega arith, size_same (p.up (suc k)) (p.up k) (rule.none_returns k) same in_ring))
          (λ differ. inr (omega (arith, size_within (p.up (suc k)) (p.up k) (rule.none_returns k))))
          (cases_eq (size (p.up (suc k))) (size (p.up k)))
        where
          in_ring : (c : ℕ) → Member c (p.up k) → c < 16
          in_ring c m = omega (arith, up_in_ring p rule k c m, rule.in_range.1)

pub one_quiet_round_is_enough_lem : (M : Type 0) → OneQuietRoundIsEnough M
one_quiet_round_is_enough_lem M join laws p rule q quiet r h = record {
  heard_sets = agree_after p rule bit_or union_laws alone q quiet r (omega arith);
  records = λ start. agree_after p rule (join_records join) (record_laws join laws) start q quiet r (omega arith);
}

pub some_round_loses_nobody_lem : SomeRoundLosesNobody
some_round_loses_nobody_lem p rule =
    ⊎_elim
    (λ found. (found.0, omega (arith, found.1), found.2))
    (λ few. absurd (omega (arith, few, rule.enough_stay (suc p.f), rule.in_range.2)))
    (quiet_or_fewer p rule (suc p.f))

pub survivors_agree_lem : (M : Type 0) → SurvivorsAgree M
survivors_agree_lem M join laws p rule r h =
    let found = some_round_loses_nobody_lem p rule in
    one_quiet_round_is_enough_lem M join laws p rule found.0 found.2 r (omega (arith, found.1))
