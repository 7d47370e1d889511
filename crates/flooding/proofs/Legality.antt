-- A round is a legal round of the synchronous crash model, and any number of rounds a run of it.
use Rattle.std.proofs.Common.{◌≡◌, ℕ, suc, sym, refl, subst, ⊎_elim}
use lib.Bits.{bit_or}
use Rattle.carrier.specs.Pattern.{Pattern, RoundRule}
use Rattle.carrier.specs.Sets.{Member, Members}
use Rattle.joining.specs.Semilattice.{Semilattice}
use Rattle.flooding.specs.Model.{RoundIsLegal, RoundsAreLegal}
use Rattle.flooding.specs.Rounds.{Record, join_records, senders, round, rounds}
use Rattle.flooding.specs.Trees.{Tree, leaves, value_over}
use Rattle.flooding.proofs.Joins.{value_is_least}
use Rattle.flooding.proofs.Records.{record_laws, round_heard}
use Rattle.flooding.proofs.Rounds.{senders_are, senders_are_heard, survivors_are_senders, round_down, round_each, round_least, round_from}
use Rattle.flooding.proofs.Sets.{union_laws, below_within}

module _ {M : Type 0} (join : M → M → M) (laws : Semilattice join) (p : Pattern) (rule : RoundRule p) (r : ℕ) (before : ℕ → Record M) where
  itself : (i : ℕ) → Member i (p.up (suc r)) → Member i (senders p r i)
  itself i is_up = survivors_are_senders p rule r i is_up i is_up

  joins : (i : ℕ) → Member i (p.up (suc r)) → (t : Tree) → leaves t ≡ senders p r i
      → round (join_records join) p r before i ≡ value_over (join_records join) before t
  joins i is_up =
      value_is_least _ (record_laws join laws) before (senders p r i) _
      (λ j m. let from = (senders_are p r i j).0 m in round_each _ p (record_laws join laws) r before i j is_up from.0 from.1)
      (λ z each. round_least _ p (record_laws join laws) r before i z
      (each i (itself i is_up))
      (λ _ j h collects_j. each j ((senders_are p r i j).1 (h, collects_j))))

  unites : (i : ℕ) → Member i (p.up (suc r))
      → Members (round (join_records join) p r before i).heard (λ c. (j : ℕ) × Member j (senders p r i) × Member c (before j).heard)
  unites i is_up c = (
    (λ m. ⊎_elim
        (λ first. (i, itself i is_up, first))
        (λ from. (from.0, (senders_are p r i from.0).1 (from.1, from.2), from.3))
        (round_from p r (λ j. (before j).heard) i c is_up (subst (Member c) (round_heard join p r before i) m))),
    (λ some. let from = (senders_are p r i some.0).0 some.1 in
        subst (Member c) (sym (round_heard join p r before i))
        (below_within _ _ (round_each bit_or p union_laws r (λ j. (before j).heard) i some.0 is_up from.0 from.1) c some.2)),
  )

pub round_is_legal_lem : (M : Type 0) → RoundIsLegal M
round_is_legal_lem M join laws p rule r before = record {
  down_stays_down = λ i down is_up. down (rule.none_returns r i is_up);
  down_keeps_its_record = round_down (join_records join) p r before;
  senders_are_heard = senders_are_heard p rule r;
  collects_from_survivors = survivors_are_senders p rule r;
  collects_from_itself = itself join laws p rule r before;
  collects_from_none_down = λ i j m. ((senders_are_heard p rule r i j).0 m).0;
  record_is_join = joins join laws p rule r before;
  heard_is_union = unites join laws p rule r before;
}

pub rounds_are_legal_lem : (M : Type 0) → RoundsAreLegal M
unfolding rounds
rounds_are_legal_lem M join laws p rule start = record {
  begins = refl;
  goes_on = λ r. round_is_legal_lem M join laws p rule r (rounds (join_records join) p start r);
}
