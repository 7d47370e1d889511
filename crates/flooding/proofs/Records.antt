-- Records obey the three laws where their values do, and the rounds of records are those of their parts.
use Rattle.std.proofs.Common.{◌≡◌, ℕ, refl}
use lib.Bits.{bit_or}
use Rattle.carrier.specs.Pattern.{Pattern}
use Rattle.joining.specs.Semilattice.{Semilattice}
use Rattle.flooding.specs.Rounds.{Record, join_records, round, rounds}
use Rattle.flooding.proofs.Rounds.{round_through, rounds_through}
use Rattle.flooding.proofs.Sets.{union_laws}

module _ {M : Type 0} (join : M → M → M) where
  pub record_laws : Semilattice join → Semilattice (join_records join)
  record_laws laws = record {
    order = λ x y k. record { value = laws.order x.value y.value k; heard = union_laws.order x.heard y.heard k };
    grouping = λ x y z k. record {
      value = laws.grouping x.value y.value z.value k;
      heard = union_laws.grouping x.heard y.heard z.heard k;
    };
    itself = λ x k. record { value = laws.itself x.value k; heard = union_laws.itself x.heard k };
  }

  module _ (p : Pattern) where
    pub round_heard : (r : ℕ) (before : ℕ → Record M) (i : ℕ) → (round (join_records join) p r before i).heard ≡ round bit_or p r (λ j. (before j).heard) i
    round_heard = round_through (join_records join) p bit_or (λ x. x.heard) (λ x y. refl)

    pub rounds_heard : (start : ℕ → Record M) (r i : ℕ) → (rounds (join_records join) p start r i).heard ≡ rounds bit_or p (λ j. (start j).heard) r i
    rounds_heard = rounds_through (join_records join) p bit_or (λ x. x.heard) (λ x y. refl)

    pub rounds_value : (start : ℕ → Record M) (r i : ℕ) → (rounds (join_records join) p start r i).value ≡ rounds join p (λ j. (start j).value) r i
    rounds_value = rounds_through (join_records join) p join (λ x. x.value) (λ x y. refl)
