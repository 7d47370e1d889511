-- The worked rings, by computing.
use Rattle.std.proofs.Common.{ℕ, zero, suc, refl, arith}
use Rattle.carrier.specs.Pattern.{RoundRule}
use Rattle.carrier.specs.Sets.{those}
use Rattle.carrier.specs.Losing.{Sound, losing_obeys}
use Rattle.carrier.specs.SetsLemmas.{alone_members}
use Rattle.flooding.specs.Rounds.{gathered, round, rounds}
use Rattle.flooding.specs.Worked.{fate_of_three, ring_of_three, WorkedRings}

sound_of_three : (c : ℕ) → Sound 3 (fate_of_three c)
sound_of_three zero = (omega arith, λ c m. omega (arith, (alone_members 1 c).0 m))
sound_of_three (suc c) = tt

three_obeys : RoundRule ring_of_three
three_obeys = losing_obeys 3 1 fate_of_three (omega arith, omega arith, omega arith) (omega arith) (λ c h. sound_of_three c)

pub worked_rings_lem : WorkedRings
unfolding those gathered round rounds
worked_rings_lem = record {
  three_obeys = three_obeys;
  console_0_after_1 = refl;
  console_1_after_1 = refl;
  console_2_after_1 = refl;
  console_0_after_2 = refl;
  console_1_after_2 = refl;
  console_2_after_2 = refl;
  posts_in_round_1 = refl;
  posts_in_round_2 = refl;
  posts_in_both = refl;
  console_2_of_four_after_2 = refl;
  console_3_of_four_after_2 = refl;
  console_2_of_four_after_3 = refl;
  console_3_of_four_after_3 = refl;
  posts_of_four_after_3 = refl;
  one_posts = refl;
  one_hears = refl;
}
