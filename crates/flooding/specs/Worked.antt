-- Worked rings: the definitions against numbers.
use Rattle.std.specs.Prelude.{◌≡◌, ℕ, zero, suc}
use Rattle.carrier.specs.Losses.{Fate, stays, lost, losing, quiet, staggered}
use Rattle.carrier.specs.Pattern.{Pattern, RoundRule}
use Rattle.joining.specs.Delay.{delay_join}
use Rattle.joining.specs.Modes.{modes_join}
use Rattle.joining.specs.Region.{region_join}
use Rattle.joining.specs.Seed.{seed_join}
use Rattle.joining.specs.Card.{StartCard, region_of, delay_of, modes_of, seed_of}
use Rattle.joining.specs.declared.delay.Delay.{Delay}
use Rattle.joining.specs.declared.delay.Delay.TheVariants.{One, Two, Three}
use Rattle.joining.specs.declared.modes.Modes.{Modes}
use Rattle.joining.specs.declared.region.Region.{Region}
use Rattle.joining.specs.declared.region.Region.TheVariants.{Unmarked, Fifty}
use Rattle.joining.specs.declared.seed.Seed.{Seed}
use Rattle.flooding.specs.Posts.{posts_in, posts_of}
use Rattle.flooding.specs.Rounds.{Record, join_records, rounds, own, heard_after}

-- what a start card means, and how two such meanings join: part by part
abbrev pub CardMeaning : Type 0
CardMeaning = (Region × Delay) × (Modes × Seed)

abbrev pub card_meaning : StartCard → CardMeaning
card_meaning card = ((region_of card, delay_of card), (modes_of card, seed_of card))

abbrev pub card_join : CardMeaning → CardMeaning → CardMeaning
card_join x y = (
  (region_join x.0.0 y.0.0, delay_join x.0.1 y.0.1),
  (modes_join x.1.0 y.1.0, seed_join x.1.1 y.1.1),
)

-- a card of region, delay, modes and seed
abbrev card : Region → Delay → ℕ → ℕ → CardMeaning
card region delay modes seed = ((region, delay), (record { set = modes }, record { value = seed }))

-- three consoles, of which one may be lost: console 0, marked 50, in round 1, heard by console 1 alone
abbrev pub fate_of_three : ℕ → Fate
fate_of_three zero = lost 1 0x0002
fate_of_three (suc c) = stays

abbrev pub ring_of_three : Pattern
ring_of_three = losing 3 1 fate_of_three

abbrev pub cards_of_three : ℕ → CardMeaning
cards_of_three zero = card Fifty Two 0x0003 5
cards_of_three (suc zero) = card Unmarked Three 0x0006 9
cards_of_three (suc (suc c)) = card Unmarked One 0x0007 7

abbrev pub three_after : ℕ → ℕ → Record CardMeaning
three_after = rounds (join_records card_join) ring_of_three (own cards_of_three)

pub record WorkedRings : Type 0 where
  pub three_obeys : RoundRule ring_of_three
  -- after round 1 consoles 1 and 2 differ: one round is not enough where one console may be lost
  pub console_0_after_1 : three_after 1 0 ≡ record { value = card Fifty Two 0x0003 5; heard = 0x0001 }
  pub console_1_after_1 : three_after 1 1 ≡ record { value = card Fifty Three 0x0002 5; heard = 0x0007 }
  pub console_2_after_1 : three_after 1 2 ≡ record { value = card Unmarked Three 0x0006 7; heard = 0x0006 }
  -- after round 2 they agree
  pub console_0_after_2 : three_after 2 0 ≡ record { value = card Fifty Two 0x0003 5; heard = 0x0001 }
  pub console_1_after_2 : three_after 2 1 ≡ record { value = card Fifty Three 0x0002 5; heard = 0x0007 }
  pub console_2_after_2 : three_after 2 2 ≡ record { value = card Fifty Three 0x0002 5; heard = 0x0007 }
  pub posts_in_round_1 : posts_in ring_of_three 0 ≡ 5
  pub posts_in_round_2 : posts_in ring_of_three 1 ≡ 4
  pub posts_in_both : posts_of ring_of_three 2 ≡ 9
  -- a staggered ring of four that loses consoles 0 and 1: consoles 2 and 3 differ after two rounds and agree after three
  pub console_2_of_four_after_2 : heard_after (staggered 4 2) 2 2 ≡ 0x000f
  pub console_3_of_four_after_2 : heard_after (staggered 4 2) 2 3 ≡ 0x000e
  pub console_2_of_four_after_3 : heard_after (staggered 4 2) 3 2 ≡ 0x000f
  pub console_3_of_four_after_3 : heard_after (staggered 4 2) 3 3 ≡ 0x000f
  pub posts_of_four_after_3 : posts_of (staggered 4 2) 3 ≡ 19
  -- a quiet ring of one
  pub one_posts : posts_in (quiet 1 0) 0 ≡ 1
  pub one_hears : heard_after (quiet 1 0) 1 0 ≡ 0x0001
