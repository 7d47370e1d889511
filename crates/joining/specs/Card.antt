-- The start card by its four parts.
use Rattle.joining.specs.declared.both.Both.{Both}
use Rattle.joining.specs.declared.delay.Delay.{Delay}
use Rattle.joining.specs.declared.modes.Modes.{Modes}
use Rattle.joining.specs.declared.region.Region.{Region}
use Rattle.joining.specs.declared.seed.Seed.{Seed}

abbrev pub StartCard : Type 0
StartCard = Both (Both Region Delay) (Both Modes Seed)

abbrev pub start_card : Region → Delay → Modes → Seed → StartCard
start_card region delay modes seed = record {
  left = record { left = region; right = delay };
  right = record { left = modes; right = seed };
}

abbrev pub region_of : StartCard → Region
region_of card = card.left.left

abbrev pub delay_of : StartCard → Delay
delay_of card = card.left.right

abbrev pub modes_of : StartCard → Modes
modes_of card = card.right.left

abbrev pub seed_of : StartCard → Seed
seed_of card = card.right.right
