-- What a script lists: the sizes of the ring, its cards and its crashes.
use Rattle.std.specs.Prelude.{◌≡◌, ℕ, zero, suc, ◌<◌, Bool, true, false, cond, ◌||◌, List, [], ◌∷◌, is_some, Some, None, Option, ◌==◌}
use Rattle.carrier.specs.Losses.{Fate, stays, lost}
use Rattle.joining.specs.Card.{StartCard, region_of, delay_of, modes_of, seed_of}
use Rattle.joining.specs.Delay.{frames_of}
use Rattle.joining.specs.declared.region.Region.{Region}
use Rattle.joining.specs.declared.region.Region.TheVariants.{Unmarked, Fifty, Sixty}
use Rattle.script.specs.declared.command.CardEntry.{CardEntry}
use Rattle.script.specs.declared.command.CrashEntry.{CrashEntry}

pub record Listing : Type 0 where
  pub n : ℕ  -- how many consoles there are
  pub f : ℕ  -- how many of them may be lost
  pub cards : List CardEntry  -- in the order in which they stand
  pub crashes : List CrashEntry

-- the entry with key c, if there is one
abbrev pub entry_for : {A : Type 0} → (A → ℕ) → ℕ → List A → Option A
entry_for key c [] = None
entry_for key c (x ∷ xs) = cond (key x == c) (Some x) (entry_for key c xs)

-- what is listed for console c
abbrev pub card_for : ℕ → List CardEntry → Option CardEntry
card_for c cards = entry_for (λ e. e.console) c cards

abbrev pub crash_for : ℕ → List CrashEntry → Option CrashEntry
crash_for c crashes = entry_for (λ e. e.console) c crashes

abbrev pub has_card : ℕ → List CardEntry → Bool
has_card c cards = is_some (card_for c cards)

abbrev pub has_crash : ℕ → List CrashEntry → Bool
has_crash c crashes = is_some (crash_for c crashes)

-- the first of two that is there
abbrev pub otherwise : Option ℕ → Option ℕ → Option ℕ
otherwise (Some c) later = Some c
otherwise None later = later

-- the lowest console below n that has no card, if one has none
abbrev pub uncarded : ℕ → List CardEntry → Option ℕ
uncarded zero cards = None
uncarded (suc c) cards = otherwise (uncarded c cards) (cond (has_card c cards) None (Some c))

pub record Lowest (n : ℕ) (cards : List CardEntry) (c : ℕ) : Type 0 where
  pub below : c < n
  pub lacks : has_card c cards ≡ false
  pub lower_have : (k : ℕ) → k < c → has_card k cards ≡ true

-- it is the lowest, and there is none exactly where every console has a card
pub record UncardedIsLowest : Type 0 where
  pub is_lowest : (n : ℕ) (cards : List CardEntry) (c : ℕ) → uncarded n cards ≡ Some c → Lowest n cards c
  pub lowest_is : (n : ℕ) (cards : List CardEntry) (c : ℕ) → Lowest n cards c → uncarded n cards ≡ Some c
  pub none_lacks : (n : ℕ) (cards : List CardEntry) → uncarded n cards ≡ None → (c : ℕ) → c < n → has_card c cards ≡ true

-- E is 50, J and U are 60, a space is unmarked, and there is no other letter
abbrev pub region_for : ℕ → Option Region
region_for letter =
    cond (letter == 69) (Some Fifty)
    (cond (letter == 74 || letter == 85) (Some Sixty)
    (cond (letter == 32) (Some Unmarked)
    None))

-- the start card that an entry describes
pub record CardFor (e : CardEntry) (card : StartCard) : Type 0 where
  pub region : region_for e.letter ≡ Some (region_of card)
  pub delay : frames_of (delay_of card) ≡ e.delay
  pub modes : (modes_of card).set ≡ e.modes
  pub seed : (seed_of card).value ≡ e.seed

-- what becomes of a console, by the entry that is listed for it
abbrev pub fate_of_entry : Option CrashEntry → Fate
fate_of_entry None = stays
fate_of_entry (Some e) = lost e.round e.hearers.bits

abbrev pub listed_fate : List CrashEntry → ℕ → Fate
listed_fate crashes c = fate_of_entry (crash_for c crashes)
