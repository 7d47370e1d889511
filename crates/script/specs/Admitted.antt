-- Which scripts are admitted, and where and why any other is refused, declared over the list of its commands.
use Rattle.std.specs.Prelude.{◌≡◌, ℕ, ◌+◌, ◌^◌, ◌<◌, ◌≤◌, Bool, true, false, not, ◌||◌, List, [], ◌∷◌, ◌++◌, map, length, is_some, Decides, filter, ◌==◌, ◌≢◌, nat_le, nat_lt}
use Rattle.carrier.specs.Sets.{Within, everybody}
use Rattle.carrier.specs.Sizes.{InRange}
use Rattle.refusal.specs.declared.command.CommandFault.{CommandFault}
use Rattle.refusal.specs.declared.command.CommandFault.TheVariants.{Reader, NotAllowedHere, Content}
use Rattle.refusal.specs.declared.content.ContentFault.{ContentFault}
use Rattle.refusal.specs.declared.load.LoadFault.{LoadFault}
use Rattle.refusal.specs.declared.load.Stopped.{Stopped}
use Rattle.refusal.specs.declared.reader.ReaderFault.TheVariants.{NoCommand, Incomplete}
use Rattle.script.specs.Format.{Statement, link, card, crash, remark, end, bytes_of, Whole, script_of, Unknown, Unfinished}
use Rattle.script.specs.Listing.{Listing, has_card, has_crash, region_for}
use Rattle.script.specs.Rules.{Standing, nothing, under_way, ended, Rule, in_range, readable, rules}
use Rattle.script.specs.declared.command.CardEntry.{CardEntry}
use Rattle.script.specs.declared.command.CrashEntry.{CrashEntry}
use Rattle.std.specs.List.{AllByRecursion}

-- no two elements have the same key
abbrev pub NoTwo : {A : Type 0} → (A → ℕ) → List A → Type 0
NoTwo key [] = Unit {0}
NoTwo key (x ∷ xs) = AllByRecursion (λ y. key y ≢ key x) xs × NoTwo key xs

-- the rules of content, as statements about what is listed
pub record Sound (l : Listing) : Type 0 where
  pub sizes : InRange l.n l.f
  pub cards_in_ring : AllByRecursion (λ e. e.console < l.n) l.cards
  pub one_card_each : NoTwo (λ e. e.console) l.cards
  pub cards_readable : AllByRecursion (λ e. (is_some (region_for e.letter) ≡ true) × (e.delay ≤ 15)) l.cards
  pub crashes_in_ring : AllByRecursion (λ e. e.console < l.n) l.crashes
  pub rounds_in_time : AllByRecursion (λ e. (1 ≤ e.round) × (e.round ≤ l.f + 1)) l.crashes
  pub hearers_in_ring : AllByRecursion (λ e. Within e.hearers.bits (everybody l.n)) l.crashes
  pub one_crash_each : NoTwo (λ e. e.console) l.crashes
  pub few_crashes : length l.crashes ≤ l.f

-- every console of the ring has a card
abbrev pub Complete : Listing → Type 0
Complete l = (c : ℕ) → c < l.n → has_card c l.cards ≡ true

-- the commands that say it, without remarks: one LINK, CARDs, CRASHes, and at the end one END
abbrev pub ring_commands : Listing → List Statement
ring_commands l = link l.n l.f ∷ map card l.cards ++ map crash l.crashes

-- the commands that stand, without remarks
abbrev pub commands_of : Standing → List Statement
commands_of nothing = []
commands_of (under_way l) = ring_commands l
commands_of (ended l) = ring_commands l ++ end ∷ []

abbrev pub no_remark : Statement → Bool
no_remark (link n f) = true
no_remark (card e) = true
no_remark (crash e) = true
no_remark (remark text) = false
no_remark end = true

-- what stands keeps the rules of content, and behind END every console has a card
abbrev pub WithinContent : Standing → Type 0
WithinContent nothing = Unit {0}
WithinContent (under_way l) = Sound l
WithinContent (ended l) = Sound l × Complete l

-- END is the last command of all, with no remark behind it
abbrev pub EndsWell : List Statement → Standing → Type 0
EndsWell before nothing = Unit {0}
EndsWell before (under_way l) = Unit {0}
EndsWell before (ended l) = (front : List Statement) × (before ≡ front ++ end ∷ [])

-- these commands are whole, in order and within content, and this is what they say
pub record Says (before : List Statement) (s : Standing) : Type 0 where
  pub whole : AllByRecursion Whole before
  pub in_order : filter no_remark before ≡ commands_of s
  pub ends_well : EndsWell before s
  pub within_content : WithinContent s

-- the script is these commands
pub record Admitted (script : List ℕ) (l : Listing) (count : ℕ) : Type 0 where
  pub commands : List Statement
  pub bytes : script ≡ script_of commands
  pub says : Says commands (ended l)
  pub counted : count ≡ length commands
  pub short : length script ≤ 4096

-- the rule of that refusal is broken, and none that is judged earlier
pub record FirstBroken (judged : List Rule) (fault : CommandFault) : Type 0 where
  pub earlier : List Rule
  pub later : List Rule
  pub stands : judged ≡ earlier ++ record { broken = true; fault = fault } ∷ later
  pub kept : AllByRecursion (λ r. r.broken ≡ false) earlier

-- what the tests of the rules amount to; those that are not here compare two numbers
pub record TestsMean : Type 0 where
  pub sizes : (n f : ℕ) → Decides (in_range n f) (InRange n f)
  pub no_card : (c : ℕ) (cards : List CardEntry) → Decides (not (has_card c cards)) (AllByRecursion (λ e. e.console ≢ c) cards)
  pub no_crash : (c : ℕ) (crashes : List CrashEntry) → Decides (not (has_crash c crashes)) (AllByRecursion (λ e. e.console ≢ c) crashes)
  pub card_readable : (e : CardEntry) → Decides (readable e) ((is_some (region_for e.letter) ≡ true) × (e.delay ≤ 15))
  pub round_in_time : (f round : ℕ) → Decides (not (round == 0 || nat_lt (f + 1) round)) ((1 ≤ round) × (round ≤ f + 1))
  pub hearers_in_ring : (n hearers : ℕ) → Decides (not (nat_le (2 ^ n) hearers)) (Within hearers (everybody n))

-- END is still to come
abbrev pub Unended : Standing → Type 0
Unended nothing = Unit {0}
Unended (under_way l) = Unit {0}
Unended (ended l) = ⊥

-- no ring is described by commands that begin with those that stand and go on with this one
abbrev pub Misplaced : Standing → Statement → Type 0
Misplaced s c = (no_remark c ≡ true) × ((t : Standing) → commands_of t ≢ commands_of s ++ c ∷ [])

-- what stands behind the commands before is refused with that fault
pub data Breaks (s : Standing) (rest : List ℕ) : CommandFault → Type 0 where
  no_command : Unended s → Unknown rest → Breaks s rest (Reader NoCommand)
  incomplete : Unended s → Unfinished rest → Breaks s rest (Reader Incomplete)
  misplaced : Unended s → (c : Statement) (more : List ℕ) → Whole c → rest ≡ bytes_of c ++ more → Misplaced s c → Breaks s rest NotAllowedHere
  breaks_content : (fault : ContentFault) → Unended s → (c : Statement) (more : List ℕ) → Whole c → rest ≡ bytes_of c ++ more → FirstBroken (rules s c) (Content fault)
      → Breaks s rest (Content fault)
  behind_end : (l : Listing) → s ≡ ended l → (b : ℕ) (more : List ℕ) → rest ≡ b ∷ more → Breaks s rest NotAllowedHere

-- whole commands stand before the place, so many of them, in order and within content, and what comes then is refused
pub record StoppedAt (script : List ℕ) (stopped : Stopped) : Type 0 where
  pub before : List Statement
  pub standing : Standing
  pub rest : List ℕ
  pub bytes : script ≡ script_of before ++ rest
  pub says : Says before standing
  pub breaks : Breaks standing rest stopped.fault
  pub placed : stopped.place ≡ length (script_of before)
  pub counted : stopped.count ≡ length before
  pub short : length script ≤ 4096

-- the one refusal of a script that is not admitted; a short list is no fault of the script's
abbrev pub Refused : List ℕ → LoadFault → Type 0
Refused script LoadFault.TooLong = 4096 < length script
Refused script (LoadFault.Command stopped) = StoppedAt script stopped
Refused script (LoadFault.List lower) = ⊥
