-- What the loader holds of the commands that it has read.
use Rattle.std.specs.Prelude.{◌≡◌, ℕ, ◌+◌, ◌<◌, ◌≤◌, List, [], ◌∷◌, length, drop, Some, None, Ok, Err, Option, Result, slice_index_or}
use Rattle.joining.specs.Card.{StartCard}
use Rattle.refusal.specs.declared.command.CommandFault.{CommandFault}
use Rattle.refusal.specs.declared.command.CommandFault.TheVariants.{Content}
use Rattle.refusal.specs.declared.content.ContentFault.{ContentFault}
use Rattle.refusal.specs.declared.load.LoadFault.{LoadFault}
use Rattle.refusal.specs.declared.load.Stopped.{Stopped}
use Rattle.script.specs.Admitted.{WithinContent}
use Rattle.script.specs.Fates.{fates}
use Rattle.script.specs.Format.{Statement, bytes_of}
use Rattle.script.specs.Listing.{Listing, CardFor, card_for, listed_fate}
use Rattle.script.specs.Rules.{Standing, nothing, under_way, ended, rules, first_broken, advance}
use Rattle.script.specs.Verdict.{accepted, refused, stops, goes, judge, verdict}
use Rattle.script.specs.declared.command.CardEntry.{CardEntry}
use Rattle.script.specs.declared.command.CrashEntry.{CrashEntry}
use Rattle.script.specs.declared.loader.Progress.{Progress}
use Rattle.script.specs.declared.plan.Phase.{Phase}
use Rattle.script.specs.declared.plan.Phase.TheVariants.{Opening, Cards, Crashes, Ended}
use Rattle.script.specs.declared.plan.Plan.{Plan}

-- what is listed, and what may come next
abbrev pub cards_of : Standing → List CardEntry
cards_of nothing = []
cards_of (under_way l) = l.cards
cards_of (ended l) = l.cards

abbrev pub crashes_of : Standing → List CrashEntry
crashes_of nothing = []
crashes_of (under_way l) = l.crashes
crashes_of (ended l) = l.crashes

abbrev pub phase_behind : List CrashEntry → Phase
phase_behind [] = Cards
phase_behind (e ∷ more) = Crashes

abbrev pub phase_of : Standing → Phase
phase_of nothing = Opening
phase_of (under_way l) = phase_behind l.crashes
phase_of (ended l) = Ended

-- the place of a console in the table of cards holds the card that is listed for it
abbrev pub Dealt : Option StartCard → Option CardEntry → Type 0
Dealt None None = Unit {0}
Dealt None (Some e) = ⊥
Dealt (Some card) None = ⊥
Dealt (Some card) (Some e) = CardFor e card

-- the sizes are LINK's
abbrev pub SizedAs : Plan → Standing → Type 0
SizedAs p nothing = Unit {0}
SizedAs p (under_way l) = (p.sizes.n ≡ l.n) × (p.sizes.f ≡ l.f)
SizedAs p (ended l) = (p.sizes.n ≡ l.n) × (p.sizes.f ≡ l.f)

-- the plan is what the commands so far say
pub record Holds (p : Plan) (s : Standing) : Type 0 where
  pub phase : p.phase ≡ phase_of s
  pub sizes : SizedAs p s
  pub cards : (c : ℕ) → Dealt (slice_index_or p.cards c None) (card_for c (cards_of s))
  pub places : length p.cards ≡ 16
  pub fate : (c : ℕ) → fates p.table.entries c ≡ listed_fate (crashes_of s) c
  pub entries : length p.table.entries ≡ 16
  pub losses : p.losses ≡ length (crashes_of s)
  pub content : WithinContent s

-- what becomes of a plan by one command: it breaks no rule and is added, or it is refused by the first rule that it breaks
abbrev pub Admits : Standing → Statement → Result Plan CommandFault → Type 0
Admits s c (Ok p) = (first_broken (rules s c) ≡ None) × Holds p (advance s c)
Admits s c (Err fault) = first_broken (rules s c) ≡ Some fault

abbrev pub Takes : Standing → Statement → Result Plan ContentFault → Type 0
Takes s c (Ok p) = (first_broken (rules s c) ≡ None) × Holds p (advance s c)
Takes s c (Err fault) = first_broken (rules s c) ≡ Some (Content fault)

abbrev pub Checks : Standing → Statement → Result (Unit {0}) ContentFault → Type 0
Checks s c (Ok u) = first_broken (rules s c) ≡ None
Checks s c (Err fault) = first_broken (rules s c) ≡ Some (Content fault)

-- one command more, by the reader and by its rules
pub record JudgedOn (s : Standing) (script : List ℕ) (before after : Progress) : Type 0 where
  pub command : Statement
  pub judged : judge s (drop before.place script) ≡ goes (advance s command) command (drop after.place script)
  pub holds : Holds after.plan (advance s command)
  pub place_is : after.place ≡ before.place + length (bytes_of command)
  pub count_is : after.count ≡ before.count + 1

abbrev pub Judges : Standing → List ℕ → Progress → Result Progress CommandFault → Type 0
Judges s script before (Ok after) = JudgedOn s script before after
Judges s script before (Err fault) = judge s (drop before.place script) ≡ stops fault

-- the same, with the place and the count of what is refused
abbrev pub Steps : Standing → List ℕ → Progress → Result Progress Stopped → Type 0
Steps s script before (Ok after) = JudgedOn s script before after
Steps s script before (Err at) = (judge s (drop before.place script) ≡ stops at.fault) × (at.place ≡ before.place) × (at.count ≡ before.count)

-- a whole script
pub record ReadTo (script : List ℕ) (p : Plan) (count : ℕ) : Type 0 where
  pub listing : Listing
  pub judged : verdict script ≡ accepted listing count
  pub holds : Holds p (ended listing)

abbrev pub ReadsAll : List ℕ → Result Progress Stopped → Type 0
ReadsAll script (Ok r) = ReadTo script r.plan r.count
ReadsAll script (Err at) = verdict script ≡ refused (LoadFault.Command at)

-- the places below n hold the cards that were dealt for them, and the others what they held
pub record Filled (dealt : List (Option StartCard)) (n : ℕ) (before after : List StartCard) : Type 0 where
  pub below : (c : ℕ) (x d : StartCard) → c < n → slice_index_or dealt c None ≡ Some x → slice_index_or after c d ≡ x
  pub above : (c : ℕ) (d : StartCard) → n ≤ c → slice_index_or after c d ≡ slice_index_or before c d
