-- What each command may be refused for where it stands, in the order in which it is judged.
use Rattle.std.specs.Prelude.{◌≡◌, ℕ, ◌+◌, ◌^◌, Bool, true, false, cond, not, ◌&&◌, ◌||◌, List, [], ◌∷◌, ◌++◌, length, is_some, Some, None, Ok, Err, Option, Result, ◌==◌, nat_le, nat_lt}
use Rattle.joining.specs.Card.{StartCard}
use Rattle.refusal.specs.declared.command.CommandFault.{CommandFault}
use Rattle.refusal.specs.declared.command.CommandFault.TheVariants.{NotAllowedHere, Content}
use Rattle.refusal.specs.declared.content.ContentFault.{ContentFault}
use Rattle.refusal.specs.declared.content.ContentFault.TheVariants.{SizesOutOfRange, ConsoleOutOfRange, SecondCard, CardOutOfRange, RoundOutOfRange, HearersOutOfRange, SecondCrash, TooManyCrashes, CardMissing}
use Rattle.script.specs.Format.{Statement, link, card, crash, remark, end}
use Rattle.script.specs.Listing.{Listing, CardFor, has_card, has_crash, uncarded, region_for}
use Rattle.script.specs.declared.command.CardEntry.{CardEntry}
use Rattle.script.specs.declared.command.CrashEntry.{CrashEntry}

-- what the commands before a place say: nothing yet, or a ring that is being described, or one that is described to the end
pub data Standing : Type 0 where
  nothing : Standing
  under_way : Listing → Standing
  ended : Listing → Standing

-- a test, and the refusal where it holds
pub record Rule : Type 0 where
  pub broken : Bool
  pub fault : CommandFault

-- a rule of content, and one of order
abbrev pub refuses_if : Bool → ContentFault → Rule
refuses_if broken fault = record { broken = broken; fault = Content fault }

abbrev pub misplaced_if : Bool → Rule
misplaced_if broken = record { broken = broken; fault = NotAllowedHere }

-- 1 to 16 consoles, and fewer losses
abbrev pub in_range : ℕ → ℕ → Bool
in_range n f = nat_le 1 n && (nat_le n 16 && nat_lt f n)

-- the letter is a region's, and the delay is 15 at most
abbrev pub readable : CardEntry → Bool
readable e = is_some (region_for e.letter) && nat_le e.delay 15

-- what an entry is turned into: the card that it describes, or the refusal of its console where it describes none
abbrev pub CardRead : CardEntry → Result StartCard ContentFault → Type 0
CardRead e (Ok made) = CardFor e made × (readable e ≡ true)
CardRead e (Err fault) = (readable e ≡ false) × (fault ≡ CardOutOfRange e.console)

-- a card's console, whether it has one already, and what the card says
abbrev pub card_rules : Listing → CardEntry → List Rule
card_rules l e =
    refuses_if (nat_le l.n e.console) (ConsoleOutOfRange e.console)
    ∷ refuses_if (has_card e.console l.cards) (SecondCard e.console)
    ∷ refuses_if (not (readable e)) (CardOutOfRange e.console)
    ∷ []

-- a crash's console, round and hearers, whether it is lost already, and how many are
abbrev pub crash_rules : Listing → CrashEntry → List Rule
crash_rules l e =
    refuses_if (nat_le l.n e.console) (ConsoleOutOfRange e.console)
    ∷ refuses_if (e.round == 0 || nat_lt (l.f + 1) e.round) (RoundOutOfRange e.console e.round)
    ∷ refuses_if (nat_le (2 ^ l.n) e.hearers.bits) (HearersOutOfRange e.console e.round)
    ∷ refuses_if (has_crash e.console l.crashes) (SecondCrash e.console e.round)
    ∷ refuses_if (nat_le l.f (length l.crashes)) (TooManyCrashes e.console e.round)
    ∷ []

-- END asks for every console's card
abbrev pub missing_card : Option ℕ → List Rule
missing_card None = []
missing_card (Some c) = refuses_if true (CardMissing c) ∷ []

-- LINK comes first, then CARDs, then CRASHes, then END; a REMARK stands anywhere before END
abbrev pub rules : Standing → Statement → List Rule
rules nothing (link n f) = refuses_if (not (in_range n f)) SizesOutOfRange ∷ []
rules nothing (card e) = misplaced_if true ∷ []
rules nothing (crash e) = misplaced_if true ∷ []
rules nothing (remark text) = []
rules nothing end = misplaced_if true ∷ []
rules (under_way l) (link n f) = misplaced_if true ∷ []
rules (under_way l) (card e) = misplaced_if (nat_lt 0 (length l.crashes)) ∷ card_rules l e
rules (under_way l) (crash e) = crash_rules l e
rules (under_way l) (remark text) = []
rules (under_way l) end = missing_card (uncarded l.n l.cards)
rules (ended l) s = misplaced_if true ∷ []

-- the refusal of the first rule that is broken
abbrev pub first_broken : List Rule → Option CommandFault
first_broken [] = None
first_broken (r ∷ more) = cond r.broken (Some r.fault) (first_broken more)

-- a listing with one entry more
abbrev pub with_card : Listing → CardEntry → Listing
with_card l e = record { n = l.n; f = l.f; cards = l.cards ++ e ∷ []; crashes = l.crashes }

abbrev pub with_crash : Listing → CrashEntry → Listing
with_crash l e = record { n = l.n; f = l.f; cards = l.cards; crashes = l.crashes ++ e ∷ [] }

-- what stands after a command that breaks no rule
abbrev pub advance : Standing → Statement → Standing
advance nothing (link n f) = under_way (record { n = n; f = f; cards = []; crashes = [] })
advance nothing (card e) = nothing
advance nothing (crash e) = nothing
advance nothing (remark text) = nothing
advance nothing end = nothing
advance (under_way l) (link n f) = under_way l
advance (under_way l) (card e) = under_way (with_card l e)
advance (under_way l) (crash e) = under_way (with_crash l e)
advance (under_way l) (remark text) = under_way l
advance (under_way l) end = ended l
advance (ended l) s = ended l
