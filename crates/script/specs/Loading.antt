-- What a load answers, and what it leaves behind.
use Rattle.std.specs.Prelude.{◌≡◌, ℕ, ◌<◌, ◌≤◌, false, List, length, drop, Ok, Err, Result, slice_index_or}
use Rattle.carrier.specs.Losses.{Fate, stays, lost, losing}
use Rattle.carrier.specs.Pattern.{Pattern}
use Rattle.joining.specs.Card.{StartCard}
use Rattle.refusal.specs.declared.load.LoadFault.{LoadFault}
use Rattle.script.specs.Admitted.{Admitted, Refused}
use Rattle.script.specs.Fates.{fates}
use Rattle.script.specs.Listing.{Listing, CardFor, has_crash}
use Rattle.script.specs.Verdict.{accepted, refused, verdict}
use Rattle.script.specs.declared.loader.Loaded.{Loaded}
use Rattle.script.specs.declared.scripted.Scripted.{Scripted}
use Rattle.std.specs.List.{AllByRecursion}

-- what a scripted carrier decides
abbrev pub pattern_of : Scripted → Pattern
pattern_of c = losing c.sizes.n c.sizes.f (fates c.table.entries)

-- the carrier has LINK's sizes, and loses exactly the consoles listed, in the rounds listed, heard by those listed
pub record CarrierLeft (l : Listing) (after : Scripted) : Type 0 where
  pub fate : ℕ → Fate
  pub pattern : pattern_of after ≡ losing l.n l.f fate
  pub lost_as_listed : AllByRecursion (λ e. fate e.console ≡ lost e.round e.hearers.bits) l.crashes
  pub others_stay : (c : ℕ) → has_crash c l.crashes ≡ false → fate c ≡ stays

-- the card that is listed for each console lies in its place, and every place from n on is as it was
pub record CardsLeft (l : Listing) (before after : List StartCard) : Type 0 where
  pub dealt : AllByRecursion (λ e. (d : StartCard) → CardFor e (slice_index_or after e.console d)) l.cards
  pub others : drop l.n after ≡ drop l.n before
  pub long : length after ≡ length before

-- the script is admitted and the list is long enough: the answer is what LINK says and how many commands there are
pub record Accepts (script : List ℕ) (before : List StartCard) (r : Loaded) (carrier : Scripted) (after : List StartCard) : Type 0 where
  pub listing : Listing
  pub judged : verdict script ≡ accepted listing r.commands
  pub admitted : Admitted script listing r.commands
  pub enough : listing.n ≤ length before
  pub n_is : r.sizes.n ≡ listing.n
  pub f_is : r.sizes.f ≡ listing.f
  pub carrier_left : CarrierLeft listing carrier
  pub cards_left : CardsLeft listing before after

-- the script is admitted, and the list has fewer places than the ring has consoles
pub record ListTooShort (script : List ℕ) (cards : List StartCard) : Type 0 where
  pub listing : Listing
  pub count : ℕ
  pub judged : verdict script ≡ accepted listing count
  pub admitted : Admitted script listing count
  pub short : length cards < listing.n

-- the fault is the script's, or at last the list's
abbrev pub Refuses : List ℕ → List StartCard → LoadFault → Type 0
Refuses script cards LoadFault.TooLong = (verdict script ≡ refused LoadFault.TooLong) × Refused script LoadFault.TooLong
Refuses script cards (LoadFault.Command at) = (verdict script ≡ refused (LoadFault.Command at)) × Refused script (LoadFault.Command at)
Refuses script cards (LoadFault.List lower) = ListTooShort script cards

-- from a carrier and a card list before to those after
abbrev pub Loads : List ℕ → Scripted → List StartCard → Result Loaded LoadFault → Scripted → List StartCard → Type 0
Loads script carrier cards (Ok r) carrier_after cards_after = Accepts script cards r carrier_after cards_after
Loads script carrier cards (Err fault) carrier_after cards_after = Refuses script cards fault × (carrier_after ≡ carrier) × (cards_after ≡ cards)
