-- A plan that holds what stands goes on holding it with one command more.
use Rattle.std.proofs.Common.{◌≡◌, ℕ, ◌+◌, ◌^◌, ◌<◌, Bool, true, false, List, [], ◌∷◌, ◌++◌, length, get_or, set, is_some, Some, None, Ok, Option, Decides, not, leb, sym, refl, ap, ◌∙◌, subst, ⊎_elim, arith, length-append, length-set, get_or-set_other, get_or-set_same}
use Rattle.carrier.specs.Losses.{stays, lost}
use Rattle.carrier.specs.Sets.{Within, everybody}
use Rattle.joining.specs.Card.{StartCard}
use Rattle.script.specs.Fates.{no_loss, fate_of, fates}
use Rattle.script.specs.Format.{card, crash, end}
use Rattle.script.specs.Listing.{Listing, CardFor, card_for, has_card, has_crash, fate_of_entry, listed_fate}
use Rattle.script.specs.Plans.{phase_behind, Dealt, Holds, Takes}
use Rattle.script.specs.Rules.{under_way, readable, rules}
use Rattle.script.specs.declared.command.CardEntry.{CardEntry}
use Rattle.script.specs.declared.command.CrashEntry.{CrashEntry}
use Rattle.script.specs.declared.plan.Phase.TheVariants.{Crashes, Ended}
use Rattle.script.specs.declared.plan.Plan.{Plan}
use Rattle.script.specs.declared.table.Loss.{Loss}
use Rattle.script.proofs.Content.{Passes, hearers_below, below_hearers, card_next, crash_next, end_next}
use Rattle.script.proofs.Entries.{absent_others, entry_kept, entry_new, none_broken}
use Rattle.std.proofs.lemmas.Bool.Decides.{nat_tests}
use Rattle.std.proofs.lemmas.Bool.{cases_eq, leb-false}

-- a card lies in the table exactly where one is listed
pub dealt_listed : (x : Option StartCard) (o : Option CardEntry) → Dealt x o → is_some x ≡ is_some o
dealt_listed x o h = grind arith

-- one card more
pub card_passes : (l : Listing) (e : CardEntry) → length l.crashes ≡ 0 → e.console < l.n → has_card e.console l.cards ≡ false → readable e ≡ true
    → Passes (under_way l) (card e)
card_passes l e none below new read = grind (arith, nat_tests)

dealt_more : (table : List (Option StartCard)) (cards : List CardEntry) (e : CardEntry) (x : StartCard) → length table ≡ 16 → e.console < 16
    → ((c : ℕ) → Dealt (get_or table c None) (card_for c cards)) → has_card e.console cards ≡ false → CardFor e x
    → (c : ℕ) → Dealt (get_or (set table e.console (Some x)) c None) (card_for c (cards ++ e ∷ []))
dealt_more table cards e x size below h new is c =
    ⊎_elim
    (λ here.
    let listed = entry_new (λ d. d.console) e.console cards e refl (absent_others (λ d. d.console) e.console cards new) in
    rw (← here) (rw (listed, get_or-set_same table e.console (Some x) None (omega arith)) is))
    (λ other. rw (entry_kept (λ (d : CardEntry). d.console) c cards e other, get_or-set_other table e.console c (Some x) None (λ z. other (sym z))) (h c))
    (cases_eq e.console c)

abbrev plan_with_card : Plan → ℕ → StartCard → Plan
plan_with_card p console x = record { phase = p.phase; sizes = p.sizes; cards = set p.cards console (Some x); table = p.table; losses = p.losses }

pub card_taken : (p : Plan) (l : Listing) (e : CardEntry) (x : StartCard) → Holds p (under_way l) → length l.crashes ≡ 0 → e.console < p.sizes.n
    → is_some (get_or p.cards e.console None) ≡ false → CardFor e x → readable e ≡ true → Takes (under_way l) (card e) (Ok (plan_with_card p e.console x))
card_taken p l e x h none below new is read =
    let inside : e.console < l.n = omega (arith, h.sizes.0) in
    let unlisted = sym (dealt_listed _ _ (h.cards e.console)) ∙ new in
    let passes = card_passes l e none inside unlisted read in (
      passes,
      record {
        phase = h.phase;
        sizes = h.sizes;
        cards = dealt_more p.cards l.cards e x h.places (omega (arith, h.content.sizes.1)) h.cards unlisted is;
        places = length-set p.cards e.console (Some x) ∙ h.places;
        fate = h.fate;
        entries = h.entries;
        losses = h.losses;
        content = card_next l e h.content passes;
      },
    )

-- a console is lost by the table exactly where a crash is listed
lost_both : (o : Option ℕ) (hearers : ℕ) (e : Option CrashEntry) → elim o [ None ↦ stays | Some round ↦ lost round hearers ] ≡ fate_of_entry e → is_some o ≡ is_some e
lost_both o hearers e h = grind arith

pub lost_listed : (loss : Loss) (e : Option CrashEntry) → fate_of loss ≡ fate_of_entry e → is_some loss.round ≡ is_some e
lost_listed loss e h = lost_both loss.round loss.hearers.bits e h

-- the test of the hearers
pub hearers_tested : (n bits all : ℕ) (r : Bool) → all ≡ everybody n → Decides r (Within bits all) → leb (2 ^ n) bits ≡ not r
hearers_tested n bits all r is decides =
    let decided : Decides r (Within bits (everybody n)) = subst (λ s. Decides r (Within bits s)) is decides in
    grind (arith, nat_tests, hearers_below n bits, below_hearers n bits)

-- one crash more
abbrev loss_of : CrashEntry → Loss
loss_of e = record { round = Some e.round; hearers = e.hearers }

fate_more : (entries : List Loss) (crashes : List CrashEntry) (e : CrashEntry) → length entries ≡ 16 → e.console < 16
    → ((c : ℕ) → fates entries c ≡ listed_fate crashes c) → has_crash e.console crashes ≡ false
    → (c : ℕ) → fates (set entries e.console (loss_of e)) c ≡ listed_fate (crashes ++ e ∷ []) c
fate_more entries crashes e size below h new c =
    ⊎_elim
    (λ here.
    let listed = entry_new (λ d. d.console) e.console crashes e refl (absent_others (λ d. d.console) e.console crashes new) in
    rw (← here) (rw (listed, get_or-set_same entries e.console (loss_of e) no_loss (omega arith)) refl))
    (λ other. rw (entry_kept (λ (d : CrashEntry). d.console) c crashes e other, get_or-set_other entries e.console c (loss_of e) no_loss (λ z. other (sym z))) (h c))
    (cases_eq e.console c)

phase_push : (crashes : List CrashEntry) (e : CrashEntry) → Crashes ≡ phase_behind (crashes ++ e ∷ [])
phase_push [] e = refl
phase_push (x ∷ xs) e = refl

abbrev plan_with_crash : Plan → CrashEntry → List Loss → Plan
plan_with_crash p e entries = record { phase = Crashes; sizes = p.sizes; cards = p.cards; table = record { entries = entries }; losses = p.losses + 1 }

pub crash_taken : (p : Plan) (l : Listing) (e : CrashEntry) (entries : List Loss) → Holds p (under_way l) → Passes (under_way l) (crash e)
    → entries ≡ set p.table.entries e.console (loss_of e) → Takes (under_way l) (crash e) (Ok (plan_with_crash p e entries))
crash_taken p l e entries h passes is =
    let k = none_broken (rules (under_way l) (crash e)) passes in
    let below = leb-false l.n e.console k.0 in (
      passes,
      record {
        phase = phase_push l.crashes e;
        sizes = h.sizes;
        cards = h.cards;
        places = h.places;
        fate = λ c. ap (λ xs. fates xs c) is ∙ fate_more p.table.entries l.crashes e h.entries (omega (arith, h.content.sizes.1)) h.fate k.1.1.1.0 c;
        entries = ap length is ∙ length-set p.table.entries e.console (loss_of e) ∙ h.entries;
        losses = omega (arith, h.losses, length-append l.crashes (e ∷ []));
        content = crash_next l e h.content passes;
      },
    )

-- a plan whose last command is END
pub end_taken : (p : Plan) (l : Listing) → Holds p (under_way l) → Passes (under_way l) end
    → Takes (under_way l) end (Ok (record { phase = Ended; sizes = p.sizes; cards = p.cards; table = p.table; losses = p.losses }))
end_taken p l h passes = (
  passes,
  record {
    phase = refl;
    sizes = h.sizes;
    cards = h.cards;
    places = h.places;
    fate = h.fate;
    entries = h.entries;
    losses = h.losses;
    content = (h.content, end_next l passes);
  },
)
