-- A load from its first command to what it leaves.
use Rattle.std.proofs.Common.{◌≡◌, ℕ, zero, suc, ◌+◌, ◌-◌, ◌<◌, ◌≤◌, Bool, true, false, not, List, [], ◌∷◌, length, get_or, drop, Some, None, Option, sym, refl, ap, ◌∙◌, subst, add-one, arith, rules, length-append, length-drop, get_or-drop, ext_get_or}
use denote.Enum.Bare.{sameb, differs_true, differs_false}
use Rattle.carrier.specs.SetsLemmas.{everybody_members}
use Rattle.carrier.specs.Losses.{losing}
use Rattle.carrier.specs.Sets.{Member, Within, everybody}
use Rattle.joining.specs.Card.{StartCard}
use Rattle.refusal.specs.declared.command.CommandFault.TheVariants.{NotAllowedHere}
use Rattle.refusal.specs.declared.load.LoadFault.{LoadFault}
use Rattle.refusal.specs.declared.load.Stopped.{Stopped}
use Rattle.script.specs.Admitted.{NoTwo, Sound, Unended}
use Rattle.script.specs.Fates.{fates, WithinRing, Legal}
use Rattle.script.specs.Format.{bytes_of, Bytes}
use Rattle.script.specs.Listing.{Listing, CardFor, entry_for, crash_for, fate_of_entry, listed_fate}
use Rattle.script.specs.Loading.{CarrierLeft, CardsLeft}
use Rattle.script.specs.Plans.{phase_behind, Dealt, Holds, JudgedOn, ReadTo, Filled}
use Rattle.script.specs.Rules.{Standing, nothing, under_way, ended, advance}
use Rattle.script.specs.Verdict.{accepted, refused, refused_at, stops, judge, after_end, walk, verdict}
use Rattle.script.specs.declared.command.CardEntry.{CardEntry}
use Rattle.script.specs.declared.command.CrashEntry.{CrashEntry}
use Rattle.script.specs.declared.loader.Progress.{Progress}
use Rattle.script.specs.declared.plan.Phase.{Phase}
use Rattle.script.specs.declared.plan.Phase.TheVariants.{Opening, Ended}
use Rattle.script.specs.declared.plan.Plan.{Plan}
use Rattle.script.specs.contracts.plan.Phase.{the_type}
use Rattle.script.specs.declared.scripted.Scripted.{Scripted}
use Rattle.script.proofs.Losses.{none_since, losses_listed}
use Rattle.script.proofs.Reading.{bytes_from}
use Rattle.script.proofs.Verdicts.{Goes, judge_goes, walk_stops, walk_goes, walk_ends, judged_whole, not_empty}
use Rattle.std.proofs.lemmas.Bool.Decides.{nat_tests}
use Rattle.std.proofs.ByRecursion.{All-weaker}
use Rattle.std.specs.List.{AllByRecursion}

-- where the load of a script is, and that the rest of the walk gives the verdict
pub record OnWay (script : List ℕ) (at : Progress) : Type 0 where
  pub standing : Standing
  pub fuel : ℕ
  pub holds : Holds at.plan standing
  pub same : walk fuel standing at.place at.count (drop at.place script) ≡ verdict script
  pub few : length (drop at.place script) < fuel
  pub inside : at.place ≤ length script
  pub fewer : at.count ≤ at.place

pub on_way_first : (script : List ℕ) (at : Progress) → length script ≤ 4096 → Holds at.plan nothing → at.place ≡ 0 → at.count ≡ 0 → OnWay script at
on_way_first script at short h place count = record {
  standing = nothing;
  fuel = suc (length script);
  holds = h;
  same = (λ i. walk (suc (length script)) nothing (place i) (count i) (drop (place i) script)) ∙ sym (judged_whole script short);
  few = omega (arith, length-drop at.place script);
  inside = omega arith;
  fewer = omega arith;
}

unended_since : (p : Plan) (s : Standing) → Holds p s → (p.phase ≡ Ended → ⊥) → Unended s
unended_since p nothing h ne = tt
unended_since p (under_way l) h ne = tt
unended_since p (ended l) h ne = ne h.phase

not_ended : (crashes : List CrashEntry) → phase_behind crashes ≡ Ended → ⊥
not_ended crashes e = grind arith

pub ended_since : (p : Plan) (s : Standing) → Holds p s → p.phase ≡ Ended → (l : Listing) × (s ≡ ended l)
ended_since p nothing h is = let never : Opening ≡ Ended = sym h.phase ∙ is in cc
ended_since p (under_way l) h is = absurd (not_ended l.crashes (sym h.phase ∙ is))
ended_since p (ended l) h is = (l, refl)

more_fuel : (k : ℕ) → {n : ℕ} → n < k → (j : ℕ) × (k ≡ suc j)
more_fuel zero h = absurd (omega arith)
more_fuel (suc j) h = (j, refl)

module _ (script : List ℕ) (byte : Bytes script) (at : Progress) (w : OnWay script at) (open_phase : at.plan.phase ≡ Ended → ⊥) where
  unended : Unended w.standing
  unended = unended_since at.plan w.standing w.holds open_phase

  step_on : (next : Progress) (j : JudgedOn w.standing script at next)
      → Goes w.standing (drop at.place script) (advance w.standing j.command) j.command (drop next.place script)
  step_on next j = judge_goes w.standing (drop at.place script) (bytes_from script byte at.place) _ _ _ j.judged

  pub place_rises : (next : Progress) → JudgedOn w.standing script at next → (at.place < next.place) × (next.place ≤ length script)
  place_rises next j =
      let parts = ap length (step_on next j).bytes ∙ length-append (bytes_of j.command) (drop next.place script) in
      (omega (arith, j.place_is, not_empty j.command), omega (arith, parts, j.place_is, length-drop at.place script, not_empty j.command, w.inside))

  pub on_way_more : (next : Progress) → JudgedOn w.standing script at next → OnWay script next
  on_way_more next j =
      let (k, is) = more_fuel w.fuel w.few in
      let rises = place_rises next j in
      record {
        standing = advance w.standing j.command;
        fuel = k;
        holds = j.holds;
        same =
            (λ i. walk k (advance w.standing j.command) (j.place_is i) ((j.count_is ∙ add-one at.count) i) (drop next.place script))
            ∙ sym (walk_goes k w.standing at.place at.count (drop at.place script) _ _ _ unended j.judged)
            ∙ ap (λ n. walk n w.standing at.place at.count (drop at.place script)) (sym is)
            ∙ w.same;
        few = omega (arith, is, w.few, length-drop at.place script, length-drop next.place script, rises.0, rises.1);
        inside = rises.1;
        fewer = omega (arith, j.count_is, w.fewer, rises.0);
      }

  pub stops_there : (stopped_at : Stopped) → judge w.standing (drop at.place script) ≡ stops stopped_at.fault → stopped_at.place ≡ at.place → stopped_at.count ≡ at.count
      → verdict script ≡ refused (LoadFault.Command stopped_at)
  stops_there stopped_at e place count =
      let (k, is) = more_fuel w.fuel w.few in
      sym w.same ∙ ap (λ n. walk n w.standing at.place at.count (drop at.place script)) is
      ∙ walk_stops k w.standing at.place at.count (drop at.place script) stopped_at.fault unended e
      ∙ λ i. refused_at (sym place i) (sym count i) stopped_at.fault

module _ (script : List ℕ) (at : Progress) (w : OnWay script at) (is_end : at.plan.phase ≡ Ended) where
  walked : (l : Listing) → w.standing ≡ ended l → verdict script ≡ after_end l at.place at.count (drop at.place script)
  walked l e =
      let (k, is) = more_fuel w.fuel w.few in
      sym w.same ∙ (λ i. walk (is i) (e i) at.place at.count (drop at.place script)) ∙ walk_ends k l at.place at.count (drop at.place script)

  pub bytes_behind_end : at.place < length script → verdict script ≡ refused_at at.place at.count NotAllowedHere
  bytes_behind_end lt =
      let (l, e) = ended_since at.plan w.standing w.holds is_end in
      walked l e ∙ go l (drop at.place script) (omega (arith, length-drop at.place script))
    where
      go : (l : Listing) (rest : List ℕ) → 0 < length rest → after_end l at.place at.count rest ≡ refused_at at.place at.count NotAllowedHere
      go l [] h = absurd (omega arith)
      go l (b ∷ more) h = refl

  pub read_to_end : length script ≤ at.place → ReadTo script at.plan at.count
  read_to_end ge =
      let (l, e) = ended_since at.plan w.standing w.holds is_end in
      record {
        listing = l;
        judged = walked l e ∙ go l (drop at.place script) (omega (arith, length-drop at.place script));
        holds = subst (Holds at.plan) e w.holds;
      }
    where
      go : (l : Listing) (rest : List ℕ) → length rest ≡ 0 → after_end l at.place at.count rest ≡ accepted l at.count
      go l [] h = refl
      go l (b ∷ more) h = absurd (omega arith)

all_both : {A : Type 0} (P Q : A → Type 0) (xs : List A) → AllByRecursion P xs → AllByRecursion Q xs → AllByRecursion (λ x. P x × Q x) xs
all_both P Q [] h k = tt
all_both P Q (x ∷ xs) h k = grind (arith, all_both P Q xs h.1 k.1)

-- where no two share a key, each entry is the one for its key
own_past : {A : Type 0} (key : A → ℕ) (x : A) (xs ys : List A) → AllByRecursion (λ y. key y ≡ key x → ⊥) ys → AllByRecursion (λ y. entry_for key (key y) xs ≡ Some y) ys
    → AllByRecursion (λ y. entry_for key (key y) (x ∷ xs) ≡ Some y) ys
own_past key x xs [] other own = tt
own_past key x xs (y ∷ ys) other own = grind (arith, nat_tests, own_past key x xs ys other.1 own.1)

own_entries : {A : Type 0} (key : A → ℕ) (xs : List A) → NoTwo key xs → AllByRecursion (λ y. entry_for key (key y) xs ≡ Some y) xs
own_entries key [] h = tt
own_entries key (x ∷ xs) h = grind (arith, nat_tests, own_past key x xs xs h.0 (own_entries key xs h.1))

-- the entry for a key is one of the list
entry_is_listed : {A : Type 0} (P : A → Type 0) (key : A → ℕ) (c : ℕ) (xs : List A) (y : A) → AllByRecursion P xs → entry_for key c xs ≡ Some y → P y
entry_is_listed P key c [] y h e = cc
entry_is_listed P key c (x ∷ xs) y h e = grind (arith, nat_tests, entry_is_listed P key c xs y)

listed_within : (l : Listing) → Sound l → (o : Option CrashEntry) → ((e : CrashEntry) → o ≡ Some e → (1 ≤ e.round) × (e.round ≤ l.f + 1) × ((c : ℕ) → Member c e.hearers.bits → c < l.n))
    → WithinRing l.n l.f (fate_of_entry o)
listed_within l h o each = grind arith

pub holds_legal : (p : Plan) (l : Listing) → Holds p (ended l) → Legal p.sizes.n p.sizes.f p.table.entries
holds_legal p l h =
    let sound = h.content.0 in
    record {
      few = omega (arith, losses_listed p l sound h.fate, sound.few_crashes, h.sizes.1);
      each = λ c. rw (h.fate c, h.sizes.0, h.sizes.1) (listed_within l sound (crash_for c l.crashes) (λ e is.
          let time = entry_is_listed (λ x. (1 ≤ x.round) × (x.round ≤ l.f + 1)) (λ x. x.console) c l.crashes e sound.rounds_in_time is in
          let heard = entry_is_listed (λ x. Within x.hearers.bits (everybody l.n)) (λ x. x.console) c l.crashes e sound.hearers_in_ring is in
          (time.0, time.1, λ k m. (everybody_members l.n k).0 (heard k m))));
    }

pub carrier_left : (p : Plan) (l : Listing) (after : Scripted) → Holds p (ended l) → after.sizes ≡ p.sizes → after.table ≡ p.table → CarrierLeft l after
carrier_left p l after h sizes table = record {
  fate = listed_fate l.crashes;
  pattern =
      (λ i. losing (sizes i).n (sizes i).f (fates (table i).entries))
      ∙ λ i. losing (h.sizes.0 i) (h.sizes.1 i) (λ c. h.fate c i);
  lost_as_listed = All-weaker _ _ (λ e own. ap fate_of_entry own) l.crashes (own_entries (λ e. e.console) l.crashes h.content.0.one_crash_each);
  others_stay = λ c absent. ap fate_of_entry (none_since (crash_for c l.crashes) absent);
}

same_behind : (before after : List StartCard) (n : ℕ) → length after ≡ length before → ((c : ℕ) (d : StartCard) → n ≤ c → get_or after c d ≡ get_or before c d) → drop n after ≡ drop n before
same_behind before after n long same = go (drop n after) (drop n before) (length-drop n after ∙ ap (λ k. k - n) long ∙ sym (length-drop n before))
    (λ i d. get_or-drop n after i d ∙ same (n + i) d (omega arith) ∙ sym (get_or-drop n before i d))
  where
    go : (xs ys : List StartCard) → length xs ≡ length ys → ((i : ℕ) (d : StartCard) → get_or xs i d ≡ get_or ys i d) → xs ≡ ys
    go [] [] size h = refl
    go [] (y ∷ ys) size h = absurd (omega arith)
    go (x ∷ xs) ys size h = ext_get_or x (x ∷ xs) ys size (λ i lt. h i x)

lies_dealt : (x : Option StartCard) (e : CardEntry) → Dealt x (Some e) → (card : StartCard) × (x ≡ Some card) × CardFor e card
lies_dealt x e h = grind arith

pub cards_left : (p : Plan) (l : Listing) (n : ℕ) (before after : List StartCard) → Holds p (ended l) → n ≡ l.n → length after ≡ length before → Filled p.cards n before after
    → CardsLeft l before after
cards_left p l n before after h is long filled =
    let sound = h.content.0 in
    record {
      dealt =
          All-weaker _ _
          (λ e both d.
          let (card, lies, described) = lies_dealt (get_or p.cards e.console None) e (subst (Dealt (get_or p.cards e.console None)) both.0 (h.cards e.console)) in
          subst (CardFor e) (sym (filled.below e.console card d (omega (arith, both.1)) lies)) described)
          l.cards
          (all_both _ _ l.cards (own_entries (λ e. e.console) l.cards sound.one_card_each) sound.cards_in_ring);
      others = same_behind before after l.n long (λ c d le. filled.above c d (omega arith));
      long = long;
    }

-- what the test for the last phase tells, as the code makes it
abbrev DiffersBy : Phase → Bool → Type 0
DiffersBy phase r = r ≡ not (sameb the_type phase Ended)

pub still_open : (phase : Phase) → DiffersBy phase true → phase ≡ Ended → ⊥
still_open phase e = differs_true the_type phase Ended (sym e)

pub at_end : (phase : Phase) → DiffersBy phase false → phase ≡ Ended
at_end phase e = differs_false the_type (search rules) phase Ended (sym e)
