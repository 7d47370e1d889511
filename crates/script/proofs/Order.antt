-- What commands say, one command more and one command less.
use Rattle.std.proofs.Common.{◌≡◌, ℕ, true, List, [], ◌∷◌, ◌++◌, map, length, filter, sym, refl, ap, ◌∙◌, subst, ⊎_elim, arith}
use Rattle.script.specs.Admitted.{Sound, Complete, ring_commands, commands_of, no_remark, Says, Unended}
use Rattle.script.specs.Format.{Statement, link, card, crash, remark, end, Whole}
use Rattle.script.specs.Listing.{Listing}
use Rattle.script.specs.Rules.{Standing, nothing, under_way, ended, advance, with_card, with_crash}
use Rattle.script.specs.declared.command.CardEntry.{CardEntry}
use Rattle.script.specs.declared.command.CrashEntry.{CrashEntry}
use Rattle.script.proofs.Content.{Passes, link_next, link_last, card_next, card_last, no_crashes, crash_next, crash_last, end_next, end_last}
use Rattle.script.proofs.Entries.{last_view, push_not_empty, all_front}
use Rattle.std.proofs.lemmas.List.Elements.{filter-append}
use Rattle.std.proofs.ByRecursion.{All-push}
use Rattle.std.proofs.lemmas.List.{map_push, nil_from_length, same_from_push}
use Rattle.std.proofs.lemmas.Bool.Decides.{nat_tests}
use Rattle.std.proofs.lemmas.Grind.{common_steps}
use Rattle.std.specs.List.{AllByRecursion}

-- a command that is no remark is kept, and a remark is not
kept_one : (before : List Statement) (c : Statement) → no_remark c ≡ true → filter no_remark (before ++ c ∷ []) ≡ filter no_remark before ++ c ∷ []
kept_one before c is = grind (arith, nat_tests, filter-append no_remark before (c ∷ []))

kept_none : (before : List Statement) (text : List ℕ) → filter no_remark (before ++ remark text ∷ []) ≡ filter no_remark before
kept_none before text = grind (arith, common_steps, nat_tests, filter-append no_remark before (remark text ∷ []))

-- CARDs before CRASHes
pub card_order : (cards : List CardEntry) (crashes : List CrashEntry) (e : CardEntry) → crashes ≡ []
    → (map card cards ++ map crash crashes) ++ card e ∷ [] ≡ map card (cards ++ e ∷ []) ++ map crash crashes
card_order cards crashes e none = rw none (grind (arith, common_steps, map_push card))

pub crash_order : (cards : List CardEntry) (crashes : List CrashEntry) (e : CrashEntry)
    → (map card cards ++ map crash crashes) ++ crash e ∷ [] ≡ map card cards ++ map crash (crashes ++ e ∷ [])
crash_order cards crashes e = grind (arith, common_steps, map_push crash)

-- one command more, which breaks no rule
pub says_more : (before : List Statement) (s : Standing) (c : Statement) → Says before s → Unended s → Whole c → Passes s c → Says (before ++ c ∷ []) (advance s c)
says_more before nothing (link n f) h u w p = record {
  whole = All-push Whole before (link n f) h.whole w;
  in_order = kept_one before (link n f) refl ∙ ap (λ xs. xs ++ link n f ∷ []) h.in_order;
  ends_well = tt;
  within_content = link_next n f p;
}
says_more before nothing (card e) h u w p = cc
says_more before nothing (crash e) h u w p = cc
says_more before nothing (remark text) h u w p = record {
  whole = All-push Whole before (remark text) h.whole w;
  in_order = kept_none before text ∙ h.in_order;
  ends_well = tt;
  within_content = tt;
}
says_more before nothing end h u w p = cc
says_more before (under_way l) (link n f) h u w p = cc
says_more before (under_way l) (card e) h u w p = record {
  whole = All-push Whole before (card e) h.whole w;
  in_order =
      kept_one before (card e) refl ∙ ap (λ xs. xs ++ card e ∷ []) h.in_order
      ∙ ap (λ xs. link l.n l.f ∷ xs) (card_order l.cards l.crashes e (nil_from_length l.crashes (no_crashes l e p)));
  ends_well = tt;
  within_content = card_next l e h.within_content p;
}
says_more before (under_way l) (crash e) h u w p = record {
  whole = All-push Whole before (crash e) h.whole w;
  in_order =
      kept_one before (crash e) refl ∙ ap (λ xs. xs ++ crash e ∷ []) h.in_order
      ∙ ap (λ xs. link l.n l.f ∷ xs) (crash_order l.cards l.crashes e);
  ends_well = tt;
  within_content = crash_next l e h.within_content p;
}
says_more before (under_way l) (remark text) h u w p = record {
  whole = All-push Whole before (remark text) h.whole w;
  in_order = kept_none before text ∙ h.in_order;
  ends_well = tt;
  within_content = h.within_content;
}
says_more before (under_way l) end h u w p = record {
  whole = All-push Whole before end h.whole w;
  in_order = kept_one before end refl ∙ ap (λ xs. xs ++ end ∷ []) h.in_order;
  ends_well = (before, refl);
  within_content = (h.within_content, end_next l p);
}
says_more before (ended l) c h u w p = absurd u

-- what stood before the last command, which broke no rule there
pub record Earlier (before : List Statement) (c : Statement) (s : Standing) : Type 0 where
  pub standing : Standing
  pub says : Says before standing
  pub unended : Unended standing
  pub passes : Passes standing c
  pub advances : advance standing c ≡ s

module _ (before : List Statement) (c : Statement) (whole : AllByRecursion Whole before) where
  abbrev kept : List Statement
  kept = filter no_remark before

  after_link : (n f : ℕ) → kept ++ c ∷ [] ≡ [] ++ link n f ∷ [] → Sound (record { n = n; f = f; cards = []; crashes = [] })
      → Earlier before c (under_way (record { n = n; f = f; cards = []; crashes = [] }))
  after_link n f e h =
      let (front, last) = same_from_push kept [] c (link n f) e in
      record {
        standing = nothing;
        says = record { whole = whole; in_order = front; ends_well = tt; within_content = tt };
        unended = tt;
        passes = subst (Passes nothing) (sym last) (link_last n f h.sizes);
        advances = ap (advance nothing) last;
      }

  after_card : (l : Listing) (e : CardEntry) → l.crashes ≡ [] → kept ++ c ∷ [] ≡ ring_commands (with_card l e) → Sound (with_card l e)
      → Earlier before c (under_way (with_card l e))
  after_card l e none is h =
      let (front, last) =
      same_from_push kept (ring_commands l) c (card e) (is ∙ sym (ap (λ xs. link l.n l.f ∷ xs) (card_order l.cards l.crashes e none))) in
      let (sound, passes) = card_last l e (ap length none) h in
      record {
        standing = under_way l;
        says = record { whole = whole; in_order = front; ends_well = tt; within_content = sound };
        unended = tt;
        passes = subst (Passes (under_way l)) (sym last) passes;
        advances = ap (advance (under_way l)) last;
      }

  after_crash : (l : Listing) (e : CrashEntry) → kept ++ c ∷ [] ≡ ring_commands (with_crash l e) → Sound (with_crash l e)
      → Earlier before c (under_way (with_crash l e))
  after_crash l e is h =
      let (front, last) = same_from_push kept (ring_commands l) c (crash e) (is ∙ sym (ap (λ xs. link l.n l.f ∷ xs) (crash_order l.cards l.crashes e))) in
      let (sound, passes) = crash_last l e h in
      record {
        standing = under_way l;
        says = record { whole = whole; in_order = front; ends_well = tt; within_content = sound };
        unended = tt;
        passes = subst (Passes (under_way l)) (sym last) passes;
        advances = ap (advance (under_way l)) last;
      }

  after_end : (l : Listing) → kept ++ c ∷ [] ≡ ring_commands l ++ end ∷ [] → Sound l → Complete l → Earlier before c (ended l)
  after_end l is h complete =
      let (front, last) = same_from_push kept (ring_commands l) c end is in
      record {
        standing = under_way l;
        says = record { whole = whole; in_order = front; ends_well = tt; within_content = h };
        unended = tt;
        passes = subst (Passes (under_way l)) (sym last) (end_last l complete);
        advances = ap (advance (under_way l)) last;
      }

  -- with no crash the last command is a card or the LINK
  before_crashes : (n f : ℕ) (cards : List CardEntry) → kept ++ c ∷ [] ≡ ring_commands (record { n = n; f = f; cards = cards; crashes = [] })
      → Sound (record { n = n; f = f; cards = cards; crashes = [] }) → Earlier before c (under_way (record { n = n; f = f; cards = cards; crashes = [] }))
  before_crashes n f cards is h =
      let P : List CardEntry → Type 0 =
      λ xs. kept ++ c ∷ [] ≡ ring_commands (record { n = n; f = f; cards = xs; crashes = [] }) → Sound (record { n = n; f = f; cards = xs; crashes = [] })
      → Earlier before c (under_way (record { n = n; f = f; cards = xs; crashes = [] })) in
      ⊎_elim
      (λ none. subst P (sym none) (after_link n f) is h)
      (λ l. subst P (sym l.is) (after_card (record { n = n; f = f; cards = l.front; crashes = [] }) l.last refl) is h)
      (last_view cards)

  under_way_before : (l : Listing) → kept ++ c ∷ [] ≡ ring_commands l → Sound l → Earlier before c (under_way l)
  under_way_before l is h =
      let with : List CrashEntry → Listing = λ xs. record { n = l.n; f = l.f; cards = l.cards; crashes = xs } in
      let P : List CrashEntry → Type 0 = λ xs. kept ++ c ∷ [] ≡ ring_commands (with xs) → Sound (with xs) → Earlier before c (under_way (with xs)) in
      ⊎_elim
      (λ none. subst P (sym none) (before_crashes l.n l.f l.cards) is h)
      (λ e. subst P (sym e.is) (after_crash (with e.front) e.last) is h)
      (last_view l.crashes)

  command_before : (s : Standing) → kept ++ c ∷ [] ≡ commands_of s → Says (before ++ c ∷ []) s → Earlier before c s
  command_before nothing is h = absurd (push_not_empty kept c is)
  command_before (under_way l) is h = under_way_before l is h.within_content
  command_before (ended l) is h = after_end l is h.within_content.0 h.within_content.1

remark_before : (before : List Statement) (text : List ℕ) (s : Standing) → AllByRecursion Whole before → Says (before ++ remark text ∷ []) s → Earlier before (remark text) s
remark_before before text nothing whole h = record {
  standing = nothing;
  says = record { whole = whole; in_order = sym (kept_none before text) ∙ h.in_order; ends_well = tt; within_content = tt };
  unended = tt;
  passes = refl;
  advances = refl;
}
remark_before before text (under_way l) whole h = record {
  standing = under_way l;
  says = record { whole = whole; in_order = sym (kept_none before text) ∙ h.in_order; ends_well = tt; within_content = h.within_content };
  unended = tt;
  passes = refl;
  advances = refl;
}
remark_before before text (ended l) whole h =
    let same : remark text ≡ end = (same_from_push before h.ends_well.0 (remark text) end h.ends_well.1).1 in cc

pub says_less : (before : List Statement) (c : Statement) (s : Standing) → Says (before ++ c ∷ []) s → Whole c × Earlier before c s
says_less before c s h =
    let (front, last) = all_front Whole before c h.whole in
    (last, by_kind c h front)
  where
    by_kind : (c : Statement) → Says (before ++ c ∷ []) s → AllByRecursion Whole before → Earlier before c s
    by_kind (link n f) h whole = command_before before (link n f) whole s (sym (kept_one before (link n f) refl) ∙ h.in_order) h
    by_kind (card e) h whole = command_before before (card e) whole s (sym (kept_one before (card e) refl) ∙ h.in_order) h
    by_kind (crash e) h whole = command_before before (crash e) whole s (sym (kept_one before (crash e) refl) ∙ h.in_order) h
    by_kind (remark text) h whole = remark_before before text s whole h
    by_kind end h whole = command_before before end whole s (sym (kept_one before end refl) ∙ h.in_order) h
