-- A command is refused for its place exactly where no ring's commands go on with it.
use Rattle.std.proofs.Common.{◌≡◌, ℕ, ◌+◌, ◌<◌, ◌≤◌, cond, eqb, ltb, List, [], ◌∷◌, ◌++◌, map, length, Some, None, Option, sym, refl, ap, ◌∙◌, ⊎_elim, arith}
use Rattle.refusal.specs.declared.command.CommandFault.{CommandFault}
use Rattle.refusal.specs.declared.content.ContentFault.{ContentFault}
use Rattle.refusal.specs.declared.command.CommandFault.TheVariants.{Reader, NotAllowedHere, Content}
use Rattle.refusal.specs.declared.reader.ReaderFault.{ReaderFault}
use Rattle.script.specs.Admitted.{ring_commands, commands_of, Unended, Misplaced}
use Rattle.script.specs.Format.{Statement, link, card, crash, remark, end}
use Rattle.script.specs.Listing.{Listing, uncarded}
use Rattle.script.specs.Rules.{Standing, nothing, under_way, ended, Rule, rules, first_broken, with_card, with_crash, card_rules, missing_card}
use Rattle.script.specs.declared.command.CardEntry.{CardEntry}
use Rattle.script.specs.declared.command.CrashEntry.{CrashEntry}
use Rattle.script.proofs.Entries.{last_view}
use Rattle.script.proofs.Order.{card_order, crash_order}
use Rattle.std.proofs.lemmas.List.{nil_from_length, same_from_push}
use Rattle.std.proofs.lemmas.Bool.Decides.{nat_tests}
use Rattle.std.proofs.lemmas.Bool.{cond-true, cond-false, cases_Bool, ltb-true, ltb-false}
use Rattle.std.specs.List.{AllByRecursion}

-- the commands by kind
abbrev kind : Statement → ℕ
kind (link n f) = 0
kind (card e) = 1
kind (crash e) = 2
kind (remark text) = 3
kind end = 4

-- how many commands are of a kind
abbrev how_many : ℕ → List Statement → ℕ
how_many k [] = 0
how_many k (c ∷ more) = cond (eqb (kind c) k) 1 0 + how_many k more

how_many_append : (k : ℕ) (xs ys : List Statement) → how_many k (xs ++ ys) ≡ how_many k xs + how_many k ys
how_many_append k [] ys = omega arith
how_many_append k (x ∷ xs) ys = omega (arith, how_many_append k xs ys)

how_many_cards : (k : ℕ) (cards : List CardEntry) → how_many k (map card cards) ≡ cond (eqb 1 k) (length cards) 0
how_many_cards k [] = grind (arith, nat_tests)
how_many_cards k (e ∷ cards) = grind (arith, nat_tests, how_many_cards k cards)

how_many_crashes : (k : ℕ) (crashes : List CrashEntry) → how_many k (map crash crashes) ≡ cond (eqb 2 k) (length crashes) 0
how_many_crashes k [] = grind (arith, nat_tests)
how_many_crashes k (e ∷ crashes) = grind (arith, nat_tests, how_many_crashes k crashes)

links_in_ring : (l : Listing) → how_many 0 (ring_commands l) ≡ 1
links_in_ring l = omega (arith, how_many_append 0 (map card l.cards) (map crash l.crashes), how_many_cards 0 l.cards, how_many_crashes 0 l.crashes)

crashes_in_ring : (l : Listing) → how_many 2 (ring_commands l) ≡ length l.crashes
crashes_in_ring l = omega (arith, how_many_append 2 (map card l.cards) (map crash l.crashes), how_many_cards 2 l.cards, how_many_crashes 2 l.crashes)

one_link : (t : Standing) → how_many 0 (commands_of t) ≤ 1
one_link nothing = omega arith
one_link (under_way l) = omega (arith, links_in_ring l)
one_link (ended l) = omega (arith, links_in_ring l, how_many_append 0 (ring_commands l) (end ∷ []))

-- LINK comes first
first_is_link : (t : Standing) (c : Statement) → ((n f : ℕ) → c ≡ link n f → ⊥) → commands_of t ≡ [] ++ c ∷ [] → ⊥
first_is_link nothing c other e = cc
first_is_link (under_way l) c other e = other l.n l.f cc
first_is_link (ended l) c other e = other l.n l.f cc

-- there is one LINK
second_link : (l : Listing) (n f : ℕ) (t : Standing) → commands_of t ≡ ring_commands l ++ link n f ∷ [] → ⊥
second_link l n f t e = omega (arith, one_link t, ap (how_many 0) e, how_many_append 0 (ring_commands l) (link n f ∷ []), links_in_ring l)

-- no CARD stands behind a CRASH
card_behind_crash : (l : Listing) (e : CardEntry) → 0 < length l.crashes → (t : Standing) → commands_of t ≡ ring_commands l ++ card e ∷ [] → ⊥
card_behind_crash l e some nothing is = cc
card_behind_crash l e some (ended m) is =
    let same : end ≡ card e = (same_from_push (ring_commands m) (ring_commands l) end (card e) is).1 in cc
card_behind_crash l e some (under_way m) is =
    ⊎_elim
    (λ none. omega (arith, ap length none, crashes_in_ring m, ap (how_many 2) is, how_many_append 2 (ring_commands l) (card e ∷ []), crashes_in_ring l))
    (λ last.
    let before : Listing = record { n = m.n; f = m.f; cards = m.cards; crashes = last.front } in
    let turned : ring_commands before ++ crash last.last ∷ [] ≡ ring_commands m =
    ap (λ xs. link m.n m.f ∷ xs) (crash_order m.cards last.front last.last) ∙ λ i. ring_commands (record { n = m.n; f = m.f; cards = m.cards; crashes = sym last.is i }) in
    let same : crash last.last ≡ card e = (same_from_push (ring_commands before) (ring_commands l) (crash last.last) (card e) (turned ∙ is)).1 in cc)
    (last_view m.crashes)

-- a rule of content refuses with a fault of content
abbrev IsContent : CommandFault → Type 0
IsContent fault = (e : ContentFault) × (fault ≡ Content e)

only_content : (rs : List Rule) (fault : CommandFault) → AllByRecursion (λ r. IsContent r.fault) rs → first_broken rs ≡ Some fault → IsContent fault
only_content [] fault h e = cc
only_content (r ∷ rs) fault h e =
    ⊎_elim
    (λ broken. (h.0.0, grind (arith, nat_tests)))
    (λ kept. only_content rs fault h.1 (grind (arith, nat_tests)))
    (cases_Bool r.broken)

missing_content : (o : Option ℕ) → AllByRecursion (λ r. IsContent r.fault) (missing_card o)
missing_content None = tt
missing_content (Some c) = ((_, refl), tt)

-- what a refusal by the rules says of the command's place
pub record ByPlace (s : Standing) (c : Statement) : Type 0 where
  pub is_misplaced : first_broken (rules s c) ≡ Some NotAllowedHere → Misplaced s c
  pub is_refused : Misplaced s c → first_broken (rules s c) ≡ Some NotAllowedHere
  pub no_reader : (e : ReaderFault) → first_broken (rules s c) ≡ Some (Reader e) → ⊥

always_refused : (s : Standing) (c : Statement) → first_broken (rules s c) ≡ Some NotAllowedHere → Misplaced s c → ByPlace s c
always_refused s c is m = record {
  is_misplaced = λ _. m;
  is_refused = λ _. is;
  no_reader = λ e h. let same : Some NotAllowedHere ≡ Some (Reader e) = sym is ∙ h in cc;
}

in_place : (s : Standing) (c : Statement) (t : Standing) → commands_of t ≡ commands_of s ++ c ∷ []
    → ((fault : CommandFault) → first_broken (rules s c) ≡ Some fault → IsContent fault) → ByPlace s c
in_place s c t is content = record {
  is_misplaced = λ h. let (fault, is) = content NotAllowedHere h in cc;
  is_refused = λ m. absurd (m.1 t is);
  no_reader = λ e h. let (fault, is) = content (Reader e) h in cc;
}

remark_anywhere : (s : Standing) (text : List ℕ) → first_broken (rules s (remark text)) ≡ None → ByPlace s (remark text)
remark_anywhere s text none = record {
  is_misplaced = λ h. cc;
  is_refused = λ m. cc;
  no_reader = λ e h. cc;
}

pub by_place : (s : Standing) (c : Statement) → Unended s → ByPlace s c
by_place nothing (link n f) u =
    in_place nothing (link n f) (under_way (record { n = n; f = f; cards = []; crashes = [] })) refl (λ fault h. only_content (rules nothing (link n f)) fault ((_, refl), tt) h)
by_place nothing (card e) u = always_refused nothing (card e) refl (refl, λ t. first_is_link t (card e) (λ n f is. cc))
by_place nothing (crash e) u = always_refused nothing (crash e) refl (refl, λ t. first_is_link t (crash e) (λ n f is. cc))
by_place nothing (remark text) u = remark_anywhere nothing text refl
by_place nothing end u = always_refused nothing end refl (refl, λ t. first_is_link t end (λ n f is. cc))
by_place (under_way l) (link n f) u = always_refused (under_way l) (link n f) refl (refl, second_link l n f)
by_place (under_way l) (card e) u =
    ⊎_elim
    (λ some. always_refused (under_way l) (card e) (cond-true _ _ _ some) (refl, card_behind_crash l e (ltb-true 0 (length l.crashes) some)))
    (λ none.
    in_place (under_way l) (card e) (under_way (with_card l e))
    (sym (ap (λ xs. link l.n l.f ∷ xs) (card_order l.cards l.crashes e (nil_from_length l.crashes (omega (arith, ltb-false 0 (length l.crashes) none))))))
    (λ fault h. only_content (card_rules l e) fault ((_, refl), ((_, refl), ((_, refl), tt))) (sym (cond-false _ _ _ none) ∙ h)))
    (cases_Bool (ltb 0 (length l.crashes)))
by_place (under_way l) (crash e) u =
    in_place (under_way l) (crash e) (under_way (with_crash l e)) (sym (ap (λ xs. link l.n l.f ∷ xs) (crash_order l.cards l.crashes e)))
    (λ fault h. only_content (rules (under_way l) (crash e)) fault ((_, refl), ((_, refl), ((_, refl), ((_, refl), ((_, refl), tt))))) h)
by_place (under_way l) (remark text) u = remark_anywhere (under_way l) text refl
by_place (under_way l) end u =
    in_place (under_way l) end (ended l) refl (λ fault h. only_content (missing_card (uncarded l.n l.cards)) fault (missing_content (uncarded l.n l.cards)) h)
by_place (ended l) c u = absurd u
