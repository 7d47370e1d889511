-- Lists of entries that grow at their end: the entry for a key, keys that no two share, and rules that are judged in turn.
use Rattle.std.proofs.Common.{◌≡◌, ℕ, true, false, ◌⊎◌, List, [], ◌∷◌, ◌++◌, is_some, Some, None, refl, ap, ◌∙◌, inl, inr, ⊎_elim, arith}
use Rattle.refusal.specs.declared.command.CommandFault.{CommandFault}
use Rattle.script.specs.Admitted.{NoTwo, FirstBroken}
use Rattle.script.specs.Listing.{entry_for}
use Rattle.script.specs.Rules.{Rule, first_broken}
use Rattle.std.proofs.ByRecursion.{All-push}
use Rattle.std.proofs.lemmas.Bool.Decides.{nat_tests}
use Rattle.std.proofs.lemmas.Bool.{cases_Bool}
use Rattle.std.specs.List.{AllByRecursion}

-- a list is empty or has a last element
pub record Last {A : Type 0} (xs : List A) : Type 0 where
  pub front : List A
  pub last : A
  pub is : xs ≡ front ++ last ∷ []

pub last_view : {A : Type 0} (xs : List A) → (xs ≡ []) ⊎ Last xs
last_view [] = inl refl
last_view (x ∷ xs) =
    inr (⊎_elim
    (λ none. record { front = []; last = x; is = ap (λ more. x ∷ more) none })
    (λ l. record { front = x ∷ l.front; last = l.last; is = ap (λ more. x ∷ more) l.is })
    (last_view xs))

pub push_not_empty : {A : Type 0} (xs : List A) (x : A) → xs ++ x ∷ [] ≡ [] → ⊥
push_not_empty [] x e = cc
push_not_empty (y ∷ ys) x e = cc

pub all_front : {A : Type 0} (P : A → Type 0) (xs : List A) (y : A) → AllByRecursion P (xs ++ y ∷ []) → AllByRecursion P xs × P y
all_front P [] y h = (tt, h.0)
all_front P (x ∷ xs) y h = grind (arith, all_front P xs y h.1)

pub no_two_push : {A : Type 0} (key : A → ℕ) (xs : List A) (y : A) → NoTwo key xs → AllByRecursion (λ x. key x ≡ key y → ⊥) xs → NoTwo key (xs ++ y ∷ [])
no_two_push key [] y h other = (tt, tt)
no_two_push key (x ∷ xs) y h other = grind (arith, All-push, no_two_push key xs y h.1 other.1)

pub no_two_front : {A : Type 0} (key : A → ℕ) (xs : List A) (y : A) → NoTwo key (xs ++ y ∷ []) → NoTwo key xs × AllByRecursion (λ x. key x ≡ key y → ⊥) xs
no_two_front key [] y h = (tt, tt)
no_two_front key (x ∷ xs) y h = grind (arith, no_two_front key xs y h.1, all_front (λ z. key z ≡ key x → ⊥) xs y h.0)

-- no entry has the key
pub absent_others : {A : Type 0} (key : A → ℕ) (c : ℕ) (xs : List A) → is_some (entry_for key c xs) ≡ false → AllByRecursion (λ x. key x ≡ c → ⊥) xs
absent_others key c [] h = tt
absent_others key c (x ∷ xs) h = grind (arith, nat_tests, absent_others key c xs)

pub others_absent : {A : Type 0} (key : A → ℕ) (c : ℕ) (xs : List A) → AllByRecursion (λ x. key x ≡ c → ⊥) xs → entry_for key c xs ≡ None
others_absent key c [] h = refl
others_absent key c (x ∷ xs) h = grind (arith, nat_tests, others_absent key c xs)

-- the entry for a key in a longer list
pub entry_kept : {A : Type 0} (key : A → ℕ) (c : ℕ) (xs : List A) (y : A) → (key y ≡ c → ⊥) → entry_for key c (xs ++ y ∷ []) ≡ entry_for key c xs
entry_kept key c [] y other = grind (arith, nat_tests)
entry_kept key c (x ∷ xs) y other = grind (arith, nat_tests, entry_kept key c xs y other)

pub entry_new : {A : Type 0} (key : A → ℕ) (c : ℕ) (xs : List A) (y : A) → key y ≡ c → AllByRecursion (λ x. key x ≡ c → ⊥) xs → entry_for key c (xs ++ y ∷ []) ≡ Some y
entry_new key c [] y is h = grind (arith, nat_tests)
entry_new key c (x ∷ xs) y is h = grind (arith, nat_tests, entry_new key c xs y is h.1)

-- no rule is broken
pub none_broken : (rs : List Rule) → first_broken rs ≡ None → AllByRecursion (λ r. r.broken ≡ false) rs
none_broken [] h = tt
none_broken (r ∷ rs) h = grind (arith, nat_tests, none_broken rs)

-- the first rule that is broken
pub broken_first : (rs : List Rule) (fault : CommandFault) → first_broken rs ≡ Some fault → FirstBroken rs fault
broken_first [] fault h = cc
broken_first (r ∷ rs) fault h =
    ⊎_elim
    (λ is. record { earlier = []; later = rs; stands = grind (arith, nat_tests); kept = tt })
    (λ not_r.
    let more = broken_first rs fault (grind (arith, nat_tests)) in
    record { earlier = r ∷ more.earlier; later = more.later; stands = ap (λ rest. r ∷ rest) more.stands; kept = (not_r, more.kept) })
    (cases_Bool r.broken)

pub first_is_broken : (rs : List Rule) (fault : CommandFault) → FirstBroken rs fault → first_broken rs ≡ Some fault
first_is_broken rs fault h = ap first_broken h.stands ∙ past h.earlier h.kept
  where
    past : (earlier : List Rule) → AllByRecursion (λ r. r.broken ≡ false) earlier → first_broken (earlier ++ record { broken = true; fault = fault } ∷ h.later) ≡ Some fault
    past [] k = refl
    past (r ∷ more) k = grind (arith, nat_tests, past more)
