-- The derived order of delays is that of their frames, so the greater of two is what they join to.
use Rattle.std.proofs.Common.{◌≡◌, List, [], ◌∷◌, inl, inr, nat_lt, max, refl, sym, ap, ◌∙◌, rules, arith}
use Rattle.std.specs.Ordering.{nat_cmp, ord_max, is_lt}
use Rattle.std.proofs.lemmas.Bool.{cond_both, ltb-true, ltb-false}
use Rattle.std.proofs.lemmas.Bool.Decides.{nat_tests}
use denote.Struct.Field.{Field}
use denote.Enum.Declared.{Choice, rowss, intoss, tag_of}
use denote.Enum.Enum.{tag}
use denote.Enum.Compared.{by}
use Rattle.std.specs.Cmp.Derive.{points}
use Rattle.std.specs.declared.cmp.Ordering.TheVariants.{Less, Equal, Greater}
use Rattle.joining.specs.Delay.{frames_of, delay_join}
use Rattle.joining.specs.declared.delay.Delay.{Delay}
use Rattle.joining.specs.Delays.{place_is_frames, same_frames, frames_of_join}
use Rattle.joining.specs.contracts.delay.DelayOrd.TheImpl.{cmp-value}
use Rattle.joining.specs.contracts.delay.Delay.{the_type, the_parts, as_values}

-- an enum without fields: its derived order is that of the places of the variants
by_places : (Fss : List (List Field)) (c d : Choice Fss) → by Less Greater Fss (points Equal Fss) c d ≡ nat_cmp (tag (rowss Fss) (intoss Fss c)) (tag (rowss Fss) (intoss Fss d))
by_places [] c d = absurd c
by_places (Fs ∷ Fss) (inl x) (inl y) = refl
by_places (Fs ∷ Fss) (inl x) (inr y) = grind (arith, nat_tests)
by_places (Fs ∷ Fss) (inr x) (inl y) = grind (arith, nat_tests)
by_places (Fs ∷ Fss) (inr x) (inr y) = by_places Fss x y ∙ search rules

compared : (x y : Delay) → cmp-value.it x y ≡ nat_cmp (frames_of x) (frames_of y)
compared x y = by_places the_parts (as_values x) (as_values y) ∙ ap (λ a. nat_cmp a (tag_of the_type y)) (place_is_frames x) ∙ ap (nat_cmp (frames_of x)) (place_is_frames y)

pub greater_remains : (x y : Delay) → ord_max cmp-value.it x y ≡ delay_join x y
greater_remains x y =
    let told : is_lt (cmp-value.it y x) ≡ nat_lt (frames_of y) (frames_of x) = ap is_lt (compared y x) ∙ grind (arith, nat_tests) in
    same_frames _ _
    (cond_both (is_lt (cmp-value.it y x)) x y (λ d. frames_of d ≡ max (frames_of x) (frames_of y))
    (λ e. omega (arith, ltb-true _ _ (sym told ∙ e)))
    (λ e. omega (arith, ltb-false _ _ (sym told ∙ e)))
    ∙ sym (frames_of_join x y))
