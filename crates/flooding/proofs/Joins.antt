-- The order that joins give, in which a join is the least upper bound, and the value of a tree as the least bound of its leaves.
use Rattle.std.proofs.Common.{◌≡◌, ℕ, sym, refl, ap, ◌∙◌, subst, inl, inr, ⊎_elim}
use Rattle.carrier.specs.Sets.{Member}
use Rattle.carrier.specs.SetsLemmas.{alone_members, or_members}
use Rattle.joining.specs.Semilattice.{Semilattice}
use Rattle.flooding.specs.Trees.{Tree, leaf, node, leaves, value_over, SameLeavesSameValue}

-- y takes in x: joining x to it changes nothing
abbrev pub Below : {X : Type 0} → (X → X → X) → X → X → Type 0
Below join x y = join x y ≡ y

module _ {X : Type 0} (join : X → X → X) (laws : Semilattice join) where
  pub below_itself : (x : X) → Below join x x
  below_itself x = laws.itself x

  pub below_through : (x y z : X) → Below join x y → Below join y z → Below join x z
  below_through x y z xy yz = ap (join x) (sym yz) ∙ sym (laws.grouping x y z) ∙ ap (λ w. join w z) xy ∙ yz

  pub below_both : (x y : X) → Below join x y → Below join y x → x ≡ y
  below_both x y xy yx = sym yx ∙ laws.order y x ∙ xy

  pub below_left : (x y : X) → Below join x (join x y)
  below_left x y = sym (laws.grouping x x y) ∙ ap (λ w. join w y) (laws.itself x)

  pub below_right : (x y : X) → Below join y (join x y)
  below_right x y = subst (Below join y) (laws.order y x) (below_left y x)

  pub join_below : (x y z : X) → Below join x z → Below join y z → Below join (join x y) z
  join_below x y z xz yz = laws.grouping x y z ∙ ap (join x) yz ∙ xz

  module _ (has : ℕ → X) where
    pub leaf_below : (t : Tree) (c : ℕ) → Member c (leaves t) → Below join (has c) (value_over join has t)
    unfolding leaves value_over
    leaf_below (leaf k) c m = subst (λ x. Below join (has x) (has k)) (sym ((alone_members k c).0 m)) (below_itself (has k))
    leaf_below (node s t) c m =
        ⊎_elim
        (λ left. below_through _ _ _ (leaf_below s c left) (below_left _ _))
        (λ right. below_through _ _ _ (leaf_below t c right) (below_right _ _))
        ((or_members (leaves s) (leaves t) c).0 m)

    pub value_below : (t : Tree) (z : X) → ((c : ℕ) → Member c (leaves t) → Below join (has c) z) → Below join (value_over join has t) z
    unfolding leaves value_over
    value_below (leaf k) z each = each k ((alone_members k k).1 refl)
    value_below (node s t) z each =
        join_below _ _ z
        (value_below s z (λ c m. each c ((or_members (leaves s) (leaves t) c).1 (inl m))))
        (value_below t z (λ c m. each c ((or_members (leaves s) (leaves t) c).1 (inr m))))

    -- a value that is the least to take in what each console of a set has is the value of every tree over that set
    pub value_is_least : (s : ℕ) (x : X) → ((c : ℕ) → Member c s → Below join (has c) x)
        → ((z : X) → ((c : ℕ) → Member c s → Below join (has c) z) → Below join x z)
        → (t : Tree) → leaves t ≡ s → x ≡ value_over join has t
    value_is_least s x each least t e =
        below_both _ _
        (least _ (λ c m. leaf_below t c (subst (Member c) (sym e) m)))
        (value_below t x (λ c m. each c (subst (Member c) e m)))

pub same_leaves_same_value : (M : Type 0) → SameLeavesSameValue M
same_leaves_same_value M join laws has s t e =
    value_is_least join laws has (leaves s) _ (leaf_below join laws has s) (value_below join laws has s) t (sym e)
