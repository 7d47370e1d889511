-- What is gathered from the consoles that pass a test: it is the least to take in what each of them has.
use Rattle.std.proofs.Common.{◌≡◌, ℕ, zero, suc, ◌^◌, ◌<◌, Bool, true, false, ◌⊎◌, sym, refl, ap, ◌∙◌, subst, inl, inr, ⊎_elim, arith}
use lib.Bits.{bit_or}
use native.Mathlib.Nat.{two-pow-succ}
use Rattle.std.proofs.lemmas.Bool.{cases_lt, both_ways}
use Rattle.std.proofs.lemmas.Nat.Bits.{bit_at_above}
use Rattle.carrier.specs.Sets.{Member, holds, alone}
use Rattle.carrier.specs.SetsLemmas.{alone_members, or_members}
use Rattle.joining.specs.Semilattice.{Semilattice}
use Rattle.flooding.specs.Rounds.{joined_if, gathered}
use Rattle.flooding.specs.Trees.{Tree, leaf, node, leaves, EverySetHasATree}
use Rattle.flooding.proofs.Joins.{Below, below_itself, below_through, below_left, below_right, join_below}
use Rattle.flooding.proofs.Sets.{held, holding, union_laws, below_within, same_within}

-- it depends on what the consoles below k have alone
pub gathered_same : {X : Type 0} (join : X → X → X) (k : ℕ) (test : ℕ → Bool) (has had : ℕ → X) (x : X)
    → ((j : ℕ) → j < k → has j ≡ had j) → gathered join k test has x ≡ gathered join k test had x
unfolding gathered
gathered_same join zero test has had x same = refl
gathered_same join (suc k) test has had x same =
    ap (λ y. joined_if join (test k) y (has k)) (gathered_same join k test has had x (λ j h. same j (omega arith)))
    ∙ ap (joined_if join (test k) (gathered join k test had x)) (same k (omega arith))

joined_if_through : {X Y : Type 0} (join : X → X → X) (meet : Y → Y → Y) (h : X → Y) → ((x y : X) → h (join x y) ≡ meet (h x) (h y))
    → (b : Bool) (x y : X) → h (joined_if join b x y) ≡ joined_if meet b (h x) (h y)
joined_if_through join meet h keeps true x y = keeps x y
joined_if_through join meet h keeps false x y = refl

-- what keeps joins keeps what is gathered
pub gathered_through : {X Y : Type 0} (join : X → X → X) (meet : Y → Y → Y) (h : X → Y) → ((x y : X) → h (join x y) ≡ meet (h x) (h y))
    → (k : ℕ) (test : ℕ → Bool) (has : ℕ → X) (x : X) → h (gathered join k test has x) ≡ gathered meet k test (λ j. h (has j)) (h x)
unfolding gathered
gathered_through join meet h keeps zero test has x = refl
gathered_through join meet h keeps (suc k) test has x =
    joined_if_through join meet h keeps (test k) _ _
    ∙ ap (λ y. joined_if meet (test k) y (h (has k))) (gathered_through join meet h keeps k test has x)

module _ {X : Type 0} (join : X → X → X) (laws : Semilattice join) where
  grows : (b : Bool) (x y : X) → Below join x (joined_if join b x y)
  grows true x y = below_left join laws x y
  grows false x y = below_itself join laws x

  takes : (b : Bool) (x y : X) → b ≡ true → Below join y (joined_if join b x y)
  takes true x y e = below_right join laws x y
  takes false x y e = absurd (both_ways false refl e)

  stays_below : (b : Bool) (x y z : X) → Below join x z → (b ≡ true → Below join y z) → Below join (joined_if join b x y) z
  stays_below true x y z xz yz = join_below join laws x y z xz (yz refl)
  stays_below false x y z xz yz = xz

  module _ (test : ℕ → Bool) (has : ℕ → X) (x : X) where
    pub gathered_first : (k : ℕ) → Below join x (gathered join k test has x)
    unfolding gathered
    gathered_first zero = below_itself join laws x
    gathered_first (suc k) = below_through join laws _ _ _ (gathered_first k) (grows (test k) _ _)

    pub gathered_each : (k j : ℕ) → j < k → test j ≡ true → Below join (has j) (gathered join k test has x)
    unfolding gathered
    gathered_each zero j h passes = absurd (omega arith)
    gathered_each (suc k) j h passes =
        ⊎_elim
        (λ lt. below_through join laws _ _ _ (gathered_each k j lt passes) (grows (test k) _ _))
        (λ ge. let e : k ≡ j = omega arith in subst (λ c. Below join (has c) (gathered join (suc k) test has x)) e (takes (test k) _ _ (subst (λ c. test c ≡ true) (sym e) passes)))
        (cases_lt j k)

    pub gathered_least : (k : ℕ) (z : X) → Below join x z → ((j : ℕ) → j < k → test j ≡ true → Below join (has j) z) → Below join (gathered join k test has x) z
    unfolding gathered
    gathered_least zero z first each = first
    gathered_least (suc k) z first each =
        stays_below (test k) _ _ z (gathered_least k z first (λ j h. each j (omega arith))) (each k (omega arith))

joined_in : (b : Bool) (s t c : ℕ) → Member c (joined_if bit_or b s t) → Member c s ⊎ ((b ≡ true) × Member c t)
joined_in true s t c m = ⊎_elim inl (λ in_t. inr (refl, in_t)) ((or_members s t c).0 m)
joined_in false s t c m = inl m

-- whoever is in a gathered union comes from the first set or from one of those gathered
pub gathered_from : (k : ℕ) (test : ℕ → Bool) (has : ℕ → ℕ) (s c : ℕ) → Member c (gathered bit_or k test has s)
    → Member c s ⊎ ((j : ℕ) × (j < k) × (test j ≡ true) × Member c (has j))
unfolding gathered
gathered_from zero test has s c m = inl m
gathered_from (suc k) test has s c m =
    ⊎_elim
    (λ before. ⊎_elim inl (λ from. inr (from.0, omega (arith, from.1), from.2, from.3)) (gathered_from k test has s c before))
    (λ last. inr (k, omega arith, last.0, last.1))
    (joined_in (test k) _ _ c m)

below_power : (n : ℕ) → n < 2 ^ n
below_power zero = omega arith
below_power (suc n) = omega (arith, below_power n, two-pow-succ n)

member_below : (s c : ℕ) → Member c s → c < s
member_below s c m =
    ⊎_elim (λ lt. lt) (λ ge. absurd (omega (arith, m, bit_at_above s s c (below_power s) ge))) (cases_lt c s)

leaves_through : (x y : Tree) → leaves (node x y) ≡ bit_or (leaves x) (leaves y)
unfolding leaves
leaves_through x y = refl

leaves_of_leaf : (c : ℕ) → leaves (leaf c) ≡ alone c
unfolding leaves
leaves_of_leaf c = refl

-- the members of a set, gathered as leaves behind one of them
pub every_set_has_a_tree_lem : EverySetHasATree
every_set_has_a_tree_lem s c m = (
  gathered node s (holds s) leaf (leaf c),
  gathered_through node bit_or leaves leaves_through s (holds s) leaf (leaf c)
      ∙ same_within _ s
      (λ x k. ⊎_elim
      (λ first. subst (λ y. Member y s) (sym (in_leaf c x first)) m)
      (λ from. subst (λ y. Member y s) (sym (in_leaf from.0 x from.3)) (held s from.0 from.2))
      (gathered_from s (holds s) (λ j. leaves (leaf j)) (leaves (leaf c)) x k))
      (λ x k. below_within _ _
      (gathered_each bit_or union_laws (holds s) (λ j. leaves (leaf j)) (leaves (leaf c)) s x (member_below s x k) (holding s x k)) x
      (subst (Member x) (sym (leaves_of_leaf x)) ((alone_members x x).1 refl))),
)
  where
    in_leaf : (j x : ℕ) → Member x (leaves (leaf j)) → x ≡ j
    in_leaf j x k = (alone_members j x).0 (subst (Member x) (leaves_of_leaf j) k)
