-- How many consoles are in a set that lies within another, and how many pairs are counted at the most.
use Rattle.std.proofs.Common.{◌≡◌, ℕ, zero, suc, ◌+◌, ◌*◌, ◌<◌, ◌≤◌, min, Bool, true, false, cond, sym, subst, ⊎_elim, arith}
use Rattle.std.proofs.lemmas.Bool.{cases_lt, cases_eq, and_from, and_parts}
use Rattle.std.proofs.lemmas.Nat.Bits.{bit_at-lt}
use Rattle.carrier.specs.Sets.{bit, Member, Within, count_below, size, tally}
use Rattle.flooding.specs.Posts.{posted, total, posts_in, PostsAreBounded}
use Rattle.flooding.proofs.Rounds.{collecting, collected, up_in_ring}
use Rattle.flooding.proofs.Sets.{held, holding}

bit_within : (s t c : ℕ) → Within s t → bit s c ≤ bit t c
bit_within s t c w =
    ⊎_elim (λ e. omega (arith, e, w c e)) (λ ne. omega (arith, bit_at-lt s c)) (cases_eq (bit s c) 1)

count_within : (s t k : ℕ) → Within s t → count_below s k ≤ count_below t k
unfolding count_below
count_within s t zero w = omega arith
count_within s t (suc k) w = omega (arith, count_within s t k w, bit_within s t k w)

count_same : (s t k : ℕ) → Within s t → count_below s k ≡ count_below t k → (c : ℕ) → c < k → Member c t → Member c s
unfolding count_below
count_same s t zero w e c h m = absurd (omega arith)
count_same s t (suc k) w e c h m =
    let below = count_within s t k w in
    let here = bit_within s t k w in
    ⊎_elim
    (λ lt. count_same s t k w (omega arith) c lt m)
    (λ ge. let at : k ≡ c = omega arith in subst (λ x. Member x s) at (omega (arith, subst (λ x. Member x t) (sym at) m, bit_at-lt s k)))
    (cases_lt c k)

pub size_within : (s t : ℕ) → Within s t → size s ≤ size t
unfolding size
size_within s t w = count_within s t 16 w

-- a set within another of the same size is all of it
pub size_same : (s t : ℕ) → Within s t → size s ≡ size t → ((c : ℕ) → Member c t → c < 16) → Within t s
unfolding size
size_same s t w e small c m = count_same s t 16 w e c (small c m) m

count_few : (s n k : ℕ) → ((c : ℕ) → Member c s → c < n) → count_below s k ≤ min k n
unfolding count_below
count_few s n zero few = omega arith
count_few s n (suc k) few =
    ⊎_elim
    (λ e. omega (arith, count_few s n k few, few k e))
    (λ ne. omega (arith, count_few s n k few, bit_at-lt s k))
    (cases_eq (bit s k) 1)

pub size_few : (s n : ℕ) → ((c : ℕ) → Member c s → c < n) → size s ≤ n
unfolding size
size_few s n few = omega (arith, count_few s n 16 few)

tally_few : (n : ℕ) (test : ℕ → Bool) → tally n test ≤ n
tally_few zero test = omega arith
tally_few (suc n) test = elim (test n) as (λ b. tally n test + cond b 1 0 ≤ suc n) [ true ↦ omega (arith, tally_few n test) | false ↦ omega (arith, tally_few n test) ]

total_few : (k m : ℕ) (count : ℕ → ℕ) → ((j : ℕ) → count j ≤ m) → total k count ≤ m * k
total_few zero m count each = omega arith
total_few (suc k) m count each = omega (arith, total_few k m count each, each k)

pub posts_are_bounded_lem : PostsAreBounded
posts_are_bounded_lem p rule = record {
  counted = λ r j i. (
    (λ e. let both = and_parts _ _ e in
        let from = collected p r i j both.1 in
        record { sender_was_up = from.0; hearer_stays_up = held _ i both.0; sender_is_heard = from.1 }),
    (λ post. (
      and_from _ _ (holding _ i post.hearer_stays_up) (collecting p r i j post.sender_was_up post.sender_is_heard),
      up_in_ring p rule r j post.sender_was_up,
      up_in_ring p rule (suc r) i post.hearer_stays_up,
    )),
  );
  of_a_round = λ r. omega (arith, round_few r);
  of_all_rounds = λ k. omega (arith, total_few k (p.n * p.n) (posts_in p) round_few);
}
  where
    round_few : (r : ℕ) → posts_in p r ≤ p.n * p.n
    round_few r = total_few p.n p.n _ (λ j. tally_few p.n (posted p r j))
