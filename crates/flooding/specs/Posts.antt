-- Posts: messages that reach a console which stays up.
use Rattle.std.specs.Prelude.{◌≡◌, ℕ, zero, suc, ◌+◌, ◌*◌, ◌<◌, ◌≤◌, Bool, true, ◌&&◌}
use Rattle.carrier.specs.Pattern.{Pattern, RoundRule}
use Rattle.carrier.specs.Sets.{Member, holds, tally}
use Rattle.flooding.specs.Rounds.{collects}

-- A post of round r + 1: console j was up before it, console i is up after it, and i hears j; j may be i.
pub record Post (p : Pattern) (r j i : ℕ) : Type 0 where
  pub sender_was_up : Member j (p.up r)
  pub hearer_stays_up : Member i (p.up (suc r))
  pub sender_is_heard : Member i (p.heard (suc r) j)

-- whether the pair of j and i is a post of round r + 1
abbrev pub posted : Pattern → ℕ → ℕ → ℕ → Bool
posted p r j i = holds (p.up (suc r)) i && collects p r i j

-- the sum of what each number below n counts
abbrev pub total : ℕ → (ℕ → ℕ) → ℕ
total zero count = 0
total (suc k) count = total k count + count k

-- the posts of round r + 1
abbrev pub posts_in : Pattern → ℕ → ℕ
posts_in p r = total p.n (λ j. tally p.n (posted p r j))

-- the posts of the first k rounds
abbrev pub posts_of : Pattern → ℕ → ℕ
posts_of p k = total k (posts_in p)

-- the pairs that are counted are the posts, all of which are between consoles of the ring
abbrev pub CountedAreThePosts : Pattern → ℕ → Type 0
CountedAreThePosts p r =
    (j i : ℕ) → (posted p r j i ≡ true → Post p r j i) × (Post p r j i → (posted p r j i ≡ true) × (j < p.n) × (i < p.n))

-- The posts of a round are at most n × n, and those of k rounds at most n × n × k.
pub record FewPosts (p : Pattern) : Type 0 where
  pub counted : (r : ℕ) → CountedAreThePosts p r
  pub of_a_round : (r : ℕ) → posts_in p r ≤ p.n * p.n
  pub of_all_rounds : (k : ℕ) → posts_of p k ≤ p.n * p.n * k

abbrev pub PostsAreBounded : Type 0
PostsAreBounded = (p : Pattern) → RoundRule p → FewPosts p
