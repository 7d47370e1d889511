-- Patterns given by who is lost when: a console that stays up is heard by all, one that is lost by those who are named.
use Rattle.std.specs.Prelude.{ℕ, suc, Bool, true, false, cond, ◌||◌, ◌==◌, nat_le, nat_lt}
use Rattle.carrier.specs.Pattern.{Pattern}
use Rattle.carrier.specs.Sets.{nobody, everybody, alone, those}

-- what becomes of a console: it stays, or it is lost in a round, and those hearers hear it in that round
pub data Fate : Type 0 where
  stays : Fate
  lost : (round hearers : ℕ) → Fate

-- whether the console is lost at all
abbrev pub loses : Fate → Bool
loses stays = false
loses (lost round hearers) = true

-- whether the console is up after round r
abbrev pub up_after : ℕ → Fate → Bool
up_after r stays = true
up_after r (lost round hearers) = nat_lt r round

-- who of n consoles hears it in round r, from 1
abbrev pub heard_in : ℕ → ℕ → Fate → ℕ
heard_in n r stays = everybody n
heard_in n r (lost round hearers) = cond (nat_lt r round) (everybody n) (cond (r == round) hearers nobody)

-- the pattern in which each console below n has its fate
abbrev pub losing : ℕ → ℕ → (ℕ → Fate) → Pattern
losing n f fate = record {
  n = n;
  f = f;
  up = λ r. those n (λ c. up_after r (fate c));
  heard = λ r j. cond (r == 0 || nat_le n j) nobody (heard_in n r (fate j));
}

-- nobody is lost
abbrev pub quiet : ℕ → ℕ → Pattern
quiet n f = losing n f (λ c. stays)

-- console c is lost in round c + 1 if it is below f, heard by console c + 1 alone
abbrev pub staggered_fate : ℕ → ℕ → Fate
staggered_fate f c = cond (nat_lt c f) (lost (suc c) (alone (suc c))) stays

-- console r - 1 is lost in round r, for r from 1 to f
abbrev pub staggered : ℕ → ℕ → Pattern
staggered n f = losing n f (staggered_fate f)
