-- A round of flooding over a failure pattern, and what any number of rounds gives. The round after round r is round
-- r + 1: it leads from who is up after round r to who is up after round r + 1.
use Rattle.std.specs.Prelude.{ℕ, zero, suc, Bool, true, false, cond, ◌&&◌, bit_or}
use Rattle.carrier.specs.Pattern.{Pattern}
use Rattle.carrier.specs.Sets.{holds, alone, those}

-- whether console i collects in round r + 1 what console j has: j was up before the round, and i hears j in it
abbrev pub collects : Pattern → ℕ → ℕ → ℕ → Bool
collects p r i j = holds (p.up r) j && holds (p.heard (suc r) j) i

-- the senders from which console i collects in round r + 1
abbrev pub senders : Pattern → ℕ → ℕ → ℕ
senders p r i = those p.n (collects p r i)

-- Rounds over anything that is joined: whole records, or heard sets alone.
module _ {X : Type 0} (join : X → X → X) where
  abbrev pub joined_if : Bool → X → X → X
  joined_if true x y = join x y
  joined_if false x y = x

  -- x joined with what each console below k has that passes the test, by rising number
  unfoldable pub gathered : ℕ → (ℕ → Bool) → (ℕ → X) → X → X
  gathered zero test has x = x
  gathered (suc j) test has x = joined_if (test j) (gathered j test has x) (has j)

  -- what console i has after round r + 1, given what each console has before it: if it stays up, what it had joined with
  -- what it collects; otherwise what it had
  unfoldable pub round : Pattern → ℕ → (ℕ → X) → ℕ → X
  round p r has i = cond (holds (p.up (suc r)) i) (gathered p.n (collects p r i) has (has i)) (has i)

  -- what console i has after r rounds, given what each console starts with
  unfoldable pub rounds : Pattern → (ℕ → X) → ℕ → ℕ → X
  rounds p start zero = start
  rounds p start (suc r) = round p r (rounds p start r)

-- A console's record: its value, by the value's meaning, and its heard set, the consoles whose proposals are in that
-- value. The heard set is what flooding floods.
pub record Record (M : Type 0) : Type 0 where
  pub value : M
  pub heard : ℕ

-- records are joined part by part: the values joined, the heard sets united
abbrev pub join_records : {M : Type 0} → (M → M → M) → Record M → Record M → Record M
join_records join x y = record { value = join x.value y.value; heard = bit_or x.heard y.heard }

-- what a console starts with: its own proposal, and itself alone
abbrev pub own : {M : Type 0} → (ℕ → M) → ℕ → Record M
own proposal i = record { value = proposal i; heard = alone i }

-- what the rounds give: the heard set of console i after r rounds, by sets alone, from itself alone
abbrev pub heard_after : Pattern → ℕ → ℕ → ℕ
heard_after p = rounds bit_or p alone
