-- Sets of consoles as numbers: bit c of the number is console c.
use Rattle.std.specs.Prelude.{◌≡◌, ℕ, zero, suc, ◌+◌, ◌-◌, ◌/◌, ◌%◌, ◌^◌, ◌<◌, ◌≤◌, min, Bool, cond, ◌⊎◌, Some, None, Option, ◌==◌, ◌≢◌, bit_and, bit_or, nat_lt}

-- whether console c is in s, as 1 or 0
abbrev pub bit : ℕ → ℕ → ℕ
bit s c = (s / 2 ^ c) % 2

-- whether console c is in s, as a test
abbrev pub holds : ℕ → ℕ → Bool
holds s c = bit s c == 1

-- c is in s
abbrev pub Member : ℕ → ℕ → Type 0
Member c s = bit s c ≡ 1

-- the members of s are those of which P holds, and no others
abbrev pub Members : ℕ → (ℕ → Type 0) → Type 0
Members s P = (c : ℕ) → (Member c s → P c) × (P c → Member c s)

-- every member of s is one of t
abbrev pub Within : ℕ → ℕ → Type 0
Within s t = (c : ℕ) → Member c s → Member c t

abbrev pub nobody : ℕ
nobody = 0

-- the consoles below n
abbrev pub everybody : ℕ → ℕ
everybody n = 2 ^ n - 1

-- console c alone
abbrev pub alone : ℕ → ℕ
alone c = 2 ^ c

-- console c alone, and nobody where there is no console c
abbrev pub sole : ℕ → ℕ
sole c = cond (nat_lt c 16) (alone c) nobody

-- the consoles below n that pass a test
unfoldable pub those : ℕ → (ℕ → Bool) → ℕ
those zero test = nobody
those (suc c) test = those c test + cond (test c) (alone c) nobody

-- how many of the consoles below n pass a test
abbrev pub tally : ℕ → (ℕ → Bool) → ℕ
tally zero test = 0
tally (suc c) test = tally c test + cond (test c) 1 0

-- how many of the consoles below n are in s
unfoldable pub count_below : ℕ → ℕ → ℕ
count_below s zero = 0
count_below s (suc c) = count_below s c + bit s c

-- how many consoles are in s
unfoldable pub size : ℕ → ℕ
size s = count_below s 16

-- What each operation answers, r, by its members and as a number. There is no console from 16 on.
pub record AllBelow (n r : ℕ) : Type 0 where
  pub members : Members r (λ c. (c < n) × (c < 16))
  pub number : r ≡ everybody (min n 16)

pub record Single (console r : ℕ) : Type 0 where
  pub members : Members r (λ c. (c ≡ console) × (c < 16))
  pub number : r ≡ sole console

pub record Union (s t r : ℕ) : Type 0 where
  pub members : Members r (λ c. Member c s ⊎ Member c t)
  pub number : r ≡ bit_or s t

pub record Intersection (s t r : ℕ) : Type 0 where
  pub members : Members r (λ c. Member c s × Member c t)
  pub number : r ≡ bit_and s t

pub record Difference (s t r : ℕ) : Type 0 where
  pub members : Members r (λ c. Member c s × (Member c t → ⊥))
  pub number : r ≡ s - bit_and s t

pub record Added (s console r : ℕ) : Type 0 where
  pub members : Members r (λ c. Member c s ⊎ ((c ≡ console) × (c < 16)))
  pub number : r ≡ bit_or s (sole console)

pub record Removed (s console r : ℕ) : Type 0 where
  pub members : Members r (λ c. Member c s × (c ≢ console))
  pub number : r ≡ s - bit_and s (sole console)

-- the lowest member of s from start on
abbrev pub LowestFrom : ℕ → ℕ → Option ℕ → Type 0
LowestFrom s start None = (c : ℕ) → start ≤ c → c < 16 → Member c s → ⊥
LowestFrom s start (Some m) = (start ≤ m) × (m < 16) × Member m s × ((c : ℕ) → start ≤ c → c < m → Member c s → ⊥)
