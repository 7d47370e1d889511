-- The members of a set as a list, from the lowest up.
use Rattle.std.specs.Prelude.{ℕ, ◌-◌, List, filter}
use Rattle.std.specs.List.{range_with_len}
use Rattle.carrier.specs.Sets.{holds}
use Rattle.carrier.specs.declared.consoles.Consoles.{Consoles}

-- which of k consoles, from start on, are in s: those of start, start + 1 and so on that it holds
unfoldable pub members_among : ℕ → (start k : ℕ) → List ℕ
members_among s start k = filter (holds s) (range_with_len start k)

-- all members
abbrev pub rising : ℕ → List ℕ
rising s = members_among s 0 16

-- the members that an iterator has not given yet
abbrev pub still_to_come : Consoles → List ℕ
still_to_come c = members_among c.set.bits c.start (16 - c.start)
