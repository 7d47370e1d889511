-- Who is up on a staggered ring.
use Rattle.std.proofs.Common.{◌≡◌, ℕ, ◌≤◌, min}
use Rattle.carrier.specs.Losing.{staggered_up}
use Rattle.carrier.specs.Losses.{staggered}
use Rattle.carrier.specs.Sets.{AllBelow, Difference}

-- all that are not below the round or f, the lesser of the two
pub who_stays : (n f r a b g all below rest : ℕ) → n ≤ 16 → a ≡ n → b ≡ f → g ≡ min r b → AllBelow a all → AllBelow g below → Difference all below rest → rest ≡ (staggered n f).up r
who_stays n f r a b g all below rest few same most gone is_all is_below out =
    staggered_up n f r all below rest few (rw same at is_all.members) (rw (gone, most) at is_below.members) out.members
