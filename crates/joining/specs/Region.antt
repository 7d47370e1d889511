-- How regions join, and the rate of each.
use Rattle.std.specs.Prelude.{ℕ, Some, None, Option}
use Rattle.joining.specs.declared.region.Region.{Region}
use Rattle.joining.specs.declared.region.Region.TheVariants.{Unmarked, Fifty, Sixty, Clash}

-- unmarked with a value is that value, 50 with 60 is clash, clash with anything is clash
abbrev pub region_join : Region → Region → Region
region_join Unmarked y = y
region_join Fifty Unmarked = Fifty
region_join Fifty Fifty = Fifty
region_join Fifty Sixty = Clash
region_join Fifty Clash = Clash
region_join Sixty Unmarked = Sixty
region_join Sixty Fifty = Clash
region_join Sixty Sixty = Sixty
region_join Sixty Clash = Clash
region_join Clash y = Clash

-- frames in a second, where the region says one rate
abbrev pub rate_of : Region → Option ℕ
rate_of Unmarked = None
rate_of Fifty = Some 50
rate_of Sixty = Some 60
rate_of Clash = None
