-- The sixteen delays by their number of frames, and how they join.
use Rattle.std.specs.Prelude.{ℕ, cond, nat_lt}
use Rattle.joining.specs.declared.delay.Delay.{Delay}
use Rattle.joining.specs.declared.delay.Delay.TheVariants.{Zero, One, Two, Three, Four, Five, Six, Seven, Eight, Nine, Ten, Eleven, Twelve, Thirteen, Fourteen, Fifteen}

abbrev pub frames_of : Delay → ℕ
frames_of Zero = 0
frames_of One = 1
frames_of Two = 2
frames_of Three = 3
frames_of Four = 4
frames_of Five = 5
frames_of Six = 6
frames_of Seven = 7
frames_of Eight = 8
frames_of Nine = 9
frames_of Ten = 10
frames_of Eleven = 11
frames_of Twelve = 12
frames_of Thirteen = 13
frames_of Fourteen = 14
frames_of Fifteen = 15

-- the greater remains
abbrev pub delay_join : Delay → Delay → Delay
delay_join x y = cond (nat_lt (frames_of x) (frames_of y)) y x
