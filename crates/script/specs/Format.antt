-- The format: the bytes of a command, and of a list of commands.
use Rattle.std.specs.Prelude.{◌≡◌, ℕ, ◌/◌, ◌%◌, ◌<◌, cond, List, [], ◌∷◌, ◌++◌, length, ◌==◌, slice_index}
use Rattle.script.specs.declared.command.CardEntry.{CardEntry}
use Rattle.script.specs.declared.command.CrashEntry.{CrashEntry}
use Rattle.script.specs.declared.command.Command.{Command}
use Rattle.script.specs.declared.command.Command.TheVariants.{Link, Card, Crash, Remark, End}

-- a command by what it says, wherever it stands
pub data Statement : Type 0 where
  link : (n f : ℕ) → Statement
  card : CardEntry → Statement
  crash : CrashEntry → Statement
  remark : (text : List ℕ) → Statement
  end : Statement

-- what a command that was read says
abbrev pub said : Command → Statement
said (Link n f) = link n f
said (Card entry) = card entry
said (Crash entry) = crash entry
said (Remark text) = remark text.now
said End = end

-- a number of two bytes and one of four, the high byte first
abbrev pub two_bytes : ℕ → List ℕ
two_bytes x = x / 256 ∷ x % 256 ∷ []

abbrev pub four_bytes : ℕ → List ℕ
four_bytes x = x / 16777216 ∷ x / 65536 % 256 ∷ x / 256 % 256 ∷ x % 256 ∷ []

-- one byte for the command, and then its operands
abbrev pub bytes_of : Statement → List ℕ
bytes_of (link n f) = 0x4C ∷ n ∷ f ∷ []
bytes_of (card e) = 0x50 ∷ e.console ∷ e.letter ∷ e.delay ∷ two_bytes e.modes ++ four_bytes e.seed
bytes_of (crash e) = 0x43 ∷ e.round ∷ e.console ∷ two_bytes e.hearers.bits
bytes_of (remark text) = 0x52 ∷ text
bytes_of end = 0x45 ∷ []

-- a remark has eight bytes; every other command has its operands by its kind
abbrev pub Whole : Statement → Type 0
Whole (link n f) = Unit {0}
Whole (card e) = Unit {0}
Whole (crash e) = Unit {0}
Whole (remark text) = length text ≡ 8
Whole end = Unit {0}

-- the bytes of one command after another
abbrev pub script_of : List Statement → List ℕ
script_of [] = []
script_of (s ∷ more) = bytes_of s ++ script_of more

-- how many bytes a command has, by its first; 0 where that is no command's
abbrev pub width_of : ℕ → ℕ
width_of b = cond (b == 0x4C) 3 (cond (b == 0x50) 10 (cond (b == 0x43) 5 (cond (b == 0x52) 9 (cond (b == 0x45) 1 0))))

-- the bytes begin with no command, as their first byte tells; or they break off in the midst of one, or before it
abbrev pub Unknown : List ℕ → Type 0
Unknown [] = ⊥
Unknown (b ∷ more) = width_of b ≡ 0

abbrev pub Unfinished : List ℕ → Type 0
Unfinished [] = Unit {0}
Unfinished (b ∷ more) = length (b ∷ more) < width_of b

-- every element is a byte
abbrev pub Bytes : List ℕ → Type 0
Bytes bs = (i : ℕ) → slice_index bs i < 256
