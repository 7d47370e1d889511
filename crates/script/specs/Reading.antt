-- What the reader answers.
use Rattle.std.specs.Prelude.{◌≡◌, ℕ, ◌+◌, ◌*◌, cond, List, ◌++◌, length, take, drop, Ok, Err, Result, ◌==◌, ◌≢◌, nat_le, slice_index}
use Rattle.std.specs.Borrow.{Bor}
use Rattle.refusal.specs.declared.reader.ReaderFault.{ReaderFault}
use Rattle.refusal.specs.declared.reader.ReaderFault.TheVariants.{NoCommand, Incomplete}
use Rattle.script.specs.Format.{Statement, link, card, crash, remark, end, said, bytes_of, Whole, Unknown, Unfinished}
use Rattle.script.specs.declared.command.Command.{Command}
use Rattle.script.specs.declared.command.Found.{Found}

-- what bytes begin with: a whole command and the bytes behind it, or why there is none
pub data Reading : Type 0 where
  found : Statement → (rest : List ℕ) → Reading
  stopped : ReaderFault → Reading

-- the number at place k of two bytes, and of four, the high byte first
abbrev pub two_at : List ℕ → ℕ → ℕ
two_at bs k = slice_index bs k * 256 + slice_index bs (k + 1)

abbrev pub four_at : List ℕ → ℕ → ℕ
four_at bs k = slice_index bs k * 16777216 + slice_index bs (k + 1) * 65536 + slice_index bs (k + 2) * 256 + slice_index bs (k + 3)

-- a command of k bytes, if there are as many
abbrev pub of_width : ℕ → List ℕ → Statement → Reading
of_width k bs s = cond (nat_le k (length bs)) (found s (drop k bs)) (stopped Incomplete)

-- The command of the first byte, with its operands behind it.
abbrev pub link_from : List ℕ → Reading
link_from bs = of_width 3 bs (link (slice_index bs 1) (slice_index bs 2))

abbrev pub card_from : List ℕ → Reading
card_from bs = of_width 10 bs (card (record { console = slice_index bs 1; letter = slice_index bs 2; delay = slice_index bs 3; modes = two_at bs 4; seed = four_at bs 6 }))

abbrev pub crash_from : List ℕ → Reading
crash_from bs = of_width 5 bs (crash (record { round = slice_index bs 1; console = slice_index bs 2; hearers = record { bits = two_at bs 3 } }))

abbrev pub remark_from : List ℕ → Reading
remark_from bs = of_width 9 bs (remark (take 8 (drop 1 bs)))

abbrev pub end_from : List ℕ → Reading
end_from bs = of_width 1 bs end

abbrev pub read_command : ℕ → List ℕ → Reading
read_command b bs =
    cond (b == 0x4C) (link_from bs)
    (cond (b == 0x50) (card_from bs)
    (cond (b == 0x43) (crash_from bs)
    (cond (b == 0x52) (remark_from bs)
    (cond (b == 0x45) (end_from bs)
    (stopped NoCommand)))))

abbrev pub read_first : List ℕ → Reading
read_first bs = cond (length bs == 0) (stopped Incomplete) (read_command (slice_index bs 0) bs)

abbrev pub FirstOf : Reading → Result (Command × Bor (List ℕ)) ReaderFault → Type 0
FirstOf reading (Ok r) = reading ≡ found (said r.0) r.1.now
FirstOf reading (Err e) = reading ≡ stopped e

-- the command stands there, whole, with its place and the place where the next one begins
pub record StandsAt (script : List ℕ) (place : ℕ) (r : Found) : Type 0 where
  pub read : read_first (drop place script) ≡ found (said r.command) (drop r.next script)
  pub bytes : drop place script ≡ bytes_of (said r.command) ++ drop r.next script
  pub whole : Whole (said r.command)
  pub place_is : r.place ≡ place
  pub next_is : r.next ≡ place + length (bytes_of (said r.command))

-- what stands at a place: a command, or a byte that is none, or less than a command, as at the end and past it
abbrev pub ReadAt : List ℕ → ℕ → Result Found ReaderFault → Type 0
ReadAt script place (Ok r) = StandsAt script place r
ReadAt script place (Err NoCommand) = (read_first (drop place script) ≡ stopped NoCommand) × Unknown (drop place script)
ReadAt script place (Err Incomplete) = (read_first (drop place script) ≡ stopped Incomplete) × Unfinished (drop place script)

-- the answer is that command
abbrev pub ReadsAs : Statement → Result Found ReaderFault → Type 0
ReadsAs c (Ok r) = said r.command ≡ c
ReadsAs c (Err e) = ⊥

-- every command's bytes are read back as that command, wherever they stand
abbrev pub ReadBack : Type 0
ReadBack = (c : Statement) → Whole c → (before after : List ℕ) (r : Result Found ReaderFault) → ReadAt (before ++ (bytes_of c ++ after)) (length before) r → ReadsAs c r

abbrev pub NoRemark : Result Found ReaderFault → Type 0
NoRemark (Ok r) = (text : List ℕ) → said r.command ≢ remark text
NoRemark (Err e) = Unit {0}

-- the command that matters at a place: the one there, or behind a whole remark the one that matters nine bytes on
pub data Matters (script : List ℕ) : ℕ → Result Found ReaderFault → Type 0 where
  here : (place : ℕ) (r : Result Found ReaderFault) → ReadAt script place r → NoRemark r → Matters script place r
  behind : (place : ℕ) (text rest : List ℕ) (r : Result Found ReaderFault) → read_first (drop place script) ≡ found (remark text) rest
      → Matters script (place + 9) r → Matters script place r
