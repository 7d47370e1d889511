-- The verdict on a script: what it lists, or the one fault that it is refused with.
use Rattle.std.specs.Prelude.{◌≡◌, ℕ, zero, suc, ◌+◌, cond, List, [], ◌∷◌, length, Some, None, Option, nat_le}
use Rattle.refusal.specs.declared.command.CommandFault.{CommandFault}
use Rattle.refusal.specs.declared.command.CommandFault.TheVariants.{Reader, NotAllowedHere}
use Rattle.refusal.specs.declared.load.LoadFault.{LoadFault}
use Rattle.refusal.specs.declared.reader.ReaderFault.TheVariants.{Incomplete}
use Rattle.script.specs.Admitted.{Admitted, TestsMean, Refused}
use Rattle.script.specs.Format.{Statement, bytes_of, Bytes}
use Rattle.script.specs.Listing.{Listing, UncardedIsLowest}
use Rattle.script.specs.Reading.{Reading, found, stopped, read_first}
use Rattle.script.specs.Rules.{Standing, nothing, under_way, ended, rules, first_broken, advance}

-- what is listed and how many commands there are, or a fault
pub data Verdict : Type 0 where
  accepted : Listing → (count : ℕ) → Verdict
  refused : LoadFault → Verdict

-- a fault of the command at a place, behind so many others
abbrev pub refused_at : ℕ → ℕ → CommandFault → Verdict
refused_at place count fault = refused (LoadFault.Command (record { fault = fault; place = place; count = count }))

-- what becomes of the bytes that begin with one command: a refusal, or what stands then, the command and the bytes behind it
pub data Judged : Type 0 where
  stops : CommandFault → Judged
  goes : Standing → Statement → (rest : List ℕ) → Judged

abbrev pub judge_command : Standing → Statement → List ℕ → Option CommandFault → Judged
judge_command s c rest (Some fault) = stops fault
judge_command s c rest None = goes (advance s c) c rest

abbrev pub judge_reading : Standing → Reading → Judged
judge_reading s (stopped e) = stops (Reader e)
judge_reading s (found c rest) = judge_command s c rest (first_broken (rules s c))

-- by the reader, and then by the command's rules
unfoldable pub judge : Standing → List ℕ → Judged
judge s bytes = judge_reading s (read_first bytes)

-- behind END there is nothing
abbrev pub after_end : Listing → (place count : ℕ) → List ℕ → Verdict
after_end l place count [] = accepted l count
after_end l place count (b ∷ more) = refused_at place count NotAllowedHere

-- what is described, where END stood
abbrev pub ending : Standing → Option Listing
ending nothing = None
ending (under_way l) = None
ending (ended l) = Some l

-- Command after command, up to END. The first number is more than there can be.
unfoldable pub walk : ℕ → Standing → (place count : ℕ) → List ℕ → Verdict
walk zero s place count bytes = refused_at place count (Reader Incomplete)
walk (suc k) s place count bytes =
    elim (ending s) [
      | Some l ↦ after_end l place count bytes
      | None ↦ elim (judge s bytes) [
        | stops fault ↦ refused_at place count fault
        | goes t c rest ↦ walk k t (place + length (bytes_of c)) (suc count) rest
      ]
    ]

-- at most 4,096 bytes, from the first command on
unfoldable pub verdict : List ℕ → Verdict
verdict script = cond (nat_le (length script) 4096) (walk (suc (length script)) nothing 0 0 script) (refused LoadFault.TooLong)

-- what the verdict is declared to be
abbrev pub Declared : List ℕ → Verdict → Type 0
Declared script (accepted l count) = Admitted script l count
Declared script (refused fault) = Refused script fault

-- the verdict accepts exactly what is admitted, and refuses with exactly the fault that is declared
abbrev pub VerdictIsDeclared : Type 0
VerdictIsDeclared = (script : List ℕ) → Bytes script → (v : Verdict) → (verdict script ≡ v → Declared script v) × (Declared script v → verdict script ≡ v)

-- every byte string has one verdict, and no other
abbrev pub OneVerdict : Type 0
OneVerdict = (script : List ℕ) → Bytes script → (v : Verdict) × Declared script v × ((w : Verdict) → Declared script w → w ≡ v)

-- what is promised of the verdicts on all scripts
pub record JudgedAsDeclared : Type 0 where
  pub as_declared : VerdictIsDeclared
  pub exactly_one : OneVerdict
  pub lowest_named : UncardedIsLowest
  pub tests_mean : TestsMean
