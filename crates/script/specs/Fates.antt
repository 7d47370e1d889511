-- What a table of losses says becomes of each console, and which tables a ring may have.
use Rattle.std.specs.Prelude.{ℕ, ◌+◌, ◌<◌, ◌≤◌, List, Some, None, slice_index_or}
use Rattle.carrier.specs.Losses.{Fate, stays, lost, loses}
use Rattle.carrier.specs.Sets.{Member, nobody, tally}
use Rattle.script.specs.declared.table.Loss.{Loss}

-- the entry of a console that is not lost
abbrev pub no_loss : Loss
no_loss = record { round = None; hearers = record { bits = nobody } }

-- what an entry says becomes of its console
abbrev pub fate_of : Loss → Fate
fate_of loss = elim loss.round [ None ↦ stays | Some round ↦ lost round loss.hearers.bits ]

-- what becomes of console c; one without an entry is not lost
abbrev pub fates : List Loss → ℕ → Fate
fates entries c = fate_of (slice_index_or entries c no_loss)

-- how many of the consoles below n are lost
abbrev pub losses_below : (ℕ → Fate) → ℕ → ℕ
losses_below fate n = tally n (λ c. loses (fate c))

-- on a ring of n that may lose f: a console is lost in one of the rounds 1 to f + 1, and only consoles of the ring hear it then
abbrev pub WithinRing : ℕ → ℕ → Fate → Type 0
WithinRing n f stays = Unit {0}
WithinRing n f (lost round hearers) = (1 ≤ round) × (round ≤ f + 1) × ((c : ℕ) → Member c hearers → c < n)

-- the entries that a ring of n that may lose f can have: at most f consoles are lost, each within the ring
pub record Legal (n f : ℕ) (entries : List Loss) : Type 0 where
  pub few : losses_below (fates entries) 16 ≤ f
  pub each : (c : ℕ) → WithinRing n f (fates entries c)
