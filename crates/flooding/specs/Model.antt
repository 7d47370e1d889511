-- Rounds in the words of the synchronous crash model.
use Rattle.std.specs.Prelude.{◌≡◌, ℕ, suc}
use Rattle.carrier.specs.Pattern.{Pattern, RoundRule}
use Rattle.carrier.specs.Sets.{Member, Members, Within}
use Rattle.joining.specs.Semilattice.{Semilattice}
use Rattle.flooding.specs.Rounds.{Record, join_records, senders, round, rounds}
use Rattle.flooding.specs.Trees.{Tree, leaves, value_over}

-- what round r + 1 makes of the records before it
pub record LegalRound {M : Type 0} (join : M → M → M) (p : Pattern) (r : ℕ) (before after : ℕ → Record M) : Type 0 where
  -- a console that was down stays down, and a console that is not up after the round keeps its record
  pub down_stays_down : (i : ℕ) → (Member i (p.up r) → ⊥) → Member i (p.up (suc r)) → ⊥
  pub down_keeps_its_record : (i : ℕ) → (Member i (p.up (suc r)) → ⊥) → after i ≡ before i
  -- a sender is collected if it was up before the round and is heard in it
  pub senders_are_heard : (i : ℕ) → Members (senders p r i) (λ j. Member j (p.up r) × Member i (p.heard (suc r) j))
  -- whoever stays up collects from everyone that stays up, itself among them, and only from consoles that were up before
  pub collects_from_survivors : (i : ℕ) → Member i (p.up (suc r)) → Within (p.up (suc r)) (senders p r i)
  pub collects_from_itself : (i : ℕ) → Member i (p.up (suc r)) → Member i (senders p r i)
  pub collects_from_none_down : (i : ℕ) → Within (senders p r i) (p.up r)
  -- its new record is the join, in any order and grouping, of exactly the collected records, and its heard set their union
  pub record_is_join : (i : ℕ) → Member i (p.up (suc r)) → (t : Tree) → leaves t ≡ senders p r i
      → after i ≡ value_over (join_records join) before t
  pub heard_is_union : (i : ℕ) → Member i (p.up (suc r))
      → Members (after i).heard (λ c. (j : ℕ) × Member j (senders p r i) × Member c (before j).heard)

-- A round is a legal round of the synchronous crash model, whatever the records before it are.
abbrev pub RoundIsLegal : Type 0 → Type 0
RoundIsLegal M =
    (join : M → M → M) → Semilattice join → (p : Pattern) → RoundRule p → (r : ℕ) (before : ℕ → Record M)
    → LegalRound join p r before (round (join_records join) p r before)

-- a run: it begins with what the consoles start with, and each round in its turn is a legal one
pub record LegalRun {M : Type 0} (join : M → M → M) (p : Pattern) (start : ℕ → Record M) (after : ℕ → ℕ → Record M) : Type 0 where
  pub begins : after 0 ≡ start
  pub goes_on : (r : ℕ) → LegalRound join p r (after r) (after (suc r))

-- Any number of rounds is a run of that model.
abbrev pub RoundsAreLegal : Type 0 → Type 0
RoundsAreLegal M =
    (join : M → M → M) → Semilattice join → (p : Pattern) → RoundRule p → (start : ℕ → Record M)
    → LegalRun join p start (rounds (join_records join) p start)
