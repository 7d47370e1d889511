-- What a carrier decides, and the round rule that every carrier obeys.
use Rattle.std.specs.Prelude.{◌≡◌, ℕ, suc, ◌-◌, ◌<◌, ◌≤◌}
use Rattle.carrier.specs.Sizes.{InRange}
use Rattle.carrier.specs.Sets.{Member, Within, nobody, everybody, size}

-- a crash-failure pattern of a synchronous network
pub record Pattern : Type 0 where
  pub n : ℕ  -- how many consoles there are
  pub f : ℕ  -- how many of them may be lost
  pub up : ℕ → ℕ  -- who is up after round r; after round 0 is before the first
  pub heard : ℕ → ℕ → ℕ  -- who hears console j in round r

-- The round rule. A console that was up before a round and is not up after it is lost in that round, and any set may
-- hear it then.
pub record RoundRule (p : Pattern) : Type 0 where
  pub in_range : InRange p.n p.f
  -- all are up before the first round, nobody comes back, and at most f are ever lost
  pub all_up_first : p.up 0 ≡ everybody p.n
  pub none_returns : (r : ℕ) → Within (p.up (suc r)) (p.up r)
  pub enough_stay : (r : ℕ) → p.n - p.f ≤ size (p.up r)
  -- a console that stays up in a round is heard by all that do; one that was down before it is heard by nobody
  pub up_is_heard_by_up : (r j : ℕ) → Member j (p.up (suc r)) → Within (p.up (suc r)) (p.heard (suc r) j)
  pub down_is_unheard : (r j : ℕ) → (Member j (p.up r) → ⊥) → p.heard (suc r) j ≡ nobody
  -- only consoles of the ring hear; in round 0 nobody is heard, and from outside the ring nobody ever is
  pub hearers_exist : (r j c : ℕ) → Member c (p.heard r j) → c < p.n
  pub unheard_before_round_1 : (j : ℕ) → p.heard 0 j ≡ nobody
  pub unheard_from_outside : (r j : ℕ) → p.n ≤ j → p.heard r j ≡ nobody
