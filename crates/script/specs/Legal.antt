-- A legal table gives what the round rule asks, and a table that loses nobody is legal.
use Rattle.std.specs.Prelude.{◌≡◌, ℕ, zero, suc, ◌≤◌, cond, List, replicate, refl}
use denote.Struct.Props.{props}
use Rattle.std.proofs.lemmas.List.{length-replicate, get_or-replicate}
use Rattle.std.proofs.Math.ListN.{get_or-eq_default}
use Rattle.std.proofs.Common.{⊎_elim, sym, ap, subst, ◌∙◌, arith}
use Rattle.std.proofs.Math.Logic.{∥∥₁_elim}
use Rattle.std.proofs.Math.Bridge.{le_prop}
use Rattle.std.proofs.lemmas.Bool.{cases_lt}
use Rattle.carrier.specs.Losses.{Fate, stays, lost, loses, losing, quiet}
use Rattle.carrier.specs.Pattern.{RoundRule}
use Rattle.carrier.specs.Sizes.{InRange}
use Rattle.carrier.specs.Losing.{Sound, losing_obeys}
use Rattle.script.specs.declared.table.Loss.{Loss}
use Rattle.script.specs.Fates.{no_loss, fate_of, fates, losses_below, WithinRing, Legal}

losses_grow : (n k : ℕ) (fate : ℕ → Fate) → n ≤ k → losses_below fate n ≤ losses_below fate k
losses_grow n zero fate h = let e : n ≡ 0 = omega arith in omega (arith, ap (losses_below fate) e)
losses_grow n (suc k) fate h =
    ⊎_elim
    (λ lt. omega (arith, losses_grow n k fate (omega arith)))
    (λ ge. let e : n ≡ suc k = omega arith in omega (arith, ap (losses_below fate) e))
    (cases_lt n (suc k))

sound_within : (n f : ℕ) (x : Fate) → WithinRing n f x → Sound n x
sound_within n f stays h = tt
sound_within n f (lost round hearers) h = (h.0, h.2)

pub legal_obeys : (n f : ℕ) (entries : List Loss) → InRange n f → Legal n f entries → RoundRule (losing n f (fates entries))
legal_obeys n f entries ranges legal =
    losing_obeys n f (fates entries) ranges
    (omega (arith, losses_grow n 16 (fates entries) ranges.1, legal.few))
    (λ c h. sound_within n f (fates entries c) (legal.each c))

within_ring_prop : (n f : ℕ) (x : Fate) → IsProp (WithinRing n f x)
within_ring_prop n f stays = hlevel props
within_ring_prop n f (lost round hearers) = hlevel props

legal_prop : (n f : ℕ) (entries : List Loss) → IsProp (Legal n f entries)
legal_prop n f entries p q = λ i. record {
  few = le_prop p.few q.few i;
  each = λ c. within_ring_prop n f (fates entries c) (p.each c) (q.each c) i;
}

pub legal_itself : (n f : ℕ) (entries : List Loss) → ∥ Legal n f entries ∥₁ → Legal n f entries
legal_itself n f entries h = ∥∥₁_elim h (legal_prop n f entries) (λ legal. legal)

nobody_lost : (entries : List Loss) → entries ≡ replicate 16 no_loss → (c : ℕ) → fates entries c ≡ stays
nobody_lost entries e c =
    ap (λ xs. fates xs c) e
    ∙ ⊎_elim
    (λ lt. ap fate_of (get_or-replicate 16 c no_loss no_loss lt))
    (λ ge. ap fate_of (get_or-eq_default (replicate 16 no_loss) no_loss {n = c} (omega (arith, length-replicate 16 no_loss))))
    (cases_lt c 16)

losses_none : (fate : ℕ → Fate) (n : ℕ) → ((c : ℕ) → fate c ≡ stays) → losses_below fate n ≡ 0
losses_none fate zero none = refl
losses_none fate (suc n) none = omega (arith, losses_none fate n none, ap {B = ℕ} (λ x. cond (loses x) 1 0) (none n))

pub empty_legal : (n f : ℕ) (entries : List Loss) → entries ≡ replicate 16 no_loss → Legal n f entries
empty_legal n f entries e = record {
  few = omega (arith, losses_none (fates entries) 16 (nobody_lost entries e));
  each = λ c. subst (WithinRing n f) (sym (nobody_lost entries e c)) tt;
}

pub empty_quiet : (n f : ℕ) (entries : List Loss) → n ≡ 1 → f ≡ 0 → entries ≡ replicate 16 no_loss → losing n f (fates entries) ≡ quiet 1 0
empty_quiet n f entries one none e = λ i. losing (one i) (none i) (λ c. nobody_lost entries e c i)
