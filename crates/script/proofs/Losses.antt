-- How many consoles are lost: as many as crashes are listed.
use Rattle.std.proofs.Common.{◌≡◌, ℕ, zero, suc, ◌<◌, ◌≤◌, false, cond, List, [], ◌∷◌, length, is_some, Some, None, Option, refl, ap, ◌∙◌, arith}
use Rattle.carrier.specs.Losses.{Fate, loses}
use Rattle.script.specs.Admitted.{NoTwo, Sound}
use Rattle.script.specs.Fates.{fates, losses_below}
use Rattle.script.specs.Listing.{Listing, crash_for, listed_fate}
use Rattle.script.specs.declared.command.CrashEntry.{CrashEntry}
use Rattle.script.specs.declared.plan.Plan.{Plan}
use Rattle.script.proofs.Entries.{others_absent}
use Rattle.std.proofs.ByRecursion.{All-weaker}
use Rattle.std.proofs.lemmas.Bool.Decides.{nat_tests}
use Rattle.std.specs.List.{AllByRecursion}

pub none_since : {A : Type 0} (o : Option A) → is_some o ≡ false → o ≡ None
none_since None h = refl
none_since (Some x) h = cc

-- an entry adds the console that it names, and no other
before_it : (e : CrashEntry) (crashes : List CrashEntry) (n : ℕ) → n ≤ e.console → losses_below (listed_fate (e ∷ crashes)) n ≡ losses_below (listed_fate crashes) n
before_it e crashes zero h = refl
before_it e crashes (suc n) h = grind (arith, nat_tests, before_it e crashes n)

one_more : (e : CrashEntry) (crashes : List CrashEntry) (n : ℕ) → e.console < n → crash_for e.console crashes ≡ None
    → losses_below (listed_fate (e ∷ crashes)) n ≡ suc (losses_below (listed_fate crashes) n)
one_more e crashes zero lt new = absurd (omega arith)
one_more e crashes (suc n) lt new = grind (arith, nat_tests, before_it e crashes n, one_more e crashes n)

lost_as_listed : (crashes : List CrashEntry) (n : ℕ) → NoTwo (λ e. e.console) crashes → AllByRecursion (λ e. e.console < n) crashes
    → losses_below (listed_fate crashes) n ≡ length crashes
lost_as_listed [] zero apart inside = refl
lost_as_listed [] (suc n) apart inside = omega (arith, lost_as_listed [] n apart inside)
lost_as_listed (e ∷ crashes) n apart inside = grind (arith, one_more e crashes n, others_absent (λ (d : CrashEntry). d.console) e.console crashes apart.0, lost_as_listed crashes n apart.1 inside.1)

same_losses : (x y : ℕ → Fate) → ((c : ℕ) → x c ≡ y c) → (n : ℕ) → losses_below x n ≡ losses_below y n
same_losses x y same zero = refl
same_losses x y same (suc n) = omega (arith, same_losses x y same n, ap {B = ℕ} (λ x. cond (loses x) 1 0) (same n))

pub losses_listed : (p : Plan) (l : Listing) → Sound l → ((c : ℕ) → fates p.table.entries c ≡ listed_fate l.crashes c) → losses_below (fates p.table.entries) 16 ≡ length l.crashes
losses_listed p l sound same =
    same_losses (fates p.table.entries) (listed_fate l.crashes) same 16
    ∙ lost_as_listed l.crashes 16 sound.one_crash_each (All-weaker _ _ (λ e lt. omega (arith, sound.sizes.1)) l.crashes sound.crashes_in_ring)
