-- A delay is known by its number of frames, so the laws of its join are those of the greater number.
use Rattle.std.specs.Prelude.{◌≡◌, max, nat_lt, refl}
use Rattle.std.proofs.Common.{sym, ◌∙◌, arith}
use Rattle.std.proofs.lemmas.Bool.{cond_both, ltb-true, ltb-false}
use denote.Enum.Bare.{tag_one}
use denote.Enum.Declared.{tag_of}
use Rattle.joining.specs.Delay.{frames_of, delay_join}
use Rattle.joining.specs.Semilattice.{Semilattice}
use Rattle.joining.specs.contracts.delay.Delay.{the_type}
use Rattle.joining.specs.declared.delay.Delay.{Delay}
use Rattle.joining.specs.declared.delay.Delay.TheVariants.{Zero, One, Two, Three, Four, Five, Six, Seven, Eight, Nine, Ten, Eleven, Twelve, Thirteen, Fourteen, Fifteen}

-- the place of a delay among the sixteen
pub place_is_frames : (d : Delay) → tag_of the_type d ≡ frames_of d
place_is_frames Zero = refl
place_is_frames One = refl
place_is_frames Two = refl
place_is_frames Three = refl
place_is_frames Four = refl
place_is_frames Five = refl
place_is_frames Six = refl
place_is_frames Seven = refl
place_is_frames Eight = refl
place_is_frames Nine = refl
place_is_frames Ten = refl
place_is_frames Eleven = refl
place_is_frames Twelve = refl
place_is_frames Thirteen = refl
place_is_frames Fourteen = refl
place_is_frames Fifteen = refl

pub same_frames : (x y : Delay) → frames_of x ≡ frames_of y → x ≡ y
same_frames x y e = tag_one the_type tt x y (place_is_frames x ∙ e ∙ sym (place_is_frames y))

pub frames_of_join : (x y : Delay) → frames_of (delay_join x y) ≡ max (frames_of x) (frames_of y)
frames_of_join x y =
    cond_both (nat_lt (frames_of x) (frames_of y)) y x (λ d. frames_of d ≡ max (frames_of x) (frames_of y))
    (λ e. omega (arith, ltb-true _ _ e))
    (λ e. omega (arith, ltb-false _ _ e))

pub delay_laws : Semilattice delay_join
delay_laws = record {
  order = λ x y. same_frames _ _ (frames_of_join x y ∙ sym (frames_of_join y x ∙ omega arith));
  grouping = λ x y z.
      same_frames _ _ (omega (arith, frames_of_join (delay_join x y) z, frames_of_join x y, frames_of_join x (delay_join y z), frames_of_join y z));
  itself = λ x. same_frames _ _ (frames_of_join x x ∙ omega arith);
}
