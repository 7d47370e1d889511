-- What each operation on a set rests on, where its members are not those of one library operation.
use Rattle.std.proofs.Common.{ℕ, ◌-◌, ◌*◌, ◌%◌, ◌^◌, ◌<◌, ◌≤◌, nat_lt, Decides, Some, w16, bit_and, sym, ap, ◌∙◌, subst, ⊎_elim, arith}
use Rattle.std.specs.Int.{trailing_zeros}
use Rattle.std.proofs.lemmas.Nat.{one_shl}
use Rattle.std.proofs.lemmas.Bool.{cases_lt, cond-true, lt-ltb, ltb-true}
use Rattle.std.proofs.lemmas.Nat.Bits.{bit_at_above, bit_at-trailing_zeros}
use Rattle.carrier.specs.Sets.{AllBelow, Single, Difference, Removed, LowestFrom, Member}
use Rattle.carrier.specs.SetsLemmas.{alone_members, minus_members, minus_number}

pub one_console : (k : ℕ) → k < 16 → Single k ((1 * 2 ^ k) % 65536)
one_console k here =
    let shifted = one_shl k 16 here in
    record {
      members = λ j. (
        (λ m. let e = (alone_members k j).0 (subst (Member j) shifted m) in (e, omega arith)),
        (λ p. subst (Member j) (sym shifted) ((alone_members k j).1 p.0)),
      );
      number = shifted ∙ sym (cond-true _ _ _ (lt-ltb k 16 here));
    }

pub those_apart : (s t : ℕ) → s < 65536 → t < 65536 → Difference s t (bit_and s (65535 - t))
those_apart s t hs ht = record { members = minus_members 16 s t hs ht; number = minus_number 16 s t hs ht }

pub one_less : (s k one rest : ℕ) → s < 65536 → Single k one → Difference s one rest → Removed s k rest
one_less s k one rest hs is out = record {
  members = λ j. (
    (λ m. let (inside, other) = (out.members j).0 m in
        (inside, λ e. ⊎_elim (λ lt. other ((is.members j).1 (e, lt))) (λ ge. omega (arith, inside, bit_at_above s 16 j hs ge)) (cases_lt j 16))),
    (λ p. (out.members j).1 (p.0, λ m. p.1 ((is.members j).0 m).0)),
  );
  number = out.number ∙ ap (λ t. s - bit_and s t) is.number;
}

pub none_above : (s c : ℕ) → s < 65536 → 16 ≤ c → Decides (nat_lt c 16) (Member c s)
none_above s c hs ge =
    let none = bit_at_above s 16 c hs ge in
    ((λ e. absurd (omega (arith, ltb-true _ _ e))), (λ m. absurd (omega arith)))

-- the lowest member from some console on is the lowest bit of the members that are not below it
pub lowest_bit : (s start below rest : ℕ) → AllBelow start below → Difference s below rest → 0 < rest → rest < 2 ^ 16 → LowestFrom s start (Some (trailing_zeros w16 rest))
lowest_bit s start below rest all out some fits =
    let m = trailing_zeros w16 rest in
    let (inside, here, lower) = bit_at-trailing_zeros w16 rest some fits in
    let (held, from) = (out.members m).0 here in (
      ⊎_elim (λ lt. absurd (from ((all.members m).1 (lt, inside)))) (λ ge. ge) (cases_lt m start),
      inside,
      held,
      λ k ge lt member. omega (arith, lower k lt, (out.members k).1 (member, λ b. omega (arith, ((all.members k).0 b).0))),
    )
