use Rattle.std.proofs.Common.{◌≡◌, ◌-◌, ◌*◌, ◌%◌, ◌^◌, min, ap, ◌∙◌, arith}
use Rattle.std.proofs.lemmas.Nat.{one_shl}
use Rattle.carrier.specs.Sets.{everybody}
use Rattle.carrier.specs.SetsLemmas.{everybody_here}
use Rattle.carrier.proofs.set.ConsoleSet.all_of.Goals as goal

pub returns-then-n-lt16 : goal.returns-then-n-lt16
returns-then-n-lt16 c =
    let n = c.args.n in
    let least : n ≡ min n 16 = omega arith in
    let number : (1 * 2 ^ n) % 65536 - 1 ≡ everybody (min n 16) = ap (λ s. s - 1) (one_shl n 16 c.if-n-lt16.true) ∙ ap everybody least in
    record { members = everybody_here n _ number; number = number }

pub returns-else-n-lt16 : goal.returns-else-n-lt16
returns-else-n-lt16 c =
    let n = c.args.n in
    let least : 16 ≡ min n 16 = omega arith in
    let number : 65535 ≡ everybody (min n 16) = ap everybody least in
    record { members = everybody_here n _ number; number = number }
