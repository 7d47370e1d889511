use Rattle.std.proofs.Common.{◌≡◌, ◌+◌, ◌-◌, length, drop, sym, refl, ap, ◌∙◌, arith}
use Rattle.std.proofs.lemmas.List.{take_rest}
use Rattle.script.specs.Format.{Bytes, bytes_of, said}
use Rattle.script.specs.Reading.{read_first, found}
use Rattle.script.proofs.Reading.{next_found, sound, bytes_from}
use Rattle.script.proofs.reader.read.Goals as goal

pub returns-clause-stands : goal.returns-clause-stands
returns-clause-stands c =
    let script = c.args.script.now in
    let byte : Bytes script = λ i. omega (arith, c.type_inv.script i) in
    let said_first = said c.in_ok-command.command in
    let rest = c.in_ok-command.rest.now in
    let first : read_first (drop c.args.place script) ≡ found said_first rest = ap read_first (sym (take_rest script c.args.place)) ∙ c.in_ok-command.ensures in
    let next = next_found script byte c.args.place c.if-place-script.false _ _ first in
    let starts : length script - length rest ≡ c.args.place + length (bytes_of said_first) = omega (arith, next.inside) in
    let read = first ∙ ap (found said_first) (next.rest_is ∙ ap (λ k. drop k script) (sym starts)) in
    let here = sound (drop c.args.place script) (bytes_from script byte c.args.place) _ _ read in
    record { read = read; bytes = here.0; whole = here.1; place_is = refl; next_is = starts }
