use Rattle.std.proofs.Common.{refl, arith}
use Rattle.std.proofs.lemmas.Result.{err_from_is_err_and}
use Rattle.script.proofs.Loads.{holds_legal, carrier_left, cards_left}
use Rattle.script.proofs.Verdicts.{verdict_is_declared}
use Rattle.script.proofs.loader.load.Goals as goal

pub returns-in_err-read-clause-loads : goal.returns-in_err-read-clause-loads
returns-in_err-read-clause-loads c =
    let p = err_from_is_err_and c.from_residual.result c.from_residual.ensures.1 in
    let judged = c.in_err-read.ensures in
    rw (p.1, p.2) ((judged, (verdict_is_declared c.args.script.now (λ i. omega (arith, c.type_inv.script i)) _).0 judged), refl, refl)

pub returns-in_err-long_enough-clause-loads : goal.returns-in_err-long_enough-clause-loads
returns-in_err-long_enough-clause-loads c =
    let p = err_from_is_err_and c.from_residual-in_err-long_enough.result c.from_residual-in_err-long_enough.ensures.1 in
    let k = c.in_ok-read.ensures in
    rw (p.1, p.2) (
      record {
        listing = k.listing;
        count = _;
        judged = k.judged;
        admitted = (verdict_is_declared c.args.script.now (λ i. omega (arith, c.type_inv.script i)) _).0 k.judged;
        short = omega (arith, k.holds.sizes.0, c.in_err-long_enough.ensures);
      },
      refl,
      refl,
    )

pub invariant_of-carrier : goal.invariant_of-carrier
invariant_of-carrier c = let k = c.in_ok-read.ensures in record { legal = ∣ holds_legal _ k.listing k.holds ∣₁ }

pub returns-clause-loads : goal.returns-clause-loads
returns-clause-loads c = let k = c.in_ok-read.ensures in record {
  listing = k.listing;
  judged = k.judged;
  admitted = (verdict_is_declared c.args.script.now (λ i. omega (arith, c.type_inv.script i)) _).0 k.judged;
  enough = omega (arith, k.holds.sizes.0, c.in_ok-long_enough.ensures);
  n_is = k.holds.sizes.0;
  f_is = k.holds.sizes.1;
  carrier_left = carrier_left _ k.listing _ k.holds refl refl;
  cards_left = cards_left _ k.listing _ c.args.cards.now c.deal_out.new.cards k.holds k.holds.sizes.0 c.deal_out.auto.cards c.deal_out.ensures;
}
