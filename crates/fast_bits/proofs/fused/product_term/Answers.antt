use Rattle.std.proofs.{Common.arith, lemmas.Int.ints}
use Rattle.std.proofs.Common.{to_z, of_z, w32, ◌≡◌}
use Rattle.fast_bits.proofs.OddNumbers.{product_counted}
use Rattle.fast_bits.proofs.fused.product_term.Goals as goal

pub returns : goal.returns
returns g c =
    let x = c.args.x in
    let y = c.args.y in
    let product = c.raised_product-product in
    let raised = rw c.precision_of.ensures at product.ensures in
    let at = c.product_exponent.ensures in
    let w : to_z w32 (of_z w32 c.product_exponent.result) ≡ c.product_exponent.result =
    omega (arith, ints, at, c.requires.x.near, c.requires.y.near, raised.moved) in
    rw w (record {
      negative = c.sign_of_product.ensures;
      above = omega (arith, ints, at, c.requires.x.near, c.requires.y.near, raised.moved);
      below = omega (arith, ints, at, c.requires.x.near, c.requires.y.near, raised.moved);
      fits = raised.fits;
      full = raised.full;
      counted =
          product_counted x.significand x.place y.significand y.place product.result.moved product.result.significand
          c.product_exponent.result at raised.value;
    })
