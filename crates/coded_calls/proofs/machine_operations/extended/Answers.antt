use Rattle.std.proofs.Common.{sym}
use Rattle.coded_calls.proofs.machine_operations.extended.Goals as goal

pub returns : goal.returns
returns g c = λ infinite.
    let machine = c.choices.result in
    let product = (c.settled-product.ensures.operations infinite).product c.args.round c.wide_mul_r.ensures in
    rw (sym c.choices.ensures, sym c.value-x.ensures, sym c.value-y.ensures)
    (record {
      given = c.extended_product.result;
      holds = c.extended_product.ensures.product machine c.args.round product;
      is_written = c.written.ensures;
    })
