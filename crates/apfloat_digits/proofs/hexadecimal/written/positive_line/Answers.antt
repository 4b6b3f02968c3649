use Rattle.std.proofs.{Common.refl, Common.arith, Common.w32, lemmas.Int.ints, lemmas.Int.to_z-of_z}
use Rattle.apfloat_model.specs.order.Classes.{quanta_of}
use Rattle.apfloat_model.proofs.arithmetic.Significands.{exponent_fits}
use Rattle.apfloat_ieee.specs.Types.{format_of}
use Rattle.apfloat_digits.proofs.hexadecimal_lemmas.AlignedDigits.{shortest}
use Rattle.apfloat_digits.proofs.hexadecimal.written.positive_line.Goals as goal

pub returns-clause-text : goal.returns-clause-text
returns-clause-text g c =
    let first = c.digits_of-number.result.exponent in
    let within = c.digits_of-number.ensures.within in
    let low = within.low in
    let high = within.high in
    let exact = to_z-of_z w32 first
    (exponent_fits first (record { low = omega (arith, ints, low); high = omega (arith, ints, high) })) in
    record {
      places = c.shortened-fraction.result.places;
      fraction = c.shortened-fraction.result.digits;
      exponent = c.digits_of-number.result.exponent;
      number = shortest (format_of g.S.Semantics) (quanta_of c.args.x) c.digits_of-number.result.digits _
          c.shortened-fraction.result.places c.shortened-fraction.result.digits c.digits_of-number.result.exponent
          (record {
            low = c.digits_of-number.ensures.low;
            high = c.digits_of-number.ensures.high;
            number = c.digits_of-number.ensures.number;
          }) refl c.shortened-fraction.ensures.few c.shortened-fraction.ensures.fits c.shortened-fraction.ensures.same
          c.shortened-fraction.ensures.last;
      text_is = rw exact at c.number_line.ensures.text;
    }
