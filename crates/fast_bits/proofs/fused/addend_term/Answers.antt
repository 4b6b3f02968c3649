use Rattle.std.proofs.{Common.arith, lemmas.Int.ints}
use Rattle.std.proofs.Common.{to_z, of_z, w32, ◌≡◌, refl}
use Rattle.apfloat_ieee.specs.FlaggedTypes.{format_of}
use Rattle.fast_bits.proofs.OddNumbers.{addend_counted}
use Rattle.fast_bits.proofs.fused.addend_term.Goals as goal

pub returns : goal.returns
returns g c =
    let z = c.args.z in
    let raised = rw c.precision_of.ensures at c.raised_addend.ensures in
    let at = c.addend_exponent.ensures in
    let w : to_z w32 (of_z w32 c.addend_exponent.result) ≡ c.addend_exponent.result =
    omega (arith, ints, at, c.requires.z.near, c.requires.word.precise, g.S.Flagged.lawful.parameters) in
    rw w (record {
      negative = refl;
      above = omega (arith, ints, at, c.requires.z.near, c.requires.word.precise, g.S.Flagged.lawful.parameters);
      below = omega (arith, ints, at, c.requires.z.near, c.requires.word.precise, g.S.Flagged.lawful.parameters);
      fits = raised.fits;
      full = raised.full;
      counted =
          addend_counted z.significand z.place (format_of g.S.Flagged).scale g.S.Flagged.PRECISION
          c.raised_addend.result c.addend_exponent.result at raised.value;
    })
