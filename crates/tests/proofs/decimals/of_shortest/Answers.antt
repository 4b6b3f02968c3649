use Rattle.std.proofs.Common.{refl, arith}
use Rattle.rustc_apfloat.specs.Types.{format_of}
use Rattle.apfloat_model.specs.rounding.Flags.{bits_of}
use Rattle.tests.proofs.decimals.of_shortest.Goals as goal

pub returns : goal.returns
returns g c =
    let d = c.in-Some.decimal in
    let answer = c.from_decimal in
    record {
      decimal = d;
      shortest = c.in-Some.ensures;
      rounded = answer.ensures;
      value = c.shortest_reads_back.ensures (format_of g.S.Semantics) c.args.x d d.digits d.exponent answer.result.value
          (bits_of answer.result.status) (omega (arith, g.S.Semantics.lawful.parameters.precision_low))
          c.category.ensures.member c.in-Some.ensures refl answer.ensures;
    }
