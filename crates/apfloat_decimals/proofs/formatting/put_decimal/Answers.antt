use Rattle.std.proofs.Common.{◌≡◌, arith, to_z, of_z, w32}
use Rattle.std.proofs.lemmas.Int.{ints}
use Rattle.apfloat_decimals.specs.Texts.{decimal_text}
use Rattle.apfloat_decimals.proofs.spelled.Lines.{text_and_zeros}
use Rattle.apfloat_decimals.proofs.formatting.put_decimal.Goals as goal

pub returns-clause-bytes : goal.returns-clause-bytes
returns-clause-bytes c =
    let exact : to_z w32 (of_z w32 c.args.decimal.exponent) ≡ c.args.decimal.exponent = omega (arith, ints) in
    text_and_zeros c.put_text.new.bytes (decimal_text c.args.decimal) c.put_text.result 64
    (rw exact at c.put_text.ensures.text) c.put_text.ensures.zeros (omega arith) (omega arith)
