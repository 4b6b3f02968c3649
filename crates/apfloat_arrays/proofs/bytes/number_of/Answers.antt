use Rattle.std.proofs.Common.{◌≡◌, length, ◌∙◌, arith}
use Rattle.apfloat_arrays.proofs.LittleEndian.{eight_bytes}
use Rattle.apfloat_arrays.proofs.bytes.number_of.Goals as goal

pub returns-in-len8 : goal.returns-in-len8
returns-in-len8 c =
    let all : length c.args.bytes.now ≡ 8 = omega (arith, c.in-len8) in
    c.from-in-len8.ensures ∙ c.from_le_bytes-in-len8.ensures ∙ eight_bytes c.args.bytes.now all
