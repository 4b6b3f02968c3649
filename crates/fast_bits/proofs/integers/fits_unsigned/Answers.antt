use Rattle.std.proofs.Common.{◌+◌, ◌-◌, ◌*◌, ◌/◌, ◌^◌, ◌<◌, ◌≤◌, arith}
use Rattle.std.proofs.{Math.Nat.lt-div-mul-add, Math.Nat.mul-le-mul_right, Math.Nat.pow-le-pow_right}
use Rattle.std.proofs.lemmas.{Bool.leb-true, Nat.pow_pos}
use Rattle.apfloat_model.proofs.general.Powers.{twice_half, two_pos}
use Rattle.fast_bits.proofs.integers.fits_unsigned.Goals as goal

pub returns-then-width-gt64 : goal.returns-then-width-gt64
returns-then-width-gt64 c =
    let digits : 64 ≤ c.args.width = omega (arith, c.if-width-gt64.true) in
    let more : 2 ^ 64 ≤ 2 ^ c.args.width = pow-le-pow_right two_pos digits in
    λ _. omega (arith, more, c.requires.small)

pub returns : goal.returns
returns c = λ is.
    let half = 2 ^ (c.args.width - 1) in
    let few = mul-le-mul_right half (leb-true (c.args.magnitude / half) 1 is) in
    let below : c.args.magnitude < c.args.magnitude / half * half + half =
    lt-div-mul-add (pow_pos (c.args.width - 1)) in
    omega (arith, few, below, twice_half c.args.width c.requires.some)
