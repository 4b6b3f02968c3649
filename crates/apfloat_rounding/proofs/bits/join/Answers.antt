use Rattle.std.proofs.Common.{ℕ, ◌<◌, ◌≤◌, ◌*◌, ◌^◌, ◌+◌, suc, Bool, true, false, cond, refl, arith}
use Rattle.std.proofs.{lemmas.Nat.shl_whole, lemmas.Nat.or_shifted, lemmas.Nat.mul-add-lt, Math.Nat.two-pow-succ}
use Rattle.apfloat_model.specs.bits.Layout.{trailing_bits}
use Rattle.apfloat_rounding.specs.Shapes.{format_at}
use Rattle.apfloat_rounding.proofs.bits.join.Goals as goal

short : (negative : Bool) → cond negative 1 0 < 2 ^ 1
short true = omega arith
short false = omega arith

pub returns : goal.returns
returns c =
    let e = c.args.widths.exponent_bits in
    let t = trailing_bits (format_at c.args.shape) in
    let s : ℕ = cond c.args.fields.negative 1 0 in
    let w : c.args.widths.exponent_bits + trailing_bits (format_at c.args.shape) + 1 ≤ 128 =
    omega (arith, c.requires.interchange.bits, c.requires.interchange.within) in
    let x : cond c.args.fields.negative 1 0 * 2 ^ c.args.widths.exponent_bits + c.args.fields.biased_exponent
    < 2 ^ suc c.args.widths.exponent_bits =
    let y = mul-add-lt s (2 ^ e) c.args.fields.biased_exponent 2 (short c.args.fields.negative)
    c.requires.within.biased_exponent in
    omega (arith, y, two-pow-succ e) in
    let b = shl_whole (s * 2 ^ e + c.args.fields.biased_exponent) (suc e) t 128 x (omega (arith, w)) in
    rw (
      c.sign_bit.ensures,
      c.trailing_width.ensures.value,
      shl_whole s 1 e 128 (short c.args.fields.negative) (omega (arith, w)),
      c.from.ensures,
      or_shifted s e c.args.fields.biased_exponent c.requires.within.biased_exponent,
      b,
      or_shifted (s * 2 ^ e + c.args.fields.biased_exponent) t c.args.fields.trailing c.requires.within.trailing,
    )
    refl
