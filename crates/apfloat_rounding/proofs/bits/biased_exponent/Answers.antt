use Rattle.std.proofs.Common.{◌≡◌, ℕ, ◌+◌, ◌-◌, ◌/◌, ◌%◌, ◌^◌, ◌≤◌, refl, arith}
use Rattle.std.proofs.Math.{Nat.mod-lt, Pow.mod-mod-pow}
use Rattle.std.proofs.lemmas.Nat.{pow_pos, mod-pow-add, div-mul-add}
use Rattle.apfloat_model.specs.bits.Layout.{trailing_bits}
use Rattle.apfloat_rounding.specs.Shapes.{format_at}
use Rattle.apfloat_rounding.proofs.bits.biased_exponent.Goals.{then-widths-le64, else-widths-le64}
use Rattle.apfloat_rounding.proofs.bits.biased_exponent.Goals as goal

-- digits from the middle of a number are those of its lower part, if they lie in that
middle : (number low count above : ℕ)
    → number % 2 ^ ((above + count) + low) / 2 ^ low % 2 ^ count ≡ number / 2 ^ low % 2 ^ count
middle number low count above =
    rw (
      mod-pow-add number (above + count) low,
      div-mul-add (number / 2 ^ low % 2 ^ (above + count)) (2 ^ low) (number % 2 ^ low) (mod-lt number (pow_pos low)),
    )
    (mod-mod-pow (number / 2 ^ low) above count)

in_word : (number low count : ℕ) → low + count ≤ 64
    → number % 2 ^ 64 / 2 ^ low % 2 ^ count ≡ number / 2 ^ low % 2 ^ count
in_word number low count h =
    let e : (64 - (low + count)) + count + low ≡ 64 = omega (arith, h) in
    rw e at (middle number low count (64 - (low + count)))

pub returns : goal.returns
returns c =
    let t = trailing_bits (format_at c.args.shape) in
    elim c.if-widths-le64.branch [
      | then-widths-le64 w ↦
          rw (
            c.low_digits-2.ensures,
            w.upper-is,
            w.from-upper.ensures,
            w.low_digits.ensures,
            c.trailing_width-width.ensures.value,
          )
          (in_word c.args.bits t c.args.widths.exponent_bits (omega (arith, c.requires.bits, w.if-widths-le64.true)))
      | else-widths-le64 w ↦ rw (c.low_digits-2.ensures, w.upper-is, c.trailing_width-width.ensures.value) refl
    ]
