use Rattle.std.proofs.Common.{◌≡◌, ◌-◌, ◌*◌, ◌^◌, ◌<◌, ◌≤◌, sym, ◌∙◌, arith, to_z}
use Rattle.std.proofs.{Common.of_z, Common.w32, lemmas.Int.ints, lemmas.Int.to_z-of_z, lemmas.Nat.pow_pos}
use Rattle.std.proofs.Math.Nat.{mod-eq_of_lt, pow-le-pow_right}
use Rattle.apfloat_model.proofs.{general.Powers.two_pos, general.Powers.twice_half, formats.Ranges.half_within}
use Rattle.apfloat_model.proofs.rounding.{KeptDigits.digits_le, KeptDigits.fits_shifted, Deliveries.signed_some}
use Rattle.apfloat_rounding.specs.Shapes.{format_at}
use Rattle.apfloat_rounding.proofs.StoredNumbers.{IsMovedUp, moved_up_quanta, moved_up_normal}
use Rattle.apfloat_rounding.proofs.unpacked.from_few_quanta.Goals.{After-digits, Else-quanta-eq0}
use Rattle.apfloat_rounding.proofs.unpacked.from_few_quanta.Goals as goal

-- few quanta have at most as many digits as the precision
fits : (state : After-digits) → state.args.quanta < 2 ^ state.args.shape.precision
fits c =
    let t = twice_half c.args.shape.precision (omega (arith, c.args.shape.parameters.precision_low)) in
    omega (arith, t, pow_pos (c.args.shape.precision - 1), c.requires.few)

at_most : (state : After-digits) → state.digits.result ≤ state.args.shape.precision
at_most c =
    digits_le c.args.quanta c.digits.result c.args.shape.precision (fits c) (rw c.from.ensures at c.digits.ensures.full)

pub overflow_sub-shift : goal.overflow_sub-shift
overflow_sub-shift c = at_most (goal.at.overflow_sub-shift c).After-digits

moved_up : (state : Else-quanta-eq0)
    → IsMovedUp state.args.shape state.args.quanta state.digits.result 0 state.from-2.result
    (to_z w32 (of_z w32 state.exponent_at.result))
moved_up c =
    let d = (goal.at.returns-else-quanta-eq0-clause-stored c).After-digits in
    let l = at_most d in
    let s = c.requires.short in
    let j = c.args.shape.precision - c.digits.result in
    let below = rw c.from.ensures at c.digits.ensures.below in
    let e = to_z-of_z w32 c.exponent_at.result (record { sfits = c.exponent_at.type_inv }) in
    let b = fits_shifted c.args.quanta c.digits.result j c.args.shape.precision below (omega arith) in
    let w : 2 ^ c.args.shape.precision ≤ 2 ^ 62 = pow-le-pow_right two_pos s in
    let h = half_within (format_at c.args.shape) c.args.shape.parameters.precision_low in
    let f = c.requires.few in
    record {
      fits = fits d;
      some = c.if-quanta-eq0.false;
      below = below;
      full = rw c.from.ensures at c.digits.ensures.full;
      moved = c.from-2.ensures ∙ mod-eq_of_lt (omega (arith, b, w));
      exponent = omega (arith, ints);
      same = omega (arith, ints);
      within = omega (arith, h, f);
    }

pub returns-else-quanta-eq0-clause-stored : goal.returns-else-quanta-eq0-clause-stored
returns-else-quanta-eq0-clause-stored c = moved_up_normal c.args.shape c.args.quanta c.digits.result 0 _ _ (moved_up c)

pub returns-else-quanta-eq0-clause-datum : goal.returns-else-quanta-eq0-clause-datum
returns-else-quanta-eq0-clause-datum c =
    let n = c.if-quanta-eq0.false in
    let e : c.args.quanta * 2 ^ 0 ≡ c.args.quanta = omega arith in
    rw (moved_up_quanta c.args.shape c.args.quanta c.digits.result 0 _ _ (moved_up c) ∙ e)
    (sym (signed_some c.args.shape.nonfinite c.args.negative c.args.quanta (omega arith)))
