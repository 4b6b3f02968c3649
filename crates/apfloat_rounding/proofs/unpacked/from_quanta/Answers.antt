use Rattle.std.proofs.Common.{rules, ◌-◌, ◌*◌, ◌^◌, ◌<◌, sym, arith, to_z, of_z, w32}
use Rattle.std.proofs.{lemmas.Int.ints, lemmas.Int.to_z-of_z, lemmas.Nat.pow_pos, Math.Nat.mul-pos}
use Rattle.apfloat_model.proofs.rounding.{KeptDigits.digits_le, KeptDigits.fits_shifted, Deliveries.signed_some}
use Rattle.apfloat_rounding.proofs.StoredNumbers.{IsMovedUp, moved_up_quanta, moved_up_normal}
use Rattle.apfloat_rounding.proofs.unpacked.from_quanta.Goals as goal

pub overflow_sub-shift : goal.overflow_sub-shift
overflow_sub-shift c =
    digits_le c.args.significand c.digits.result c.args.shape.precision c.requires.fits c.digits.ensures.full

is_moved_up : (state : goal.After-exponent_at)
    → IsMovedUp state.args.shape state.args.significand state.digits.result state.args.place state.moved_up.result
    (to_z w32 (of_z w32 state.exponent_at.result))
is_moved_up c =
    let l = digits_le c.args.significand c.digits.result c.args.shape.precision c.requires.fits c.digits.ensures.full in
    let e = to_z-of_z w32 c.exponent_at.result (record { sfits = c.exponent_at.type_inv }) in
    record {
      fits = c.requires.fits;
      some = c.if-significand-eq0.false;
      below = c.digits.ensures.below;
      full = c.digits.ensures.full;
      moved = c.moved_up.ensures;
      exponent = omega (arith, ints);
      same = omega (arith, ints);
      within = c.requires.within;
    }

pub moved_up-requires-clause-fits : goal.moved_up-requires-clause-fits
moved_up-requires-clause-fits c =
    let l = digits_le c.args.significand c.digits.result c.args.shape.precision c.requires.fits c.digits.ensures.full in
    fits_shifted c.args.significand c.digits.result (c.args.shape.precision - c.digits.result)
    c.args.shape.precision c.digits.ensures.below (omega (arith, l))

pub returns-clause-stored : goal.returns-clause-stored
returns-clause-stored c =
    moved_up_normal c.args.shape c.args.significand c.digits.result c.args.place _ _ (is_moved_up c)

pub returns-clause-datum : goal.returns-clause-datum
returns-clause-datum c =
    let p : 0 < c.args.significand * 2 ^ c.args.place = mul-pos (omega arith) (pow_pos c.args.place) in
    rw (moved_up_quanta c.args.shape c.args.significand c.digits.result c.args.place _ _ (is_moved_up c))
    (sym (signed_some c.args.shape.nonfinite c.args.negative (c.args.significand * 2 ^ c.args.place) p))

pub returns-then-significand-eq0-clause-datum : goal.returns-then-significand-eq0-clause-datum
returns-then-significand-eq0-clause-datum c = search rules steps 500000
