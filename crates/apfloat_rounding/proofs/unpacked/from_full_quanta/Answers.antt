use Rattle.std.proofs.Common.{◌≡◌, ◌-◌, ◌*◌, ◌^◌, ◌<◌, sym, arith, to_z, of_z, w32}
use Rattle.std.proofs.{lemmas.Int.ints, lemmas.Int.to_z-of_z, lemmas.Nat.pow_pos, Math.Nat.mul-pos}
use Rattle.apfloat_model.proofs.rounding.Deliveries.{signed_some}
use Rattle.apfloat_rounding.proofs.StoredNumbers.{IsMovedUp, moved_up_quanta, moved_up_normal}
use Rattle.apfloat_rounding.proofs.unpacked.from_full_quanta.Goals as goal

-- a significand with all its digits is not moved up
full : (state : goal.After-exponent_at)
    → IsMovedUp state.args.shape state.args.significand state.args.shape.precision state.args.place
    state.args.significand (to_z w32 (of_z w32 state.exponent_at.result))
full c =
    let p = c.args.shape.parameters.precision_low in
    let f = c.requires.full in
    let o : 0 < 2 ^ (c.args.shape.precision - 1) = pow_pos (c.args.shape.precision - 1) in
    let n : c.args.shape.precision - c.args.shape.precision ≡ 0 = omega arith in
    let e = to_z-of_z w32 c.exponent_at.result (record { sfits = c.exponent_at.type_inv }) in
    record {
      fits = c.requires.fits;
      some = λ z. omega (arith, z);
      below = c.requires.fits;
      full = λ _. f;
      moved = rw n (omega arith);
      exponent = rw n (omega (arith, ints));
      same = rw n (omega (arith, ints));
      within = c.requires.within;
    }

pub returns-clause-stored : goal.returns-clause-stored
returns-clause-stored c =
    moved_up_normal c.args.shape c.args.significand c.args.shape.precision c.args.place _ _ (full c)

pub returns-clause-datum : goal.returns-clause-datum
returns-clause-datum c =
    let o : 0 < 2 ^ (c.args.shape.precision - 1) = pow_pos (c.args.shape.precision - 1) in
    let f = c.requires.full in
    let p : 0 < c.args.significand * 2 ^ c.args.place = mul-pos (omega arith) (pow_pos c.args.place) in
    rw (moved_up_quanta c.args.shape c.args.significand c.args.shape.precision c.args.place _ _ (full c))
    (sym (signed_some c.args.shape.nonfinite c.args.negative (c.args.significand * 2 ^ c.args.place) p))
