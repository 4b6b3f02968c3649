use Rattle.std.proofs.Common.{◌≡◌, ℕ, ◌+◌, ◌-◌, ◌*◌, ◌/◌, ◌%◌, ◌^◌, ◌<◌, Bool, eqb}
use Rattle.std.proofs.Common.{◌&&◌, refl, sym, ap, ◌∙◌, subst, pos, ◌-ℤ◌, arith}
use Rattle.std.proofs.lemmas.{Bool.ne_eqb, Int.ints, Nat.pow_pos}
use Rattle.apfloat_model.specs.{bits.Layout.datum_of, formats.Datum.finite, rounding.RoundingToOdd.odd_quotient}
use Rattle.fast_bits.specs.lanes.At.{format_at, layout_at}
use Rattle.fast_bits.specs.lanes.{Lanes.IsRounded, Scaled.IsScaled, Sides.IsSideOf, Targets.has_one_zero}
use Rattle.fast_bits.proofs.lanes_lemmas.Singles.{lane_converted, place_of, significand_of, single_read}
use Rattle.fast_bits.proofs.lanes_lemmas.Specials.{past_single, target_reach}
use Rattle.fast_bits.proofs.lanes_lemmas.UpperHalves.{IsHalf, half_alone, half_is, half_scaled, word_below}
use Rattle.fast_bits.proofs.lanes.short_lanes.convert_number.Goals.{then-negative, else-negative}
use Rattle.fast_bits.proofs.lanes.short_lanes.convert_number.Goals as goal

-- the argument is the upper half of a word
halves : (c : goal.After-struct_known-1) (x : ℕ) → c.args.half ≡ odd_quotient x (2 ^ 16)
    → (x < 2 ^ 32) × IsHalf c.args.half x
halves c x is =
    let below : odd_quotient x (2 ^ 16) < 2 ^ 16 = subst (λ (n : ℕ). n < 2 ^ 16) is c.ranges.half.fits in
    let word = word_below x below in
    (word, subst (λ (n : ℕ). IsHalf n x) (sym is) (half_is x word))

-- so its lane is that of the word, rounded
lane_is : (c : goal.After-struct_known-1) (x : ℕ) → c.args.half ≡ odd_quotient x (2 ^ 16)
    → IsRounded c.args.plan.saturates (format_at c.args.plan.target) (layout_at c.args.plan.target) c.args.plan.round
    (eqb (c.args.half / 2 ^ 15) 1)
    (significand_of (x % 2 ^ 31) * 2 ^ place_of (x % 2 ^ 31) * 2 ^ (format_at c.args.plan.target).scale) (2 ^ 149)
    c.finish-lane.result
lane_is c x is =
    let plan = c.args.plan in
    let t = plan.target in
    let f = format_at t in
    let h = c.args.half in
    let amount = significand_of (x % 2 ^ 31) * 2 ^ place_of (x % 2 ^ 31) * 2 ^ f.scale in
    let precise = t.lawful.precise in
    let side : IsSideOf (15 - t.precision) plan.saturates f plan.round (eqb (h / 2 ^ 15) 1) c.if-negative.side =
    elim c.if-negative.branch [
      | then-negative w ↦ rw (w.side-is, w.if-negative.true) plan.negative_is
      | else-negative w ↦ rw (w.side-is, ne_eqb (h / 2 ^ 15) 1 w.if-negative.false) plan.positive_is
    ] in
    let scale : pos f.scale ≡ pos (t.precision - 1) -ℤ t.min_exp = omega (arith, ints, precise, t.lawful.below) in
    let scaled = half_scaled f t.min_exp x h c.first_exponent-first.result precise plan.short.digits scale
    plan.short.least c.first_exponent-first.ensures.is (halves c x is).1 in
    let there : IsScaled t.precision (15 - t.precision) (c.digits_of.result + c.place_of.result * 2 ^ 14) amount
    (2 ^ 149) =
    subst (λ (n : ℕ). IsScaled t.precision (15 - t.precision) n amount (2 ^ 149))
    (λ i. sym c.digits_of.ensures.is i + sym c.place_of.ensures.is i * 2 ^ 14) scaled in
    c.finish-lane.ensures plan.saturates plan.round amount (2 ^ 149) (pow_pos 149) side there

pub returns : goal.returns
returns c =
    let plan = c.args.plan in
    let t = plan.target in
    let f = format_at t in
    let h = c.args.half in
    let precise = t.lawful.precise in
    record {
      below = (lane_is c (h * 2 ^ 16) (sym (half_alone h))).is_encoded.below;
      converted = λ x single layout number is is_single.
          let both = halves c x is in
          let read : datum_of single layout x
          ≡ finite (eqb (h / 2 ^ 15) 1) (significand_of (x % 2 ^ 31) * 2 ^ place_of (x % 2 ^ 31)) =
          single_read single layout x is_single both.0 (omega (arith, both.1.exponent, number))
          ∙ ap (λ (n : ℕ). finite (eqb n 1) (significand_of (x % 2 ^ 31) * 2 ^ place_of (x % 2 ^ 31)))
          (sym both.1.sign) in
          let lost : c.loses_sign.result ≡ (has_one_zero t.nonfinite && eqb (h / 2 ^ 15) 1 && eqb (x % 2 ^ 31) 0) =
          c.loses_sign.ensures
          ∙ ap (λ (b : Bool). has_one_zero t.nonfinite && eqb (h / 2 ^ 15) 1 && b) both.1.zero in
          lane_converted plan.saturates single layout f (layout_at t) plan.round (eqb (h / 2 ^ 15) 1)
          c.loses_sign.result (x % 2 ^ 31) x c.finish-lane.result read is_single.scale (omega (arith, precise)) lost
          (lane_is c x is);
      past = λ high leads.
          let x = h * 2 ^ 16 in
          let half = sym (half_alone h) in
          let it = past_single plan.saturates f (layout_at t) plan.round (eqb (h / 2 ^ 15) 1) (x % 2 ^ 31)
          c.finish-lane.result (target_reach t) (omega (arith, precise)) leads.kept (leads.out (eqb (h / 2 ^ 15) 1))
          (omega (arith, (halves c x half).1.exponent, high)) (omega arith) (lane_is c x half) in
          record {
            inexact = rw it.inexact refl;
            underflow = it.underflow;
            invalid = it.invalid;
            is_encoded = it.is_encoded;
            nan_is = it.nan_is;
          };
    }
