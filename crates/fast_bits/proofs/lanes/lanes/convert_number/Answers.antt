use Rattle.std.proofs.Common.{◌≡◌, ℕ, ◌+◌, ◌*◌, ◌/◌, ◌%◌, ◌^◌, Bool, eqb, ◌&&◌, ◌∙◌, refl, sym, ap, subst, arith}
use Rattle.std.proofs.lemmas.{Bool.ne_eqb, Nat.pow_pos}
use Rattle.apfloat_model.specs.{bits.Layout.datum_of, formats.Datum.finite}
use Rattle.fast_bits.specs.lanes.{Scaled.IsReachedLane, Sides.IsSideOf, Targets.has_one_zero}
use Rattle.fast_bits.specs.lanes.At.{format_at, layout_at}
use Rattle.fast_bits.proofs.lanes_lemmas.{Specials.past_single, Specials.target_reach, Words.both_zero, Words.word_is}
use Rattle.fast_bits.proofs.lanes_lemmas.Singles.{lane_converted, place_of, significand_of, single_read}
use Rattle.fast_bits.proofs.lanes.lanes.convert_number.Goals.{then-negative, else-negative}
use Rattle.fast_bits.proofs.lanes.lanes.convert_number.Goals as goal

pub returns : goal.returns
returns c =
    let plan = c.args.plan in
    let t = plan.target in
    let f = format_at t in
    let upper = c.args.upper in
    let x = c.args.upper * 2 ^ 16 + c.args.lower in
    let a = x % 2 ^ 31 in
    let word = word_is c.args.upper c.args.lower c.ranges.upper.fits c.ranges.lower.fits in
    let negative = eqb (upper / 2 ^ 15) 1 in
    let side : IsSideOf 16 plan.saturates f plan.round negative c.if-negative.side =
    elim c.if-negative.branch [
      | then-negative w ↦ rw (w.side-is, w.if-negative.true) plan.negative_is
      | else-negative w ↦ rw (w.side-is, ne_eqb (upper / 2 ^ 15) 1 w.if-negative.false) plan.positive_is
    ] in
    let t_is = c.scaled_to-scaled.result.kept * 2 ^ 16 + c.scaled_to-scaled.result.rest in
    let reached : IsReachedLane f t_is (significand_of a * 2 ^ place_of a * 2 ^ f.scale) (2 ^ 149) =
    subst (λ (n : ℕ). IsReachedLane f t_is (n * 2 ^ f.scale) (2 ^ 149))
    (λ i. word.significand i * 2 ^ word.place i) c.scaled_to-scaled.ensures.reached in
    let precise = t.lawful.precise in
    let magnitude = word.magnitude in
    let lost : c.loses_sign.result ≡ (has_one_zero t.nonfinite && negative && eqb a 0) =
    c.loses_sign.ensures ∙ ap (λ (b : Bool). has_one_zero t.nonfinite && negative && b)
    (both_zero (upper % 2 ^ 15) c.args.lower ∙ ap (λ (n : ℕ). eqb n 0) word.magnitude) in
    let rounded =
    c.finish-lane.ensures plan.saturates plan.round (significand_of a * 2 ^ place_of a * 2 ^ f.scale) (2 ^ 149)
    (pow_pos 149) side reached in
    record {
      below = rounded.is_encoded.below;
      converted = λ single layout number is_single.
          let read : datum_of single layout x ≡ finite negative (significand_of a * 2 ^ place_of a) =
          single_read single layout x is_single word.below (omega (arith, magnitude, number, c.ranges.lower.fits))
          ∙ ap (λ (n : ℕ). finite (eqb n 1) (significand_of a * 2 ^ place_of a)) (sym word.sign) in
          lane_converted plan.saturates single layout f (layout_at t) plan.round negative c.loses_sign.result a x
          c.finish-lane.result read is_single.scale (omega (arith, precise)) lost rounded;
      past = λ high leads.
          let it = past_single plan.saturates f (layout_at t) plan.round negative a c.finish-lane.result
          (target_reach t) (omega (arith, precise)) leads.kept (leads.out negative)
          (omega (arith, magnitude, high)) (omega arith) rounded in
          record {
            inexact = rw it.inexact refl;
            underflow = it.underflow;
            invalid = it.invalid;
            is_encoded = it.is_encoded;
            nan_is = it.nan_is;
          };
    }
