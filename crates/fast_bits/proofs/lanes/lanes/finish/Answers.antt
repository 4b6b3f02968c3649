use Rattle.std.proofs.Common.{◌≡◌, ℕ, ◌+◌, ◌*◌, ◌/◌, ◌%◌, ◌^◌, ◌∙◌, refl, sym, ap, arith}
use Rattle.std.specs.Int.RustNames.{bit_and}
use Rattle.fast_bits.specs.{lanes.At.format_at, lanes.At.layout_at, Addends.rounded_by}
use Rattle.fast_bits.proofs.lanes_lemmas.{Answers.lane_rounded, Interchanges.target_interchange}
use Rattle.fast_bits.proofs.lanes.lanes.finish.Goals as goal

pub returns : goal.returns
returns c = λ saturates mode amount parts some side reached.
    let t = c.args.target in
    let law = target_interchange (format_at t) (layout_at t) t.min_exp t.max_exp t.lawful in
    let is = c.delivered.ensures in
    let kept = c.args.scaled.kept in
    let rest = c.args.scaled.rest in
    let high : (c.args.scaled.kept * 2 ^ 16 + c.args.scaled.rest) / 2 ^ 16 ≡ c.args.scaled.kept =
    omega (arith, c.args.scaled.short) in
    let low : (c.args.scaled.kept * 2 ^ 16 + c.args.scaled.rest) % 2 ^ 16 ≡ c.args.scaled.rest =
    omega (arith, c.args.scaled.short) in
    let addend = c.args.side.addend in
    let sum : c.carried-rounded.result ≡ rounded_by 16 mode c.args.negative (kept * 2 ^ 16 + rest) =
    c.carried-rounded.ensures
    ∙ ap (λ (n : ℕ). (kept * 2 ^ 16 + rest + (addend.always + bit_and n addend.if_odd)) / 2 ^ 16) (sym high)
    ∙ side.addend.rounds (kept * 2 ^ 16 + rest) in
    lane_rounded saturates (format_at t) (layout_at t) mode c.args.negative (kept * 2 ^ 16 + rest) amount parts
    c.delivered.result law t.lawful.implied t.lawful.rule some
    (record {
      bits = rw (is.bits_are, c.from-3.ensures, c.min-code.ensures, sum, side.greatest) refl;
      inexact = rw (is.inexact, c.from-2.ensures, sum, low) refl;
      underflow = rw (is.underflow, c.from.ensures, c.from-2.ensures, sum, high) refl;
      overflow = rw (is.overflow, c.from-2.ensures, sum, side.raises) refl;
      invalid = is.invalid;
      nan_is = rw (is.nan_is, c.from-3.ensures, c.min-code.ensures, sum, side.greatest) refl;
    }) reached
