use Rattle.std.proofs.Common.{◌≡◌, ℕ, ◌+◌, ◌-◌, ◌*◌, ◌/◌, ◌%◌, ◌^◌, not, ◌∙◌, refl, sym, ap, subst, eqb, arith}
use Rattle.fast_bits.specs.{lanes.At.format_at, lanes.At.layout_at, lanes.Scaled.IsScaled, Addends.rounded_by}
use Rattle.fast_bits.proofs.lanes_lemmas.{Answers.made_rounded, Interchanges.target_interchange}
use Rattle.fast_bits.proofs.lanes_lemmas.{PlacedNumbers.placed_rounded, ScaledNumbers.sum_cut}
use Rattle.fast_bits.proofs.lanes.short_lanes.finish.Goals as goal

pub returns : goal.returns
returns c = λ saturates mode amount parts some side scaled.
    let t = c.args.target in
    let p = t.precision in
    let law = target_interchange (format_at t) (layout_at t) t.min_exp t.max_exp t.lawful in
    let is = c.delivered.ensures in
    let precise = t.lawful.precise in
    let unit : p - 1 + (15 - p) ≡ 14 = omega (arith, precise, c.requires.precision) in
    let cut = sum_cut c.args.digits (15 - p) p c.args.place in
    let there : IsScaled p (15 - p) (c.args.digits + c.args.place * 2 ^ (p - 1 + (15 - p))) amount parts =
    subst (λ (n : ℕ). IsScaled p (15 - p) (c.args.digits + c.args.place * 2 ^ n) amount parts) (sym unit) scaled in
    let rounded : c.carried.result + c.placed-places.result
    ≡ rounded_by (15 - p) mode c.args.negative (c.args.digits + c.args.place * 2 ^ (p - 1 + (15 - p))) =
    (λ i. (c.carried.ensures.is ∙ side.addend.rounds c.args.digits) i + c.placed-places.ensures.is i)
    ∙ sym (placed_rounded p (15 - p) mode c.args.negative c.args.digits c.args.place precise) in
    let swap : c.args.digits / 2 ^ (15 - p) + c.args.place * 2 ^ (p - 1)
    ≡ c.args.place * 2 ^ (p - 1) + c.args.digits / 2 ^ (15 - p) = omega arith in
    let kept : c.kept.result + c.placed-places.result
    ≡ (c.args.digits + c.args.place * 2 ^ (p - 1 + (15 - p))) / 2 ^ (15 - p) =
    (λ i. c.kept.ensures.is i + c.placed-places.ensures.is i) ∙ swap ∙ sym cut.0 in
    let rest : c.has_rest.result
    ≡ not (eqb ((c.args.digits + c.args.place * 2 ^ (p - 1 + (15 - p))) % 2 ^ (15 - p)) 0) =
    c.has_rest.ensures ∙ ap (λ (n : ℕ). not (eqb n 0)) (sym cut.1) in
    made_rounded (15 - p) saturates (format_at t) (layout_at t) mode c.args.negative
    (c.args.digits + c.args.place * 2 ^ (p - 1 + (15 - p))) amount parts c.delivered.result law t.lawful.implied
    t.lawful.rule some
    (record {
      bits = rw (is.bits_are, c.from-3.ensures, c.min-code.ensures, rounded, side.greatest) refl;
      inexact = rw (is.inexact, c.from-2.ensures, rest, rounded) refl;
      underflow = rw (is.underflow, c.from.ensures, c.from-2.ensures, kept, rounded) refl;
      overflow = rw (is.overflow, c.from-2.ensures, rounded, side.raises) refl;
      invalid = is.invalid;
      nan_is = rw (is.nan_is, c.from-3.ensures, c.min-code.ensures, rounded, side.greatest) refl;
    }) there
