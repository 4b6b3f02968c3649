use Rattle.std.proofs.Common.{◌%◌, ◌^◌, sym, ap, ◌∙◌, arith}
use Rattle.small_formats.proofs.RestLosses.{few_below, few_fit, few_parts, many_parts_at}
use Rattle.small_formats.proofs.cuts.parts_of_rest.Goals as goal

-- `<<` on a u64 keeps all digits, since the result has at most 32
pub returns-then-places-digits-clause-value : goal.returns-then-places-digits-clause-value
returns-then-places-digits-clause-value c =
    few_below c.args.number c.args.places c.args.digits c.low_digits.result c.requires.few c.if-places-digits.true
    c.low_digits.ensures ∙ sym (few_parts c.args.number c.args.places c.args.digits c.if-places-digits.true)

pub returns-then-places-digits-clause-below : goal.returns-then-places-digits-clause-below
returns-then-places-digits-clause-below c =
    let whole =
    few_below c.args.number c.args.places c.args.digits c.low_digits.result c.requires.few c.if-places-digits.true
    c.low_digits.ensures in
    let fits = few_fit c.args.number c.args.places c.args.digits c.if-places-digits.true in
    omega (arith, whole, fits)

pub returns-else-places-digits-clause-value : goal.returns-else-places-digits-clause-value
returns-else-places-digits-clause-value c =
    c.low_digits-else-places-digits.ensures ∙ ap (λ n. n % 2 ^ c.args.digits) c.shift_right-shifted.ensures.quotient
    ∙ sym (many_parts_at c.args.number c.args.places c.args.digits (omega (arith, c.if-places-digits.false)))
