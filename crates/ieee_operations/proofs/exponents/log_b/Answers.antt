use Rattle.std.proofs.Common.{sym, ap, ◌∙◌, refl}
use Rattle.apfloat_model.specs.{formats.Nan.invalid_if, rounding.Negation.negated}
use Rattle.apfloat_model.proofs.order.Categories.{nan_category}
use Rattle.apfloat_ieee.specs.FlaggedTypes.{format_of}
use Rattle.ieee_operations.proofs.Logarithms.{log_b_of_nan, log_b_of_infinity, log_b_of_zero, log_b_of_number}
use Rattle.ieee_operations.proofs.Logarithms.{same_wide}
use Rattle.ieee_operations.proofs.exponents.log_b.Goals as goal

pub quieted-requires : goal.quieted-requires
quieted-requires g c = nan_category c.args.x (sym c.category.ensures.category ∙ c.in-NaN.is)

pub returns-in-NaN : goal.returns-in-NaN
returns-in-NaN g c =
    rw (c.and.ensures.value, c.and.ensures.status)
    (log_b_of_nan (format_of g.S.Flagged) c.args.mode c.args.x _ _ (sym c.category.ensures.category ∙ c.in-NaN.is)
    c.quieted.ensures (c.status_if.ensures ∙ ap invalid_if c.is_signaling.ensures))

pub returns-in-Infinity : goal.returns-in-Infinity
returns-in-Infinity g c =
    rw (c.and-in-Infinity.ensures.value, c.and-in-Infinity.ensures.status)
    (log_b_of_infinity (format_of g.S.Flagged) c.args.mode c.args.x _ _
    (sym c.category.ensures.category ∙ c.in-Infinity.is) c.abs.ensures refl)

pub returns-in-Zero : goal.returns-in-Zero
returns-in-Zero g c =
    rw (c.and-in-Zero.ensures.value, c.and-in-Zero.ensures.status)
    (log_b_of_zero (format_of g.S.Flagged) c.args.mode c.args.x _ _ (sym c.category.ensures.category ∙ c.in-Zero.is)
    (c.neg.ensures ∙ ap (negated (format_of g.S.Flagged).nonfinite) c.infinity.ensures) refl)

pub returns-in-Normal : goal.returns-in-Normal
returns-in-Normal g c =
    let same = same_wide c.ilogb.result (record { sfits = c.ilogb.type_inv }) in
    log_b_of_number (format_of g.S.Flagged) c.args.mode c.args.x c.ilogb.result _ _
    (sym c.category.ensures.category ∙ c.in-Normal.is) c.ilogb.ensures (rw same at c.from_i128_r.ensures)
