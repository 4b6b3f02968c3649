use Rattle.std.proofs.Common.{sym, ap, ◌∙◌}
use Rattle.rustc_apfloat.specs.Classes.{is_nan_category}
use Rattle.apfloat_model.proofs.order.PredicatesAgree.{nan_agrees}
use Rattle.small_formats.specs.Float8E3M4.{e3m4_datum}
use Rattle.apfloat_arrays.proofs.stored.loading.is_nan_in_e3m4.Goals as goal

pub returns-in-NaN : goal.returns-in-NaN
returns-in-NaN c = ap is_nan_category (sym c.in-NaN.is ∙ c.category.ensures) ∙ nan_agrees (e3m4_datum c.args.x)

pub returns-in-Infinity : goal.returns-in-Infinity
returns-in-Infinity c =
    ap is_nan_category (sym c.in-Infinity.is ∙ c.category.ensures) ∙ nan_agrees (e3m4_datum c.args.x)

pub returns-in-Zero : goal.returns-in-Zero
returns-in-Zero c = ap is_nan_category (sym c.in-Zero.is ∙ c.category.ensures) ∙ nan_agrees (e3m4_datum c.args.x)

pub returns-in-Normal : goal.returns-in-Normal
returns-in-Normal c = ap is_nan_category (sym c.in-Normal.is ∙ c.category.ensures)
    ∙ nan_agrees (e3m4_datum c.args.x)
