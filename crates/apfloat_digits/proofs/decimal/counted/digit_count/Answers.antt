use Rattle.std.proofs.Common.{◌≡◌, ℕ, subst}
use Rattle.apfloat_model.specs.{declared.kinds.Category.TheVariants.Normal, order.Classes.category_of}
use Rattle.apfloat_ieee.specs.Types.{format_of}
use Rattle.apfloat_digits.specs.decimal.DigitCounts.{IsDigitCount}
use Rattle.apfloat_digits.proofs.decimal_lemmas.RoundedTexts.{quanta_same}
use Rattle.apfloat_digits.proofs.decimal.counted.digit_count.Goals as goal

pub returns-in-Normal : goal.returns-in-Normal
returns-in-Normal g c =
    let normal : category_of c.args.x ≡ Normal = cc (c.category.ensures.category, c.in-Normal.is) in
    let same = quanta_same (format_of g.S.Semantics) c.args.x c.abs.result normal c.abs.ensures in
    (normal, subst (λ (q : ℕ). IsDigitCount (format_of g.S.Semantics) q c.count_of.result) same c.count_of.ensures)
