use Rattle.std.proofs.Common.{◌≡◌, rules, not, refl, sym, ap, ◌∙◌}
use Rattle.apfloat_model.specs.declared.kinds.Category.{Category}
use Rattle.apfloat_model.specs.declared.kinds.Category.TheVariants.{Normal, Zero, Infinity, NaN}
use Rattle.apfloat_model.specs.rounding.Negation.{negated}
use Rattle.apfloat_model.proofs.rounding.Laws.{number_swapped}
use Rattle.apfloat_rounding.specs.declared.{shape.Shape.Shape, unpacked.Unpacked.Unpacked}
use Rattle.apfloat_rounding.specs.Stored.{IsStored, datum_at, quanta_at}
use Rattle.apfloat_arithmetic.proofs.SumCases.{number_stored, datum_is}
use Rattle.apfloat_arithmetic.proofs.signs.negated.Goals as goal

-- negating a nonzero number or an infinity flips its sign
turned_datum : (category : Category) (shape : Shape) (x : Unpacked) → x.category ≡ category → IsStored shape x
    → (category ≡ Zero → ⊥) → (category ≡ NaN → ⊥)
    → datum_at shape (record x { negative = not x.negative }) ≡ negated shape.nonfinite (datum_at shape x)
turned_datum Normal s x e h a b =
    let n = number_stored s x e h in
    datum_is Normal s (record x { negative = not x.negative }) e
    ∙ number_swapped s.nonfinite x.negative (quanta_at s.min_exp x.significand x.exponent) n.1
    ∙ ap (negated s.nonfinite) (sym (datum_is Normal s x e))
turned_datum Infinity s x e h a b =
    datum_is Infinity s (record x { negative = not x.negative }) e ∙
    ap (negated s.nonfinite) (sym (datum_is Infinity s x e))
turned_datum Zero s x e h a b = absurd (a refl)
turned_datum NaN s x e h a b = absurd (b refl)

pub returns-in_default-clause-datum : goal.returns-in_default-clause-datum
returns-in_default-clause-datum c =
    ap (datum_at c.args.shape) c.turned.ensures
    ∙ turned_datum c.args.x.category c.args.shape c.args.x refl c.requires c.in_default.not-Zero c.in_default.not-NaN

pub returns-in-NaN-clause-datum : goal.returns-in-NaN-clause-datum
returns-in-NaN-clause-datum c = search rules steps 500000
