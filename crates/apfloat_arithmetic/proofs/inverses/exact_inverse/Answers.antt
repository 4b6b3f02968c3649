use Rattle.std.proofs.{Common.sym, Common.subst, lemmas.Option.same_Some}
use Rattle.std.specs.Prelude.{neg_ℤ, Some, None}
use Rattle.apfloat_model.specs.{declared.kinds.Category.Category, formats.Datum.finite}
use Rattle.apfloat_model.specs.arithmetic.Exponents.{IsExactInverse}
use Rattle.apfloat_rounding.specs.{declared.unpacked.Unpacked.Unpacked, Shapes.format_at}
use Rattle.apfloat_rounding.specs.Stored.{IsStored, IsStoredBy, IsNormal, quanta_at, datum_by}
use Rattle.apfloat_arithmetic.proofs.ProductExponents.{normal_near}
use Rattle.apfloat_arithmetic.proofs.ExactInverses.{opposite_word, inverted_normal, inverse_answer, no_inverse_answer}
use Rattle.apfloat_arithmetic.proofs.inverses.exact_inverse.Goals.{In-Normal}
use Rattle.apfloat_arithmetic.proofs.inverses.exact_inverse.Goals as goal

number_of : (state : In-Normal) → IsNormal state.args.shape state.args.x
number_of c = subst (λ (k : Category). IsStoredBy k c.args.shape c.args.x) c.in-Normal.is c.requires

pub returns-then-is_invertible-clause-stored : goal.returns-then-is_invertible-clause-stored
returns-then-is_invertible-clause-stored c = λ inverse h.
    let s = c.args.shape in
    let x = c.args.x in
    let n = number_of (goal.at.returns-then-is_invertible-clause-stored c).In-Normal in
    let w = (normal_near s x.significand x.exponent n).word in
    let e = opposite_word s x.significand x.exponent n in
    let i = inverted_normal s x.significand x.exponent n (c.is_invertible.ensures.yes c.if-is_invertible.true) in
    subst (λ (y : Unpacked). IsStored s y) (same_Some _ inverse h) (rw (w, e) i)

pub returns-then-is_invertible-clause-inverse : goal.returns-then-is_invertible-clause-inverse
returns-then-is_invertible-clause-inverse c =
    let s = c.args.shape in
    let x = c.args.x in
    let n = number_of (goal.at.returns-then-is_invertible-clause-inverse c).In-Normal in
    let w = (normal_near s x.significand x.exponent n).word in
    let e = opposite_word s x.significand x.exponent n in
    let a = inverse_answer s x.negative x.significand x.exponent n
    (c.is_invertible.ensures.yes c.if-is_invertible.true) in
    rw (w, e) (subst (λ (k : Category). IsExactInverse (format_at s) (datum_by k s x)
    (Some (finite x.negative (quanta_at s.min_exp x.significand (neg_ℤ x.exponent))))) (sym c.in-Normal.is) a)

pub returns-else-is_invertible-clause-inverse : goal.returns-else-is_invertible-clause-inverse
returns-else-is_invertible-clause-inverse c =
    let s = c.args.shape in
    let x = c.args.x in
    let n = number_of (goal.at.returns-else-is_invertible-clause-inverse c).In-Normal in
    subst (λ (k : Category). IsExactInverse (format_at s) (datum_by k s x) None) (sym c.in-Normal.is)
    (no_inverse_answer s x.negative x.significand x.exponent n (c.is_invertible.ensures.no c.if-is_invertible.false))
