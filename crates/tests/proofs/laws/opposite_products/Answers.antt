use Rattle.std.proofs.Common.{◌≡◌, ℕ, subst}
use Rattle.apfloat_model.specs.declared.kinds.Round.{Round}
use Rattle.apfloat_model.proofs.Once.{product_once}
use Rattle.rustc_apfloat.specs.{Format.Format, Datum.Datum, Negation.swapped, Products.IsProduct}
use Rattle.rustc_apfloat.specs.FlaggedTypes.{format_of}
use Rattle.tests.proofs.laws.opposite_products.Goals as goal

turned_once : (format : Format) (opposite other : Round) (x turned y value answer : Datum) (s t : ℕ) → other ≡ opposite
    → turned ≡ x
    → IsProduct format other turned y value s → IsProduct format opposite x y answer t → (value ≡ answer) × (s ≡ t)
turned_once f opposite other x turned y v w s t m e h k =
    product_once f opposite x y v w s t
    (subst (λ (z : Datum). IsProduct f opposite z y v s) e (subst (λ (r : Round). IsProduct f r turned y v s) m h)) k

pub returns-clause-value : goal.returns-clause-value
returns-clause-value g c = λ left right.
    (turned_once (format_of g.S.Flagged) (swapped c.args.mode) _ _ _ _ _ _ _ _ c.neg-2.ensures c.neg.ensures
    c.mul_r-2.ensures.product (c.mul_r.ensures.opposite left right)).0

pub returns-clause-status : goal.returns-clause-status
returns-clause-status g c = λ left right.
    (turned_once (format_of g.S.Flagged) (swapped c.args.mode) _ _ _ _ _ _ _ _ c.neg-2.ensures c.neg.ensures
    c.mul_r-2.ensures.product (c.mul_r.ensures.opposite left right)).1
