-- The rows of the sum of two pairs whose high parts are finite: if an operand is zero, the result is
-- the other; otherwise it is the sum of numbers.
use Rattle.std.proofs.Common.{◌≡◌, ℕ, ◌⊎◌, true, false, eqb, inl, inr, refl, ap, ◌∙◌, ⊎_elim}
use Rattle.std.proofs.Math.Path.{subst₂}
use Rattle.std.proofs.lemmas.Bool.{cases_eq, false≢true, ne_eqb, eq-eqb}
use Rattle.std.specs.Prelude.{pos}
use Rattle.apfloat_model.specs.declared.kinds.{Round.TheVariants.NearestTiesToEven, Category.Category}
use Rattle.apfloat_model.specs.declared.kinds.Category.TheVariants.{Zero, Normal}
use Rattle.apfloat_model.specs.formats.Datum.{Datum, finite, infinite, nan}
use Rattle.apfloat_model.specs.{rounding.Rounding.ok_bits, rounding.Steps.Leads, order.Classes.is_finite}
use Rattle.apfloat_model.specs.{order.Classes.category_of, order.Order.number, arithmetic.Exact.signed}
use Rattle.apfloat_model.proofs.arithmetic.Signs.{no_sign}
use Rattle.apfloat_pair_theory.specs.{PairFormats.double, Pairs.Pair, Pairs.pair_category}
use Rattle.apfloat_pair_theory.specs.PairSums.{sum_of_categories, sum_of_numbers, IsPairSum}

-- a zero of either sign
pub record HasNumberZero (datum : Datum) : Type 0 where
  pub category_is : category_of datum ≡ Zero
  pub number_is : number datum ≡ pos 0

-- a finite datum is zero or nonzero
finite_category : (datum : Datum) → is_finite datum ≡ true → HasNumberZero datum ⊎ (category_of datum ≡ Normal)
finite_category (finite b n) h =
    ⊎_elim
    (λ (e : n ≡ 0). inl (zero_category e))
    (λ (e : n ≡ 0 → ⊥). inr (number_category e))
    (cases_eq n 0) where
      zero_category : n ≡ 0 → HasNumberZero (finite b n)
      zero_category e =
          let q : eqb n 0 ≡ true = eq-eqb n 0 e in
          record { category_is = rw q refl; number_is = ap (λ (i : ℕ). signed b i) e ∙ no_sign b }

      number_category : (n ≡ 0 → ⊥) → category_of (finite b n) ≡ Normal
      number_category e = let q : eqb n 0 ≡ false = ne_eqb n 0 e in rw q refl
finite_category (infinite b) h = absurd (false≢true h)
finite_category (nan b n) h = absurd (false≢true h)

-- one operand is zero, and the other is returned
pub record IsGivenBack (other given answer : Pair) (status : ℕ) : Type 0 where
  pub other_is : number other.high ≡ pos 0
  pub answer_is : answer ≡ given
  pub status_is : status ≡ ok_bits

-- the row of the sum for known categories
at_categories : (first second : Category) (x y answer : Pair) (status : ℕ) → pair_category x ≡ first
    → pair_category y ≡ second → IsPairSum NearestTiesToEven x y answer status
    → Leads double NearestTiesToEven (sum_of_categories first second x y) answer status
at_categories first second x y answer status e g s =
    subst₂ (λ (i : Category) (j : Category). Leads double NearestTiesToEven (sum_of_categories i j x y) answer status)
    e g s

-- either one operand is zero and the other is the result, or both are nonzero
pub sum_rows : (x y answer : Pair) (status : ℕ) → is_finite x.high ≡ true → is_finite y.high ≡ true
    → IsPairSum NearestTiesToEven x y answer status → IsGivenBack y x answer status
    ⊎ (IsGivenBack x y answer status ⊎ Leads double NearestTiesToEven (sum_of_numbers x y) answer status)
sum_rows x y answer status fx fy s =
    ⊎_elim
    (λ (a : HasNumberZero x.high).
    ⊎_elim
    (λ (c : HasNumberZero y.high).
    let t = at_categories Zero Zero x y answer status a.category_is c.category_is s in
    inl (record { other_is = c.number_is; answer_is = t.0; status_is = t.1 }))
    (λ (c : category_of y.high ≡ Normal).
    let t = at_categories Zero Normal x y answer status a.category_is c s in
    inr (inl (record { other_is = a.number_is; answer_is = t.0; status_is = t.1 })))
    (finite_category y.high fy))
    (λ (a : category_of x.high ≡ Normal).
    ⊎_elim
    (λ (c : HasNumberZero y.high).
    let t = at_categories Normal Zero x y answer status a c.category_is s in
    inl (record { other_is = c.number_is; answer_is = t.0; status_is = t.1 }))
    (λ (c : category_of y.high ≡ Normal). inr (inr (at_categories Normal Normal x y answer status a c s)))
    (finite_category y.high fy))
    (finite_category x.high fx)
