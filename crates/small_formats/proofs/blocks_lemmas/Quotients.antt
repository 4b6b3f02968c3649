-- A quotient of the library as an element of a format of 8 bits: saturated, in any fraction that equals it.
use Rattle.std.proofs.Common.{◌≡◌, ℕ, zero, suc, ◌+◌, ◌*◌, ◌^◌, ◌<◌, Bool, true, false, cond}
use Rattle.std.proofs.Common.{eqb, ltb, refl, ap, ◌∙◌, subst, arith, if◌then◌else◌}
use Rattle.std.proofs.{Math.Nat.mul-pos, lemmas.Bool.ne_eqb, lemmas.Nat.pow_pos}
use Rattle.apfloat_model.specs.declared.kinds.{NonfiniteBehavior.NonfiniteBehavior, Round.Round}
use Rattle.apfloat_model.specs.arithmetic.{Exact.product_sign, Quotients.div_by_zero_bit}
use Rattle.apfloat_model.specs.formats.{Constants.infinity_of, Datum.Datum, Datum.finite, Datum.infinite, Datum.nan}
use Rattle.apfloat_model.specs.formats.Format.{Format, largest, nan_base}
use Rattle.apfloat_model.specs.order.Classes.{is_finite, is_negative, quanta_of}
use Rattle.apfloat_model.specs.rounding.Outcome.{settled, rounded, invalid, Yields}
use Rattle.apfloat_model.specs.rounding.Rounding.{IsDelivered, leads_out, past_largest, signed_quanta, zero_sign}
use Rattle.apfloat_model.proofs.rounding.Deliveries.{past_not_finite}
use Rattle.apfloat_arithmetic.specs.other_formats.FormatOf.{IsQuotientTo}
use Rattle.small_formats.specs.blocks.Elements.{IsSaturatedIn}
use Rattle.small_formats.proofs.blocks_lemmas.SameFractions.{delivered_across}

-- ---- saturating

finite_choice : (test one other : Bool) (m n : ℕ) → is_finite (cond test (finite one m) (finite other n)) ≡ true
finite_choice true one other m n = refl
finite_choice false one other m n = refl

-- a zero keeps its sign where the format has both
pub signed_same : (kind : NonfiniteBehavior) (negative : Bool) (pick : ℕ) → zero_sign kind negative ≡ negative
    → signed_quanta kind negative pick ≡ finite negative pick
signed_same kind negative zero z = ap (λ (b : Bool). finite b 0) z
signed_same kind negative (suc n) z =
    let off : eqb (suc n) 0 ≡ false = ne_eqb (suc n) 0 (λ e. omega (arith, e)) in rw off refl

saturated_is : (g : Format) (negative past leads : Bool) (pick : ℕ) (value result : Datum)
    → zero_sign g.nonfinite negative ≡ negative
    → value ≡ cond past (cond leads (past_largest g.nonfinite (nan_base g) negative) (finite negative (largest g)))
    (signed_quanta g.nonfinite negative pick)
    → (is_finite value ≡ true → result ≡ value) → (is_finite value ≡ false → result ≡ finite negative (largest g))
    → result ≡ cond past (finite negative (largest g)) (finite negative pick)
saturated_is g negative true true pick value result z v kept past =
    past (ap is_finite v ∙ past_not_finite g.nonfinite (nan_base g) negative)
saturated_is g negative true false pick value result z v kept past = kept (ap is_finite v) ∙ v
saturated_is g negative false leads pick value result z v kept past =
    kept (ap is_finite v ∙ finite_choice (eqb pick 0) (zero_sign g.nonfinite negative) negative 0 pick) ∙ v
    ∙ signed_same g.nonfinite negative pick z

pub saturated_of : (g : Format) (mode : Round) (negative : Bool) (amount parts status : ℕ) (value result : Datum)
    → zero_sign g.nonfinite negative ≡ negative → IsDelivered g mode negative amount parts value status
    → (is_finite value ≡ true → result ≡ value) → (is_finite value ≡ false → result ≡ finite negative (largest g))
    → IsSaturatedIn g mode negative amount parts result status
saturated_of g mode negative amount parts status value result z h kept past = record {
  pick = h.pick;
  is_pick = h.is_pick;
  value_is = saturated_is g negative (ltb (largest g) h.pick) (leads_out mode negative) h.pick value result z h.value_is
      kept past;
  status_is = h.status_is;
}

-- ---- the quotient

pub sign_over_positive : (negative : Bool) → product_sign negative false ≡ negative
sign_over_positive true = refl
sign_over_positive false = refl

pub quotient_number : (f h g : Format) (mode : Round) (x y value : Datum) (status : ℕ) → is_finite x ≡ true
    → y ≡ finite false (quanta_of y) → 0 < quanta_of y → IsQuotientTo f h g mode x y value status
    → IsDelivered g mode (is_negative x) (quanta_of x * 2 ^ (h.scale + g.scale)) (quanta_of y * 2 ^ f.scale) value
    status
quotient_number f h g mode (finite b m) y value status number is some q =
    let n : ℕ = quanta_of y in
    let q' = subst (λ (d : Datum). IsQuotientTo f h g mode (finite b m) d value status) is q in
    let off : eqb n 0 ≡ false = ne_eqb n 0 (λ e. omega (arith, e, some)) in
    let over_zero = if eqb m 0 then invalid g else settled (infinity_of g (product_sign b false)) div_by_zero_bit in
    subst (λ (s : Bool). IsDelivered g mode s (m * 2 ^ (h.scale + g.scale)) (n * 2 ^ f.scale) value status)
    (sign_over_positive b)
    (subst (λ (test : Bool). Yields g mode (if test then over_zero else
    rounded (product_sign b false) (m * 2 ^ (h.scale + g.scale)) (n * 2 ^ f.scale)) value status) off q')
quotient_number f h g mode (infinite b) y value status number is some q = cc
quotient_number f h g mode (nan b s) y value status number is some q = cc

pub quotient_across : (f h g : Format) (mode : Round) (x y value : Datum) (status amount parts : ℕ) → 0 < g.precision
    → is_finite x ≡ true → y ≡ finite false (quanta_of y) → 0 < quanta_of y → IsQuotientTo f h g mode x y value status
    → 0 < parts → amount * (quanta_of y * 2 ^ f.scale) ≡ parts * (quanta_of x * 2 ^ (h.scale + g.scale))
    → IsDelivered g mode (is_negative x) amount parts value status
quotient_across f h g mode x y value status amount parts precise number is some q p e =
    delivered_across g mode (is_negative x) amount parts (quanta_of x * 2 ^ (h.scale + g.scale))
    (quanta_of y * 2 ^ f.scale) value status precise p (mul-pos some (pow_pos f.scale)) (e ∙ omega arith)
    (quotient_number f h g mode x y value status number is some q)
