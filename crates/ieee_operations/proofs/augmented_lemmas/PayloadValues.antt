-- Payloads of NaNs as values.
use Rattle.std.proofs.Common.{◌≡◌, ℕ, zero, suc, ◌-◌, ◌*◌, ◌%◌, ◌^◌, ◌<◌, ◌≤◌, Bool}
use Rattle.std.proofs.Common.{true, false, eqb, if◌then◌else◌, refl, sym, ap, ◌∙◌, arith, lit<}
use Rattle.std.proofs.{Math.Nat.pow-le-pow_right, lemmas.Bool.false≢true, lemmas.Nat.pow_pos, lemmas.Nat.mod_below}
use Rattle.std.specs.Prelude.{negsuc}
use Rattle.apfloat_model.specs.declared.kinds.NonfiniteBehavior.{NonfiniteBehavior}
use Rattle.apfloat_model.specs.declared.kinds.NonfiniteBehavior.TheVariants.{IEEE754, NanOnly, NanNegativeZero}
use Rattle.apfloat_model.specs.declared.kinds.Round.TheVariants.{NearestTiesToEven}
use Rattle.apfloat_model.specs.declared.kinds.Category.TheVariants.{Normal, Zero}
use Rattle.apfloat_model.specs.{bits.Layout.trailing_bits, formats.Format.Format}
use Rattle.apfloat_model.specs.formats.{Datum.Datum, Datum.finite, Datum.infinite, Datum.nan, Nan.nan_significand}
use Rattle.apfloat_model.specs.order.Classes.{is_nan, category_of, is_nan_category}
use Rattle.apfloat_model.specs.rounding.Rounding.{IsDelivered, signed_quanta, ok_bits}
use Rattle.apfloat_model.specs.whole_numbers.WholeNumbers.{IsFromUnsigned, IsFromSigned}
use Rattle.apfloat_model.proofs.{formats.Ranges.below_top, general.Powers.two_pos, general.Powers.lower_mod}
use Rattle.apfloat_model.proofs.rounding.Deliveries.{signed_some, unsigned_quanta}
use Rattle.apfloat_model.proofs.rounding.{Laws.delivered_once, Laws.exact_delivered, Neighbours.multiple_on_grid}
use Rattle.ieee_operations.specs.augmented.Payloads.{get_payload, integer_datum, payload_of, payload_bits}
use Rattle.ieee_operations.specs.augmented.Payloads.{payload_bits_of}

payload_short : (kind : NonfiniteBehavior) (explicit : Bool) (precision : ℕ)
    → payload_bits_of kind precision ≤ precision - 1
payload_short IEEE754 explicit precision = omega arith
payload_short NanOnly explicit precision = omega arith
payload_short NanNegativeZero explicit precision = omega arith

trailing_long : (f : Format) (explicit : Bool) → f.explicit_integer_bit ≡ explicit → f.precision - 1 ≤ trailing_bits f
trailing_long f true e = rw e (omega arith)
trailing_long f false e = rw e (omega arith)

-- the last bits of an encoding are the last bits of its trailing field
pub payload_is : (f : Format) (bits significand : ℕ) → bits % 2 ^ trailing_bits f ≡ significand
    → bits % 2 ^ payload_bits f ≡ payload_of f significand
payload_is f bits significand e =
    let a = payload_short f.nonfinite f.explicit_integer_bit f.precision in
    let b = trailing_long f f.explicit_integer_bit refl in
    sym (lower_mod bits (trailing_bits f) (payload_bits f) (omega (arith, a, b))) ∙
    ap (λ (n : ℕ). n % 2 ^ payload_bits f) e

-- an integer of few digits is a value
module _ (f : Format) (h : 3 ≤ f.precision) (s : f.scale < f.span) where
  integer_is : (negative : Bool) (m : ℕ) (value : Datum) (status : ℕ) → m < 2 ^ f.precision
      → IsDelivered f NearestTiesToEven negative (m * 2 ^ f.scale) 1 value status
      → value ≡ signed_quanta f.nonfinite negative (m * 2 ^ f.scale)
  integer_is negative m value status l x =
      (delivered_once f NearestTiesToEven negative (m * 2 ^ f.scale) 1 value _ status ok_bits x
      (exact_delivered f NearestTiesToEven negative (m * 2 ^ f.scale) (m * 2 ^ f.scale) 1 (lit< tt)
      (multiple_on_grid f.precision m f.scale l) (below_top f m f.scale h l s) (omega arith))).0

  few : (k m : ℕ) → k ≤ f.precision - 1 → m < 2 ^ k → m < 2 ^ f.precision
  few k m l n =
      let a : 2 ^ k ≤ 2 ^ f.precision = pow-le-pow_right two_pos (omega (arith, l, h)) in
      omega (arith, a, n)

  pub payload_value : (x : Datum) (value : Datum) (status payload : ℕ) → is_nan x ≡ true
      → payload ≡ payload_of f (nan_significand x) → payload < 2 ^ payload_bits f
      → IsFromUnsigned f NearestTiesToEven payload value status → value ≡ get_payload f x
  payload_value (nan b n) value status payload i e l r =
      integer_is false payload value status
      (few (payload_bits f) payload (payload_short f.nonfinite f.explicit_integer_bit f.precision) l) r ∙
      unsigned_quanta f.nonfinite (payload * 2 ^ f.scale) ∙ ap (λ (m : ℕ). integer_datum f false m) e
  payload_value (infinite b) value status payload i e l r = absurd (false≢true i)
  payload_value (finite b n) value status payload i e l r = absurd (false≢true i)

  pub no_payload : (x : Datum) (value : Datum) (status : ℕ) → is_nan x ≡ false
      → IsFromSigned f NearestTiesToEven (negsuc 0) value status → value ≡ get_payload f x
  no_payload x value status i r =
      let u : 0 < 1 * 2 ^ f.scale = let w = pow_pos f.scale in omega (arith, w) in
      let p : 1 < 2 ^ f.precision =
      let a : 2 ^ 3 ≤ 2 ^ f.precision = pow-le-pow_right two_pos h in omega (arith, a) in
      integer_is true 1 value status p r ∙ signed_some f.nonfinite true (1 * 2 ^ f.scale) u ∙ others x i where
        others : (x : Datum) → is_nan x ≡ false → finite true (1 * 2 ^ f.scale) ≡ get_payload f x
        others (finite b n) i = refl
        others (infinite b) i = refl
        others (nan b n) i = absurd (false≢true (sym i))

-- a payload has no more bits than the format has for it
pub payload_fits : (f : Format) (x : Datum) (payload : ℕ) → payload ≡ payload_of f (nan_significand x)
    → payload < 2 ^ payload_bits f
payload_fits f x payload e =
    omega (arith, e, mod_below (nan_significand x) (2 ^ payload_bits f) (pow_pos (payload_bits f)))

-- whether the class of a datum is that of NaNs
pub nan_class : (x : Datum) (test : Bool) → is_nan_category (category_of x) ≡ test → is_nan x ≡ test
nan_class (nan b s) test e = e
nan_class (infinite b) test e = e
nan_class (finite b zero) test e = e
nan_class (finite b (suc n)) test e = by (eqb (suc n) 0) e where
  by : (zero_test : Bool) → is_nan_category (if zero_test then Zero else Normal) ≡ test → false ≡ test
  by true e = e
  by false e = e
