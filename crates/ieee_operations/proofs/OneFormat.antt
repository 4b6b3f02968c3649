-- In one format, data counted in a finer unit are ordered as the data.
use Rattle.std.specs.Prelude.{◌≡◌, ℕ, zero, suc, ◌*◌, ◌^◌, ◌<◌, Bool, true, false, not, Some}
use Rattle.std.specs.Ordering.{int_cmp}
use Rattle.std.proofs.Common.{refl, sym, ap, ◌∙◌, arith}
use Rattle.std.proofs.{lemmas.Nat.pow_pos, Math.Nat.mul-lt-mul_of_pos_right, Math.Nat.le_of_mul-le-mul_right}
use Rattle.apfloat_model.specs.formats.Datum.{Datum, finite, infinite, nan}
use Rattle.apfloat_model.specs.{formats.Constants.zero_datum, arithmetic.Exact.signed, order.Order.compared}
use Rattle.apfloat_model.proofs.{general.Choices.eqb_self, arithmetic.Signs.no_sign}
use Rattle.ieee_operations.specs.TwoFormats.{IsOrderOfOneFormat}
use Rattle.ieee_operations.proofs.{Truncated.settles, ZerosOrdered.zero_against}

-- a zero is ordered as +0
plain_zero : (b : Bool) (y : Datum) → compared zero_datum y ≡ compared (finite b 0) y
plain_zero b (nan c t) = refl
plain_zero b (infinite true) = refl
plain_zero b (infinite false) = refl
plain_zero b (finite c m) = ap (λ z. Some (int_cmp z (signed c m))) (sym (no_sign b))

-- two numbers, the first of which is not 0
in_units : (b c : Bool) (n m k : ℕ) → 0 < n → 0 < k
    → int_cmp (signed b n) (signed c m) ≡ int_cmp (signed b (n * k)) (signed c (m * k))
in_units b c n m k some unit =
    let l : 0 * k < n * k = mul-lt-mul_of_pos_right some unit in
    settles b c (n * k) k n m false
    (record {
      some_parts = unit;
      some = omega (arith, l);
      not_above = omega arith;
      greatest = λ h. le_of_mul-le-mul_right h unit;
      cut = ap not (sym (eqb_self (n * k)));
    }) (int_cmp (signed b n) (signed c m)) refl

pub one_format : IsOrderOfOneFormat
one_format f (nan b s) y = refl
one_format f (infinite b) (nan c t) = refl
one_format f (infinite b) (infinite c) = refl
one_format f (infinite true) (finite c m) = refl
one_format f (infinite false) (finite c m) = refl
one_format f (finite b zero) y = sym (zero_against f f b y) ∙ plain_zero b y
one_format f (finite b (suc n)) (nan c t) = refl
one_format f (finite b (suc n)) (infinite true) = refl
one_format f (finite b (suc n)) (infinite false) = refl
one_format f (finite b (suc n)) (finite c m) =
    ap Some (sym (in_units b c (suc n) m (2 ^ f.scale) (omega arith) (pow_pos f.scale)))
