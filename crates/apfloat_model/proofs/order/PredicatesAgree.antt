-- On data, the predicates by category and the minima and maxima by order are those of the model.
use Rattle.std.specs.Prelude.{◌≡◌, ℕ, zero, suc, ◌-◌, ◌<◌, Bool, true, false, not, ◌&&◌, eqb, ltb, if◌then◌else◌}
use Rattle.std.specs.Ordering.{partial_lt}
use Rattle.std.proofs.Common.{sym, refl, ◌∙◌, arith}
use Rattle.std.proofs.lemmas.{Nat.pow_pos, Bool.eqb-true, Bool.lt-ltb}
use Rattle.apfloat_model.specs.declared.kinds.{NonfiniteBehavior.NonfiniteBehavior, Category.Category}
use Rattle.apfloat_model.specs.declared.kinds.Category.TheVariants.{Infinity, NaN, Normal, Zero}
use Rattle.apfloat_model.specs.formats.Format.{Format, smallest_normalized, largest}
use Rattle.apfloat_model.specs.formats.Constants.{smallest_datum, smallest_normalized_datum, largest_datum}
use Rattle.apfloat_model.specs.formats.Datum.{Datum, finite, infinite, nan}
use Rattle.apfloat_model.specs.arithmetic.{Signs.abs, Signs.copy_sign, Exact.same_sign}
use Rattle.apfloat_model.specs.{rounding.Negation.negated, order.Classes.is_finite, order.Classes.is_infinite}
use Rattle.apfloat_model.specs.order.Classes.{is_nan, is_negative, is_zero, is_denormal, is_normal, is_finite_non_zero}
use Rattle.apfloat_model.specs.order.Classes.{is_smallest, is_smallest_normalized, is_largest, quanta_of, same_datum}
use Rattle.apfloat_model.specs.order.Classes.{category_of, is_nan_category, is_finite_non_zero_category}
use Rattle.apfloat_model.specs.order.Order.{compared, min_num, max_num, minimum, maximum}
use Rattle.apfloat_model.specs.order.Predicates.{is_finite_category, is_infinite_category, is_zero_category, min_by}
use Rattle.apfloat_model.specs.order.Predicates.{max_by, minimum_by, maximum_by, signed_like}
use Rattle.apfloat_model.proofs.general.Choices.{same_sign_is, same_sign_self, not_zero, at_least, either}
use Rattle.apfloat_model.proofs.general.Choices.{needless_last, where_both_fail}

-- ---- predicates by category

-- the predicates on the category of a finite datum, which is a zero or a nonzero number
zero_or_not : (zero : Bool) → is_zero_category (if zero then Zero else Normal) ≡ zero
zero_or_not true = refl
zero_or_not false = refl

never_nan : (zero : Bool) → is_nan_category (if zero then Zero else Normal) ≡ false
never_nan true = refl
never_nan false = refl

never_infinite : (zero : Bool) → is_infinite_category (if zero then Zero else Normal) ≡ false
never_infinite true = refl
never_infinite false = refl

always_finite : (zero : Bool) → is_finite_category (if zero then Zero else Normal) ≡ true
always_finite true = refl
always_finite false = refl

-- a predicate on categories and one on data that agree on numbers, infinities and NaNs agree on data
agree : (P : Category → Bool) (Q : Datum → Bool) → ((b : Bool) (n : ℕ) → P (category_of (finite b n)) ≡ Q (finite b n))
    → ((b : Bool) → P Infinity ≡ Q (infinite b)) → ((b : Bool) (s : ℕ) → P NaN ≡ Q (nan b s)) → (x : Datum)
    → P (category_of x) ≡ Q x
agree P Q of_number of_infinity of_nan (finite b n) = of_number b n
agree P Q of_number of_infinity of_nan (infinite b) = of_infinity b
agree P Q of_number of_infinity of_nan (nan b s) = of_nan b s

-- by category, a datum is a NaN, infinite, zero or finite exactly if it is so in the model
pub nan_agrees : (x : Datum) → is_nan_category (category_of x) ≡ is_nan x
nan_agrees = agree is_nan_category is_nan (λ b n. never_nan (eqb n 0)) (λ b. refl) (λ b s. refl)

pub infinite_agrees : (x : Datum) → is_infinite_category (category_of x) ≡ is_infinite x
infinite_agrees = agree is_infinite_category is_infinite (λ b n. never_infinite (eqb n 0)) (λ b. refl) (λ b s. refl)

pub zero_agrees : (x : Datum) → is_zero_category (category_of x) ≡ is_zero x
zero_agrees = agree is_zero_category is_zero (λ b n. zero_or_not (eqb n 0)) (λ b. refl) (λ b s. refl)

pub finite_agrees : (x : Datum) → is_finite_category (category_of x) ≡ is_finite x
finite_agrees = agree is_finite_category is_finite (λ b n. always_finite (eqb n 0)) (λ b. refl) (λ b s. refl)

-- by category, a finite datum is nonzero exactly if it has quanta
number_or_not : (n : ℕ) → is_finite_non_zero_category (if eqb n 0 then Zero else Normal) ≡ ltb 0 n
number_or_not zero = refl
number_or_not (suc n) = rw (not_zero (suc n) (omega arith), lt-ltb 0 (suc n) (omega arith)) refl

-- by category, a datum is finite and nonzero exactly if it is so in the model
pub number_agrees : (x : Datum) → is_finite_non_zero_category (category_of x) ≡ is_finite_non_zero x
number_agrees = agree is_finite_non_zero_category is_finite_non_zero (λ b n. number_or_not n) (λ b. refl) (λ b s. refl)

-- by category, a datum is normal exactly if it is so in the model
pub normal_agrees : (format : Format) (x : Datum)
    → (is_finite_non_zero_category (category_of x) && not (is_denormal format x)) ≡ is_normal format x
normal_agrees format (finite b n) = rw (number_or_not n)
    (at_least n (smallest_normalized format) (pow_pos (format.precision - 1)))
normal_agrees format (infinite b) = refl
normal_agrees format (nan b s) = refl

-- ---- minima and maxima by order

-- the lesser by order, or the other operand if one is a NaN
pub min_agrees : (x y : Datum) → min_by category_of compared x y ≡ min_num x y
min_agrees x y = rw (nan_agrees x, nan_agrees y) refl

-- the greater by order, or the other operand if one is a NaN
pub max_agrees : (x y : Datum) → max_by category_of compared x y ≡ max_num x y
max_agrees x y = rw (nan_agrees x, nan_agrees y) refl

-- two zeros of the same sign are the same datum, so it does not matter which of them is returned
one_zero : (x y : Datum) → is_zero x ≡ true → is_zero y ≡ true → same_sign (is_negative x) (is_negative y) ≡ true
    → x ≡ y
one_zero (finite a m) (finite b n) e f s = rw (same_sign_is a b s, eqb-true m 0 e, eqb-true n 0 f) refl
one_zero (finite a m) (infinite b) e f s = cc
one_zero (finite a m) (nan b t) e f s = cc
one_zero (infinite a) y e f s = cc
one_zero (nan a t) y e f s = cc

-- of two zeros of the same sign, either can be returned as the lesser
lesser_zero : (x y : Datum) (below : Bool) → is_zero x ≡ true → is_zero y ≡ true
    → same_sign (is_negative x) (is_negative y) ≡ true → (if is_negative x then x else y) ≡ (if below then y else x)
lesser_zero x y below e f s =
    let q = one_zero x y e f s in
    either (is_negative x) x y q ∙ q ∙ sym (either below y x (sym q))

-- of two zeros of the same sign, either can be returned as the greater
greater_zero : (x y : Datum) (below : Bool) → is_zero x ≡ true → is_zero y ≡ true
    → same_sign (is_negative x) (is_negative y) ≡ true → (if is_negative x then y else x) ≡ (if below then y else x)
greater_zero x y below e f s =
    let q = one_zero x y e f s in
    either (is_negative x) y x (sym q) ∙ sym (either below y x (sym q))

-- the lesser by order, with -0 below +0 and NaNs kept
pub minimum_agrees : (x y : Datum) → minimum_by category_of is_negative compared x y ≡ minimum x y
minimum_agrees x y =
    rw (nan_agrees x, nan_agrees y, zero_agrees x, zero_agrees y) (where_both_fail (is_nan x) (is_nan y) x y _ _ (λ n m.
    rw (n, m) (needless_last (is_zero x) (is_zero y) (same_sign (is_negative x) (is_negative y)) _ _
    (λ e f s. lesser_zero x y (partial_lt compared y x) e f s))))

-- the greater by order, with -0 below +0 and NaNs kept
pub maximum_agrees : (x y : Datum) → maximum_by category_of is_negative compared x y ≡ maximum x y
maximum_agrees x y =
    rw (nan_agrees x, nan_agrees y, zero_agrees x, zero_agrees y) (where_both_fail (is_nan x) (is_nan y) x y _ _ (λ n m.
    rw (n, m) (needless_last (is_zero x) (is_zero y) (same_sign (is_negative x) (is_negative y)) _ _
    (λ e f s. greater_zero x y (partial_lt compared x y) e f s))))

-- ---- named nonzero magnitudes, with the sign of a datum

-- a number with the sign of another of the same magnitude is that other number
turned_number : (kind : NonfiniteBehavior) (negative : Bool) (m : ℕ) → 0 < m
    → signed_like is_negative (negated kind) (finite false m) (finite negative m) ≡ finite negative m
turned_number kind true m h = rw (not_zero m h) refl
turned_number kind false m h = refl

-- only the sign of the second operand counts
sign_alone : (kind : NonfiniteBehavior) (m : ℕ) (x y : Datum) → is_negative x ≡ is_negative y
    → signed_like is_negative (negated kind) (finite false m) x
    ≡ signed_like is_negative (negated kind) (finite false m) y
sign_alone kind m x y e = rw e refl

-- a datum is m quanta with its own sign exactly if it is finite and has m quanta
pub magnitude_agrees : (kind : NonfiniteBehavior) (m : ℕ) (x : Datum) → 0 < m
    → same_datum x (signed_like is_negative (negated kind) (finite false m) x) ≡ (is_finite x && eqb (quanta_of x) m)
magnitude_agrees kind m (finite b n) h =
    rw (sign_alone kind m (finite b n) (finite b m) refl, turned_number kind b m h, same_sign_self b) refl
magnitude_agrees kind m (infinite b) h =
    rw (sign_alone kind m (infinite b) (finite b m) refl, turned_number kind b m h) refl
magnitude_agrees kind m (nan b s) h = rw (sign_alone kind m (nan b s) (finite b m) refl, turned_number kind b m h) refl

-- the smallest number, the smallest normalized one and the largest are those of the model
pub smallest_agrees : (format : Format) (x : Datum)
    → same_datum x (signed_like is_negative (negated format.nonfinite) smallest_datum x) ≡ is_smallest x
smallest_agrees format x = magnitude_agrees format.nonfinite 1 x (omega arith)

pub smallest_normalized_agrees : (format : Format) (x : Datum)
    → same_datum x (signed_like is_negative (negated format.nonfinite) (smallest_normalized_datum format) x)
    ≡ is_smallest_normalized format x
smallest_normalized_agrees format x = magnitude_agrees format.nonfinite (smallest_normalized format) x
    (pow_pos (format.precision - 1))

pub largest_agrees : (format : Format) (x : Datum) → 0 < largest format
    → same_datum x (signed_like is_negative (negated format.nonfinite) (largest_datum format) x) ≡ is_largest format x
largest_agrees format x h = magnitude_agrees format.nonfinite (largest format) x h

-- the absolute value of a datum is that of the model
pub abs_agrees : (format : Format) (x : Datum)
    → (if is_negative x then negated format.nonfinite x else x) ≡ abs format x
abs_agrees format x = refl

-- a datum with the sign of another is that of the model
pub copy_sign_agrees : (format : Format) (x y : Datum)
    → signed_like is_negative (negated format.nonfinite) x y ≡ copy_sign format x y
copy_sign_agrees format x y = refl
