-- The predicates of a floating-point type, from the category and the sign of its values (IEEE 754-2019 5.7.2), and its
-- minima and maxima, from its order (5.3.1; 754-2019 9.6). On data they agree with the model:
-- `proofs/order/PredicatesAgree.antt`.
use Rattle.std.specs.Prelude.{Bool, true, false, not, ◌&&◌, Option, if◌then◌else◌}
use Rattle.std.specs.{declared.cmp.Ordering.Ordering, Ordering.partial_lt}
use Rattle.apfloat_model.specs.declared.kinds.Category.{Category}
use Rattle.apfloat_model.specs.declared.kinds.Category.TheVariants.{Infinity, NaN, Normal, Zero}
use Rattle.apfloat_model.specs.{arithmetic.Exact.same_sign, order.Classes.is_nan_category}

abbrev pub is_infinite_category : Category → Bool
is_infinite_category Infinity = true
is_infinite_category NaN = false
is_infinite_category Normal = false
is_infinite_category Zero = false

abbrev pub is_zero_category : Category → Bool
is_zero_category Infinity = false
is_zero_category NaN = false
is_zero_category Normal = false
is_zero_category Zero = true

abbrev pub is_finite_category : Category → Bool
is_finite_category Infinity = false
is_finite_category NaN = false
is_finite_category Normal = true
is_finite_category Zero = true

-- `min_num` and `max_num` of the model
abbrev pub min_by : {X : Type 0} → (X → Category) → (X → X → Option Ordering) → X → X → X
min_by category_of partial_cmp x y =
    if is_nan_category (category_of x) then y
    else (if is_nan_category (category_of y) then x else (if partial_lt partial_cmp y x then y else x))

abbrev pub max_by : {X : Type 0} → (X → Category) → (X → X → Option Ordering) → X → X → X
max_by category_of partial_cmp x y =
    if is_nan_category (category_of x) then y
    else (if is_nan_category (category_of y) then x else (if partial_lt partial_cmp x y then y else x))

-- zeros of opposite signs
abbrev pub are_opposite_zeros : {X : Type 0} → (X → Category) → (X → Bool) → X → X → Bool
are_opposite_zeros category_of sign_of x y =
    is_zero_category (category_of x) && (is_zero_category (category_of y) && not (same_sign (sign_of x) (sign_of y)))

-- `minimum` and `maximum` of the model
abbrev pub minimum_by : {X : Type 0} → (X → Category) → (X → Bool) → (X → X → Option Ordering) → X → X → X
minimum_by category_of sign_of partial_cmp x y =
    if is_nan_category (category_of x) then x
    else (if is_nan_category (category_of y) then y
    else (if are_opposite_zeros category_of sign_of x y then (if sign_of x then x else y)
    else min_by category_of partial_cmp x y))

abbrev pub maximum_by : {X : Type 0} → (X → Category) → (X → Bool) → (X → X → Option Ordering) → X → X → X
maximum_by category_of sign_of partial_cmp x y =
    if is_nan_category (category_of x) then x
    else (if is_nan_category (category_of y) then y
    else (if are_opposite_zeros category_of sign_of x y then (if sign_of x then y else x)
    else max_by category_of partial_cmp x y))

-- `copy_sign` of the model
abbrev pub signed_like : {X : Type 0} → (X → Bool) → (X → X) → X → X → X
signed_like sign_of negated x y = if not (same_sign (sign_of x) (sign_of y)) then negated x else x
