-- What holds of every outcome: it is delivered, as one value with one status, whose flags go together.
use Rattle.std.proofs.Common.{◌≡◌, ℕ, ◌*◌, ◌^◌, ◌<◌, Bool, true, false, eqb, ⊎_elim, lit<, arith}
use Rattle.std.proofs.lemmas.{Nat.pow_pos, Bool.cases_eq, Bool.eq-eqb, Bool.ne_eqb}
use Rattle.std.specs.Prelude.{ℤ, if◌then◌else◌}
use Rattle.apfloat_model.specs.{declared.kinds.Round.Round, formats.Format.Format}
use Rattle.apfloat_model.specs.formats.Datum.{Datum, finite, infinite, nan}
use Rattle.apfloat_model.specs.rounding.{Rounding.ok_bits, Negation.negated, RaisedFlags.FlagsGoTogether}
use Rattle.apfloat_model.specs.rounding.Outcome.{Outcome, settled, rounded, totalled, rooted, Yields, IsSound}
use Rattle.apfloat_model.specs.arithmetic.{Sums.sum, Sums.difference, Products.product, Quotients.quotient, Roots.root}
use Rattle.apfloat_model.specs.arithmetic.FusedSums.{on_product, with_product, fused_sum}
use Rattle.apfloat_model.specs.arithmetic.Remainders.{remainder}
use Rattle.apfloat_model.specs.arithmetic.Exact.{same_sign, product_sign, sign_of, magnitude, zero_sum_sign}
use Rattle.apfloat_model.specs.whole_numbers.WholeNumbers.{from_unsigned, from_signed, integral}
use Rattle.apfloat_model.proofs.rounding.{Laws.delivered_once, StatusesTogether.Together}
use Rattle.apfloat_model.proofs.rounding.StatusesTogether.{answer_together, delivered_together, delivered_root_together}
use Rattle.apfloat_model.proofs.rounding.StatusesTogether.{ok_together, invalid_together, invalid_if_together}
use Rattle.apfloat_model.proofs.rounding.StatusesTogether.{div_by_zero_together, inexact_unless_together}
use Rattle.apfloat_model.proofs.rounding.RootsOnce.{Once, answer_once, delivered_root_once}
use Rattle.apfloat_model.proofs.rounding.DeliveriesExist.{HasAnswer, answer_exists, rounded_exists}
use Rattle.apfloat_model.proofs.rounding.DeliveriesExist.{delivered_root_exists}

-- ---- the three theorems

pub yields_once : (format : Format) (mode : Round) (outcome : Outcome) → Once (Yields format mode outcome)
yields_once format mode (settled datum flags) = answer_once datum flags
yields_once format mode (rounded negative amount parts) = delivered_once format mode negative amount parts
yields_once format mode (totalled left right exact parts) =
    delivered_once format mode (sign_of (zero_sum_sign mode left right) exact) (magnitude exact) parts
yields_once format mode (rooted square parts) = delivered_root_once format mode square parts

pub yields_something : (format : Format) (mode : Round) (outcome : Outcome) → 0 < format.precision
    → IsSound outcome → HasAnswer (Yields format mode outcome)
yields_something format mode (settled datum flags) p h = answer_exists datum flags
yields_something format mode (rounded negative amount parts) p h = rounded_exists format p mode negative amount parts h
yields_something format mode (totalled left right exact parts) p h =
    rounded_exists format p mode (sign_of (zero_sum_sign mode left right) exact) (magnitude exact) parts h
yields_something format mode (rooted square parts) p h = delivered_root_exists format p mode square parts h

pub yields_together : (format : Format) (mode : Round) (outcome : Outcome) → IsSound outcome
    → Together (Yields format mode outcome)
yields_together format mode (settled datum flags) h = answer_together datum flags h
yields_together format mode (rounded negative amount parts) h = delivered_together format mode negative amount parts
yields_together format mode (totalled left right exact parts) h =
    delivered_together format mode (sign_of (zero_sum_sign mode left right) exact) (magnitude exact) parts
yields_together format mode (rooted square parts) h = delivered_root_together format mode square parts

-- an outcome whose sign does not depend on the mode
abbrev pub IsFixed : Outcome → Type 0
IsFixed (settled datum flags) = FlagsGoTogether flags
IsFixed (rounded negative amount parts) = 0 < parts
IsFixed (totalled left right exact parts) = ⊥
IsFixed (rooted square parts) = 0 < parts

fixed_sound : (outcome : Outcome) → IsFixed outcome → IsSound outcome
fixed_sound (settled datum flags) h = h
fixed_sound (rounded negative amount parts) h = h
fixed_sound (totalled left right exact parts) h = absurd h
fixed_sound (rooted square parts) h = h

-- ---- every outcome in the table is sound

fixed_if : (test : Bool) (one other : Outcome) → IsFixed one → IsFixed other → IsFixed (if test then one else other)
fixed_if true one other h k = h
fixed_if false one other h k = k

pub sound_if : (test : Bool) (one other : Outcome) → IsSound one → IsSound other → IsSound (if test then one else other)
sound_if true one other h k = h
sound_if false one other h k = k

-- the second is had only of n above 0
fixed_unless_zero : (n : ℕ) (one other : Outcome) → IsFixed one → (0 < n → IsFixed other)
    → IsFixed (if eqb n 0 then one else other)
fixed_unless_zero n one other h k =
    ⊎_elim (λ (e : n ≡ 0). rw (eq-eqb n 0 e) h)
    (λ (e : n ≡ 0 → ⊥). rw (ne_eqb n 0 e) (k (omega (arith, e)))) (cases_eq n 0)

pub sum_sound : (format : Format) (x y : Datum) → IsSound (sum format x y)
sum_sound format (nan b s) y = invalid_if_together _
sum_sound format (finite b m) (nan c t) = invalid_if_together _
sum_sound format (infinite b) (nan c t) = invalid_if_together _
sum_sound format (infinite b) (infinite c) = sound_if (same_sign b c) _ _ ok_together invalid_together
sum_sound format (infinite b) (finite c n) = ok_together
sum_sound format (finite b m) (infinite c) = ok_together
sum_sound format (finite b m) (finite c n) = lit< tt

pub difference_sound : (format : Format) (x y : Datum) → IsSound (difference format x y)
difference_sound format (nan b s) y = invalid_if_together _
difference_sound format (finite b m) (nan c t) = invalid_if_together _
difference_sound format (infinite b) (nan c t) = invalid_if_together _
difference_sound format (finite b m) (finite c n) =
    sum_sound format (finite b m) (negated format.nonfinite (finite c n))
difference_sound format (finite b m) (infinite c) =
    sum_sound format (finite b m) (negated format.nonfinite (infinite c))
difference_sound format (infinite b) (finite c n) =
    sum_sound format (infinite b) (negated format.nonfinite (finite c n))
difference_sound format (infinite b) (infinite c) =
    sum_sound format (infinite b) (negated format.nonfinite (infinite c))

pub product_fixed : (format : Format) (x y : Datum) → IsFixed (product format x y)
product_fixed format (nan b s) y = invalid_if_together _
product_fixed format (finite b m) (nan c t) = invalid_if_together _
product_fixed format (infinite b) (nan c t) = invalid_if_together _
product_fixed format (finite b m) (infinite c) = fixed_if (eqb m 0) _ _ invalid_together ok_together
product_fixed format (infinite b) (finite c n) = fixed_if (eqb n 0) _ _ invalid_together ok_together
product_fixed format (infinite b) (infinite c) = ok_together
product_fixed format (finite b m) (finite c n) = pow_pos format.scale

pub quotient_fixed : (format : Format) (x y : Datum) → IsFixed (quotient format x y)
quotient_fixed format (nan b s) y = invalid_if_together _
quotient_fixed format (finite b m) (nan c t) = invalid_if_together _
quotient_fixed format (infinite b) (nan c t) = invalid_if_together _
quotient_fixed format (finite b m) (infinite c) = ok_together
quotient_fixed format (infinite b) (finite c n) = ok_together
quotient_fixed format (infinite b) (infinite c) = invalid_together
quotient_fixed format (finite b m) (finite c n) =
    fixed_unless_zero n _ (rounded (product_sign b c) (m * 2 ^ format.scale) n)
    (fixed_if (eqb m 0) _ _ invalid_together div_by_zero_together) (λ h. h)

pub product_sound : (format : Format) (x y : Datum) → IsSound (product format x y)
product_sound format x y = fixed_sound (product format x y) (product_fixed format x y)

pub quotient_sound : (format : Format) (x y : Datum) → IsSound (quotient format x y)
quotient_sound format x y = fixed_sound (quotient format x y) (quotient_fixed format x y)

pub root_sound : (format : Format) (x : Datum) → IsSound (root format x)
root_sound format (nan b s) = invalid_if_together _
root_sound format (infinite b) = sound_if b _ _ invalid_together ok_together
root_sound format (finite b n) = sound_if (eqb n 0) _ _ ok_together (sound_if b _ _ invalid_together (lit< tt))

on_product_sound : (format : Format) (z : Datum) (outcome : Outcome) → IsSound outcome
    → IsSound (on_product format z outcome)
on_product_sound format z (settled datum flags) h = sound_if (eqb flags ok_bits) _ _ (sum_sound format datum z) h
on_product_sound format z (rounded negative amount parts) h = h
on_product_sound format z (totalled left right exact parts) h = h
on_product_sound format z (rooted square parts) h = h

with_product_sound : (format : Format) (x y z : Datum) → IsSound (with_product format x y z)
with_product_sound format x y z = on_product_sound format z (product format x y) (product_sound format x y)

pub fused_sum_sound : (format : Format) (x y z : Datum) → IsSound (fused_sum format x y z)
fused_sum_sound format (finite b l) (finite c m) (finite d n) = pow_pos format.scale
fused_sum_sound format (finite b l) (finite c m) (infinite d) = sum_sound format (finite b l) (infinite d)
fused_sum_sound format (finite b l) (finite c m) (nan d t) = sum_sound format (finite b l) (nan d t)
fused_sum_sound format (finite b l) (infinite c) z = with_product_sound format (finite b l) (infinite c) z
fused_sum_sound format (finite b l) (nan c t) z = with_product_sound format (finite b l) (nan c t) z
fused_sum_sound format (infinite b) y z = with_product_sound format (infinite b) y z
fused_sum_sound format (nan b u) y z = with_product_sound format (nan b u) y z

pub remainder_sound : (format : Format) (quotient : ℕ → ℕ → ℕ) (x y : Datum) → IsSound (remainder format quotient x y)
remainder_sound format quotient (nan b s) y = invalid_if_together _
remainder_sound format quotient (finite b m) (nan c t) = invalid_if_together _
remainder_sound format quotient (infinite b) (nan c t) = invalid_if_together _
remainder_sound format quotient (infinite b) (infinite c) = invalid_together
remainder_sound format quotient (infinite b) (finite c n) = invalid_together
remainder_sound format quotient (finite b m) (infinite c) = ok_together
remainder_sound format quotient (finite b m) (finite c n) = sound_if (eqb n 0) _ _ invalid_together ok_together

pub from_unsigned_sound : (format : Format) (number : ℕ) → IsSound (from_unsigned format number)
from_unsigned_sound format number = lit< tt

pub from_signed_sound : (format : Format) (number : ℤ) → IsSound (from_signed format number)
from_signed_sound format number = lit< tt

pub integral_sound : (format : Format) (mode : Round) (x : Datum) → IsSound (integral format mode x)
integral_sound format mode (nan b s) = invalid_if_together _
integral_sound format mode (infinite b) = ok_together
integral_sound format mode (finite b n) = inexact_unless_together _
