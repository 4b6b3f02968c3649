-- Every outcome of an operation that delivers in another format is sound.
use Rattle.std.proofs.Common.{ℕ, ◌||◌, ◌+◌, ◌*◌, Bool, false, eqb}
use Rattle.std.proofs.{Math.Nat.mul-pos, lemmas.Nat.pow_pos}
use Rattle.apfloat_model.specs.{formats.Format.Format, rounding.Outcome.IsSound, rounding.RaisedFlags.FlagsGoTogether}
use Rattle.apfloat_model.specs.arithmetic.{Exact.same_sign, Exact.product_sign, Conversions.has_infinities}
use Rattle.apfloat_model.proofs.general.Choices.{if_case, above_zero}
use Rattle.apfloat_model.proofs.rounding.StatusesTogether.{ok_together, invalid_together, invalid_if_together}
use Rattle.apfloat_model.proofs.rounding.StatusesTogether.{div_by_zero_together, only_inexact_together}
use Rattle.apfloat_arithmetic.specs.other_formats.Extended.{Extended, number, infinity, not_number, signals}
use Rattle.apfloat_arithmetic.specs.other_formats.FormatOf.{infinity_to, sum_of, number_by_infinity, product_of}
use Rattle.apfloat_arithmetic.specs.other_formats.FormatOf.{quotient_of, sum_with_infinity, fused_sum_of}
use Rattle.apfloat_arithmetic.specs.other_formats.RootsOf.{root_of}

infinity_sound : (g : Format) (negative : Bool) → IsSound (infinity_to g negative)
infinity_sound g negative =
    if_case FlagsGoTogether (has_infinities g.nonfinite) (λ e. ok_together) (λ e. only_inexact_together)

pub sum_sound : (g : Format) (x y : Extended) → IsSound (sum_of g x y)
sum_sound g (not_number s d) y = invalid_if_together (s || signals y)
sum_sound g (number b m s) (not_number t d) = invalid_if_together t
sum_sound g (infinity b) (not_number t d) = invalid_if_together t
sum_sound g (infinity b) (infinity c) =
    if_case IsSound (same_sign b c) (λ e. infinity_sound g b) (λ e. invalid_together)
sum_sound g (infinity b) (number c n t) = infinity_sound g b
sum_sound g (number b m s) (infinity c) = infinity_sound g c
sum_sound g (number b m s) (number c n t) = pow_pos (s + t)

by_infinity_sound : (g : Format) (negative : Bool) (amount : ℕ) → IsSound (number_by_infinity g negative amount)
by_infinity_sound g negative amount =
    if_case IsSound (eqb amount 0) (λ e. invalid_together) (λ e. infinity_sound g negative)

pub product_sound : (g : Format) (x y : Extended) → IsSound (product_of g x y)
product_sound g (not_number s d) y = invalid_if_together (s || signals y)
product_sound g (number b m s) (not_number t d) = invalid_if_together t
product_sound g (infinity b) (not_number t d) = invalid_if_together t
product_sound g (infinity b) (infinity c) = infinity_sound g (product_sign b c)
product_sound g (infinity b) (number c n t) = by_infinity_sound g (product_sign b c) n
product_sound g (number b m s) (infinity c) = by_infinity_sound g (product_sign b c) m
product_sound g (number b m s) (number c n t) = pow_pos (s + t)

pub quotient_sound : (g : Format) (x y : Extended) → IsSound (quotient_of g x y)
quotient_sound g (not_number s d) y = invalid_if_together (s || signals y)
quotient_sound g (number b m s) (not_number t d) = invalid_if_together t
quotient_sound g (infinity b) (not_number t d) = invalid_if_together t
quotient_sound g (infinity b) (infinity c) = invalid_together
quotient_sound g (infinity b) (number c n t) = infinity_sound g (product_sign b c)
quotient_sound g (number b m s) (infinity c) = ok_together
quotient_sound g (number b m s) (number c n t) =
    if_case IsSound (eqb n 0) (λ e. if_case IsSound (eqb m 0) (λ f. invalid_together) (λ f. div_by_zero_together))
    (λ e. mul-pos (above_zero n e) (pow_pos s))

with_infinity_sound : (g : Format) (negative : Bool) (amount : ℕ) (z : Extended)
    → IsSound (sum_with_infinity g negative amount z)
with_infinity_sound g negative amount z =
    if_case IsSound (eqb amount 0) (λ e. invalid_together) (λ e. sum_sound g (infinity negative) z)

pub fused_sum_sound : (g : Format) (x y z : Extended) → IsSound (fused_sum_of g x y z)
fused_sum_sound g (not_number s d) y z = sum_sound g (not_number (s || signals y) d) z
fused_sum_sound g (number b m s) (not_number t d) z = sum_sound g (not_number t d) z
fused_sum_sound g (infinity b) (not_number t d) z = sum_sound g (not_number t d) z
fused_sum_sound g (infinity b) (infinity c) z = sum_sound g (infinity (product_sign b c)) z
fused_sum_sound g (infinity b) (number c n t) z = with_infinity_sound g (product_sign b c) n z
fused_sum_sound g (number b m s) (infinity c) z = with_infinity_sound g (product_sign b c) m z
fused_sum_sound g (number b m s) (number c n t) z = sum_sound g (number (product_sign b c) (m * n) (s + t)) z

pub root_sound : (g : Format) (x : Extended) → IsSound (root_of g x)
root_sound g (not_number s d) = invalid_if_together s
root_sound g (infinity b) = if_case IsSound b (λ e. invalid_together) (λ e. infinity_sound g false)
root_sound g (number b n s) =
    if_case IsSound (eqb n 0) (λ e. ok_together) (λ e. if_case IsSound b (λ f. invalid_together) (λ f. pow_pos s))
