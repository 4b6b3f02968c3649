-- A common factor of both distances does not change which neighbour a mode of conversions takes.
use Rattle.std.proofs.Common.{◌≡◌, ℕ, zero, suc, ◌+◌, ◌*◌, ◌/◌, ◌^◌, ◌<◌, Bool, false, cond}
use Rattle.std.proofs.Common.{leb, eqb, sym, refl, ap, ◌∙◌, arith}
use Rattle.std.proofs.{Math.Nat.mul-div-mul_right, Math.Nat.mul-pos, lemmas.Bool.eq-eqb, lemmas.Bool.ne_eqb}
use Rattle.apfloat_model.proofs.rounding.Picks.{takes_scaled}
use Rattle.small_formats.specs.declared.modes.ConversionRound.{ConversionRound}
use Rattle.small_formats.specs.declared.modes.ConversionRound.TheVariants.{Ieee, ToOdd, Stochastic}
use Rattle.small_formats.specs.{Modes.takes_next, Modes.parts_above, PicksBy.moves}

pub parts_scaled : (digits x y w : ℕ) → 0 < w → parts_above digits (x * w) (y * w) ≡ parts_above digits x y
parts_scaled digits x y w p =
    let top : 2 ^ digits * (x * w) ≡ 2 ^ digits * x * w = omega arith in
    let bottom : x * w + y * w ≡ (x + y) * w = omega arith in
    ap (λ (n : ℕ). n / (x * w + y * w)) top ∙ ap (λ (n : ℕ). 2 ^ digits * x * w / n) bottom
    ∙ mul-div-mul_right (2 ^ digits * x) (x + y) p

zero_scaled : (x w : ℕ) → 0 < w → eqb (x * w) 0 ≡ eqb x 0
zero_scaled zero w p = eq-eqb (0 * w) 0 (omega arith)
zero_scaled (suc x) w p =
    let some : 0 < suc x * w = mul-pos (omega arith) p in
    ne_eqb (suc x * w) 0 (λ e. omega (arith, e, some)) ∙ sym (ne_eqb (suc x) 0 (λ e. omega (arith, e)))

next_scaled : (mode : ConversionRound) (negative odd : Bool) (x y w : ℕ) → 0 < w
    → takes_next mode negative (x * w) (y * w) odd ≡ takes_next mode negative x y odd
next_scaled (Ieee mode) negative odd x y w p = sym (takes_scaled mode negative odd x y w p)
next_scaled ToOdd negative odd x y w p = refl
next_scaled (Stochastic bits) negative odd x y w p =
    ap (λ (n : ℕ). leb (2 ^ bits.digits) (n + bits.random)) (parts_scaled bits.digits x y w p)

pub moves_scaled : (mode : ConversionRound) (negative odd : Bool) (x y w : ℕ) → 0 < w
    → moves mode negative (x * w) (y * w) odd ≡ moves mode negative x y odd
moves_scaled mode negative odd x y w p =
    ap (λ (b : Bool). cond b false (takes_next mode negative (x * w) (y * w) odd)) (zero_scaled x w p)
    ∙ ap (λ (b : Bool). cond (eqb x 0) false b) (next_scaled mode negative odd x y w p)

-- distances in other units: x * v of the one are a * w of the other
pub moves_alike : (mode : ConversionRound) (negative odd : Bool) (x y a b v w : ℕ) → 0 < v → 0 < w → x * v ≡ a * w
    → y * v ≡ b * w → moves mode negative x y odd ≡ moves mode negative a b odd
moves_alike mode negative odd x y a b v w p q e f =
    sym (moves_scaled mode negative odd x y v p) ∙ ap (λ (n : ℕ). moves mode negative n (y * v) odd) e
    ∙ ap (λ (n : ℕ). moves mode negative (a * w) n odd) f ∙ moves_scaled mode negative odd a b w q
