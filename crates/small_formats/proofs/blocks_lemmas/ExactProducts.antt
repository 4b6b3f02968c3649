-- A number of a short format, times a power of two, in a wide format.
use Rattle.std.proofs.Common.{◌≡◌, ℕ, ◌+◌, ◌-◌, ◌*◌, ◌^◌, ◌≤◌, Bool, sym, ap, ◌∙◌}
use Rattle.std.proofs.{Common.arith, Math.Nat.mul-le-mul_right, lemmas.Nat.pow-add, lemmas.Nat.pow_pos}
use Rattle.apfloat_model.specs.declared.kinds.NonfiniteBehavior.{NonfiniteBehavior, TheVariants.IEEE754}
use Rattle.apfloat_model.specs.{declared.kinds.Round.Round, formats.Datum.Datum, formats.Datum.finite}
use Rattle.apfloat_model.specs.formats.Format.{Format, greatest_significand, largest}
use Rattle.apfloat_model.specs.{formats.Members.IsFiniteOf, rounding.Grid.IsOnGrid}
use Rattle.apfloat_model.specs.rounding.Rounding.{IsDelivered, signed_quanta, zero_sign}
use Rattle.apfloat_model.proofs.rounding.Laws.{delivered_once, exact_delivered}
use Rattle.round_to_odd.proofs.OddPoints.{moved_on_grid, wider_grid}
use Rattle.small_formats.proofs.blocks_lemmas.{Quotients.signed_same, Tops.top_below}

-- the format g has the numbers of that precision and span in quanta of 2 ^ -scale, times 2 ^ exponent
pub record HasProducts (g : Format) (precision span scale exponent : ℕ) : Type 0 where
  pub kind : g.nonfinite ≡ IEEE754
  pub digits : precision ≤ g.precision
  pub quantum : scale ≤ exponent + g.scale
  pub room : precision + span + exponent + g.scale ≤ g.precision + g.span + scale

-- the value is that number of the format g, and no flag is raised
pub record IsExactIn (g : Format) (negative : Bool) (point : ℕ) (value : Datum) (status : ℕ) : Type 0 where
  pub value_is : value ≡ finite negative point
  pub status_is : status ≡ 0
  pub member : IsFiniteOf g negative point

-- n quanta of 2 ^ -scale, times 2 ^ exponent, in quanta of g
moved_point : (n exponent scale quantum : ℕ) → scale ≤ exponent + quantum
    → n * 2 ^ exponent * 2 ^ quantum ≡ n * 2 ^ (exponent + quantum - scale) * 2 ^ scale
moved_point n exponent scale quantum l =
    let k : ℕ = exponent + quantum - scale in
    let places : exponent + quantum ≡ k + scale = omega (arith, l) in
    let a : 2 ^ (exponent + quantum) ≡ 2 ^ exponent * 2 ^ quantum = pow-add 2 exponent quantum in
    let b : 2 ^ (k + scale) ≡ 2 ^ k * 2 ^ scale = pow-add 2 k scale in
    let d : 2 ^ exponent * 2 ^ quantum ≡ 2 ^ k * 2 ^ scale = sym a ∙ ap (λ (x : ℕ). 2 ^ x) places ∙ b in
    (let z : n * 2 ^ exponent * 2 ^ quantum ≡ n * (2 ^ exponent * 2 ^ quantum) = omega arith in z)
    ∙ ap (λ (x : ℕ). n * x) d ∙ omega arith

-- it is at most the largest number of the format
moved_within : (g : Format) (precision span scale exponent n : ℕ) → HasProducts g precision span scale exponent
    → n ≤ (2 ^ precision - 1) * 2 ^ span → n * 2 ^ (exponent + g.scale - scale) ≤ largest g
moved_within g precision span scale exponent n has within =
    let k : ℕ = exponent + g.scale - scale in
    let most : largest g ≡ (2 ^ g.precision - 1) * 2 ^ g.span =
    ap (λ (x : NonfiniteBehavior). greatest_significand x g.precision * 2 ^ g.span) has.kind in
    let moved : n * 2 ^ k ≤ (2 ^ precision - 1) * 2 ^ span * 2 ^ k = mul-le-mul_right (2 ^ k) within in
    let together : (2 ^ precision - 1) * 2 ^ span * 2 ^ k ≡ (2 ^ precision - 1) * 2 ^ (span + k) =
    (let z : (2 ^ precision - 1) * 2 ^ span * 2 ^ k ≡ (2 ^ precision - 1) * (2 ^ span * 2 ^ k) = omega arith in z)
    ∙ ap (λ (x : ℕ). (2 ^ precision - 1) * x) (sym (pow-add 2 span k)) in
    let ends : precision + (span + k) ≤ g.precision + g.span = omega (arith, has.room, has.quantum) in
    omega (arith, most, moved, together, top_below precision (span + k) g.precision g.span has.digits ends)

pub exact_product : (g : Format) (mode : Round) (negative : Bool) (precision span scale exponent n : ℕ)
    (value : Datum) (status : ℕ) → HasProducts g precision span scale exponent → IsOnGrid precision n
    → n ≤ (2 ^ precision - 1) * 2 ^ span
    → IsDelivered g mode negative (n * 2 ^ exponent * 2 ^ g.scale) (2 ^ scale) value status
    → IsExactIn g negative (n * 2 ^ (exponent + g.scale - scale)) value status
exact_product g mode negative precision span scale exponent n value status has grid within h =
    let point : ℕ = n * 2 ^ (exponent + g.scale - scale) in
    let on : IsOnGrid g.precision point =
    wider_grid precision g.precision point has.digits (moved_on_grid precision n (exponent + g.scale - scale) grid) in
    let most = moved_within g precision span scale exponent n has within in
    let sign : zero_sign g.nonfinite negative ≡ negative =
    ap (λ (x : NonfiniteBehavior). zero_sign x negative) has.kind in
    let exact = exact_delivered g mode negative point (n * 2 ^ exponent * 2 ^ g.scale) (2 ^ scale) (pow_pos scale) on
    most (moved_point n exponent scale g.scale has.quantum) in
    let once = delivered_once g mode negative (n * 2 ^ exponent * 2 ^ g.scale) (2 ^ scale) value
    (signed_quanta g.nonfinite negative point) status 0 h exact in
    record {
      value_is = once.0 ∙ signed_same g.nonfinite negative point sign;
      status_is = once.1;
      member = record { on_grid = on; within = most; zero_has = λ e. sym sign };
    }
