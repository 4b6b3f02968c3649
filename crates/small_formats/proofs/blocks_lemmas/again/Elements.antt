-- An element that is quantized again by another scale, which divides it exactly.
use Rattle.std.proofs.Common.{◌≡◌, ℕ, ◌+◌, ◌*◌, ◌^◌, ◌<◌, ◌≤◌, false, ltb, sym, refl, ap, ◌∙◌, subst, arith}
use Rattle.std.proofs.Math.Nat.{eq_of_mul-eq-mul_right, mul-pos}
use Rattle.std.proofs.lemmas.{Bool.le-ltb, Nat.pow-add, Nat.pow_pos}
use Rattle.apfloat_model.specs.declared.kinds.Round.{Round}
use Rattle.apfloat_model.specs.formats.{Datum.Datum, Datum.finite, Format.Format, Format.largest}
use Rattle.apfloat_model.specs.rounding.{Grid.IsOnGrid, Rounding.delivered_status}
use Rattle.apfloat_model.proofs.rounding.{Laws.exact_delivered, Laws.exact_is_picked, Picks.pick_unique}
use Rattle.round_to_odd.proofs.OddPoints.{moved_on_grid}
use Rattle.small_formats.specs.{Conversions.saturated_value, blocks.Again.IsKept, blocks.Laws.IsExactlyScaled}
use Rattle.small_formats.specs.{declared.blocks.elements.ElementFormat.ElementFormat}
use Rattle.small_formats.specs.blocks.Elements.{IsElement, IsQuotientBy, element_datum, format_of_element}

-- the quotient in quanta of the element format
same_quotient : (y n into quantum scale other more : ℕ) → other + more ≡ scale
    → y * 2 ^ (into + 127) ≡ n * 2 ^ scale * 2 ^ quantum
    → y * 2 ^ into * 2 ^ 127 ≡ n * 2 ^ more * (2 ^ quantum * 2 ^ other)
same_quotient y n into quantum scale other more sum e =
    let left : 2 ^ (into + 127) ≡ 2 ^ into * 2 ^ 127 = pow-add 2 into 127 in
    let right : 2 ^ scale ≡ 2 ^ other * 2 ^ more = ap (λ (k : ℕ). 2 ^ k) (sym sum) ∙ pow-add 2 other more in
    let a : y * 2 ^ into * 2 ^ 127 ≡ y * (2 ^ into * 2 ^ 127) = omega arith in
    let b : n * (2 ^ other * 2 ^ more) * 2 ^ quantum ≡ n * 2 ^ more * (2 ^ quantum * 2 ^ other) = omega arith in
    a ∙ ap (λ (k : ℕ). y * k) (sym left) ∙ e ∙ ap (λ (k : ℕ). n * k * 2 ^ quantum) right ∙ b

pub kept_element : (element : ElementFormat) (g : Format) (mode : Round) (scale other more code again : ℕ)
    (value : Datum) (flag status : ℕ) → other + more ≡ scale → (exact : IsExactlyScaled element g scale code value flag)
    → IsQuotientBy element g mode (2 ^ other) (2 ^ 127) value again status
    → IsOnGrid (format_of_element element).precision exact.number
    → exact.number * 2 ^ more ≤ largest (format_of_element element) → IsKept element scale other code again status
kept_element element g mode scale other more code again value flag status sum exact q grid within =
    let f = format_of_element element in
    let b = exact.negative in
    let n = exact.number in
    let y = exact.quanta in
    let point : ℕ = n * 2 ^ more in
    let amount : ℕ = y * 2 ^ f.scale * 2 ^ 127 in
    let parts : ℕ = 2 ^ g.scale * 2 ^ other in
    let q' = subst (λ (x : Datum). IsQuotientBy element g mode (2 ^ other) (2 ^ 127) x again status) exact.value_is q in
    let h : IsElement element mode b amount parts again status = q'.1 in
    let some : 0 < parts = mul-pos (pow_pos g.scale) (pow_pos other) in
    let is : amount ≡ point * parts = same_quotient y n f.scale g.scale scale other more sum exact.same in
    let grid' = moved_on_grid f.precision n more grid in
    let pick : h.pick ≡ point = pick_unique f.precision mode b amount parts h.pick point h.is_pick
    (exact_is_picked f.precision mode b point amount parts some grid' is) in
    let exactly = exact_delivered f mode b point amount parts some grid' within is in
    let picks = pick_unique f.precision mode b amount parts h.pick exactly.pick h.is_pick exactly.is_pick in
    let off : ltb (largest f) point ≡ false = le-ltb (largest f) point within in
    let power : 2 ^ scale ≡ 2 ^ other * 2 ^ more = ap (λ (k : ℕ). 2 ^ k) (sym sum) ∙ pow-add 2 other more in
    record {
      negative = b;
      number = n;
      moved = point;
      element_is = exact.element_is;
      again_is = h.value_is ∙ ap (λ (p : ℕ). saturated_value f b p) pick ∙ rw off refl;
      same = let z : n * 2 ^ more * 2 ^ other ≡ n * (2 ^ other * 2 ^ more) = omega arith in
          z ∙ ap (λ (k : ℕ). n * k) (sym power);
      status_is = h.status_is ∙ ap (λ (p : ℕ). delivered_status f mode b amount parts p) picks ∙ sym exactly.status_is;
    }

-- an element that is quantized once more by the same scale has the same number
pub same_element : (element : ElementFormat) (scale other code again status : ℕ) → other ≡ scale
    → IsKept element scale other code again status → element_datum element again ≡ element_datum element code
same_element element scale other code again status e k =
    let same : k.moved * 2 ^ scale ≡ k.number * 2 ^ scale = ap (λ (n : ℕ). k.moved * 2 ^ n) (sym e) ∙ k.same in
    k.again_is ∙ ap (λ (n : ℕ). finite k.negative n)
    (eq_of_mul-eq-mul_right (2 ^ scale) (pow_pos scale) k.moved k.number same) ∙ sym k.element_is
