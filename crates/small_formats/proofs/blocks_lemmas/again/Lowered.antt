-- The scale of a block that is quantized again: as many binades lower as its greatest element is below the binade of
-- the largest number, but not below the least scale.
use Rattle.std.proofs.Common.{◌≡◌, ℕ, zero, suc, ◌+◌, ◌-◌, ◌*◌, ◌^◌, ◌<◌, ◌≤◌, ap}
use Rattle.std.proofs.Common.{◌∙◌, subst, ⊎_elim, arith, ℤ, pos, ◌+ℤ◌, ◌-ℤ◌, min}
use Rattle.std.proofs.Math.Nat.{mul-lt-mul_of_pos_right}
use Rattle.std.proofs.lemmas.{Bool.MatchBool-at_false, Bool.MatchBool-at_true, Bool.eq-eqb, Nat.pow-add, Nat.pow_pos}
use Rattle.apfloat_model.specs.{arithmetic.Exact.up, formats.Format.Format, formats.Format.largest, formats.Log.log2}
use Rattle.apfloat_model.specs.rounding.Grid.{IsOnGrid}
use Rattle.apfloat_model.proofs.general.{Choices.not_zero, Logarithms.log2_bounds}
use Rattle.apfloat_model.proofs.general.Powers.{both_above_zero, both_zero, exponent_between, twice_power}
use Rattle.round_to_odd.proofs.OddPoints.{moved_on_grid}
use Rattle.small_formats.specs.blocks.{Again.HasPlace, Elements.format_of_element, Elements.max_exp}
use Rattle.small_formats.specs.blocks.MxScales.{IsBlockScale, IsScaleOfNumber}
use Rattle.small_formats.specs.declared.blocks.elements.ElementFormat.{ElementFormat}
use Rattle.small_formats.specs.declared.blocks.elements.ElementFormat.TheVariants.{E5M2, E4M3FN, E3M2FN, E2M3FN, E2M1FN}
use Rattle.small_formats.proofs.blocks_lemmas.again.Binades.{below_again, clamped_again, same_place, within_top}
use Rattle.small_formats.proofs.blocks_lemmas.{again.Fifteens.moved_there, again.Fifteens.top_cases, exact.Rooms.short}

-- `more` is how many binades the elements move up
pub record IsLowered (element : ElementFormat) (scale greatest other : ℕ) : Type 0 where
  pub more : ℕ
  pub sum : other + more ≡ scale
  pub below : greatest * 2 ^ more < 2 ^ ((format_of_element element).scale + max_exp element + 1)
  pub top : 2 ^ ((format_of_element element).scale + max_exp element) ≤ greatest → more ≡ 0

lowered_number : (element : ElementFormat) (g : Format) (scale greatest magnitude other : ℕ) → scale ≤ 254
    → 0 < greatest → greatest < 2 ^ ((format_of_element element).scale + max_exp element + 1)
    → magnitude * 2 ^ ((format_of_element element).scale + 127) ≡ greatest * 2 ^ (scale + g.scale)
    → IsScaleOfNumber element g magnitude other → IsLowered element scale greatest other
lowered_number element g scale greatest magnitude other least some within same s =
    let f = format_of_element element in
    let end : ℕ = f.scale + max_exp element in
    let place : ℕ = log2 greatest in
    let bounds = log2_bounds greatest some in
    let high : greatest < 2 ^ (place + 1) = omega (arith, bounds, twice_power place) in
    let log = s.is_logarithm in
    let at : log.place + (f.scale + 127) ≡ place + (scale + g.scale) = same_place magnitude greatest log.place place
    (f.scale + 127) (scale + g.scale) log.low log.high bounds.0 high same in
    let top : place ≤ end = exponent_between greatest place end bounds.0 within in
    let lower : ℕ = end - place in
    let code : other ≡ scale - lower = s.code_is ∙ ap (λ (e : ℤ). min (up (e -ℤ pos (max_exp element) +ℤ pos 127)) 254)
    log.is ∙ clamped_again log.place g.scale (max_exp element) scale lower (omega (arith, at, top)) least in
    let more : ℕ = scale - other in
    let few : more ≤ lower = omega (arith, code) in
    let ends : place + lower + 1 ≡ end + 1 = omega (arith, top) in
    record {
      more = more;
      sum = omega (arith, code);
      below = subst (λ (n : ℕ). greatest * 2 ^ more < 2 ^ n) ends (below_again greatest place more lower high few);
      top = λ low.
          let reached : end ≤ place = exponent_between greatest end place low high in
          omega (arith, reached, few);
    }

-- zeros have the least scale
lowered_zero : (element : ElementFormat) (scale other : ℕ) → other ≡ 0 → IsLowered element scale 0 other
lowered_zero element scale other e =
    let end : ℕ = (format_of_element element).scale + max_exp element in
    record {
      more = scale;
      sum = omega (arith, e);
      below = let some = pow_pos (end + 1) in omega (arith, some);
      top = λ low. let some = pow_pos end in absurd (omega (arith, low, some));
    }

pub lowered : (element : ElementFormat) (g : Format) (scale greatest magnitude other : ℕ) → scale ≤ 254
    → greatest < 2 ^ ((format_of_element element).scale + max_exp element + 1)
    → magnitude * 2 ^ ((format_of_element element).scale + 127) ≡ greatest * 2 ^ (scale + g.scale)
    → IsBlockScale element g magnitude other → IsLowered element scale greatest other
lowered element g scale zero magnitude other least within same h =
    let none = both_zero magnitude ((format_of_element element).scale + 127) (scale + g.scale) same in
    lowered_zero element scale other (MatchBool-at_true (other ≡ 0) _ (eq-eqb magnitude 0 none) h)
lowered element g scale (suc n) magnitude other least within same h =
    let some : 0 < magnitude = both_above_zero (suc n) magnitude ((format_of_element element).scale + 127)
    (scale + g.scale) same (omega arith) in
    lowered_number element g scale (suc n) magnitude other least (omega arith) within same
    (MatchBool-at_false _ (IsScaleOfNumber element g magnitude other) (not_zero magnitude some) h)

-- ---- the largest number

-- each number of the element format is below the end of its exponents
pub below_end : (element : ElementFormat) (n : ℕ) → n ≤ largest (format_of_element element)
    → n < 2 ^ ((format_of_element element).scale + max_exp element + 1)
below_end element n within =
    let f = format_of_element element in
    let s = short element in
    let few : 2 ^ f.precision - 1 < 2 ^ f.precision = omega (arith, pow_pos f.precision) in
    let less = mul-lt-mul_of_pos_right few (pow_pos f.span) in
    let split : 2 ^ (f.precision + f.span) ≡ 2 ^ f.precision * 2 ^ f.span = pow-add 2 f.precision f.span in
    let same : 2 ^ (f.precision + f.span) ≡ 2 ^ (f.scale + max_exp element + 1) = ap (λ (k : ℕ). 2 ^ k) s.ends in
    omega (arith, within, s.most, less, split, same)

-- the greatest element, moved up, is a number of the format
pub moved_within : (element : ElementFormat) (scale greatest more : ℕ)
    → IsOnGrid (format_of_element element).precision greatest
    → greatest * 2 ^ more < 2 ^ ((format_of_element element).scale + max_exp element + 1) → more ≤ scale
    → HasPlace element scale greatest → greatest * 2 ^ more ≤ largest (format_of_element element)
moved_within E5M2 scale greatest more grid below few has =
    within_top 3 29 (greatest * 2 ^ more) (moved_on_grid 3 greatest more grid) below
moved_within E4M3FN scale greatest more grid below few has =
    ⊎_elim
    (λ (l : greatest * 2 ^ more ≤ 14 * 2 ^ 14). l)
    (λ (e : greatest * 2 ^ more ≡ 15 * 2 ^ 14).
    let t = moved_there greatest more e in
    let low : t.0 + scale < 14 = has t.0 t.1 in
    absurd (omega (arith, low, t.2, few)))
    (top_cases (greatest * 2 ^ more) (moved_on_grid 4 greatest more grid) below)
moved_within E3M2FN scale greatest more grid below few has =
    within_top 3 6 (greatest * 2 ^ more) (moved_on_grid 3 greatest more grid) below
moved_within E2M3FN scale greatest more grid below few has =
    within_top 4 2 (greatest * 2 ^ more) (moved_on_grid 4 greatest more grid) below
moved_within E2M1FN scale greatest more grid below few has =
    within_top 2 2 (greatest * 2 ^ more) (moved_on_grid 2 greatest more grid) below
