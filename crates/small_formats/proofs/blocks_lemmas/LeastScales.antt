-- The scale by the rule `Floor` in numbers, and the least scales of the other rules: they are that one, or the next.
use Rattle.std.proofs.{Math.Nat.pow-le-pow_right, lemmas.Bool.false≢true}
use Rattle.std.proofs.Common.{◌≡◌, ℕ, zero, suc, ◌+◌, ◌-◌, ◌*◌, ◌%◌, ◌^◌, ◌<◌, ◌≤◌, ◌⊎◌, true, false, leb, ltb, inl}
use Rattle.std.proofs.Common.{inr, sym, ap, ◌∙◌, Bool, not, cond, if◌then◌else◌, eqb, bit_and, lit<, ℤ, pos, ◌+ℤ◌, ◌-ℤ◌}
use Rattle.std.proofs.Common.{min, subst, ⊎_elim, arith, refl, lit≤}
use Rattle.std.proofs.Math.Nat.{lt_of_mul-lt-mul_right, mul-le-mul_right, mul-lt-mul_of_pos_right, mul-pos}
use Rattle.std.proofs.lemmas.{Bool.lt-leb, Bool.lt-ltb, Bool.ne_eqb, Int.ints, Nat.pow-add, Nat.pow_pos}
use Rattle.std.proofs.lemmas.Bool.{MatchBool-at_false, MatchBool-at_true, cases_eq, cases_lt, eq-eqb, le-leb, le-ltb}
use Rattle.apfloat_model.specs.{order.Classes.quanta_of, rounding.Rounding.IsPick, rounding.Rounding.is_tiny}
use Rattle.apfloat_model.specs.arithmetic.Exact.{up}
use Rattle.apfloat_model.specs.declared.kinds.Round.TheVariants.{NearestTiesToEven, TowardPositive}
use Rattle.apfloat_model.specs.formats.{Datum.finite, Format.Format, Format.largest}
use Rattle.apfloat_model.specs.rounding.{Rounding.raises_overflow, Rounding.takes_above, Enclosure.IsEnclosed}
use Rattle.apfloat_model.proofs.arithmetic.SingleScalings.{up_far, up_le}
use Rattle.apfloat_model.proofs.general.Choices.{not_zero}
use Rattle.apfloat_model.proofs.general.Powers.{pow3, twice_half, twice_power, two_pos}
use Rattle.apfloat_model.proofs.rounding.{FarMagnitudes.largest_on_grid, Laws.pick_within, Neighbours.multiple_on_grid}
use Rattle.apfloat_model.proofs.rounding.Picks.{inexact_pick, pick_unique}
use Rattle.small_formats.specs.{Conversions.saturated_value, declared.blocks.elements.ElementFormat.ElementFormat}
use Rattle.small_formats.specs.declared.blocks.elements.ElementFormat.TheVariants.{E5M2, E4M3FN, E3M2FN, E2M3FN, E2M1FN}
use Rattle.small_formats.specs.declared.blocks.mx_scales.ScaleRule.{ScaleRule}
use Rattle.small_formats.specs.declared.blocks.mx_scales.ScaleRule.TheVariants.{Floor, Ceil, Even}
use Rattle.small_formats.specs.blocks.Elements.{IsElement, element_datum, format_of_element, max_exp, power_code, width}
use Rattle.small_formats.specs.blocks.MxScales.{IsBlockScale, IsLeastScale, IsScaleBy, IsScaleOfNumber, IsWithinNext}
use Rattle.small_formats.specs.blocks.MxScales.{clips, highest_power, last_middle, outgrows}
use Rattle.small_formats.proofs.blocks_lemmas.{Fractions.element_fraction, Powers.scale_quanta}
use Rattle.small_formats.proofs.blocks_lemmas.{ElementsOnce.code_of_element_once, again.Lowered.below_end}

-- ---- clamping

-- what a clamped code says of the exponent of the greatest magnitude
pub record IsClamped (place scale top code : ℕ) : Type 0 where
  pub within : code ≤ 254
  pub low : 0 < code → code + scale + top ≤ place + 127
  pub high : code < 254 → place + 127 ≤ code + scale + top

pub clamped : (place scale top code : ℕ) → code ≡ min (up (pos place -ℤ pos scale -ℤ pos top +ℤ pos 127)) 254
    → IsClamped place scale top code
clamped place scale top code e =
    let z : ℤ = pos place -ℤ pos scale -ℤ pos top +ℤ pos 127 in
    record {
      within = grind (arith, e);
      low = λ some.
          ⊎_elim
          (λ (l : place + 127 < code + scale + top).
          let most = up_le z (code - 1) (omega (arith, ints, l, some)) in
          absurd (let k : code ≤ code - 1 = grind (arith, e, most) in omega (arith, k, some)))
          (λ l. l)
          (cases_lt (place + 127) (code + scale + top));
      high = λ few.
          ⊎_elim
          (λ (l : code + scale + top < place + 127).
          let least = (up_far z (code + 1) (omega (arith, ints, l))).0 in
          absurd (let k : code + 1 ≤ code = grind (arith, e, least, few) in omega (arith, k)))
          (λ l. l)
          (cases_lt (code + scale + top) (place + 127));
    }

-- ---- the rule `Floor`

-- the binade of the greatest magnitude, and its scale
pub record HasScaleAt (element : ElementFormat) (f : Format) (greatest code : ℕ) : Type 0 where
  pub some : 0 < greatest
  pub place : ℕ
  pub low : 2 ^ place ≤ greatest
  pub high : greatest < 2 ^ (place + 1)
  pub is : IsClamped place f.scale (max_exp element) code

number_scale : (element : ElementFormat) (f : Format) (greatest code : ℕ) → 0 < greatest
    → IsScaleOfNumber element f greatest code → HasScaleAt element f greatest code
number_scale element f greatest code some s =
    let log = s.is_logarithm in
    record {
      some = some;
      place = log.place;
      low = log.low;
      high = log.high;
      is = clamped log.place f.scale (max_exp element) code
          (s.code_is ∙ ap (λ (e : ℤ). min (up (e -ℤ pos (max_exp element) +ℤ pos 127)) 254) log.is);
    }

pub floor_of : (element : ElementFormat) (f : Format) (greatest code : ℕ) → IsBlockScale element f greatest code
    → ((greatest ≡ 0) × (code ≡ 0)) ⊎ HasScaleAt element f greatest code
floor_of element f zero code h = inl (
  refl,
  MatchBool-at_true (code ≡ 0) (IsScaleOfNumber element f 0 code)
      (eq-eqb 0 0 refl) h,
)
floor_of element f (suc n) code h =
    inr (number_scale element f (suc n) code (omega arith)
    (MatchBool-at_false _ (IsScaleOfNumber element f (suc n) code) (not_zero (suc n) (omega arith)) h))

-- by a lower scale the greatest magnitude is at least twice 2 to the power of `max_exp`
pub past_lower : (element : ElementFormat) (f : Format) (greatest code other : ℕ) → IsBlockScale element f greatest code
    → other < code
    → 2 * highest_power element * (2 ^ f.scale * 2 ^ other) ≤ greatest * 2 ^ (format_of_element element).scale * 2 ^ 127
past_lower element f greatest code other h l = by_place (floor_of element f greatest code h)
  where
    by_place : ((greatest ≡ 0) × (code ≡ 0)) ⊎ HasScaleAt element f greatest code
        → 2 * highest_power element * (2 ^ f.scale * 2 ^ other)
        ≤ greatest * 2 ^ (format_of_element element).scale * 2 ^ 127
    by_place (inl e) = let none = e.1 in absurd (omega (arith, none, l))
    by_place (inr at) =
        let s : ℕ = (format_of_element element).scale in
        let top : ℕ = s + max_exp element in
        let within = at.is.low (omega (arith, l)) in
        let low : 2 ^ at.place * 2 ^ s ≤ greatest * 2 ^ s = mul-le-mul_right (2 ^ s) at.low in
        let more : 2 ^ at.place * 2 ^ s * 2 ^ 127 ≤ greatest * 2 ^ s * 2 ^ 127 = mul-le-mul_right (2 ^ 127) low in
        let most : 2 ^ (top + 1 + (f.scale + other)) ≤ 2 ^ (at.place + s + 127) =
        pow-le-pow_right two_pos (omega (arith, within, l)) in
        let whole : 2 ^ (top + 1 + (f.scale + other)) ≡ 2 * 2 ^ top * (2 ^ f.scale * 2 ^ other) =
        pow-add 2 (top + 1) (f.scale + other) ∙ ap (λ (n : ℕ). n * 2 ^ (f.scale + other)) (twice_power top)
        ∙ ap (λ (n : ℕ). 2 * 2 ^ top * n) (pow-add 2 f.scale other) in
        omega (arith, more, pow3 at.place s 127, most, whole)

-- by the next one it is below that power
pub below_next : (element : ElementFormat) (f : Format) (greatest code : ℕ) → code < 254
    → IsBlockScale element f greatest code → IsWithinNext element f greatest code
below_next element f greatest code l h = by_place (floor_of element f greatest code h)
  where
    by_place : ((greatest ≡ 0) × (code ≡ 0)) ⊎ HasScaleAt element f greatest code → IsWithinNext element f greatest code
    by_place (inl e) =
        let some = mul-pos (pow_pos ((format_of_element element).scale + max_exp element))
        (mul-pos (pow_pos f.scale) (pow_pos (code + 1))) in
        subst (λ (n : ℕ). IsWithinNext element f n code) (sym e.0) (omega (arith, some))
    by_place (inr at) =
        let s : ℕ = (format_of_element element).scale in
        let top : ℕ = s + max_exp element in
        let high : greatest * 2 ^ s < 2 ^ (at.place + 1) * 2 ^ s = mul-lt-mul_of_pos_right at.high (pow_pos s) in
        let less = mul-lt-mul_of_pos_right high (pow_pos 127) in
        let split = pow3 (at.place + 1) s 127 in
        let most : 2 ^ (at.place + 1 + s + 127) ≤ 2 ^ (top + (f.scale + (code + 1))) =
        pow-le-pow_right two_pos (omega (arith, at.is.high l)) in
        let whole : 2 ^ (top + (f.scale + (code + 1))) ≡ 2 ^ top * (2 ^ f.scale * 2 ^ (code + 1)) =
        pow-add 2 top (f.scale + (code + 1)) ∙ ap (λ (n : ℕ). 2 ^ top * n) (pow-add 2 f.scale (code + 1)) in
        omega (arith, less, split, most, whole)

-- ---- the least scale by which the greatest magnitude is not past a bound

-- each lower scale is past it, and the next one is not
pub record HasBounds (is_past : ℕ → Bool) (code : ℕ) : Type 0 where
  pub low : (other : ℕ) → other < code → is_past other ≡ true
  pub next : code < 254 → is_past (code + 1) ≡ false

pub least_here : (is_past : ℕ → Bool) (code : ℕ) → HasBounds is_past code → code ≤ 254
    → (code ≡ 254) ⊎ (is_past code ≡ false) → IsLeastScale is_past code
least_here is_past code has within enough = record { within = within; enough = enough; least = has.low }

pub least_next : (is_past : ℕ → Bool) (code : ℕ) → HasBounds is_past code → code < 254 → is_past code ≡ true
    → IsLeastScale is_past (code + 1)
least_next is_past code has few past =
    record {
      within = omega (arith, few);
      enough = inr (has.next few);
      least = λ other l.
          ⊎_elim
          (λ (k : other < code). has.low other k)
          (λ (k : code ≤ other).
          let same : code ≡ other = omega (arith, k, l) in
          subst (λ (n : ℕ). is_past n ≡ true) same past)
          (cases_lt other code);
    }

-- the largest number of an element format is in the binade of 2 to the power of `max_exp`
power_within : (element : ElementFormat) → highest_power element ≤ largest (format_of_element element)
power_within E5M2 = lit≤ tt
power_within E4M3FN = lit≤ tt
power_within E3M2FN = lit≤ tt
power_within E2M3FN = lit≤ tt
power_within E2M1FN = lit≤ tt

pub clips_bounds : (element : ElementFormat) (f : Format) (greatest code : ℕ) → IsBlockScale element f greatest code
    → HasBounds (clips element f greatest) code
clips_bounds element f greatest code h =
    let g = format_of_element element in
    let top : ℕ = g.scale + max_exp element in
    let end : largest g < 2 ^ (top + 1) = below_end element (largest g) (omega arith) in
    let twice : 2 ^ (top + 1) ≡ 2 * 2 ^ top = twice_power top in
    record {
      low = λ other l.
          let past = past_lower element f greatest code other h l in
          let parts : ℕ = 2 ^ f.scale * 2 ^ other in
          let less = mul-lt-mul_of_pos_right end (mul-pos (pow_pos f.scale) (pow_pos other)) in
          let same : 2 ^ (top + 1) * parts ≡ 2 * 2 ^ top * parts = ap (λ (n : ℕ). n * parts) twice in
          lt-ltb (largest g * parts) (greatest * 2 ^ g.scale * 2 ^ 127) (omega (arith, past, less, same));
      next = λ few.
          let below = below_next element f greatest code few h in
          let parts : ℕ = 2 ^ f.scale * 2 ^ (code + 1) in
          let most = mul-le-mul_right parts (power_within element) in
          le-ltb (largest g * parts) (greatest * 2 ^ g.scale * 2 ^ 127) (omega (arith, below, most));
    }

pub outgrows_bounds : (element : ElementFormat) (f : Format) (greatest code : ℕ)
    → IsBlockScale element f greatest code → HasBounds (outgrows element f greatest) code
outgrows_bounds element f greatest code h =
    let g = format_of_element element in
    let power : ℕ = 2 ^ (g.precision + 1) in
    let one : 1 ≤ 2 ^ g.precision = pow_pos g.precision in
    let twice : power ≡ 2 * 2 ^ g.precision = twice_power g.precision in
    record {
      low = λ other l.
          let parts : ℕ = 2 ^ f.scale * 2 ^ other in
          let more = mul-le-mul_right power (past_lower element f greatest code other h l) in
          let less : (power - 1) * (2 * highest_power element * parts) ≤ power * (2 * highest_power element * parts) =
          mul-le-mul_right (2 * highest_power element * parts) (omega (arith, twice)) in
          le-leb (last_middle element * parts) (greatest * 2 ^ g.scale * 2 ^ 127 * power) (omega (arith, more, less));
      next = λ few.
          let parts : ℕ = 2 ^ f.scale * 2 ^ (code + 1) in
          let less = mul-lt-mul_of_pos_right (below_next element f greatest code few h) (pow_pos (g.precision + 1)) in
          let most : power * (highest_power element * parts) ≤ 2 * (power - 1) * (highest_power element * parts) =
          mul-le-mul_right (highest_power element * parts) (omega (arith, twice, one)) in
          lt-leb (last_middle element * parts) (greatest * 2 ^ g.scale * 2 ^ 127 * power) (omega (arith, less, most));
    }

-- the largest scale is that of each rule
pub every_rule : (rule : ScaleRule) (element : ElementFormat) (f : Format) (greatest code : ℕ) → code ≡ 254
    → IsBlockScale element f greatest code → IsScaleBy rule element f greatest code
every_rule Floor element f greatest code last h = h
every_rule Ceil element f greatest code last h =
    least_here _ code (clips_bounds element f greatest code h) (omega (arith, last)) (inl last)
every_rule Even element f greatest code last h =
    least_here _ code (outgrows_bounds element f greatest code h) (omega (arith, last)) (inl last)

-- ---- what a quotient tells

-- the exponents of an element format leave room for its digits
pub roomy : (element : ElementFormat)
    → (format_of_element element).precision ≤ (format_of_element element).scale + max_exp element
roomy E5M2 = lit≤ tt
roomy E4M3FN = lit≤ tt
roomy E3M2FN = lit≤ tt
roomy E2M3FN = lit≤ tt
roomy E2M1FN = lit≤ tt

leads : (element : ElementFormat) → raises_overflow (format_of_element element) TowardPositive false ≡ true
leads E5M2 = refl
leads E4M3FN = refl
leads E3M2FN = refl
leads E2M3FN = refl
leads E2M1FN = refl

-- the flag of overflow in a status that is delivered
overflow_bit_is : (past raises exact tiny : Bool) → raises ≡ true
    → not (eqb (bit_and (if past then (if raises then 20 else 16) else (if exact then 0 else (if tiny then 24 else 16)))
    4) 0) ≡ past
overflow_bit_is true true exact tiny e = refl
overflow_bit_is false true true tiny e = refl
overflow_bit_is false true false true e = refl
overflow_bit_is false true false false e = refl
overflow_bit_is past false exact tiny e = absurd (false≢true e)

-- rounded up, a magnitude is past the largest number if it was so before
past_upward : (g : Format) (amount parts pick : ℕ) → 0 < parts
    → IsPick g.precision TowardPositive false amount parts pick → ltb (largest g) pick ≡ ltb (largest g * parts) amount
past_upward g amount parts pick some p =
    let above = p.is_above in
    ⊎_elim
    (λ (l : largest g * parts < amount).
    let over : largest g * parts < p.above * parts = let k = above.not_below in omega (arith, l, k) in
    let past : largest g < pick = subst (λ (n : ℕ). largest g < n) (sym p.is) (lt_of_mul-lt-mul_right parts over) in
    lt-ltb (largest g) pick past ∙ sym (lt-ltb (largest g * parts) amount l))
    (λ (l : amount ≤ largest g * parts).
    let within : pick ≤ largest g =
    subst (λ (n : ℕ). n ≤ largest g) (sym p.is) (above.least (largest g) (largest_on_grid g) l) in
    le-ltb (largest g) pick within ∙ sym (le-ltb (largest g * parts) amount l))
    (cases_lt (largest g * parts) amount)

-- the quotient by a scale is that by 2 ^ scale / 2 ^ 127, as its number of bfloat says
pub by_power : (x y into other scale : ℕ) → y ≡ 2 ^ (scale + 6)
    → x * 2 ^ into * 2 ^ 127 * (y * 2 ^ other) ≡ 2 ^ other * 2 ^ scale * (x * 2 ^ (133 + into))
by_power x y into other scale is =
    element_fraction x y into 133 other (2 ^ scale) (2 ^ 127)
    (sym (scale_quanta scale) ∙ ap (λ (n : ℕ). n * 2 ^ 127) (sym is))

pub overflow_is : (element : ElementFormat) (amount parts code status : ℕ) → 0 < parts
    → IsElement element TowardPositive false amount parts code status
    → not (eqb (bit_and status 4) 0) ≡ ltb (largest (format_of_element element) * parts) amount
overflow_is element amount parts code status some h =
    let g = format_of_element element in
    ap (λ (s : ℕ). not (eqb (bit_and s 4) 0)) h.status_is
    ∙ overflow_bit_is (ltb (largest g) h.pick) (raises_overflow g TowardPositive false) (eqb (h.pick * parts) amount)
    (is_tiny g TowardPositive false amount parts h.pick) (leads element)
    ∙ past_upward g amount parts h.pick some h.is_pick

-- the power of two is a number below the largest one, and has its code
record IsPowerCode (element : ElementFormat) : Type 0 where
  datum : element_datum element (power_code element) ≡ finite false (highest_power element)
  below : highest_power element < largest (format_of_element element)
  narrow : power_code element < 2 ^ width element

is_power_code : (element : ElementFormat) → IsPowerCode element
is_power_code E5M2 = record { datum = refl; below = lit< tt; narrow = lit< tt }
is_power_code E4M3FN = record { datum = refl; below = lit< tt; narrow = lit< tt }
is_power_code E3M2FN = record { datum = refl; below = lit< tt; narrow = lit< tt }
is_power_code E2M3FN = record { datum = refl; below = lit< tt; narrow = lit< tt }
is_power_code E2M1FN = record { datum = refl; below = lit< tt; narrow = lit< tt }

-- an element is that power if the magnitude is rounded to it
pub power_is : (element : ElementFormat) (pick code : ℕ) → code < 2 ^ width element
    → element_datum element code ≡ saturated_value (format_of_element element) false pick
    → eqb code (power_code element) ≡ eqb pick (highest_power element)
power_is element pick code narrow is =
    let g = format_of_element element in
    let p = is_power_code element in
    let less = p.below in
    ⊎_elim
    (λ (e : pick ≡ highest_power element).
    let off : ltb (largest g) pick ≡ false = le-ltb (largest g) pick (omega (arith, e, less)) in
    let same : element_datum element code ≡ element_datum element (power_code element) =
    is ∙ rw off refl ∙ ap (λ (n : ℕ). finite false n) e ∙ sym p.datum in
    eq-eqb code (power_code element) (code_of_element_once element code (power_code element) narrow p.narrow same)
    ∙ sym (eq-eqb pick (highest_power element) e))
    (λ (n : pick ≡ highest_power element → ⊥).
    ne_eqb code (power_code element)
    (λ e. n (picked (ltb (largest g) pick) less (sym p.datum ∙ ap (element_datum element) (sym e) ∙ is)))
    ∙ sym (ne_eqb pick (highest_power element) n))
    (cases_eq pick (highest_power element))
  where
    picked : (past : Bool) → highest_power element < largest (format_of_element element)
        → finite false (highest_power element)
        ≡ cond past (finite false (largest (format_of_element element))) (finite false pick)
        → pick ≡ highest_power element
    picked true less e = let same = ap quanta_of e in absurd (omega (arith, same, less))
    picked false less e = sym (ap quanta_of e)

-- ---- the middle below a power of two

-- to nearest, ties to even, a neighbour above an odd one is taken unless it is farther
even_takes : (x y : ℕ) → takes_above NearestTiesToEven false x y true ≡ leb y x
even_takes x y = grind arith

last_odd : (half : ℕ) → 0 < half → eqb ((2 * half - 1) % 2) 1 ≡ true
last_odd half some = grind arith

picked : (up : Bool) (m u : ℕ) → 0 < u → eqb (cond up (m + 1) m * u) ((m + 1) * u) ≡ up
picked true m u some = eq-eqb ((m + 1) * u) ((m + 1) * u) refl
picked false m u some = ne_eqb (m * u) ((m + 1) * u) (λ e. omega (arith, e, some))

-- m has all of p digits: between m and m + 1 at the place c
between : (p half m c amount parts pick : ℕ) → 2 ^ p ≡ 2 * half → m + 1 ≡ 2 * half → 0 < half → 0 < parts
    → amount < (m + 1) * 2 ^ c * parts → m * 2 ^ c * parts < amount → IsPick p NearestTiesToEven false amount parts pick
    → eqb pick ((m + 1) * 2 ^ c) ≡ leb ((2 * m + 1) * ((m + 1) * 2 ^ c) * parts) (amount * (2 * (m + 1)))
between p half m c amount parts pick double full one positive below above is =
    let u : ℕ = 2 ^ c * parts in
    let x : ℕ = amount - m * 2 ^ c * parts in
    let y : ℕ = (m + 1) * 2 ^ c * parts - amount in
    let enclosed : IsEnclosed p half m c amount parts =
    record {
      double = double;
      fits = omega (arith, double, full);
      full = inr (omega (arith, full, one));
      from = omega (arith, above);
      to = below;
    } in
    let odd : eqb (m % 2) 1 ≡ true =
    ap (λ (k : ℕ). eqb (k % 2) 1) (let e : m ≡ 2 * half - 1 = omega (arith, full) in e) ∙ last_odd half one in
    let up : Bool = takes_above NearestTiesToEven false x y (eqb (m % 2) 1) in
    let made = pick_unique p NearestTiesToEven false amount parts pick (cond up (m + 1) m * 2 ^ c) is
    (inexact_pick p NearestTiesToEven false half m c amount parts up enclosed above refl) in
    let taken : up ≡ leb y x = ap (λ (b : Bool). takes_above NearestTiesToEven false x y b) odd ∙ even_takes x y in
    ap (λ (k : ℕ). eqb k ((m + 1) * 2 ^ c)) made ∙ picked up m (2 ^ c) (pow_pos c) ∙ taken
    ∙ ⊎_elim
    (λ (l : x < y).
    let less : 2 * amount < (2 * m + 1) * u = omega (arith, l, below, above) in
    let more : 2 * amount * (m + 1) < (2 * m + 1) * u * (m + 1) = mul-lt-mul_of_pos_right less (omega arith) in
    lt-leb y x l ∙ sym (lt-leb ((2 * m + 1) * ((m + 1) * 2 ^ c) * parts) (amount * (2 * (m + 1)))
    (omega (arith, more))))
    (λ (l : y ≤ x).
    let less : (2 * m + 1) * u ≤ 2 * amount = omega (arith, l, below, above) in
    let more : (2 * m + 1) * u * (m + 1) ≤ 2 * amount * (m + 1) = mul-le-mul_right (m + 1) less in
    le-leb y x l ∙ sym (le-leb ((2 * m + 1) * ((m + 1) * 2 ^ c) * parts) (amount * (2 * (m + 1)))
    (omega (arith, more))))
    (cases_lt x y)

-- at m or below it the number above is not reached
not_above : (p m c amount parts pick : ℕ) → 0 < parts → m < 2 ^ p → amount ≤ m * 2 ^ c * parts
    → IsPick p NearestTiesToEven false amount parts pick
    → eqb pick ((m + 1) * 2 ^ c) ≡ leb ((2 * m + 1) * ((m + 1) * 2 ^ c) * parts) (amount * (2 * (m + 1)))
not_above p m c amount parts pick positive fits within is =
    let least = is.is_above.least (m * 2 ^ c) (multiple_on_grid p m c fits) within in
    let most = (pick_within p NearestTiesToEven false amount parts pick positive is).0 in
    let some = pow_pos c in
    let less : amount * (2 * (m + 1)) ≤ m * 2 ^ c * parts * (2 * (m + 1)) = mul-le-mul_right (2 * (m + 1)) within in
    let unit : 0 < (m + 1) * (2 ^ c * parts) = mul-pos (omega arith) (mul-pos some positive) in
    ne_eqb pick ((m + 1) * 2 ^ c) (λ e. omega (arith, e, least, most, some))
    ∙ sym (lt-leb ((2 * m + 1) * ((m + 1) * 2 ^ c) * parts) (amount * (2 * (m + 1))) (omega (arith, less, unit)))

-- a magnitude below a power of two is rounded to it from the middle to the last number below on
pub middle_pick : (p t amount parts pick : ℕ) → 0 < p → p ≤ t → 0 < parts → amount < 2 ^ t * parts
    → IsPick p NearestTiesToEven false amount parts pick
    → eqb pick (2 ^ t) ≡ leb ((2 ^ (p + 1) - 1) * 2 ^ t * parts) (amount * 2 ^ (p + 1))
middle_pick p t amount parts pick some room positive below is =
    let half : ℕ = 2 ^ (p - 1) in
    let c : ℕ = t - p in
    let m : ℕ = 2 * half - 1 in
    let one : 0 < half = pow_pos (p - 1) in
    let double : 2 ^ p ≡ 2 * half = sym (twice_half p some) in
    let full : m + 1 ≡ 2 * half = omega (arith, one) in
    let end : 2 ^ t ≡ (m + 1) * 2 ^ c = ap (λ (k : ℕ). 2 ^ k) (let e : t ≡ p + c = omega (arith, room) in e)
    ∙ pow-add 2 p c ∙ ap (λ (k : ℕ). k * 2 ^ c) (double ∙ sym full) in
    let power : 2 ^ (p + 1) ≡ 2 * (m + 1) = twice_power p ∙ ap (λ (k : ℕ). 2 * k) (double ∙ sym full) in
    let last : 2 ^ (p + 1) - 1 ≡ 2 * m + 1 = omega (arith, power) in
    let here : eqb pick ((m + 1) * 2 ^ c) ≡ leb ((2 * m + 1) * ((m + 1) * 2 ^ c) * parts) (amount * (2 * (m + 1))) =
    ⊎_elim
    (λ (l : m * 2 ^ c * parts < amount). between p half m c amount parts pick double full one positive
    (subst (λ (k : ℕ). amount < k * parts) end below) l is)
    (λ (l : amount ≤ m * 2 ^ c * parts). not_above p m c amount parts pick positive (omega (arith, double, full)) l is)
    (cases_lt (m * 2 ^ c * parts) amount) in
    rw (last, power, end) here
