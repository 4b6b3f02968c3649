-- The nearest multiple of a divisor, and remainders in other units.
use Rattle.std.proofs.Common.{◌≡◌, ℕ, Bool, true, false, not, cond, eqb, ◌+◌, ◌-◌, ◌*◌, ◌/◌, ◌%◌, ◌^◌, ◌<◌, ◌≤◌, sym}
use Rattle.std.proofs.Common.{refl, ap, ◌∙◌, subst, ⊎_elim, arith, ℤ, pos, ◌+ℤ◌}
use Rattle.std.proofs.Math.{Bool.beq, Nat.lt_of_mul-lt-mul_right}
use Rattle.std.proofs.Math.Nat.{eq_of_mul-eq-mul_right, mod-lt, mod-add-div', mul-div-mul_right, div-one}
use Rattle.std.proofs.lemmas.{Nat.pow-add, Nat.pow_pos, Int.ints}
use Rattle.std.proofs.lemmas.Bool.{cases_lt, le-ltb, lt-ltb, ne_eqb, false≢true}
use Rattle.apfloat_model.specs.declared.kinds.{NonfiniteBehavior.NonfiniteBehavior, Round.TheVariants.NearestTiesToEven}
use Rattle.apfloat_model.specs.rounding.Rounding.{takes_above, signed_quanta}
use Rattle.apfloat_model.specs.arithmetic.{Remainders.nearest_quotient, Remainders.rest_of, Exact.up, Exact.down}
use Rattle.apfloat_model.proofs.rounding.Picks.{takes_less, takes_scaled}
use Rattle.apfloat_model.proofs.general.{Powers.twice_power, Scaled.less_scaled, Choices.cond_same}
use Rattle.apfloat_arithmetic.proofs.WholeQuotients.{below_divisor}

-- whether the multiple above is the nearest
abbrev pub upper : ℕ → ℕ → Bool → Bool
upper r s odd = takes_above NearestTiesToEven false r s odd

-- scaling the rest and the divisor does not change which multiple is nearest
pub upper_level : (r d w s t : ℕ) (odd odd2 : Bool) → 0 < w → r * w ≡ s → d * w ≡ t → odd ≡ odd2
    → upper r (d - r) odd ≡ upper s (t - s) odd2
upper_level r d w s t odd odd2 p e f o =
    takes_scaled NearestTiesToEven false odd r (d - r) w p ∙ ap (λ (x : ℕ). upper (r * w) x odd) (less_scaled d r w)
    ∙ ap (λ (x : ℕ). upper x (d * w - x) odd) e ∙ ap (λ (x : ℕ). upper s (x - s) odd) f
    ∙ ap (λ (x : Bool). upper s (t - s) x) o

-- if a rest is below half of the divisor, the lower multiple is the nearest
pub lower_near : (r d : ℕ) (odd : Bool) → 2 * r < d → false ≡ upper r (d - r) odd
lower_near r d odd l = let m : r < d - r = omega arith in sym (takes_less NearestTiesToEven false odd r (d - r) m)

-- a number at least two places below the divisor is below half of it
pub far_below : (precision r p t q : ℕ) → 0 < precision → r < 2 ^ precision → 2 ^ (precision - 1) ≤ t → p + 1 < q
    → 2 * (r * 2 ^ p) < t * 2 ^ q
far_below precision r p t q z f l g =
    let a : r * 2 ^ (p + 1) < t * 2 ^ q = below_divisor precision r (p + 1) t q z f l g in
    let e : r * 2 ^ (p + 1) ≡ r * (2 * 2 ^ p) = ap (λ (x : ℕ). r * x) (twice_power p) in
    omega arith

-- twice a significand is that significand, one place higher
pub one_below : (t p q : ℕ) → q ≡ p + 1 → 2 * t * 2 ^ p ≡ t * 2 ^ q
one_below t p q e =
    let f : t * 2 ^ q ≡ t * 2 ^ (p + 1) = ap (λ (x : ℕ). t * 2 ^ x) e in
    let g : t * 2 ^ (p + 1) ≡ t * (2 * 2 ^ p) = ap (λ (x : ℕ). t * x) (twice_power p) in
    omega arith

-- a rest is less than the divisor if their scaled values are
pub digits_less : (r d w s t : ℕ) → r * w ≡ s → d * w ≡ t → s < t → r < d
digits_less r d w s t e f l = let m : r * w < d * w = omega arith in lt_of_mul-lt-mul_right w m

-- ---- other units

-- scaling the dividend and the divisor scales the rest
pub rest_scaled : (a b w : ℕ) → 0 < w → a * w % (b * w) ≡ a % b * w
rest_scaled a b w p =
    let q : a * w / (b * w) ≡ a / b = mul-div-mul_right a b p in
    let e : a * w % (b * w) + a * w / (b * w) * (b * w) ≡ a * w = mod-add-div' (a * w) (b * w) in
    let f : a * w / (b * w) * (b * w) ≡ a / b * (b * w) = ap (λ (x : ℕ). x * (b * w)) q in
    let g : (a % b + a / b * b) * w ≡ a * w = ap (λ (x : ℕ). x * w) (mod-add-div' a b) in
    omega arith

-- scaling the dividend and the divisor does not change the quotient
pub quotient_scaled : (a b w : ℕ) → 0 < w → a * w / (b * w) ≡ a / b
quotient_scaled a b w p = mul-div-mul_right a b p

-- an operand in quanta and its significand at a place, in units of 2 ^ -low quanta
pub operand_scaled : (place low n s t : ℕ) (e : ℤ) → t ≡ s → pos place ≡ (e +ℤ pos low)
    → n * 2 ^ down e ≡ s * 2 ^ up e → t * 2 ^ place ≡ n * 2 ^ low
operand_scaled place low n s t e z h k =
    let g : place + down e ≡ up e + low = omega (arith, ints) in
    let a : 2 ^ place * 2 ^ down e ≡ 2 ^ up e * 2 ^ low = sym (pow-add 2 place (down e)) ∙ ap (λ (x : ℕ). 2 ^ x) g ∙
    pow-add 2 (up e) low in
    let b : s * (2 ^ place * 2 ^ down e) ≡ s * (2 ^ up e * 2 ^ low) = ap (λ (x : ℕ). s * x) a in
    let c : n * 2 ^ down e * 2 ^ low ≡ s * 2 ^ up e * 2 ^ low = ap (λ (x : ℕ). x * 2 ^ low) k in
    let d : s * 2 ^ place * 2 ^ down e ≡ n * 2 ^ low * 2 ^ down e = omega arith in
    let f : s * 2 ^ place ≡ n * 2 ^ low =
    eq_of_mul-eq-mul_right (2 ^ down e) (pow_pos (down e)) (s * 2 ^ place) (n * 2 ^ low) d in
    ap (λ (x : ℕ). x * 2 ^ place) z ∙ f

-- the remainder of scaled operands is the scaled remainder
pub rest_in : (x y a b w r : ℕ) → 0 < w → x ≡ a * w → y ≡ b * w → r ≡ x % y → r ≡ a % b * w
rest_in x y a b w r p e f h = h ∙ ap (λ (z : ℕ). z % y) e ∙ ap (λ (z : ℕ). a * w % z) f ∙ rest_scaled a b w p

-- the quotient of scaled operands is that of the operands
pub quotient_in : (x y a b w : ℕ) → 0 < w → x ≡ a * w → y ≡ b * w → x / y ≡ a / b
quotient_in x y a b w p e f = ap (λ (z : ℕ). z / y) e ∙ ap (λ (z : ℕ). a * w / z) f ∙ quotient_scaled a b w p

-- ---- the rest, with its sign

-- the rest of a multiple that is not above the dividend has the dividend's sign
pub rest_within : (kind : NonfiniteBehavior) (negative : Bool) (a taken n : ℕ) → taken ≤ a → a - taken ≡ n
    → signed_quanta kind negative n ≡ rest_of kind negative a taken
rest_within kind negative a taken n l e =
    ap (λ (x : ℕ). signed_quanta kind negative x) (sym e) ∙
    sym (ap (λ (x : Bool). cond x (signed_quanta kind (not negative) (taken - a))
    (signed_quanta kind negative (a - taken))) (le-ltb a taken l))

-- the rest of a multiple above the dividend has the opposite sign
pub rest_past : (kind : NonfiniteBehavior) (negative : Bool) (a taken n : ℕ) → a < taken → taken - a ≡ n
    → signed_quanta kind (not negative) n ≡ rest_of kind negative a taken
rest_past kind negative a taken n l e =
    ap (λ (x : ℕ). signed_quanta kind (not negative) x) (sym e) ∙
    sym (ap (λ (x : Bool). cond x (signed_quanta kind (not negative) (taken - a))
    (signed_quanta kind negative (a - taken))) (lt-ltb a taken l))

-- by the truncated quotient, the remainder is the rest of the magnitudes with the dividend's sign
pub truncated_value : (kind : NonfiniteBehavior) (negative : Bool) (a b n : ℕ) → n ≡ a % b
    → signed_quanta kind negative n ≡ rest_of kind negative a (b * (a / b))
truncated_value kind negative a b n e =
    let m = mod-add-div' a b in
    let l : b * (a / b) ≤ a = omega arith in
    rest_within kind negative a (b * (a / b)) n l (omega arith)

-- comparing the distances from both multiples is comparing the rest with the divisor less the rest
upper_is : (a b : ℕ) → upper (a - a / b * b) ((a / b + 1) * b - a) (eqb (a / b / (a / b + 1 - a / b) % 2) 1)
    ≡ upper (a % b) (b - a % b) (eqb (a / b % 2) 1)
upper_is a b =
    let m = mod-add-div' a b in
    let e : a - a / b * b ≡ a % b = omega arith in
    let f : (a / b + 1) * b - a ≡ b - a % b = omega arith in
    let g : a / b + 1 - a / b ≡ 1 = omega arith in
    let h : a / b / (a / b + 1 - a / b) ≡ a / b = ap (λ (x : ℕ). a / b / x) g ∙ div-one (a / b) in
    ap (λ (x : ℕ). upper x ((a / b + 1) * b - a) (eqb (a / b / (a / b + 1 - a / b) % 2) 1)) e
    ∙ ap (λ (x : ℕ). upper (a % b) x (eqb (a / b / (a / b + 1 - a / b) % 2) 1)) f
    ∙ ap (λ (x : ℕ). upper (a % b) (b - a % b) (eqb (x % 2) 1)) h

-- the nearest quotient is the truncated one, or one more if the upper multiple is nearest
nearest_is : (a b : ℕ) (past : Bool) → past ≡ upper (a % b) (b - a % b) (eqb (a / b % 2) 1)
    → nearest_quotient a b ≡ cond (eqb (a % b) 0) (a / b) (cond past (a / b + 1) (a / b))
nearest_is a b past e =
    ap (λ (x : Bool). cond (eqb (a % b) 0) (a / b) (cond x (a / b + 1) (a / b))) (upper_is a b ∙ sym e)

-- the upper multiple is nearest only if the rest is at least half of the divisor
pub upper_far : (r d : ℕ) (odd : Bool) → true ≡ upper r (d - r) odd → d - r ≤ r
upper_far r d odd e =
    ⊎_elim (λ (l : r < d - r). absurd (false≢true (sym (takes_less NearestTiesToEven false odd r (d - r) l) ∙ sym e)))
    (λ (l : d - r ≤ r). l) (cases_lt r (d - r))

-- if the upper multiple is nearest, the remainder is the distance from it, with the opposite sign
nearest_past : (kind : NonfiniteBehavior) (negative : Bool) (a b n : ℕ) → 0 < b
    → true ≡ upper (a % b) (b - a % b) (eqb (a / b % 2) 1) → n ≡ b - a % b
    → signed_quanta kind (not negative) n ≡ rest_of kind negative a (b * nearest_quotient a b)
nearest_past kind negative a b n p t e =
    let m = mod-add-div' a b in
    let l : a % b < b = mod-lt a p in
    let f : b - a % b ≤ a % b = upper_far (a % b) b (eqb (a / b % 2) 1) t in
    let z : a % b ≡ 0 → ⊥ = omega arith in
    let q : nearest_quotient a b ≡ a / b + 1 = nearest_is a b true t ∙
    ap (λ (x : Bool). cond x (a / b) (a / b + 1)) (ne_eqb (a % b) 0 z) in
    let g : b * nearest_quotient a b ≡ b * (a / b + 1) = ap (λ (x : ℕ). b * x) q in
    let h : a < b * (a / b + 1) = omega arith in
    subst (λ (x : ℕ). signed_quanta kind (not negative) n ≡ rest_of kind negative a x) (sym g)
    (rest_past kind negative a (b * (a / b + 1)) n h (omega arith))

-- if the lower multiple is nearest, the remainder is the rest, with the dividend's sign
nearest_within : (kind : NonfiniteBehavior) (negative : Bool) (a b n : ℕ)
    → false ≡ upper (a % b) (b - a % b) (eqb (a / b % 2) 1) → n ≡ a % b
    → signed_quanta kind negative n ≡ rest_of kind negative a (b * nearest_quotient a b)
nearest_within kind negative a b n t e =
    let q : nearest_quotient a b ≡ a / b = nearest_is a b false t ∙ sym (cond_same (eqb (a % b) 0) (a / b)) in
    let g : b * nearest_quotient a b ≡ b * (a / b) = ap (λ (x : ℕ). b * x) q in
    subst (λ (x : ℕ). signed_quanta kind negative n ≡ rest_of kind negative a x) (sym g)
    (truncated_value kind negative a b n e)

-- the remainder is the distance from the nearest multiple, with the opposite sign if that multiple is above
pub nearest_value : (kind : NonfiniteBehavior) (negative past : Bool) (a b n : ℕ) → 0 < b
    → past ≡ upper (a % b) (b - a % b) (eqb (a / b % 2) 1) → n ≡ cond past (b - a % b) (a % b)
    → signed_quanta kind (not (beq negative past)) n ≡ rest_of kind negative a (b * nearest_quotient a b)
nearest_value kind true true a b n p t e = nearest_past kind true a b n p t e
nearest_value kind false true a b n p t e = nearest_past kind false a b n p t e
nearest_value kind true false a b n p t e = nearest_within kind true a b n t e
nearest_value kind false false a b n p t e = nearest_within kind false a b n t e

-- scaling the operands does not change which multiple is nearest
pub past_in : (past : Bool) (x y a b w : ℕ) → 0 < w → x ≡ a * w → y ≡ b * w
    → past ≡ upper (x % y) (y - x % y) (eqb (x / y % 2) 1) → past ≡ upper (a % b) (b - a % b) (eqb (a / b % 2) 1)
past_in past x y a b w p e f h =
    let r : a % b * w ≡ x % y = sym (rest_in x y a b w (x % y) p e f refl) in
    let o : eqb (a / b % 2) 1 ≡ eqb (x / y % 2) 1 = sym (ap (λ (z : ℕ). eqb (z % 2) 1) (quotient_in x y a b w p e f)) in
    h ∙ sym (upper_level (a % b) b w (x % y) y (eqb (a / b % 2) 1) (eqb (x / y % 2) 1) p r (sym f) o)

-- scaling the operands scales the distance from the nearest multiple
pub distance_in : (past : Bool) (x y a b w d : ℕ) → 0 < w → x ≡ a * w → y ≡ b * w
    → d ≡ cond past (y - x % y) (x % y) → d ≡ cond past (b - a % b) (a % b) * w
distance_in true x y a b w d p e f h =
    let r : x % y ≡ a % b * w = rest_in x y a b w (x % y) p e f refl in
    let k : (b - a % b) * w ≡ b * w - a % b * w = less_scaled b (a % b) w in
    omega arith
distance_in false x y a b w d p e f h = h ∙ rest_in x y a b w (x % y) p e f refl
