-- The neighbours of a number of the grid, its logarithm and its fraction.
use Rattle.std.proofs.{Math.Nat.eq_of_mul-eq-mul_right, lemmas.Nat.pow-add, lemmas.Nat.pow_pos, lemmas.Int.ints}
use Rattle.std.proofs.Common.{◌≡◌, ℕ, ◌+◌, ◌-◌, ◌*◌, ◌^◌, ◌<◌, ◌≤◌, ◌⊎◌, sym, refl, ap, ◌∙◌, subst, inl, inr, ⊎_elim}
use Rattle.std.proofs.Common.{arith, zero, suc, lit<, ℤ, pos, negsuc, neg_ℤ, ◌+ℤ◌, ◌-ℤ◌, ◌≤ℤ◌}
use Rattle.std.proofs.Math.{Path.subst₂, Nat.mul-le-mul_right, Nat.mul-le-mul_left, Nat.pow-le-pow_right}
use Rattle.std.proofs.Math.Nat.{mul-lt-mul_of_pos_right, lt_of_mul-lt-mul_right, le_of_mul-le-mul_right}
use Rattle.apfloat_model.specs.{rounding.Standing.down, arithmetic.Exponents.IsLogarithm}
use Rattle.apfloat_model.specs.declared.kinds.NonfiniteBehavior.{NonfiniteBehavior}
use Rattle.apfloat_model.specs.declared.kinds.NonfiniteBehavior.TheVariants.{IEEE754, NanOnly, NanNegativeZero}
use Rattle.apfloat_model.specs.formats.Format.{Format, largest, greatest_significand}
use Rattle.apfloat_model.specs.rounding.{Grid.IsOnGrid, Grid.IsBelow, Grid.IsAbove, Enclosure.IsEnclosed, Standing.up}
use Rattle.apfloat_model.proofs.general.Powers.{two_pos, twice_half}
use Rattle.apfloat_model.proofs.rounding.Laws.{exact_below, zero_on_grid}
use Rattle.apfloat_model.proofs.rounding.Neighbours.{next_multiple, next_on_grid, none_between, below_is}
use Rattle.apfloat_model.proofs.arithmetic.SingleScalings.{scaled_stands, up_far, down_far}
use Rattle.apfloat_model.proofs.formats.Greatest.{greatest_fits}
use Rattle.apfloat_rounding.specs.Stored.{IsOperandAt, IsQuantaAt}
use Rattle.apfloat_conversions.proofs.Wholes.{up_of}

-- ---- one step at the last place

-- a step of one quantum, or of one unit of the last digit
pub stepped : (s a u d : ℕ) → a * 2 ^ d ≡ s * 2 ^ u → (a + 2 ^ u) * 2 ^ d ≡ (s + 2 ^ d) * 2 ^ u
stepped s a u d h = omega arith

-- a step down of one quantum, or of one unit of the last digit
pub stepped_down : (s a u d : ℕ) → 2 ^ d ≤ s → a * 2 ^ d ≡ s * 2 ^ u → (a - 2 ^ u) * 2 ^ d ≡ (s - 2 ^ d) * 2 ^ u
stepped_down s a u d l h =
    let k : 2 ^ d * 2 ^ u ≤ s * 2 ^ u = mul-le-mul_right (2 ^ u) l in
    let m : 2 ^ u * 2 ^ d ≤ a * 2 ^ d = omega arith in
    let n : 2 ^ u ≤ a = le_of_mul-le-mul_right m (pow_pos d) in
    let a' : a ≡ (a - 2 ^ u) + 2 ^ u = omega arith in
    let s' : s ≡ (s - 2 ^ d) + 2 ^ d = omega arith in
    omega (arith, ap (λ (x : ℕ). x * 2 ^ d) (sym a') ∙ h ∙ ap (λ (x : ℕ). x * 2 ^ u) s')

-- 2 ^ p is a multiple of 2 ^ d, for each d up to p
power_split : (p d : ℕ) → d ≤ p → 2 ^ p ≡ 2 ^ (p - d) * 2 ^ d
power_split p d l = let e : p ≡ (p - d) + d = omega arith in ap (λ (x : ℕ). 2 ^ x) e ∙ pow-add 2 (p - d) d

-- a step up from below a power of two stays at or below it
pub step_within : (p s a u d : ℕ) → d ≤ p → (u ≡ 0) ⊎ (d ≡ 0) → s < 2 ^ p → a * 2 ^ d ≡ s * 2 ^ u → s + 2 ^ d ≤ 2 ^ p
step_within p s a u d l (inr z) f h = let e : 2 ^ d ≡ 1 = ap (λ (x : ℕ). 2 ^ x) z in omega arith
step_within p s a u d l (inl z) f h =
    let e : 2 ^ u ≡ 1 = ap (λ (x : ℕ). 2 ^ x) z in
    let h' : a * 2 ^ d ≡ s = h ∙ ap (λ (x : ℕ). s * x) e ∙ omega arith in
    let w = power_split p d l in
    let k : (a + 1) * 2 ^ d ≤ 2 ^ (p - d) * 2 ^ d = next_multiple a (2 ^ (p - d)) (2 ^ d) (omega (arith, h', w)) in
    omega (arith, h', w, k)

-- a step down from above a power of two stays at or above it
pub step_above : (p s a u d : ℕ) → d ≤ p → (u ≡ 0) ⊎ (d ≡ 0) → 2 ^ p < s → a * 2 ^ d ≡ s * 2 ^ u → 2 ^ p + 2 ^ d ≤ s
step_above p s a u d l (inr z) f h = let e : 2 ^ d ≡ 1 = ap (λ (x : ℕ). 2 ^ x) z in omega arith
step_above p s a u d l (inl z) f h =
    let e : 2 ^ u ≡ 1 = ap (λ (x : ℕ). 2 ^ x) z in
    let h' : a * 2 ^ d ≡ s = h ∙ ap (λ (x : ℕ). s * x) e ∙ omega arith in
    let w = power_split p d l in
    let k : (2 ^ (p - d) + 1) * 2 ^ d ≤ a * 2 ^ d = next_multiple (2 ^ (p - d)) a (2 ^ d) (omega (arith, h', w)) in
    omega (arith, h', w, k)

-- ---- the neighbours

-- the next multiple of its unit is the neighbour above a grid number
above_at : (p half m c a : ℕ) → 2 ^ p ≡ 2 * half → m < 2 ^ p → (c ≡ 0) ⊎ (half ≤ m) → a ≡ m * 2 ^ c
    → IsAbove p (a + 2 ^ c) (a + 1) 1
above_at p half m c a e f g h =
    let w : 1 ≤ 2 ^ c = pow_pos c in
    let n : (m + 1) * 2 ^ c ≡ a + 2 ^ c = omega arith in
    record {
      on_grid = subst (λ (x : ℕ). IsOnGrid p x) n (next_on_grid p half m c e f);
      not_below = omega arith;
      least = λ other o l.
          let l' : m * 2 ^ c < other = omega arith in
          let k : (m + 1) * 2 ^ c ≤ other = none_between p half m c other e g o l' in
          omega arith;
    }

-- one step up from a number with all digits is the neighbour above
pub next_is : (p s a u d : ℕ) → 0 < p → (u ≡ 0) ⊎ (d ≡ 0) → s < 2 ^ p → 2 ^ (p - 1) ≤ s → a * 2 ^ d ≡ s * 2 ^ u
    → IsAbove p (a + 2 ^ u) (a + 1) 1
next_is p s a u d q (inr z) f g h =
    let e : 2 ^ d ≡ 1 = ap (λ (x : ℕ). 2 ^ x) z in
    let h' : a ≡ s * 2 ^ u = sym (ap (λ (x : ℕ). a * x) e ∙ omega arith) ∙ h in
    above_at p (2 ^ (p - 1)) s u a (sym (twice_half p q)) f (inr g) h'
next_is p s a u d q (inl z) f g h =
    let e : 2 ^ u ≡ 1 = ap (λ (x : ℕ). 2 ^ x) z in
    let h' : a * 2 ^ d ≡ s = h ∙ ap (λ (x : ℕ). s * x) e ∙ omega arith in
    let w : 1 ≤ 2 ^ d = pow_pos d in
    let k : a * 1 ≤ a * 2 ^ d = mul-le-mul_left a w in
    above_at p (2 ^ (p - 1)) a u a (sym (twice_half p q)) (omega arith) (inl z)
    (let k₂ : a * 2 ^ u ≡ a * 1 = ap (λ (x : ℕ). a * x) e in omega (arith, k₂))

-- the previous multiple of its unit is the neighbour below a grid number
below_at : (p half m c a : ℕ) → 2 ^ p ≡ 2 * half → m < 2 ^ p → (c ≡ 0) ⊎ (half ≤ m) → a ≡ (m + 1) * 2 ^ c
    → IsBelow p (a - 2 ^ c) (a - 1) 1
below_at p half m c a e f g h =
    let w : 1 ≤ 2 ^ c = pow_pos c in
    let n : m * 2 ^ c ≡ a - 2 ^ c = omega arith in
    let i : IsEnclosed p half m c (a - 1) 1 =
    record { double = e; fits = f; full = g; from = omega arith; to = omega arith } in
    subst (λ (x : ℕ). IsBelow p x (a - 1) 1) n (below_is p half m c (a - 1) 1 i)

-- one step down is the neighbour below
pub less_is : (p s a u d : ℕ) → 0 < p → (u ≡ 0) ⊎ (d ≡ 0) → s ≤ 2 ^ p → 2 ^ (p - 1) < s → a * 2 ^ d ≡ s * 2 ^ u
    → IsBelow p (a - 2 ^ u) (a - 1) 1
less_is p s a u d q (inr z) f g h =
    let e : 2 ^ d ≡ 1 = ap (λ (x : ℕ). 2 ^ x) z in
    let h' : a ≡ s * 2 ^ u = sym (ap (λ (x : ℕ). a * x) e ∙ omega arith) ∙ h in
    let t : s ≡ s - 1 + 1 = omega arith in
    below_at p (2 ^ (p - 1)) (s - 1) u a (sym (twice_half p q)) (omega arith) (inr (omega arith))
    (h' ∙ ap (λ (x : ℕ). x * 2 ^ u) t)
less_is p s a u d q (inl z) f g h =
    let e : 2 ^ u ≡ 1 = ap (λ (x : ℕ). 2 ^ x) z in
    let h' : a * 2 ^ d ≡ s = h ∙ ap (λ (x : ℕ). s * x) e ∙ omega arith in
    let w : 1 ≤ 2 ^ d = pow_pos d in
    let k : a * 1 ≤ a * 2 ^ d = mul-le-mul_left a w in
    let y : 0 * 2 ^ d < a * 2 ^ d = omega (arith, h') in
    let y' : 0 < a = lt_of_mul-lt-mul_right (2 ^ d) y in
    let t : a ≡ a - 1 + 1 = omega arith in
    below_at p (2 ^ (p - 1)) (a - 1) u a (sym (twice_half p q)) (omega arith) (inl z)
    (let k₂ : (a - 1 + 1) * 2 ^ u ≡ (a - 1 + 1) * 1 = ap (λ (x : ℕ). (a - 1 + 1) * x) e in omega (arith, k₂, t))

-- ---- the same number by half or twice the significand

-- half a significand, one exponent higher, is the same number
pub quanta_halved : (min_exp x : ℤ) (s h n : ℕ) → s ≡ 2 * h → IsQuantaAt min_exp s x n
    → IsQuantaAt min_exp h (x +ℤ pos 1) n
quanta_halved min_exp x s h n e q =
    let g = scaled_stands s n (down (x -ℤ min_exp)) (up (x -ℤ min_exp)) 1 0 (up ((x +ℤ pos 1) -ℤ min_exp))
    (down ((x +ℤ pos 1) -ℤ min_exp)) q (omega (arith, ints)) in
    omega (arith, g, ap (λ (z : ℕ). z * (2 ^ 0 * 2 ^ up ((x +ℤ pos 1) -ℤ min_exp))) e)

-- twice a significand, one exponent lower, is the same number
pub quanta_doubled : (min_exp x : ℤ) (s h n : ℕ) → s ≡ 2 * h → IsQuantaAt min_exp h x n
    → IsQuantaAt min_exp s (x -ℤ pos 1) n
quanta_doubled min_exp x s h n e q =
    let g = scaled_stands h n (down (x -ℤ min_exp)) (up (x -ℤ min_exp)) 0 1 (up ((x -ℤ pos 1) -ℤ min_exp))
    (down ((x -ℤ pos 1) -ℤ min_exp)) q (omega (arith, ints)) in
    omega (arith, g, ap (λ (z : ℕ). z * 2 ^ up ((x -ℤ pos 1) -ℤ min_exp)) e)

-- ---- below the largest value there is room

-- a significand of at least 2 ^ precision - 1 is at least the greatest one
greatest_before : (kind : NonfiniteBehavior) (precision s : ℕ) → 2 ^ precision ≤ s + 1
    → greatest_significand kind precision ≤ s
greatest_before IEEE754 precision s h = omega arith
greatest_before NanOnly precision s h = omega arith
greatest_before NanNegativeZero precision s h = omega arith

-- for an integer that is at least -n, `down` is at most n
pub down_le : (z : ℤ) (n : ℕ) → neg_ℤ (pos n) ≤ℤ z → down z ≤ n
down_le (pos k) n h = let l : 0 ≤ n = omega arith in l
down_le (negsuc k) n h = let l : k + 1 ≤ n = omega (arith, ints) in omega (arith, l)

-- an exponent of the format is less than the precision below the least one
pub operand_down : (precision : ℕ) (min_exp x : ℤ) → 3 ≤ precision
    → ((min_exp +ℤ pos 1) -ℤ pos precision) ≤ℤ x → down (x -ℤ min_exp) ≤ precision - 1
operand_down precision min_exp x t l = down_le (x -ℤ min_exp) (precision - 1) (omega (arith, ints))

-- an exponent that is at most the greatest can be raised by one, or is the greatest
pub room_cases : (x m z : ℤ) → z ≡ (m -ℤ x) → x ≤ℤ m → ((x +ℤ pos 1) ≤ℤ m) ⊎ (x ≡ m)
room_cases x m (pos zero) e l = inr (omega (arith, ints, e, l))
room_cases x m (pos (suc k)) e l = inl (omega (arith, ints, e, l))
room_cases x m (negsuc k) e l = absurd (omega (arith, ints, e, l))

-- at the greatest exponent, a number whose step carries is the largest
at_top : (format : Format) (precision : ℕ) (min_exp max_exp : ℤ) (s a : ℕ) → format.precision ≡ precision
    → pos format.span ≡ max_exp -ℤ min_exp → IsQuantaAt min_exp s max_exp a
    → 2 ^ precision ≤ s + 2 ^ down (max_exp -ℤ min_exp) → largest format ≤ a
at_top format precision min_exp max_exp s a e g h c =
    let w = up_far (max_exp -ℤ min_exp) 0 (omega (arith, ints)) in
    let d : 2 ^ down (max_exp -ℤ min_exp) ≡ 1 = ap (λ (x : ℕ). 2 ^ x) w.1 in
    let i : 2 ^ precision ≤ s + 1 = omega (arith, c, d) in
    let k : greatest_significand format.nonfinite precision ≤ s = greatest_before format.nonfinite precision s i in
    let m : greatest_significand format.nonfinite format.precision * 2 ^ format.span ≤ s * 2 ^ format.span =
    mul-le-mul_right (2 ^ format.span) (subst (λ (x : ℕ). greatest_significand format.nonfinite x ≤ s) (sym e) k) in
    omega (arith, m, ap (λ (x : ℕ). s * 2 ^ x) (ap up g), ap (λ (x : ℕ). a * x) d, h)

-- a number below the largest whose step carries has room for the next exponent
pub room_above : (format : Format) (precision : ℕ) (min_exp max_exp x : ℤ) (s a : ℕ) → format.precision ≡ precision
    → pos format.span ≡ max_exp -ℤ min_exp → IsOperandAt precision min_exp max_exp s x → IsQuantaAt min_exp s x a
    → a < largest format → 2 ^ precision ≤ s + 2 ^ down (x -ℤ min_exp) → (x +ℤ pos 1) ≤ℤ max_exp
room_above format precision min_exp max_exp x s a e g o h b c =
    ⊎_elim (λ q. q)
    (λ (q : x ≡ max_exp).
    let k : largest format ≤ a =
    at_top format precision min_exp max_exp s a e g (subst (λ (y : ℤ). IsQuantaAt min_exp s y a) q h)
    (subst (λ (y : ℤ). 2 ^ precision ≤ s + 2 ^ down (y -ℤ min_exp)) q c) in
    absurd (omega (arith, k, b)))
    (room_cases x max_exp (max_exp -ℤ x) refl o.greatest)

-- ---- within the largest value

-- the largest value is a point of the grid
pub largest_on_grid : (format : Format) → 0 < format.precision → IsOnGrid format.precision (largest format)
largest_on_grid format h =
    record {
      significand = greatest_significand format.nonfinite format.precision;
      place = format.span;
      fits = greatest_fits format.nonfinite format.precision;
      is = refl;
    }

-- the neighbour above a number below the largest is within it
pub next_within : (format : Format) (a next : ℕ) → 0 < format.precision → a < largest format
    → IsAbove format.precision next (a + 1) 1 → next ≤ largest format
next_within format a next h b i = i.least (largest format) (largest_on_grid format h) (omega arith)

-- there is room for a step in the word
pub step_room : (p s d : ℕ) → p ≤ 125 → s < 2 ^ p → d ≤ p - 1 → s + 2 ^ d < 2 ^ 128
step_room p s d h f l =
    let l' : d ≤ 125 = omega arith in
    omega (arith, pow-le-pow_right two_pos h, pow-le-pow_right two_pos l', f)

-- ---- the results of steps

-- a step that keeps the number of digits keeps the exponent
pub stays_operand : (p : ℕ) (min max x : ℤ) (s t : ℕ) → IsOperandAt p min max s x → t < 2 ^ p → 2 ^ (p - 1) ≤ t
    → IsOperandAt p min max t x
stays_operand p min max x s t o f g = record { fits = f; full = g; least = o.least; greatest = o.greatest }

-- a step that carries leaves half the significand, one exponent higher
pub carries_operand : (p : ℕ) (min max x y : ℤ) (s t : ℕ) → 0 < p → IsOperandAt p min max s x → t ≡ 2 ^ (p - 1)
    → y ≡ (x +ℤ pos 1) → (x +ℤ pos 1) ≤ℤ max → IsOperandAt p min max t y
carries_operand p min max x y s t q o e i r =
    record {
      fits = omega (arith, e, twice_half p q, pow_pos (p - 1));
      full = omega (arith, e);
      least = omega (arith, ints, o.least, i);
      greatest = omega (arith, ints, r, i);
    }

-- a significand that was halved, one exponent higher, is the same number
pub carried_quanta : (p : ℕ) (min x y : ℤ) (s t n : ℕ) → 0 < p → s ≡ 2 ^ p → t ≡ 2 ^ (p - 1) → y ≡ (x +ℤ pos 1)
    → IsQuantaAt min s x n → IsQuantaAt min t y n
carried_quanta p min x y s t n q e i j h =
    let k : IsQuantaAt min t (x +ℤ pos 1) n = quanta_halved min x s t n (omega (arith, e, i, twice_half p q)) h in
    subst (λ (z : ℤ). IsQuantaAt min t z n) (sym j) k

-- a significand greater by t, which is 2 ^ d, makes a number of 2 ^ u more quanta
pub stepped_by : (s a u d t : ℕ) → t ≡ 2 ^ d → a * 2 ^ d ≡ s * 2 ^ u → (a + 2 ^ u) * 2 ^ d ≡ (s + t) * 2 ^ u
stepped_by s a u d t e h = stepped s a u d h ∙ ap (λ (x : ℕ). (s + x) * 2 ^ u) (sym e)

-- a significand less by t, which is 2 ^ d, makes a number of 2 ^ u fewer quanta
pub stepped_down_by : (s a u d t : ℕ) → t ≡ 2 ^ d → 2 ^ d ≤ s → a * 2 ^ d ≡ s * 2 ^ u
    → (a - 2 ^ u) * 2 ^ d ≡ (s - t) * 2 ^ u
stepped_down_by s a u d t e l h = stepped_down s a u d l h ∙ ap (λ (x : ℕ). (s - x) * 2 ^ u) (sym e)

-- a step of 2 ^ d is at most 2 ^ p, for each d up to p
pub step_small : (p d : ℕ) → d ≤ p → 2 ^ d ≤ 2 ^ p
step_small p d l = pow-le-pow_right two_pos l

-- a step down from a power of two starts from twice its significand, one exponent lower
pub lowered_quanta : (p : ℕ) (min x y : ℤ) (s t n : ℕ) → 0 < p → s ≡ 2 ^ (p - 1) → t ≡ 2 ^ p → y ≡ (x -ℤ pos 1)
    → IsQuantaAt min s x n → IsQuantaAt min t y n
lowered_quanta p min x y s t n q e i j h =
    let k : IsQuantaAt min t (x -ℤ pos 1) n = quanta_doubled min x t s n (omega (arith, e, i, twice_half p q)) h in
    subst (λ (z : ℤ). IsQuantaAt min t z n) (sym j) k

-- the greatest grid point that is not above 0 is 0
zero_below : (p : ℕ) → IsBelow p 0 0 1
zero_below p = exact_below p 0 0 1 (lit< tt) (zero_on_grid p) refl

-- the neighbour below one quantum is 0
pub least_less : (p : ℕ) (min x : ℤ) (s a : ℕ) → 3 ≤ p → s ≡ 2 ^ (p - 1) → x ≡ ((min +ℤ pos 1) -ℤ pos p)
    → IsQuantaAt min s x a → IsBelow p 0 (a - 1) 1
least_less p min x s a t e f h =
    let n : (x -ℤ min) ≤ℤ neg_ℤ (pos (p - 1)) = omega (arith, ints) in
    let w = down_far (x -ℤ min) (p - 1) n in
    let v : down (x -ℤ min) ≤ p - 1 = down_le (x -ℤ min) (p - 1) (omega (arith, ints)) in
    let g : down (x -ℤ min) ≡ p - 1 = let w₀ = w.0 in omega (arith, v, w₀) in
    let i : a * 2 ^ (p - 1) ≡ s * 2 ^ 0 = subst₂ (λ (z : ℕ) (y : ℕ). a * 2 ^ z ≡ s * 2 ^ y) g w.1 h in
    let j : a * 2 ^ (p - 1) ≡ 1 * 2 ^ (p - 1) = omega (arith, i, e) in
    let r : a - 1 ≡ 0 = omega (arith, eq_of_mul-eq-mul_right (2 ^ (p - 1)) (pow_pos (p - 1)) a 1 j) in
    subst (λ (z : ℕ). IsBelow p 0 z 1) (sym r) (zero_below p)

-- a step down from a power of two leaves a number with all digits
pub lowered_operand : (p : ℕ) (min max x y : ℤ) (s t w d : ℕ) → 0 < p → IsOperandAt p min max s x → t ≡ 2 ^ p
    → w ≡ 2 ^ d → d ≤ p - 1 → y ≡ (x -ℤ pos 1) → ((min +ℤ pos 1) -ℤ pos p) ≤ℤ y → IsOperandAt p min max (t - w) y
lowered_operand p min max x y s t w d q o e i j r l =
    let k : 2 * 2 ^ (p - 1) ≡ 2 ^ p = twice_half p q in
    let a : 2 ^ d ≤ 2 ^ (p - 1) = step_small (p - 1) d j in
    record {
      fits = omega (arith, e, i, a, pow_pos d, k);
      full = omega (arith, e, i, a, k);
      least = l;
      greatest = omega (arith, ints, o.greatest, r);
    }

-- ---- the logarithm and the fraction

-- a number with all digits is at least the power of its exponent
logarithm_low : (q s a k u d : ℕ) → k + d ≡ q + u → 2 ^ q ≤ s → a * 2 ^ d ≡ s * 2 ^ u → 2 ^ k ≤ a
logarithm_low q s a k u d e f h =
    let w : 2 ^ k * 2 ^ d ≡ 2 ^ q * 2 ^ u = sym (pow-add 2 k d) ∙ ap (λ (x : ℕ). 2 ^ x) e ∙ pow-add 2 q u in
    let r : 2 ^ k * 2 ^ d ≤ a * 2 ^ d = omega (arith, w, mul-le-mul_right (2 ^ u) f, h) in
    le_of_mul-le-mul_right r (pow_pos d)

-- a number with all digits is below the next power
logarithm_high : (p s a k u d : ℕ) → k + d ≡ p + u → s < 2 ^ p → a * 2 ^ d ≡ s * 2 ^ u → a < 2 ^ k
logarithm_high p s a k u d e f h =
    let w : 2 ^ k * 2 ^ d ≡ 2 ^ p * 2 ^ u = sym (pow-add 2 k d) ∙ ap (λ (x : ℕ). 2 ^ x) e ∙ pow-add 2 p u in
    let r : a * 2 ^ d < 2 ^ k * 2 ^ d = omega (arith, w, mul-lt-mul_of_pos_right f (pow_pos u), h) in
    lt_of_mul-lt-mul_right (2 ^ d) r

-- the exponent of a number with all digits is its logarithm
pub logarithm_is : (format : Format) (p : ℕ) (min max x : ℤ) (s a : ℕ) → 3 ≤ p → pos format.scale ≡ pos (p - 1) -ℤ min
    → IsOperandAt p min max s x → IsQuantaAt min s x a → IsLogarithm format a x
logarithm_is format p min max x s a t z o h =
    let n : pos 0 ≤ℤ (x +ℤ pos format.scale) = omega (arith, ints, z, o.least, t) in
    let q : pos (up (x +ℤ pos format.scale)) ≡ (x +ℤ pos format.scale) = up_of (x +ℤ pos format.scale) n in
    let e : up (x +ℤ pos format.scale) + down (x -ℤ min) ≡ p - 1 + up (x -ℤ min) = omega (arith, ints, z, q, t) in
    let e' : up (x +ℤ pos format.scale) + 1 + down (x -ℤ min) ≡ p + up (x -ℤ min) = omega (arith, e, t) in
    record {
      place = up (x +ℤ pos format.scale);
      low = logarithm_low (p - 1) s a (up (x +ℤ pos format.scale)) (up (x -ℤ min)) (down (x -ℤ min)) e o.full h;
      high = logarithm_high p s a (up (x +ℤ pos format.scale) + 1) (up (x -ℤ min)) (down (x -ℤ min)) e' o.fits h;
      is = omega (arith, ints, q);
    }

-- the significand of a number, with exponent -1, is a number of the format
pub fraction_operand : (p : ℕ) (min max x : ℤ) (s : ℕ) → 3 ≤ p → min ≤ℤ negsuc 0 → pos p ≤ℤ max
    → IsOperandAt p min max s x → IsOperandAt p min max s (negsuc 0)
fraction_operand p min max x s t b w o =
    record { fits = o.fits; full = o.full; least = omega (arith, ints, t, b); greatest = omega (arith, ints, t, w) }

-- a number with exponent -1 has quanta, since no digit is lost
pub fraction_quanta : (min : ℤ) (s : ℕ) → min ≤ℤ negsuc 0 → IsQuantaAt min s (negsuc 0) (s * 2 ^ up (negsuc 0 -ℤ min))
fraction_quanta min s b =
    let w = up_far (negsuc 0 -ℤ min) 0 (omega (arith, ints, b)) in
    let e : 2 ^ down (negsuc 0 -ℤ min) ≡ 1 = ap (λ (x : ℕ). 2 ^ x) w.1 in
    ap (λ (x : ℕ). s * 2 ^ up (negsuc 0 -ℤ min) * x) e ∙ omega arith

-- the fraction times the power of two of its exponent is the number
pub fraction_same : (min x y : ℤ) (s a : ℕ) → min ≤ℤ negsuc 0 → y ≡ (x +ℤ pos 1) → IsQuantaAt min s x a
    → a * 2 ^ down y ≡ s * 2 ^ up (negsuc 0 -ℤ min) * 2 ^ up y
fraction_same min x y s a b e h =
    let g = scaled_stands s a (down (x -ℤ min)) (up (x -ℤ min)) 0 (up (negsuc 0 -ℤ min)) (up y) (down y) h
    (omega (arith, ints, e, (up_far (negsuc 0 -ℤ min) 0 (omega (arith, ints, b))).1)) in
    omega (arith, g)

-- a number with exponent -1 lies in [1/2, 1)
pub fraction_low : (format : Format) (a : ℕ) → IsLogarithm format a (negsuc 0)
    → (2 ^ (format.scale - 1) ≤ a) × (a < 2 ^ format.scale)
fraction_low format a logarithm =
    let e = logarithm.is in
    let k : logarithm.place ≡ format.scale - 1 = omega (arith, ints, e) in
    let m : logarithm.place + 1 ≡ format.scale = omega (arith, ints, e) in
    (subst (λ (x : ℕ). 2 ^ x ≤ a) k logarithm.low, subst (λ (x : ℕ). a < 2 ^ x) m logarithm.high)

-- an exponent that is not the least one can be lowered by one
pub room_below : (low x : ℤ) → low ≤ℤ x → (x ≡ low → ⊥) → low ≤ℤ (x -ℤ pos 1)
room_below low x l n =
    ⊎_elim (λ (q : (low +ℤ pos 1) ≤ℤ x). let r : low ≤ℤ (x -ℤ pos 1) = omega (arith, ints, q) in r)
    (λ (q : low ≡ x). absurd (n (sym q))) (room_cases low x (x -ℤ low) refl l)
