-- Numbers of hexadecimal digits: where their first digit is, and that the shortest is the only one.
use Rattle.std.proofs.Common.{◌≡◌, ◌⊎◌, ℕ, zero, suc, ◌+◌, ◌-◌, ◌*◌, ◌%◌, ◌^◌, ◌<◌, ◌≤◌, refl, sym, ap, ◌∙◌, subst, inl}
use Rattle.std.proofs.Common.{inr, ⊎_elim, arith, add-one, ℤ}
use Rattle.std.proofs.Math.Nat.{eq_of_mul-eq-mul_right, mul-le-mul_right, mul-lt-mul_of_pos_right, mul-mod_left}
use Rattle.std.proofs.lemmas.{Bool.cases_lt, Int.ints, Nat.pow-add, Nat.pow_pos}
use Rattle.apfloat_model.specs.{formats.Format.Format, formats.Format.largest, rounding.Bounds.IsWithin}
use Rattle.apfloat_model.specs.arithmetic.Exact.{up, down}
use Rattle.apfloat_model.proofs.{general.Powers.exponent_below, rounding.FarMagnitudes.largest_below}
use Rattle.apfloat_model.proofs.formats.LawfulRanges.{HasRanges}
use Rattle.apfloat_digits.specs.hexadecimal.HexTexts.{last_place, IsNumberOf, IsShortestNumber}

-- ---- powers

pub sixteens : (places : ℕ) → 16 ^ places ≡ 2 ^ (4 * places)
sixteens zero = refl
sixteens (suc p) =
    let power : 16 ^ (p + 1) ≡ 16 ^ p * 16 = pow-add 16 p 1 in
    let e : 4 * (p + 1) ≡ 4 * p + 4 = omega arith in
    let two : 2 ^ (4 * (p + 1)) ≡ 2 ^ (4 * p) * 16 = ap (λ (x : ℕ). 2 ^ x) e ∙ pow-add 2 (4 * p) 4 in
    let all : 16 ^ (p + 1) ≡ 2 ^ (4 * (p + 1)) = power ∙ ap (λ (x : ℕ). x * 16) (sixteens p) ∙ sym two in
    rw add-one at all

-- the same number with other powers of two
pub moved : (a b c d u d' u' s t : ℕ) → a * 2 ^ d ≡ b * 2 ^ u → b * 2 ^ s ≡ c * 2 ^ t → u + d' + t ≡ u' + d + s
    → a * 2 ^ d' ≡ c * 2 ^ u'
moved a b c d u d' u' s t x y e =
    let powers : 2 ^ u * 2 ^ d' * 2 ^ t ≡ 2 ^ u' * 2 ^ d * 2 ^ s =
    ap (λ (n : ℕ). n * 2 ^ t) (sym (pow-add 2 u d')) ∙ sym (pow-add 2 (u + d') t) ∙ ap (λ (n : ℕ). 2 ^ n) e
    ∙ pow-add 2 (u' + d) s ∙ ap (λ (n : ℕ). n * 2 ^ s) (pow-add 2 u' d) in
    eq_of_mul-eq-mul_right (2 ^ d * 2 ^ s) (two_factors (2 ^ d) (2 ^ s) (pow_pos d) (pow_pos s)) (a * 2 ^ d')
    (c * 2 ^ u') (product a b c (2 ^ d) (2 ^ u) (2 ^ d') (2 ^ u') (2 ^ s) (2 ^ t) x y powers)
  where
    two_factors : (d s : ℕ) → 0 < d → 0 < s → 0 < d * s
    two_factors d s p q = let l : 0 * s < d * s = mul-lt-mul_of_pos_right p q in omega (arith, l)

    product : (a b c d u d' u' s t : ℕ) → a * d ≡ b * u → b * s ≡ c * t → u * d' * t ≡ u' * d * s
        → a * d' * (d * s) ≡ c * u' * (d * s)
    product a b c d u d' u' s t x y e =
        let first : a * d * (d' * s) ≡ b * u * (d' * s) = ap (λ (n : ℕ). n * (d' * s)) x in
        let second : b * s * (u * d') ≡ c * t * (u * d') = ap (λ (n : ℕ). n * (u * d')) y in
        let third : c * (u * d' * t) ≡ c * (u' * d * s) = ap (λ (n : ℕ). c * n) e in
        omega (arith, first, second, third)

-- ---- the first digit

-- where the first digit is, of that many places before it
record IsLeading (q d top : ℕ) : Type 0 where
  low : 2 ^ top ≤ q * 2 ^ d
  high : q * 2 ^ d < 2 ^ (top + 1)

leading : (q h places d u : ℕ) → q * 2 ^ d ≡ h * 2 ^ u → 16 ^ places ≤ h → h < 2 * 16 ^ places
    → IsLeading q d (4 * places + u)
leading q h places d u e low high =
    let two : 2 ^ (4 * places + u) ≡ 16 ^ places * 2 ^ u =
    pow-add 2 (4 * places) u ∙ ap (λ (x : ℕ). x * 2 ^ u) (sym (sixteens places)) in
    let next : 2 ^ (4 * places + u + 1) ≡ 2 ^ (4 * places + u) * 2 = pow-add 2 (4 * places + u) 1 in
    let a : 16 ^ places * 2 ^ u ≤ h * 2 ^ u = mul-le-mul_right (2 ^ u) low in
    let b : h * 2 ^ u < 2 * 16 ^ places * 2 ^ u = mul-lt-mul_of_pos_right high (pow_pos u) in
    record { low = omega (arith, two, a, e); high = omega (arith, two, next, b, e) }

-- two numbers of the same quanta have their first digits at one place
not_below : (q d d' top top' : ℕ) → IsLeading q d top → IsLeading q d' top' → top + d' < top' + d + 1
not_below q d d' top top' x y =
    let split : 2 ^ (top + d') ≡ 2 ^ top * 2 ^ d' = pow-add 2 top d' in
    let split' : 2 ^ (top' + 1 + d) ≡ 2 ^ (top' + 1) * 2 ^ d = pow-add 2 (top' + 1) d in
    let a : 2 ^ top * 2 ^ d' ≤ q * 2 ^ d * 2 ^ d' = mul-le-mul_right (2 ^ d') x.low in
    let b : q * 2 ^ d' * 2 ^ d < 2 ^ (top' + 1) * 2 ^ d = mul-lt-mul_of_pos_right y.high (pow_pos d) in
    let l : top + d' < top' + 1 + d = exponent_below (top + d') (top' + 1 + d) (omega (arith, split, split', a, b)) in
    omega (arith, l)

full : (places fraction : ℕ) → fraction < 16 ^ places
    → (16 ^ places ≤ 16 ^ places + fraction) × (16 ^ places + fraction < 2 * 16 ^ places)
full places fraction l = (omega arith, omega (arith, l))

-- where the first digit of a number is
leads : (f : Format) (q places fraction : ℕ) (e : ℤ) → fraction < 16 ^ places
    → IsNumberOf f q (16 ^ places + fraction) places e
    → IsLeading q (down (last_place f places e)) (4 * places + up (last_place f places e))
leads f q places fraction e fits number =
    leading q (16 ^ places + fraction) places (down (last_place f places e)) (up (last_place f places e)) number
    (full places fraction fits).0 (full places fraction fits).1

-- the exponent of a value of a format
pub exponent_within : (f : Format) (q places fraction : ℕ) (e : ℤ) → HasRanges f → 0 < q → q ≤ largest f
    → fraction < 16 ^ places → IsNumberOf f q (16 ^ places + fraction) places e → IsWithin (2 ^ 22) e
exponent_within f q places fraction e ranges some within fits number =
    let z = last_place f places e in
    let x = leads f q places fraction e fits number in
    let least : 1 * 2 ^ down z ≤ q * 2 ^ down z = mul-le-mul_right (2 ^ down z) some in
    let high = x.high in
    let low = x.low in
    let under : down z < 4 * places + up z + 1 =
    exponent_below (down z) (4 * places + up z + 1) (omega (arith, least, high)) in
    let most : q * 2 ^ down z < 2 ^ (f.precision + f.span) * 2 ^ down z =
    mul-lt-mul_of_pos_right (omega (arith, within, largest_below f)) (pow_pos (down z)) in
    let split = pow-add 2 (f.precision + f.span) (down z) in
    let over : 4 * places + up z < f.precision + f.span + down z =
    exponent_below (4 * places + up z) (f.precision + f.span + down z) (omega (arith, low, most, split)) in
    let p = ranges.precision_high in
    let s = ranges.scale in
    record { low = omega (arith, ints, under, p, s, ranges.span); high = omega (arith, ints, over, p, s, ranges.span) }

-- ---- one number

-- more digits than another number of the same value end in 0
longer : (f : Format) (q p a t b : ℕ) (e : ℤ) → IsNumberOf f q (16 ^ p + a) p e
    → IsNumberOf f q (16 ^ (p + t) + b) (p + t) e → (16 ^ p + a) * 16 ^ t ≡ 16 ^ (p + t) + b
longer f q p a t b e x y =
    let z = last_place f p e in
    let w = last_place f (p + t) e in
    let sum : up z + down w ≡ up w + down z + 4 * t = omega (arith, ints) in
    let powers : 2 ^ up z * 2 ^ down w ≡ 2 ^ up w * 2 ^ down z * 2 ^ (4 * t) =
    sym (pow-add 2 (up z) (down w)) ∙ ap (λ (n : ℕ). 2 ^ n) sum ∙ pow-add 2 (up w + down z) (4 * t)
    ∙ ap (λ (n : ℕ). n * 2 ^ (4 * t)) (pow-add 2 (up w) (down z)) in
    let units : 0 < 2 ^ (up w + down z) = pow_pos (up w + down z) in
    let unit : 2 ^ (up w + down z) ≡ 2 ^ up w * 2 ^ down z = pow-add 2 (up w) (down z) in
    eq_of_mul-eq-mul_right (2 ^ (up w + down z)) units ((16 ^ p + a) * 16 ^ t) (16 ^ (p + t) + b)
    (rw (unit, sixteens t)
    (crossed q (16 ^ p + a) (16 ^ (p + t) + b) (2 ^ down z) (2 ^ up z) (2 ^ down w) (2 ^ up w) (2 ^ (4 * t)) x y
    powers))
  where
    crossed : (q h k d u d' u' t : ℕ) → q * d ≡ h * u → q * d' ≡ k * u' → u * d' ≡ u' * d * t
        → h * t * (u' * d) ≡ k * (u' * d)
    crossed q h k d u d' u' t x y e =
        let first : q * d * d' ≡ h * u * d' = ap (λ (n : ℕ). n * d') x in
        let second : q * d' * d ≡ k * u' * d = ap (λ (n : ℕ). n * d) y in
        let third : h * (u * d') ≡ h * (u' * d * t) = ap (λ (n : ℕ). h * n) e in
        omega (arith, first, second, third)

-- of two shortest numbers of one value, none has more digits
no_longer : (f : Format) (q p a t b : ℕ) (e : ℤ) → IsNumberOf f q (16 ^ p + a) p e
    → IsNumberOf f q (16 ^ (p + suc t) + b) (p + suc t) e → (b % 16 ≡ 0 → ⊥) → ⊥
no_longer f q p a t b e x y last =
    let same = longer f q p a (suc t) b e x y in
    let split : 16 ^ (p + suc t) ≡ 16 ^ p * 16 ^ suc t = pow-add 16 p (suc t) in
    let next : 16 ^ (t + 1) ≡ 16 ^ t * 16 = pow-add 16 t 1 in
    let next' : 16 ^ suc t ≡ 16 ^ t * 16 = rw add-one at next in
    let rest : b ≡ a * 16 ^ suc t = apart (16 ^ p) a (16 ^ suc t) (16 ^ (p + suc t)) b same split in
    last (ap (λ (n : ℕ). n % 16) (rest ∙ rw next' (outer a (16 ^ t))) ∙ mul-mod_left (a * 16 ^ t) 16)
  where
    apart : (p a t k b : ℕ) → (p + a) * t ≡ k + b → k ≡ p * t → b ≡ a * t
    apart p a t k b x y = omega (arith, x, y)

    outer : (a t : ℕ) → a * (t * 16) ≡ a * t * 16
    outer a t = omega arith

not_last : (places t fraction : ℕ) → (places ≡ 0) ⊎ (fraction % 16 ≡ 0 → ⊥) → t < places → fraction % 16 ≡ 0 → ⊥
not_last places t fraction (inl z) l = absurd (omega (arith, z, l))
not_last places t fraction (inr n) l = n

-- a value is one number of so many digits with an exponent
level : (f : Format) (q h k p : ℕ) (e : ℤ) → IsNumberOf f q h p e → IsNumberOf f q k p e → h ≡ k
level f q h k p e x y =
    let z = last_place f p e in
    eq_of_mul-eq-mul_right (2 ^ up z) (pow_pos (up z)) h k (sym x ∙ y)

pub record IsSame (p a : ℕ) (e : ℤ) (p' a' : ℕ) (e' : ℤ) : Type 0 where
  pub places : p ≡ p'
  pub fraction : a ≡ a'
  pub exponent : e ≡ e'

one_exponent : (f : Format) (q p a p' a' : ℕ) (e e' : ℤ) → IsShortestNumber f q p a e → IsShortestNumber f q p' a' e'
    → e ≡ e'
one_exponent f q p a p' a' e e' x y =
    let z = last_place f p e in
    let w = last_place f p' e' in
    let m = leads f q p a e x.fits x.number in
    let n = leads f q p' a' e' y.fits y.number in
    let high = not_below q (down w) (down z) (4 * p' + up w) (4 * p + up z) n m in
    omega (arith, ints, not_below q (down z) (down w) (4 * p + up z) (4 * p' + up w) m n, high)

pub one_number : (f : Format) (q p a p' a' : ℕ) (e e' : ℤ) → IsShortestNumber f q p a e
    → IsShortestNumber f q p' a' e' → IsSame p a e p' a' e'
one_number f q p a p' a' e e' x y =
    let same = one_exponent f q p a p' a' e e' x y in
    let other : IsNumberOf f q (16 ^ p' + a') p' e = subst (λ (k : ℤ). IsNumberOf f q (16 ^ p' + a') p' k) (sym same)
    y.number in
    ⊎_elim
    (λ (l : p < p').
    let t : p' ≡ p + suc (p' - p - 1) = omega (arith, l) in
    absurd (no_longer f q p a (p' - p - 1) a' e x.number
    (subst (λ (k : ℕ). IsNumberOf f q (16 ^ k + a') k e) t other) (not_last p' p a' y.last l)))
    (λ (l : p' ≤ p).
    ⊎_elim
    (λ (m : p' < p).
    let t : p ≡ p' + suc (p - p' - 1) = omega (arith, m) in
    absurd (no_longer f q p' a' (p - p' - 1) a e other
    (subst (λ (k : ℕ). IsNumberOf f q (16 ^ k + a) k e) t x.number) (not_last p p' a x.last m)))
    (λ (m : p ≤ p').
    let places : p ≡ p' = omega (arith, l, m) in
    let there : IsNumberOf f q (16 ^ p + a') p e = subst (λ (k : ℕ). IsNumberOf f q (16 ^ k + a') k e) (sym places)
    other in
    record {
      places = places;
      fraction = equal (16 ^ p) a a' (level f q (16 ^ p + a) (16 ^ p + a') p e x.number there);
      exponent = same;
    })
    (cases_lt p' p))
    (cases_lt p p')
  where
    equal : (p a b : ℕ) → p + a ≡ p + b → a ≡ b
    equal p a b e = omega (arith, e)
