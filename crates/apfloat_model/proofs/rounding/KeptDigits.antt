-- The digits of a significand that are kept when it is cut or shifted.
use Rattle.std.proofs.Common.{◌≡◌, ℕ, zero, suc, ◌+◌, ◌-◌, ◌*◌, ◌/◌, ◌%◌, ◌^◌, ◌<◌, ◌≤◌, ◌⊎◌, sym, refl, ap, ◌∙◌, subst}
use Rattle.std.proofs.{Common.inl, Common.inr, Common.⊎_elim, Common.arith, Math.Nat.mul-le-mul_right}
use Rattle.std.proofs.Math.Nat.{mul-lt-mul_of_pos_right, pow-le-pow_right, div-lt_iff_lt-mul, le-div_iff_mul-le}
use Rattle.std.proofs.Math.Nat.{lt_of_mul-lt-mul_right, eq_of_mul-eq-mul_right, mod-eq_of_lt, mul-pos}
use Rattle.std.proofs.lemmas.{Bool.cases_lt, Nat.pow-add, Nat.pow_pos, Nat.leading_length}
use Rattle.apfloat_model.specs.declared.loss.Loss.{Loss}
use Rattle.apfloat_model.specs.declared.loss.Loss.TheVariants.{ExactlyZero, LessThanHalf, ExactlyHalf, MoreThanHalf}
use Rattle.apfloat_model.specs.rounding.{Standing.StandsFor, Enclosure.IsEnclosed}
use Rattle.apfloat_model.proofs.general.Powers.{two_pos, twice_half, exponent_below}
use Rattle.apfloat_model.proofs.rounding.Losses.{stands_from, stands_to}
use lib.Count.{count_leading_zeros}

-- ---- the number of digits

-- a number is below the power of two of its number of digits
pub digits_below : (n : ℕ) → n < 2 ^ 128 → n < 2 ^ (128 - count_leading_zeros 128 n)
digits_below n h =
    let r = leading_length 128 n h in
    let e : r.0 ≡ 128 - count_leading_zeros 128 n = omega (arith, r.1) in
    subst (λ (x : ℕ). n < 2 ^ x) e r.2

-- a number is at least the power of two below its number of digits
pub digits_full : (n : ℕ) → n < 2 ^ 128 → 0 < 128 - count_leading_zeros 128 n
    → 2 ^ ((128 - count_leading_zeros 128 n) - 1) ≤ n
digits_full n h p =
    let r = leading_length 128 n h in
    let e₀ = r.1 in
    let e : r.0 ≡ 128 - count_leading_zeros 128 n = omega (arith, e₀) in
    let l : 2 ^ (128 - count_leading_zeros 128 n) ≤ 2 * n + 1 = subst (λ (x : ℕ). 2 ^ x ≤ 2 * n + 1) e r.3 in
    let t : 2 * 2 ^ ((128 - count_leading_zeros 128 n) - 1) ≡ 2 ^ (128 - count_leading_zeros 128 n) =
    twice_half (128 - count_leading_zeros 128 n) p in
    omega arith

-- ---- units

-- dividing amount and unit by a common factor does not change what a significand represents
pub stands_cancel : (s : ℕ) (loss : Loss) (amount unit w : ℕ) → 0 < w → StandsFor s loss (amount * w) (unit * w)
    → StandsFor s loss amount unit
stands_cancel s ExactlyZero amount unit w p h = eq_of_mul-eq-mul_right w p amount (s * unit) (omega (arith, h))
stands_cancel s LessThanHalf amount unit w p h =
    let a = h.0 in let b = h.1 in
    (lt_of_mul-lt-mul_right w (omega (arith, a)), lt_of_mul-lt-mul_right w (omega (arith, b)))
stands_cancel s ExactlyHalf amount unit w p h =
    eq_of_mul-eq-mul_right w p (2 * amount) ((2 * s + 1) * unit) (omega (arith, h))
stands_cancel s MoreThanHalf amount unit w p h =
    let a = h.0 in let b = h.1 in
    (lt_of_mul-lt-mul_right w (omega (arith, a)), lt_of_mul-lt-mul_right w (omega (arith, b)))

-- multiplying amount and unit by a factor does not change what a significand represents
pub stands_times : (s : ℕ) (loss : Loss) (amount unit w : ℕ) → 0 < w → StandsFor s loss amount unit
    → StandsFor s loss (amount * w) (unit * w)
stands_times s ExactlyZero amount unit w p h = let e : amount * w ≡ s * unit * w = ap (λ (x : ℕ). x * w) h in
    omega arith
stands_times s LessThanHalf amount unit w p h =
    let a : s * unit * w < amount * w = mul-lt-mul_of_pos_right h.0 p in
    let b : 2 * amount * w < (2 * s + 1) * unit * w = mul-lt-mul_of_pos_right h.1 p in
    (omega arith, omega arith)
stands_times s ExactlyHalf amount unit w p h =
    let e : 2 * amount * w ≡ (2 * s + 1) * unit * w = ap (λ (x : ℕ). x * w) h in omega arith
stands_times s MoreThanHalf amount unit w p h =
    let a : (2 * s + 1) * unit * w < 2 * amount * w = mul-lt-mul_of_pos_right h.0 p in
    let b : amount * w < (s + 1) * unit * w = mul-lt-mul_of_pos_right h.1 p in
    (omega arith, omega arith)

-- a unit moved up k places is that of the target place
pub same_unit : (parts k up down place : ℕ) → k + up ≡ place + down
    → 2 ^ k * (parts * 2 ^ up) ≡ 2 ^ place * parts * 2 ^ down
same_unit parts k up down place e =
    let a : 2 ^ (k + up) ≡ 2 ^ k * 2 ^ up = pow-add 2 k up in
    let b : 2 ^ (place + down) ≡ 2 ^ place * 2 ^ down = pow-add 2 place down in
    let d : 2 ^ (k + up) ≡ 2 ^ (place + down) = ap (λ (x : ℕ). 2 ^ x) e in
    let f : 2 ^ k * 2 ^ up ≡ 2 ^ place * 2 ^ down = omega arith in
    let g : 2 ^ k * 2 ^ up * parts ≡ 2 ^ place * 2 ^ down * parts = ap (λ (x : ℕ). x * parts) f in
    omega arith

-- what a cut keeps represents the amount in quanta
pub kept_stands : (q : ℕ) (loss : Loss) (amount parts k up down place : ℕ) → k + up ≡ place + down
    → StandsFor q loss (amount * 2 ^ down) (2 ^ k * (parts * 2 ^ up)) → StandsFor q loss amount (2 ^ place * parts)
kept_stands q loss amount parts k up down place e h =
    stands_cancel q loss amount (2 ^ place * parts) (2 ^ down) (pow_pos down)
    (subst (λ (x : ℕ). StandsFor q loss (amount * 2 ^ down) x) (same_unit parts k up down place e) h)

-- a significand shifted up, with nothing lost, represents the amount in quanta
pub shifted_stands : (s : ℕ) (loss : Loss) (amount parts j up down place : ℕ) → loss ≡ ExactlyZero
    → place + down + j ≡ up → StandsFor s loss (amount * 2 ^ down) (parts * 2 ^ up)
    → StandsFor (s * 2 ^ j) loss amount (2 ^ place * parts)
shifted_stands s loss amount parts j up down place z e h =
    let h' : StandsFor s ExactlyZero (amount * 2 ^ down) (parts * 2 ^ up) =
    subst (λ (x : Loss). StandsFor s x (amount * 2 ^ down) (parts * 2 ^ up)) z h in
    let a : 2 ^ (place + down + j) ≡ 2 ^ place * 2 ^ down * 2 ^ j = pow-add 2 (place + down) j ∙
    ap (λ (x : ℕ). x * 2 ^ j) (pow-add 2 place down) in
    let b : 2 ^ up ≡ 2 ^ place * 2 ^ down * 2 ^ j = ap (λ (x : ℕ). 2 ^ x) (sym e) ∙ a in
    let d : s * (parts * 2 ^ up) ≡ s * (parts * (2 ^ place * 2 ^ down * 2 ^ j)) = ap (λ (x : ℕ). s * (parts * x)) b in
    let g : amount * 2 ^ down ≡ s * 2 ^ j * (2 ^ place * parts) * 2 ^ down = omega (arith, h') in
    let r : StandsFor (s * 2 ^ j) ExactlyZero amount (2 ^ place * parts) =
    eq_of_mul-eq-mul_right (2 ^ down) (pow_pos down) amount (s * 2 ^ j * (2 ^ place * parts)) g in
    subst (λ (x : Loss). StandsFor (s * 2 ^ j) x amount (2 ^ place * parts)) (sym z) r

-- ---- what is kept fits the format, and has all its digits above the last place

-- with all digits past the precision cut off, a significand fits the format
pub fits_cut : (s digits k precision : ℕ) → s < 2 ^ digits → digits ≤ k + precision → s / 2 ^ k < 2 ^ precision
fits_cut s digits k precision h l =
    let a : 2 ^ digits ≤ 2 ^ (precision + k) = pow-le-pow_right two_pos (omega arith) in
    let b : 2 ^ (precision + k) ≡ 2 ^ precision * 2 ^ k = pow-add 2 precision k in
    (div-lt_iff_lt-mul (pow_pos k)).1 (omega arith)

-- with just the digits past the precision cut off, a significand has all the digits of the format
pub full_cut : (s digits k precision : ℕ) → 0 < precision → (0 < digits → 2 ^ (digits - 1) ≤ s)
    → digits ≡ k + precision → 2 ^ (precision - 1) ≤ s / 2 ^ k
full_cut s digits k precision p h e =
    let d : 0 < digits = omega arith in
    let a : 2 ^ (digits - 1) ≤ s = h d in
    let w : digits - 1 ≡ (precision - 1) + k = omega arith in
    let b : 2 ^ (digits - 1) ≡ 2 ^ (precision - 1) * 2 ^ k = ap (λ (x : ℕ). 2 ^ x) w ∙ pow-add 2 (precision - 1) k in
    (le-div_iff_mul-le (pow_pos k)).1 (omega arith)

-- shifted up to at most the precision, a significand fits the format
pub fits_shifted : (s digits j precision : ℕ) → s < 2 ^ digits → digits + j ≤ precision → s * 2 ^ j < 2 ^ precision
fits_shifted s digits j precision h l =
    let a : s * 2 ^ j < 2 ^ digits * 2 ^ j = mul-lt-mul_of_pos_right h (pow_pos j) in
    let b : 2 ^ (digits + j) ≡ 2 ^ digits * 2 ^ j = pow-add 2 digits j in
    let d : 2 ^ (digits + j) ≤ 2 ^ precision = pow-le-pow_right two_pos l in
    omega arith

-- a significand shifted up to the precision has all the digits of the format
pub full_shifted : (s digits j precision : ℕ) → 0 < digits → (0 < digits → 2 ^ (digits - 1) ≤ s)
    → digits + j ≡ precision → 2 ^ (precision - 1) ≤ s * 2 ^ j
full_shifted s digits j precision p h e =
    let a : 2 ^ (digits - 1) ≤ s = h p in
    let k : 2 ^ (digits - 1) * 2 ^ j ≤ s * 2 ^ j = mul-le-mul_right (2 ^ j) a in
    let w : (digits - 1) + j ≡ precision - 1 = omega arith in
    let b : 2 ^ (digits - 1) * 2 ^ j ≡ 2 ^ (precision - 1) = sym (pow-add 2 (digits - 1) j) ∙ ap (λ (x : ℕ). 2 ^ x) w in
    omega arith

-- cut at the target place, a significand fits the format
pub cut_fits : (precision s q digits k place up down : ℕ) → s < 2 ^ digits → digits + up ≤ place + precision + down
    → k + up ≡ place + down → q ≡ s / 2 ^ k → q < 2 ^ precision
cut_fits precision s q digits k place up down b c e w =
    subst (λ (x : ℕ). x < 2 ^ precision) (sym w) (fits_cut s digits k precision b (omega arith))

-- cut at the target place above the lowest one, a significand has all the digits of the format
pub cut_full : (precision s q digits k place up down : ℕ) → 0 < precision → (0 < digits → 2 ^ (digits - 1) ≤ s)
    → (place ≡ 0) ⊎ (digits + up ≡ place + precision + down) → k + up ≡ place + down → q ≡ s / 2 ^ k
    → (place ≡ 0) ⊎ (2 ^ (precision - 1) ≤ q)
cut_full precision s q digits k place up down p f r e w =
    ⊎_elim (λ z. inl z) (λ z. inr (subst (λ (x : ℕ). 2 ^ (precision - 1) ≤ x) (sym w)
    (full_cut s digits k precision p f (omega (arith, z))))) r

-- a significand shifted up stays within the machine word
pub shift_whole : (precision s digits j place up down : ℕ) → precision ≤ 125 → s < 2 ^ digits
    → digits + up ≤ place + precision + down → place + down + j ≡ up → s * 2 ^ j ≡ s * 2 ^ j % 2 ^ 128
shift_whole precision s digits j place up down p b c e =
    let l₀ : digits + j ≤ precision = omega arith in
    let l : s * 2 ^ j < 2 ^ precision = fits_shifted s digits j precision b l₀ in
    let p₁ : precision ≤ 128 = omega arith in
    let m : 2 ^ precision ≤ 2 ^ 128 = pow-le-pow_right two_pos p₁ in
    sym (mod-eq_of_lt (omega arith))

-- a significand that is not 0 has digits
pub some_digits : (s digits : ℕ) → s < 2 ^ digits → (s ≡ 0 → ⊥) → 0 < digits
some_digits s zero h n = absurd (n (omega arith))
some_digits s (suc d) h n = omega arith

-- shifted up to the target place, a significand fits the format
pub shift_fits : (precision s digits j place up down : ℕ) → precision ≤ 125 → s < 2 ^ digits
    → digits + up ≤ place + precision + down → place + down + j ≡ up → s * 2 ^ j % 2 ^ 128 < 2 ^ precision
shift_fits precision s digits j place up down p' b c e =
    subst (λ (x : ℕ). x < 2 ^ precision) (shift_whole precision s digits j place up down p' b c e)
    (fits_shifted s digits j precision b (omega arith))

-- shifted up to the target place above the lowest one, a significand has all the digits of the format
pub shift_full : (precision s digits j place up down : ℕ) → precision ≤ 125 → s < 2 ^ digits
    → (0 < digits → 2 ^ (digits - 1) ≤ s) → (s ≡ 0 → ⊥) → digits + up ≤ place + precision + down
    → (place ≡ 0) ⊎ (digits + up ≡ place + precision + down) → place + down + j ≡ up
    → (place ≡ 0) ⊎ (2 ^ (precision - 1) ≤ s * 2 ^ j % 2 ^ 128)
shift_full precision s digits j place up down p' b f n c r e =
    ⊎_elim (λ y. inl y)
    (λ y. inr (subst (λ (x : ℕ). 2 ^ (precision - 1) ≤ x) (shift_whole precision s digits j place up down p' b c e)
    (full_shifted s digits j precision (some_digits s digits b n) f (omega (arith, y))))) r

-- a significand that fits and represents the amount, normalized or at the lowest place, encloses it
pub enclosed_from : (precision q c : ℕ) (loss : Loss) (amount parts : ℕ) → 0 < precision → 0 < parts
    → q < 2 ^ precision → (c ≡ 0) ⊎ (2 ^ (precision - 1) ≤ q) → StandsFor q loss amount (2 ^ c * parts)
    → IsEnclosed precision (2 ^ (precision - 1)) q c amount parts
enclosed_from precision q c loss amount parts p u l f h =
    let v : 0 < 2 ^ c * parts = mul-pos (pow_pos c) u in
    let a : q * (2 ^ c * parts) ≤ amount = stands_from q loss amount (2 ^ c * parts) h in
    let b : amount < (q + 1) * (2 ^ c * parts) = stands_to q loss amount (2 ^ c * parts) v h in
    record { double = sym (twice_half precision p); fits = l; full = f; from = omega arith; to = omega arith }

-- ---- the three ways to keep digits

-- the digits that a cut keeps enclose the magnitude
pub cut_kept : (precision s q digits k place up down : ℕ) (loss : Loss) (amount parts : ℕ) → 0 < precision
    → 0 < parts → s < 2 ^ digits → (0 < digits → 2 ^ (digits - 1) ≤ s) → digits + up ≤ place + precision + down
    → (place ≡ 0) ⊎ (digits + up ≡ place + precision + down) → k + up ≡ place + down
    → q ≡ s / 2 ^ k → StandsFor q loss (amount * 2 ^ down) (2 ^ k * (parts * 2 ^ up))
    → IsEnclosed precision (2 ^ (precision - 1)) q place amount parts × StandsFor q loss amount (2 ^ place * parts)
cut_kept precision s q digits k place up down loss amount parts p u b f c r e w h =
    let g : StandsFor q loss amount (2 ^ place * parts) = kept_stands q loss amount parts k up down place e h in (
      enclosed_from precision q place loss amount parts p u (cut_fits precision s q digits k place up down b c e w)
          (cut_full precision s q digits k place up down p f r e w) g,
      g,
    )

-- the digits that were shifted up enclose the magnitude
pub shift_kept : (precision s digits j place up down : ℕ) (loss : Loss) (amount parts : ℕ) → 0 < precision
    → precision ≤ 125 → 0 < parts → s < 2 ^ digits → (0 < digits → 2 ^ (digits - 1) ≤ s) → (s ≡ 0 → ⊥)
    → digits + up ≤ place + precision + down → (place ≡ 0) ⊎ (digits + up ≡ place + precision + down)
    → place + down + j ≡ up → loss ≡ ExactlyZero → StandsFor s loss (amount * 2 ^ down) (parts * 2 ^ up)
    → IsEnclosed precision (2 ^ (precision - 1)) (s * 2 ^ j % 2 ^ 128) place amount parts
    × StandsFor (s * 2 ^ j % 2 ^ 128) loss amount (2 ^ place * parts)
shift_kept precision s digits j place up down loss amount parts p p' u b f n c r e z h =
    let g : StandsFor (s * 2 ^ j % 2 ^ 128) loss amount (2 ^ place * parts) =
    subst (λ (x : ℕ). StandsFor x loss amount (2 ^ place * parts))
    (shift_whole precision s digits j place up down p' b c e)
    (shifted_stands s loss amount parts j up down place z e h) in (
      enclosed_from precision (s * 2 ^ j % 2 ^ 128) place loss amount parts p u
          (shift_fits precision s digits j place up down p' b c e)
          (shift_full precision s digits j place up down p' b f n c r e) g,
      g,
    )

-- a significand with all its digits has no room to shift up
pub too_full : (s digits j precision : ℕ) → s < 2 ^ digits → 0 < j → digits + j ≤ precision
    → 2 ^ (precision - 1) ≤ s → ⊥
too_full s digits j precision b p l h =
    let d : digits ≤ precision - 1 = omega arith in
    let k : 2 ^ digits ≤ 2 ^ (precision - 1) = pow-le-pow_right two_pos d in
    omega arith

-- a significand of 0 with nothing lost is unchanged
pub zero_kept : (precision s up down : ℕ) (loss : Loss) (amount parts : ℕ)
    → 0 < precision → 0 < parts → s ≡ 0 → loss ≡ ExactlyZero → StandsFor s loss (amount * 2 ^ down) (parts * 2 ^ up)
    → IsEnclosed precision (2 ^ (precision - 1)) 0 0 amount parts × StandsFor 0 loss amount (2 ^ 0 * parts)
zero_kept precision s up down loss amount parts p u z e h =
    let h' : StandsFor 0 ExactlyZero (amount * 2 ^ down) (parts * 2 ^ up) =
    subst (λ (x : ℕ). StandsFor x ExactlyZero (amount * 2 ^ down) (parts * 2 ^ up)) z
    (subst (λ (x : Loss). StandsFor s x (amount * 2 ^ down) (parts * 2 ^ up)) e h) in
    let a : amount * 2 ^ down ≡ 0 * 2 ^ down = omega (arith, h') in
    let a' : amount ≡ 0 = eq_of_mul-eq-mul_right (2 ^ down) (pow_pos down) amount 0 a in
    let g : StandsFor 0 ExactlyZero amount (2 ^ 0 * parts) = omega (arith, a') in
    let g' : StandsFor 0 loss amount (2 ^ 0 * parts) =
    subst (λ (x : Loss). StandsFor 0 x amount (2 ^ 0 * parts)) (sym e) g in
    (enclosed_from precision 0 0 loss amount parts p u (pow_pos precision) (inl refl) g', g')

-- nothing was lost if the two other cases are excluded
nothing_lost : (loss : Loss) (P Q : Type 0) → (loss ≡ ExactlyZero) ⊎ (P ⊎ Q) → (P → ⊥) → (Q → ⊥) → loss ≡ ExactlyZero
nothing_lost loss P Q h n m = ⊎_elim (λ z. z) (λ o. absurd (⊎_elim n m o)) h

-- nothing was lost if the unit is above the place that is kept
pub exact_zero : (s precision : ℕ) (loss : Loss) (P : Type 0) → s ≡ 0
    → (loss ≡ ExactlyZero) ⊎ (P ⊎ (2 ^ (precision - 1) ≤ s)) → (P → ⊥) → loss ≡ ExactlyZero
exact_zero s precision loss P z h n =
    let p = pow_pos (precision - 1) in nothing_lost loss P _ h n (λ l. omega (arith, l, p))

-- what is shifted up has lost nothing, since what has lost something already has all its digits
pub exact_shift : (s digits j place up down precision : ℕ) (loss : Loss) (P : Type 0) → s < 2 ^ digits → 0 < j
    → digits + up ≤ place + precision + down → place + down + j ≡ up
    → (loss ≡ ExactlyZero) ⊎ (P ⊎ (2 ^ (precision - 1) ≤ s)) → (P → ⊥) → loss ≡ ExactlyZero
exact_shift s digits j place up down precision loss P b p c e h n =
    nothing_lost loss P _ h n (too_full s digits j precision b p (omega arith))

-- ---- all digits

-- a significand that fits has no more digits than the precision
pub digits_le : (s digits precision : ℕ) → s < 2 ^ precision → (0 < digits → 2 ^ (digits - 1) ≤ s) → digits ≤ precision
digits_le s digits precision h f =
    ⊎_elim
    (λ (l : precision < digits).
    let a : 2 ^ (digits - 1) ≤ s = f (omega arith) in
    absurd (omega (arith, exponent_below (digits - 1) precision (omega arith))))
    (λ (l : digits ≤ precision). l)
    (cases_lt precision digits)

-- a significand shifted up from its unit to a place is the same number of quanta
pub same_quanta : (s j place up down whole : ℕ) → s * 2 ^ j ≡ whole → j + up ≡ place + down
    → whole * 2 ^ up ≡ s * 2 ^ place * 2 ^ down
same_quanta s j place up down whole w e =
    let a : 2 ^ j * (s * 2 ^ up) ≡ 2 ^ place * s * 2 ^ down = same_unit s j up down place e in
    ap (λ (x : ℕ). x * 2 ^ up) (sym w) ∙ omega arith
