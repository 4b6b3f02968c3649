-- The rest below the digits of a precision, and how it decides the rounding.
use Rattle.std.proofs.Common.{◌≡◌, ℕ, ◌+◌, ◌-◌, ◌*◌, ◌/◌, ◌%◌, ◌^◌, ◌<◌, ◌≤◌, Bool, true, false, cond, ltb, eqb, sym}
use Rattle.std.proofs.Common.{refl, ap, ◌∙◌, subst, inl, inr, ⊎_elim, arith, lit<}
use Rattle.std.proofs.Math.Nat.{mul-pos, mul-le-mul_right}
use Rattle.std.proofs.lemmas.Nat.{pow_pos, pow-add, mod_below, mod-pow-add, shr-shr}
use Rattle.std.proofs.lemmas.Bool.{cases_lt, lt-ltb, le-ltb, eq-eqb, ne_eqb}
use Rattle.apfloat_model.specs.declared.{kinds.Round.Round, loss.Loss.Loss}
use Rattle.apfloat_model.specs.declared.loss.Loss.TheVariants.{ExactlyZero, LessThanHalf, ExactlyHalf, MoreThanHalf}
use Rattle.apfloat_model.specs.formats.{Format.Format, Format.largest, Datum.Datum}
use Rattle.apfloat_model.specs.rounding.{Rounding.inexact_bit, Standing.StandsFor}
use Rattle.apfloat_model.specs.rounding.Enclosure.{IsEnclosed, rounds_up}
use Rattle.apfloat_model.specs.rounding.Rounding.{IsPick, IsDelivered, is_tiny, signed_quanta, ok_bits, underflow_bit}
use Rattle.apfloat_model.proofs.{formats.Ranges.below_top, general.Powers.twice_half}
use Rattle.apfloat_model.proofs.rounding.{Picks.pick_is, Tininess.not_below}
use Rattle.apfloat_model.proofs.rounding.Deliveries.{tiny_before, tiny_after, delivered_exactly, delivered_inexactly}
use Rattle.apfloat_model.proofs.rounding.Deliveries.{exact_if, inexact_if}
use Rattle.apfloat_model.proofs.rounding.KeptDigits.{kept_stands, fits_cut, full_cut, enclosed_from}
use Rattle.apfloat_model.proofs.rounding.Losses.{cut_less, cut_more, cut_at}
use Rattle.apfloat_rounding.specs.Cuts.{loss_at}

-- ---- the loss of a rest

pub loss_zero : (rest half : ℕ) → rest ≡ 0 → loss_at rest half ≡ ExactlyZero
loss_zero rest half e = let a : eqb rest 0 ≡ true = eq-eqb rest 0 e in rw a refl

pub loss_less : (rest half : ℕ) → 0 < rest → rest < half → loss_at rest half ≡ LessThanHalf
loss_less rest half p l =
    let a : eqb rest 0 ≡ false = ne_eqb rest 0 (λ z. omega (arith, z)) in
    let b : ltb rest half ≡ true = lt-ltb rest half l in
    rw (a, b) refl

pub loss_half : (rest half : ℕ) → 0 < rest → rest ≡ half → loss_at rest half ≡ ExactlyHalf
loss_half rest half p e =
    let a : eqb rest 0 ≡ false = ne_eqb rest 0 (λ z. omega (arith, z)) in
    let b : ltb rest half ≡ false = le-ltb rest half (omega (arith, e)) in
    let d : eqb rest half ≡ true = eq-eqb rest half e in
    rw (a, b, d) refl

pub loss_more : (rest half : ℕ) → half < rest → loss_at rest half ≡ MoreThanHalf
loss_more rest half l =
    let a : eqb rest 0 ≡ false = ne_eqb rest 0 (λ z. omega (arith, z)) in
    let b : ltb rest half ≡ false = le-ltb rest half (omega (arith, l)) in
    let d : eqb rest half ≡ false = ne_eqb rest half (λ z. omega (arith, z)) in
    rw (a, b, d) refl

-- the loss of a nonzero rest is not ExactlyZero
no_zero : (a b : Bool) → cond a LessThanHalf (cond b ExactlyHalf MoreThanHalf) ≡ ExactlyZero → ⊥
no_zero true b = λ e. cc
no_zero false true = λ e. cc
no_zero false false = λ e. cc

pub loss_some : (rest half : ℕ) → 0 < rest → loss_at rest half ≡ ExactlyZero → ⊥
loss_some rest half p z =
    let a : eqb rest 0 ≡ false = ne_eqb rest 0 (λ e. omega (arith, e)) in
    no_zero (ltb rest half) (eqb rest half) (rw a at z)

-- the loss of a rest of at most half is not MoreThanHalf
pub loss_at_most : (rest half : ℕ) → rest ≤ half → loss_at rest half ≡ MoreThanHalf → ⊥
loss_at_most rest half l e =
    ⊎_elim
    (λ (z : rest < 1). let a = sym (loss_zero rest half (omega arith)) ∙ e in cc)
    (λ (p : 1 ≤ rest).
    ⊎_elim
    (λ (b : rest < half). let a = sym (loss_less rest half (omega arith) b) ∙ e in cc)
    (λ (b : half ≤ rest). let a = sym (loss_half rest half (omega arith) (omega arith)) ∙ e in cc)
    (cases_lt rest half))
    (cases_lt rest 1)

-- a rest compares with its distance from the whole as it compares with half
loss_between : (rest half : ℕ) → rest < 2 * half → loss_at rest (2 * half - rest) ≡ loss_at rest half
loss_between rest half l =
    ⊎_elim
    (λ (z : rest < 1).
    loss_zero rest (2 * half - rest) (omega arith) ∙ sym (loss_zero rest half (omega arith)))
    (λ (p : 1 ≤ rest).
    ⊎_elim
    (λ (b : rest < half).
    loss_less rest (2 * half - rest) (omega arith) (omega arith) ∙ sym (loss_less rest half (omega arith) b))
    (λ (b : half ≤ rest).
    ⊎_elim
    (λ (m : half < rest). loss_more rest (2 * half - rest) (omega arith) ∙ sym (loss_more rest half m))
    (λ (n : rest ≤ half).
    loss_half rest (2 * half - rest) (omega arith) (omega arith)
    ∙ sym (loss_half rest half (omega arith) (omega arith)))
    (cases_lt half rest))
    (cases_lt rest half))
    (cases_lt rest 1)

-- if a significand represents the amount exactly, the kept digits represent it with the loss of the rest
pub rest_stands : (q half rest amount unit : ℕ) → 0 < unit → rest < 2 * half
    → StandsFor (q * (2 * half) + rest) ExactlyZero amount unit
    → StandsFor q (loss_at rest half) amount (2 * half * unit)
rest_stands q half rest amount unit u l h =
    ⊎_elim
    (λ (z : rest < 1).
    let e : rest ≡ 0 = omega arith in
    let g : StandsFor q ExactlyZero amount (2 * half * unit) = omega (arith, h, ap (λ (x : ℕ). x * unit) e) in
    subst (λ (x : Loss). StandsFor q x amount (2 * half * unit)) (sym (loss_zero rest half e)) g)
    (λ (p : 1 ≤ rest).
    ⊎_elim
    (λ (a : rest < half).
    subst (λ (x : Loss). StandsFor q x amount (2 * half * unit)) (sym (loss_less rest half (omega arith) a))
    (cut_less q half rest ExactlyZero amount unit u a (inl (omega arith)) h))
    (λ (b : half ≤ rest).
    ⊎_elim
    (λ (m : half < rest).
    subst (λ (x : Loss). StandsFor q x amount (2 * half * unit)) (sym (loss_more rest half m))
    (cut_more q half rest ExactlyZero amount unit u l (inl m) h))
    (λ (n : rest ≤ half).
    let e : rest ≡ half = omega arith in
    let v : rest * unit ≡ half * unit = ap (λ (x : ℕ). x * unit) e in
    let g : StandsFor q ExactlyHalf amount (2 * half * unit) = omega (arith, h, v) in
    subst (λ (x : Loss). StandsFor q x amount (2 * half * unit)) (sym (loss_half rest half (omega arith) e)) g)
    (cases_lt half rest))
    (cases_lt rest half))
    (cases_lt rest 1)

-- ---- a cut to the precision

-- the rest is below `2 * half`
pub rest_below : (s places half rest : ℕ) → 0 < places → half ≡ 2 ^ (places - 1) → rest ≡ s % 2 ^ places
    → rest < 2 * half
rest_below s places half rest p h r =
    omega (arith, twice_half places p, mod_below s (2 ^ places) (pow_pos places), h, r)

-- a significand with more digits than the precision, and its cut to the precision
pub record IsSplitRest (precision s digits place rest half up down : ℕ) : Type 0 where
  pub some : 0 < precision
  pub long : precision < digits
  pub fits : s < 2 ^ digits
  pub full : 2 ^ (digits - 1) ≤ s
  pub half_is : half ≡ 2 ^ (digits - precision - 1)
  pub rest_is : rest ≡ s % 2 ^ (digits - precision)
  pub place_is : digits + up ≡ place + precision + down

pub split_fits : (precision s digits : ℕ) → precision < digits → s < 2 ^ digits
    → s / 2 ^ (digits - precision) < 2 ^ precision
split_fits precision s digits l h = fits_cut s digits (digits - precision) precision h (omega arith)

pub split_full : (precision s digits : ℕ) → 0 < precision → precision < digits → 2 ^ (digits - 1) ≤ s
    → 2 ^ (precision - 1) ≤ s / 2 ^ (digits - precision)
split_full precision s digits p l h = full_cut s digits (digits - precision) precision p (λ _. h) (omega arith)

-- the kept digits represent the amount in quanta, with the loss of the rest
pub split_stands : (precision s digits place rest half up down amount parts : ℕ)
    → IsSplitRest precision s digits place rest half up down → 0 < parts
    → StandsFor s ExactlyZero (amount * 2 ^ down) (parts * 2 ^ up)
    → StandsFor (s / 2 ^ (digits - precision)) (loss_at rest half) amount (2 ^ place * parts)
split_stands precision s digits place rest half up down amount parts i p h =
    let l = i.long in
    let k : 0 < digits - precision = omega arith in
    let b = rest_below s (digits - precision) half rest k i.half_is i.rest_is in
    let e : digits - precision + up ≡ place + down = omega (arith, i.place_is) in
    kept_stands (s / 2 ^ (digits - precision)) (loss_at rest half) amount parts (digits - precision) up down place e
    (cut_at s (digits - precision) half rest ExactlyZero (loss_at rest half) k i.half_is i.rest_is
    (λ q a u v g. rest_stands q half rest a u v b g) (amount * 2 ^ down) (parts * 2 ^ up) (mul-pos p (pow_pos up)) h)

pub split_encloses : (precision s digits place rest half up down amount parts : ℕ)
    → IsSplitRest precision s digits place rest half up down → 0 < parts
    → StandsFor s ExactlyZero (amount * 2 ^ down) (parts * 2 ^ up)
    → IsEnclosed precision (2 ^ (precision - 1)) (s / 2 ^ (digits - precision)) place amount parts
split_encloses precision s digits place rest half up down amount parts i p h =
    enclosed_from precision (s / 2 ^ (digits - precision)) place (loss_at rest half) amount parts i.some p
    (split_fits precision s digits i.long i.fits) (inr (split_full precision s digits i.some i.long i.full))
    (split_stands precision s digits place rest half up down amount parts i p h)

-- ---- the point that is picked, and its status

-- the point moved as the loss demands is the one that is picked
pub picked_if_moved : (precision : ℕ) (mode : Round) (negative : Bool) (m c amount parts p : ℕ) (loss : Loss)
    (moved : Bool) → moved ≡ rounds_up mode negative loss (eqb (m % 2) 1) → p ≡ cond moved (m + 1) m * 2 ^ c
    → 0 < parts → IsEnclosed precision (2 ^ (precision - 1)) m c amount parts
    → StandsFor m loss amount (2 ^ c * parts) → IsPick precision mode negative amount parts p
picked_if_moved precision mode negative m c amount parts p loss moved e v u i h =
    subst (λ (x : ℕ). IsPick precision mode negative amount parts x)
    (sym (v ∙ ap (λ (b : Bool). cond b (m + 1) m * 2 ^ c) e))
    (pick_is precision mode negative (2 ^ (precision - 1)) m c amount parts loss u i h)

none_of : (b i x y z : Bool) → x ≡ false → y ≡ false → z ≡ false → cond b x (cond i y z) ≡ false
none_of true i x y z f g h = f
none_of false true x y z f g h = g
none_of false false x y z f g h = h

-- if all digits of the precision are kept, the result is not tiny by any rule
pub not_tiny : (format : Format) (mode : Round) (negative : Bool) (m c amount parts s place : ℕ) → 0 < parts
    → 2 ^ (format.precision - 1) ≤ m → 2 ^ (format.precision - 1) ≤ s
    → IsEnclosed format.precision (2 ^ (format.precision - 1)) m c amount parts
    → is_tiny format mode negative amount parts (s * 2 ^ place) ≡ false
not_tiny format mode negative m c amount parts s place p l f i =
    let half = 2 ^ (format.precision - 1) in
    none_of format.tiny_before_rounding format.ieee_flags _ _ _
    (sym (tiny_before format.precision half m c amount parts p i) ∙ le-ltb m half l)
    (not_below format.precision half m c amount parts mode negative p l i)
    (sym (tiny_after half s place (inr f)) ∙ le-ltb s half f)

-- ---- digits that are cut off as words

-- of a rest longer than a word, the lowest word matters only by whether it is 0, so one bit can replace it
pub folded : (u l h w s : ℕ) → l < w → (l ≡ 0 → s ≡ 0) → (0 < l → s ≡ 1)
    → loss_at (2 * u + s) (2 * h) ≡ loss_at (u * w + l) (h * w)
folded u l h w s b z o =
    ⊎_elim
    (λ (a : u < h).
    let m : (u + 1) * w ≤ h * w = mul-le-mul_right w (omega arith) in
    ⊎_elim
    (λ (y : l < 1).
    let e : l ≡ 0 = omega arith in
    let f = z e in
    ⊎_elim
    (λ (x : u < 1).
    let v : u ≡ 0 = omega arith in
    let p : u * w ≡ 0 * w = ap (λ (n : ℕ). n * w) v in
    loss_zero (2 * u + s) (2 * h) (omega (arith, f, v)) ∙ sym (loss_zero (u * w + l) (h * w) (omega (arith, e, p))))
    (λ (x : 1 ≤ u).
    let p : 1 * w ≤ u * w = mul-le-mul_right w x in
    loss_less (2 * u + s) (2 * h) (omega arith) (omega (arith, f))
    ∙ sym (loss_less (u * w + l) (h * w) (omega (arith, p, b)) (omega (arith, m, b))))
    (cases_lt u 1))
    (λ (y : 1 ≤ l).
    let f = o (omega arith) in
    loss_less (2 * u + s) (2 * h) (omega (arith, f)) (omega (arith, f))
    ∙ sym (loss_less (u * w + l) (h * w) (omega arith) (omega (arith, m, b))))
    (cases_lt l 1))
    (λ (a : h ≤ u).
    let m : h * w ≤ u * w = mul-le-mul_right w a in
    ⊎_elim
    (λ (y : l < 1).
    let e : l ≡ 0 = omega arith in
    let f = z e in
    ⊎_elim
    (λ (x : h < u).
    let k : (h + 1) * w ≤ u * w = mul-le-mul_right w (omega arith) in
    loss_more (2 * u + s) (2 * h) (omega arith)
    ∙ sym (loss_more (u * w + l) (h * w) (omega (arith, k, b))))
    (λ (x : u ≤ h).
    let v : u ≡ h = omega arith in
    let p : u * w ≡ h * w = ap (λ (n : ℕ). n * w) v in
    ⊎_elim
    (λ (g : h < 1).
    let q : h ≡ 0 = omega arith in
    loss_zero (2 * u + s) (2 * h) (omega (arith, f, v, q))
    ∙ sym (loss_zero (u * w + l) (h * w) (omega (arith, e, p, ap (λ (n : ℕ). n * w) q))))
    (λ (g : 1 ≤ h).
    loss_half (2 * u + s) (2 * h) (omega (arith, v, g)) (omega (arith, f, v))
    ∙ sym (loss_half (u * w + l) (h * w) (omega (arith, p, mul-le-mul_right w g, b)) (omega (arith, e, p))))
    (cases_lt h 1))
    (cases_lt h u))
    (λ (y : 1 ≤ l).
    loss_more (2 * u + s) (2 * h) (omega (arith, o (omega arith)))
    ∙ sym (loss_more (u * w + l) (h * w) (omega (arith, m))))
    (cases_lt l 1))
    (cases_lt u h)

-- scaling a rest and its half leaves the loss unchanged
pub loss_scaled : (r h k : ℕ) → 0 < k → loss_at (r * k) (h * k) ≡ loss_at r h
loss_scaled r h k p =
    let d : r * k ≡ r * k + 0 = omega arith in
    let e : r * 1 + 0 ≡ r = omega arith in
    let f : h * 1 ≡ h = omega arith in
    let a : loss_at (2 * r + 0) (2 * h) ≡ loss_at (r * k + 0) (h * k) =
    folded r 0 h k 0 p (λ z. z) (λ n. absurd (omega (arith, n))) in
    let b : loss_at (2 * r + 0) (2 * h) ≡ loss_at (r * 1 + 0) (h * 1) =
    folded r 0 h 1 0 (omega arith) (λ z. z) (λ n. absurd (omega (arith, n))) in
    ap (λ (x : ℕ). loss_at x (h * k)) d ∙ sym a ∙ b ∙ ap (λ (x : ℕ). loss_at x (h * 1)) e
    ∙ ap (λ (x : ℕ). loss_at r x) f

-- comparing the part of a rest past half with the distance to the whole is comparing twice that part with half
pub loss_past_half : (rest half : ℕ) → half < rest → rest < 2 * half
    → loss_at (rest - half) (2 * half - rest) ≡ loss_at (2 * (rest - half)) half
loss_past_half rest half l m =
    let b = rest - half in
    let d : 2 * half - rest ≡ half - (rest - half) = omega arith in
    let e : (rest - half) * 2 ≡ 2 * (rest - half) = omega arith in
    let f : (half - (rest - half)) * 2 ≡ 2 * half - 2 * (rest - half) = omega arith in
    ap (λ (x : ℕ). loss_at b x) d ∙ sym (loss_scaled b (half - b) 2 (lit< tt))
    ∙ ap (λ (x : ℕ). loss_at x ((half - b) * 2)) e ∙ ap (λ (x : ℕ). loss_at (2 * b) x) f
    ∙ loss_between (2 * b) half (omega arith)

-- a rest longer than a word, folded in units of which half is 2 ^ (places - word), has the same loss
pub folded_rest : (s word places upper some half : ℕ) → word < places → upper ≡ s / 2 ^ word % 2 ^ (places - word)
    → (s % 2 ^ word ≡ 0 → some ≡ 0) → (0 < s % 2 ^ word → some ≡ 1) → half ≡ 2 ^ (places - word)
    → loss_at (2 * upper + some) half ≡ loss_at (s % 2 ^ places) (2 ^ (places - 1))
folded_rest s word places upper some half l u z o h =
    let e : places ≡ places - word + word = omega arith in
    let a : s % 2 ^ places ≡ s / 2 ^ word % 2 ^ (places - word) * 2 ^ word + s % 2 ^ word =
    ap (λ (x : ℕ). s % 2 ^ x) e ∙ mod-pow-add s (places - word) word in
    let t : 2 * 2 ^ (places - word - 1) ≡ 2 ^ (places - word) = twice_half (places - word) (omega arith) in
    let d : places - 1 ≡ places - word - 1 + word = omega arith in
    let p : 2 ^ (places - 1) ≡ 2 ^ (places - word - 1) * 2 ^ word =
    ap (λ (x : ℕ). 2 ^ x) d ∙ pow-add 2 (places - word - 1) word in
    ap (λ (x : ℕ). loss_at (2 * x + some) half) u
    ∙ ap (λ (x : ℕ). loss_at (2 * (s / 2 ^ word % 2 ^ (places - word)) + some) x) (h ∙ sym t)
    ∙ folded (s / 2 ^ word % 2 ^ (places - word)) (s % 2 ^ word) (2 ^ (places - word - 1)) (2 ^ word) some
    (mod_below s (2 ^ word) (pow_pos word)) z o ∙ ap (λ (x : ℕ). loss_at x (2 ^ (places - word - 1) * 2 ^ word)) (sym a)
    ∙ ap (λ (x : ℕ). loss_at (s % 2 ^ places) x) (sym p)

-- cutting off a word, then the remaining places, cuts off all the places
pub upper_kept : (s word places : ℕ) → word < places → s / 2 ^ word / 2 ^ (places - word) ≡ s / 2 ^ places
upper_kept s word places l =
    let e : word + (places - word) ≡ places = omega arith in
    shr-shr s word (places - word) ∙ ap (λ (x : ℕ). s / 2 ^ x) e

-- a significand below the next power of two, at a place below the greatest one, is within the largest value
pub within_format : (format : Format) (next place : ℕ) → 3 ≤ format.precision → next < 2 ^ format.precision
    → place < format.span → next * 2 ^ place ≤ largest format
within_format format next place = below_top format next place

-- the kept digits of a cut enclose the amount, and represent it with the loss of the rest, in any units
pub cut_off : (precision s digits place rest half up down amount parts kept some unit : ℕ)
    → IsSplitRest precision s digits place rest half up down → kept ≡ s / 2 ^ (digits - precision)
    → loss_at some unit ≡ loss_at rest half → 0 < parts → StandsFor s ExactlyZero (amount * 2 ^ down) (parts * 2 ^ up)
    → IsEnclosed precision (2 ^ (precision - 1)) kept place amount parts
    × StandsFor kept (loss_at some unit) amount (2 ^ place * parts)
cut_off precision s digits place rest half up down amount parts kept some unit i k l p g = (
  subst (λ (n : ℕ). IsEnclosed precision (2 ^ (precision - 1)) n place amount parts) (sym k)
      (split_encloses precision s digits place rest half up down amount parts i p g),
  subst (λ (n : ℕ). StandsFor n (loss_at some unit) amount (2 ^ place * parts)) (sym k)
      (subst (λ (x : Loss). StandsFor (s / 2 ^ (digits - precision)) x amount (2 ^ place * parts)) (sym l)
      (split_stands precision s digits place rest half up down amount parts i p g)),
)

-- a point that is moved as the rest demands is delivered, if it is within the format
pub delivered_within : (format : Format) (mode : Round) (negative : Bool)
    (m c amount parts p rest half : ℕ) (moved tiny : Bool) (value : Datum) (status : ℕ)
    → 0 < parts → moved ≡ rounds_up mode negative (loss_at rest half) (eqb (m % 2) 1) → p ≡ cond moved (m + 1) m * 2 ^ c
    → ltb (largest format) p ≡ false → IsEnclosed format.precision (2 ^ (format.precision - 1)) m c amount parts
    → StandsFor m (loss_at rest half) amount (2 ^ c * parts)
    → is_tiny format mode negative amount parts p ≡ tiny → value ≡ signed_quanta format.nonfinite negative p
    → (rest ≡ 0 → status ≡ ok_bits) → ((rest ≡ 0 → ⊥) → status ≡ cond tiny (underflow_bit + inexact_bit) inexact_bit)
    → IsDelivered format mode negative amount parts value status
delivered_within format mode negative m c amount parts p rest half moved tiny value status u e v a i h t w z o =
    let loss = loss_at rest half in
    let is = picked_if_moved format.precision mode negative m c amount parts p loss moved e v u i h in
    ⊎_elim
    (λ (y : rest < 1).
    let n : rest ≡ 0 = omega arith in
    delivered_exactly format mode negative amount parts p value status is a
    (exact_if format.precision mode negative (2 ^ (format.precision - 1)) m c amount parts p loss
    (loss_zero rest half n) u i h is)
    w (z n))
    (λ (y : 1 ≤ rest).
    let n : rest ≡ 0 → ⊥ = λ (x : rest ≡ 0). omega (arith, x) in
    delivered_inexactly format mode negative amount parts p value status is a
    (inexact_if format.precision mode negative (2 ^ (format.precision - 1)) m c amount parts p loss
    (loss_some rest half (omega arith)) u i h is)
    w (rw t (o n)))
    (cases_lt rest 1)
