-- The cut of a significand that was rounded to odd.
use Rattle.std.proofs.Common.{◌≡◌, ℕ, zero, suc, ℤ, pos, negsuc, ◌+ℤ◌, ◌≤ℤ◌, unsigned_abs, ◌+◌, ◌-◌, ◌*◌, ◌/◌, ◌%◌, ◌^◌}
use Rattle.std.proofs.Common.{◌<◌, ◌≤◌, ◌⊎◌, sym, refl, ap, ◌∙◌, subst, inl, inr, ⊎_elim, arith}
use Rattle.std.proofs.Math.Path.{subst₂}
use Rattle.std.proofs.Math.Nat.{pow-le-pow_right, mul-le-mul_right, mul-lt-mul_of_pos_right, mul-pos, div-add-mod'}
use Rattle.std.proofs.lemmas.{Bool.cases_lt, Int.ints, Nat.pow-add, Nat.pow_pos}
use Rattle.apfloat_model.specs.{declared.loss.Loss.TheVariants.MoreThanHalf, rounding.Enclosure.IsEnclosed}
use Rattle.apfloat_model.specs.declared.loss.Loss.{Loss, TheVariants.ExactlyZero, TheVariants.LessThanHalf}
use Rattle.apfloat_model.specs.rounding.{RoundingToOdd.IsRoundedToOdd, Standing.StandsFor, Standing.up, Standing.down}
use Rattle.apfloat_model.proofs.general.Powers.{two_pos, twice_half, exponent_below, pow3}
use Rattle.apfloat_model.proofs.arithmetic.Signs.{no_up}
use Rattle.apfloat_model.proofs.rounding.{KeptDigits.enclosed_from, OddRoundings.whole_to_odd}
use Rattle.apfloat_model.proofs.rounding.KeptDigits.{kept_stands, fits_cut, fits_shifted, full_cut, full_shifted}
use Rattle.apfloat_rounding.specs.Cuts.{loss_at}
use Rattle.apfloat_rounding.proofs.CutRests.{loss_less, loss_more, rest_stands, rest_below}

-- ---- a significand at the top of a word

-- a number below 2 ^ width has at most that many digits
pub word_digits : (width n digits : ℕ) → n < 2 ^ width → (0 < digits → 2 ^ (digits - 1) ≤ n) → digits ≤ width
word_digits width n zero h f = omega arith
word_digits width n (suc d) h f =
    let l : 2 ^ (suc d - 1) ≤ n = f (omega arith) in
    let e : suc d - 1 ≡ d = omega arith in
    let k : 2 ^ d ≤ n = subst (λ (x : ℕ). 2 ^ x ≤ n) e l in
    let b : d < width = exponent_below d width (omega (arith, k, h)) in
    omega arith

-- a number moved up until it has all digits of the word fits in the word
pub top_fits : (width n digits : ℕ) → digits ≤ width → n < 2 ^ digits → n * 2 ^ (width - digits) < 2 ^ width
top_fits width n digits l h = fits_shifted n digits (width - digits) width h (omega (arith, l))

-- a number moved up until it has all digits of the word has its highest digit at the top
pub top_full : (width n digits : ℕ) → 0 < digits → digits ≤ width → 2 ^ (digits - 1) ≤ n
    → 2 ^ (width - 1) ≤ n * 2 ^ (width - digits)
top_full width n digits p l h = full_shifted n digits (width - digits) width p (λ _. h) (omega (arith, l))

-- ---- the rest of an odd significand

-- an amount less than one unit from q * (2 * h) + r, for r from 1 to h - 1, is less than half past q
beside_less : (q h r amount u w : ℕ) → 0 < r → r + 1 ≤ h → 0 < w → (q * (2 * h) + r) * u < amount + u
    → amount < (q * (2 * h) + r + 1) * u → StandsFor q LessThanHalf (amount * w) (2 * (h * w) * u)
beside_less q h r amount u w p l k a b =
    let x : q * (2 * h) * u < amount = omega (arith, a, mul-le-mul_right u p) in
    let y : 2 * amount < (2 * q + 1) * (2 * h) * u = omega (arith, b, mul-le-mul_right u l) in
    (omega (arith, mul-lt-mul_of_pos_right x k), omega (arith, mul-lt-mul_of_pos_right y k))

-- an amount less than one unit from q * (2 * h) + r, for r from h + 1 to 2 * h - 1, is more than half past q
beside_more : (q h r amount u w : ℕ) → h + 1 ≤ r → r + 1 ≤ 2 * h → 0 < w → (q * (2 * h) + r) * u < amount + u
    → amount < (q * (2 * h) + r + 1) * u → StandsFor q MoreThanHalf (amount * w) (2 * (h * w) * u)
beside_more q h r amount u w l t k a b =
    let x : (2 * q + 1) * (2 * h) * u < 2 * amount = omega (arith, a, mul-le-mul_right u l) in
    let y : amount < (q + 1) * (2 * h) * u = omega (arith, b, mul-le-mul_right u t) in
    (omega (arith, mul-lt-mul_of_pos_right x k), omega (arith, mul-lt-mul_of_pos_right y k))

-- if t is odd, and t * w is q * (2 * half) + rest with half = 2 * g * w, then q represents any amount less than one
-- unit from t, with the loss of the rest
pub odd_rest : (q g t rest amount u w : ℕ) → 0 < w → t % 2 ≡ 1 → t * w ≡ q * (2 * (2 * g * w)) + rest
    → rest < 2 * (2 * g * w) → t * u < amount + u → amount < (t + 1) * u
    → StandsFor q (loss_at rest (2 * g * w)) (amount * w) (2 * (2 * g * w) * u)
odd_rest q g t rest amount u w k o e l a b =
    let h = 2 * g in
    let r = t - q * (2 * h) in
    let s : q * (2 * h) * w ≤ t * w = omega (arith, e) in
    let s' : q * (2 * h) ≤ t =
    ⊎_elim
    (λ (c : t < q * (2 * h)). let d : t * w < q * (2 * h) * w = mul-lt-mul_of_pos_right c k in absurd (omega arith))
    (λ (c : q * (2 * h) ≤ t). c)
    (cases_lt t (q * (2 * h))) in
    let d : t ≡ q * (2 * h) + r = omega arith in
    let v : t * w ≡ (q * (2 * h) + r) * w = ap (λ (x : ℕ). x * w) d in
    let f : rest ≡ r * w = omega (arith, e, v) in
    let z : r % 2 ≡ 1 = omega (arith, o, d) in
    let a' : (q * (2 * h) + r) * u < amount + u = subst (λ (x : ℕ). x * u < amount + u) d a in
    let b' : amount < (q * (2 * h) + r + 1) * u = subst (λ (x : ℕ). amount < (x + 1) * u) d b in
    let below : r < 2 * h =
    ⊎_elim
    (λ (c : r < 2 * h). c)
    (λ (c : 2 * h ≤ r). let y : 2 * h * w ≤ r * w = mul-le-mul_right w c in absurd (omega (arith, y, f, l)))
    (cases_lt r (2 * h)) in
    ⊎_elim
    (λ (c : r < h).
    let y : (r + 1) * w ≤ h * w = mul-le-mul_right w (omega arith) in
    let i : 0 < r = omega (arith, z) in
    let p : 0 < rest = omega (arith, f, mul-pos i k) in
    subst (λ (x : Loss). StandsFor q x (amount * w) (2 * (h * w) * u)) (sym (loss_less rest (h * w) p
    (omega (arith, y, f, k)))) (beside_less q h r amount u w (omega (arith, z)) (omega arith) k a' b'))
    (λ (c : h ≤ r).
    let n : h + 1 ≤ r = omega (arith, z, c) in
    let y : (h + 1) * w ≤ r * w = mul-le-mul_right w n in
    subst (λ (x : Loss). StandsFor q x (amount * w) (2 * (h * w) * u)) (sym (loss_more rest (h * w)
    (omega (arith, y, f, k)))) (beside_more q h r amount u w n (omega arith) k a' b'))
    (cases_lt r h)

-- ---- a cut to the precision

-- a significand with that many digits, moved up to the top of a word, and its cut to the precision
pub record IsTopSplit (width precision s digits top place rest half up down : ℕ) : Type 0 where
  pub some : 0 < precision
  pub short : precision + 3 ≤ width
  pub word : digits ≤ width
  pub any : 0 < digits
  pub fits : s < 2 ^ digits
  pub full : 2 ^ (digits - 1) ≤ s
  pub top_is : top ≡ s * 2 ^ (width - digits)
  pub half_is : half ≡ 2 ^ (width - precision - 1)
  pub rest_is : rest ≡ top % 2 ^ (width - precision)
  pub place_is : digits + up ≡ place + precision + down

pub top_cut_fits : (width precision s digits top place rest half up down : ℕ)
    → IsTopSplit width precision s digits top place rest half up down → top / 2 ^ (width - precision) < 2 ^ precision
top_cut_fits width precision s digits top place rest half up down i =
    let f : top < 2 ^ width = subst (λ (x : ℕ). x < 2 ^ width) (sym i.top_is) (top_fits width s digits i.word i.fits) in
    fits_cut top width (width - precision) precision f (omega (arith, i.short))

pub top_cut_full : (width precision s digits top place rest half up down : ℕ)
    → IsTopSplit width precision s digits top place rest half up down
    → 2 ^ (precision - 1) ≤ top / 2 ^ (width - precision)
top_cut_full width precision s digits top place rest half up down i =
    let f : 2 ^ (width - 1) ≤ top =
    subst (λ (x : ℕ). 2 ^ (width - 1) ≤ x) (sym i.top_is) (top_full width s digits i.any i.word i.full) in
    full_cut top width (width - precision) precision i.some (λ _. f) (omega (arith, i.short))

-- the kept digits represent the amount in units of the significand, with the loss of the rest
top_stands : (width precision s digits top place rest half up down amount unit : ℕ)
    → IsTopSplit width precision s digits top place rest half up down → 0 < unit
    → IsRoundedToOdd (2 ^ (precision + 1)) s amount unit
    → StandsFor (top / 2 ^ (width - precision)) (loss_at rest half) (amount * 2 ^ (width - digits))
    (2 ^ (width - precision) * unit)
top_stands width precision s digits top place rest half up down amount unit i u h =
    let l = i.short in
    let k : 0 < width - precision = omega (arith, l) in
    let q = top / 2 ^ (width - precision) in
    let w = 2 ^ (width - digits) in
    let t : 2 * 2 ^ (width - precision - 1) ≡ 2 ^ (width - precision) = twice_half (width - precision) k in
    let t' : 2 * half ≡ 2 ^ (width - precision) = ap (λ (x : ℕ). 2 * x) i.half_is ∙ t in
    let b : rest < 2 * half = rest_below top (width - precision) half rest k i.half_is i.rest_is in
    let d : q * (2 * half) + rest ≡ top = ap (λ (x : ℕ). q * x + rest) t'
    ∙ ap (λ (x : ℕ). q * 2 ^ (width - precision) + x) i.rest_is ∙ div-add-mod' top (2 ^ (width - precision)) in
    let v : s * w ≡ q * (2 * half) + rest = sym i.top_is ∙ sym d in
    subst (λ (x : ℕ). StandsFor q (loss_at rest half) (amount * w) (x * unit)) t'
    (⊎_elim
    (λ (e : amount ≡ s * unit).
    rest_stands q half rest (amount * w) unit u b (omega (arith, ap (λ (x : ℕ). x * w) e, ap (λ (x : ℕ). x * unit) v)))
    (λ o.
    let p : precision + 1 < digits = exponent_below (precision + 1) digits (omega (arith, i.fits, o.long)) in
    let g = 2 ^ (width - 2 - precision - (width - digits)) in
    let x : 1 + (width - 2 - precision - (width - digits)) + (width - digits) ≡ width - precision - 1 =
    omega (arith, l, p) in
    let c : half ≡ 2 * g * w = i.half_is ∙ ap (λ (x : ℕ). 2 ^ x) (sym x) ∙
    pow3 1 (width - 2 - precision - (width - digits)) (width - digits) in
    let v' : s * w ≡ q * (2 * (2 * g * w)) + rest = subst (λ (x : ℕ). s * w ≡ q * (2 * x) + rest) c v in
    let b' : rest < 2 * (2 * g * w) = subst (λ (x : ℕ). rest < 2 * x) c b in
    subst (λ (x : ℕ). StandsFor q (loss_at rest x) (amount * w) (2 * x * unit)) (sym c)
    (odd_rest q g s rest amount unit w (pow_pos (width - digits)) o.odd v' b' o.above o.below))
    h)

-- the kept digits represent the amount in quanta, with the loss of the rest
pub top_cut_stands : (width precision s digits top place rest half up down amount parts : ℕ)
    → IsTopSplit width precision s digits top place rest half up down → 0 < parts
    → IsRoundedToOdd (2 ^ (precision + 1)) s (amount * 2 ^ down) (parts * 2 ^ up)
    → StandsFor (top / 2 ^ (width - precision)) (loss_at rest half) amount (2 ^ place * parts)
top_cut_stands width precision s digits top place rest half up down amount parts i p h =
    let a : amount * 2 ^ down * 2 ^ (width - digits) ≡ amount * 2 ^ (down + (width - digits)) =
    let x : 2 ^ (down + (width - digits)) ≡ 2 ^ down * 2 ^ (width - digits) = pow-add 2 down (width - digits) in
    omega (arith, ap (λ (z : ℕ). amount * z) x) in
    kept_stands (top / 2 ^ (width - precision)) (loss_at rest half) amount parts (width - precision) up
    (down + (width - digits)) place (omega (arith, i.short, i.word, i.place_is))
    (subst (λ (x : ℕ). StandsFor (top / 2 ^ (width - precision)) (loss_at rest half) x
    (2 ^ (width - precision) * (parts * 2 ^ up))) a
    (top_stands width precision s digits top place rest half up down (amount * 2 ^ down) (parts * 2 ^ up) i
    (mul-pos p (pow_pos up)) h))

pub top_cut_encloses : (width precision s digits top place rest half up down amount parts : ℕ)
    → IsTopSplit width precision s digits top place rest half up down → 0 < parts
    → IsRoundedToOdd (2 ^ (precision + 1)) s (amount * 2 ^ down) (parts * 2 ^ up)
    → IsEnclosed precision (2 ^ (precision - 1)) (top / 2 ^ (width - precision)) place amount parts
top_cut_encloses width precision s digits top place rest half up down amount parts i p h =
    enclosed_from precision (top / 2 ^ (width - precision)) place (loss_at rest half) amount parts i.some p
    (top_cut_fits width precision s digits top place rest half up down i)
    (inr (top_cut_full width precision s digits top place rest half up down i))
    (top_cut_stands width precision s digits top place rest half up down amount parts i p h)

-- ---- below the last place

-- the positive part of an integer that is not negative is its magnitude, and its negative part is 0
pub no_down : (z : ℤ) → pos 0 ≤ℤ z → (up z ≡ unsigned_abs z) × (down z ≡ 0)
no_down (pos n) h = (refl, refl)
no_down (negsuc n) h = absurd (omega (arith, ints, h))

-- a number of at most precision + 1 digits is below 2 ^ (precision + 1), where rounding to odd loses nothing
pub few_digits : (s digits precision : ℕ) → s < 2 ^ digits → digits ≤ precision + 1 → s < 2 ^ (precision + 1)
few_digits s digits precision f l = omega (arith, f, pow-le-pow_right two_pos l)

pub exact_if_short : (s precision amount unit : ℕ) → s < 2 ^ (precision + 1)
    → IsRoundedToOdd (2 ^ (precision + 1)) s amount unit → StandsFor s ExactlyZero amount unit
exact_if_short s precision amount unit f (inl e) = e
exact_if_short s precision amount unit f (inr o) = let m = o.long in absurd (omega (arith, m, f))

-- a significand rounded to odd from an integral number of quanta is exact if it is zero, or has no more digits above
-- the quantum than the precision
pub exact_below : (s digits precision amount : ℕ) (unit : ℤ)
    → (s ≡ 0) ⊎ ((s < 2 ^ digits) × ((unit +ℤ pos digits) ≤ℤ pos precision))
    → IsRoundedToOdd (2 ^ (precision + 1)) s (amount * 2 ^ down unit) (1 * 2 ^ up unit)
    → StandsFor s ExactlyZero (amount * 2 ^ down unit) (1 * 2 ^ up unit)
exact_below s digits precision amount unit d (inl e) = e
exact_below s digits precision amount unit (inl z) (inr o) = absurd (omega (arith, o.long, z, pow_pos (precision + 1)))
exact_below s digits precision amount unit (inr d) (inr o) =
    let f = d.0 in
    let g = d.1 in
    let m = o.long in
    let n : 2 ^ (precision + 1) < 2 ^ digits = omega (arith, f, m) in
    let p : precision + 1 < digits = exponent_below (precision + 1) digits n in
    let z : up unit ≡ 0 = no_up unit (omega (arith, ints, g, p)) in
    let e : 1 * 2 ^ up unit ≡ 1 = ap (λ (x : ℕ). 1 * 2 ^ x) z in
    let h : IsRoundedToOdd (2 ^ (precision + 1)) s (amount * 2 ^ down unit * 1) 1 =
    subst₂ (λ (x : ℕ) (y : ℕ). IsRoundedToOdd (2 ^ (precision + 1)) s x y) (omega arith) e (inr o) in
    let w = whole_to_odd (2 ^ (precision + 1)) s (amount * 2 ^ down unit) 1 h in
    subst (λ (y : ℕ). amount * 2 ^ down unit ≡ s * y) (sym e) (omega (arith, w))
