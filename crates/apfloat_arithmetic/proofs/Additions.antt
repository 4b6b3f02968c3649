-- The sum of two stored numbers, from the sum of their significands, which was rounded to odd.
use Rattle.std.proofs.Common.{◌≡◌, ℕ, zero, suc, ℤ, pos, negsuc, ◌+ℤ◌, ◌-ℤ◌, ◌≤ℤ◌, ◌+◌, ◌-◌, ◌*◌, ◌^◌, ◌<◌, ◌≤◌, Bool}
use Rattle.std.proofs.Common.{true, false, sym, refl, ap, ◌∙◌, inl, inr, arith}
use Rattle.std.proofs.Math.{Path.subst₂, Nat.eq_of_mul-eq-mul_right}
use Rattle.std.proofs.lemmas.{Nat.pow-add, Nat.pow_pos, Int.ints}
use Rattle.std.specs.Prelude.{unsigned_abs}
use Rattle.apfloat_model.specs.arithmetic.Exact.{up, down, signed, sign_of, magnitude}
use Rattle.apfloat_model.specs.rounding.RoundingToOdd.{IsRoundedToOdd}
use Rattle.apfloat_model.proofs.rounding.OddRoundings.{to_odd_times, to_odd_cancel}
use Rattle.apfloat_words.specs.Totals.{counted, IsSignedToOdd}
use Rattle.apfloat_words.proofs.Totals.{no_down}
use Rattle.apfloat_rounding.specs.Stored.{IsQuantaAt}

-- ---- a finer unit than the quantum

-- a significand counted from the base of a sum is the number of quanta, scaled
pub quanta_counted : (min xe tx base : ℤ) (k mx m : ℕ) → base ≤ℤ tx → (tx +ℤ min) ≡ ((xe +ℤ base) +ℤ pos k)
    → IsQuantaAt min mx xe m → mx * 2 ^ up (tx -ℤ base) ≡ m * 2 ^ k
quanta_counted min xe tx base k mx m l e i =
    let z : down (tx -ℤ base) ≡ 0 = no_down (tx -ℤ base) (omega (arith, ints)) in
    let v : up (tx -ℤ base) + down (xe -ℤ min) ≡ up (xe -ℤ min) + k = omega (arith, ints) in
    let a : 2 ^ up (tx -ℤ base) * 2 ^ down (xe -ℤ min) ≡ 2 ^ up (xe -ℤ min) * 2 ^ k =
    sym (pow-add 2 (up (tx -ℤ base)) (down (xe -ℤ min))) ∙ ap (λ (x : ℕ). 2 ^ x) v ∙ pow-add 2 (up (xe -ℤ min)) k in
    let b : mx * (2 ^ up (tx -ℤ base) * 2 ^ down (xe -ℤ min)) ≡ mx * (2 ^ up (xe -ℤ min) * 2 ^ k) =
    ap (λ (x : ℕ). mx * x) a in
    let d : m * 2 ^ down (xe -ℤ min) * 2 ^ k ≡ mx * 2 ^ up (xe -ℤ min) * 2 ^ k = ap (λ (x : ℕ). x * 2 ^ k) i in
    eq_of_mul-eq-mul_right (2 ^ down (xe -ℤ min)) (pow_pos (down (xe -ℤ min))) (mx * 2 ^ up (tx -ℤ base))
    (m * 2 ^ k) (omega arith)

-- the sum of two scaled numbers is the scaled sum
pub scaled_sum : (left right : Bool) (m n w : ℕ) (y z : ℤ) → y ≡ (signed left (m * w) +ℤ signed right (n * w))
    → z ≡ (signed left m +ℤ signed right n) → up y + down z * w ≡ down y + up z * w
scaled_sum true true m n w y z e d =
    let a : up z + (m + n) ≡ down z = omega (arith, ints) in
    let b : (up z + (m + n)) * w ≡ down z * w = ap (λ (x : ℕ). x * w) a in
    omega (arith, ints)
scaled_sum true false m n w y z e d =
    let a : up z + m ≡ down z + n = omega (arith, ints) in
    let b : (up z + m) * w ≡ (down z + n) * w = ap (λ (x : ℕ). x * w) a in
    omega (arith, ints)
scaled_sum false true m n w y z e d =
    let a : up z + n ≡ down z + m = omega (arith, ints) in
    let b : (up z + n) * w ≡ (down z + m) * w = ap (λ (x : ℕ). x * w) a in
    omega (arith, ints)
scaled_sum false false m n w y z e d =
    let a : up z ≡ down z + (m + n) = omega (arith, ints) in
    let b : up z * w ≡ (down z + (m + n)) * w = ap (λ (x : ℕ). x * w) a in
    omega (arith, ints)

-- if a signed amount is an integer scaled by w, the amount is w times the integer's magnitude
pub read_amount : (negative : Bool) (amount w : ℕ) (z : ℤ) → 0 < w
    → up (signed negative amount) + down z * w ≡ down (signed negative amount) + up z * w → amount ≡ magnitude z * w
read_amount true amount w (pos n) p e = omega (arith, ints)
read_amount true amount w (negsuc n) p e = omega (arith, ints)
read_amount false amount w (pos n) p e = omega (arith, ints)
read_amount false amount w (negsuc n) p e = omega (arith, ints)

-- if a signed amount is an integer scaled by w, both have the same sign
read_signed : (negative : Bool) (amount w : ℕ) (z : ℤ) → 0 < w
    → up (signed negative amount) + down z * w ≡ down (signed negative amount) + up z * w
    → signed negative (magnitude z) ≡ z
read_signed true amount w (pos zero) p e = refl
read_signed true amount w (pos (suc n)) p e = absurd (omega (arith, ints))
read_signed true amount w (negsuc n) p e = omega (arith, ints)
read_signed false amount w (pos n) p e = omega (arith, ints)
read_signed false amount w (negsuc n) p e = absurd (omega (arith, ints))

-- ---- the sum of the significands, as a number of quanta

-- `exact` quanta have that sign, and their magnitude is rounded to odd
pub record IsRepresentedToOdd (least : ℕ) (exact : ℤ) (negative : Bool) (unit : ℤ) (significand : ℕ) : Type 0 where
  pub rounded : IsRoundedToOdd least significand (magnitude exact * 2 ^ down unit) (1 * 2 ^ up unit)
  pub is : signed negative (magnitude exact) ≡ exact

-- a significand that was rounded to odd from units above a base is rounded to odd from quanta
read_to_odd : (least : ℕ) (base e unit : ℤ) (k amount whole q : ℕ) → base ≤ℤ e → e ≡ ((unit +ℤ base) +ℤ pos k)
    → amount ≡ whole * 2 ^ k → IsRoundedToOdd least q amount (2 ^ up (e -ℤ base))
    → IsRoundedToOdd least q (whole * 2 ^ down unit) (1 * 2 ^ up unit)
read_to_odd least base e unit k amount whole q l d a h =
    let z : down (e -ℤ base) ≡ 0 = no_down (e -ℤ base) (omega (arith, ints)) in
    let v : up (e -ℤ base) + down unit ≡ up unit + k = omega (arith, ints) in
    let p : 2 ^ up (e -ℤ base) * 2 ^ down unit ≡ 2 ^ up unit * 2 ^ k =
    sym (pow-add 2 (up (e -ℤ base)) (down unit)) ∙ ap (λ (x : ℕ). 2 ^ x) v ∙ pow-add 2 (up unit) k in
    let p' : 2 ^ up (e -ℤ base) * 2 ^ down unit ≡ 1 * 2 ^ up unit * 2 ^ k = omega arith in
    let w : amount * 2 ^ down unit ≡ whole * 2 ^ down unit * 2 ^ k = ap (λ (x : ℕ). x * 2 ^ down unit) a ∙
    omega arith in
    let t : IsRoundedToOdd least q (amount * 2 ^ down unit) (2 ^ up (e -ℤ base) * 2 ^ down unit) =
    to_odd_times least q amount (2 ^ up (e -ℤ base)) (2 ^ down unit) (pow_pos (down unit)) h in
    to_odd_cancel least q (whole * 2 ^ down unit) (1 * 2 ^ up unit) (2 ^ k) (pow_pos k)
    (subst₂ (λ (x : ℕ) (y : ℕ). IsRoundedToOdd least q x y) w p' t)

-- an amount that is rounded to odd to a nonzero significand is above 0, and one that is rounded to 0 is 0
odd_amount : (least q amount unit : ℕ) → 0 < unit → (q ≡ 0 → ⊥) → IsRoundedToOdd least q amount unit → 0 < amount
odd_amount least zero amount unit p n h = absurd (n refl)
odd_amount least (suc q) (suc amount) unit p n h = omega arith
odd_amount least (suc q) zero unit p n (inl e) = absurd (omega (arith, e, p))
odd_amount least (suc q) zero unit p n (inr b) = let a = b.above in absurd (omega (arith, a))

even_amount : (least q amount unit : ℕ) → q ≡ 0 → IsRoundedToOdd least q amount unit → amount ≡ 0
even_amount least zero amount unit z (inl e) = omega (arith, e)
even_amount least zero amount unit z (inr b) = let o = b.odd in absurd (omega (arith, o))
even_amount least (suc q) amount unit z h = absurd (omega (arith, z))

-- the sum of two terms that was rounded to odd represents the sum of their numbers of quanta
pub read_odd_sum : (least : ℕ) (base e unit : ℤ) (k m n : ℕ) (left right negative : Bool) (q : ℕ)
    → e ≡ ((unit +ℤ base) +ℤ pos k)
    → IsSignedToOdd least base (signed left (m * 2 ^ k) +ℤ signed right (n * 2 ^ k)) negative e q
    → IsRepresentedToOdd least (signed left m +ℤ signed right n) negative unit q
read_odd_sum least base e unit k m n s t negative q d h =
    let w : 0 < 2 ^ k = pow_pos k in
    let b = scaled_sum s t m n (2 ^ k) (signed negative h.amount) (signed s m +ℤ signed t n) h.is refl in
    let a : h.amount ≡ magnitude (signed s m +ℤ signed t n) * 2 ^ k =
    read_amount negative h.amount (2 ^ k) (signed s m +ℤ signed t n) w b in
    record {
      rounded = read_to_odd least base e unit k h.amount (magnitude (signed s m +ℤ signed t n)) q h.above d a h.rounded;
      is = read_signed negative h.amount (2 ^ k) (signed s m +ℤ signed t n) w b;
    }

-- the sign of an amount; a zero has the sign given for it
sign_of_none : (of_zero negative : Bool) → of_zero ≡ sign_of of_zero (signed negative 0)
sign_of_none of_zero true = refl
sign_of_none of_zero false = refl

sign_of_some : (of_zero negative : Bool) (amount : ℕ) → negative ≡ sign_of of_zero (signed negative (suc amount))
sign_of_some of_zero true amount = refl
sign_of_some of_zero false amount = refl

-- the sign of a total that was rounded to odd; a zero has the sign that the mode gives it
pub odd_sign : (least : ℕ) (of_zero negative answer : Bool) (q amount w unit : ℕ) → 0 < w → 0 < unit
    → IsRoundedToOdd least q (amount * w) unit → (q ≡ 0 → answer ≡ of_zero)
    → ((q ≡ 0 → ⊥) → answer ≡ negative) → answer ≡ sign_of of_zero (signed negative amount)
odd_sign least of_zero negative answer zero zero w unit p u h f g = f refl ∙ sign_of_none of_zero negative
odd_sign least of_zero negative answer zero (suc amount) w unit p u h f g =
    let a : suc amount * w ≡ 0 = even_amount least 0 (suc amount * w) unit refl h in absurd (omega (arith, a, p))
odd_sign least of_zero negative answer (suc q) zero w unit p u h f g =
    let k = λ (x : suc q ≡ 0). absurd (omega arith) in
    let a : 0 < 0 * w = odd_amount least (suc q) (0 * w) unit u k h in absurd (omega (arith, a))
odd_sign least of_zero negative answer (suc q) (suc amount) w unit p u h f g =
    let k = λ (x : suc q ≡ 0). absurd (omega arith) in g k ∙ sign_of_some of_zero negative amount

pub read_odd_sign : (least : ℕ) (of_zero : Bool) (exact unit : ℤ) (negative answer : Bool) (significand : ℕ)
    → IsRepresentedToOdd least exact negative unit significand → (significand ≡ 0 → answer ≡ of_zero)
    → ((significand ≡ 0 → ⊥) → answer ≡ negative) → answer ≡ sign_of of_zero exact
read_odd_sign least of_zero exact unit negative answer significand r f g =
    let u : 0 < 1 * 2 ^ up unit = let k : 0 < 2 ^ up unit = pow_pos (up unit) in omega (arith, k) in
    odd_sign least of_zero negative answer significand (magnitude exact) (2 ^ down unit) (1 * 2 ^ up unit)
    (pow_pos (down unit)) u r.rounded f g ∙ ap (λ (z : ℤ). sign_of of_zero z) r.is

-- the sum of the terms of two numbers, rounded to odd, represents the sum of their numbers of quanta
pub odd_sum_read : (least digits precision scale : ℕ) (min xe ye tx ty e unit : ℤ) (left right negative : Bool)
    (mx my m n q : ℕ) → ((min +ℤ pos 1) -ℤ pos precision) ≤ℤ xe → ((min +ℤ pos 1) -ℤ pos precision) ≤ℤ ye
    → (tx +ℤ pos precision) ≡ (xe +ℤ pos 1) → (ty +ℤ pos precision) ≡ (ye +ℤ pos 1)
    → (pos scale +ℤ min) +ℤ pos 1 ≡ pos precision → unit ≡ (e +ℤ pos scale) → IsQuantaAt min mx xe m
    → IsQuantaAt min my ye n → ((base : ℤ) → (base +ℤ pos digits) ≤ℤ tx → (base +ℤ pos digits) ≤ℤ ty
    → IsSignedToOdd least base (counted base left tx mx +ℤ counted base right ty my) negative e q)
    → IsRepresentedToOdd least (signed left m +ℤ signed right n) negative unit q
odd_sum_read least digits precision scale min xe ye tx ty e unit s t negative mx my m n q lx ly ax ay w u ix
    iy f =
    let base = ((min -ℤ pos precision) -ℤ pos precision) -ℤ pos (digits + 2) in
    let k = precision + digits + 3 in
    let bx : (base +ℤ pos digits) ≤ℤ tx = omega (arith, ints) in
    let by : (base +ℤ pos digits) ≤ℤ ty = omega (arith, ints) in
    let x : mx * 2 ^ up (tx -ℤ base) ≡ m * 2 ^ k =
    quanta_counted min xe tx base k mx m (omega (arith, ints)) (omega (arith, ints)) ix in
    let y : my * 2 ^ up (ty -ℤ base) ≡ n * 2 ^ k =
    quanta_counted min ye ty base k my n (omega (arith, ints)) (omega (arith, ints)) iy in
    let h : IsSignedToOdd least base (counted base s tx mx +ℤ counted base t ty my) negative e q = f base bx by in
    let h' : IsSignedToOdd least base (signed s (m * 2 ^ k) +ℤ signed t (n * 2 ^ k)) negative e q =
    subst₂ (λ (z : ℕ) (v : ℕ). IsSignedToOdd least base (signed s z +ℤ signed t v) negative e q) x y h in
    read_odd_sum least base e unit k m n s t negative q (omega (arith, ints)) h'

-- the scale plus the least exponent plus 1 is the precision
pub scale_is : (precision : ℕ) (min : ℤ) → 3 ≤ precision → min ≤ℤ negsuc 0
    → ((pos (unsigned_abs (pos (precision - 1) -ℤ min)) +ℤ min) +ℤ pos 1) ≡ pos precision
scale_is precision min p h = omega (arith, ints)
