-- The cut of a significand of one word where at most half a unit may be left of it: at the quantum, or at a binary
-- point.
use Rattle.std.proofs.Common.{◌≡◌, ℕ, ◌+◌, ◌-◌, ◌*◌, ◌/◌, ◌%◌, ◌^◌, ◌<◌, ◌≤◌}
use Rattle.std.proofs.Common.{Bool, sym, refl, ap, ◌∙◌, subst, inl, inr, ⊎_elim, arith, lit<, lit≤}
use Rattle.std.proofs.Math.{Path.subst₂, Nat.div-eq_of_lt, Nat.mul-le-mul_right, Nat.mul-lt-mul_of_pos_right}
use Rattle.std.proofs.Math.Nat.{lt_of_mul-lt-mul_right, mul-pos, pow-le-pow_right, div-add-mod', mod-eq_of_lt}
use Rattle.std.proofs.lemmas.{Nat.pow-add, Nat.pow_pos, Nat.mod_below, Nat.mod-mul-add, Bool.cases_lt}
use Rattle.apfloat_model.specs.declared.{kinds.Round.Round, loss.Loss.Loss}
use Rattle.apfloat_model.specs.declared.loss.Loss.TheVariants.{ExactlyZero, LessThanHalf, ExactlyHalf, MoreThanHalf}
use Rattle.apfloat_model.specs.{formats.Format.Format, formats.Datum.Datum, rounding.Enclosure.IsEnclosed}
use Rattle.apfloat_model.specs.rounding.Rounding.{IsDelivered, signed_quanta, ok_bits}
use Rattle.apfloat_model.specs.rounding.{RoundingToOdd.IsRoundedToOdd, Standing.StandsFor}
use Rattle.apfloat_model.proofs.formats.Ranges.{half_within}
use Rattle.apfloat_model.proofs.general.Powers.{two_pos, twice_half, exponent_below, pow3}
use Rattle.apfloat_model.proofs.rounding.KeptDigits.{kept_stands, stands_cancel, stands_times, fits_cut, full_cut}
use Rattle.apfloat_model.proofs.rounding.{KeptDigits.enclosed_from, Laws.exact_delivered, Losses.cut_at}
use Rattle.apfloat_model.proofs.rounding.OddRoundings.{to_odd_cancel, to_odd_times}
use Rattle.apfloat_words.proofs.LongDivisions.{whole_quotient}
use Rattle.apfloat_rounding.specs.Cuts.{loss_at}
use Rattle.apfloat_rounding.proofs.{OddCuts.odd_rest, CutRests.loss_past_half, CutRests.loss_scaled}
use Rattle.apfloat_rounding.proofs.{CutRests.rest_below, CutRests.rest_stands, HalfQuanta.half_stands}

-- ---- farther places

-- an amount below half of the unit at a place is represented by 0 with the same loss at each higher place
pub stands_farther : (k places amount unit : ℕ) (loss : Loss) → k ≤ places → 2 * amount < 2 ^ k * unit
    → StandsFor 0 loss amount (2 ^ k * unit) → StandsFor 0 loss amount (2 ^ places * unit)
stands_farther k places amount unit ExactlyZero p e h = omega (arith, h)
stands_farther k places amount unit LessThanHalf p e h =
    (omega (arith, h.0), omega (arith, h.1, mul-le-mul_right unit (pow-le-pow_right two_pos p)))
stands_farther k places amount unit ExactlyHalf p e h = absurd (omega (arith, h, e))
stands_farther k places amount unit MoreThanHalf p e h = let f = h.0 in absurd (omega (arith, f, e))

-- if s is below half of 2 ^ k, then s units are below half of 2 ^ k units
pub less_than_half : (s k amount unit : ℕ) → 2 * s < 2 ^ k → 0 < unit → amount ≡ s * unit → 2 * amount < 2 ^ k * unit
less_than_half s k amount unit l u e =
    let a : (2 * s + 1) * unit ≤ 2 ^ k * unit = mul-le-mul_right unit (omega (arith, l)) in
    omega (arith, a, e, u)

-- nothing of a significand below 2 ^ k is left at the place k or above
pub nothing_left : (s k places : ℕ) → s < 2 ^ k → k ≤ places → s / 2 ^ places ≡ 0
nothing_left s k places l p = div-eq_of_lt (omega (arith, l, pow-le-pow_right two_pos p))

-- shifting by k in place of more places leaves the same quotient, if the significand is below half of 2 ^ k
pub word_quotient : (s k places shift : ℕ) → 2 * s < 2 ^ k → (places ≤ k → shift ≡ places)
    → (k < places → shift ≡ k) → s / 2 ^ shift ≡ s / 2 ^ places
word_quotient s k places shift l n f =
    ⊎_elim
    (λ (a : k < places).
    let b : s < 2 ^ k = omega (arith, l) in
    ap (λ (x : ℕ). s / 2 ^ x) (f a) ∙ nothing_left s k k b (omega arith)
    ∙ sym (nothing_left s k places b (omega (arith, a))))
    (λ (a : places ≤ k). ap (λ (x : ℕ). s / 2 ^ x) (n a))
    (cases_lt k places)

pub word_stands : (s k places shift amount unit : ℕ) (loss : Loss) → 2 * s < 2 ^ k → (places ≤ k → shift ≡ places)
    → (k < places → shift ≡ k) → 2 * amount < 2 ^ k * unit → StandsFor (s / 2 ^ shift) loss amount (2 ^ shift * unit)
    → StandsFor (s / 2 ^ shift) loss amount (2 ^ places * unit)
word_stands s k places shift amount unit loss l n f e h =
    ⊎_elim
    (λ (a : k < places).
    let b : s < 2 ^ k = omega (arith, l) in
    let z : s / 2 ^ shift ≡ 0 = ap (λ (x : ℕ). s / 2 ^ x) (f a) ∙ nothing_left s k k b (omega arith) in
    let g : StandsFor 0 loss amount (2 ^ k * unit) =
    subst (λ (x : ℕ). StandsFor 0 loss amount (2 ^ x * unit)) (f a)
    (subst (λ (q : ℕ). StandsFor q loss amount (2 ^ shift * unit)) z h) in
    subst (λ (q : ℕ). StandsFor q loss amount (2 ^ places * unit)) (sym z)
    (stands_farther k places amount unit loss (omega (arith, a)) e g))
    (λ (a : places ≤ k). subst (λ (x : ℕ). StandsFor (s / 2 ^ shift) loss amount (2 ^ x * unit)) (n a) h)
    (cases_lt k places)

-- ---- the rest at the top of a word

-- a significand moved to the top of a word leaves the digits below the cut there
top_rest : (s places word : ℕ) → places ≤ word
    → s * 2 ^ (word - places) % 2 ^ word ≡ s % 2 ^ places * 2 ^ (word - places)
top_rest s places word l =
    let k = 2 ^ (word - places) in
    let q = s / 2 ^ places in
    let r = s % 2 ^ places in
    let e : places + (word - places) ≡ word = omega arith in
    let w : 2 ^ word ≡ 2 ^ places * k = ap (λ (x : ℕ). 2 ^ x) (sym e) ∙ pow-add 2 places (word - places) in
    let d : q * 2 ^ places + r ≡ s = div-add-mod' s (2 ^ places) in
    let v : s * k ≡ q * 2 ^ word + r * k = omega (arith, ap (λ (x : ℕ). x * k) d, ap (λ (x : ℕ). q * x) w) in
    let b : r < 2 ^ places = mod_below s (2 ^ places) (pow_pos places) in
    let b' : r * k < 2 ^ places * k = mul-lt-mul_of_pos_right b (pow_pos (word - places)) in
    ap (λ (x : ℕ). x % 2 ^ word) v ∙ mod-mul-add q (2 ^ word) (r * k) (omega (arith, b', w))

-- the cut at the quantum of a significand of at most 62 digits, below the smallest normalized value: `places` digits
-- are below the quantum, and the shift is at most 63
pub record IsQuantumCut (precision s digits places shift half : ℕ) : Type 0 where
  pub some : 0 < precision
  pub short : digits ≤ 62
  pub fits : s < 2 ^ digits
  pub below : digits + 1 ≤ precision + places
  pub near : places ≤ 63 → shift ≡ places
  pub far : 63 < places → shift ≡ 63
  pub bound : shift ≤ 63
  pub cuts : 0 < shift
  pub half_is : half ≡ 2 ^ 63

-- a significand of at most 62 digits is below half of 2 ^ 63
half_word : (s digits : ℕ) → digits ≤ 62 → s < 2 ^ digits → 2 * s < 2 ^ 63
half_word s digits l h = let a : 2 ^ digits ≤ 2 ^ 62 = pow-le-pow_right two_pos l in omega (arith, a, h)

pub quantum_fits : (precision s digits places shift half : ℕ) → IsQuantumCut precision s digits places shift half
    → s / 2 ^ shift < 2 ^ (precision - 1)
quantum_fits precision s digits places shift half i =
    let e = word_quotient s 63 places shift (half_word s digits i.short i.fits) i.near i.far in
    subst (λ (x : ℕ). x < 2 ^ (precision - 1)) (sym e)
    (fits_cut s digits places (precision - 1) i.fits (omega (arith, i.below, i.some)))

-- the loss of the rest at the top of the word is that of the digits below the cut
top_loss : (s shift half : ℕ) → 0 < shift → shift ≤ 63 → half ≡ 2 ^ 63
    → loss_at (s * 2 ^ (64 - shift) % 2 ^ 64) half ≡ loss_at (s % 2 ^ shift) (2 ^ (shift - 1))
top_loss s shift half p l h =
    let k = 2 ^ (64 - shift) in
    let e : 63 ≡ shift - 1 + (64 - shift) = omega (arith, p, l) in
    let w : half ≡ 2 ^ (shift - 1) * k = h ∙ ap (λ (x : ℕ). 2 ^ x) e ∙ pow-add 2 (shift - 1) (64 - shift) in
    ap (λ (x : ℕ). loss_at x half) (top_rest s shift 64 (omega (arith, l)))
    ∙ ap (λ (x : ℕ). loss_at (s % 2 ^ shift * k) x) w
    ∙ loss_scaled (s % 2 ^ shift) (2 ^ (shift - 1)) k (pow_pos (64 - shift))

-- the kept digits of an odd significand represent the amount in its units, with the loss of the rest
odd_stands : (s shift half amount unit : ℕ) → 2 ≤ shift → shift ≤ 63 → half ≡ 2 ^ 63 → s % 2 ≡ 1
    → s * unit < amount + unit → amount < (s + 1) * unit
    → StandsFor (s / 2 ^ shift) (loss_at (s * 2 ^ (64 - shift) % 2 ^ 64) half) amount (2 ^ shift * unit)
odd_stands s shift half amount unit p l h o a b =
    let w = 2 ^ (64 - shift) in
    let g = 2 ^ (shift - 2) in
    let q = s / 2 ^ shift in
    let rest = s * 2 ^ (64 - shift) % 2 ^ 64 in
    let e : 63 ≡ 1 + (shift - 2) + (64 - shift) = omega (arith, p, l) in
    let c : half ≡ 2 * g * w = h ∙ ap (λ (x : ℕ). 2 ^ x) e ∙ pow3 1 (shift - 2) (64 - shift) in
    let e' : 64 ≡ shift + (64 - shift) = omega (arith, l) in
    let c' : 2 ^ 64 ≡ 2 ^ shift * w = ap (λ (x : ℕ). 2 ^ x) e' ∙ pow-add 2 shift (64 - shift) in
    let t : 2 * (2 * g * w) ≡ 2 ^ shift * w = omega (arith, c, c', h) in
    let r = top_rest s shift 64 (omega (arith, l)) in
    let d : q * 2 ^ shift + s % 2 ^ shift ≡ s = div-add-mod' s (2 ^ shift) in
    let d' : (q * 2 ^ shift + s % 2 ^ shift) * w ≡ s * w = ap (λ (x : ℕ). x * w) d in
    let t' : q * (2 * (2 * g * w)) ≡ q * (2 ^ shift * w) = ap (λ (x : ℕ). q * x) t in
    let v : s * w ≡ q * (2 * (2 * g * w)) + rest = omega (arith, d', t', r) in
    let m : rest < 2 ^ 64 = mod_below (s * w) (2 ^ 64) (pow_pos 64) in
    let k = odd_rest q g s rest amount unit w (pow_pos (64 - shift)) o v (omega (arith, m, c', t)) a b in
    let t'' : 2 * (2 * g * w) * unit ≡ 2 ^ shift * unit * w = ap (λ (x : ℕ). x * unit) t ∙ omega arith in
    subst (λ (x : ℕ). StandsFor q (loss_at rest x) amount (2 ^ shift * unit)) (sym c)
    (stands_cancel q (loss_at rest (2 * g * w)) amount (2 ^ shift * unit) w (pow_pos (64 - shift))
    (subst (λ (x : ℕ). StandsFor q (loss_at rest (2 * g * w)) (amount * w) x) t'' k))

-- the kept digits of an exact significand represent the amount in its units, with the loss of the rest
exact_stands : (s shift half amount unit : ℕ) → 0 < shift → shift ≤ 63 → half ≡ 2 ^ 63 → 0 < unit → amount ≡ s * unit
    → StandsFor (s / 2 ^ shift) (loss_at (s * 2 ^ (64 - shift) % 2 ^ 64) half) amount (2 ^ shift * unit)
exact_stands s shift half amount unit k l h u e =
    let rest = s % 2 ^ shift in
    let below = 2 ^ (shift - 1) in
    subst (λ (x : Loss). StandsFor (s / 2 ^ shift) x amount (2 ^ shift * unit)) (sym (top_loss s shift half k l h))
    (cut_at s shift below rest ExactlyZero (loss_at (s % 2 ^ shift) (2 ^ (shift - 1))) k refl refl
    (λ q a v z g. rest_stands q below rest a v z (rest_below s shift below rest k refl refl) g) amount unit u e)

-- the amount of a significand that was rounded to odd is below half of 2 ^ 63 units, and the kept digits represent it,
-- with the loss of the rest
rounded_stands : (precision s digits places shift half amount unit : ℕ)
    → IsQuantumCut precision s digits places shift half → 0 < unit
    → IsRoundedToOdd (2 ^ (precision + 1)) s amount unit → (2 * amount < 2 ^ 63 * unit)
    × StandsFor (s / 2 ^ shift) (loss_at (s * 2 ^ (64 - shift) % 2 ^ 64) half) amount (2 ^ shift * unit)
rounded_stands precision s digits places shift half amount unit i u (inl e) = (
  less_than_half s 63 amount unit (half_word s digits i.short i.fits) u e,
  exact_stands s shift half amount unit i.cuts i.bound i.half_is u e,
)
rounded_stands precision s digits places shift half amount unit i u (inr o) =
    let n = i.near in
    let r = i.far in
    let p : precision + 1 < digits = exponent_below (precision + 1) digits (omega (arith, i.fits, o.long)) in
    let c : 2 ≤ shift = ⊎_elim (λ (a : 63 < places). omega (arith, r a))
    (λ (a : places ≤ 63). omega (arith, n a, i.below, p)) (cases_lt 63 places) in
    let h : 2 * s < 2 ^ 63 = half_word s digits i.short i.fits in
    let h' : (2 * s + 2) * unit ≤ 2 ^ 63 * unit = mul-le-mul_right unit (omega (arith, h)) in
    let b = o.below in (
      omega (arith, b, h'),
      odd_stands s shift half amount unit c i.bound i.half_is o.odd o.above o.below,
    )

-- the kept digits represent the amount in quanta, with the loss of the rest
pub quantum_stands : (precision s digits places shift half up down amount parts : ℕ)
    → IsQuantumCut precision s digits places shift half → 0 < parts → up ≡ 0 → down ≡ places
    → IsRoundedToOdd (2 ^ (precision + 1)) s (amount * 2 ^ down) (parts * 2 ^ up)
    → StandsFor (s / 2 ^ shift) (loss_at (s * 2 ^ (64 - shift) % 2 ^ 64) half) amount (2 ^ 0 * parts)
quantum_stands precision s digits places shift half up down amount parts i p u d h =
    let loss = loss_at (s * 2 ^ (64 - shift) % 2 ^ 64) half in
    let r = rounded_stands precision s digits places shift half (amount * 2 ^ down) (parts * 2 ^ up) i
    (mul-pos p (pow_pos up)) h in
    let w = word_stands s 63 places shift (amount * 2 ^ down) (parts * 2 ^ up) loss
    (half_word s digits i.short i.fits) i.near i.far r.0 r.1 in
    kept_stands (s / 2 ^ shift) loss amount parts places up down 0 (omega (arith, u, d)) w

pub quantum_encloses : (precision s digits places shift half up down amount parts : ℕ)
    → IsQuantumCut precision s digits places shift half → 0 < parts → up ≡ 0 → down ≡ places
    → IsRoundedToOdd (2 ^ (precision + 1)) s (amount * 2 ^ down) (parts * 2 ^ up)
    → IsEnclosed precision (2 ^ (precision - 1)) (s / 2 ^ shift) 0 amount parts
quantum_encloses precision s digits places shift half up down amount parts i p u d h =
    let f = quantum_fits precision s digits places shift half i in
    let a : 2 ^ (precision - 1) ≤ 2 ^ precision = pow-le-pow_right two_pos (omega arith) in
    enclosed_from precision (s / 2 ^ shift) 0 (loss_at (s * 2 ^ (64 - shift) % 2 ^ 64) half) amount parts i.some p
    (omega (arith, f, a)) (inl refl)
    (quantum_stands precision s digits places shift half up down amount parts i p u d h)

-- ---- one digit below the quantum

-- if a rest is past half, the digit below the cut is 1, and the rest below that digit is twice the part past half
past_half : (s shift half : ℕ) → 2 ≤ shift → shift ≤ 63
    → half ≡ 2 ^ 63 → half < s * 2 ^ (64 - shift) % 2 ^ 64 → (s / 2 ^ (shift - 1) ≡ 2 * (s / 2 ^ shift) + 1)
    × (s * 2 ^ (64 - (shift - 1)) % 2 ^ 64 ≡ 2 * (s * 2 ^ (64 - shift) % 2 ^ 64 - half))
past_half s shift half p l h m =
    let w = 2 ^ (64 - shift) in
    let k = 2 ^ (shift - 1) in
    let q = s / 2 ^ shift in
    let r = s % 2 ^ shift in
    let rest = s * 2 ^ (64 - shift) % 2 ^ 64 in
    let a : s * 2 ^ (64 - shift) % 2 ^ 64 ≡ s % 2 ^ shift * 2 ^ (64 - shift) = top_rest s shift 64 (omega (arith, l)) in
    let e : 63 ≡ shift - 1 + (64 - shift) = omega (arith, p, l) in
    let d : half ≡ 2 ^ (shift - 1) * 2 ^ (64 - shift) =
    h ∙ ap (λ (x : ℕ). 2 ^ x) e ∙ pow-add 2 (shift - 1) (64 - shift) in
    let t : 2 * 2 ^ (shift - 1) ≡ 2 ^ shift = twice_half shift (omega (arith, p)) in
    let g : k < r = lt_of_mul-lt-mul_right w (omega (arith, m, a, d)) in
    let x = r - k in
    let y : x < k = omega (arith, mod_below s (2 ^ shift) (pow_pos shift), t, g) in
    let z : s ≡ (2 * q + 1) * k + x = omega (arith, div-add-mod' s (2 ^ shift), ap (λ (n : ℕ). q * n) t, g) in
    let n : s % 2 ^ (shift - 1) ≡ x = ap (λ (u : ℕ). u % 2 ^ (shift - 1)) z ∙ mod-mul-add (2 * q + 1) k x y in
    let c : s * 2 ^ (64 - (shift - 1)) % 2 ^ 64 ≡ s % 2 ^ (shift - 1) * 2 ^ (64 - (shift - 1)) =
    top_rest s (shift - 1) 64 (omega (arith, l)) in
    let j : 64 - (shift - 1) ≡ 1 + (64 - shift) = omega (arith, p, l) in
    let o : 2 ^ (64 - (shift - 1)) ≡ 2 * w = ap (λ (u : ℕ). 2 ^ u) j ∙ pow-add 2 1 (64 - shift) in
    let i : s % 2 ^ (shift - 1) * 2 ^ (64 - (shift - 1)) ≡ x * (2 * w) =
    ap (λ (u : ℕ). u * 2 ^ (64 - (shift - 1))) n ∙ ap (λ (u : ℕ). x * u) o in
    let f : r ≡ k + x = omega (arith, g) in
    let f' : r * w ≡ (k + x) * w = ap (λ (u : ℕ). u * w) f in (
      sym (whole_quotient (2 * q + 1) k x s (sym z) y),
      omega (arith, c, i, a, d, f'),
    )

-- if the rest is past half, at least two digits are cut off
two_digits : (s shift half : ℕ) → 0 < shift → shift ≤ 63 → half ≡ 2 ^ 63
    → half < s * 2 ^ (64 - shift) % 2 ^ 64 → 2 ≤ shift
two_digits s shift half p l h m =
    ⊎_elim
    (λ (b : shift < 2).
    let e : shift ≡ 1 = omega (arith, p) in
    let m' : half < s * 2 ^ (64 - 1) % 2 ^ 64 = subst (λ (x : ℕ). half < s * 2 ^ (64 - x) % 2 ^ 64) e m in
    let r : s % 2 ^ 1 < 2 ^ 1 = mod_below s (2 ^ 1) (pow_pos 1) in
    let r' : s % 2 ^ 1 ≤ 1 = omega (arith, r) in
    absurd (omega (arith, m', top_rest s 1 64 (lit≤ tt), mul-le-mul_right (2 ^ 63) r', h)))
    (λ (b : 2 ≤ shift). b)
    (cases_lt shift 2)

-- if the rest is past half, the shift is by all places
within_reach : (precision s digits places shift half : ℕ) → IsQuantumCut precision s digits places shift half
    → half < s * 2 ^ (64 - shift) % 2 ^ 64 → shift ≡ places
within_reach precision s digits places shift half i m =
    ⊎_elim
    (λ (a : 63 < places).
    let m' : half < s * 2 ^ (64 - 63) % 2 ^ 64 = subst (λ (x : ℕ). half < s * 2 ^ (64 - x) % 2 ^ 64) (i.far a) m in
    let l : 2 * s < 2 ^ 63 = half_word s digits i.short i.fits in
    let d : s * 2 ^ (64 - 63) % 2 ^ 64 ≡ s * 2 = mod-eq_of_lt (omega (arith, l)) in
    absurd (omega (arith, m', d, l, i.half_is)))
    (λ (a : places ≤ 63). i.near a)
    (cases_lt 63 places)

-- if the rest is past half, the digits down to that half represent twice the amount in quanta, with the loss below the
-- half
pub quantum_finely : (precision s digits places shift half up down amount parts : ℕ)
    → IsQuantumCut precision s digits places shift half → 0 < parts → up ≡ 0 → down ≡ places
    → IsRoundedToOdd (2 ^ (precision + 1)) s (amount * 2 ^ down) (parts * 2 ^ up) → half < s * 2 ^ (64 - shift) % 2 ^ 64
    → StandsFor (2 * (s / 2 ^ shift) + 1)
    (loss_at (s * 2 ^ (64 - shift) % 2 ^ 64 - half) (2 * half - s * 2 ^ (64 - shift) % 2 ^ 64)) (2 * amount) parts
quantum_finely precision s digits places shift half up down amount parts i p u d o m =
    let k = shift - 1 in
    let rest = s * 2 ^ (64 - shift) % 2 ^ 64 in
    let unit = parts * 2 ^ up in
    let v : 0 < unit = mul-pos p (pow_pos up) in
    let c = two_digits s shift half i.cuts i.bound i.half_is m in
    let r = within_reach precision s digits places shift half i m in
    let l = i.bound in
    let b = i.below in
    let g : StandsFor (s / 2 ^ (shift - 1)) (loss_at (s * 2 ^ (64 - (shift - 1)) % 2 ^ 64) half) (amount * 2 ^ down)
    (2 ^ (shift - 1) * unit) =
    ⊎_elim
    (λ (e : amount * 2 ^ down ≡ s * unit).
    exact_stands s k half (amount * 2 ^ down) unit (omega (arith, c)) (omega (arith, l)) i.half_is v e)
    (λ e.
    let x : precision + 1 < digits = exponent_below (precision + 1) digits (omega (arith, i.fits, e.long)) in
    odd_stands s k half (amount * 2 ^ down) unit (omega (arith, b, x, r)) (omega (arith, l)) i.half_is e.odd e.above
    e.below)
    o in
    let e : shift - 1 + 1 + up ≡ 0 + down = omega (arith, c, u, d, r) in
    let t = past_half s shift half c i.bound i.half_is m in
    let n : rest < 2 ^ 64 = mod_below (s * 2 ^ (64 - shift)) (2 ^ 64) (pow_pos 64) in
    let w = half_stands (s / 2 ^ k) (loss_at (s * 2 ^ (64 - k) % 2 ^ 64) half) amount parts k up down e g in
    let j : loss_at (s * 2 ^ (64 - (shift - 1)) % 2 ^ 64) half ≡ loss_at (rest - half) (2 * half - rest) =
    ap (λ (x : ℕ). loss_at x half) t.1 ∙ sym (loss_past_half rest half m (omega (arith, n, i.half_is))) in
    subst₂ (λ (x : ℕ) (y : Loss). StandsFor x y (2 * amount) parts) t.0 j w

-- ---- a significand that is folded into a word

-- an amount and its parts in a unit k places higher, and counted from the quantum
in_quanta : (k up down up' down' amount parts : ℕ) → k + up + down' ≡ up' + down
    → (amount * 2 ^ down * 2 ^ down' ≡ amount * 2 ^ down' * 2 ^ down)
    × (2 ^ k * (parts * 2 ^ up) * 2 ^ down' ≡ parts * 2 ^ up' * 2 ^ down)
in_quanta k up down up' down' amount parts e =
    let a : amount * 2 ^ down * 2 ^ down' ≡ amount * 2 ^ down' * 2 ^ down = omega arith in
    let p : 2 ^ k * 2 ^ up * 2 ^ down' ≡ 2 ^ up' * 2 ^ down =
    sym (pow3 k up down') ∙ ap (λ (x : ℕ). 2 ^ x) e ∙ pow-add 2 up' down in
    let b : 2 ^ k * (parts * 2 ^ up) * 2 ^ down' ≡ parts * (2 ^ k * 2 ^ up * 2 ^ down') = omega arith in
    let b' : parts * (2 ^ k * 2 ^ up * 2 ^ down') ≡ parts * (2 ^ up' * 2 ^ down) = ap (λ (x : ℕ). parts * x) p in
    let b'' : parts * (2 ^ up' * 2 ^ down) ≡ parts * 2 ^ up' * 2 ^ down = omega arith in
    (a, b ∙ b' ∙ b'')

-- a significand that was rounded to odd in a unit k places higher is so in that unit, counted from the quantum
pub folded_odd : (s least k up down up' down' amount parts : ℕ) → k + up + down' ≡ up' + down
    → IsRoundedToOdd least s (amount * 2 ^ down) (2 ^ k * (parts * 2 ^ up))
    → IsRoundedToOdd least s (amount * 2 ^ down') (parts * 2 ^ up')
folded_odd s least k up down up' down' amount parts e h =
    let f = in_quanta k up down up' down' amount parts e in
    to_odd_cancel least s (amount * 2 ^ down') (parts * 2 ^ up') (2 ^ down) (pow_pos down)
    (subst₂ (λ (x : ℕ) (y : ℕ). IsRoundedToOdd least s x y) f.0 f.1
    (to_odd_times least s (amount * 2 ^ down) (2 ^ k * (parts * 2 ^ up)) (2 ^ down') (pow_pos down') h))

-- a significand represents the amount, with its loss, in a unit k places higher, counted from the quantum
pub folded_stands : (s : ℕ) (loss : Loss) (k up down up' down' amount parts : ℕ) → k + up + down' ≡ up' + down
    → StandsFor s loss (amount * 2 ^ down) (2 ^ k * (parts * 2 ^ up))
    → StandsFor s loss (amount * 2 ^ down') (parts * 2 ^ up')
folded_stands s loss k up down up' down' amount parts e h =
    let f = in_quanta k up down up' down' amount parts e in
    stands_cancel s loss (amount * 2 ^ down') (parts * 2 ^ up') (2 ^ down) (pow_pos down)
    (subst₂ (λ (x : ℕ) (y : ℕ). StandsFor s loss x y) f.0 f.1
    (stands_times s loss (amount * 2 ^ down) (2 ^ k * (parts * 2 ^ up)) (2 ^ down') (pow_pos down') h))

-- a significand that was rounded to odd, without its last two digits, represents the amount with the loss of these
-- digits
pub quarters_stand : (least s amount unit : ℕ) → 0 < unit → IsRoundedToOdd least s amount unit
    → StandsFor (s / 4) (loss_at (s % 4) 2) amount (4 * unit)
quarters_stand least s amount unit u (inl e) =
    let d : s / 4 * (2 * 2) + s % 4 ≡ s = omega arith in
    let d' : (s / 4 * (2 * 2) + s % 4) * unit ≡ s * unit = ap (λ (x : ℕ). x * unit) d in
    rest_stands (s / 4) 2 (s % 4) amount unit u (omega arith) (omega (arith, e, d'))
quarters_stand least s amount unit u (inr o) =
    let d : s * 1 ≡ s / 4 * (2 * (2 * 1 * 1)) + s % 4 = omega arith in
    let b : s % 4 < 2 * (2 * 1 * 1) = omega arith in
    let one : amount * 1 ≡ amount = omega arith in
    subst (λ (x : ℕ). StandsFor (s / 4) (loss_at (s % 4) 2) x (4 * unit)) one
    (odd_rest (s / 4) 1 s (s % 4) amount unit 1 (lit< tt) o.odd d b o.above o.below)

-- a significand of precision + 2 digits, without its last two, has at most as many digits as the precision
pub quarters_fit : (precision s : ℕ) → s < 2 ^ (precision + 2) → s / 4 < 2 ^ precision
quarters_fit precision s f = fits_cut s (precision + 2) 2 precision f (omega arith)

pub quarters_full : (precision s : ℕ) → 0 < precision → 2 ^ (precision + 1) ≤ s → 2 ^ (precision - 1) ≤ s / 4
quarters_full precision s p f =
    full_cut s (precision + 2) 2 precision p
    (λ _. let e : precision + 1 ≡ precision + 2 - 1 = omega arith in
    subst (λ (x : ℕ). 2 ^ x ≤ s) e f) (omega arith)

pub quarters_cut : (precision s up down place amount parts : ℕ) → 0 < precision → s < 2 ^ (precision + 2)
    → 2 ^ (precision + 1) ≤ s → 2 + up ≡ place + down → 0 < parts
    → IsRoundedToOdd (2 ^ (precision + 1)) s (amount * 2 ^ down) (parts * 2 ^ up)
    → IsEnclosed precision (2 ^ (precision - 1)) (s / 4) place amount parts
    × StandsFor (s / 4) (loss_at (s % 4) 2) amount (2 ^ place * parts)
quarters_cut precision s up down place amount parts z f l e p h =
    let q = quarters_stand (2 ^ (precision + 1)) s (amount * 2 ^ down) (parts * 2 ^ up) (mul-pos p (pow_pos up)) h in
    let k = kept_stands (s / 4) (loss_at (s % 4) 2) amount parts 2 up down place e q in (
      enclosed_from precision (s / 4) place (loss_at (s % 4) 2) amount parts z p (quarters_fit precision s f)
          (inr (quarters_full precision s z l)) k,
      k,
    )

-- ---- an integral number of quanta

-- an integral number of quanta in a finer unit, shifted down, is that number
pub whole_down : (s shift places amount : ℕ) → s < 2 ^ 64 → (places ≤ 63 → shift ≡ places)
    → (63 < places → shift ≡ 63) → amount * 2 ^ places ≡ s → s / 2 ^ shift ≡ amount
whole_down s shift places amount l n f e =
    ⊎_elim
    (λ (a : 63 < places).
    let a' : 64 ≤ places = omega arith in
    let w : 2 ^ 64 ≤ 2 ^ places = pow-le-pow_right two_pos a' in
    let z : amount ≡ 0 =
    ⊎_elim
    (λ (b : amount < 1). omega arith)
    (λ (b : 1 ≤ amount).
    absurd (omega (arith, mul-le-mul_right (2 ^ places) b, w, l, e)))
    (cases_lt amount 1) in
    let y : s ≡ 0 = omega (arith, ap (λ (x : ℕ). x * 2 ^ places) z, e) in
    div-eq_of_lt (omega (arith, y, pow_pos shift)) ∙ sym z)
    (λ (a : places ≤ 63).
    ap (λ (x : ℕ). s / 2 ^ x) (n a)
    ∙ sym (whole_quotient amount (2 ^ places) 0 s (omega (arith, e)) (pow_pos places)))
    (cases_lt 63 places)

-- a significand below the smallest normalized value, shifted down to quanta, is at most that value
pub whole_below : (precision s digits places shift : ℕ) → 0 < precision → s < 2 ^ digits → s < 2 ^ 64
    → digits + 1 ≤ precision + places → (places ≤ 63 → shift ≡ places) → (63 < places → shift ≡ 63)
    → s / 2 ^ shift ≤ 2 ^ (precision - 1)
whole_below precision s digits places shift p f l b n g =
    ⊎_elim
    (λ (a : 63 < places).
    let q : s / 2 ^ shift < 2 ^ 1 = fits_cut s 64 shift 1 l (omega (arith, g a)) in
    omega (arith, q, pow_pos (precision - 1)))
    (λ (a : places ≤ 63).
    let q : s / 2 ^ shift < 2 ^ (precision - 1) =
    fits_cut s digits shift (precision - 1) f (omega (arith, n a, b, p)) in
    omega (arith, q))
    (cases_lt 63 places)

-- an integral number of quanta, at most the smallest normalized value, is delivered exactly
pub whole_delivered : (format : Format) (mode : Round) (negative : Bool) (quanta amount : ℕ) (value : Datum)
    (status : ℕ) → 3 ≤ format.precision → quanta ≤ 2 ^ (format.precision - 1) → quanta ≡ amount
    → value ≡ signed_quanta format.nonfinite negative quanta → status ≡ ok_bits
    → IsDelivered format mode negative amount 1 value status
whole_delivered format mode negative quanta amount value status s f e v o =
    let t : 2 * 2 ^ (format.precision - 1) ≡ 2 ^ format.precision = twice_half format.precision (omega (arith, s)) in
    let p : 0 < 2 ^ (format.precision - 1) = pow_pos (format.precision - 1) in
    let h = half_within format s in
    subst₂ (λ (x : Datum) (y : ℕ). IsDelivered format mode negative amount 1 x y) (sym v) (sym o)
    (exact_delivered format mode negative quanta amount 1 (lit< tt)
    (record { significand = quanta; place = 0; fits = omega (arith, f, t, p); is = omega arith })
    (omega (arith, f, h)) (omega (arith, e)))
