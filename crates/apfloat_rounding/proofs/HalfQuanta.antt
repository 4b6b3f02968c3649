-- Kept digits that are all ones just below the smallest normalized number, and the loss below half a quantum.
use Rattle.std.proofs.{Math.Path.subst₂, lemmas.Nat.pow_pos}
use Rattle.std.proofs.Common.{◌≡◌, ℕ, ◌+◌, ◌-◌, ◌*◌, ◌/◌, ◌%◌, ◌^◌, ◌<◌, ◌≤◌, Bool, true, false, not, ltb, sym, refl}
use Rattle.std.proofs.Common.{ap, ◌∙◌, subst, inr, ⊎_elim, arith, lit<, ℤ, pos, ◌+ℤ◌}
use Rattle.std.proofs.lemmas.Bool.{cases_lt, lt-ltb, le-ltb}
use Rattle.apfloat_model.specs.declared.{kinds.Round.Round, loss.Loss.Loss}
use Rattle.apfloat_model.specs.declared.loss.Loss.TheVariants.{ExactlyZero, ExactlyHalf, MoreThanHalf}
use Rattle.apfloat_model.specs.formats.Format.{Format, smallest_normalized}
use Rattle.apfloat_model.specs.rounding.Standing.{StandsFor, IsFineEnough, IsFineFor, reads_halves}
use Rattle.apfloat_model.specs.rounding.Enclosure.{IsEnclosed, rounds_up}
use Rattle.apfloat_model.specs.rounding.Rounding.{rounds_below_normal, is_tiny}
use Rattle.apfloat_model.proofs.general.Powers.{twice_power, twice_half}
use Rattle.apfloat_model.proofs.rounding.Losses.{cut_less, cut_more}
use Rattle.apfloat_model.proofs.rounding.KeptDigits.{same_unit, stands_times, stands_cancel}
use Rattle.apfloat_model.proofs.rounding.Tininess.{below_by_more, below_by_half, just_below, not_below}
use Rattle.apfloat_rounding.specs.Cuts.{loss_at}
use Rattle.apfloat_rounding.proofs.CutRests.{loss_zero, loss_less, loss_half, loss_more, loss_some, loss_scaled}
use Rattle.apfloat_rounding.proofs.CutRests.{loss_past_half}

-- a significand cut at half a quantum represents twice the magnitude, in quanta
pub half_stands : (q : ℕ) (loss : Loss) (amount parts k up down : ℕ) → k + 1 + up ≡ 0 + down
    → StandsFor q loss (amount * 2 ^ down) (2 ^ k * (parts * 2 ^ up)) → StandsFor q loss (2 * amount) parts
half_stands q loss amount parts k up down e h =
    let w : 0 < 2 ^ down = pow_pos down in
    let d : 2 ^ (k + 1) * (parts * 2 ^ up) ≡ 2 ^ 0 * parts * 2 ^ down = same_unit parts (k + 1) up down 0 e in
    let t : 2 ^ (k + 1) * (parts * 2 ^ up) ≡ 2 * 2 ^ k * (parts * 2 ^ up) =
    ap (λ (x : ℕ). x * (parts * 2 ^ up)) (twice_power k) in
    let u : 2 ^ k * (parts * 2 ^ up) * 2 ≡ parts * 2 ^ down = omega (arith, d, t) in
    let v : amount * 2 ^ down * 2 ≡ 2 * amount * 2 ^ down = omega arith in
    stands_cancel q loss (2 * amount) parts (2 ^ down) w
    (subst₂ (λ (x : ℕ) (y : ℕ). StandsFor q loss x y) v u
    (stands_times q loss (amount * 2 ^ down) (2 ^ k * (parts * 2 ^ up)) 2 (omega arith) h))

-- ---- eighths of a digit

-- a significand counted in halves of a digit, cut to that digit, leaves its last half and its loss as a rest in eighths
pub eighths : (h r : ℕ) (loss : Loss) (amount unit : ℕ) → 0 < unit → r < 4 → loss_at r 2 ≡ loss
    → StandsFor h loss amount unit → StandsFor (h / 2) (loss_at (4 * (h % 2) + r) 4) amount (2 * unit)
eighths h r loss amount unit u l e k =
    let q = h / 2 in
    let d : h / 2 * (2 * 1) + h % 2 ≡ h = omega arith in
    let k' : StandsFor (q * (2 * 1) + h % 2) loss amount unit =
    subst (λ (x : ℕ). StandsFor x loss amount unit) (sym d) k in
    ⊎_elim
    (λ (z : r < 1).
    let y : loss ≡ ExactlyZero = sym e ∙ loss_zero r 2 (omega arith) in
    let g : StandsFor (q * (2 * 1) + h % 2) ExactlyZero amount unit =
    subst (λ (x : Loss). StandsFor (q * (2 * 1) + h % 2) x amount unit) y k' in
    ⊎_elim
    (λ (a : h % 2 < 1).
    let b : h % 2 ≡ 0 = omega arith in
    let b' : h % 2 * unit ≡ 0 * unit = ap (λ (x : ℕ). x * unit) b in
    let f : StandsFor q ExactlyZero amount (2 * unit) = omega (arith, g, b') in
    subst (λ (x : Loss). StandsFor q x amount (2 * unit)) (sym (loss_zero (4 * (h % 2) + r) 4 (omega arith))) f)
    (λ (a : 1 ≤ h % 2).
    let b : h % 2 ≡ 1 = omega arith in
    let b' : h % 2 * unit ≡ 1 * unit = ap (λ (x : ℕ). x * unit) b in
    let f : StandsFor q ExactlyHalf amount (2 * unit) = omega (arith, g, b') in
    subst (λ (x : Loss). StandsFor q x amount (2 * unit))
    (sym (loss_half (4 * (h % 2) + r) 4 (omega arith) (omega arith))) f)
    (cases_lt (h % 2) 1))
    (λ (p : 1 ≤ r).
    let n : loss ≡ ExactlyZero → ⊥ = λ (y : loss ≡ ExactlyZero). loss_some r 2 (omega arith) (e ∙ y) in
    ⊎_elim
    (λ (a : h % 2 < 1).
    subst (λ (x : Loss). StandsFor q x amount (2 * unit))
    (sym (loss_less (4 * (h % 2) + r) 4 (omega arith) (omega arith)))
    (cut_less q 1 (h % 2) loss amount unit u a (inr n) k'))
    (λ (a : 1 ≤ h % 2).
    subst (λ (x : Loss). StandsFor q x amount (2 * unit))
    (sym (loss_more (4 * (h % 2) + r) 4 (omega arith)))
    (cut_more q 1 (h % 2) loss amount unit u (omega arith) (inr (n, a)) k'))
    (cases_lt (h % 2) 1))
    (cases_lt r 1)

-- past half of the digit, the eighths also give the loss below that half
pub eighths_finely : (h r : ℕ) (loss : Loss) (amount parts k up down : ℕ) → r < 4 → loss_at r 2 ≡ loss
    → 4 < 4 * (h % 2) + r → k + 1 + up ≡ 0 + down → StandsFor h loss (amount * 2 ^ down) (2 ^ k * (parts * 2 ^ up))
    → StandsFor (2 * (h / 2) + 1) (loss_at (4 * (h % 2) + r - 4) (2 * 4 - (4 * (h % 2) + r))) (2 * amount) parts
eighths_finely h r loss amount parts k up down l e m w g =
    let a : h ≡ 2 * (h / 2) + 1 = omega (arith, l, m) in
    let b : 2 * (4 * (h % 2) + r - 4) ≡ r * 2 = omega (arith, l, m) in
    let j : loss ≡ loss_at (4 * (h % 2) + r - 4) (2 * 4 - (4 * (h % 2) + r)) = sym e ∙ sym (loss_scaled r 2 2 (lit< tt))
    ∙ ap (λ (x : ℕ). loss_at x 4) (sym b) ∙ sym (loss_past_half (4 * (h % 2) + r) 4 m (omega (arith, l))) in
    subst₂ (λ (x : ℕ) (y : Loss). StandsFor x y (2 * amount) parts) a j (half_stands h loss amount parts k up down w g)

-- a loss in quarters of a digit is the same in eighths
pub loss_in_eighths : (r : ℕ) → loss_at (2 * r) 4 ≡ loss_at r 2
loss_in_eighths r =
    let e : 2 * r ≡ r * 2 = omega arith in ap (λ (x : ℕ). loss_at x 4) e ∙ loss_scaled r 2 2 (lit< tt)

-- ---- just below the smallest normalized number

-- a kept significand that is not the last one below the smallest normalized number determines on which side of that
-- number the magnitude is rounded
pub off_last : (precision m c amount parts last : ℕ) (mode : Round) (negative : Bool) → 0 < parts
    → last ≡ 2 ^ (precision - 1) - 1 → (m ≡ last → ⊥) → IsEnclosed precision (2 ^ (precision - 1)) m c amount parts
    → rounds_below_normal precision mode negative amount parts ≡ ltb m last
off_last precision m c amount parts last mode negative p e n i =
    ⊎_elim
    (λ (l : m < last). below_by_more precision (2 ^ (precision - 1)) m c amount parts mode negative p (omega arith) i
    ∙ sym (lt-ltb m last l))
    (λ (l : last ≤ m). not_below precision (2 ^ (precision - 1)) m c amount parts mode negative p (omega (arith, n)) i
    ∙ sym (le-ltb m last l)) (cases_lt m last)

-- a significand below that of the smallest normalized number is kept at the quantum
at_lowest : (precision half m c amount parts : ℕ) (loss : Loss) → m < half → IsEnclosed precision half m c amount parts
    → StandsFor m loss amount (2 ^ c * parts) → StandsFor m loss amount parts
at_lowest precision half m c amount parts loss l i h =
    ⊎_elim
    (λ (z : c ≡ 0).
    let e : 2 ^ c * parts ≡ parts = ap (λ (x : ℕ). 2 ^ x * parts) z ∙ omega arith in
    subst (λ (x : ℕ). StandsFor m loss amount x) e h)
    (λ (f : half ≤ m). absurd (omega arith))
    i.full

-- if the last significand below the smallest normalized number is kept, with a loss of at most half, the magnitude is
-- rounded below that number
pub last_by_half : (precision m c amount parts last : ℕ) (mode : Round) (negative : Bool) (loss : Loss) → 0 < parts
    → last ≡ 2 ^ (precision - 1) - 1 → m ≡ last → (loss ≡ MoreThanHalf → ⊥)
    → IsEnclosed precision (2 ^ (precision - 1)) m c amount parts → StandsFor m loss amount (2 ^ c * parts)
    → rounds_below_normal precision mode negative amount parts ≡ true
last_by_half precision m c amount parts last mode negative loss p e d n i h =
    let w : 0 < 2 ^ (precision - 1) = pow_pos (precision - 1) in
    below_by_half precision (2 ^ (precision - 1)) m amount parts mode negative loss p i.double (omega arith) n
    (at_lowest precision (2 ^ (precision - 1)) m c amount parts loss (omega arith) i h)

-- a magnitude that is less than half a quantum below the smallest normalized number
pub record IsJustBelow (precision amount parts : ℕ) : Type 0 where
  pub from : (2 ^ precision - 1) * parts < 2 * amount
  pub to : 2 * amount < 2 ^ precision * parts

pub last_by_more : (precision m c amount parts last : ℕ) (loss : Loss) → last ≡ 2 ^ (precision - 1) - 1
    → m ≡ last → loss ≡ MoreThanHalf → IsEnclosed precision (2 ^ (precision - 1)) m c amount parts
    → StandsFor m loss amount (2 ^ c * parts) → IsJustBelow precision amount parts
last_by_more precision m c amount parts last loss e d z i h =
    let w : 0 < 2 ^ (precision - 1) = pow_pos (precision - 1) in
    let g : StandsFor m MoreThanHalf amount parts = subst (λ (x : Loss). StandsFor m x amount parts) z
    (at_lowest precision (2 ^ (precision - 1)) m c amount parts loss (omega arith) i h) in
    let b : 2 ^ precision ≡ 2 * 2 ^ (precision - 1) = i.double in
    let a : 2 * m + 1 ≡ 2 ^ precision - 1 = omega arith in
    let n : 2 * (m + 1) ≡ 2 ^ precision = omega arith in
    let k : (2 * m + 1) * parts ≡ (2 ^ precision - 1) * parts = ap (λ (x : ℕ). x * parts) a in
    record { from = omega (arith, k, g.0); to = omega (arith, ap (λ (x : ℕ). x * parts) n, g.1) }

-- less than half a quantum below the smallest normalized number, the loss below the half quantum decides on which side
-- the magnitude is rounded
pub just_below_half : (precision m rest half amount parts last : ℕ) (mode : Round) (negative : Bool)
    → 0 < precision → last ≡ 2 ^ (precision - 1) - 1 → m ≡ last → IsJustBelow precision amount parts
    → StandsFor (2 * m + 1) (loss_at (rest - half) (2 * half - rest)) (2 * amount) parts
    → rounds_below_normal precision mode negative amount parts
    ≡ not (rounds_up mode negative (loss_at (rest - half) (2 * half - rest)) true)
just_below_half precision m rest half amount parts last mode negative some e d j h =
    let w : 0 < 2 ^ (precision - 1) = pow_pos (precision - 1) in
    let n : 2 * m + 1 ≡ 2 ^ precision - 1 = omega (arith, twice_half precision some, e, d) in
    just_below precision mode negative amount parts (loss_at (rest - half) (2 * half - rest)) j.from j.to
    (subst (λ (x : ℕ). StandsFor x (loss_at (rest - half) (2 * half - rest)) (2 * amount) parts) n h)

-- ---- the three rules of tininess

pub before_is : (format : Format) (mode : Round) (negative : Bool) (amount parts pick : ℕ)
    → format.tiny_before_rounding ≡ true
    → is_tiny format mode negative amount parts pick ≡ ltb amount (smallest_normalized format * parts)
before_is format mode negative amount parts pick b = rw b refl

pub unbounded_is : (format : Format) (mode : Round) (negative : Bool) (amount parts pick : ℕ)
    → format.tiny_before_rounding ≡ false → format.ieee_flags ≡ true
    → is_tiny format mode negative amount parts pick ≡ rounds_below_normal format.precision mode negative amount parts
unbounded_is format mode negative amount parts pick b i = rw (b, i) refl

pub picked_is : (format : Format) (mode : Round) (negative : Bool) (amount parts pick : ℕ)
    → format.tiny_before_rounding ≡ false → format.ieee_flags ≡ false
    → is_tiny format mode negative amount parts pick ≡ ltb pick (smallest_normalized format)
picked_is format mode negative amount parts pick b i = rw (b, i) refl

pub read_halves : (format : Format) → format.tiny_before_rounding ≡ false → format.ieee_flags ≡ true
    → reads_halves format ≡ true
read_halves format b i = rw (b, i) refl

-- if tininess is judged in half quanta, a unit that is fine for the format is fine enough one place higher
pub halves_fine : (format : Format) (s : ℕ) (unit : ℤ) (loss : Loss) → reads_halves format ≡ true
    → IsFineFor format s unit loss → IsFineEnough format.precision s (unit +ℤ pos 1) loss
halves_fine format s unit loss r h = rw r at h
