-- Integers modulo a power of two.
use Rattle.std.proofs.Common.{◌≡◌, ℕ, ◌+◌, ◌-◌, ◌*◌, ◌/◌, ◌%◌, ◌^◌, ◌<◌, ◌≤◌, Bool, true, false, refl, sym, ap, ◌∙◌}
use Rattle.std.proofs.Common.{⊎_elim, arith, ℤ, pos, neg_ℤ, ◌+ℤ◌, ◌-ℤ◌, ◌≤ℤ◌, if◌then◌else◌}
use Rattle.std.specs.Prelude.{◌<ℤ◌, eqb}
use Rattle.std.proofs.Math.Nat.{mul-le-mul_right, mul-div_cancel, mul-div-mul_right, mod-eq_of_lt, zero-div}
use Rattle.std.proofs.lemmas.{Int.ints, Bool.cases_eq, Bool.cases_lt, Bool.ne_eqb}
use Rattle.std.proofs.lemmas.Nat.{pow_pos, shr_le, div-add-mod'}
use Rattle.apfloat_model.specs.declared.status.StatusAnd.{StatusAnd}
use Rattle.apfloat_model.specs.declared.kinds.Category.TheVariants.{Normal, Zero}
use Rattle.apfloat_model.specs.{Determined.Determines, arithmetic.Exact.signed, rounding.Flags.Gives}
use Rattle.apfloat_model.specs.formats.{Format.Format, Datum.Datum, Datum.finite, Datum.infinite, Datum.nan}
use Rattle.apfloat_model.specs.{order.Classes.category_of, order.Classes.quanta_of}
use Rattle.apfloat_model.specs.rounding.Standing.{up, down}
use Rattle.apfloat_model.proofs.{Determined.same_answer, arithmetic.SingleScalings.scaled_stands}
use Rattle.apfloat_machines.specs.Modulo.{IsResidue, IsSignedModulo}

-- ---- one residue

apart : (half i j : ℕ) (a b : ℤ) → a <ℤ pos half → neg_ℤ (pos half) ≤ℤ b
    → a +ℤ pos (i * (2 * half)) ≡ b +ℤ pos (j * (2 * half)) → j ≤ i
apart half i j a b high low e =
    ⊎_elim
    (λ (l : i < j).
    let more : (i + 1) * (2 * half) ≤ j * (2 * half) = mul-le-mul_right (2 * half) (omega (arith, l)) in
    let next : (i + 1) * (2 * half) ≡ i * (2 * half) + 2 * half = omega arith in
    absurd (omega (arith, ints, high, low, e, more, next)))
    (λ (l : j ≤ i). l)
    (cases_lt i j)

pub residue_once : (half : ℕ) (number a b : ℤ) → IsResidue half number a → IsResidue half number b → a ≡ b
residue_once half number a b h k =
    let i = h.fewer + k.more in
    let j = k.fewer + h.more in
    let left : (h.fewer + k.more) * (2 * half) ≡ h.fewer * (2 * half) + k.more * (2 * half) = omega arith in
    let right : (k.fewer + h.more) * (2 * half) ≡ k.fewer * (2 * half) + h.more * (2 * half) = omega arith in
    let e : a +ℤ pos ((h.fewer + k.more) * (2 * half)) ≡ b +ℤ pos ((k.fewer + h.more) * (2 * half)) =
    omega (arith, ints, left, right, h.congruent, k.congruent) in
    let p : j ≤ i = apart half i j a b h.high k.low e in
    let q : i ≤ j = apart half j i b a k.high h.low (sym e) in
    let same : i * (2 * half) ≡ j * (2 * half) = ap (λ (n : ℕ). n * (2 * half)) (omega (arith, p, q)) in
    omega (arith, ints, e, same)

pub modulo_once : (f : Format) (width : ℕ) (x : Datum)
    → Determines (λ (answer : StatusAnd ℤ). Gives (IsSignedModulo f width x) answer)
modulo_once f width x answer other h k =
    same_answer answer other (residue_once _ _ answer.value other.value h.number_is k.number_is)
    (h.status_is ∙ sym k.status_is)

-- ---- lowest digits

-- the residue of the lowest digits is that of all
pub residue_of_lowest : (half m rest : ℕ) (negative : Bool) (r : ℤ) → rest ≡ m % (2 * half)
    → IsResidue half (signed negative rest) r → IsResidue half (signed negative m) r
residue_of_lowest half m rest true r e h =
    let q = m / (2 * half) in
    let split : m / (2 * half) * (2 * half) + m % (2 * half) ≡ m = div-add-mod' m (2 * half) in
    let sum : (h.more + m / (2 * half)) * (2 * half) ≡ h.more * (2 * half) + m / (2 * half) * (2 * half) =
    omega arith in
    record {
      low = h.low;
      high = h.high;
      more = h.more + q;
      fewer = h.fewer;
      congruent = omega (arith, ints, e, split, sum, h.congruent);
    }
residue_of_lowest half m rest false r e h =
    let q = m / (2 * half) in
    let split : m / (2 * half) * (2 * half) + m % (2 * half) ≡ m = div-add-mod' m (2 * half) in
    let sum : (h.fewer + m / (2 * half)) * (2 * half) ≡ h.fewer * (2 * half) + m / (2 * half) * (2 * half) =
    omega arith in
    record {
      low = h.low;
      high = h.high;
      more = h.more;
      fewer = h.fewer + q;
      congruent = omega (arith, ints, e, split, sum, h.congruent);
    }

-- ---- the integer part of a number, by its significand and the exponent of its last digit

pub whole_up : (scale : ℕ) (e : ℤ) (a s k : ℕ) → pos k ≡ e -ℤ pos 0
    → a * 2 ^ down (e +ℤ pos scale) ≡ s * 2 ^ up (e +ℤ pos scale) → a / 2 ^ scale ≡ s * 2 ^ k
whole_up scale e a s k v h =
    let g = scaled_stands s a (down (e +ℤ pos scale)) (up (e +ℤ pos scale)) 0 scale k 0 h (omega (arith, ints, v)) in
    let whole : a ≡ s * 2 ^ k * 2 ^ scale = omega (arith, g) in
    ap (λ (n : ℕ). n / 2 ^ scale) whole ∙ mul-div_cancel (s * 2 ^ k) {n = 2 ^ scale} (pow_pos scale)

pub whole_down : (scale : ℕ) (e : ℤ) (a s k : ℕ) → pos k ≡ pos 0 -ℤ e
    → a * 2 ^ down (e +ℤ pos scale) ≡ s * 2 ^ up (e +ℤ pos scale) → a / 2 ^ scale ≡ s / 2 ^ k
whole_down scale e a s k v h =
    let g = scaled_stands s a (down (e +ℤ pos scale)) (up (e +ℤ pos scale)) 0 scale 0 k h (omega (arith, ints, v)) in
    let same : a * 2 ^ k ≡ s * 2 ^ scale = omega (arith, g) in
    let turned : 2 ^ scale * 2 ^ k ≡ 2 ^ k * 2 ^ scale = omega arith in
    sym (mul-div-mul_right a (2 ^ scale) (pow_pos k))
    ∙ ap (λ (n : ℕ). n / (2 ^ scale * 2 ^ k)) same ∙ ap (λ (n : ℕ). s * 2 ^ scale / n) turned
    ∙ mul-div-mul_right s (2 ^ k) (pow_pos scale)

-- what is cut below the point has at most 128 digits
pub whole_short : (scale a s k : ℕ) → s < 2 ^ 128 → a / 2 ^ scale ≡ s / 2 ^ k → s / 2 ^ k ≡ a / 2 ^ scale % 2 ^ 128
whole_short scale a s k fits e =
    let l : a / 2 ^ scale < 2 ^ 128 = omega (arith, fits, e, shr_le s k) in
    sym e ∙ sym (mod-eq_of_lt l)

number_is_normal : (quanta : ℕ) → (quanta ≡ 0 → ⊥) → (if eqb quanta 0 then Zero else Normal) ≡ Normal
number_is_normal quanta some = rw (ne_eqb quanta 0 some) refl

no_quanta : (x : Datum) → (category_of x ≡ Normal → ⊥) → quanta_of x ≡ 0
no_quanta (finite b n) other =
    ⊎_elim (λ (e : n ≡ 0). e) (λ (some : n ≡ 0 → ⊥). absurd (other (number_is_normal n some))) (cases_eq n 0)
no_quanta (infinite b) other = refl
no_quanta (nan b s) other = refl

-- what is no nonzero number has no digits
pub no_whole : (scale : ℕ) (x : Datum) → (category_of x ≡ Normal → ⊥) → 0 ≡ quanta_of x / 2 ^ scale % 2 ^ 128
no_whole scale x other =
    sym (ap (λ (n : ℕ). n / 2 ^ scale % 2 ^ 128) (no_quanta x other)
    ∙ ap (λ (n : ℕ). n % 2 ^ 128) (zero-div (2 ^ scale)) ∙ mod-eq_of_lt (pow_pos 128))
