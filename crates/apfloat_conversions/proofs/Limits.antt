-- Integers of a given number of binary digits, and the ends of their range.
use Rattle.std.proofs.Common.{◌≡◌, ℕ, ◌+◌, ◌-◌, ◌*◌, ◌/◌, ◌^◌, ◌<◌, ◌≤◌, Bool, true, false, cond, ◌&&◌, eqb, sym, refl}
use Rattle.std.proofs.Common.{ap, ◌∙◌, subst, ⊎_elim, arith, pos, neg_ℤ, ◌≤ℤ◌, int_lt}
use Rattle.std.proofs.Math.{Bool.and-true, Nat.div-eq_of_lt-le}
use Rattle.std.proofs.lemmas.{Nat.pow-add, Nat.pow_pos, Int.ints, Bool.cases_lt, Bool.ne_eqb}
use Rattle.apfloat_model.specs.{declared.kinds.Round.Round, formats.Format.Format, formats.Datum.finite}
use Rattle.apfloat_model.specs.arithmetic.Exact.{signed}
use Rattle.apfloat_model.specs.whole_numbers.WholeNumbers.{whole_pick, whole_quanta, inexact_unless}
use Rattle.apfloat_model.specs.whole_numbers.WholeNumbersOut.{IsToUnsigned, to_unsigned, ranged, exact_or_not}
use Rattle.apfloat_model.specs.rounding.Flags.{bits_of}
use Rattle.apfloat_model.proofs.general.Choices.{no_zero}
use Rattle.apfloat_model.proofs.whole_numbers.SignedTests.{less_so, less_not}
use Rattle.apfloat_conversions.specs.{declared.integers.Unsigned.Unsigned, Results.GivesWhole, Results.IsLimited}

-- the same integer, also without a sign
pub same_number : (m n : ℕ) → pos m ≡ pos n → m ≡ n
same_number m n h = omega (arith, ints, h)

-- a word of ones, shifted right to leave `width` digits, is the greatest number of that many digits
pub greatest_is : (width : ℕ) → width ≤ 128 → (2 ^ 128 - 1) / 2 ^ (128 - width) ≡ 2 ^ width - 1
greatest_is width h =
    let e : width + (128 - width) ≡ 128 = omega arith in
    let s : 2 ^ 128 ≡ 2 ^ width * 2 ^ (128 - width) = ap (λ (x : ℕ). 2 ^ x) (sym e) ∙ pow-add 2 width (128 - width) in
    let p : 0 < 2 ^ (128 - width) = pow_pos (128 - width) in
    let q : 0 < 2 ^ width = pow_pos width in
    let k : 2 ^ width ≡ 2 ^ width - 1 + 1 = omega arith in
    let m : 2 ^ width * 2 ^ (128 - width) ≡ (2 ^ width - 1 + 1) * 2 ^ (128 - width) =
    ap (λ (x : ℕ). x * 2 ^ (128 - width)) k in
    div-eq_of_lt-le (2 ^ (128 - width)) (omega (arith, s, m, p)) (omega (arith, s, m, p))

-- the end of the range on the side of a sign
abbrev pub limit : ℕ → Bool → ℕ
limit width negative = cond negative 0 (2 ^ width - 1)

-- a number in the unsigned range is its own magnitude
signed_in : (negative : Bool) (width mag : ℕ) → mag ≤ limit width negative → signed negative mag ≡ pos mag
signed_in true width mag h = let e : mag ≡ 0 = omega arith in rw e refl
signed_in false width mag h = refl

-- a magnitude in range is at most the greatest number of that many digits
limit_high : (negative : Bool) (width mag : ℕ) → mag ≤ limit width negative → pos mag ≤ℤ pos (2 ^ width - 1)
limit_high true width mag h = omega (arith, ints)
limit_high false width mag h = omega (arith, ints)

-- a number in range is unchanged
pub ranged_in : (width : ℕ) (negative : Bool) (mag : ℕ) (exact : Bool) → mag ≤ limit width negative
    → ranged (pos 0) (pos (2 ^ width - 1)) (signed negative mag)
    (exact_or_not (signed negative mag) exact (negative && false))
    ≡ record { number = pos mag; status = inexact_unless exact; is_exact = exact }
ranged_in width b mag exact h =
    let low : int_lt (pos mag) (pos 0) ≡ false = less_not (pos mag) (pos 0) (omega (arith, ints)) in
    let high : int_lt (pos (2 ^ width - 1)) (pos mag) ≡ false =
    less_not (pos (2 ^ width - 1)) (pos mag) (limit_high b width mag h) in
    rw (signed_in b width mag h, low, high, no_zero b exact) refl

-- a number in range is the result
pub in_range : (format : Format) (mode : Round) (width : ℕ) (negative : Bool) (n mag st : ℕ) (exact : Bool) → 0 < n
    → mag ≡ whole_pick mode negative n (2 ^ format.scale) → exact ≡ eqb (whole_quanta format mode negative n) n
    → mag ≤ limit width negative → st ≡ inexact_unless exact
    → IsToUnsigned format mode width (finite negative n) mag st exact
in_range format mode width b n mag st exact p i x h t =
    let z : eqb n 0 ≡ false = ne_eqb n 0 (λ e. omega (arith, e, p)) in
    rw (z, ← x, ← i, ranged_in width b mag exact h) (record { number_is = refl; status_is = t; is_exact_is = refl })

-- a number out of range is replaced by the end of the range
pub ranged_out : (width : ℕ) (negative : Bool) (mag : ℕ) (exact : Bool) → limit width negative < mag
    → ranged (pos 0) (pos (2 ^ width - 1)) (signed negative mag)
    (exact_or_not (signed negative mag) exact (negative && false))
    ≡ record { number = pos (limit width negative); status = 1; is_exact = false }
ranged_out width true mag exact h =
    let low : int_lt (neg_ℤ (pos mag)) (pos 0) ≡ true = less_so (neg_ℤ (pos mag)) (pos 0) (omega (arith, ints, h)) in
    rw low refl
ranged_out width false mag exact h =
    let low : int_lt (pos mag) (pos 0) ≡ false = less_not (pos mag) (pos 0) (omega (arith, ints)) in
    let high : int_lt (pos (2 ^ width - 1)) (pos mag) ≡ true =
    less_so (pos (2 ^ width - 1)) (pos mag) (omega (arith, ints, h)) in
    rw (low, high) refl

-- for a number out of range, the result is the end of the range, with INVALID_OP
pub out_of_range : (format : Format) (mode : Round) (width : ℕ) (negative : Bool) (n number st : ℕ) (exact : Bool)
    → 0 < n → limit width negative < whole_pick mode negative n (2 ^ format.scale) → number ≡ limit width negative
    → st ≡ 1 → exact ≡ false → IsToUnsigned format mode width (finite negative n) number st exact
out_of_range format mode width b n number st exact p h m t x =
    let z : eqb n 0 ≡ false = ne_eqb n 0 (λ e. omega (arith, e, p)) in
    let r = ranged_out width b (whole_pick mode b n (2 ^ format.scale)) (eqb (whole_quanta format mode b n) n) h in
    rw (z, r) (record { number_is = ap pos m; status_is = t; is_exact_is = x })

-- the picked integer within the end of the range on the side of the sign is the result
pub limited_unsigned : (format : Format) (mode : Round) (width : ℕ) (negative : Bool) (n : ℕ) (whole : Unsigned)
    → 0 < n → IsLimited format mode negative n (limit width negative) whole
    → GivesWhole (to_unsigned format mode width (finite negative n)) whole
limited_unsigned format mode width b n whole p h =
    ⊎_elim
    (λ (l : limit width b < whole_pick mode b n (2 ^ format.scale)).
    let i = h.past l in
    out_of_range format mode width b n whole.answer.value (bits_of whole.answer.status) whole.is_exact p l
    (same_number _ _ i.number_is) i.status_is i.is_exact_is)
    (λ (l : whole_pick mode b n (2 ^ format.scale) ≤ limit width b).
    let i = h.within l in
    let e : whole.answer.value ≡ whole_pick mode b n (2 ^ format.scale) = same_number _ _ i.number_is in
    let x : whole.is_exact ≡ eqb (whole_quanta format mode b n) n = i.is_exact_is ∙ and-true _ in
    in_range format mode width b n whole.answer.value (bits_of whole.answer.status) whole.is_exact p e x
    (subst (λ (k : ℕ). k ≤ limit width b) (sym e) l) (i.status_is ∙ ap (λ (y : Bool). inexact_unless y) (sym x)))
    (cases_lt (limit width b) (whole_pick mode b n (2 ^ format.scale)))
