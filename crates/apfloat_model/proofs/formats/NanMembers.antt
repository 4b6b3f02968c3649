-- The significands that operations give NaNs are significands of NaNs.
use Rattle.std.proofs.Common.{◌≡◌, ◌≢◌, ℕ, ◌+◌, ◌-◌, ◌*◌, ◌/◌, ◌^◌, ◌<◌, ◌≤◌, Bool, true, false, sym, refl, ap, ◌∙◌}
use Rattle.std.proofs.Common.{subst, arith, if◌then◌else◌, eqb}
use Rattle.std.proofs.lemmas.Nat.{pow_pos, or_lt, le_or_l, le_or_r, and_le_r, and_or_self, pow_apart, and_mask, pow-add}
use Rattle.std.proofs.{lemmas.Bool.eqb-false, Math.Nat.mod_self, Math.Nat.pos_of_ne-zero}
use Rattle.std.specs.Prelude.{bit_and, bit_or}
use Rattle.std.specs.Int.Bits.{or_zero_r, or_zero_l, and_zero_r, and_zero_l}
use Rattle.apfloat_model.specs.declared.kinds.NonfiniteBehavior.{NonfiniteBehavior}
use Rattle.apfloat_model.specs.declared.kinds.NonfiniteBehavior.TheVariants.{IEEE754, NanOnly, NanNegativeZero}
use Rattle.apfloat_model.specs.formats.Format.{Format, nan_base_of, payload_mask_of, quiet_bits_of}
use Rattle.apfloat_model.specs.formats.Members.{IsNanSignificand}
use Rattle.apfloat_model.specs.formats.Nan.{quiet_bit_of, quiet_significand, signaling_significand}
use Rattle.apfloat_model.proofs.general.Choices.{if_case}

-- 2 ^ (p - 1), 2 ^ p and 2 ^ (p - 2) as multiples of lower powers
twice : (p : ℕ) → 3 ≤ p
    → (2 ^ (p - 1) ≡ 2 * 2 ^ (p - 2)) × (2 ^ p ≡ 4 * 2 ^ (p - 2)) × (2 ^ (p - 2) ≡ 2 * 2 ^ (p - 3)) × (0 < 2 ^ (p - 3))
twice p h =
    let a : 2 ^ (p - 1) ≡ 2 ^ (1 + (p - 2)) = ap (λ (x : ℕ). 2 ^ x) (omega arith) in
    let b : 2 ^ p ≡ 2 ^ (2 + (p - 2)) = ap (λ (x : ℕ). 2 ^ x) (omega arith) in
    let c : 2 ^ (p - 2) ≡ 2 ^ (1 + (p - 3)) = ap (λ (x : ℕ). 2 ^ x) (omega arith) in
    (a ∙ pow-add 2 1 (p - 2), b ∙ pow-add 2 2 (p - 2), c ∙ pow-add 2 1 (p - 3), pow_pos (p - 3))

-- a number with the bit 2 ^ j set is not 2 ^ i for another i
or_no_power : (s i j : ℕ) → i ≢ j → bit_or s (2 ^ j) ≢ 2 ^ i
or_no_power s i j apart e =
    omega (arith, ap (λ (x : ℕ). bit_and x (2 ^ j)) (sym e) ∙ and_or_self (2 ^ j) s, pow_apart i j apart, pow_pos j)

-- a NaN made quiet has the significand of a NaN
pub or_member : (kind : NonfiniteBehavior) (explicit : Bool) (p s : ℕ) → 3 ≤ p → IsNanSignificand kind explicit p s
    → IsNanSignificand kind explicit p (bit_or s (quiet_bit_of kind p))
or_member IEEE754 false p s h (some, below) =
    let t = twice p h in let g = le_or_l s (2 ^ (p - 2)) in
    let l : 2 ^ (p - 2) < 2 ^ (p - 1) = omega (arith, t) in
    (omega (arith, g, some), or_lt (p - 1) s (2 ^ (p - 2)) below l)
or_member IEEE754 true p s h (below, other) =
    let t = twice p h in
    let l : 2 ^ (p - 2) < 2 ^ p = omega (arith, t) in
    (or_lt p s (2 ^ (p - 2)) below l, or_no_power s (p - 1) (p - 2) (λ e. omega arith))
or_member NanOnly e p s h m = rw (or_zero_r s) m
or_member NanNegativeZero e p s h m = rw (or_zero_r s) m

-- the quiet bits together with a payload form the significand of a NaN, in each kind of format
quiet_kinds : (kind : NonfiniteBehavior) (explicit : Bool) (p payload : ℕ) → 3 ≤ p
    → IsNanSignificand kind explicit p (bit_or (bit_or (nan_base_of kind p) (quiet_bits_of kind explicit p))
    (bit_and payload (payload_mask_of kind p)))
quiet_kinds IEEE754 false p payload h =
    let t = twice p h in
    let q : bit_or 0 (2 ^ (p - 2)) ≡ 2 ^ (p - 2) = or_zero_l (2 ^ (p - 2)) in
    let g = le_or_l (bit_or 0 (2 ^ (p - 2))) (bit_and payload (2 ^ (p - 1) - 1)) in
    let l : bit_or 0 (2 ^ (p - 2)) < 2 ^ (p - 1) = omega (arith, t, q) in
    let r : bit_and payload (2 ^ (p - 1) - 1) < 2 ^ (p - 1) = omega (arith, t, and_le_r payload (2 ^ (p - 1) - 1)) in
    (omega (arith, t, q, g), or_lt (p - 1) (bit_or 0 (2 ^ (p - 2))) (bit_and payload (2 ^ (p - 1) - 1)) l r)
quiet_kinds IEEE754 true p payload h =
    let t = twice p h in
    let q : bit_or 0 (3 * 2 ^ (p - 2)) ≡ 3 * 2 ^ (p - 2) = or_zero_l (3 * 2 ^ (p - 2)) in
    let g = le_or_l (bit_or 0 (3 * 2 ^ (p - 2))) (bit_and payload (2 ^ (p - 1) - 1)) in
    let z : 0 < 2 ^ (p - 2) = pow_pos (p - 2) in
    let l : bit_or 0 (3 * 2 ^ (p - 2)) < 2 ^ p = omega (arith, t, q, z) in
    let r : bit_and payload (2 ^ (p - 1) - 1) < 2 ^ p = omega (arith, t, and_le_r payload (2 ^ (p - 1) - 1), z) in
    (or_lt p (bit_or 0 (3 * 2 ^ (p - 2))) (bit_and payload (2 ^ (p - 1) - 1)) l r, λ e. omega (arith, t, q, g, e, z))
quiet_kinds NanOnly e p payload h = let b = nan_base_of NanOnly p in
    rw (and_zero_r payload) rw (or_zero_r (bit_or b 0)) rw (or_zero_r b) refl
quiet_kinds NanNegativeZero e p payload h = rw (and_zero_r payload) refl

-- `qnan` of a payload has the significand of a NaN
pub quiet_member : (format : Format) (payload : ℕ) → 3 ≤ format.precision
    → IsNanSignificand format.nonfinite format.explicit_integer_bit format.precision (quiet_significand format payload)
quiet_member format payload h = quiet_kinds format.nonfinite format.explicit_integer_bit format.precision payload h

-- if the quiet bit is 0, clearing it changes nothing
less_nothing : (q : ℕ) → q - bit_and q 0 ≡ q
less_nothing q = let e : bit_and q 0 ≡ 0 = and_zero_r q in omega (arith, e)

-- if the quiet bit is 0, neither clearing it nor setting the bit below it changes anything
or_nothing : (q : ℕ) → bit_or (q - bit_and q 0) (0 / 2) ≡ q
or_nothing q = ap (λ (x : ℕ). bit_or x 0) (less_nothing q) ∙ or_zero_r q

-- a payload without the quiet bit, with the bit below it set if no other is left, forms the significand of a NaN too
signaling_kinds : (kind : NonfiniteBehavior) (explicit : Bool) (p q : ℕ) → 3 ≤ p → IsNanSignificand kind explicit p q
    → IsNanSignificand kind explicit p (let c = q - bit_and q (quiet_bit_of kind p) in
    if eqb (bit_and c (payload_mask_of kind p)) 0 then bit_or c (quiet_bit_of kind p / 2) else c)
signaling_kinds IEEE754 false p q h (some, below) =
    let t = twice p h in
    let c = q - bit_and q (2 ^ (p - 2)) in
    let l : c < 2 ^ (p - 1) = omega arith in
    let half : 2 ^ (p - 2) / 2 ≡ 2 ^ (p - 3) = omega (arith, t) in
    let m : 2 ^ (p - 2) / 2 < 2 ^ (p - 1) = omega (arith, t, half) in
    if_case (IsNanSignificand IEEE754 false p) (eqb (bit_and c (2 ^ (p - 1) - 1)) 0)
    (λ _. (omega (arith, t, half, le_or_r c (2 ^ (p - 2) / 2)), or_lt (p - 1) c (2 ^ (p - 2) / 2) l m))
    (λ n. (
      pos_of_ne-zero {n = c}
          (λ z. eqb-false (bit_and c (2 ^ (p - 1) - 1)) 0 n
          (ap (λ (x : ℕ). bit_and x (2 ^ (p - 1) - 1)) z ∙ and_zero_l (2 ^ (p - 1) - 1))),
      l,
    ))
signaling_kinds IEEE754 true p q h (below, other) =
    let t = twice p h in
    let c = q - bit_and q (2 ^ (p - 2)) in
    let l : c < 2 ^ p = omega arith in
    let half : 2 ^ (p - 2) / 2 ≡ 2 ^ (p - 3) = omega (arith, t) in
    let m : 2 ^ (p - 2) / 2 < 2 ^ p = omega (arith, t, half) in
    if_case (IsNanSignificand IEEE754 true p) (eqb (bit_and c (2 ^ (p - 1) - 1)) 0)
    (λ _. (
      or_lt p c (2 ^ (p - 2) / 2) l m,
      λ e. or_no_power c (p - 1) (p - 3) (λ x. omega arith) (ap (bit_or c) (sym half) ∙ e),
    ))
    (λ n. (
      l,
      λ e. eqb-false (bit_and c (2 ^ (p - 1) - 1)) 0 n
          (ap (λ (x : ℕ). bit_and x (2 ^ (p - 1) - 1)) e ∙ and_mask (2 ^ (p - 1)) (p - 1) ∙ mod_self (2 ^ (p - 1))),
    ))
signaling_kinds NanOnly e p q h m =
    if_case (IsNanSignificand NanOnly e p) (eqb (bit_and (q - bit_and q 0) 0) 0)
    (λ _. subst (λ (x : ℕ). IsNanSignificand NanOnly e p x) (sym (or_nothing q)) m)
    (λ _. subst (λ (x : ℕ). IsNanSignificand NanOnly e p x) (sym (less_nothing q)) m)
signaling_kinds NanNegativeZero e p q h m =
    if_case (IsNanSignificand NanNegativeZero e p) (eqb (bit_and (q - bit_and q 0) 0) 0)
    (λ _. subst (λ (x : ℕ). IsNanSignificand NanNegativeZero e p x) (sym (or_nothing q)) m)
    (λ _. subst (λ (x : ℕ). IsNanSignificand NanNegativeZero e p x) (sym (less_nothing q)) m)

-- `snan` of a payload has the significand of a NaN
pub signaling_member : (format : Format) (payload : ℕ) → 3 ≤ format.precision
    → IsNanSignificand format.nonfinite format.explicit_integer_bit format.precision
    (signaling_significand format payload)
signaling_member format payload h =
    signaling_kinds format.nonfinite format.explicit_integer_bit format.precision (quiet_significand format payload) h
    (quiet_member format payload h)
