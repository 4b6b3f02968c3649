-- The payload of the NaN with a payload is that payload.
use Rattle.std.proofs.Common.{◌≡◌, ℕ, ◌+◌, ◌-◌, ◌*◌, ◌/◌, ◌%◌, ◌^◌, ◌<◌, ◌≤◌, Bool, true, false, refl, ap, ◌∙◌, arith}
use Rattle.std.proofs.Common.{cond, eqb, if◌then◌else◌, leb, ltb}
use Rattle.std.proofs.Math.Nat.{mul-mod_left, mul-div_cancel}
use Rattle.std.proofs.lemmas.Bool.{le-leb, lt-ltb, ne_eqb}
use Rattle.std.proofs.lemmas.Nat.{pow_pos, pow-add, and_mask, or_shifted, and_block, mod-mul-add, mod_below}
use Rattle.std.specs.{Prelude.bit_and, Prelude.bit_or, Int.Bits.or_zero_l, Int.Bits.and_zero_r}
use Rattle.apfloat_model.specs.declared.kinds.NonfiniteBehavior.{NonfiniteBehavior}
use Rattle.apfloat_model.specs.declared.kinds.NonfiniteBehavior.TheVariants.{IEEE754, NanOnly, NanNegativeZero}
use Rattle.apfloat_model.specs.formats.Constants.{zero_datum}
use Rattle.apfloat_model.specs.formats.Format.{Format, nan_base_of, payload_mask_of, quiet_bits_of}
use Rattle.apfloat_model.specs.formats.Nan.{quiet_bit_of, quiet_significand, signaling_significand, qnan, snan}
use Rattle.ieee_operations.specs.augmented.Payloads.{payload_bits_of, payload_bits, integer_datum, integer_of}
use Rattle.ieee_operations.specs.augmented.Payloads.{is_payload, payload_of, get_payload, set_payload}
use Rattle.ieee_operations.specs.augmented.Payloads.{set_payload_signaling, ArePayloadsKept}

abbrev quiet_of : NonfiniteBehavior → Bool → ℕ → ℕ → ℕ
quiet_of kind explicit p k =
    bit_or (bit_or (nan_base_of kind p) (quiet_bits_of kind explicit p)) (bit_and k (payload_mask_of kind p))

abbrev cleared_of : NonfiniteBehavior → ℕ → ℕ → ℕ
cleared_of kind p q = q - bit_and q (quiet_bit_of kind p)

abbrev signaling_of : NonfiniteBehavior → ℕ → ℕ → ℕ
signaling_of kind p q =
    if eqb (bit_and (cleared_of kind p q) (payload_mask_of kind p)) 0
    then bit_or (cleared_of kind p q) (quiet_bit_of kind p / 2) else cleared_of kind p q

-- ---- formats with payloads: p is the precision, k a payload, and 2 ^ (p - 2) the quiet bit; above the payload are the
-- digits a = 2 * c + 1, the last of them the quiet bit

twice : (p : ℕ) → 3 ≤ p → 2 ^ (p - 1) ≡ 2 * 2 ^ (p - 2)
twice p h =
    let e : 2 ^ (p - 1) ≡ 2 ^ (1 + (p - 2)) = ap (λ (x : ℕ). 2 ^ x) (omega (arith, h)) in
    e ∙ pow-add 2 1 (p - 2)

-- the digits of a payload are below the quiet bit
masked : (p c k : ℕ) → 3 ≤ p → k < 2 ^ (p - 2) → bit_and (2 * c * 2 ^ (p - 2) + k) (2 ^ (p - 1) - 1) ≡ k
masked p c k h l =
    let t = twice p h in
    let e : 2 * c * 2 ^ (p - 2) + k ≡ c * 2 ^ (p - 1) + k = rw t (omega arith) in
    and_mask (2 * c * 2 ^ (p - 2) + k) (p - 1) ∙ ap (λ (n : ℕ). n % 2 ^ (p - 1)) e
    ∙ mod-mul-add c (2 ^ (p - 1)) k (omega (arith, l, t))

plain : (p k : ℕ) → 3 ≤ p → k < 2 ^ (p - 2) → bit_and k (2 ^ (p - 1) - 1) ≡ k
plain p k h l =
    let e : k ≡ 2 * 0 * 2 ^ (p - 2) + k = omega arith in
    ap (λ (n : ℕ). bit_and n (2 ^ (p - 1) - 1)) e ∙ masked p 0 k h l

quiet_is : (p q a k : ℕ) → 3 ≤ p → k < 2 ^ (p - 2) → q ≡ a * 2 ^ (p - 2)
    → bit_or (bit_or 0 q) (bit_and k (2 ^ (p - 1) - 1)) ≡ a * 2 ^ (p - 2) + k
quiet_is p q a k h l e =
    ap (λ (n : ℕ). bit_or n (bit_and k (2 ^ (p - 1) - 1))) (or_zero_l q ∙ e)
    ∙ ap (λ (n : ℕ). bit_or (a * 2 ^ (p - 2)) n) (plain p k h l) ∙ or_shifted a (p - 2) k l

-- what is left of a quiet NaN's significand without its quiet bit
cleared_is : (p a c k : ℕ) → k < 2 ^ (p - 2) → bit_and a 1 ≡ 1 → a ≡ 2 * c + 1
    → (a * 2 ^ (p - 2) + k) - bit_and (a * 2 ^ (p - 2) + k) (2 ^ (p - 2)) ≡ 2 * c * 2 ^ (p - 2) + k
cleared_is p a c k l o e =
    let u = 2 ^ (p - 2) in
    let one : 2 ^ (p - 2) ≡ 1 * 2 ^ (p - 2) + 0 = omega arith in
    let b : bit_and (a * u + k) u ≡ 1 * u + 0 = ap (λ (n : ℕ). bit_and (a * u + k) n) one ∙ and_block (p - 2) a 1 k 0 l
    (pow_pos (p - 2)) ∙ ap (λ (n : ℕ). n * u + bit_and k 0) o ∙ ap (λ (n : ℕ). 1 * u + n) (and_zero_r k) in
    let f : a * u ≡ (2 * c + 1) * u = ap (λ (n : ℕ). n * u) e in
    omega (arith, b, f)

-- a quiet NaN with a payload other than 0, made signaling, keeps the payload
signaling_is : (p q a c k : ℕ) → 3 ≤ p → k < 2 ^ (p - 2) → 1 ≤ k → bit_and a 1 ≡ 1 → a ≡ 2 * c + 1
    → q ≡ a * 2 ^ (p - 2) + k → signaling_of IEEE754 p q % 2 ^ (p - 2) ≡ k
signaling_is p q a c k h l some o e qe =
    let d : cleared_of IEEE754 p q ≡ 2 * c * 2 ^ (p - 2) + k =
    ap (λ (n : ℕ). n - bit_and n (2 ^ (p - 2))) qe ∙ cleared_is p a c k l o e in
    let m : bit_and (cleared_of IEEE754 p q) (2 ^ (p - 1) - 1) ≡ k =
    ap (λ (n : ℕ). bit_and n (2 ^ (p - 1) - 1)) d ∙ masked p c k h l in
    let t : eqb (bit_and (cleared_of IEEE754 p q) (2 ^ (p - 1) - 1)) 0 ≡ false =
    ne_eqb _ 0 (λ z. omega (arith, m, z, some)) in
    ap (λ (b : Bool). (cond b (bit_or (cleared_of IEEE754 p q) (2 ^ (p - 2) / 2)) (cleared_of IEEE754 p q))
    % 2 ^ (p - 2)) t ∙ ap (λ (n : ℕ). n % 2 ^ (p - 2)) d ∙ mod-mul-add (2 * c) (2 ^ (p - 2)) k l

-- ---- each kind of format

no_bits : (n k : ℕ) → k < 2 ^ 0 → n % 2 ^ 0 ≡ k
no_bits n k h = let l : n % 2 ^ 0 < 2 ^ 0 = mod_below n (2 ^ 0) (pow_pos 0) in omega (arith, l, h)

quiet_back : (kind : NonfiniteBehavior) (explicit : Bool) (p k : ℕ) → 3 ≤ p → k < 2 ^ payload_bits_of kind p
    → quiet_of kind explicit p k % 2 ^ payload_bits_of kind p ≡ k
quiet_back IEEE754 false p k h l =
    ap (λ (n : ℕ). n % 2 ^ (p - 2)) (quiet_is p (2 ^ (p - 2)) 1 k h l (omega arith)) ∙ mod-mul-add 1 (2 ^ (p - 2)) k l
quiet_back IEEE754 true p k h l =
    ap (λ (n : ℕ). n % 2 ^ (p - 2)) (quiet_is p (3 * 2 ^ (p - 2)) 3 k h l refl) ∙ mod-mul-add 3 (2 ^ (p - 2)) k l
quiet_back NanOnly explicit p k h l = no_bits _ k l
quiet_back NanNegativeZero explicit p k h l = no_bits _ k l

signaling_back : (kind : NonfiniteBehavior) (explicit : Bool) (p k : ℕ) → 3 ≤ p → k < 2 ^ payload_bits_of kind p
    → 1 ≤ k → signaling_of kind p (quiet_of kind explicit p k) % 2 ^ payload_bits_of kind p ≡ k
signaling_back IEEE754 false p k h l some =
    signaling_is p _ 1 0 k h l some refl refl (quiet_is p (2 ^ (p - 2)) 1 k h l (omega arith))
signaling_back IEEE754 true p k h l some =
    signaling_is p _ 3 1 k h l some refl refl (quiet_is p (3 * 2 ^ (p - 2)) 3 k h l refl)
signaling_back NanOnly explicit p k h l some = absurd (omega (arith, l, some))
signaling_back NanNegativeZero explicit p k h l some = absurd (omega (arith, l, some))

-- ---- the calls

module _ (f : Format) (k : ℕ) where
  integer_is : integer_of f (integer_datum f false k) ≡ k
  integer_is = mul-div_cancel k {n = 2 ^ f.scale} (pow_pos f.scale)

  fits : (least : ℕ) → least ≤ k → k < 2 ^ payload_bits f → is_payload f least (integer_datum f false k) ≡ true
  fits least h l =
      let r : k * 2 ^ f.scale % 2 ^ f.scale ≡ 0 = mul-mod_left k (2 ^ f.scale) in
      let d : k * 2 ^ f.scale / 2 ^ f.scale ≡ k = integer_is in
      let a : leb least k ≡ true = le-leb least k h in
      let b : ltb k (2 ^ payload_bits f) ≡ true = lt-ltb k (2 ^ payload_bits f) l in
      rw (r, d, a, b) refl

  quiet_kept : 3 ≤ f.precision → k < 2 ^ payload_bits f
      → get_payload f (set_payload f (integer_datum f false k)) ≡ integer_datum f false k
  quiet_kept h l =
      let x = integer_datum f false k in
      ap (λ (b : Bool). get_payload f (cond b (qnan f (integer_of f x)) zero_datum)) (fits 0 (omega arith) l)
      ∙ ap (λ (n : ℕ). integer_datum f false (payload_of f (quiet_significand f n))) integer_is
      ∙ ap (λ (n : ℕ). integer_datum f false n) (quiet_back f.nonfinite f.explicit_integer_bit f.precision k h l)

  signaling_kept : 3 ≤ f.precision → k < 2 ^ payload_bits f → 1 ≤ k
      → get_payload f (set_payload_signaling f (integer_datum f false k)) ≡ integer_datum f false k
  signaling_kept h l some =
      let x = integer_datum f false k in
      ap (λ (b : Bool). get_payload f (cond b (snan f (integer_of f x)) zero_datum)) (fits 1 some l)
      ∙ ap (λ (n : ℕ). integer_datum f false (payload_of f (signaling_significand f n))) integer_is
      ∙ ap (λ (n : ℕ). integer_datum f false n)
      (signaling_back f.nonfinite f.explicit_integer_bit f.precision k h l some)

pub payloads_kept : ArePayloadsKept
payloads_kept f h k l = (quiet_kept f k h l, λ some. signaling_kept f k h l some)
