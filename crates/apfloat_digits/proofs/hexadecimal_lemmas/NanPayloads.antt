-- Payloads in bits and in texts, and that a NaN is read back.
use Rattle.std.proofs.{Math.Nat.pow-le-pow_right, Math.Pow.mod-mod-pow, lemmas.Bool.cases_Bool}
use Rattle.std.proofs.Common.{◌≡◌, ◌⊎◌, ℕ, zero, suc, ◌+◌, ◌-◌, ◌*◌, ◌/◌, ◌%◌, ◌^◌, ◌<◌, ◌≤◌, Bool, true, false, not}
use Rattle.std.proofs.Common.{cond, refl, sym, ap, ◌∙◌, subst, inl, inr, ⊎_elim, arith, List, [], ◌∷◌, ◌++◌, length}
use Rattle.std.proofs.Common.{append_assoc, codes, eqb, leb, ltb, Option, Some}
use Rattle.std.proofs.Math.Nat.{div-eq_of_lt, div-eq_of_lt-le, div-lt_iff_lt-mul, mod-eq_of_lt, mod-lt}
use Rattle.std.proofs.lemmas.Bool.{cases_lt, cond_both, eqb-true, eqb-false, false≢true, lt-ltb, ne_eqb, and_parts}
use Rattle.std.proofs.lemmas.Nat.{and_comm, and_mask, div-add-mod', or_disjoint, pow_pos, Bits.and_pow}
use Rattle.std.proofs.lemmas.List.{append-nil}
use Rattle.std.specs.{Bool.⊤, Int.Bits.or_zero_l, Prelude.bit_and, Prelude.bit_or, Prelude.Result}
use Rattle.apfloat_model.specs.bits.Layout.{Layout, Fields, trailing_bits, fields_of, has_all_ones, implied_number}
use Rattle.apfloat_model.specs.bits.Layout.{implied_datum, written_number, written_datum, datum_of}
use Rattle.apfloat_model.specs.declared.{kinds.Round.Round, marks.Radix.TheVariants.Sixteen}
use Rattle.apfloat_model.specs.declared.{parse_error.ParseError.ParseError, status.StatusAnd.StatusAnd}
use Rattle.apfloat_model.specs.declared.kinds.Category.{Category, TheVariants.NaN}
use Rattle.apfloat_model.specs.declared.kinds.NonfiniteBehavior.{NonfiniteBehavior, TheVariants.IEEE754}
use Rattle.apfloat_model.specs.formats.{Members.IsMember, Members.IsNanSignificand, Nan.is_signaling}
use Rattle.apfloat_model.specs.formats.Datum.{Datum, finite, infinite, nan}
use Rattle.apfloat_model.specs.formats.Format.{Format, smallest_normalized, nan_base_of, payload_mask_of, quiet_bits_of}
use Rattle.apfloat_model.specs.formats.Nan.{nan_sign, quiet_bit_of, quiet_significand, signaling_significand}
use Rattle.apfloat_model.specs.order.Classes.{category_of, is_nan_category}
use Rattle.apfloat_model.specs.texts.{Parsing.IsRead, Specials.not_a_number, Specials.number_of_digits}
use Rattle.apfloat_model.specs.texts.Digits.{every, is_hexadecimal, number}
use Rattle.apfloat_model.specs.texts.Specials.{after_plus, special_of, with_payload, payload_of as payload_read}
use Rattle.apfloat_model.specs.texts.Texts.{Means}
use Rattle.apfloat_model.proofs.general.Powers.{exponent_below, twice_power, two_pos}
use Rattle.apfloat_model.proofs.formats.LawfulRanges.{HasRanges}
use Rattle.apfloat_conversions.specs.hex_texts.Scans.{number_from}
use Rattle.apfloat_digits.specs.hexadecimal.HexTexts.{digits_text, nan_text, IsHexText}
use Rattle.apfloat_digits.specs.hexadecimal.PayloadTexts.{payload_in, payload_of, IsPayloadText, IsFullText}
use Rattle.apfloat_digits.specs.hexadecimal.ReadBack.{IsReadExactly}
use Rattle.apfloat_digits.proofs.hexadecimal_lemmas.Characters.{digits_number, digits_length, digits_hexadecimal}
use Rattle.apfloat_digits.proofs.hexadecimal_lemmas.Numbers.{sixteens}
use Rattle.apfloat_digits.proofs.hexadecimal_lemmas.ReadTexts.{IsTextOf, nan_means, one_text, read_of, text_of}

-- ---- in bits

abbrev IsTrailing : ℕ → Datum → Type 0
IsTrailing t (finite b n) = ⊤
IsTrailing t (infinite b) = ⊤
IsTrailing t (nan b s) = s ≡ t

implied_trailing : (f : Format) (layout : Layout) (x : Fields)
    → IsTrailing x.trailing (implied_datum IEEE754 f layout x)
implied_trailing f layout x =
    cond_both (has_all_ones layout x) (cond (eqb x.trailing 0) (infinite x.negative) (nan x.negative x.trailing))
    (implied_number f x) (IsTrailing x.trailing)
    (λ ones. cond_both (eqb x.trailing 0) (infinite x.negative) (nan x.negative x.trailing) (IsTrailing x.trailing)
    (λ none. tt) (λ some. refl))
    (λ not_ones. cond_both (eqb x.biased_exponent 0) (finite x.negative x.trailing)
    (finite x.negative ((smallest_normalized f + x.trailing) * 2 ^ (x.biased_exponent - 1))) (IsTrailing x.trailing)
    (λ low. tt) (λ high. tt))

written_trailing : (f : Format) (layout : Layout) (x : Fields) → IsTrailing x.trailing (written_datum f layout x)
written_trailing f layout x =
    cond_both (has_all_ones layout x)
    (cond (eqb x.trailing (smallest_normalized f)) (infinite x.negative) (nan x.negative x.trailing))
    (written_number f x) (IsTrailing x.trailing)
    (λ ones. cond_both (eqb x.trailing (smallest_normalized f)) (infinite x.negative) (nan x.negative x.trailing)
    (IsTrailing x.trailing) (λ none. tt) (λ some. refl))
    (λ not_ones. cond_both (eqb x.biased_exponent 0) (finite x.negative x.trailing)
    (cond (leb (smallest_normalized f) x.trailing)
    (finite x.negative (x.trailing * 2 ^ (x.biased_exponent - 1))) (nan x.negative x.trailing)) (IsTrailing x.trailing)
    (λ low. tt)
    (λ high. cond_both (leb (smallest_normalized f) x.trailing)
    (finite x.negative (x.trailing * 2 ^ (x.biased_exponent - 1))) (nan x.negative x.trailing) (IsTrailing x.trailing)
    (λ normal. tt) (λ less. refl)))

-- the significand of a NaN is at the end of its bits
trailing_of : (f : Format) (layout : Layout) (bits s : ℕ) (b : Bool) → f.nonfinite ≡ IEEE754
    → datum_of f layout bits ≡ nan b s → s ≡ bits % 2 ^ trailing_bits f
trailing_of f layout bits s b kind e =
    let x = fields_of f layout bits in
    let implied : IsTrailing x.trailing (implied_datum f.nonfinite f layout x) =
    subst (λ (k : NonfiniteBehavior). IsTrailing x.trailing (implied_datum k f layout x)) (sym kind)
    (implied_trailing f layout x) in
    subst (λ (d : Datum). IsTrailing x.trailing d) e
    (cond_both f.explicit_integer_bit (written_datum f layout x) (implied_datum f.nonfinite f layout x)
    (IsTrailing x.trailing) (λ explicit. written_trailing f layout x) (λ without. implied))

lower_digits : (precision bits : ℕ) (explicit : Bool) → 3 ≤ precision
    → bits % 2 ^ (cond explicit precision (precision - 1)) % 2 ^ (precision - 2) ≡ bits % 2 ^ (precision - 2)
lower_digits precision bits true some =
    let e : precision ≡ 2 + (precision - 2) = omega (arith, some) in
    ap (λ (k : ℕ). bits % 2 ^ k % 2 ^ (precision - 2)) e ∙ mod-mod-pow bits 2 (precision - 2)
lower_digits precision bits false some =
    let e : precision - 1 ≡ 1 + (precision - 2) = omega (arith, some) in
    ap (λ (k : ℕ). bits % 2 ^ k % 2 ^ (precision - 2)) e ∙ mod-mod-pow bits 1 (precision - 2)

-- the payload of a NaN is at the end of its bits
pub payload_at_end : (f : Format) (layout : Layout) (x : Datum) (bits : ℕ) → 3 ≤ f.precision → f.nonfinite ≡ IEEE754
    → category_of x ≡ NaN → datum_of f layout bits ≡ x → bits % 2 ^ (f.precision - 2) ≡ payload_of f x
payload_at_end f layout (finite b n) bits some kind is e = absurd (finite_not b n (cases_Bool (eqb n 0)) is)
  where
    finite_not : (b : Bool) (n : ℕ) → (eqb n 0 ≡ true) ⊎ (eqb n 0 ≡ false) → category_of (finite b n) ≡ NaN → ⊥
    finite_not b n (inl z) is = let h = rw z at is in cc
    finite_not b n (inr z) is = let h = rw z at is in cc
payload_at_end f layout (infinite b) bits some kind is e = cc
payload_at_end f layout (nan b s) bits some kind is e =
    let t = trailing_of f layout bits s b kind e in
    sym (ap (λ (k : NonfiniteBehavior). payload_in k f.precision s) kind
    ∙ ap (λ (n : ℕ). n % 2 ^ (f.precision - 2)) t ∙ lower_digits f.precision bits f.explicit_integer_bit some)

-- other values have none
pub other_category : (f : Format) (x : Datum) (category : Category) → category_of x ≡ category
    → is_nan_category category ≡ false → payload_of f x ≡ 0
other_category f (finite b n) category e none = refl
other_category f (infinite b) category e none = refl
other_category f (nan b s) category e none = absurd (false≢true (sym none ∙ ap is_nan_category (sym e)))

-- ---- the text of a payload

pub payload_of_none : IsPayloadText 0 []
payload_of_none = record { none = λ e. refl; some = λ p. absurd (omega (arith, p)) }

-- as many digits as a number of `count` binary digits has
pub payload_of_some : (payload count : ℕ) (text : List ℕ) → 0 < payload → 2 ^ (count - 1) ≤ payload
    → payload < 2 ^ count → text ≡ codes "0x" ++ digits_text ((count - 1) / 4 + 1) payload → IsPayloadText payload text
payload_of_some payload count text some low high e =
    let places = (count - 1) / 4 in
    let below : 4 * places ≤ count - 1 = omega arith in
    let above : count ≤ 4 * (places + 1) = omega arith in
    let a : 2 ^ (4 * places) ≤ 2 ^ (count - 1) = pow-le-pow_right two_pos below in
    let b : 2 ^ count ≤ 2 ^ (4 * (places + 1)) = pow-le-pow_right two_pos above in
    record {
      none = λ z. absurd (omega (arith, z, some));
      some = λ p. (places, omega (arith, a, sixteens places, low), omega (arith, b, sixteens (places + 1), high), e);
    }

pub count_some : (payload count : ℕ) → 0 < payload → payload < 2 ^ count → 0 < count
count_some payload zero some l = absurd (omega (arith, some, l))
count_some payload (suc n) some l = omega arith

pub prefixed : (text digits : List ℕ) → ((text ++ (48 ∷ [])) ++ (120 ∷ [])) ++ digits ≡ text ++ (codes "0x" ++ digits)
prefixed text digits = append_assoc (text ++ (48 ∷ [])) (120 ∷ []) digits ∙ append_assoc text (48 ∷ []) (120 ∷ digits)

-- a value without a payload
pub full_of : (f : Format) (x : Datum) (text : List ℕ) → payload_of f x ≡ 0 → IsHexText f x text → IsFullText f x text
full_of f x text none is = record {
  front = text;
  rest = [];
  is_front = is;
  is_rest = subst (λ (n : ℕ). IsPayloadText n []) (sym none) payload_of_none;
  text_is = sym (append-nil text);
}

-- ---- one text

one_places : (n a b : ℕ) → 16 ^ a ≤ n → n < 16 ^ (b + 1) → a ≤ b
one_places n a b low high =
    let l : 2 ^ (4 * a) < 2 ^ (4 * (b + 1)) = omega (arith, sixteens a, sixteens (b + 1), low, high) in
    omega (arith, exponent_below (4 * a) (4 * (b + 1)) l)

one_payload : (payload : ℕ) (text other : List ℕ) → IsPayloadText payload text → IsPayloadText payload other
    → text ≡ other
one_payload payload text other x y =
    ⊎_elim
    (λ (some : 0 < payload).
    let a = x.some some in
    let b = y.some some in
    let same : a.0 ≡ b.0 = omega (arith, one_places payload a.0 b.0 a.1 b.2, one_places payload b.0 a.0 b.1 a.2) in
    a.3 ∙ ap (λ (p : ℕ). codes "0x" ++ digits_text (p + 1) payload) same ∙ sym b.3)
    (λ (none : payload ≤ 0).
    let zero_is : payload ≡ 0 = omega (arith, none) in
    x.none zero_is ∙ sym (y.none zero_is))
    (cases_lt 0 payload)

pub one_full : (f : Format) (x : Datum) (text other : List ℕ) → IsFullText f x text → IsFullText f x other
    → text ≡ other
one_full f x text other a b =
    let front = one_text f x a.front b.front a.is_front b.is_front in
    let rest = one_payload (payload_of f x) a.rest b.rest a.is_rest b.is_rest in
    a.text_is ∙ ap (λ (t : List ℕ). t ++ a.rest) front ∙ ap (λ (t : List ℕ). b.front ++ t) rest ∙ sym b.text_is

-- ---- what a payload is read as

digits_read : (ds : List ℕ) (p : ℕ) → 1 ≤ length ds → every is_hexadecimal ds ≡ true → number 16 ds ≡ p
    → p < 2 ^ 128 → number_of_digits Sixteen (after_plus ds) ≡ Some p
digits_read [] p some digits is few = absurd (omega (arith, some))
digits_read (c ∷ rest) p some digits is few =
    let first = (and_parts (is_hexadecimal c) (every is_hexadecimal rest) digits).0 in
    let plus : eqb c 43 ≡ false = ne_eqb c 43 (λ e. false≢true (rw e at first)) in
    let fits : ltb (number 16 (c ∷ rest)) (2 ^ 128) ≡ true =
    ap (λ (n : ℕ). ltb n (2 ^ 128)) is ∙ lt-ltb p (2 ^ 128) few in
    rw (plus, digits, fits) (ap Some is)

payload_back : (payload places : ℕ) → payload < 16 ^ (places + 1) → payload < 2 ^ 128
    → payload_read (codes "0x" ++ digits_text (places + 1) payload) ≡ Some payload
payload_back payload places below few =
    let ds = digits_text (places + 1) payload in
    let size = digits_length (places + 1) payload in
    let value : number_from 0 ds ≡ 0 * 16 ^ (places + 1) + payload = digits_number (places + 1) 0 payload below in
    let none : 0 * 16 ^ (places + 1) + payload ≡ payload = omega arith in
    digits_read ds payload (omega (arith, size)) (digits_hexadecimal (places + 1) payload) (value ∙ none) few

nan_special : (negative signaling : Bool) (ds : List ℕ)
    → special_of (nan_text negative signaling ++ (codes "0x" ++ ds))
    ≡ with_payload negative signaling (payload_read (codes "0x" ++ ds))
nan_special true true ds = refl
nan_special true false ds = refl
nan_special false true ds = refl
nan_special false false ds = refl

pub nan_means_payload : (negative signaling : Bool) (payload places : ℕ) → payload < 16 ^ (places + 1)
    → payload < 2 ^ 128 → Means (nan_text negative signaling ++ (codes "0x" ++ digits_text (places + 1) payload))
    (not_a_number negative signaling payload)
nan_means_payload negative signaling payload places below few =
    nan_special negative signaling (digits_text (places + 1) payload)
    ∙ ap (λ (p : Option ℕ). with_payload negative signaling p) (payload_back payload places below few)

-- ---- significands

-- 2 ^ k is one of the digits of s, or it is not
tested : (s k : ℕ) → bit_and s (2 ^ k) ≡ (s / 2 ^ k % 2) * 2 ^ k
tested s k = and_pow s k

-- with the digit 2 ^ k alone above a smaller number
joined : (q k : ℕ) → q < 2 ^ k → bit_or (2 ^ k) q ≡ 2 ^ k + q
joined q k l =
    let high : q / 2 ^ k ≡ 0 = div-eq_of_lt l in
    let apart : bit_and q (2 ^ k) ≡ 0 = tested q k ∙ ap (λ (n : ℕ). (n % 2) * 2 ^ k) high ∙ omega arith in
    or_disjoint (2 ^ k) q (and_comm (2 ^ k) q ∙ apart)

-- a payload is kept by the mask of a format
masked : (q k : ℕ) → q < 2 ^ k → bit_and q (2 ^ (k + 1) - 1) ≡ q
masked q k l =
    let more : 2 ^ (k + 1) ≡ 2 * 2 ^ k = twice_power k in
    let below : q < 2 ^ (k + 1) = omega (arith, more, l) in
    and_mask q (k + 1) ∙ mod-eq_of_lt below

-- the quiet NaN with that payload
quiet_is : (q k : ℕ) → q < 2 ^ k → bit_or (bit_or 0 (2 ^ k)) (bit_and q (2 ^ (k + 1) - 1)) ≡ 2 ^ k + q
quiet_is q k l =
    ap (λ (n : ℕ). bit_or (bit_or 0 (2 ^ k)) n) (masked q k l)
    ∙ ap (λ (n : ℕ). bit_or n q) (or_zero_l (2 ^ k)) ∙ joined q k l

-- the significand is its quiet digit, 0 or 1, and the payload
record IsSplitPayload (s k : ℕ) : Type 0 where
  digit : ℕ
  few : digit < 2
  is : s ≡ digit * 2 ^ k + s % 2 ^ k
  tested : bit_and s (2 ^ k) ≡ digit * 2 ^ k

split : (s k : ℕ) → s < 2 ^ (k + 1) → IsSplitPayload s k
split s k l =
    let more : 2 ^ (k + 1) ≡ 2 * 2 ^ k = twice_power k in
    let parts : s / 2 ^ k * 2 ^ k + s % 2 ^ k ≡ s = div-add-mod' s (2 ^ k) in
    let less : s / 2 ^ k < 2 = (div-lt_iff_lt-mul (pow_pos k)).1 (omega (arith, more, l)) in
    let same : s / 2 ^ k % 2 ≡ s / 2 ^ k = mod-eq_of_lt less in
    record { digit = s / 2 ^ k; few = less; is = sym parts; tested = tested s k ∙ ap (λ (n : ℕ). n * 2 ^ k) same }

quiet_case : (d u s q : ℕ) → s ≡ d * u + q → d * u ≡ u → s ≡ u + q
quiet_case d u s q e f = omega (arith, e, f)

signaling_case : (d u s q : ℕ) → d < 2 → s ≡ d * u + q → (d * u ≡ u → ⊥) → s ≡ q
signaling_case zero u s q l e n = omega (arith, e)
signaling_case (suc zero) u s q l e n = absurd (n (omega arith))
signaling_case (suc (suc d)) u s q l e n = absurd (omega (arith, l))

-- the quiet digit is cleared
cleared_is : (q k : ℕ) → q < 2 ^ k → (2 ^ k + q) - bit_and (2 ^ k + q) (2 ^ k) ≡ q
cleared_is q k l =
    let one : (2 ^ k + q) / 2 ^ k ≡ 1 = div-eq_of_lt-le (2 ^ k) (omega arith) (omega (arith, l)) in
    let set : bit_and (2 ^ k + q) (2 ^ k) ≡ 1 * 2 ^ k = tested (2 ^ k + q) k ∙ ap (λ (n : ℕ). (n % 2) * 2 ^ k) one in
    ap (λ (n : ℕ). (2 ^ k + q) - n) set ∙ rest (2 ^ k) q
  where
    rest : (u q : ℕ) → (u + q) - 1 * u ≡ q
    rest u q = omega arith

-- the significand that the reader makes of a payload
abbrev marked : ℕ → ℕ → ℕ → ℕ
marked quiet mask payload = bit_or (bit_or 0 quiet) (bit_and payload mask)

abbrev unmarked : ℕ → ℕ → ℕ → ℕ
unmarked quiet mask significand =
    cond (eqb (bit_and (significand - bit_and significand quiet) mask) 0)
    (bit_or (significand - bit_and significand quiet) (quiet / 2)) (significand - bit_and significand quiet)

abbrev made : ℕ → ℕ → ℕ → ℕ
made s quiet mask =
    cond (not (eqb (bit_and s quiet) quiet)) (unmarked quiet mask (marked quiet mask (s % quiet)))
    (marked quiet mask (s % quiet))

made_is : (s k : ℕ) → 0 < s → s < 2 ^ (k + 1) → made s (2 ^ k) (2 ^ (k + 1) - 1) ≡ s
made_is s k some l =
    let q = s % 2 ^ k in
    let m = 2 ^ (k + 1) - 1 in
    let below : q < 2 ^ k = mod-lt s (pow_pos k) in
    let x = split s k l in
    let quiet : marked (2 ^ k) m q ≡ 2 ^ k + q = quiet_is q k below in
    ⊎_elim
    (λ (e : eqb (bit_and s (2 ^ k)) (2 ^ k) ≡ true).
    let set = sym x.tested ∙ eqb-true (bit_and s (2 ^ k)) (2 ^ k) e in
    ap (λ (b : Bool). cond (not b) (unmarked (2 ^ k) m (marked (2 ^ k) m q)) (marked (2 ^ k) m q)) e
    ∙ quiet ∙ sym (quiet_case x.digit (2 ^ k) s q x.is set))
    (λ (e : eqb (bit_and s (2 ^ k)) (2 ^ k) ≡ false).
    let same : s ≡ q = signaling_case x.digit (2 ^ k) s q x.few x.is
    (λ z. eqb-false (bit_and s (2 ^ k)) (2 ^ k) e (x.tested ∙ z)) in
    let positive : eqb q 0 ≡ false = ne_eqb q 0 (λ z. omega (arith, z, same, some)) in
    ap (λ (b : Bool). cond (not b) (unmarked (2 ^ k) m (marked (2 ^ k) m q)) (marked (2 ^ k) m q)) e
    ∙ ap (λ (n : ℕ). unmarked (2 ^ k) m n) quiet
    ∙ ap (λ (n : ℕ). cond (eqb (bit_and n m) 0) (bit_or n (2 ^ k / 2)) n) (cleared_is q k below)
    ∙ ap (λ (n : ℕ). cond (eqb n 0) (bit_or q (2 ^ k / 2)) q) (masked q k below)
    ∙ ap (λ (b : Bool). cond b (bit_or q (2 ^ k / 2)) q) positive
    ∙ sym same)
    (cases_Bool (eqb (bit_and s (2 ^ k)) (2 ^ k)))

-- the same by the kind of a format
abbrev read_significand : NonfiniteBehavior → Bool → ℕ → ℕ → ℕ → ℕ
read_significand kind explicit p s payload =
    cond (not (eqb (bit_and s (quiet_bits_of kind explicit p)) (quiet_bits_of kind explicit p)))
    (cond (eqb (bit_and (bit_or (bit_or (nan_base_of kind p) (quiet_bits_of kind explicit p))
    (bit_and payload (payload_mask_of kind p))
    - bit_and (bit_or (bit_or (nan_base_of kind p) (quiet_bits_of kind explicit p))
    (bit_and payload (payload_mask_of kind p))) (quiet_bit_of kind p)) (payload_mask_of kind p)) 0)
    (bit_or (bit_or (bit_or (nan_base_of kind p) (quiet_bits_of kind explicit p))
    (bit_and payload (payload_mask_of kind p))
    - bit_and (bit_or (bit_or (nan_base_of kind p) (quiet_bits_of kind explicit p))
    (bit_and payload (payload_mask_of kind p))) (quiet_bit_of kind p)) (quiet_bit_of kind p / 2))
    (bit_or (bit_or (nan_base_of kind p) (quiet_bits_of kind explicit p)) (bit_and payload (payload_mask_of kind p))
    - bit_and (bit_or (bit_or (nan_base_of kind p) (quiet_bits_of kind explicit p))
    (bit_and payload (payload_mask_of kind p))) (quiet_bit_of kind p)))
    (bit_or (bit_or (nan_base_of kind p) (quiet_bits_of kind explicit p)) (bit_and payload (payload_mask_of kind p)))

read_is : (f : Format) (s : ℕ) → 3 ≤ f.precision → f.nonfinite ≡ IEEE754 → f.explicit_integer_bit ≡ false
    → 0 < s → s < 2 ^ (f.precision - 1)
    → cond (is_signaling f s) (signaling_significand f (payload_in f.nonfinite f.precision s))
    (quiet_significand f (payload_in f.nonfinite f.precision s)) ≡ s
read_is f s wide kind implied some l =
    let k = f.precision - 2 in
    let e : f.precision - 1 ≡ k + 1 = omega (arith, wide) in
    let same : read_significand f.nonfinite f.explicit_integer_bit f.precision s (payload_in f.nonfinite f.precision s)
    ≡ s = ap (λ (n : NonfiniteBehavior). read_significand n f.explicit_integer_bit f.precision s
    (payload_in n f.precision s)) kind ∙ ap (λ (b : Bool). read_significand IEEE754 b f.precision s (s % 2 ^ k)) implied
    ∙ ap (λ (n : ℕ). made s (2 ^ k) (2 ^ n - 1)) e ∙ made_is s k some (subst (λ (n : ℕ). s < 2 ^ n) e l) in
    same

-- ---- each value is read back

without_payload : (f : Format) (x : Datum) (text : List ℕ) → payload_of f x ≡ 0 → IsFullText f x text
    → IsHexText f x text
without_payload f x text none t =
    let rest = t.is_rest.none none in
    let same : text ≡ t.front = t.text_is ∙ ap (λ (r : List ℕ). t.front ++ r) rest ∙ append-nil t.front in
    subst (λ (s : List ℕ). IsHexText f x s) (sym same) t.is_front

nan_means_full : (negative signaling : Bool) (payload : ℕ) (front rest text : List ℕ) → payload < 2 ^ 128
    → front ≡ nan_text negative signaling → IsPayloadText payload rest → text ≡ front ++ rest
    → Means text (not_a_number negative signaling payload)
nan_means_full negative signaling payload front rest text few is x e =
    let all : text ≡ nan_text negative signaling ++ rest = e ∙ ap (λ (t : List ℕ). t ++ rest) is in
    subst (λ (t : List ℕ). Means t (not_a_number negative signaling payload)) (sym all)
    (⊎_elim
    (λ (some : 0 < payload).
    let p = x.some some in
    subst (λ (t : List ℕ). Means (nan_text negative signaling ++ t) (not_a_number negative signaling payload))
    (sym p.3) (nan_means_payload negative signaling payload p.0 p.2 few))
    (λ (none : payload ≤ 0).
    let zero_is : payload ≡ 0 = omega (arith, none) in
    let plain = nan_means negative signaling in
    let longer : nan_text negative signaling ++ rest ≡ nan_text negative signaling =
    ap (λ (t : List ℕ). nan_text negative signaling ++ t) (x.none zero_is) ∙ append-nil (nan_text negative signaling) in
    subst (λ (t : List ℕ). Means t (not_a_number negative signaling payload)) (sym longer)
    (subst (λ (n : ℕ). Means (nan_text negative signaling) (not_a_number negative signaling n)) (sym zero_is) plain))
    (cases_lt 0 payload))

full_text_of : (f : Format) (mode : Round) (x : Datum) (text : List ℕ) → HasRanges f → f.nonfinite ≡ IEEE754
    → f.explicit_integer_bit ≡ false → IsMember f x → IsFullText f x text → IsTextOf f mode x text
full_text_of f mode (finite b n) text ranges kind implied member t =
    text_of f mode (finite b n) text ranges member (without_payload f (finite b n) text refl t)
full_text_of f mode (infinite b) text ranges kind implied member t =
    text_of f mode (infinite b) text ranges member (without_payload f (infinite b) text refl t)
full_text_of f mode (nan b s) text ranges kind implied member t =
    let payload = payload_in f.nonfinite f.precision s in
    let parts : (0 < s) × (s < 2 ^ (f.precision - 1)) =
    subst (λ (e : Bool). IsNanSignificand IEEE754 e f.precision s) implied
    (subst (λ (n : NonfiniteBehavior). IsNanSignificand n f.explicit_integer_bit f.precision s) kind
    member.significand_is) in
    let payload_is : payload ≡ s % 2 ^ (f.precision - 2) =
    ap (λ (n : NonfiniteBehavior). payload_in n f.precision s) kind in
    let below : s % 2 ^ (f.precision - 2) < 2 ^ (f.precision - 2) = mod-lt s (pow_pos (f.precision - 2)) in
    let short : f.precision - 2 ≤ 123 = omega (arith, ranges.precision_high) in
    let most : 2 ^ (f.precision - 2) ≤ 2 ^ 123 = pow-le-pow_right two_pos short in
    let few : payload < 2 ^ 128 = omega (arith, payload_is, below, most) in
    record {
      meaning = not_a_number b (is_signaling f s) payload;
      means = nan_means_full b (is_signaling f s) payload t.front t.rest text few t.is_front t.is_rest t.text_is;
      meant = λ value status meant. (
        meant.value_is
            ∙ ap (λ (n : NonfiniteBehavior).
            nan (nan_sign n b)
            (cond (is_signaling f s) (signaling_significand f payload) (quiet_significand f payload))) kind
            ∙ ap (λ (n : ℕ). nan b n) (read_is f s ranges.precision_low kind implied parts.0 parts.1),
        meant.status_is,
      );
    }

pub full_read_back : (f : Format) (mode : Round) (x : Datum) (text : List ℕ)
    (answer : Result (StatusAnd Datum) ParseError) → HasRanges f → f.nonfinite ≡ IEEE754
    → f.explicit_integer_bit ≡ false → IsMember f x → IsFullText f x text → IsRead f mode text answer
    → IsReadExactly x answer
full_read_back f mode x text answer ranges kind implied member is read =
    read_of f mode x text answer (full_text_of f mode x text ranges kind implied member is) read
