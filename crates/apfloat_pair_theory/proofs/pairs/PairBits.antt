-- The bits of a pair: its low part above its high part. A pair has one encoding, and bits encode one pair.
use Rattle.std.proofs.Common.{◌≡◌, ℕ, ◌+◌, ◌*◌, ◌/◌, ◌%◌, ◌^◌, ◌<◌, Bool, eqb, refl, sym, ap, ◌∙◌, subst, arith, lit<}
use Rattle.std.proofs.lemmas.Nat.{pow_pos, pow-add, mod_below, div_below, mod_low, shr_high, shr_split, mod-pow-add}
use Rattle.std.proofs.lemmas.Nat.{field_of, shl_whole, mul-add-lt, or_comm, or_shifted}
use Rattle.std.specs.Prelude.{bit_or}
use Rattle.apfloat_model.specs.formats.{Datum.Datum, Formats.double_constants, Lawful.IsLawful, Lawful.layout_with}
use Rattle.apfloat_model.specs.bits.Layout.{Fields, datum_of, datum_of_fields, fields_of, IsEncodedBy}
use Rattle.apfloat_model.specs.bits.Interchange.{IsInterchange}
use Rattle.apfloat_model.proofs.{formats.LawTest.lawful_from_test, bits.Encodings.lawful_interchange}
use Rattle.apfloat_model.proofs.bits.EncodedOnce.{encoded_once, fields_with}
use Rattle.apfloat_pair_theory.specs.{PairFormats.double, Pairs.Pair, Pairs.pair_of, Pairs.IsPairEncodedBy}
use Rattle.apfloat_pair_theory.proofs.calls.PairsOnce.{parts_same}

pub double_is_lawful : IsLawful double_constants
double_is_lawful = lawful_from_test double_constants refl

pub double_interchange : IsInterchange double (layout_with double_constants)
double_interchange = lawful_interchange double_constants double_is_lawful (lit< tt)

-- the bits encode the double
abbrev pub IsDoubleEncodedBy : ℕ → Datum → Type 0
IsDoubleEncodedBy bits x = IsEncodedBy double (layout_with double_constants) bits x

abbrev pub double_of : ℕ → Datum
double_of bits = datum_of double (layout_with double_constants) bits

-- ---- two halves, of k bits

-- the lowest bits of a number are those of its lower half
mod-mod : (n j k : ℕ) → n % 2 ^ (j + k) % 2 ^ k ≡ n % 2 ^ k
mod-mod n j k =
    ap (λ (i : ℕ). i % 2 ^ k) (mod-pow-add n j k) ∙
    mod_low (n / 2 ^ k % 2 ^ j) k (n % 2 ^ k) (mod_below n (2 ^ k) (pow_pos k))

-- the bits of a field within the lower half are those of the number
field-mod : (n i j k : ℕ) → n % 2 ^ (i + j + k) / 2 ^ k % 2 ^ j ≡ n / 2 ^ k % 2 ^ j
field-mod n i j k = ap (λ (m : ℕ). m % 2 ^ j) (field_of n (i + j) k) ∙ mod-mod (n / 2 ^ k) i j

-- the lower half of two halves is the first
lower_half : (k h l : ℕ) → h < 2 ^ k → (h + 2 ^ k * l) % 2 ^ k ≡ h
lower_half k h l b =
    let e : h + 2 ^ k * l ≡ l * 2 ^ k + h = omega arith in ap (λ (i : ℕ). i % 2 ^ k) e ∙ mod_low l k h b

-- the upper half of two halves is the second
upper_half : (k h l : ℕ) → h < 2 ^ k → (h + 2 ^ k * l) / 2 ^ k ≡ l
upper_half k h l b =
    let e : h + 2 ^ k * l ≡ l * 2 ^ k + h = omega arith in ap (λ (i : ℕ). i / 2 ^ k) e ∙ shr_high l k h b

-- two halves are below the square of the bound of one
both_below : (k h l : ℕ) → h < 2 ^ k → l < 2 ^ k → h + 2 ^ k * l < 2 ^ (k + k)
both_below k h l a b =
    let e : h + 2 ^ k * l ≡ l * 2 ^ k + h = omega arith in
    let p : 2 ^ (k + k) ≡ 2 ^ k * 2 ^ k = pow-add 2 k k in
    let q : l * 2 ^ k + h < 2 ^ k * 2 ^ k = mul-add-lt l (2 ^ k) h (2 ^ k) b a in
    omega arith

-- a number is its two halves
halves_joined : (k n : ℕ) → n ≡ n % 2 ^ k + 2 ^ k * (n / 2 ^ k)
halves_joined k n = let e : n / 2 ^ k * 2 ^ k + n % 2 ^ k ≡ n = shr_split n k in omega arith

-- joining two halves by `or` adds them
or_halves : (k h l : ℕ) → h < 2 ^ k → l < 2 ^ k → bit_or h (l * 2 ^ k % 2 ^ (k + k)) ≡ h + 2 ^ k * l
or_halves k h l a b =
    ap (λ (i : ℕ). bit_or h i) (shl_whole l k k (k + k) b (omega arith)) ∙ or_comm h (l * 2 ^ k) ∙ or_shifted l k h a
    ∙ omega arith

-- the halves of a pair as the code joins them
pub joined_bits : (h l : ℕ) → h < 2 ^ 64 → l < 2 ^ 64 → bit_or h (l * 2 ^ 64 % 2 ^ 128) ≡ h + 2 ^ 64 * l
joined_bits h l a b = or_halves 64 h l a b

-- ---- a double is read from its lower 64 bits alone

-- equal parts make equal fields
same_fields : (negative other : Bool) (e g t u : ℕ) → negative ≡ other → e ≡ g → t ≡ u
    → fields_with negative e t ≡ fields_with other g u
same_fields b c e g t u p q r =
    ap (λ (i : Bool). fields_with i e t) p ∙ ap (λ (i : ℕ). fields_with c i t) q ∙ ap (λ (i : ℕ). fields_with c g i) r

-- the fields of a double are in its lower 64 bits
lower_fields : (bits : ℕ) → fields_of double (layout_with double_constants) (bits % 2 ^ 64)
    ≡ fields_of double (layout_with double_constants) bits
lower_fields bits =
    same_fields _ _ _ _ _ _ (ap (λ (i : ℕ). eqb i 1) (field-mod bits 0 1 63)) (field-mod bits 1 11 52)
    (mod-mod bits 12 52)

-- the upper bits do not change the double
pub lower_bits : (bits : ℕ) → double_of (bits % 2 ^ 64) ≡ double_of bits
lower_bits bits = ap (λ (x : Fields). datum_of_fields double (layout_with double_constants) x) (lower_fields bits)

-- a pair is read from its two halves, whatever the bits above them
pub pair_of_halves : (bits : ℕ) (x : Pair) → x.high ≡ double_of bits → x.low ≡ double_of (bits / 2 ^ 64)
    → x ≡ pair_of bits
pair_of_halves bits x h l =
    parts_same x (pair_of bits) (h ∙ sym (lower_bits bits)) (l ∙ sym (lower_bits (bits / 2 ^ 64)))

-- ---- the encoding of a pair

-- the bits of the low part above those of the high part encode the pair
pub pair_encoded : (h l : ℕ) (x : Pair) → IsDoubleEncodedBy h x.high → IsDoubleEncodedBy l x.low
    → IsPairEncodedBy (h + 2 ^ 64 * l) x
pair_encoded h l x a b = record {
  below = both_below 64 h l a.below b.below;
  high = subst (λ (i : ℕ). IsDoubleEncodedBy i x.high) (sym (lower_half 64 h l a.below)) a;
  low = subst (λ (i : ℕ). IsDoubleEncodedBy i x.low) (sym (upper_half 64 h l a.below)) b;
}

-- the bits of the low part above those of the high part, joined by `or`, encode the pair
pub pair_encoded_by_or : (h l : ℕ) (x : Pair) → IsDoubleEncodedBy h x.high → IsDoubleEncodedBy l x.low
    → IsPairEncodedBy (bit_or h (l * 2 ^ 64 % 2 ^ 128)) x
pair_encoded_by_or h l x a b =
    subst (λ (i : ℕ). IsPairEncodedBy i x) (sym (joined_bits h l a.below b.below)) (pair_encoded h l x a b)

-- the bits that encode a pair are read back as the pair
pub pair_read_back : (bits : ℕ) (x : Pair) → IsPairEncodedBy bits x → pair_of bits ≡ x
pair_read_back bits x e = parts_same (pair_of bits) x e.high.is (lower_bits (bits / 2 ^ 64) ∙ e.low.is)

-- each number below 2 ^ 128 encodes the pair that is read from it
pub pair_written_back : (bits : ℕ) → bits < 2 ^ 128 → IsPairEncodedBy bits (pair_of bits)
pair_written_back bits b =
    let l : bits / 2 ^ 64 < 2 ^ 64 = div_below bits (2 ^ 64) (2 ^ 64) (pow_pos 64) b in
    record {
      below = b;
      high = record { below = mod_below bits (2 ^ 64) (pow_pos 64); canonical = refl; is = refl };
      low = record { below = l; canonical = refl; is = sym (lower_bits (bits / 2 ^ 64)) };
    }

-- a pair has at most one encoding
pub pair_encoded_once : (x : Pair) (a b : ℕ) → IsPairEncodedBy a x → IsPairEncodedBy b x → a ≡ b
pair_encoded_once x a b p q =
    let h = encoded_once double (layout_with double_constants) x.high (a % 2 ^ 64)
    (b % 2 ^ 64) double_interchange p.high q.high in
    let l = encoded_once double (layout_with double_constants) x.low (a / 2 ^ 64)
    (b / 2 ^ 64) double_interchange p.low q.low in
    halves_joined 64 a ∙ ap (λ (i : ℕ). i + 2 ^ 64 * (a / 2 ^ 64)) h ∙
    ap (λ (i : ℕ). b % 2 ^ 64 + 2 ^ 64 * i) l ∙ sym (halves_joined 64 b)
