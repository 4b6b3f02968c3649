-- Conversions into storage formats have one answer.
use Rattle.std.proofs.Common.{◌≡◌, ℕ, zero, suc, ◌+◌, ◌-◌, ◌*◌, ◌%◌, ◌^◌, ◌<◌, ◌≤◌, Bool, true, false, cond, not, eqb}
use Rattle.std.proofs.Common.{leb, sym, refl, ap, ◌∙◌, subst, ⊎_elim, arith, lit≤}
use Rattle.std.proofs.Math.Nat.{mod-eq_of_lt, add-mul-mod_self_right}
use Rattle.std.proofs.lemmas.Bool.{cases_lt, le-leb, lt-leb, ne_eqb, MatchBool-at_false}
use Rattle.apfloat_model.specs.{order.Classes.is_negative, order.Classes.quanta_of, rounding.Rounding.delivered_status}
use Rattle.apfloat_model.specs.{rounding.Rounding.ok_bits, arithmetic.Conversions.IsConversion}
use Rattle.apfloat_model.specs.declared.kinds.Round.{Round}
use Rattle.apfloat_model.specs.formats.{Datum.Datum, Datum.finite, Datum.infinite, Datum.nan, Format.Format}
use Rattle.apfloat_model.specs.bits.{Interchange.IsInterchange, Layout.IsEncodedBy}
use Rattle.apfloat_model.proofs.{general.Powers.twice_half, Once.conversion_once, bits.EncodedOnce.encoded_once}
use Rattle.apfloat_model.proofs.rounding.Picks.{pick_unique}
use Rattle.small_formats.specs.{Laws.IsCodeOnce, Laws.IsIntoOnce, Laws.IsUnsignedOnce, Scales.IsCode, Codes.datum_of}
use Rattle.small_formats.specs.Conversions.{IsGiven, IsSaturated, IsStoredNumber, saturated_value}
use Rattle.small_formats.specs.Storage.{StorageConstants, IsLawfulStorage, format_with}
use Rattle.small_formats.specs.Unsigned.{signed_format, signed_layout, unsigned_datum}
use Rattle.small_formats.proofs.Points.{one_number}

-- the same code, flags and loss
abbrev pub AreSame : ℕ → ℕ → Bool → ℕ → ℕ → Bool → Type 0
AreSame code status loses other flags lost = (code ≡ other) × (status ≡ flags) × (loses ≡ lost)

-- ---- codes

-- a code is its sign and its magnitude
pub code_is : (half code : ℕ) → code < 2 * half → code ≡ cond (leb half code) half 0 + code % half
code_is half code l =
    ⊎_elim
    (λ (k : code < half).
    let test : leb half code ≡ false = lt-leb half code k in
    let rest : code % half ≡ code = mod-eq_of_lt k in
    rw (test, rest) (omega arith))
    (λ (k : half ≤ code).
    let test : leb half code ≡ true = le-leb half code k in
    let t : ℕ = code - half in
    let whole : code ≡ t + 1 * half = omega (arith, k) in
    let below : t < half = omega (arith, whole, l) in
    let rest : code % half ≡ t =
    ap (λ (n : ℕ). n % half) whole ∙ add-mul-mod_self_right t 1 half ∙ mod-eq_of_lt below in
    rw (test, rest) (omega (arith, whole)))
    (cases_lt code half)

-- no two codes mean one number
pub code_once : IsCodeOnce
code_once c code other x law l k e f =
    let half : ℕ = 2 ^ (c.bits - 1) in
    let double : 2 * half ≡ 2 ^ c.bits = twice_half c.bits (omega (arith, law.exponent)) in
    let same : datum_of c code ≡ datum_of c other = e ∙ sym f in
    let sign : leb half code ≡ leb half other = ap is_negative same in
    let rest : code % half ≡ other % half =
    one_number c.precision (code % half) (other % half) (omega (arith, law.precision_low)) (ap quanta_of same) in
    code_is half code (omega (arith, l, double)) ∙ ap (λ (b : Bool). cond b half 0 + code % half) sign
    ∙ ap (λ (n : ℕ). cond (leb half other) half 0 + n) rest ∙ sym (code_is half other (omega (arith, k, double)))

-- ---- conversions

pub given_once : (c : StorageConstants) (given : Datum) (bits : ℕ) (lossy : Bool) (code other status flags : ℕ)
    (loses lost : Bool) → IsLawfulStorage c → code < 2 ^ c.bits → other < 2 ^ c.bits
    → IsGiven c given bits lossy code status loses → IsGiven c given bits lossy other flags lost
    → AreSame code status loses other flags lost
given_once c given bits lossy code other status flags loses lost law l k x y = (
  code_once c code other given law l k x.value_is y.value_is,
  x.status_is ∙ sym y.status_is,
  x.loses_is ∙ sym y.loses_is,
)

-- a number that is rounded once
pub saturated_once : (c : StorageConstants) (mode : Round) (b : Bool) (amount parts code other status flags : ℕ)
    → IsLawfulStorage c → code < 2 ^ c.bits → other < 2 ^ c.bits → IsSaturated c mode b amount parts code status
    → IsSaturated c mode b amount parts other flags → (code ≡ other) × (status ≡ flags)
saturated_once c mode b amount parts code other status flags law l k v w =
    let same : v.pick ≡ w.pick = pick_unique c.precision mode b amount parts v.pick w.pick v.is_pick w.is_pick in (
      code_once c code other (saturated_value (format_with c) b w.pick) law l k
          (v.value_is ∙ ap (λ (p : ℕ). saturated_value (format_with c) b p) same) w.value_is,
      v.status_is ∙ ap (λ (p : ℕ). delivered_status (format_with c) mode b amount parts p) same
          ∙ sym w.status_is,
    )

number_once : (c : StorageConstants) (f : Format) (mode : Round) (b : Bool) (n code other status flags : ℕ)
    (loses lost : Bool) → IsLawfulStorage c → code < 2 ^ c.bits → other < 2 ^ c.bits
    → IsStoredNumber c f mode b n code status loses → IsStoredNumber c f mode b n other flags lost
    → AreSame code status loses other flags lost
number_once c f mode b n code other status flags loses lost law l k x y =
    let same =
    saturated_once c mode b (n * 2 ^ (format_with c).scale) (2 ^ f.scale) code other status flags law l k x.is_rounded
    y.is_rounded in (
      same.0,
      same.1,
      x.loses_is ∙ ap (λ (s : ℕ). not (eqb s ok_bits)) same.1 ∙ sym y.loses_is,
    )

pub into_once : IsIntoOnce
into_once c f mode (nan b s) code other status flags loses lost law l k x y =
    given_once c _ _ _ code other status flags loses lost law l k x y
into_once c f mode (infinite b) code other status flags loses lost law l k x y =
    given_once c _ _ _ code other status flags loses lost law l k x y
into_once c f mode (finite b zero) code other status flags loses lost law l k x y =
    given_once c _ _ _ code other status flags loses lost law l k x y
into_once c f mode (finite b (suc n)) code other status flags loses lost law l k x y =
    let some : eqb (suc n) 0 ≡ false = ne_eqb (suc n) 0 (λ e. omega (arith, e)) in
    number_once c f mode b (suc n) code other status flags loses lost law l k
    (MatchBool-at_false _ (IsStoredNumber c f mode b (suc n) code status loses) some x)
    (MatchBool-at_false _ (IsStoredNumber c f mode b (suc n) other flags lost) some y)

-- ---- codes that are given

pub scale_code_once : (given bits : ℕ) (lossy : Bool) (code other status flags : ℕ) (loses lost : Bool)
    → IsCode given bits lossy code status loses → IsCode given bits lossy other flags lost
    → AreSame code status loses other flags lost
scale_code_once given bits lossy code other status flags loses lost x y =
    (x.code_is ∙ sym y.code_is, x.status_is ∙ sym y.status_is, x.loses_is ∙ sym y.loses_is)

-- ---- without a sign

pub signed_interchange : IsInterchange signed_format signed_layout
signed_interchange =
    record { precise = lit≤ tt; some = lit≤ tt; bits = refl; within = lit≤ tt; span = refl; explicit = refl }

pub unsigned_encoded : (code : ℕ) → code < 128 → IsEncodedBy signed_format signed_layout code (unsigned_datum code)
unsigned_encoded code l = record { below = omega (arith, l); canonical = refl; is = refl }

pub unsigned_code_once : (code other : ℕ) → code < 128 → other < 128 → unsigned_datum code ≡ unsigned_datum other
    → code ≡ other
unsigned_code_once code other l k e =
    encoded_once signed_format signed_layout (unsigned_datum other) code other signed_interchange
    (subst (λ (x : Datum). IsEncodedBy signed_format signed_layout code x) e (unsigned_encoded code l))
    (unsigned_encoded other k)

unsigned_number_once : (f : Format) (mode : Round) (x : Datum) (code other status flags : ℕ) (loses lost : Bool)
    → code < 128 → other < 128 → IsConversion f signed_format mode x (unsigned_datum code) status loses
    → IsConversion f signed_format mode x (unsigned_datum other) flags lost → AreSame code status loses other flags lost
unsigned_number_once f mode x code other status flags loses lost l k h j =
    let same = conversion_once f signed_format mode x (unsigned_datum code) (unsigned_datum other) status flags loses
    lost h j in
    (unsigned_code_once code other l k same.0, same.1, same.2)

pub unsigned_once : IsUnsignedOnce
unsigned_once f mode (nan b s) code other status flags loses lost l k x y =
    scale_code_once _ _ _ code other status flags loses lost x y
unsigned_once f mode (infinite b) code other status flags loses lost l k x y =
    scale_code_once _ _ _ code other status flags loses lost x y
unsigned_once f mode (finite false n) code other status flags loses lost l k x y =
    unsigned_number_once f mode (finite false n) code other status flags loses lost l k x y
unsigned_once f mode (finite true zero) code other status flags loses lost l k x y =
    scale_code_once _ _ _ code other status flags loses lost x y
unsigned_once f mode (finite true (suc n)) code other status flags loses lost l k x y =
    let some : eqb (suc n) 0 ≡ false = ne_eqb (suc n) 0 (λ e. omega (arith, e)) in
    scale_code_once _ _ _ code other status flags loses lost
    (MatchBool-at_false _ _ some x) (MatchBool-at_false _ _ some y)
