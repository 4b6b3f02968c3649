-- The results of the plain program are those that one rounding delivers.
use Rattle.std.proofs.Common.{◌≡◌, ℕ, ◌+◌, ◌-◌, ◌*◌, ◌^◌, ◌<◌, ◌≤◌, Bool, true, false}
use Rattle.std.proofs.Common.{◌||◌, cond, ltb, leb, refl, sym, ap, ◌∙◌, subst, ⊎_elim, lit<, arith}
use Rattle.std.proofs.lemmas.{Bool.cases_eq, Bool.lt-ltb, Bool.le-ltb, Bool.lt-leb, Nat.pow_pos}
use Rattle.std.proofs.Math.Nat.{mul-le-mul_right, pow-le-pow_right}
use Rattle.apfloat_model.specs.declared.kinds.{Round.Round, NonfiniteBehavior.NonfiniteBehavior}
use Rattle.apfloat_model.specs.formats.{Format.Format, Format.largest, Format.nan_base_of, Datum.Datum, Datum.finite}
use Rattle.apfloat_model.specs.rounding.Rounding.{IsPick, IsDelivered, signed_quanta, leads_out, past_largest}
use Rattle.apfloat_model.specs.rounding.Rounding.{rounds_below_normal, is_tiny}
use Rattle.apfloat_model.proofs.general.Powers.{twice_half}
use Rattle.apfloat_model.proofs.rounding.{Laws.pick_within, Tininess.by_pick_of_twice}
use Rattle.apfloat_model.proofs.rounding.Deliveries.{delivered_past, delivered_exactly, delivered_inexactly}
use Rattle.tests.specs.{Plain.HasBounds, Plain.tiny_of, declared.plain.Bounds.Bounds}
use Rattle.tests.proofs.Multiples.{above_fits}

-- a pick, multiplied by the parts, fits 128 bits
pub pick_fits : (precision : ℕ) (mode : Round) (negative : Bool) (amount parts pick : ℕ) → 0 < precision → 0 < parts
    → IsPick precision mode negative amount parts pick → amount < 2 ^ 126 → parts < 2 ^ 64 → pick * parts < 2 ^ 128
pick_fits precision mode negative amount parts pick h p i a b =
    let w : pick ≤ i.above = (pick_within precision mode negative amount parts pick p i).0 in
    let l : i.above * parts < 2 ^ 128 = above_fits precision i.above amount parts h p i.is_above a b in
    let k : pick * parts ≤ i.above * parts = mul-le-mul_right parts w in
    omega arith

-- the test for tininess in the plain program is that of the format
tiny_is : (format : Format) (bounds : Bounds) (mode : Round) (negative : Bool) (amount parts pick : ℕ)
    → HasBounds format bounds
    → tiny_of bounds mode negative amount parts pick ≡ is_tiny format mode negative amount parts pick
tiny_is format bounds mode negative amount parts pick h =
    ap (λ (b : Bool). cond b (ltb amount (bounds.smallest_normalized * parts))
    (cond bounds.ieee_flags (rounds_below_normal bounds.precision mode negative amount parts)
    (ltb pick bounds.smallest_normalized))) (sym h.tiny_before_rounding)
    ∙ ap (λ (b : Bool). cond format.tiny_before_rounding (ltb amount (bounds.smallest_normalized * parts))
    (cond b (rounds_below_normal bounds.precision mode negative amount parts) (ltb pick bounds.smallest_normalized)))
    (sym h.ieee_flags)
    ∙ ap (λ (x : ℕ). cond format.tiny_before_rounding (ltb amount (bounds.smallest_normalized * parts))
    (cond format.ieee_flags (rounds_below_normal x mode negative amount parts) (ltb pick bounds.smallest_normalized)))
    (sym h.precision) ∙ ap (λ (x : ℕ). cond format.tiny_before_rounding (ltb amount (x * parts))
    (cond format.ieee_flags (rounds_below_normal format.precision mode negative amount parts) (ltb pick x)))
    (sym h.smallest_normalized)

-- twice a magnitude of 2 ^ precision or more is not rounded to a number below that
pub from_normal : (precision : ℕ) (mode : Round) (negative : Bool) (amount parts : ℕ) → 0 < parts
    → 2 ^ precision * parts ≤ 2 * amount → rounds_below_normal precision mode negative amount parts ≡ false
from_normal precision mode negative amount parts p h =
    let w : 0 < 2 ^ precision = pow_pos precision in
    let n : 2 ^ precision ≡ 2 ^ precision - 1 + 1 = omega arith in
    let k : 2 ^ precision * parts ≡ (2 ^ precision - 1 + 1) * parts = ap (λ (x : ℕ). x * parts) n in
    let a : leb (2 * amount) ((2 ^ precision - 1) * parts) ≡ false = lt-leb _ _ (omega (arith, k)) in
    let b : ltb (2 * amount) (2 ^ precision * parts) ≡ false = le-ltb _ _ h in
    rw (a, b) refl

-- below 2 ^ precision, the pick of twice the magnitude decides
pub by_pick : (precision : ℕ) (mode : Round) (negative : Bool) (amount parts pick : ℕ) → 0 < precision
    → 0 < parts → IsPick precision mode negative (2 * amount) parts pick
    → ltb pick (2 ^ precision) ≡ rounds_below_normal precision mode negative amount parts
by_pick precision mode negative amount parts pick some p x =
    ap (λ (n : ℕ). ltb pick n) (sym (twice_half precision some))
    ∙ by_pick_of_twice precision mode negative amount parts pick some p x

-- the result for a pick within the format
pub within_is : (format : Format) (bounds : Bounds) (mode : Round) (negative : Bool) (amount parts pick status : ℕ)
    (value : Datum) → HasBounds format bounds → IsPick bounds.precision mode negative amount parts pick
    → pick ≤ bounds.largest
    → value ≡ signed_quanta bounds.nonfinite negative pick → (pick * parts ≡ amount → status ≡ 0)
    → ((pick * parts ≡ amount → ⊥) → status ≡ cond (tiny_of bounds mode negative amount parts pick) 24 16)
    → IsDelivered format mode negative amount parts value status
within_is format bounds mode negative amount parts pick status value h i l v exact inexact =
    let p : IsPick format.precision mode negative amount parts pick =
    subst (λ (x : ℕ). IsPick x mode negative amount parts pick) (sym h.precision) i in
    let a : ltb (largest format) pick ≡ false = ap (λ (x : ℕ). ltb x pick) h.largest ∙ le-ltb bounds.largest pick l in
    let q : value ≡ signed_quanta format.nonfinite negative pick =
    v ∙ ap (λ (k : NonfiniteBehavior). signed_quanta k negative pick) (sym h.nonfinite) in
    ⊎_elim
    (λ (e : pick * parts ≡ amount). delivered_exactly format mode negative amount parts pick value status p a e q
    (exact e))
    (λ (n : pick * parts ≡ amount → ⊥).
    delivered_inexactly format mode negative amount parts pick value status p a n q (inexact n ∙
    ap (λ (b : Bool). cond b 24 16) (tiny_is format bounds mode negative amount parts pick h)))
    (cases_eq (pick * parts) amount)

-- twice a magnitude below 2 ^ precision is a small number too
pub twice_small : (precision amount parts : ℕ) → precision ≤ 60 → parts < 2 ^ 64
    → 2 * amount < 2 ^ precision * parts → 2 * amount < 2 ^ 126
twice_small precision amount parts p q h =
    let a : 2 ^ precision ≤ 2 ^ 60 = pow-le-pow_right (lit< tt) p in
    let b : 2 ^ precision * parts ≤ 2 ^ 60 * parts = mul-le-mul_right parts a in
    omega (arith, h, q, b)

-- if the mode leads out of the format, both rules of flags agree
if_out : (flags : Bool) (out kept : ℕ) → cond (flags || true) out kept ≡ out
if_out true out kept = refl
if_out false out kept = refl

if_stays : (flags : Bool) (out kept : ℕ) → cond (flags || false) out kept ≡ cond flags out kept
if_stays true out kept = refl
if_stays false out kept = refl

-- the result for a pick past the format, in a mode that leads out of it
pub out_is : (format : Format) (bounds : Bounds) (mode : Round) (negative : Bool) (amount parts pick status : ℕ)
    (value : Datum) → HasBounds format bounds → IsPick bounds.precision mode negative amount parts pick
    → bounds.largest < pick → leads_out mode negative ≡ true
    → value ≡ past_largest bounds.nonfinite (nan_base_of bounds.nonfinite bounds.precision) negative
    → status ≡ 20 → IsDelivered format mode negative amount parts value status
out_is format bounds mode negative amount parts pick status value h i l out v s =
    let p : IsPick format.precision mode negative amount parts pick =
    subst (λ (x : ℕ). IsPick x mode negative amount parts pick) (sym h.precision) i in
    let a : ltb (largest format) pick ≡ true = ap (λ (x : ℕ). ltb x pick) h.largest ∙ lt-ltb bounds.largest pick l in
    let w : value ≡ past_largest format.nonfinite (nan_base_of format.nonfinite format.precision) negative =
    v ∙ ap (λ (x : ℕ). past_largest bounds.nonfinite (nan_base_of bounds.nonfinite x) negative) (sym h.precision)
    ∙ ap (λ (k : NonfiniteBehavior). past_largest k (nan_base_of k format.precision) negative) (sym h.nonfinite) in
    delivered_past format mode negative amount parts pick value status p a (rw out w)
    (s ∙ sym (ap (λ (b : Bool). cond (format.ieee_flags || b) 20 16) out ∙ if_out format.ieee_flags 20 16))

-- the result for a pick past the format, in a mode that stays within it
pub stay_is : (format : Format) (bounds : Bounds) (mode : Round) (negative : Bool) (amount parts pick status : ℕ)
    (value : Datum) → HasBounds format bounds → IsPick bounds.precision mode negative amount parts pick
    → bounds.largest < pick → leads_out mode negative ≡ false → value ≡ finite negative bounds.largest
    → status ≡ cond bounds.ieee_flags 20 16 → IsDelivered format mode negative amount parts value status
stay_is format bounds mode negative amount parts pick status value h i l stay v s =
    let p : IsPick format.precision mode negative amount parts pick =
    subst (λ (x : ℕ). IsPick x mode negative amount parts pick) (sym h.precision) i in
    let a : ltb (largest format) pick ≡ true = ap (λ (x : ℕ). ltb x pick) h.largest ∙ lt-ltb bounds.largest pick l in
    let w : value ≡ finite negative (largest format) = v ∙ ap (λ (x : ℕ). finite negative x) (sym h.largest) in
    delivered_past format mode negative amount parts pick value status p a (rw stay w)
    (s ∙ ap (λ (b : Bool). cond b 20 16) (sym h.ieee_flags)
    ∙ sym (ap (λ (b : Bool). cond (format.ieee_flags || b) 20 16) stay ∙ if_stays format.ieee_flags 20 16))
