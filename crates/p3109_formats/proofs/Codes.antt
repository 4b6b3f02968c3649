-- What the codes of a format of P3109 mean, and where 1 is.
use Rattle.std.proofs.Common.{◌≡◌, ℕ, zero, suc, ◌+◌, ◌-◌, ◌*◌, ◌/◌, ◌%◌, ◌^◌, ◌<◌}
use Rattle.std.proofs.Common.{◌≤◌, Bool, true, false, cond, ◌&&◌, eqb, leb, ltb, sym, refl, ap, ◌∙◌}
use Rattle.std.proofs.{Common.⊎_elim, Common.arith, Math.Nat.add-mul-mod_self_right, Math.Nat.mod-eq_of_lt}
use Rattle.std.proofs.lemmas.Bool.{cases_lt, eq-eqb, eqb-true, false≢true, le-leb, le-ltb, lt-leb, lt-ltb, ne_eqb}
use Rattle.std.proofs.lemmas.Nat.{div-mul-add, pow-add, pow_pos}
use Rattle.apfloat_model.specs.{declared.kinds.NonfiniteBehavior.TheVariants.NanNegativeZero, formats.Datum.finite}
use Rattle.apfloat_model.specs.{formats.Datum.infinite, formats.Datum.nan, rounding.Rounding.signed_quanta}
use Rattle.apfloat_model.proofs.general.Powers.{twice_half}
use Rattle.small_formats.specs.Codes.{point}
use Rattle.small_formats.proofs.{CodesCompared.not_below_number, CodesCompared.zero_point, Points.high_point}
use Rattle.p3109_formats.specs.{Laws.IsOneInTheMiddle, declared.descriptor.Descriptor.Descriptor}
use Rattle.p3109_formats.specs.Projections.{IsProjection, bias, coded, exponent_bits, is_negative_code, largest_index}
use Rattle.p3109_formats.specs.Projections.{last_index, magnitude_of, nan_code, past_value, projected_datum, sign_bits}
use Rattle.p3109_formats.specs.Projections.{unsigned_codes}

-- ---- how many codes there are

-- at least four without a sign
pub four_codes : (c : Descriptor) → IsProjection c → 4 ≤ unsigned_codes c
four_codes c law =
    let two : sign_bits c + 2 ≤ c.bits = width c.signed law.bits_low in
    let e : c.bits - sign_bits c ≡ c.bits - sign_bits c - 2 + 2 = omega (arith, two) in
    let product : 2 ^ (c.bits - sign_bits c) ≡ 2 ^ (c.bits - sign_bits c - 2) * 4 =
    ap (λ (n : ℕ). 2 ^ n) e ∙ pow-add 2 (c.bits - sign_bits c - 2) 2 in
    omega (arith, product, pow_pos (c.bits - sign_bits c - 2))
  where
    width : (signed : Bool) → 3 ≤ c.bits → cond signed 1 0 + 2 ≤ c.bits
    width true l = omega (arith, l)
    width false l = omega (arith, l)

-- the codes of numbers without a sign, of the infinity and of the NaN are different
pub record AreApart (codes last most bad : ℕ) : Type 0 where
  pub last_below : last < codes
  pub last_not_nan : last < bad
  pub most_to : most ≤ last

are_apart : (codes last most bad : ℕ) → last < codes → last < bad → most ≤ last → AreApart codes last most bad
are_apart codes last most bad below other to = record { last_below = below; last_not_nan = other; most_to = to }

pub apart : (c : Descriptor) → IsProjection c
    → AreApart (unsigned_codes c) (last_index c) (largest_index c) (nan_code c)
apart c law = by_cases c.signed c.extended (unsigned_codes c) (four_codes c law)
  where
    by_cases : (signed extended : Bool) (codes : ℕ) → 4 ≤ codes
        → AreApart codes (codes - 1 - cond signed 0 1 - cond extended 1 0 + cond extended 1 0)
        (codes - 1 - cond signed 0 1 - cond extended 1 0) (cond signed codes (codes - 1))
    by_cases true true codes l = are_apart _ _ _ _ (omega (arith, l)) (omega (arith, l)) (omega (arith, l))
    by_cases true false codes l = are_apart _ _ _ _ (omega (arith, l)) (omega (arith, l)) (omega (arith, l))
    by_cases false true codes l = are_apart _ _ _ _ (omega (arith, l)) (omega (arith, l)) (omega (arith, l))
    by_cases false false codes l = are_apart _ _ _ _ (omega (arith, l)) (omega (arith, l)) (omega (arith, l))

-- ---- the code of a point

-- what is known of the code of a point that is not past the infinity
pub record IsCodedBy (c : Descriptor) (negative : Bool) (index code : ℕ) : Type 0 where
  pub sign : is_negative_code c code ≡ negative
  pub rest : magnitude_of c code ≡ index
  pub no_nan : eqb code (nan_code c) ≡ false

pub plain_code : (c : Descriptor) (index : ℕ) → IsProjection c → index ≤ last_index c → IsCodedBy c false index index
plain_code c index law l =
    let a = apart c law in
    let below : index < unsigned_codes c = omega (arith, l, a.last_below) in
    record {
      sign = unsigned c.signed (lt-leb (unsigned_codes c) index below);
      rest = mod-eq_of_lt below;
      no_nan = ne_eqb index (nan_code c) (λ e. omega (arith, e, l, a.last_not_nan));
    }
  where
    unsigned : (signed : Bool) → leb (unsigned_codes c) index ≡ false → (signed && leb (unsigned_codes c) index) ≡ false
    unsigned true e = e
    unsigned false e = refl

pub minus_code : (c : Descriptor) (index : ℕ) → IsProjection c → c.signed ≡ true → 0 < index → index ≤ last_index c
    → IsCodedBy c true index (unsigned_codes c + index)
minus_code c index law signed some l =
    let codes : ℕ = unsigned_codes c in
    let below : index < codes = omega (arith, l, (apart c law).last_below) in
    let swapped : codes + index ≡ index + 1 * codes = omega arith in
    let bad : nan_code c ≡ codes = ap (λ (s : Bool). cond s codes (codes - 1)) signed in
    record {
      sign = ap (λ (s : Bool). s && leb codes (codes + index)) signed ∙ le-leb codes (codes + index) (omega arith);
      rest = ap (λ (n : ℕ). n % codes) swapped ∙ add-mul-mod_self_right index 1 codes ∙ mod-eq_of_lt below;
      no_nan = ne_eqb (codes + index) (nan_code c) (λ e. omega (arith, e, bad, some));
    }

-- the index of a point
pub number_of_code : (c : Descriptor) (negative : Bool) (index code : ℕ) → IsCodedBy c negative index code
    → index ≤ largest_index c → projected_datum c code ≡ finite negative (point c.precision index)
number_of_code c negative index code is l =
    let within : ltb (largest_index c) (magnitude_of c code) ≡ false =
    ap (λ (n : ℕ). ltb (largest_index c) n) is.rest ∙ le-ltb (largest_index c) index l in
    rw (is.no_nan, within, is.sign, is.rest) refl

pub infinity_of_code : (c : Descriptor) (negative : Bool) (index code : ℕ) → IsCodedBy c negative index code
    → largest_index c < index → projected_datum c code ≡ infinite negative
infinity_of_code c negative index code is l =
    let past : ltb (largest_index c) (magnitude_of c code) ≡ true =
    ap (λ (n : ℕ). ltb (largest_index c) n) is.rest ∙ lt-ltb (largest_index c) index l in
    rw (is.no_nan, past, is.sign) refl

pub nan_of_code : (c : Descriptor) → projected_datum c (nan_code c) ≡ nan false 0
nan_of_code c = let same : eqb (nan_code c) (nan_code c) ≡ true = eq-eqb (nan_code c) (nan_code c) refl in rw same refl

-- what the code of a number with this sign means; a zero has no sign
pub coded_number : (c : Descriptor) (negative : Bool) (index : ℕ) → IsProjection c
    → (negative ≡ true → c.signed ≡ true) → index ≤ largest_index c
    → projected_datum c (coded c negative index) ≡ signed_quanta NanNegativeZero negative (point c.precision index)
coded_number c false index law sign l =
    number_of_code c false index index (plain_code c index law (omega (arith, l, (apart c law).most_to))) l
    ∙ unsigned (eqb (point c.precision index) 0) (λ e. eqb-true (point c.precision index) 0 e)
  where
    unsigned : (none : Bool) → (none ≡ true → point c.precision index ≡ 0)
        → finite false (point c.precision index) ≡ cond none (finite false 0) (finite false (point c.precision index))
    unsigned true z = ap (λ (n : ℕ). finite false n) (z refl)
    unsigned false z = refl
coded_number c true zero law sign l =
    let a = apart c law in
    number_of_code c false 0 0 (plain_code c 0 law (omega arith)) (omega arith) ∙ rw (zero_point c.precision) refl
coded_number c true (suc index) law sign l =
    let some : eqb (suc index) 0 ≡ false = ne_eqb (suc index) 0 (λ e. omega (arith, e)) in
    let least = not_below_number c.precision (suc index) law.precision_low in
    let off : eqb (point c.precision (suc index)) 0 ≡ false =
    ne_eqb (point c.precision (suc index)) 0 (λ e. omega (arith, e, least)) in
    let code = minus_code c (suc index) law (sign refl) (omega arith) (omega (arith, l, (apart c law).most_to)) in
    rw (some, off) (number_of_code c true (suc index) (unsigned_codes c + suc index) code l)

pub coded_infinity : (c : Descriptor) (negative : Bool) → IsProjection c → (negative ≡ true → c.signed ≡ true)
    → c.extended ≡ true → projected_datum c (coded c negative (last_index c)) ≡ past_value c negative
coded_infinity c negative law sign extended =
    let past : last_index c ≡ largest_index c + 1 = ap (λ (e : Bool). largest_index c + cond e 1 0) extended in
    by_sign negative sign past ∙ sym (ap (λ (e : Bool). cond e (infinite negative) (nan false 0)) extended)
  where
    by_sign : (b : Bool) → (b ≡ true → c.signed ≡ true) → last_index c ≡ largest_index c + 1
        → projected_datum c (coded c b (last_index c)) ≡ infinite b
    by_sign false s past =
        infinity_of_code c false (last_index c) (last_index c) (plain_code c (last_index c) law (omega arith))
        (omega (arith, past))
    by_sign true s past =
        let some : eqb (last_index c) 0 ≡ false = ne_eqb (last_index c) 0 (λ e. omega (arith, e, past)) in
        rw some (infinity_of_code c true (last_index c) (unsigned_codes c + last_index c)
        (minus_code c (last_index c) law (s refl) (omega (arith, past)) (omega arith)) (omega (arith, past)))

-- a code that is neither the NaN nor past the largest number
pub number_at : (c : Descriptor) (code : ℕ) {test negative : Bool} → test ≡ eqb code (nan_code c) → test ≡ false
    → negative ≡ is_negative_code c code → magnitude_of c code ≤ largest_index c
    → projected_datum c code ≡ finite negative (point c.precision (magnitude_of c code))
number_at c code is isnt sign l =
    number_of_code c _ (magnitude_of c code) code
    (record { sign = sym sign; rest = refl; no_nan = sym is ∙ isnt }) l

pub nan_at : (c : Descriptor) (code : ℕ) {test : Bool} → test ≡ eqb code (nan_code c) → test ≡ true
    → projected_datum c code ≡ nan false 0
nan_at c code is known = let same : eqb code (nan_code c) ≡ true = sym is ∙ known in rw same refl

pub infinity_at : (c : Descriptor) (code : ℕ) {test negative : Bool} → test ≡ eqb code (nan_code c) → test ≡ false
    → negative ≡ is_negative_code c code → largest_index c < magnitude_of c code
    → projected_datum c code ≡ infinite negative
infinity_at c code is isnt sign l =
    infinity_of_code c _ (magnitude_of c code) code
    (record { sign = sym sign; rest = refl; no_nan = sym is ∙ isnt }) l

-- a code is its sign and what is below it; without a sign, that is the code itself
split_code : (signed : Bool) (codes code : ℕ) → 0 < codes → code < cond signed (2 * codes) codes → code % codes ≡ 0
    → eqb code (cond signed codes (codes - 1)) ≡ false → code ≡ 0
split_code true codes code some l none other =
    ⊎_elim (λ (k : code < codes). sym (mod-eq_of_lt k) ∙ none)
    (λ (k : codes ≤ code).
    let t : ℕ = code - codes in
    let whole : code ≡ t + 1 * codes = omega (arith, k) in
    let rest : code % codes ≡ t =
    ap (λ (n : ℕ). n % codes) whole ∙ add-mul-mod_self_right t 1 codes ∙ mod-eq_of_lt (omega (arith, whole, l)) in
    let same : code ≡ codes = omega (arith, whole, rest, none) in
    absurd (false≢true (sym other ∙ eq-eqb code codes same)))
    (cases_lt code codes)
split_code false codes code some l none other = sym (mod-eq_of_lt l) ∙ none

-- how many codes there are, with a sign twice as many
pub all_codes : (c : Descriptor) → IsProjection c → 2 ^ c.bits ≡ cond c.signed (2 * unsigned_codes c) (unsigned_codes c)
all_codes c law = by_sign c.signed
  where
    by_sign : (signed : Bool)
        → 2 ^ c.bits ≡ cond signed (2 * 2 ^ (c.bits - cond signed 1 0)) (2 ^ (c.bits - cond signed 1 0))
    by_sign true = sym (twice_half c.bits (omega (arith, law.bits_low)))
    by_sign false = ap (λ (n : ℕ). 2 ^ n) (let e : c.bits ≡ c.bits - 0 = omega arith in e)

-- ---- codes fit

below_all : (signed : Bool) (codes i : ℕ) → i < codes → i < cond signed (2 * codes) codes
below_all true codes i l = omega (arith, l)
below_all false codes i l = l

pub plain_fits : (c : Descriptor) (index : ℕ) → IsProjection c → index ≤ last_index c → index < 2 ^ c.bits
plain_fits c index law l =
    rw (all_codes c law) (below_all c.signed (unsigned_codes c) index (omega (arith, l, (apart c law).last_below)))

pub minus_fits : (c : Descriptor) (index : ℕ) → IsProjection c → c.signed ≡ true → index ≤ last_index c
    → unsigned_codes c + index < 2 ^ c.bits
minus_fits c index law signed l =
    let all : 2 ^ c.bits ≡ 2 * unsigned_codes c =
    all_codes c law ∙ ap (λ (b : Bool). cond b (2 * unsigned_codes c) (unsigned_codes c)) signed in
    omega (arith, all, l, (apart c law).last_below)

no_sign : (c : Descriptor) (code : ℕ) → IsProjection c → code < 2 ^ c.bits → eqb code (nan_code c) ≡ false
    → magnitude_of c code ≡ 0 → code ≡ 0
no_sign c code law l other none =
    split_code c.signed (unsigned_codes c) code (omega (arith, four_codes c law)) (rw (all_codes c law) at l) none other

-- The magnitude 0 with a sign is the NaN, so the zero has none.
pub zero_at : (c : Descriptor) (code : ℕ) {test : Bool} → IsProjection c → code < 2 ^ c.bits
    → test ≡ eqb code (nan_code c) → test ≡ false → magnitude_of c code ≡ 0 → projected_datum c code ≡ finite false 0
zero_at c code law l is isnt none =
    let nought : code ≡ 0 = no_sign c code law l (sym is ∙ isnt) none in
    ap (λ (n : ℕ). projected_datum c n) nought ∙ number_of_code c false 0 0 (plain_code c 0 law (omega arith))
    (omega arith) ∙ ap (λ (n : ℕ). finite false n) (zero_point c.precision)

-- ---- 1

pub one_in_the_middle : IsOneInTheMiddle
one_in_the_middle c law =
    let p : ℕ = c.precision in
    let e : ℕ = exponent_bits c in
    let low = law.precision_low in
    let width = law.exponent in
    let some : 1 ≤ e = omega (arith, low, width) in
    let split : c.bits - sign_bits c ≡ e + (p - 1) = omega (arith, low, width) in
    let codes : unsigned_codes c ≡ 2 ^ e * 2 ^ (p - 1) = ap (λ (n : ℕ). 2 ^ n) split ∙ pow-add 2 e (p - 1) in
    let double : 2 * 2 ^ (e - 1) ≡ 2 ^ e = twice_half e some in
    let half : unsigned_codes c ≡ 2 ^ (e - 1) * 2 ^ (p - 1) * 2 + 0 =
    codes ∙ ap (λ (n : ℕ). n * 2 ^ (p - 1)) (sym double) ∙ omega arith in
    let middle : unsigned_codes c / 2 ≡ 2 ^ (e - 1) * 2 ^ (p - 1) =
    ap (λ (n : ℕ). n / 2) half ∙ div-mul-add (2 ^ (e - 1) * 2 ^ (p - 1)) 2 0 (omega arith) in
    let one : 1 ≤ 2 ^ (e - 1) = pow_pos (e - 1) in
    let place : ℕ = 2 ^ (e - 1) - 1 in
    let next : 2 ^ (e - 1) ≡ place + 1 = omega (arith, one) in
    let index : unsigned_codes c / 2 ≡ 0 + (place + 1) * 2 ^ (p - 1) =
    middle ∙ ap (λ (n : ℕ). n * 2 ^ (p - 1)) next ∙ omega arith in
    let sum : p + bias c - 2 ≡ p - 1 + place = omega (arith, low, one) in
    ap (λ (n : ℕ). point p n) index ∙ high_point p 0 place (pow_pos (p - 1))
    ∙ ap (λ (n : ℕ). n * 2 ^ place) (let z : 2 ^ (p - 1) + 0 ≡ 2 ^ (p - 1) = omega arith in z)
    ∙ sym (pow-add 2 (p - 1) place) ∙ sym (ap (λ (n : ℕ). 2 ^ n) sum)
