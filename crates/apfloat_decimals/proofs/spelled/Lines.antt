-- Lines of text: digits one by one, and the lengths of texts.
use Rattle.std.proofs.Common.{◌≡◌, ℕ, suc, eqb, leb, FitsSigned, w32, w64, ◌+◌, ◌-◌, ◌*◌, ◌/◌, ◌%◌, ◌^◌, ◌<◌, ◌≤◌, List}
use Rattle.std.proofs.Common.{[], ◌∷◌, ◌++◌, length, refl, sym, ap, ◌∙◌, replicate, arith, ⊎_elim, lit<, lit≤, false}
use Rattle.std.proofs.Common.{true, Bool, if◌then◌else◌, codes, drop, take, slice_index}
use Rattle.std.proofs.lemmas.{Nat.pow-add, Fmt.decimal_nonempty, Fmt.decimal_step_wide, Fmt.decimal_digit}
use Rattle.std.proofs.lemmas.{Fmt.length-decimal-le_wide, Fmt.length_signed_le, List.append_assoc, List.get_or-drop}
use Rattle.std.proofs.lemmas.Int.{ints}
use Rattle.std.proofs.lemmas.Bool.{and_parts, cases_lt, eqb-false, eqb-true, false≢true, leb-true, ne_eqb}
use Rattle.std.proofs.lemmas.List.{length-append, length-drop, length-replicate, length-take-le, take-append-drop}
use Rattle.std.proofs.Math.Nat.{div-eq_of_lt, div-lt_iff_lt-mul, mod-eq_of_lt, mod-le, mod-lt, pow-le-pow_right}
use Rattle.std.specs.Prelude.{ℤ, pos, negsuc, ◌+ℤ◌}
use Rattle.std.specs.Fmt.{decimal, signed_decimal}
use Rattle.apfloat_model.specs.arithmetic.Exact.{up, down}
use Rattle.apfloat_decimals.proofs.{numbers.Values.power_pos, spelled.WrittenNumbers.below_power}
use Rattle.apfloat_decimals.proofs.spelled.WrittenNumbers.{few_digits, shorter, single, ten_great, times_ten_small}
use Rattle.apfloat_decimals.specs.Texts.{is_plain, padded, pointed, some_pointed, scientific_text, plain_text}
use Rattle.apfloat_decimals.specs.Texts.{magnitude_text, sign_text, AreZerosFrom}
use lib.Signed.{mag}

-- ---- digits one by one

-- appending the last digit of a number after the others appends the number
pub last_digit : (text : List ℕ) (n : ℕ) → 10 ≤ n → n < 2 ^ 128
    → (text ++ decimal (n / 10)) ++ ((48 + n % 10) ∷ []) ≡ text ++ decimal n
last_digit text n some few =
    append_assoc text (decimal (n / 10)) ((48 + n % 10) ∷ [])
    ∙ ap (λ (x : List ℕ). text ++ x) (sym (decimal_step_wide n some (omega arith)))

-- the text has room for the last digit
pub room_for_last : (text : List ℕ) (n : ℕ) → 10 ≤ n → n < 2 ^ 128 → length text + length (decimal n) ≤ 64
    → length (text ++ decimal (n / 10)) < 64
room_for_last text n some few room = omega (arith, shorter n some few, length-append text (decimal (n / 10)), room)

pub only_digit : (text : List ℕ) (n : ℕ) → n < 10 → text ++ ((48 + n % 10) ∷ []) ≡ text ++ decimal n
only_digit text n few =
    let same : 48 + n % 10 ≡ 48 + n = omega arith in
    ap (λ (d : ℕ). text ++ (d ∷ [])) same ∙ ap (λ (x : List ℕ). text ++ x) (sym (decimal_digit n few))

-- ---- lengths of texts

-- the length of the integral part of a number in units of 10 ^ places
pub whole_length : (n places : ℕ) → n < 2 ^ 128 → places ≤ 39 → length (decimal (n / 10 ^ places)) ≤ 40 - places
whole_length n places few within =
    let split : 10 ^ (40 - places + places) ≡ 10 ^ (40 - places) * 10 ^ places = pow-add 10 (40 - places) places in
    let all : 10 ^ (40 - places + places) ≡ 10 ^ 40 =
    ap (λ (x : ℕ). 10 ^ x) (let e : 40 - places + places ≡ 40 = omega arith in e) in
    let less : n < 10 ^ (40 - places) * 10 ^ places = omega (arith, split, all) in
    let below : n / 10 ^ places < 10 ^ (40 - places) = (div-lt_iff_lt-mul (power_pos 10 places (lit< tt))).1 less in
    let few_places : 40 - places ≤ 64 = omega arith in
    let most : 10 ^ (40 - places) ≤ 10 ^ 64 = pow-le-pow_right (lit< tt) few_places in
    length-decimal-le_wide (40 - places) (n / 10 ^ places) (omega arith) below (omega (arith, below, most))

-- the length of the fraction in units of 10 ^ places, with zeros
pub padded_length : (n places : ℕ) → n < 2 ^ 128 → 0 < places → length (padded places (n % 10 ^ places)) ≡ places
padded_length n places few some =
    let below : n % 10 ^ places < 10 ^ places = mod-lt n (power_pos 10 places (lit< tt)) in
    let rest : n % 10 ^ places ≤ n = mod-le n (10 ^ places) in
    let digits = length-decimal-le_wide places (n % 10 ^ places) some below (omega arith) in
    length-append (replicate (places - length (decimal (n % 10 ^ places))) 48) (decimal (n % 10 ^ places))
    ∙ omega (arith, length-replicate {A = ℕ} (places - length (decimal (n % 10 ^ places))) 48, digits)

-- a number below 1 is its digits after zeros
pub below_one : (n places : ℕ) → n < 2 ^ 128 → length (decimal n) ≤ places
    → pointed n places ≡ (48 ∷ []) ++ (codes "." ++ (replicate (places - length (decimal n)) 48 ++ decimal n))
below_one n places few within =
    let most : 10 ^ length (decimal n) ≤ 10 ^ places = pow-le-pow_right (lit< tt) within in
    let below : n < 10 ^ places = omega (arith, most, below_power n few) in
    let none : n / 10 ^ places ≡ 0 = div-eq_of_lt below in
    let same : n % 10 ^ places ≡ n = mod-eq_of_lt below in
    ap (λ (k : ℕ). decimal k ++ (codes "." ++ padded places (n % 10 ^ places))) none
    ∙ ap (λ (k : ℕ). decimal 0 ++ (codes "." ++ padded places k)) same
    ∙ ap (λ (x : List ℕ). x ++ (codes "." ++ padded places n)) (decimal_digit 0 (lit< tt))

pub below_one_length : (n places : ℕ) → n < 2 ^ 128 → length (decimal n) ≤ places
    → length (pointed n places) ≡ places + 2
below_one_length n places few within =
    let zeros = length-replicate {A = ℕ} (places - length (decimal n)) 48 in
    let both = length-append (replicate (places - length (decimal n)) 48) (decimal n) in
    let dot = length-append (codes ".") (replicate (places - length (decimal n)) 48 ++ decimal n) in
    let all = length-append (48 ∷ []) (codes "." ++ (replicate (places - length (decimal n)) 48 ++ decimal n)) in
    ap (λ (x : List ℕ). length x) (below_one n places few within) ∙ omega (arith, zeros, both, dot, all, within)

-- the same with the number of its digits
pub below_one_counted : (n count places : ℕ) → n < 2 ^ 128 → count ≡ length (decimal n) → count ≤ places
    → (48 ∷ []) ++ (codes "." ++ (replicate (places - count) 48 ++ decimal n)) ≡ pointed n places
below_one_counted n count places few is within =
    ap (λ (k : ℕ). (48 ∷ []) ++ (codes "." ++ (replicate (places - k) 48 ++ decimal n))) is
    ∙ sym (below_one n places few (omega (arith, is, within)))

-- the length of a number with a dot
pub pointed_length : (n places : ℕ) → n < 2 ^ 128 → 0 < places → places ≤ 44 → length (pointed n places) ≤ 46
pointed_length n places few some within =
    let rest = padded_length n places few some in
    let dotted = length-append (codes ".") (padded places (n % 10 ^ places)) in
    let both = length-append (decimal (n / 10 ^ places)) (codes "." ++ padded places (n % 10 ^ places)) in
    ⊎_elim
    (λ (small : places < 39).
    let whole = whole_length n places few (omega arith) in
    omega (arith, rest, dotted, both, whole))
    (λ (great : 39 ≤ places).
    let less = ten_great n places few (omega arith) in
    let none = single (n / 10 ^ places) (omega (arith, div-eq_of_lt less)) in
    omega (arith, rest, dotted, both, none))
    (cases_lt places 39)

-- the length of a number, with a dot only if there are places after it
some_pointed_from : (n places : ℕ) (none : Bool) → n < 2 ^ 128 → places ≤ 38 → eqb places 0 ≡ none
    → length (if none then decimal n else pointed n places) ≤ 46
some_pointed_from n places true few within e = let all = few_digits n few in omega (arith, all)
some_pointed_from n places false few within e =
    let some = eqb-false places 0 e in
    pointed_length n places few (omega arith) (omega arith)

pub some_pointed_length : (n places : ℕ) → n < 2 ^ 128 → places ≤ 38 → length (some_pointed n places) ≤ 46
some_pointed_length n places few within = some_pointed_from n places (eqb places 0) few within refl

mag_below : (z : ℤ) (k : ℕ) → up z < down z + k → down z < up z + k → mag z < k
mag_below (pos n) k low high = omega arith
mag_below (negsuc n) k low high = omega arith

-- a number with a sign has some digits
pub some_signed : (z : ℤ) → mag z < 2 ^ 64 → 0 < length (signed_decimal z)
some_signed (pos n) few = decimal_nonempty n (omega (arith, few))
some_signed (negsuc n) few = omega arith

-- the length of a number with the exponent of its first digit
pub scientific_length : (n : ℕ) (e : ℤ) → n < 2 ^ 128 → FitsSigned w32 e → length (scientific_text n e) ≤ 58
scientific_length n e few fits =
    let digits = few_digits n few in
    let pointed_is = some_pointed_length n (length (decimal n) - 1) few (omega (arith, digits)) in
    let first = e +ℤ pos (length (decimal n) - 1) in
    let small : mag first < 2 ^ 33 =
    mag_below first (2 ^ 33) (omega (arith, ints, fits, digits)) (omega (arith, ints, fits, digits)) in
    let exponent : length (signed_decimal first) ≤ 11 =
    length_signed_le 10 first (omega (arith, small)) (omega (arith, small)) in
    let both = length-append (some_pointed n (length (decimal n) - 1)) (codes "e" ++ signed_decimal first) in
    omega (arith, pointed_is, exponent, length-append (codes "e") (signed_decimal first), both)

-- where all of such a text has room, its parts have
pub scientific_room : (at n count : ℕ) (e : ℤ) → count ≡ length (decimal n) → at + length (scientific_text n e) ≤ 64
    → at + (length (some_pointed n (count - 1)) + (1 + length (signed_decimal (e +ℤ pos (count - 1))))) ≤ 64
scientific_room at n count e is room =
    let front : List ℕ = some_pointed n (length (decimal n) - 1) in
    let back : List ℕ = signed_decimal (e +ℤ pos (length (decimal n) - 1)) in
    rw is (omega (arith, length-append front (codes "e" ++ back), length-append (codes "e") back, room))

-- the exponent of the first digit fits in 64 binary digits
pub first_fits : (e : ℤ) (count : ℕ) → FitsSigned w32 e → count ≤ 39 → FitsSigned w64 (e +ℤ pos (count - 1))
first_fits e count fits most = omega (arith, ints, fits, most)

-- its parts
pub scientific_counted : (n count : ℕ) (e : ℤ) → count ≡ length (decimal n)
    → some_pointed n (count - 1) ++ (codes "e" ++ signed_decimal (e +ℤ pos (count - 1))) ≡ scientific_text n e
scientific_counted n count e is =
    ap (λ (k : ℕ). some_pointed n (k - 1) ++ (codes "e" ++ signed_decimal (e +ℤ pos (k - 1)))) is

-- the bounds of the exponent of a number that is written without an exponent
plain_parts : (n : ℕ) (e : ℤ) → is_plain n e ≡ true
    → (down e ≤ up e + length (decimal n) + 5) × (up e + length (decimal n) ≤ down e + 21)
plain_parts n e plain =
    let both = and_parts (leb (down e) (up e + length (decimal n) + 5)) (leb (up e + length (decimal n)) (down e + 21))
    plain in
    (leb-true _ _ both.0, leb-true _ _ both.1)

plain_from : (n : ℕ) (e : ℤ) (whole : Bool) → n < 2 ^ 128 → is_plain n e ≡ true → eqb (down e) 0 ≡ whole
    → length (if whole then pointed (n * 10 ^ (up e + 1)) 1 else pointed n (down e)) ≤ 46
plain_from n e true few plain is_whole =
    let whole = eqb-true (down e) 0 is_whole in
    let below : up e + length (decimal n) ≤ 21 = omega (arith, whole, (plain_parts n e plain).1) in
    pointed_length (n * 10 ^ (up e + 1)) 1 (times_ten_small n (up e) few below) (lit< tt) (lit≤ tt)
plain_from n (pos k) false few plain is_whole = absurd (false≢true (sym is_whole))
plain_from n (negsuc k) false few plain is_whole =
    pointed_length n (suc k) few (omega arith) (omega (arith, (plain_parts n (negsuc k) plain).0, few_digits n few))

pub plain_length : (n : ℕ) (e : ℤ) → n < 2 ^ 128 → is_plain n e ≡ true → length (plain_text n e) ≤ 46
plain_length n e few plain = plain_from n e (eqb (down e) 0) few plain refl

-- a number that is not 0 is written in one of two ways
pub magnitude_by : (n : ℕ) (e : ℤ) (plain : Bool) → (n ≡ 0 → ⊥) → is_plain n e ≡ plain
    → (if plain then plain_text n e else scientific_text n e) ≡ magnitude_text n e
magnitude_by n e plain some is =
    sym (ap (λ (b : Bool).
    if b then codes "0.0" else (if is_plain n e then plain_text n e else scientific_text n e)) (ne_eqb n 0 some)
    ∙ ap (λ (b : Bool). if b then plain_text n e else scientific_text n e) is)

magnitude_from : (n : ℕ) (e : ℤ) (none plain : Bool) → n < 2 ^ 128 → FitsSigned w32 e → is_plain n e ≡ plain
    → length (if none then codes "0.0" else (if plain then plain_text n e else scientific_text n e)) ≤ 58
magnitude_from n e true plain few fits is = lit≤ tt
magnitude_from n e false true few fits is = let l = plain_length n e few is in omega (arith, l)
magnitude_from n e false false few fits is = scientific_length n e few fits

pub magnitude_length : (n : ℕ) (e : ℤ) → n < 2 ^ 128 → FitsSigned w32 e → length (magnitude_text n e) ≤ 58
magnitude_length n e few fits = magnitude_from n e (eqb n 0) (is_plain n e) few fits refl

pub sign_length : (negative : Bool) → length (sign_text negative) ≤ 1
sign_length true = lit≤ tt
sign_length false = lit≤ tt

-- ---- bytes with zeros after a text

all_zeros : (xs : List ℕ) → ((i : ℕ) → slice_index xs i ≡ 0) → xs ≡ replicate (length xs) 0
all_zeros [] zero = refl
all_zeros (x ∷ xs) zero =
    ap (λ (k : ℕ). k ∷ xs) (zero 0) ∙ ap (λ (ys : List ℕ). 0 ∷ ys) (all_zeros xs (λ i. zero (suc i)))

pub text_and_zeros : (bytes text : List ℕ) (end all : ℕ) → take end bytes ≡ text → AreZerosFrom end bytes
    → end ≤ all → length bytes ≡ all → bytes ≡ text ++ replicate (all - length text) 0
text_and_zeros bytes text end all is zero within long =
    let count : length text ≡ end =
    ap (λ (xs : List ℕ). length xs) (sym is) ∙ length-take-le end bytes (omega (arith, within, long)) in
    let rest : drop end bytes ≡ replicate (length (drop end bytes)) 0 =
    all_zeros (drop end bytes) (λ i. get_or-drop end bytes i 0 ∙ zero (end + i) (omega arith)) in
    let same : length (drop end bytes) ≡ all - length text = omega (arith, length-drop end bytes, count, long) in
    sym (take-append-drop end bytes) ∙ ap (λ (xs : List ℕ). xs ++ drop end bytes) is
    ∙ ap (λ (xs : List ℕ). text ++ xs) (rest ∙ ap (λ (k : ℕ). replicate k 0) same)
