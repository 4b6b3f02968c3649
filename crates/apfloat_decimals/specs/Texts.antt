-- How a decimal is written.
use Rattle.std.specs.Prelude.{ℕ, zero, suc, ◌≡◌, ◌≤◌, ◌∷◌, ◌+◌, ◌-◌, ◌*◌, ◌/◌, ◌%◌, ◌^◌, ℤ, pos, ◌+ℤ◌, Bool, ◌&&◌}
use Rattle.std.specs.Prelude.{leb, eqb, if◌then◌else◌, List, [], ◌++◌, length, replicate, codes, slice_index}
use Rattle.std.specs.Fmt.{decimal, signed_decimal}
use Rattle.apfloat_model.specs.arithmetic.Exact.{up, down}
use Rattle.apfloat_decimals.specs.declared.decimal.Decimal.{Decimal}

-- the last digits of n, that many of them
unfoldable pub last_digits : ℕ → ℕ → List ℕ
last_digits zero n = []
last_digits (suc count) n = last_digits count (n / 10) ++ ((48 + n % 10) ∷ [])

-- n with leading zeros, up to that many digits
abbrev pub padded : ℕ → ℕ → List ℕ
padded places n = replicate (places - length (decimal n)) 48 ++ decimal n

-- n * 10 ^ -places with a dot before the last `places` digits
abbrev pub pointed : ℕ → ℕ → List ℕ
pointed n places = decimal (n / 10 ^ places) ++ (codes "." ++ padded places (n % 10 ^ places))

-- the exponent of the first digit of n * 10 ^ e is from -6 to 20
abbrev pub is_plain : ℕ → ℤ → Bool
is_plain n e = leb (down e) (up e + length (decimal n) + 5) && leb (up e + length (decimal n)) (down e + 21)

-- n * 10 ^ e without an exponent; an integer has a zero after its dot
abbrev pub plain_text : ℕ → ℤ → List ℕ
plain_text n e = if eqb (down e) 0 then pointed (n * 10 ^ (up e + 1)) 1 else pointed n (down e)

-- the digits of n with a dot before the last `places`, if there are any
abbrev pub some_pointed : ℕ → ℕ → List ℕ
some_pointed n places = if eqb places 0 then decimal n else pointed n places

-- n * 10 ^ e with the exponent of its first digit
abbrev pub scientific_text : ℕ → ℤ → List ℕ
scientific_text n e = some_pointed n (length (decimal n) - 1)
    ++ (codes "e" ++ signed_decimal (e +ℤ pos (length (decimal n) - 1)))

-- a zero has no exponent
abbrev pub magnitude_text : ℕ → ℤ → List ℕ
magnitude_text n e = if eqb n 0 then codes "0.0" else (if is_plain n e then plain_text n e else scientific_text n e)

abbrev pub sign_text : Bool → List ℕ
sign_text negative = if negative then codes "-" else []

abbrev pub decimal_text : Decimal → List ℕ
decimal_text x = sign_text x.negative ++ magnitude_text x.digits x.exponent

-- all bytes from one on are zeros
abbrev pub AreZerosFrom : ℕ → List ℕ → Type 0
AreZerosFrom at bytes = (i : ℕ) → at ≤ i → slice_index bytes i ≡ 0
