-- Digits that are kept of a significand, in the quanta of another format.
use Rattle.std.proofs.Common.{◌≡◌, ℕ, ◌+◌, ◌-◌, ◌*◌, ◌/◌, ◌%◌, ◌^◌, ◌<◌, ◌≤◌}
use Rattle.std.proofs.Common.{sym, ap, ◌∙◌, subst, inr, Option, Some, None, arith}
use Rattle.std.proofs.{Math.Nat.mul-pos, Math.Nat.pow-le-pow_right, lemmas.Nat.pow-add, lemmas.Nat.pow_pos}
use Rattle.std.specs.Prelude.{IfSome}
use Rattle.apfloat_model.specs.declared.{loss.Loss.TheVariants.ExactlyZero, kinds.Round.Round}
use Rattle.apfloat_model.specs.formats.Lawful.{Constants, format_with}
use Rattle.apfloat_model.specs.rounding.{Enclosure.IsEnclosed, Standing.StandsFor}
use Rattle.apfloat_model.proofs.{general.Powers.pow3, general.Powers.two_pos, rounding.KeptDigits.enclosed_from}
use Rattle.fast_bits.specs.declared.{encoded.Encoded.Encoded, numbers.Number.Number}
use Rattle.fast_bits.specs.{Encoded.IsEncodedConversion, Encoded.IsEncodedNumber, Numbers.IsNumberOf, Numbers.quanta_of}
use Rattle.apfloat_rounding.specs.Cuts.{loss_at}
use Rattle.apfloat_rounding.proofs.CutRests.{IsSplitRest, split_encloses, split_fits, split_full, split_stands}
use Rattle.apfloat_rounding.proofs.OddCuts.{top_fits, top_full}

-- all digits are kept of amount / parts quanta, with the loss of the rest
pub record IsKeptNumber (precision kept rest half place amount parts : ℕ) : Type 0 where
  pub full : 2 ^ (precision - 1) ≤ kept
  pub fits : kept < 2 ^ precision
  pub enclosed : IsEnclosed precision (2 ^ (precision - 1)) kept place amount parts
  pub stands : StandsFor kept (loss_at rest half) amount (2 ^ place * parts)

-- a number counted in the quanta of another format
shortened_stands : (m place scale other : ℕ)
    → m * 2 ^ place * 2 ^ scale * 2 ^ other ≡ m * (2 ^ other * 2 ^ (place + scale))
shortened_stands m place scale other =
    let power : 2 ^ (place + scale) ≡ 2 ^ place * 2 ^ scale = pow-add 2 place scale in
    let scaled : m * 2 ^ other * 2 ^ (place + scale) ≡ m * 2 ^ other * (2 ^ place * 2 ^ scale) =
    ap (λ (x : ℕ). m * 2 ^ other * x) power in
    omega (arith, scaled)

-- the highest digits of a significand
shortened_by : (precision digits m from scale other place half rest : ℕ) → 0 < precision → precision < digits
    → m < 2 ^ digits → 2 ^ (digits - 1) ≤ m → half ≡ 2 ^ (digits - precision - 1)
    → rest ≡ m % 2 ^ (digits - precision) → place + (precision + other) ≡ digits + from + scale
    → IsKeptNumber precision (m / 2 ^ (digits - precision)) rest half place (m * 2 ^ from * 2 ^ scale) (2 ^ other)
shortened_by precision digits m from scale other place half rest some long fits full half_is rest_is balance =
    let split : IsSplitRest precision m digits place rest half (from + scale) other = record {
      some = some;
      long = long;
      fits = fits;
      full = full;
      half_is = half_is;
      rest_is = rest_is;
      place_is = omega (arith, balance);
    } in
    let exact = shortened_stands m from scale other in
    record {
      full = split_full precision m digits some long full;
      fits = split_fits precision m digits long fits;
      enclosed =
          split_encloses precision m digits place rest half (from + scale) other (m * 2 ^ from * 2 ^ scale)
          (2 ^ other) split (pow_pos other) exact;
      stands =
          split_stands precision m digits place rest half (from + scale) other (m * 2 ^ from * 2 ^ scale)
          (2 ^ other) split (pow_pos other) exact;
    }

pub shortened_kept : (precision digits m from scale other place last half : ℕ) → 0 < precision → precision < digits
    → m < 2 ^ digits → 2 ^ (digits - 1) ≤ m → last ≡ 2 ^ (digits - precision)
    → half ≡ 2 ^ (digits - precision - 1) → place + (precision + other) ≡ digits + from + scale
    → IsKeptNumber precision (m / last) (m % last) half place (m * 2 ^ from * 2 ^ scale) (2 ^ other)
shortened_kept precision digits m from scale other place last half some long fits full last_is half_is balance =
    subst
    (λ (n : ℕ). IsKeptNumber precision (m / n) (m % n) half place (m * 2 ^ from * 2 ^ scale) (2 ^ other))
    (sym last_is)
    (shortened_by precision digits m from scale other place half (m % 2 ^ (digits - precision)) some long fits full
    half_is (omega arith) balance)

-- a number with more digits, which are zeros
lengthened_stands : (m from scale other more to : ℕ) → from + scale ≡ more + to + other
    → m * 2 ^ from * 2 ^ scale ≡ m * 2 ^ more * (2 ^ to * 2 ^ other)
lengthened_stands m from scale other more to balance =
    let left : 2 ^ (from + scale) ≡ 2 ^ from * 2 ^ scale = pow-add 2 from scale in
    let right : 2 ^ (more + to + other) ≡ 2 ^ more * 2 ^ to * 2 ^ other = pow3 more to other in
    let powers : 2 ^ from * 2 ^ scale ≡ 2 ^ more * 2 ^ to * 2 ^ other =
    sym left ∙ ap (λ (x : ℕ). 2 ^ x) balance ∙ right in
    let scaled : m * (2 ^ from * 2 ^ scale) ≡ m * (2 ^ more * 2 ^ to * 2 ^ other) = ap (λ (x : ℕ). m * x) powers in
    omega (arith, scaled)

pub lengthened_full : (precision digits m power : ℕ) → 0 < digits → digits ≤ precision → 2 ^ (digits - 1) ≤ m
    → power ≡ 2 ^ (precision - digits) → 2 ^ (precision - 1) ≤ m * power
lengthened_full precision digits m power some short full is =
    subst (λ (n : ℕ). 2 ^ (precision - 1) ≤ m * n) (sym is) (top_full precision m digits some short full)

pub lengthened_fits : (precision digits m power : ℕ) → digits ≤ precision → m < 2 ^ digits
    → power ≡ 2 ^ (precision - digits) → m * power < 2 ^ precision
lengthened_fits precision digits m power short fits is =
    subst (λ (n : ℕ). m * n < 2 ^ precision) (sym is) (top_fits precision m digits short fits)

pub lengthened_kept : (precision digits m from scale other place kept : ℕ) → 0 < precision → digits ≤ precision
    → 2 ^ (precision - 1) ≤ kept → kept < 2 ^ precision → kept ≡ m * 2 ^ (precision - digits)
    → place + (precision + other) ≡ digits + from + scale
    → IsKeptNumber precision kept 0 1 place (m * 2 ^ from * 2 ^ scale) (2 ^ other)
lengthened_kept precision digits m from scale other place kept some short full fits is balance =
    let exact : m * 2 ^ from * 2 ^ scale ≡ m * 2 ^ (precision - digits) * (2 ^ place * 2 ^ other) =
    lengthened_stands m from scale other (precision - digits) place (omega (arith, short, balance)) in
    let stands : StandsFor kept ExactlyZero (m * 2 ^ from * 2 ^ scale) (2 ^ place * 2 ^ other) =
    exact ∙ ap (λ (n : ℕ). n * (2 ^ place * 2 ^ other)) (sym is) in
    record {
      full = full;
      fits = fits;
      enclosed =
          enclosed_from precision kept place ExactlyZero (m * 2 ^ from * 2 ^ scale) (2 ^ other) some (pow_pos other)
          fits (inr full) stands;
      stands = stands;
    }

-- a significand of at most 59 digits leaves room in a word
pub word_room : (precision m : ℕ) → precision ≤ 59 → m < 2 ^ precision → m < 2 ^ 63
word_room precision m short fits =
    let low : precision ≤ 63 = omega (arith, short) in
    let most : 2 ^ precision ≤ 2 ^ 63 = pow-le-pow_right two_pos low in
    omega (arith, most, fits)

-- a number that is read from bits, and converted if it is normal in the other format too
pub converted_if_some : (c d : Constants) (mode : Round) (bits : ℕ) (x : Number) (answer : Option Encoded)
    → IsNumberOf c bits x
    → IfSome answer (IsEncodedNumber d mode x.negative (quanta_of x * 2 ^ (format_with d).scale)
    (2 ^ (format_with c).scale))
    → IfSome answer (IsEncodedConversion c d mode bits)
converted_if_some c d mode bits x None is given = given
converted_if_some c d mode bits x (Some encoded) is given =
    let whole : 0 < 2 ^ (c.precision - 1) = pow_pos (c.precision - 1) in
    record {
      negative = x.negative;
      quanta = quanta_of x;
      read = is.read;
      some = mul-pos (omega (arith, is.is_full.full, whole)) (pow_pos x.place);
      number = given;
    }
