-- A format has one description.
use Rattle.std.proofs.Common.{◌≡◌, ℕ, ◌-◌, ◌^◌, ◌<◌, ◌≤◌, refl, sym, ◌∙◌, arith, lit<}
use Rattle.std.proofs.{Common.⊎_elim, Math.Nat.pow-le-pow_right, lemmas.Bool.cases_lt}
use Rattle.rustc_apfloat.specs.{declared.Round.TheVariants.NearestTiesToEven, Datum.Datum}
use Rattle.formats_at_run_time.specs.{declared.BuiltInFormat.BuiltInFormat, BuiltIns.constants_in}
use Rattle.formats_at_run_time.proofs.FormatLaws.{built_in_law}
use Rattle.coded_calls.specs.{declared.data.Halves.Halves, declared.facts.Facts.Facts, Answers.whole}
use Rattle.coded_calls.specs.Facts.{AreFacts, IsDigitCountToReadBack, IsEncoding, SameFacts}
use Rattle.coded_calls.proofs.ExportsOnce.{format_determined}

-- a datum has one encoding
encoding_once : (format : BuiltInFormat) (datum : Datum) (first second : Halves)
    → IsEncoding (constants_in format) first datum → IsEncoding (constants_in format) second datum
    → whole first ≡ whole second
encoding_once format datum a b x y =
    let has = built_in_law format in
    (format_determined (constants_in format) has NearestTiesToEven).bits has.wide datum (whole a) (whole b) x y

-- no fewer digits are enough
count_at_most : (precision first second : ℕ) → IsDigitCountToReadBack precision first
    → IsDigitCountToReadBack precision second → first ≤ second
count_at_most precision a b x y =
    ⊎_elim
    (λ (l : b < a).
    let some = y.some in
    let enough = y.enough in
    let least = x.least in
    let next : b - 1 ≤ a - 2 = omega (arith, l, some) in
    let power : 10 ^ (b - 1) ≤ 10 ^ (a - 2) = pow-le-pow_right (lit< tt) next in
    absurd (omega (arith, power, enough, least)))
    (λ (h : a ≤ b). h)
    (cases_lt b a)

count_once : (precision first second : ℕ) → IsDigitCountToReadBack precision first
    → IsDigitCountToReadBack precision second → first ≡ second
count_once precision a b x y =
    let most = count_at_most precision a b x y in
    let least = count_at_most precision b a y x in
    omega (arith, most, least)

pub same_facts : (facts : Facts) → SameFacts facts facts
same_facts facts =
    record {
      largest = refl;
      smallest_normal = refl;
      smallest = refl;
      bits = refl;
      bytes = refl;
      precision = refl;
      least_exponent = refl;
      greatest_exponent = refl;
      decimal_digits = refl;
      has_infinities = refl;
      nans = refl;
    }

pub facts_of_once : (format : BuiltInFormat) (size : ℕ) (first second : Facts)
    → AreFacts (constants_in format) size first → AreFacts (constants_in format) size second
    → SameFacts first second
facts_of_once format size a b x y =
    record {
      largest = encoding_once format _ a.largest b.largest x.largest y.largest;
      smallest_normal = encoding_once format _ a.smallest_normal b.smallest_normal x.smallest_normal y.smallest_normal;
      smallest = encoding_once format _ a.smallest b.smallest x.smallest y.smallest;
      bits = x.bits ∙ sym y.bits;
      bytes = x.bytes ∙ sym y.bytes;
      precision = x.precision ∙ sym y.precision;
      least_exponent = x.least_exponent ∙ sym y.least_exponent;
      greatest_exponent = x.greatest_exponent ∙ sym y.greatest_exponent;
      decimal_digits = count_once _ a.decimal_digits b.decimal_digits x.decimal_digits y.decimal_digits;
      has_infinities = x.has_infinities ∙ sym y.has_infinities;
      nans = x.nans ∙ sym y.nans;
    }
