-- Answers from bits to bits are unique.
use Rattle.std.proofs.Common.{◌≡◌, ℕ, ◌<◌, subst}
use Rattle.apfloat_model.specs.{bits.Layout.IsEncodedBy, declared.kinds.Round.Round, formats.Datum.Datum}
use Rattle.apfloat_model.specs.formats.{Format.Format, Lawful.Constants, Lawful.IsLawful, Lawful.format_with}
use Rattle.apfloat_model.specs.{formats.Lawful.layout_with, rounding.Flags.bits_of}
use Rattle.apfloat_model.proofs.bits.{EncodedOnce.encoded_once, Encodings.lawful_interchange}
use Rattle.apfloat_model.proofs.Once.{Once, difference_once, product_once, root_once, round_to_integral_once, sum_once}
use Rattle.fast_bits.specs.{declared.encoded.Encoded.Encoded, Encoded.IsEncodedAnswer, Encoded.value_in}
use Rattle.fast_bits.specs.Once.{AreEncodedOnce, IsEncodedOnce, IsEncodedOnceOfOne}

-- a relation that determines value and flags has one answer
same_answer : (c : Constants) (Says : Datum → ℕ → Type 0) (first second : Encoded) → Once Says → IsLawful c
    → c.precision < c.bits → IsEncodedAnswer c Says first → IsEncodedAnswer c Says second
    → (first.bits ≡ second.bits) × (bits_of first.status ≡ bits_of second.status)
same_answer c Says first second once law wide one other =
    let same = once one.value other.value (bits_of first.status) (bits_of second.status) one.says other.says in (
      encoded_once (format_with c) (layout_with c) other.value first.bits second.bits (lawful_interchange c law wide)
          (subst (λ (v : Datum). IsEncodedBy (format_with c) (layout_with c) first.bits v) same.0 one.is_encoded)
          other.is_encoded,
      same.1,
    )

-- an operation whose value and flags are determined has one answer
answer_once : (Says : Format → Round → Datum → Datum → Datum → ℕ → Type 0)
    → ((f : Format) (mode : Round) (x y : Datum) → Once (Says f mode x y)) → IsEncodedOnce Says
answer_once Says once c mode x y first second =
    same_answer c (Says (format_with c) mode (value_in c x) (value_in c y)) first second
    (once (format_with c) mode (value_in c x) (value_in c y))

answer_once_of_one : (Says : Format → Round → Datum → Datum → ℕ → Type 0)
    → ((f : Format) (mode : Round) (x : Datum) → Once (Says f mode x)) → IsEncodedOnceOfOne Says
answer_once_of_one Says once c mode x first second =
    same_answer c (Says (format_with c) mode (value_in c x)) first second (once (format_with c) mode (value_in c x))

pub encoded_answers_once : AreEncodedOnce
encoded_answers_once = record {
  sums = answer_once _ sum_once;
  differences = answer_once _ difference_once;
  products = answer_once _ product_once;
  roots = answer_once_of_one _ root_once;
  integral_values = answer_once_of_one _ round_to_integral_once;
}
