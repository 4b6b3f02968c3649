-- An augmented operation and an operation on payloads have one answer each.
use Rattle.std.proofs.Common.{◌≡◌, ℕ, Ok, Err, Result, refl, sym, ap, ◌∙◌, subst}
use Rattle.rustc_apfloat.specs.{declared.Round.TheVariants.NearestTiesToEven, Datum.Datum, Layout.IsEncodedBy}
use Rattle.rustc_apfloat.specs.Lawful.{format_with, layout_with}
use Rattle.ieee_operations.specs.augmented.Augmented.{HasOneAugmented, IsAugmentedDifference, IsAugmentedProduct}
use Rattle.ieee_operations.specs.augmented.Augmented.{IsAugmentedSum}
use Rattle.formats_at_run_time.specs.{declared.BuiltInFormat.BuiltInFormat, BuiltIns.constants_in, ValueKinds.value_of}
use Rattle.formats_at_run_time.proofs.FormatLaws.{built_in_law}
use Rattle.coded_calls.specs.declared.{data.Answer.Answer, data.Halves.Halves, augmented.Augmentation.Augmentation}
use Rattle.coded_calls.specs.declared.augmented.Augmentation.TheVariants.{Sum, Difference, Product}
use Rattle.coded_calls.specs.Answers.{whole}
use Rattle.coded_calls.specs.Augmented.{IsAugmentedBy, IsAugmentedCall, IsPayloadCall, KnownAugmentation, KnownPayload}
use Rattle.coded_calls.specs.OneReply.{AreAugmentedCallsOnce, SameAnswer}
use Rattle.coded_calls.proofs.ExportsOnce.{format_determined, unchanged}

-- a datum has one encoding
pub encoding_once : (format : BuiltInFormat) (datum other : Datum) (a b : ℕ) → datum ≡ other
    → IsEncodedBy (format_with (constants_in format)) (layout_with (constants_in format)) a datum
    → IsEncodedBy (format_with (constants_in format)) (layout_with (constants_in format)) b other → a ≡ b
encoding_once format datum other a b same x y =
    let c = constants_in format in
    let has = built_in_law format in
    (format_determined c has NearestTiesToEven).bits has.wide other a b
    (subst (λ (d : Datum). IsEncodedBy (format_with c) (layout_with c) a d) same x) y

payload_once : (known : Result KnownPayload ℕ) (x : ℕ) (old first second : Answer) (code other : ℕ)
    → IsPayloadCall known x old first code → IsPayloadCall known x old second other
    → (code ≡ other) × SameAnswer first second
payload_once (Err error) x old a b code other h k = (h.0 ∙ sym k.0, unchanged old a b h.1 k.1)
payload_once (Ok known) x old a b code other h k = (
  h.0 ∙ sym k.0,
  record {
    bits = encoding_once known.format _ _ (whole a.bits) (whole b.bits) refl h.1.of k.1.of;
    status = h.1.status ∙ sym k.1.status;
    number = h.1.number ∙ sym k.1.number;
  },
)

module _ (sums : HasOneAugmented IsAugmentedSum) (differences : HasOneAugmented IsAugmentedDifference)
    (products : HasOneAugmented IsAugmentedProduct) where
  by_once : (operation : Augmentation) → HasOneAugmented (IsAugmentedBy operation)
  by_once Sum = sums
  by_once Difference = differences
  by_once Product = products

  augmented_once : (known : Result KnownAugmentation ℕ) (x y : ℕ) (old_tail first_tail second_tail : Halves)
      (old first second : Answer) (code other : ℕ)
      → IsAugmentedCall known x y old_tail first_tail old first code
      → IsAugmentedCall known x y old_tail second_tail old second other
      → (code ≡ other) × (whole first_tail ≡ whole second_tail) × SameAnswer first second
  augmented_once (Err error) x y old_tail s t old a b code other h k =
      (h.0 ∙ sym k.0, ap (λ (tail : Halves). whole tail) (h.1 ∙ sym k.1), unchanged old a b h.2 k.2)
  augmented_once (Ok known) x y old_tail s t old a b code other h k =
      let c = constants_in known.format in
      let p = h.1.of in
      let q = k.1.of in
      let once = by_once known.operation (format_with c) (value_of c x) (value_of c y) p.head q.head p.tail q.tail
      a.status b.status p.says q.says in (
        h.0 ∙ sym k.0,
        encoding_once known.format p.tail q.tail (whole s) (whole t) once.1 p.tail_is q.tail_is,
        record {
          bits = encoding_once known.format p.head q.head (whole a.bits) (whole b.bits) once.0 p.head_is q.head_is;
          status = once.2;
          number = h.1.number ∙ sym k.1.number;
        },
      )

  pub augmented_calls_once : AreAugmentedCallsOnce
  augmented_calls_once =
      record {
        augmented = λ known x y old_tail s t old a b code other h k.
            augmented_once known x y old_tail s t old a b code other h k;
        payload = λ known x old a b code other h k. payload_once known x old a b code other h k;
      }
