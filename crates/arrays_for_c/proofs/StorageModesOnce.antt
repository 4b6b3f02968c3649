-- A call that rounds into a storage format by a mode of conversions has one answer.
use Rattle.std.proofs.Common.{◌≡◌, ℕ, List, take, Ok, Err, sym, ap, subst, ◌∙◌, mul-one}
use Rattle.rustc_apfloat.specs.Flags.{bits_of}
use Rattle.apfloat_arrays.specs.declared.{Counts.Counts, Outcome.Outcome, stored.ModeConversion.ModeConversion}
use Rattle.apfloat_arrays.specs.{Blocks.value_at, Bytes.number_of, Outcomes.counts_of}
use Rattle.apfloat_arrays.specs.stored.ByMode.{IsStoredAt, mode_width, random_of}
use Rattle.apfloat_arrays.proofs.PlacesOnce.{FixesPlaces, bytes_take, places_once}
use Rattle.apfloat_arrays.proofs.stored_lemmas.ByModeOnce.{AreOnce, stored_with_once}
use Rattle.coded_calls.specs.{declared.data.Answer.Answer, Answers.one_if, OneReply.SameAnswer}
use Rattle.arrays_for_c.specs.{declared.array_data.ArrayAnswer.ArrayAnswer, Arrays.answer_with, OneAnswer.IsLeftIn}
use Rattle.arrays_for_c.specs.StorageModes.{AreAllStored, IsModeAnswer, IsModeArrayOnce, IsModeReplyOnce}
use Rattle.arrays_for_c.proofs.{ArraysOnce.same_front_size, ArraysOnce.same_whole, StorageOnce.same_answer}

mode_answer_once : AreOnce → (it : ModeConversion) (random bits : ℕ) (first second : Answer)
    → IsModeAnswer it random bits first → IsModeAnswer it random bits second → SameAnswer first second
mode_answer_once once it random bits first second x y =
    let same = stored_with_once once it random bits x.value y.value x.outcome y.outcome x.is_stored
    y.is_stored in
    record {
      bits = x.bits_are ∙ same.0 ∙ sym y.bits_are;
      status = x.status_is ∙ ap (λ (o : Outcome). bits_of o.status) same.1 ∙ sym y.status_is;
      number = x.number_is ∙ ap (λ (o : Outcome). one_if o.is_nan) same.1 ∙ sym y.number_is;
    }

pub mode_reply_once : AreOnce → IsModeReplyOnce
mode_reply_once once (Ok it) random bits old first second code other x y =
    (x.0 ∙ sym y.0, mode_answer_once once it random bits first second x.1 y.1)
mode_reply_once once (Err error) random bits old first second code other x y =
    (x.0 ∙ sym y.0, same_answer first second (x.1 ∙ sym y.1))

all_stored_once : AreOnce → (it : ModeConversion) (count : ℕ) (randoms given old first second : List ℕ)
    (after also : ArrayAnswer) → IsLeftIn old first → IsLeftIn old second
    → AreAllStored it count randoms given old first after → AreAllStored it count randoms given old second also
    → (first ≡ second) × (after ≡ also)
all_stored_once once it count randoms given old first second after also a b x y =
    let fixes : FixesPlaces (IsStoredAt it randoms given) = λ index bytes other outcome also h j.
    stored_with_once once it (random_of it.round randoms index) (number_of (value_at (mode_width it) index given))
    (number_of bytes) (number_of other) outcome also h j in
    let same = places_once (IsStoredAt it randoms given) 1 count (take count first) (take count second)
    x.are_stored.outcomes y.are_stored.outcomes fixes (bytes_take count first a.are_bytes)
    (bytes_take count second b.are_bytes) (same_front_size count first second (a.size ∙ sym b.size))
    x.are_stored.places y.are_stored.places in
    let front : take count (take count first) ≡ take count (take count second) =
    subst (λ (n : ℕ). take n (take count first) ≡ take n (take count second)) (mul-one count) same.0 in
    let counted : x.counts ≡ y.counts =
    x.are_stored.counted ∙ ap (λ (l : List Outcome). counts_of l) same.1 ∙ sym y.are_stored.counted in (
      same_whole count first second front (x.kept ∙ sym y.kept),
      x.answer_is ∙ ap (λ (c : Counts). answer_with (record { counts = c; div_by_zero = 0 })) counted
          ∙ sym y.answer_is,
    )

pub mode_array_once : AreOnce → IsModeArrayOnce
mode_array_once once (Err error) randoms given old first second before after also code other a b x y =
    (x.0 ∙ sym y.0, x.1 ∙ sym y.1, x.2 ∙ sym y.2)
mode_array_once once (Ok it) randoms given old first second before after also code other a b x y =
    let same = all_stored_once once it _ randoms given old first second after also a b x.1 y.1 in
    (x.0 ∙ sym y.0, same.0, same.1)
