-- A call that converts one value into a storage format or out of it, or operates on codes of one, has one answer.
use Rattle.std.proofs.Common.{◌≡◌, ℕ, Ok, Err, sym, ap, ◌∙◌}
use Rattle.rustc_apfloat.specs.Flags.{bits_of}
use Rattle.small_formats.specs.Arithmetic.{IsStoredOnce}
use Rattle.apfloat_arrays.specs.declared.{Outcome.Outcome, stored.StorageArray.StorageArray}
use Rattle.apfloat_arrays.proofs.stored_lemmas.NumbersOnce.{converted_number_once}
use Rattle.coded_calls.specs.{declared.data.Answer.Answer, Answers.one_if, Answers.whole, OneReply.SameAnswer}
use Rattle.arrays_for_c.specs.{StorageOperations.IsOperationReplyOnce, StorageValues.IsStorageAnswer}
use Rattle.arrays_for_c.specs.StorageValues.{IsStorageReplyOnce}

pub same_answer : (first second : Answer) → first ≡ second → SameAnswer first second
same_answer first second same =
    record {
      bits = ap (λ (a : Answer). whole a.bits) same;
      status = ap (λ (a : Answer). a.status) same;
      number = ap (λ (a : Answer). a.number) same;
    }

storage_answer_once : (array : StorageArray) (bits : ℕ) (first second : Answer)
    → IsStorageAnswer array bits first → IsStorageAnswer array bits second → SameAnswer first second
storage_answer_once array bits first second x y =
    let same = converted_number_once array.overflow array.round array.ends bits x.value y.value
    x.outcome y.outcome x.is_converted y.is_converted in
    record {
      bits = x.bits_are ∙ same.0 ∙ sym y.bits_are;
      status = x.status_is ∙ ap (λ (o : Outcome). bits_of o.status) same.1 ∙ sym y.status_is;
      number = x.number_is ∙ ap (λ (o : Outcome). one_if o.is_nan) same.1 ∙ sym y.number_is;
    }

pub storage_reply_once : IsStorageReplyOnce
storage_reply_once (Ok array) bits old first second code other x y =
    (x.0 ∙ sym y.0, storage_answer_once array bits first second x.1 y.1)
storage_reply_once (Err error) bits old first second code other x y =
    (x.0 ∙ sym y.0, same_answer first second (x.1 ∙ sym y.1))

pub operation_reply_once : IsStoredOnce → IsOperationReplyOnce
operation_reply_once once (Ok it) x y z old first second code other (answered, h, none) (also, k, still) =
    let same = once it.constants it.round _ _ _ _ _ h.lawful h.fits k.fits h.is_stored k.is_stored in
    (answered ∙ sym also, record { bits = same.0; status = same.1; number = none ∙ sym still })
operation_reply_once once (Err error) x y z old first second code other h k =
    (h.0 ∙ sym k.0, same_answer first second (h.1 ∙ sym k.1))
