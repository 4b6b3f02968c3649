-- Results that were computed from bits to bits.
use Rattle.std.proofs.Common.{◌≡◌, ℕ, pos, Bool, true, false, not, ◌&&◌, eqb, sym, refl, ap, ◌∙◌}
use Rattle.std.proofs.{Common.subst, Common.arith, lemmas.Bool.true≢false, lemmas.Bool.ne_eqb}
use Rattle.rustc_apfloat.specs.{Classes.is_nan, Conversions.IsConversion, Datum.Datum, Datum.finite, Datum.infinite}
use Rattle.rustc_apfloat.specs.{Datum.nan, Flags.Gives, Flags.bits_of, Format.Format, Lawful.Constants}
use Rattle.rustc_apfloat.specs.{Lawful.format_with, Lawful.layout_with, Layout.IsEncodedBy, Rounding.ok_bits}
use Rattle.rustc_apfloat.specs.{Sums.IsSum, Sums.IsDifference, declared.Round.Round}
use Rattle.apfloat_machines.specs.Operations.{IsMachineSum, IsMachineDifference}
use Rattle.formats_at_run_time.specs.declared.Arithmetic.{Arithmetic, TheVariants.Sum, TheVariants.Difference}
use Rattle.formats_at_run_time.specs.{Relations.in_format, ValueKinds.of_format, ValueKinds.value_of}
use Rattle.fast_bits.specs.declared.encoded.Encoded.{Encoded}
use Rattle.fast_bits.specs.Encoded.{IsEncodedConversion, IsEncodedAnswer, IsNumberAnswer}
use Rattle.coded_calls.specs.declared.machine_call.{CodedMachine.CodedMachine, MachineOperation.TheVariants.OfTwo}
use Rattle.coded_calls.specs.{declared.data.Answer.Answer, Answers.IsConvertedInto, Answers.IsLeftBy, Answers.IsValue}
use Rattle.coded_calls.specs.{Answers.one_if, Answers.whole, KnownCalls.answered}
use Rattle.coded_calls.specs.MachineCalls.{IsMachineAnswer, IsMachineOfTwo, choices, fits, operation_fault_in}
use Rattle.coded_calls.proofs.UsualAnswers.{fitting}

-- a result in bits, written with its flags
abbrev pub value_of_encoded : (c : Constants) (Says : Datum → ℕ → Type 0) (encoded : Encoded) (answer : Answer)
    → IsEncodedAnswer c Says encoded → whole answer.bits ≡ encoded.bits
    → answer.status ≡ bits_of encoded.status → answer.number ≡ pos 0
    → IsValue (in_format c) (λ given. Gives Says given) answer
value_of_encoded c Says encoded answer is bits_are status_is number_is =
    record {
      given = record { status = encoded.status; value = is.value };
      holds = is.says;
      is_written = record {
        is_encoded =
            subst (λ (bits : ℕ). IsEncodedBy (format_with c) (layout_with c) bits is.value) (sym bits_are)
            is.is_encoded;
        status_is = status_is;
        number_is = number_is;
      };
    }

-- ---- a sum or a difference that is no NaN is that of every machine

no_nan : (negative : Bool) (significand : ℕ) (value : Datum) (Any : Type 0) → is_nan value ≡ false
    → value ≡ nan negative significand → Any
no_nan negative significand value Any number is = absurd (true≢false (sym (ap is_nan is) ∙ number))

sum_of_every : (f : Format) (machine : CodedMachine) (mode : Round) (x y value : Datum) (status : ℕ)
    → is_nan value ≡ false → IsSum f mode x y value status
    → IsMachineSum f (choices machine) mode x y value status
sum_of_every f machine mode (finite b m) (finite d n) value status number plain = plain
sum_of_every f machine mode (finite b m) (infinite d) value status number plain = plain
sum_of_every f machine mode (infinite b) (finite d n) value status number plain = plain
sum_of_every f machine mode (infinite true) (infinite true) value status number plain = plain
sum_of_every f machine mode (infinite false) (infinite false) value status number plain = plain
sum_of_every f machine mode x y value status number plain = no_nan _ _ value _ number plain.value_is

difference_of_every : (f : Format) (machine : CodedMachine) (mode : Round) (x y value : Datum) (status : ℕ)
    → is_nan value ≡ false → IsDifference f mode x y value status
    → IsMachineDifference f (choices machine) mode x y value status
difference_of_every f machine mode (finite b m) (finite d n) value status number plain = plain
difference_of_every f machine mode (finite b m) (infinite d) value status number plain = plain
difference_of_every f machine mode (infinite b) (finite d n) value status number plain = plain
difference_of_every f machine mode (infinite true) (infinite false) value status number plain = plain
difference_of_every f machine mode (infinite false) (infinite true) value status number plain = plain
difference_of_every f machine mode x y value status number plain = no_nan _ _ value _ number plain.value_is

-- what bits that are no NaN leave
left_number : (c : Constants) (machine : CodedMachine) (arithmetic : Arithmetic) (mode : Round) (x y : ℕ)
    (Says : Datum → ℕ → Type 0) (encoded : Encoded) (old answer : Answer)
    → (fits c.bits x && fits c.bits y) ≡ true
    → ((value : Datum) → is_nan value ≡ false → Says value (bits_of encoded.status)
    → IsMachineOfTwo (format_with c) machine arithmetic mode (value_of c x) (value_of c y)
    (record { status = encoded.status; value = value }))
    → IsNumberAnswer c Says encoded → whole answer.bits ≡ encoded.bits
    → answer.status ≡ bits_of encoded.status → answer.number ≡ pos 0
    → IsLeftBy (operation_fault_in c.bits machine (OfTwo arithmetic x y))
    (IsMachineAnswer c machine mode (OfTwo arithmetic x y)) old answer answered
left_number c machine arithmetic mode x y Says encoded old answer fit every number bits_are status_is number_is =
    let plain = number.is_answer in
    let value = value_of_encoded c Says encoded answer plain bits_are status_is number_is in
    fitting c.bits machine (OfTwo arithmetic x y) (IsMachineAnswer c machine mode (OfTwo arithmetic x y)) old answer
    answered fit (
      refl,
      record {
        given = value.given;
        holds = every plain.value (sym (ap is_nan plain.is_encoded.is) ∙ number.is_number) plain.says;
        is_written = value.is_written;
      },
    )

pub left_sum : (c : Constants) (machine : CodedMachine) (mode : Round) (x y : ℕ) (encoded : Encoded)
    (old answer : Answer) → (fits c.bits x && fits c.bits y) ≡ true
    → IsNumberAnswer c (IsSum (format_with c) mode (value_of c x) (value_of c y)) encoded
    → whole answer.bits ≡ encoded.bits → answer.status ≡ bits_of encoded.status → answer.number ≡ pos 0
    → IsLeftBy (operation_fault_in c.bits machine (OfTwo Sum x y)) (IsMachineAnswer c machine mode (OfTwo Sum x y))
    old answer answered
left_sum c machine mode x y encoded old answer fit number =
    left_number c machine Sum mode x y (IsSum (format_with c) mode (value_of c x) (value_of c y)) encoded old answer
    fit
    (λ value is_number plain. sum_of_every (format_with c) machine mode (value_of c x) (value_of c y) value
    (bits_of encoded.status) is_number plain) number

pub left_difference : (c : Constants) (machine : CodedMachine) (mode : Round) (x y : ℕ) (encoded : Encoded)
    (old answer : Answer) → (fits c.bits x && fits c.bits y) ≡ true
    → IsNumberAnswer c (IsDifference (format_with c) mode (value_of c x) (value_of c y)) encoded
    → whole answer.bits ≡ encoded.bits → answer.status ≡ bits_of encoded.status → answer.number ≡ pos 0
    → IsLeftBy (operation_fault_in c.bits machine (OfTwo Difference x y))
    (IsMachineAnswer c machine mode (OfTwo Difference x y)) old answer answered
left_difference c machine mode x y encoded old answer fit number =
    left_number c machine Difference mode x y (IsDifference (format_with c) mode (value_of c x) (value_of c y)) encoded
    old answer fit
    (λ value is_number plain. difference_of_every (format_with c) machine mode (value_of c x) (value_of c y) value
    (bits_of encoded.status) is_number plain) number

-- a number other than zero, converted from bits to bits, is what the conversion gives
pub number_in_format : (c d : Constants) (mode : Round) (bits : ℕ) (number : Encoded) (answer : Answer)
    → IsEncodedConversion c d mode bits number → whole answer.bits ≡ number.bits
    → answer.status ≡ bits_of number.status → answer.number ≡ one_if (not (eqb (bits_of number.status) 0))
    → IsConvertedInto c mode (value_of c bits) (of_format d) answer
number_in_format c d mode bits number answer is bits_are status_is number_is =
    let it = is.number in
    let value = finite is.negative it.quanta in
    let loses = not (eqb (bits_of number.status) ok_bits) in
    let some : eqb is.quanta 0 ≡ false = ne_eqb is.quanta 0 (λ e. omega (arith, is.some, e)) in
    let of_number : IsConversion (format_with c) (format_with d) mode (finite is.negative is.quanta) value
    (bits_of number.status) loses = rw some (record { is_delivered = it.is_delivered; loses_is = refl }) in
    record {
      given = record { status = number.status; value = value };
      loses = loses;
      holds =
          subst
          (λ (x : Datum). IsConversion (format_with c) (format_with d) mode x value (bits_of number.status) loses)
          (sym is.read) of_number;
      is_written = record {
        is_encoded =
            subst (λ (n : ℕ). IsEncodedBy (format_with d) (layout_with d) n value) (sym bits_are) it.is_encoded;
        status_is = status_is;
        number_is = number_is;
      };
    }
