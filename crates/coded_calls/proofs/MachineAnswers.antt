-- From the answers of the library to those of a machine.
use Rattle.std.proofs.Common.{◌≡◌, ℕ, Bool, true, false, not, eqb, Option, Some, None, refl, sym, subst, pos}
use Rattle.std.proofs.{Common.arith, lemmas.Bool.false≢true, lemmas.Bool.ne_eqb}
use Rattle.fast_bits.specs.{declared.Encoded.Encoded, Encoded.IsEncodedConversion}
use Rattle.rustc_apfloat.specs.{declared.Round.Round, declared.StatusAnd.StatusAnd, Classes.is_finite}
use Rattle.rustc_apfloat.specs.Datum.{Datum, finite, infinite, nan}
use Rattle.rustc_apfloat.specs.{Flags.Gives, Flags.bits_of, Format.Format, Lawful.Constants, Lawful.format_with}
use Rattle.rustc_apfloat.specs.{Lawful.layout_with, Layout.IsEncodedBy, Rounding.ok_bits}
use Rattle.apfloat_model.specs.arithmetic.Conversions.{IsConversion}
use Rattle.apfloat_machines.specs.{Conversions.IsMachineConversion, Operations.AreSettled, Operations.IsOffered}
use Rattle.formats_at_run_time.specs.declared.Arithmetic.{Arithmetic}
use Rattle.formats_at_run_time.specs.declared.Arithmetic.TheVariants.{Sum, Difference, Product, Quotient}
use Rattle.formats_at_run_time.specs.declared.Arithmetic.TheVariants.{NearestRemainder, TruncatedRemainder}
use Rattle.formats_at_run_time.specs.{OfTwo.IsOfTwo, Relations.in_format, ValueKinds.of_format, ValueKinds.value_of}
use Rattle.coded_calls.specs.declared.{machine_call.CodedMachine.CodedMachine, data.Answer.Answer}
use Rattle.coded_calls.specs.Answers.{whole}
use Rattle.coded_calls.specs.MachineCalls.{IsMachineConverted, IsMachineOfTwo, choices}

-- what `settled` makes of the answer of an operation on two values is the machine's
pub settled_of_two : (c : Constants) (machine : CodedMachine) (arithmetic : Arithmetic) (mode : Round) (x y : Datum)
    (answer result : StatusAnd Datum) → IsOfTwo (in_format c) arithmetic mode x y answer
    → AreSettled (format_with c) (choices machine) x y answer result
    → IsMachineOfTwo (format_with c) machine arithmetic mode x y result
settled_of_two c machine Sum mode x y answer result given settled = settled.sum mode given
settled_of_two c machine Difference mode x y answer result given settled = settled.difference mode given
settled_of_two c machine Product mode x y answer result given settled = settled.product mode given
settled_of_two c machine Quotient mode x y answer result given settled = settled.quotient mode given
settled_of_two c machine NearestRemainder mode x y answer result given settled = settled.nearest given
settled_of_two c machine TruncatedRemainder mode x y answer result given settled = settled.truncated given

-- what holds of an answer that is offered, if what is said of it implies that
pub offered : {A : Type 0} (has : Bool) (Says Tells : A → Type 0) (result : Option A)
    → ((answer : A) → Says answer → Tells answer) → IsOffered has Says result → IsOffered has Tells result
offered has Says Tells None implies said = said
offered has Says Tells (Some answer) implies said = (said.0, implies answer said.1)

-- a number other than zero, converted from bits to bits, is what every machine gives
pub number_on_machine : (c d : Constants) (machine : CodedMachine) (mode : Round) (bits : ℕ) (number : Encoded)
    (answer : Answer) → IsEncodedConversion c d mode bits number → whole answer.bits ≡ number.bits
    → answer.status ≡ bits_of number.status → answer.number ≡ pos 0
    → IsMachineConverted c machine mode (value_of c bits) (of_format d) answer
number_on_machine c d machine mode bits number answer is bits_are status_is number_is =
    let it = is.number in
    let value = finite is.negative it.quanta in
    let given : StatusAnd Datum = record { status = number.status; value = value } in
    let some : eqb is.quanta 0 ≡ false = ne_eqb is.quanta 0 (λ e. omega (arith, is.some, e)) in
    let of_number : Gives (IsMachineConversion (format_with c) (format_with d) (choices machine) mode
    (finite is.negative is.quanta)) given =
    rw some (not (eqb (bits_of number.status) ok_bits), record { is_delivered = it.is_delivered; loses_is = refl }) in
    record {
      given = given;
      holds =
          subst
          (λ (x : Datum). Gives (IsMachineConversion (format_with c) (format_with d) (choices machine) mode x) given)
          (sym is.read) of_number;
      is_written = record {
        is_encoded =
            subst (λ (n : ℕ). IsEncodedBy (format_with d) (layout_with d) n value) (sym bits_are) it.is_encoded;
        status_is = status_is;
        number_is = number_is;
      };
    }

-- a number that is converted to another format is what every machine gives
pub finite_on_machine : (f g : Format) (machine : CodedMachine) (mode : Round) (x : Datum) (given : StatusAnd Datum)
    (loses : Bool) → is_finite x ≡ true → IsConversion f g mode x given.value (bits_of given.status) loses
    → Gives (IsMachineConversion f g (choices machine) mode x) given
finite_on_machine f g machine mode (finite b n) given loses e plain = (loses, plain)
finite_on_machine f g machine mode (infinite b) given loses e plain = absurd (false≢true e)
finite_on_machine f g machine mode (nan b s) given loses e plain = absurd (false≢true e)
