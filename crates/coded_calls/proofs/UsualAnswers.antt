-- The plain answer of usual operands is that of every machine.
use Rattle.std.proofs.Common.{◌≡◌, ℕ, ◌+◌, ◌-◌, ◌*◌, ◌/◌, ◌%◌, ◌^◌, ◌<◌, ◌≤◌, ap, sym, subst, ◌∙◌, arith, Bool, true}
use Rattle.std.proofs.Common.{false, not, ◌&&◌, eqb, leb, Option, Some, None, Result, Ok, refl, pos, if◌then◌else◌}
use Rattle.std.proofs.lemmas.Bool.{false≢true, true≢false, and_left, and_right, cond-true, le-leb, ne_eqb}
use Rattle.std.proofs.lemmas.Nat.{mul-lt, pow_pos}
use Rattle.std.specs.{Prelude.option_and_then, Bool.MatchBool}
use Rattle.rustc_apfloat.specs.{Classes.is_finite, Classes.is_negative, Classes.is_zero, Datum.Datum, Datum.finite}
use Rattle.rustc_apfloat.specs.{Datum.infinite, Datum.nan, FusedSums.IsFusedSum, Flags.Gives, Lawful.Constants}
use Rattle.rustc_apfloat.specs.{Lawful.format_with, Lawful.layout_with, Layout.Layout, Layout.all_ones}
use Rattle.rustc_apfloat.specs.{Layout.fields_of, Layout.trailing_bits, Layout.written_datum, Format.Format}
use Rattle.rustc_apfloat.specs.{Format.smallest_normalized, declared.Round.Round, declared.StatusAnd.StatusAnd}
use Rattle.apfloat_model.proofs.bits.EncodedOnce.{fields_with}
use Rattle.apfloat_model.specs.{arithmetic.Roots.IsRoot, formats.Nan.invalid_bit}
use Rattle.apfloat_model.specs.rounding.Answer.{IsAnswer as IsGivenDatum}
use Rattle.apfloat_model.specs.whole_numbers.WholeNumbers.{IsRoundToIntegral}
use Rattle.apfloat_machines.specs.{declared.machine.Machine.Machine, Nans.default_nan}
use Rattle.apfloat_machines.specs.Operations.{IsMachineFusedSum, IsMachineIntegralExact, IsMachineRoot}
use Rattle.formats_at_run_time.specs.{OfTwo.IsOfTwo, Relations.in_format, ValueKinds.of_format, ValueKinds.value_of}
use Rattle.formats_at_run_time.specs.declared.{Arithmetic.TheVariants.TruncatedRemainder, FlaggedKind.FlaggedKind}
use Rattle.formats_at_run_time.specs.declared.Arithmetic.{Arithmetic, TheVariants.Sum}
use Rattle.formats_at_run_time.specs.declared.Arithmetic.TheVariants.{Difference, Product, Quotient, NearestRemainder}
use Rattle.coded_calls.specs.{Answers.IsKindAnswer, Answers.IsLeftBy, Answers.IsValueWritten, KnownCalls.answered}
use Rattle.coded_calls.specs.{KnownCalls.without, MachineCalls.IsMachineAnswer, MachineCalls.IsMachineCallAnswer}
use Rattle.coded_calls.specs.declared.machine_call.{CodedMachine.CodedMachine, MachineCall.MachineCall}
use Rattle.coded_calls.specs.declared.machine_call.{MachineCall.TheVariants.Conversion, MachineFormat.MachineFormat}
use Rattle.coded_calls.specs.declared.machine_call.MachineOperation.{MachineOperation, TheVariants.OfTwo}
use Rattle.coded_calls.specs.declared.machine_call.MachineOperation.TheVariants.{FusedSum, SquareRoot, IntegralExact}
use Rattle.coded_calls.specs.declared.data.Answer.{Answer}
use Rattle.coded_calls.specs.declared.exported_call.ExportedCall.TheVariants.{OfTwo as PlainOfTwo}
use Rattle.coded_calls.specs.declared.exported_call.ExportedCall.TheVariants.{FusedSum as PlainFusedSum}
use Rattle.coded_calls.specs.declared.exported_call.ExportedCall.TheVariants.{SquareRoot as PlainRoot, RoundToIntegral}
use Rattle.coded_calls.specs.MachineCalls.{IsMachineOfTwo, IsMachineReply, MachineRequest, are_usual}
use Rattle.coded_calls.specs.MachineCalls.{are_usual_of_three, choices, conversion_call, divides, fits, is_divisor}
use Rattle.coded_calls.specs.MachineCalls.{is_number, is_root_of, known_machine_call, lacking_operation, machine_fault}
use Rattle.coded_calls.specs.MachineCalls.{machine_format, operands_fit, operation_fault, operation_fault_in}
use Rattle.coded_calls.proofs.WrittenAnswers.{answered_if}

-- ---- tests

both_true : (x y : Bool) → (x && y) ≡ true → (x ≡ true) × (y ≡ true)
both_true true y e = (refl, e)
both_true false y e = absurd (false≢true e)

pub two_true : (x y : Bool) → x ≡ true → y ≡ true → (x && y) ≡ true
two_true true y p q = q
two_true false y p q = absurd (false≢true p)

not_true : (x : Bool) → not x ≡ true → x ≡ false
not_true true e = absurd (false≢true e)
not_true false e = refl

-- what is said of valid operands, of valid ones
of_valid : (invalid : Bool) (Invalid Valid : Type 0) → invalid ≡ false → Valid → MatchBool invalid Invalid Valid
of_valid true Invalid Valid e holds = absurd (true≢false e)
of_valid false Invalid Valid e holds = holds

of_invalid : (invalid : Bool) (Invalid Valid : Type 0) → invalid ≡ true → Invalid → MatchBool invalid Invalid Valid
of_invalid true Invalid Valid e holds = holds
of_invalid false Invalid Valid e holds = absurd (false≢true e)

either_way : (test x y : Bool) → x ≡ true → y ≡ true → (if test then x else y) ≡ true
either_way true x y p q = p
either_way false x y p q = q

-- ---- what is left

pub fitting : (width : ℕ) (machine : CodedMachine) (operation : MachineOperation) (Holds : Answer → Type 0)
    (old new : Answer) (code : ℕ) → operands_fit width operation ≡ true
    → IsLeftBy (operation_fault machine operation) Holds old new code
    → IsLeftBy (operation_fault_in width machine operation) Holds old new code
fitting width machine operation Holds old new code e left = rw e left

-- ---- results of numbers

of_numbers : (c : Constants) (machine : CodedMachine) (arithmetic : Arithmetic) (mode : Round) (b d : Bool) (m n : ℕ)
    (given : StatusAnd Datum) → (divides arithmetic ≡ true → eqb n 0 ≡ false)
    → IsOfTwo (in_format c) arithmetic mode (finite b m) (finite d n) given
    → IsMachineOfTwo (format_with c) machine arithmetic mode (finite b m) (finite d n) given
of_numbers c machine Sum mode b d m n given some plain = plain
of_numbers c machine Difference mode b d m n given some plain = plain
of_numbers c machine Product mode b d m n given some plain = plain
of_numbers c machine Quotient mode b d m n given some plain =
    of_valid (eqb n 0 && eqb m 0) _ _ (and_left (eqb n 0) (eqb m 0) (some refl)) plain
of_numbers c machine NearestRemainder mode b d m n given some plain = of_valid (eqb n 0) _ _ (some refl) plain
of_numbers c machine TruncatedRemainder mode b d m n given some plain = of_valid (eqb n 0) _ _ (some refl) plain

of_two_finite : (c : Constants) (machine : CodedMachine) (arithmetic : Arithmetic) (mode : Round) (x y : Datum)
    (given : StatusAnd Datum) → is_finite x ≡ true → is_finite y ≡ true
    → (divides arithmetic ≡ true → is_zero y ≡ false) → IsOfTwo (in_format c) arithmetic mode x y given
    → IsMachineOfTwo (format_with c) machine arithmetic mode x y given
of_two_finite c machine arithmetic mode (finite b m) (finite d n) given p q some plain =
    of_numbers c machine arithmetic mode b d m n given some plain
of_two_finite c machine arithmetic mode (finite b m) (infinite d) given p q some plain = absurd (false≢true q)
of_two_finite c machine arithmetic mode (finite b m) (nan d t) given p q some plain = absurd (false≢true q)
of_two_finite c machine arithmetic mode (infinite b) y given p q some plain = absurd (false≢true p)
of_two_finite c machine arithmetic mode (nan b s) y given p q some plain = absurd (false≢true p)

of_three_finite : (c : Constants) (machine : CodedMachine) (mode : Round) (x y z : Datum) (given : StatusAnd Datum)
    → is_finite x ≡ true → is_finite y ≡ true → is_finite z ≡ true
    → Gives (IsFusedSum (format_with c) mode x y z) given
    → Gives (IsMachineFusedSum (format_with c) (choices machine) mode x y z) given
of_three_finite c machine mode (finite b l) (finite d m) (finite e n) given p q r plain = plain
of_three_finite c machine mode (finite b l) (finite d m) (infinite e) given p q r plain = absurd (false≢true r)
of_three_finite c machine mode (finite b l) (finite d m) (nan e t) given p q r plain = absurd (false≢true r)
of_three_finite c machine mode (finite b l) (infinite d) z given p q r plain = absurd (false≢true q)
of_three_finite c machine mode (finite b l) (nan d t) z given p q r plain = absurd (false≢true q)
of_three_finite c machine mode (infinite b) y z given p q r plain = absurd (false≢true p)
of_three_finite c machine mode (nan b s) y z given p q r plain = absurd (false≢true p)

root_of_finite : (c : Constants) (machine : CodedMachine) (mode : Round) (x : Datum) (given : StatusAnd Datum)
    → is_finite x ≡ true → is_negative x ≡ false → Gives (IsRoot (format_with c) mode x) given
    → Gives (IsMachineRoot (format_with c) (choices machine) mode x) given
root_of_finite c machine mode (finite b n) given p q plain =
    of_valid (not (eqb n 0) && b) _ _ (and_right (not (eqb n 0)) b q) plain
root_of_finite c machine mode (infinite b) given p q plain = absurd (false≢true p)
root_of_finite c machine mode (nan b s) given p q plain = absurd (false≢true p)

-- a number that is no root's operand is negative
negative_of : (number negative : Bool) → number ≡ true → (number && not negative) ≡ false → negative ≡ true
negative_of true true p q = refl
negative_of true false p q = absurd (true≢false q)
negative_of false negative p q = absurd (false≢true p)

root_of_negative : (f : Format) (machine : Machine) (mode : Round) (x : Datum) (given : StatusAnd Datum)
    → is_finite x ≡ true → is_zero x ≡ false → is_negative x ≡ true
    → Gives (IsGivenDatum (default_nan f machine) invalid_bit) given → Gives (IsMachineRoot f machine mode x) given
root_of_negative f machine mode (finite b n) given p some q answer =
    of_invalid (not (eqb n 0) && b) _ _ (two_true (not (eqb n 0)) b (ap not some) q) answer
root_of_negative f machine mode (infinite b) given p some q answer = absurd (false≢true p)
root_of_negative f machine mode (nan b s) given p some q answer = absurd (false≢true p)

integral_of_finite : (c : Constants) (machine : CodedMachine) (mode : Round) (x : Datum) (given : StatusAnd Datum)
    → is_finite x ≡ true → Gives (IsRoundToIntegral (format_with c) mode x) given
    → Gives (IsMachineIntegralExact (format_with c) (choices machine) mode x) given
integral_of_finite c machine mode (finite b n) given p plain = plain
integral_of_finite c machine mode (infinite b) given p plain = absurd (false≢true p)
integral_of_finite c machine mode (nan b s) given p plain = absurd (false≢true p)

-- ---- usual operands

pub fits_and_finite : (c : Constants) (x : ℕ) → is_number c x ≡ true
    → (fits c.bits x ≡ true) × (is_finite (value_of c x) ≡ true)
fits_and_finite c x e = both_true (fits c.bits x) (is_finite (value_of c x)) e

-- a number of some quanta
divisor_read : (c : Constants) (bits : ℕ) (negative : Bool) (quanta : ℕ) → fits c.bits bits ≡ true
    → value_of c bits ≡ finite negative quanta → 0 < quanta → is_divisor c bits ≡ true
divisor_read c bits negative quanta fitting read some =
    two_true (is_number c bits) (not (is_zero (value_of c bits)))
    (two_true (fits c.bits bits) (is_finite (value_of c bits)) fitting (ap is_finite read))
    (ap (λ (x : Datum). not (is_zero x)) read ∙ ap not (ne_eqb quanta 0 (λ e. omega (arith, some, e))))

some_quanta : (significand places : ℕ) → 0 < significand → 0 < significand * 2 ^ places
some_quanta significand places some = mul-lt 0 0 significand (2 ^ places) some (pow_pos places)

written_of_fields : (f : Format) (layout : Layout) (negative : Bool) (biased trailing : ℕ) → eqb biased 0 ≡ false
    → eqb biased (all_ones layout.exponent_bits) ≡ false → leb (smallest_normalized f) trailing ≡ true
    → written_datum f layout (fields_with negative biased trailing)
    ≡ finite negative (trailing * 2 ^ (biased - 1))
written_of_fields f layout negative biased trailing some few full = rw (few, some, full) refl

-- the same with an explicit integer bit, which is set
pub written_is_divisor : (c : Constants) (bits : ℕ) → c.explicit_integer_bit ≡ true → fits c.bits bits ≡ true
    → 0 < bits / 2 ^ c.precision % 2 ^ c.exp_bits → bits / 2 ^ c.precision % 2 ^ c.exp_bits + 1 < 2 ^ c.exp_bits
    → 2 ^ (c.precision - 1) ≤ bits % 2 ^ c.precision → is_divisor c bits ≡ true
written_is_divisor c bits explicit fitting some few full =
    let negative = (fields_of (format_with c) (layout_with c) bits).negative in
    let biased = bits / 2 ^ c.precision % 2 ^ c.exp_bits in
    let trailing = bits % 2 ^ c.precision in
    let kept = pow_pos (c.precision - 1) in
    let width : trailing_bits (format_with c) ≡ c.precision = cond-true c.explicit_integer_bit _ _ explicit in
    let read : value_of c bits ≡ finite negative (trailing * 2 ^ (biased - 1)) =
    cond-true c.explicit_integer_bit _ _ explicit
    ∙ subst
    (λ (w : ℕ). written_datum (format_with c) (layout_with c)
    (fields_with negative (bits / 2 ^ w % 2 ^ c.exp_bits) (bits % 2 ^ w))
    ≡ finite negative (trailing * 2 ^ (biased - 1)))
    (sym width)
    (written_of_fields (format_with c) (layout_with c) negative biased trailing
    (ne_eqb biased 0 (λ e. omega (arith, some, e)))
    (ne_eqb biased (all_ones c.exp_bits) (λ e. omega (arith, few, e)))
    (le-leb (2 ^ (c.precision - 1)) trailing full)) in
    divisor_read c bits negative (trailing * 2 ^ (biased - 1)) fitting read
    (some_quanta trailing (biased - 1) (omega (arith, kept, full)))

-- the same of powers that were computed
pub computed_is_divisor : (c : Constants) (bits above exponents integer_bit : ℕ) → c.explicit_integer_bit ≡ true
    → fits c.bits bits ≡ true → above ≡ 2 ^ c.precision → exponents ≡ 2 ^ c.exp_bits
    → integer_bit ≡ 2 ^ (c.precision - 1) → 0 < bits / above % exponents
    → bits / above % exponents + 1 < 2 ^ c.exp_bits → integer_bit ≤ bits % above → is_divisor c bits ≡ true
computed_is_divisor c bits above exponents integer_bit explicit fitting above_is exponents_are integer_bit_is =
    rw (above_is, exponents_are, integer_bit_is)
    (λ some few full. written_is_divisor c bits explicit fitting some few full)

pub divisor_is_number : (c : Constants) (bits : ℕ) → is_divisor c bits ≡ true → is_number c bits ≡ true
divisor_is_number c bits e = (both_true (is_number c bits) (not (is_zero (value_of c bits))) e).0

-- two numbers of which neither is zero
pub divisors_are_usual : (c : Constants) (arithmetic : Arithmetic) (x y : ℕ) → is_divisor c x ≡ true
    → is_divisor c y ≡ true → are_usual c arithmetic x y ≡ true
divisors_are_usual c arithmetic x y p q =
    two_true (is_number c x) (if divides arithmetic then is_divisor c y else is_number c y) (divisor_is_number c x p)
    (either_way (divides arithmetic) (is_divisor c y) (is_number c y) q (divisor_is_number c y q))

pub divisors_are_usual_of_three : (c : Constants) (x y z : ℕ) → is_divisor c x ≡ true → is_divisor c y ≡ true
    → is_divisor c z ≡ true → are_usual_of_three c x y z ≡ true
divisors_are_usual_of_three c x y z p q r =
    two_true (is_number c x) (is_number c y && is_number c z) (divisor_is_number c x p)
    (two_true (is_number c y) (is_number c z) (divisor_is_number c y q) (divisor_is_number c z r))

second_number : (divided : Bool) (c : Constants) (y : ℕ)
    → (if divided then is_divisor c y else is_number c y) ≡ true → is_number c y ≡ true
second_number true c y e = (both_true (is_number c y) (not (is_zero (value_of c y))) e).0
second_number false c y e = e

second_divides : (divided : Bool) (c : Constants) (y : ℕ)
    → (if divided then is_divisor c y else is_number c y) ≡ true → divided ≡ true
    → is_zero (value_of c y) ≡ false
second_divides true c y e some =
    not_true (is_zero (value_of c y)) (both_true (is_number c y) (not (is_zero (value_of c y))) e).1
second_divides false c y e some = absurd (false≢true some)

-- they fit
pub usual_fit : (c : Constants) (arithmetic : Arithmetic) (x y : ℕ) → are_usual c arithmetic x y ≡ true
    → (fits c.bits x && fits c.bits y) ≡ true
usual_fit c arithmetic x y e =
    let both = both_true (is_number c x) (if divides arithmetic then is_divisor c y else is_number c y) e in
    two_true (fits c.bits x) (fits c.bits y) (fits_and_finite c x both.0).0
    (fits_and_finite c y (second_number (divides arithmetic) c y both.1)).0

pub root_fits : (c : Constants) (x : ℕ) → is_root_of c x ≡ true → fits c.bits x ≡ true
root_fits c x e = (fits_and_finite c x (both_true (is_number c x) (not (is_negative (value_of c x))) e).0).0

pub usual_of_two : (c : Constants) (machine : CodedMachine) (arithmetic : Arithmetic) (mode : Round) (x y : ℕ)
    (old answer : Answer) → are_usual c arithmetic x y ≡ true
    → IsKindAnswer (of_format c) mode (PlainOfTwo arithmetic x y) answer
    → IsLeftBy (operation_fault_in c.bits machine (OfTwo arithmetic x y))
    (IsMachineAnswer c machine mode (OfTwo arithmetic x y)) old answer answered
usual_of_two c machine arithmetic mode x y old answer e plain =
    let both = both_true (is_number c x) (if divides arithmetic then is_divisor c y else is_number c y) e in
    let first = fits_and_finite c x both.0 in
    let second = fits_and_finite c y (second_number (divides arithmetic) c y both.1) in
    fitting c.bits machine (OfTwo arithmetic x y) (IsMachineAnswer c machine mode (OfTwo arithmetic x y)) old answer
    answered (two_true (fits c.bits x) (fits c.bits y) first.0 second.0) (
      refl,
      record {
        given = plain.given;
        holds = of_two_finite c machine arithmetic mode (value_of c x) (value_of c y) plain.given first.1 second.1
            (second_divides (divides arithmetic) c y both.1) plain.holds;
        is_written = plain.is_written;
      },
    )

pub usual_of_three : (c : Constants) (machine : CodedMachine) (mode : Round) (x y z : ℕ) (old answer : Answer)
    → (choices machine).has_fused ≡ true → are_usual_of_three c x y z ≡ true
    → IsKindAnswer (of_format c) mode (PlainFusedSum x y z) answer
    → IsLeftBy (operation_fault_in c.bits machine (FusedSum x y z))
    (IsMachineAnswer c machine mode (FusedSum x y z)) old answer answered
usual_of_three c machine mode x y z old answer has e plain =
    let all = both_true (is_number c x) (is_number c y && is_number c z) e in
    let rest = both_true (is_number c y) (is_number c z) all.1 in
    let first = fits_and_finite c x all.0 in
    let second = fits_and_finite c y rest.0 in
    let third = fits_and_finite c z rest.1 in
    fitting c.bits machine (FusedSum x y z) (IsMachineAnswer c machine mode (FusedSum x y z)) old answer answered
    (two_true (fits c.bits x) (fits c.bits y && fits c.bits z) first.0
    (two_true (fits c.bits y) (fits c.bits z) second.0 third.0))
    (answered_if (choices machine).has_fused lacking_operation (IsMachineAnswer c machine mode (FusedSum x y z)) old
    answer has
    (record {
      given = plain.given;
      holds = of_three_finite c machine mode (value_of c x) (value_of c y) (value_of c z) plain.given first.1 second.1
          third.1 plain.holds;
      is_written = plain.is_written;
    }))

pub usual_root : (c : Constants) (machine : CodedMachine) (mode : Round) (x : ℕ) (old answer : Answer)
    → is_root_of c x ≡ true → IsKindAnswer (of_format c) mode (PlainRoot x) answer
    → IsLeftBy (operation_fault_in c.bits machine (SquareRoot x)) (IsMachineAnswer c machine mode (SquareRoot x))
    old answer answered
usual_root c machine mode x old answer e plain =
    let both = both_true (is_number c x) (not (is_negative (value_of c x))) e in
    let number = fits_and_finite c x both.0 in
    fitting c.bits machine (SquareRoot x) (IsMachineAnswer c machine mode (SquareRoot x)) old answer answered number.0 (
      refl,
      record {
        given = plain.given;
        holds = root_of_finite c machine mode (value_of c x) plain.given number.1
            (not_true (is_negative (value_of c x)) both.1) plain.holds;
        is_written = plain.is_written;
      },
    )

pub negative_root : (c : Constants) (machine : CodedMachine) (mode : Round) (x : ℕ) (old answer : Answer)
    (given : StatusAnd Datum) → is_divisor c x ≡ true → is_root_of c x ≡ false
    → Gives (IsGivenDatum (default_nan (format_with c) (choices machine)) invalid_bit) given
    → IsValueWritten (in_format c) given (pos 0) answer
    → IsLeftBy (operation_fault_in c.bits machine (SquareRoot x)) (IsMachineAnswer c machine mode (SquareRoot x))
    old answer answered
negative_root c machine mode x old answer given divisor no_root is_nan written =
    let both = both_true (is_number c x) (not (is_zero (value_of c x))) divisor in
    let number = fits_and_finite c x both.0 in
    fitting c.bits machine (SquareRoot x) (IsMachineAnswer c machine mode (SquareRoot x)) old answer answered number.0 (
      refl,
      record {
        given = given;
        holds = root_of_negative (format_with c) (choices machine) mode (value_of c x) given number.1
            (not_true (is_zero (value_of c x)) both.1)
            (negative_of (is_number c x) (is_negative (value_of c x)) both.0 no_root) is_nan;
        is_written = written;
      },
    )

pub usual_integral : (c : Constants) (machine : CodedMachine) (mode : Round) (x : ℕ) (old answer : Answer)
    → is_number c x ≡ true → IsKindAnswer (of_format c) mode (RoundToIntegral x) answer
    → IsLeftBy (operation_fault_in c.bits machine (IntegralExact x))
    (IsMachineAnswer c machine mode (IntegralExact x)) old answer answered
usual_integral c machine mode x old answer e plain =
    let number = fits_and_finite c x e in
    fitting c.bits machine (IntegralExact x) (IsMachineAnswer c machine mode (IntegralExact x)) old answer answered
    number.0 (
      refl,
      record {
        given = plain.given;
        holds = integral_of_finite c machine mode (value_of c x) plain.given number.1 plain.holds;
        is_written = plain.is_written;
      },
    )

-- ---- known requests

faulted : (fault : Option ℕ) (known : MachineRequest) (old new : Answer) (code : ℕ)
    → IsLeftBy fault (IsMachineCallAnswer known.machine known.format known.mode known.call) old new code
    → IsMachineReply (without fault known) old new code
faulted None known old new code left = left
faulted (Some fault) known old new code left = left

-- what the call of known codes leaves is the reply
pub replied : (kind : Option FlaggedKind) (format : MachineFormat) (mode : Option Round) (round : Round)
    (call : Result MachineCall ℕ) (asked : MachineCall) (machine : Option CodedMachine) (on : CodedMachine)
    (old new : Answer) (code : ℕ) → option_and_then machine_format kind ≡ Some format → mode ≡ Some round
    → call ≡ Ok asked → machine ≡ Some on
    → IsLeftBy (machine_fault on format asked) (IsMachineCallAnswer on format round asked) old new code
    → IsMachineReply (known_machine_call kind mode call machine) old new code
replied None format mode round call asked machine on old new code f m k h left = cc
replied (Some kind) format mode round call asked machine on old new code f m k h left =
    rw (m, k, h, f)
    (faulted (machine_fault on format asked)
    (record { machine = on; format = format; mode = round; call = asked }) old new code left)

pub conversion_known : (kind : Option FlaggedKind) (target : MachineFormat) (x : ℕ)
    → option_and_then machine_format kind ≡ Some target → conversion_call kind x ≡ Ok (Conversion x target)
conversion_known None target x f = cc
conversion_known (Some kind) target x f = rw f refl
