-- Results with fewer digits than x87 has: they are numbers of its format, and calls that have them are not refused.
use Rattle.std.proofs.Common.{◌≡◌, ℕ, ◌+◌, ◌-◌, ◌*◌, ◌^◌, ◌<◌, ◌≤◌, lit≤, Bool, true, false, ◌&&◌, Option, Some, None}
use Rattle.std.proofs.Common.{if◌then◌else◌, refl, sym, ap, ◌∙◌, subst, arith}
use Rattle.std.proofs.Math.Nat.{mul-le-mul_right}
use Rattle.std.proofs.lemmas.{Bool.false≢true, Nat.pow-add, Nat.pow_pos, Option.none-some}
use Rattle.std.specs.Prelude.{IsSomeAnd, MatchOption, option_map, pos}
use Rattle.apfloat_model.specs.{arithmetic.Conversions.IsConversion, arithmetic.Conversions.IsExactlyConverted}
use Rattle.apfloat_model.specs.declared.kinds.NonfiniteBehavior.{NonfiniteBehavior}
use Rattle.apfloat_model.specs.formats.{Format.greatest_significand, Format.largest, Members.IsMember}
use Rattle.apfloat_model.specs.rounding.{Outcome.Outcome, Rounding.zero_sign}
use Rattle.round_to_odd.proofs.OddPoints.{moved_on_grid, wider_grid}
use Rattle.rustc_apfloat.specs.{Datum.Datum, Datum.finite, Datum.infinite, Datum.nan, Flags.bits_of, Format.Format}
use Rattle.rustc_apfloat.specs.{Formats.x87_constants, Lawful.format_with, declared.Round.Round}
use Rattle.rustc_apfloat.specs.declared.StatusAnd.{StatusAnd}
use Rattle.formats_at_run_time.specs.Relations.{in_format}
use Rattle.formats_at_run_time.specs.declared.IeeeFormat.{IeeeFormat, TheVariants.Half, TheVariants.Quad}
use Rattle.formats_at_run_time.specs.declared.IeeeFormat.TheVariants.{Single as SingleFormat, BFloat, E5M2}
use Rattle.formats_at_run_time.specs.declared.IeeeFormat.TheVariants.{Double as DoubleFormat, X87}
use Rattle.coded_calls.specs.declared.{data.Answer.Answer, instructions.Control.Control}
use Rattle.coded_calls.specs.declared.instructions.Instruction.{Instruction}
use Rattle.coded_calls.specs.declared.{instructions.Rounding.Rounding, machine_call.CodedMachine.CodedMachine}
use Rattle.coded_calls.specs.declared.fewer_digits.Precision.{Precision, TheVariants.Single, TheVariants.Double}
use Rattle.coded_calls.specs.declared.machine_call.MachineCall.{MachineCall}
use Rattle.coded_calls.specs.declared.machine_call.MachineCall.TheVariants.{Operation, Conversion}
use Rattle.coded_calls.specs.declared.machine_call.MachineOperation.TheVariants.{OfTwo, FusedSum, SquareRoot}
use Rattle.coded_calls.specs.declared.machine_call.MachineOperation.TheVariants.{IntegralExact, Integral, ToUnsigned}
use Rattle.coded_calls.specs.declared.machine_call.MachineOperation.TheVariants.{ToSigned, ToSignedModulo}
use Rattle.coded_calls.specs.declared.machine_call.MachineOperation.TheVariants.{ExtendedProduct, Least, Greatest}
use Rattle.coded_calls.specs.declared.machine_call.MachineOperation.TheVariants.{Range, ToAlternativeHalf}
use Rattle.coded_calls.specs.declared.machine_call.MachineOperation.TheVariants.{FromAlternativeHalf}
use Rattle.coded_calls.specs.{Answers.IsLeftBy, Answers.IsValueWritten, KnownCalls.answered}
use Rattle.coded_calls.specs.MachineCalls.{are_usual, fits, is_root_of, is_tiny_before, machine_fault, wide_operand}
use Rattle.coded_calls.specs.FewerDigits.{IsShorter, IsYielded, exact_of, narrow_format, widened}
use Rattle.coded_calls.specs.Instructions.{ByPrecision, IsFinished, IsMasked, IsShortened, IsWithAllDigits}
use Rattle.coded_calls.specs.Instructions.{narrow_in, precision_in}
use Rattle.coded_calls.proofs.{MadeInstructions.left_by, UsualAnswers.root_fits, UsualAnswers.usual_fit}

-- ---- the formats

pub shorter : (tiny_before : Bool) (precision : Precision)
    → IsShorter (narrow_format tiny_before precision) (format_with x87_constants)
shorter tiny_before Single =
    record { kind = refl; own = refl; fewer = lit≤ tt; quantum = refl; exponents = refl }
shorter tiny_before Double =
    record { kind = refl; own = refl; fewer = lit≤ tt; quantum = refl; exponents = refl }

-- a significand of so many digits, with zeros after it
below_full : (significand whole places top : ℕ) → whole ≡ significand + 1 → 0 < places → top ≡ whole * places
    → significand * places ≤ top - 1
below_full significand whole places top w some t =
    let e : whole * places ≡ (significand + 1) * places = ap (λ (n : ℕ). n * places) w in omega (arith, e, some, t)

scaled_within : (n significand span places top : ℕ) → n ≤ significand * span → significand * places ≤ top
    → n * places ≤ top * span
scaled_within n significand span places top h k =
    let a : n * places ≤ significand * span * places = mul-le-mul_right places h in
    let b : significand * places * span ≤ top * span = mul-le-mul_right span k in omega (arith, a, b)

within : (g f : Format) (n : ℕ) → IsShorter g f → n ≤ largest g → n * 2 ^ (f.scale - g.scale) ≤ largest f
within g f n short h =
    let places : ℕ = f.precision - g.precision in
    let scale : f.scale - g.scale ≡ places = omega (arith, short.quantum) in
    let digits : f.precision ≡ g.precision + places = omega (arith, short.fewer) in
    let top : 2 ^ f.precision ≡ 2 ^ g.precision * 2 ^ places =
    ap (λ (k : ℕ). 2 ^ k) digits ∙ pow-add 2 g.precision places in
    let whole : 2 ^ g.precision ≡ 2 ^ g.precision - 1 + 1 = omega (arith, pow_pos g.precision) in
    let low : n ≤ (2 ^ g.precision - 1) * 2 ^ f.span =
    subst (λ (span : ℕ). n ≤ (2 ^ g.precision - 1) * 2 ^ span) (sym short.exponents)
    (subst (λ (kind : NonfiniteBehavior). n ≤ greatest_significand kind g.precision * 2 ^ g.span) short.own h) in
    subst (λ (k : ℕ). n * 2 ^ k ≤ largest f) (sym scale)
    (subst (λ (kind : NonfiniteBehavior). n * 2 ^ places ≤ greatest_significand kind f.precision * 2 ^ f.span)
    (sym short.kind)
    (scaled_within n (2 ^ g.precision - 1) (2 ^ f.span) (2 ^ places) (2 ^ f.precision - 1) low
    (below_full (2 ^ g.precision - 1) (2 ^ g.precision) (2 ^ places) (2 ^ f.precision) whole (pow_pos places) top)))

-- what conversion makes of a value with fewer digits
pub widened_is : (g f : Format) (mode : Round) (x value : Datum) (status : ℕ) (loses : Bool) → IsShorter g f
    → IsMember g x → IsConversion g f mode x value status loses → IsExactlyConverted g f x value status loses
    → value ≡ widened g f x
widened_is g f mode (nan b s) value status loses short member converted exact = converted.value_is
widened_is g f mode (infinite b) value status loses short member converted exact = converted.value_is
widened_is g f mode (finite b n) value status loses short member converted exact =
    let places : ℕ = f.scale - g.scale in
    let scale : f.scale ≡ places + g.scale = omega (arith, short.quantum) in
    let power : 2 ^ f.scale ≡ 2 ^ places * 2 ^ g.scale =
    ap (λ (k : ℕ). 2 ^ k) scale ∙ pow-add 2 places g.scale in
    let same : n * 2 ^ f.scale ≡ n * (2 ^ places * 2 ^ g.scale) = ap (λ (k : ℕ). n * k) power in
    (exact (n * 2 ^ places) (omega (arith, same)) (record {
      on_grid = wider_grid g.precision f.precision (n * 2 ^ places) short.fewer
          (moved_on_grid g.precision n places member.on_grid);
      within = within g f n short member.within;
      zero_has = λ _. sym (ap (λ (kind : NonfiniteBehavior). zero_sign kind b) short.kind);
    })).value_is

-- ---- what an exact result yields

abbrev IsNothing : Option Answer → Type 0
IsNothing result = result ≡ None

pub shortened_none : (g : Format) (rounding : Rounding) (control : Control) (exact : Option Outcome)
    → IsYielded g rounding.round exact None
    → MatchOption exact (IsNothing None) (λ e. IsSomeAnd None (IsShortened g rounding control e))
shortened_none g rounding control None h = refl
shortened_none g rounding control (Some e) h = absurd h

pub shortened_some : (g : Format) (rounding : Rounding) (control : Control) (exact : Option Outcome)
    (plain narrow given : StatusAnd Datum) (answer : Answer) → IsYielded g rounding.round exact (Some plain)
    → IsFinished g rounding control plain narrow → given.value ≡ widened g (format_with x87_constants) narrow.value
    → bits_of given.status ≡ bits_of narrow.status → IsValueWritten (in_format x87_constants) given (pos 0) answer
    → MatchOption exact (Some answer ≡ None) (λ e. IsSomeAnd (Some answer) (IsShortened g rounding control e))
shortened_some g rounding control None plain narrow given answer h finished value status written =
    absurd (none-some plain (sym h))
shortened_some g rounding control (Some e) plain narrow given answer h finished value status written =
    record {
      plain = plain;
      is_plain = h;
      narrow = narrow;
      is_narrow = finished;
      is_value = record {
        given = given;
        holds = record { value_is = value; status_is = status };
        is_written = written;
      };
    }

-- ---- what is left

match_onto : {A : Type 0} (o : Option A) (P Q : Type 0) (F G : A → Type 0) → (P → Q) → ((x : A) → F x → G x)
    → MatchOption o P F → MatchOption o Q G
match_onto None P Q F G p f h = p h
match_onto (Some x) P Q F G p f h = f x h

by_precision_onto : (it : Instruction) (call : MachineCall) (P Q : Type 0) (F G : Format → Outcome → Type 0)
    → (P → Q) → ((g : Format) (exact : Outcome) → F g exact → G g exact) → ByPrecision it call P F
    → ByPrecision it call Q G
by_precision_onto it call P Q F G p f h =
    match_onto (narrow_in it) P Q _ _ p
    (λ (g : Format). match_onto (exact_of x87_constants g call) P Q (F g) (G g) p (f g)) h

tested : (test : Bool) (o : Option Outcome) (F : Outcome → Type 0) → MatchOption (if test then o else None) ⊥ F
    → test ≡ true
tested true o F h = refl
tested false o F h = absurd h

fitting_none : (fitting : Bool) → fitting ≡ true → (if fitting then None else Some wide_operand) ≡ None
fitting_none true e = refl
fitting_none false e = absurd (false≢true e)

-- a call that is rounded to fewer digits has operands of x87, and no fault
exact_fits : (machine : CodedMachine) (tiny : Option Bool) (g : Format) (call : MachineCall) (F : Outcome → Type 0)
    → MatchOption (exact_of x87_constants g call) ⊥ F
    → machine_fault machine (record { format = X87; tiny_before = tiny }) call ≡ None
exact_fits machine tiny g (Operation (OfTwo arithmetic x y)) F h =
    fitting_none (fits x87_constants.bits x && fits x87_constants.bits y)
    (usual_fit x87_constants arithmetic x y (tested (are_usual x87_constants arithmetic x y) _ F h))
exact_fits machine tiny g (Operation (SquareRoot x)) F h =
    fitting_none (fits x87_constants.bits x) (root_fits x87_constants x (tested (is_root_of x87_constants x) _ F h))
exact_fits machine tiny g (Operation (FusedSum x y z)) F h = absurd h
exact_fits machine tiny g (Operation (IntegralExact x)) F h = absurd h
exact_fits machine tiny g (Operation (Integral x)) F h = absurd h
exact_fits machine tiny g (Operation (ToUnsigned x width)) F h = absurd h
exact_fits machine tiny g (Operation (ToSigned x width)) F h = absurd h
exact_fits machine tiny g (Operation (ToSignedModulo x width)) F h = absurd h
exact_fits machine tiny g (Operation (ExtendedProduct x y)) F h = absurd h
exact_fits machine tiny g (Operation (Range rule x y)) F h = absurd h
exact_fits machine tiny g (Operation (ToAlternativeHalf x)) F h = absurd h
exact_fits machine tiny g (Operation (FromAlternativeHalf x)) F h = absurd h
exact_fits machine tiny g (Operation (Least rule x y)) F h = absurd h
exact_fits machine tiny g (Operation (Greatest rule x y)) F h = absurd h
exact_fits machine tiny g (Conversion x target) F h = absurd h

no_fault : (machine : CodedMachine) (format : IeeeFormat) (tiny : Option Bool) (asked : Option Precision)
    (narrow : Precision → Format) (call : MachineCall) (F : Format → Outcome → Type 0)
    → MatchOption (option_map narrow (precision_in format asked)) ⊥
    (λ (g : Format). MatchOption (exact_of x87_constants g call) ⊥ (F g))
    → machine_fault machine (record { format = format; tiny_before = tiny }) call ≡ None
no_fault machine X87 tiny (Some precision) narrow call F h = exact_fits machine tiny (narrow precision) call _ h
no_fault machine X87 tiny None narrow call F h = absurd h
no_fault machine Half tiny asked narrow call F h = absurd h
no_fault machine SingleFormat tiny asked narrow call F h = absurd h
no_fault machine DoubleFormat tiny asked narrow call F h = absurd h
no_fault machine Quad tiny asked narrow call F h = absurd h
no_fault machine BFloat tiny asked narrow call F h = absurd h
no_fault machine E5M2 tiny asked narrow call F h = absurd h

-- of an option that is there, what is said of it
fewer_some : (it : Instruction) (call : MachineCall) (rounding : Rounding) (short : Answer)
    → ByPrecision it call (Some short ≡ None) (λ g exact. IsShortened g rounding it.control exact short)
    → ByPrecision it call ⊥ (λ g exact. IsShortened g rounding it.control exact short)
fewer_some it call rounding short h =
    by_precision_onto it call (Some short ≡ None) ⊥ (λ g exact. IsShortened g rounding it.control exact short)
    (λ g exact. IsShortened g rounding it.control exact short) (λ e. none-some short (sym e)) (λ g exact k. k) h

-- a result with fewer digits is left
pub fewer_left : (it : Instruction) (call : MachineCall) (rounding : Rounding) (old short : Answer)
    → ByPrecision it call (Some short ≡ None) (λ g exact. IsShortened g rounding it.control exact short)
    → IsLeftBy (machine_fault it.machine it.format call) (IsMasked it call rounding) old short answered
fewer_left it call rounding old short h =
    let has = fewer_some it call rounding short h in
    left_by (machine_fault it.machine it.format call) (IsMasked it call rounding) old short
    (no_fault it.machine it.format.format it.format.tiny_before it.control.precision
    (narrow_format (is_tiny_before it.machine it.format.tiny_before)) call
    (λ g exact. IsShortened g rounding it.control exact short) has)
    (by_precision_onto it call ⊥ (IsWithAllDigits it call rounding short)
    (λ g exact. IsShortened g rounding it.control exact short)
    (λ g exact. IsShortened g rounding it.control exact short) (λ none. absurd none) (λ g exact k. k) has)

left_onto : (fault : Option ℕ) (Holds Says : Answer → Type 0) (old new : Answer) (code : ℕ)
    → ((answer : Answer) → Holds answer → Says answer) → IsLeftBy fault Holds old new code
    → IsLeftBy fault Says old new code
left_onto None Holds Says old new code says left = (left.0, says new left.1)
left_onto (Some fault) Holds Says old new code says left = left

-- without one, all digits are delivered
pub all_left : (it : Instruction) (call : MachineCall) (rounding : Rounding) (old new : Answer) (code : ℕ)
    → ByPrecision it call (IsNothing None) (λ g exact. ⊥)
    → IsLeftBy (machine_fault it.machine it.format call) (IsWithAllDigits it call rounding) old new code
    → IsLeftBy (machine_fault it.machine it.format call) (IsMasked it call rounding) old new code
all_left it call rounding old new code h left =
    left_onto (machine_fault it.machine it.format call) (IsWithAllDigits it call rounding)
    (IsMasked it call rounding) old new code
    (λ answer holds. by_precision_onto it call (IsNothing None) (IsWithAllDigits it call rounding answer) (λ g exact. ⊥)
    (λ g exact. IsShortened g rounding it.control exact answer) (λ _. holds) (λ g exact none. absurd none) h)
    left
