-- An instruction leaves one code and one result.
use Rattle.std.proofs.Common.{◌≡◌, ℕ, Bool, true, false, not, ◌&&◌, ◌==◌, pos, Option, None, Some, refl, sym, ap, ◌∙◌}
use Rattle.std.proofs.Common.{subst}
use Rattle.std.specs.{Bool.MatchBool, Prelude.Result, Prelude.Ok, Prelude.Err, Prelude.eqb, Prelude.◌||◌, Prelude.◌+◌}
use Rattle.std.specs.Prelude.{◌%◌, ◌^◌, if◌then◌else◌, MatchOption}
use Rattle.rustc_apfloat.specs.declared.{Round.TheVariants.TowardZero, StatusAnd.StatusAnd}
use Rattle.rustc_apfloat.specs.{Classes.is_negative, Datum.Datum, Datum.finite, Datum.infinite, Datum.nan}
use Rattle.rustc_apfloat.specs.{Flags.bits_of, Format.Format, Format.largest, Layout.IsEncodedBy, Lawful.format_with}
use Rattle.rustc_apfloat.specs.{Flags.Gives, Formats.x87_constants, Lawful.Constants, Lawful.layout_with}
use Rattle.apfloat_model.proofs.{Determined.gives_once, Determined.same_answer, Once.answer_once}
use Rattle.apfloat_model.proofs.rounding.Neighbours.{above_unique}
use Rattle.apfloat_model.proofs.Outcomes.{yields_once}
use Rattle.apfloat_model.specs.rounding.{Answer.IsAnswer as IsGiven, Outcome.Outcome, Outcome.Yields}
use Rattle.apfloat_model.specs.rounding.Rounding.{inexact_bit}
use Rattle.round_to_odd.specs.Odd.{IsAnswerMadeOdd, IsMadeOdd, has_flag, is_odd_below}
use Rattle.apfloat_machines.specs.{declared.flushing.Flush.Flush, Flushing.without_denormal, Wrapping.IsWrapped}
use Rattle.apfloat_machines.proofs.WrappedAnswers.{wrapped_once}
use Rattle.formats_at_run_time.specs.{FlaggedKinds.format_of_ieee, Relations.in_format, ValueKinds.value_of}
use Rattle.formats_at_run_time.specs.declared.BuiltInFormat.TheVariants.{X87}
use Rattle.formats_at_run_time.proofs.FormatLaws.{built_in_law}
use Rattle.coded_calls.specs.declared.{data.Answer.Answer, machine_call.MachineCall.MachineCall}
use Rattle.coded_calls.specs.declared.{machine_call.MachineFormat.MachineFormat, instructions.Control.Control}
use Rattle.coded_calls.specs.declared.instructions.{Instruction.Instruction, Operands.Operands, Rounding.Rounding}
use Rattle.coded_calls.specs.declared.instructions.ReadOperands.{ReadOperands}
use Rattle.coded_calls.specs.{Answers.IsLeftBy, Answers.IsValue, Answers.whole, MachineCalls.machine_call}
use Rattle.coded_calls.specs.{MachineCalls.machine_fault, OneReply.IsInstructionReplyOnce, OneReply.SameAnswer}
use Rattle.coded_calls.specs.FewerDigits.{exact_of, exact_of_any, widened}
use Rattle.coded_calls.specs.Instructions.{AreRead, IsCalled, IsDelivered, IsFinished, IsFinishedBy, IsFlushedBy}
use Rattle.coded_calls.specs.Instructions.{IsInstructionAnswer, IsRoundedUp, IsShortened, IsTaken, IsWithAllDigits}
use Rattle.coded_calls.specs.Instructions.{constants_for, finishes, has_bit, is_denormal_in, mode_by, narrow_in, notes}
use Rattle.coded_calls.specs.Instructions.{IsMasked, IsTold, IsUnmasked, IsWrappedIn, are_values, no_operands}
use Rattle.coded_calls.specs.Instructions.{result_format, toward_zero, whole_operand, wide_format}
use Rattle.coded_calls.proofs.{AugmentedOnce.encoding_once, ExportsOnce.OnceAnswer, ExportsOnce.unchanged}
use Rattle.coded_calls.proofs.{IeeeOnce.in_format_once, MachineOnce.machine_call_once}

either_once : {A : Type 0} (test : Bool) (Says Tells : A → Type 0) (a b : A)
    → (Says a → Says b → a ≡ b) → (Tells a → Tells b → a ≡ b)
    → MatchBool test (Says a) (Tells a) → MatchBool test (Says b) (Tells b) → a ≡ b
either_once true Says Tells a b says tells h k = says h k
either_once false Says Tells a b says tells h k = tells h k

-- ---- operands

taken_once : (m : MachineFormat) (control : Control) (bits a b : ℕ) → IsTaken (constants_for m) control bits a
    → IsTaken (constants_for m) control bits b → a ≡ b
taken_once m control bits a b h k =
    let c = constants_for m in
    let x = without_denormal (format_with c) (value_of c bits) in
    either_once (control.denormals_are_zeros && is_denormal_in c bits)
    (λ (t : ℕ). IsEncodedBy (format_with c) (layout_with c) t x) (λ (t : ℕ). t ≡ bits) a b
    (λ p q. encoding_once (format_of_ieee m.format) x x a b refl p q) (λ p q. p ∙ sym q) h k

read_once : (m : MachineFormat) (control : Control) (of : Operands) (a b : ReadOperands)
    → AreRead (constants_for m) control of a → AreRead (constants_for m) control of b → a ≡ b
read_once m control of a b h k =
    ap
    (λ (n : ℕ). record { taken = record { x = n; y = a.taken.y; z = a.taken.z }; has_denormal = a.has_denormal })
    (taken_once m control of.x a.taken.x b.taken.x h.x_is k.x_is)
    ∙ ap
    (λ (n : ℕ). record { taken = record { x = b.taken.x; y = n; z = a.taken.z }; has_denormal = a.has_denormal })
    (taken_once m control of.y a.taken.y b.taken.y h.y_is k.y_is)
    ∙ ap
    (λ (n : ℕ). record { taken = record { x = b.taken.x; y = b.taken.y; z = n }; has_denormal = a.has_denormal })
    (taken_once m control of.z a.taken.z b.taken.z h.z_is k.z_is)
    ∙ ap (λ (d : Bool). record { taken = b.taken; has_denormal = d }) (h.denormal_is ∙ sym k.denormal_is)

-- ---- what becomes of a result

made_odd_once : (f : Format) (negative : Bool) (x a b : Datum) → IsMadeOdd f negative x a → IsMadeOdd f negative x b
    → a ≡ b
made_odd_once f negative (finite s n) a b h k =
    let same : h.above ≡ k.above = above_unique f.precision h.above k.above (n + 1) 1 h.is_above k.is_above in
    h.value_is
    ∙ ap (λ (above : ℕ). if is_odd_below n above || eqb n (largest f) then finite s n else finite negative above) same
    ∙ sym k.value_is
made_odd_once f negative (infinite s) a b h k = h ∙ sym k
made_odd_once f negative (nan s t) a b h k = h ∙ sym k

answer_made_odd_once : (f : Format) (negative : Bool) (answer a b : StatusAnd Datum)
    → IsAnswerMadeOdd f negative answer a → IsAnswerMadeOdd f negative answer b → a ≡ b
answer_made_odd_once f negative answer a b h k =
    same_answer a b
    (either_once (has_flag (bits_of answer.status) inexact_bit) (IsMadeOdd f negative answer.value)
    (λ (x : Datum). x ≡ answer.value) a.value b.value
    (λ p q. made_odd_once f negative answer.value a.value b.value p q) (λ p q. p ∙ sym q) h.value_is k.value_is)
    (h.status_is ∙ sym k.status_is)

flushed_once : (f : Format) (flush : Option Flush) (given a b : StatusAnd Datum) → IsFlushedBy f flush given a
    → IsFlushedBy f flush given b → a ≡ b
flushed_once f None given a b h k = h ∙ sym k
flushed_once f (Some flush) given a b h k = gives_once _ (answer_once _ _) a b h k

finished_once : (f : Format) (rounding : Rounding) (control : Control) (plain a b : StatusAnd Datum)
    → IsFinished f rounding control plain a → IsFinished f rounding control plain b → a ≡ b
finished_once f rounding control plain a b h k =
    let same = either_once rounding.to_odd (IsAnswerMadeOdd f (is_negative plain.value) plain)
    (λ (x : StatusAnd Datum). x ≡ plain) h.rounded k.rounded
    (λ p q. answer_made_odd_once f (is_negative plain.value) plain h.rounded k.rounded p q) (λ p q. p ∙ sym q)
    h.is_rounded k.is_rounded in
    flushed_once f control.flush k.rounded a b
    (subst (λ (r : StatusAnd Datum). IsFlushedBy f control.flush r a) same h.is_flushed) k.is_flushed

told_once : (c : Constants) (first second : Answer) (plain other : StatusAnd Datum) → SameAnswer first second
    → IsTold c first plain → IsTold c second other → plain ≡ other
told_once c first second plain other same h k =
    same_answer plain other
    (h.value_is ∙ ap (λ (n : ℕ). value_of c n) same.bits ∙ sym k.value_is)
    (h.status_is ∙ ap (λ (n : ℕ). n % 2 ^ 8) same.status ∙ sym k.status_is)

same_as : (first second a b : Answer) → SameAnswer first second → a ≡ first → b ≡ second → SameAnswer a b
same_as first second a b same h k =
    subst (λ (x : Answer). SameAnswer x b) (sym h) (subst (λ (y : Answer). SameAnswer first y) (sym k) same)

finished_by_once : (m : MachineFormat) (rounding : Rounding) (control : Control) (first second a b : Answer)
    → SameAnswer first second → IsFinishedBy (constants_for m) rounding control first a
    → IsFinishedBy (constants_for m) rounding control second b → SameAnswer a b
finished_by_once m rounding control first second a b same h k =
    let c = constants_for m in
    let Says = IsFinished (format_with c) rounding control in
    let plain = told_once c first second h.plain k.plain same h.is_told k.is_told in
    in_format_once c (built_in_law (format_of_ieee m.format)) TowardZero (Says k.plain)
    (finished_once (format_with c) rounding control k.plain) a b
    (subst (λ (p : StatusAnd Datum). IsValue (in_format c) (Says p) a) plain h.is_value) k.is_value

either_same : (test : Bool) (m : MachineFormat) (rounding : Rounding) (control : Control)
    (first second a b : Answer) → SameAnswer first second
    → MatchBool test (IsFinishedBy (constants_for m) rounding control first a) (a ≡ first)
    → MatchBool test (IsFinishedBy (constants_for m) rounding control second b) (b ≡ second) → SameAnswer a b
either_same true m rounding control first second a b same h k =
    finished_by_once m rounding control first second a b same h k
either_same false m rounding control first second a b same h k = same_as first second a b same h k

with_all_digits_once : (it : Instruction) (call : MachineCall) (rounding : Rounding)
    → OnceAnswer (IsWithAllDigits it call rounding)
with_all_digits_once it call rounding a b h k =
    let mode = mode_by (constants_for it.format) rounding (whole_operand call) in
    either_same (finishes it.control rounding call) (result_format it.format call) rounding it.control h.given k.given
    a b (machine_call_once it.machine it.format mode call h.given k.given h.is_given k.is_given) h.is_finished
    k.is_finished

shortened_once : (g : Format) (rounding : Rounding) (control : Control) (exact : Outcome)
    → OnceAnswer (IsShortened g rounding control exact)
shortened_once g rounding control exact a b h k =
    let Says = λ (n : StatusAnd Datum) (given : StatusAnd Datum).
    Gives (IsGiven (widened g (format_with x87_constants) n.value) (bits_of n.status)) given in
    let plain = gives_once (Yields g rounding.round exact) (yields_once g rounding.round exact) h.plain k.plain
    h.is_plain k.is_plain in
    let narrow = finished_once g rounding control k.plain h.narrow k.narrow
    (subst (λ (p : StatusAnd Datum). IsFinished g rounding control p h.narrow) plain h.is_narrow) k.is_narrow in
    in_format_once x87_constants (built_in_law X87) TowardZero (Says k.narrow) (gives_once _ (answer_once _ _)) a b
    (subst (λ (n : StatusAnd Datum). IsValue (in_format x87_constants) (Says n) a) narrow h.is_value) k.is_value

option_once : {A : Type 0} (o : Option A) (Without : Answer → Type 0) (With : A → Answer → Type 0)
    → OnceAnswer Without → ((x : A) → OnceAnswer (With x))
    → OnceAnswer (λ answer. MatchOption o (Without answer) (λ x. With x answer))
option_once None Without With p f = p
option_once (Some x) Without With p f = f x

masked_once : (it : Instruction) (call : MachineCall) (rounding : Rounding) → OnceAnswer (IsMasked it call rounding)
masked_once it call rounding =
    let all = with_all_digits_once it call rounding in
    option_once (narrow_in it) (IsWithAllDigits it call rounding)
    (λ g answer. MatchOption (exact_of x87_constants g call) (IsWithAllDigits it call rounding answer)
    (λ exact. IsShortened g rounding it.control exact answer))
    all
    (λ g. option_once (exact_of x87_constants g call) (IsWithAllDigits it call rounding)
    (λ exact answer. IsShortened g rounding it.control exact answer) all (shortened_once g rounding it.control))

-- ---- unmasked overflow and underflow

wrapped_in_once : (m : MachineFormat) (g : Format) (rounding : Rounding) (control : Control) (exact : Outcome)
    (first second a b : Answer) → SameAnswer first second
    → IsWrappedIn (constants_for m) g rounding control first exact a
    → IsWrappedIn (constants_for m) g rounding control second exact b → SameAnswer a b
wrapped_in_once m g rounding control exact first second a b same h k =
    let c = constants_for m in
    let f = format_with c in
    let Says = λ (plain wide : StatusAnd Datum). Gives (IsWrapped g f plain wide) in
    let plain = told_once c first second h.plain k.plain same h.is_told k.is_told in
    let rounded = gives_once (Yields g rounding.round exact) (yields_once g rounding.round exact) h.rounded k.rounded
    h.is_rounded k.is_rounded in
    let wide = finished_once g rounding control k.rounded h.wide k.wide
    (subst (λ (r : StatusAnd Datum). IsFinished g rounding control r h.wide) rounded h.is_wide) k.is_wide in
    in_format_once c (built_in_law (format_of_ieee m.format)) TowardZero (Says k.plain k.wide)
    (wrapped_once g f k.plain k.wide) a b
    (subst (λ (p : StatusAnd Datum). IsValue (in_format c) (Says p k.wide) a) plain
    (subst (λ (w : StatusAnd Datum). IsValue (in_format c) (Says h.plain w) a) wide h.is_value))
    k.is_value

wrapped_by_once : (m : MachineFormat) (g : Format) (rounding : Rounding) (control : Control) (exact : Option Outcome)
    (first second a b : Answer) → SameAnswer first second
    → MatchOption exact (a ≡ first) (λ e. IsWrappedIn (constants_for m) g rounding control first e a)
    → MatchOption exact (b ≡ second) (λ e. IsWrappedIn (constants_for m) g rounding control second e b)
    → SameAnswer a b
wrapped_by_once m g rounding control None first second a b same h k = same_as first second a b same h k
wrapped_by_once m g rounding control (Some e) first second a b same h k =
    wrapped_in_once m g rounding control e first second a b same h k

delivered_by_once : (unmasked : Bool) (it : Instruction) (call : MachineCall) (rounding : Rounding)
    → OnceAnswer (λ answer. MatchBool unmasked (IsUnmasked it call rounding answer) (IsMasked it call rounding answer))
delivered_by_once true it call rounding a b h k =
    wrapped_by_once it.format (wide_format it) rounding it.control
    (exact_of_any (constants_for it.format) (wide_format it) call) h.masked k.masked a b
    (masked_once it call rounding h.masked k.masked h.is_masked k.is_masked) h.is_wrapped k.is_wrapped
delivered_by_once false it call rounding a b h k = masked_once it call rounding a b h k

delivered_once : (it : Instruction) (call : MachineCall) (rounding : Rounding)
    → OnceAnswer (IsDelivered it call rounding)
delivered_once it call rounding = delivered_by_once it.control.unmasked it call rounding

-- ---- what else is told

-- whether an answer was rounded up is decided by it and by that toward zero
up_once : (test : Bool) (IsToward : Answer → Type 0) → OnceAnswer IsToward → (a b : Answer) (up other : Bool)
    → SameAnswer a b → MatchBool test (IsRoundedUp IsToward a up) (up ≡ false)
    → MatchBool test (IsRoundedUp IsToward b other) (other ≡ false) → up ≡ other
up_once true IsToward one a b up other same h k =
    let toward = one h.toward k.toward h.is_toward k.is_toward in
    h.up_is
    ∙ ap (λ (n : ℕ). not (n == whole h.toward.bits)) same.bits
    ∙ ap (λ (n : ℕ). not (whole b.bits == n)) toward.bits ∙ sym k.up_is
up_once false IsToward one a b up other same h k = h ∙ sym k

pub instruction_answer_once : (it : Instruction) (call : MachineCall) (denormal : Bool)
    → OnceAnswer (IsInstructionAnswer it call denormal)
instruction_answer_once it call denormal a b h k =
    let same = delivered_once it call it.rounding h.plain k.plain h.is_plain k.is_plain in
    let IsToward = IsDelivered it call toward_zero in
    let up = up_once (it.control.tells_rounded_up && has_bit k.plain.status 16) IsToward
    (delivered_once it call toward_zero) h.plain k.plain h.up k.up same
    (subst
    (λ (s : ℕ). MatchBool (it.control.tells_rounded_up && has_bit s 16) (IsRoundedUp IsToward h.plain h.up)
    (h.up ≡ false))
    same.status h.is_up)
    k.is_up in
    record {
      bits = ap (λ (x : Answer). whole x.bits) h.answer_is ∙ same.bits
          ∙ sym (ap (λ (x : Answer). whole x.bits) k.answer_is);
      status = ap (λ (x : Answer). x.status) h.answer_is ∙ same.status
          ∙ sym (ap (λ (x : Answer). x.status) k.answer_is);
      number = ap (λ (x : Answer). x.number) h.answer_is
          ∙ ap (λ (s : ℕ). pos (notes it.control denormal s h.up)) same.status
          ∙ ap (λ (u : Bool). pos (notes it.control denormal k.plain.status u)) up
          ∙ sym (ap (λ (x : Answer). x.number) k.answer_is);
    }

-- ---- replies

left_once : (fault : Option ℕ) (Holds : Answer → Type 0) → OnceAnswer Holds → (old a b : Answer) (code other : ℕ)
    → IsLeftBy fault Holds old a code → IsLeftBy fault Holds old b other → (code ≡ other) × SameAnswer a b
left_once None Holds one old a b code other h k = (h.0 ∙ sym k.0, one a b h.1 k.1)
left_once (Some fault) Holds one old a b code other h k = (h.0 ∙ sym k.0, unchanged old a b h.1 k.1)

called_once : (it : Instruction) (call : Result MachineCall ℕ) (denormal : Bool) (old a b : Answer) (code other : ℕ)
    → IsCalled it call denormal old a code → IsCalled it call denormal old b other
    → (code ≡ other) × SameAnswer a b
called_once it (Err error) denormal old a b code other h k = (h.0 ∙ sym k.0, unchanged old a b h.1 k.1)
called_once it (Ok call) denormal old a b code other h k =
    left_once (machine_fault it.machine it.format call) _ (instruction_answer_once it call denormal) old a b code
    other h k

-- two replies to the same arguments are the same
pub instruction_reply_once : IsInstructionReplyOnce
instruction_reply_once (Err error) operation to of old a b code other h k =
    (h.0 ∙ sym k.0, unchanged old a b h.1 k.1)
instruction_reply_once (Ok it) operation to of old a b code other h k =
    let call = λ (read : ReadOperands).
    machine_call operation to (if are_values operation then read.taken.x else of.x) read.taken.y read.taken.z in
    called_once it (call k.read) k.read.has_denormal old a b code other
    (subst (λ (read : ReadOperands). IsCalled it (call read) read.has_denormal old a code)
    (read_once it.format it.control (if are_values operation then of else no_operands) h.read k.read h.are_read
    k.are_read) h.is_called)
    k.is_called
