-- Results with fewer digits than the format x87 has, which its unit delivers where the precision control asks for them.
use Rattle.std.specs.Prelude.{◌≡◌, ℕ, ◌+◌, ◌-◌, ◌*◌, ◌^◌, ◌≤◌, Bool, true, if◌then◌else◌, Option, Some, None}
use Rattle.std.specs.Prelude.{MatchOption, IsSomeAnd}
use Rattle.apfloat_model.specs.declared.kinds.NonfiniteBehavior.TheVariants.{IEEE754}
use Rattle.apfloat_model.specs.rounding.Outcome.{Outcome, Yields}
use Rattle.rustc_apfloat.specs.{Constants.infinity_of, Conversions.converted_nan, Datum.Datum, Datum.finite}
use Rattle.rustc_apfloat.specs.{Datum.infinite, Datum.nan, Flags.Gives, Format.Format, Formats.x87_constants}
use Rattle.rustc_apfloat.specs.{Lawful.Constants, Lawful.format_with, declared.Round.Round}
use Rattle.rustc_apfloat.specs.declared.StatusAnd.{StatusAnd}
use Rattle.apfloat_arithmetic.specs.other_formats.Extended.{opposite, seen}
use Rattle.apfloat_arithmetic.specs.other_formats.{FormatOf.sum_of, FormatOf.product_of, FormatOf.quotient_of}
use Rattle.apfloat_arithmetic.specs.other_formats.{FormatOf.fused_sum_of, RootsOf.root_of}
use Rattle.formats_at_run_time.specs.ValueKinds.{value_of}
use Rattle.formats_at_run_time.specs.declared.Arithmetic.{Arithmetic, TheVariants.Sum, TheVariants.Difference}
use Rattle.formats_at_run_time.specs.declared.Arithmetic.TheVariants.{Product, Quotient, NearestRemainder}
use Rattle.formats_at_run_time.specs.declared.Arithmetic.TheVariants.{TruncatedRemainder}
use Rattle.coded_calls.specs.declared.fewer_digits.Precision.{Precision, TheVariants.Single, TheVariants.Double}
use Rattle.coded_calls.specs.declared.machine_call.MachineCall.{MachineCall, TheVariants.Operation}
use Rattle.coded_calls.specs.declared.machine_call.MachineCall.TheVariants.{Conversion}
use Rattle.coded_calls.specs.declared.machine_call.MachineOperation.{MachineOperation, TheVariants.OfTwo}
use Rattle.coded_calls.specs.declared.machine_call.MachineOperation.TheVariants.{FusedSum, SquareRoot}
use Rattle.coded_calls.specs.MachineCalls.{are_usual, are_usual_of_three, is_root_of}

abbrev pub digits : Precision → ℕ
digits Single = 24
digits Double = 53

-- the format with so many digits, and with the exponents of another
abbrev pub with_digits : Format → ℕ → Format
with_digits f count = record f { precision = count; scale = f.scale - (f.precision - count) }

-- the format x87 with the flags of IEEE 754 and fewer digits
abbrev pub narrow_format : Bool → Precision → Format
narrow_format tiny_before precision =
    with_digits (record (format_with x87_constants) { tiny_before_rounding = tiny_before; ieee_flags = true })
    (digits precision)

-- g has the infinities and the exponents of f, and no more digits
pub record IsShorter (g f : Format) : Type 0 where
  pub kind : f.nonfinite ≡ IEEE754
  pub own : g.nonfinite ≡ IEEE754
  pub fewer : g.precision ≤ f.precision
  pub quantum : f.scale ≡ g.scale + (f.precision - g.precision)
  pub exponents : f.span ≡ g.span

-- a datum of such a g in f, which has the same number
abbrev pub widened : Format → Format → Datum → Datum
widened g f (finite negative quanta) = finite negative (quanta * 2 ^ (f.scale - g.scale))
widened g f (infinite negative) = infinity_of f negative
widened g f (nan negative significand) = converted_nan g f negative significand

-- ---- the exact result, in a format g, of an operation whose digits the precision control counts

abbrev pub exact_of_two : Format → Format → Arithmetic → Datum → Datum → Option Outcome
exact_of_two f g Sum x y = Some (sum_of g (seen f g x) (seen f g y))
exact_of_two f g Difference x y = Some (sum_of g (seen f g x) (opposite (seen f g y)))
exact_of_two f g Product x y = Some (product_of g (seen f g x) (seen f g y))
exact_of_two f g Quotient x y = Some (quotient_of g (seen f g x) (seen f g y))
exact_of_two f g NearestRemainder x y = None
exact_of_two f g TruncatedRemainder x y = None

-- of operands of which every machine gives the plain result; other results are not rounded
abbrev pub exact_in : Constants → Format → MachineOperation → Option Outcome
exact_in c g (OfTwo arithmetic x y) =
    if are_usual c arithmetic x y
    then exact_of_two (format_with c) g arithmetic (value_of c x) (value_of c y)
    else None
exact_in c g (SquareRoot x) =
    if is_root_of c x then Some (root_of g (seen (format_with c) g (value_of c x))) else None
exact_in c g operation = None

abbrev pub exact_of : Constants → Format → MachineCall → Option Outcome
exact_of c g (Operation operation) = exact_in c g operation
exact_of c g (Conversion x target) = None

abbrev pub exact_of_three : Constants → Format → ℕ → ℕ → ℕ → Option Outcome
exact_of_three c g x y z =
    let in_g = λ (bits : ℕ). seen (format_with c) g (value_of c bits) in
    if are_usual_of_three c x y z then Some (fused_sum_of g (in_g x) (in_g y) (in_g z)) else None

-- the same, and of fused sums, which the unit of x87 does not have
abbrev pub exact_of_any : Constants → Format → MachineCall → Option Outcome
exact_of_any c g (Operation (FusedSum x y z)) = exact_of_three c g x y z
exact_of_any c g call = exact_of c g call

-- what an exact result yields, if there is one
abbrev pub IsYielded : Format → Round → Option Outcome → Option (StatusAnd Datum) → Type 0
IsYielded g mode exact given =
    MatchOption exact (given ≡ None)
    (λ (outcome : Outcome). IsSomeAnd given (λ (answer : StatusAnd Datum). Gives (Yields g mode outcome) answer))
