-- Exact sums of arrays, rounded once.
use Rattle.std.specs.Prelude.{◌≡◌, ℕ, zero, suc, ◌+◌, ◌/◌, ◌%◌, ◌==◌, Bool, true, false, ◌&&◌, if◌then◌else◌, List, []}
use Rattle.std.specs.Prelude.{◌∷◌, length, Option, Some, None, ok_or, Result, Ok, Err, not, pos}
use Rattle.std.specs.Borrow.{Bor}
use Rattle.rustc_apfloat.specs.{declared.Round.Round, declared.StatusAnd.StatusAnd, Datum.Datum, Flags.Gives}
use Rattle.rustc_apfloat.specs.Format.{Format}
use Rattle.rustc_apfloat.specs.Lawful.{Constants, format_with}
use Rattle.apfloat_model.specs.{rounding.Outcome.Outcome, arithmetic.Products.product}
use Rattle.exact_reductions.specs.Reductions.{IsDot, IsSumOf, IsSumOfMagnitudes, magnitude_of, value_term}
use Rattle.exact_reductions.specs.{BlockDots.IsDotCall, BlockDots.tensor_of, declared.BlockVector.BlockVector}
use Rattle.exact_reductions.specs.declared.{BlockScaling.BlockScaling, BlockScaling.TheVariants.Mx}
use Rattle.exact_reductions.specs.declared.{BlockScaling.TheVariants.Nvfp4, DotError.DotError}
use Rattle.exact_reductions.specs.declared.DotError.TheVariants.{LengthsDiffer, NotBlocks}
use Rattle.small_formats.specs.blocks.Nvfp4.{is_positive}
use Rattle.formats_at_run_time.specs.{FlaggedKinds.flagged_constants, Relations.in_format, ValueKinds.value_of}
use Rattle.formats_at_run_time.specs.declared.{FlaggedFormat.FlaggedFormat, FlaggedKind.FlaggedKind}
use Rattle.formats_at_run_time.specs.declared.FlaggedKind.TheVariants.{OfFormat, Pairs}
use Rattle.apfloat_arrays.specs.{Blocks.value_at, Bytes.number_of}
use Rattle.coded_calls.specs.{declared.data.Answer.Answer, Answers.IsValue, Answers.IsValueWritten}
use Rattle.coded_calls.specs.KnownCalls.{◌>>=◌, answered, no_such_operation, unknown_format, unknown_mode, wrong_length}
use Rattle.coded_calls.specs.{MachineCalls.wide_operand, OneReply.SameAnswer}
use Rattle.arrays_for_c.specs.declared.reductions.{KnownReduction.KnownReduction, Reduction.Reduction}
use Rattle.arrays_for_c.specs.declared.reductions.Reduction.TheVariants.{Sum, Magnitudes, Products}
use Rattle.arrays_for_c.specs.{ArrayCalls.bytes_in, ArrayCalls.if_fitting, Blocks.element_coded}

-- ---- what a call asks for

-- every format but pairs of doubles
abbrev pub reducible_format : FlaggedKind → Option FlaggedFormat
reducible_format Pairs = None
reducible_format (OfFormat format) = Some format

-- an integral number of values, and as many bytes in a second array
abbrev pub sums_fit : ℕ → ℕ → ℕ → Bool
sums_fit width first second = (first % width == 0) && (second == first)

abbrev pub fitting_sum : Round → ℕ → ℕ → FlaggedFormat → Result KnownReduction ℕ
fitting_sum mode first second found =
    if_fitting (sums_fit (bytes_in (OfFormat found)) first second) (record { format = found; round = mode })

-- The faults in their order: the format, the mode, a format without exact sums, and the lengths.
abbrev pub known_reduction : Option FlaggedKind → Option Round → ℕ → ℕ → Result KnownReduction ℕ
known_reduction kind mode first second =
    ok_or kind unknown_format >>= λ known. ok_or mode unknown_mode >>= λ rounding.
    ok_or (reducible_format known) no_such_operation >>= fitting_sum rounding first second

-- ---- sums

-- the values of so many places from an index on, each of which takes `width` bytes
abbrev pub values_from : Constants → ℕ → List ℕ → ℕ → ℕ → List Datum
values_from c width bytes index zero = []
values_from c width bytes index (suc count) =
    value_of c (number_of (value_at width index bytes)) ∷ values_from c width bytes (index + 1) count

-- what is added of two values, given by their bits
abbrev pub term_of : Reduction → Constants → ℕ → ℕ → Outcome
term_of Sum c x y = value_term (format_with c) (value_of c x)
term_of Magnitudes c x y = value_term (format_with c) (magnitude_of (format_with c) (value_of c x))
term_of Products c x y = product (format_with c) (value_of c x) (value_of c y)

abbrev pub IsReductionOf : Reduction → Format → Round → List Datum → List Datum → Datum → ℕ → Type 0
IsReductionOf Sum f mode xs ys value status = IsSumOf f mode xs value status
IsReductionOf Magnitudes f mode xs ys value status = IsSumOfMagnitudes f mode xs value status
IsReductionOf Products f mode xs ys value status = IsDot f mode xs ys value status

abbrev pub IsReducedIn : Constants → Reduction → Round → List Datum → List Datum → Answer → Type 0
IsReducedIn c reduction mode xs ys answer =
    IsValue (in_format c) (λ given. Gives (IsReductionOf reduction (format_with c) mode xs ys) given) answer

-- the sum of the values of an array, or of the products with those of a second one, with its flags
abbrev pub IsReducedArray : Reduction → KnownReduction → ℕ → List ℕ → List ℕ → Answer → Type 0
IsReducedArray reduction known width xs ys answer =
    IsReducedIn (flagged_constants known.format) reduction known.round
    (values_from (flagged_constants known.format) width xs 0 (length xs / width))
    (values_from (flagged_constants known.format) width ys 0 (length xs / width)) answer

abbrev pub IsReducedCall : Reduction → Result KnownReduction ℕ → List ℕ → List ℕ → Answer → Answer
    → ℕ → Type 0
IsReducedCall reduction (Err error) xs ys old new code = (code ≡ error) × (new ≡ old)
IsReducedCall reduction (Ok known) xs ys old new code =
    (code ≡ answered) × IsReducedArray reduction known (bytes_in (OfFormat known.format)) xs ys new

abbrev pub IsReducedCallOnce : Type 0
IsReducedCallOnce =
    (reduction : Reduction) (known : Result KnownReduction ℕ) (xs ys : List ℕ) (old first second : Answer)
    (code other : ℕ) → IsReducedCall reduction known xs ys old first code
    → IsReducedCall reduction known xs ys old second other → (code ≡ other) × SameAnswer first second

-- ---- dot products of vectors in blocks

-- the code 64 is that of NVFP4
abbrev pub scaling_coded : ℕ → ℕ → Result BlockScaling ℕ
scaling_coded element tensor =
    if element == 64 then Ok (Nvfp4 tensor)
    else (ok_or (element_coded element) unknown_format >>= λ known. Ok (Mx known))

-- blocks have elements, each code is in a block, and each block has a scale
abbrev pub are_blocks : ℕ → ℕ → ℕ → Bool
are_blocks size scales codes = not (size == 0) && (codes % size == 0) && (scales == codes / size)

-- The faults in their order: the format of the elements, the lengths, the scale of the tensor.
abbrev pub vector_coded : ℕ → ℕ → ℕ → Bor (List ℕ) → Bor (List ℕ) → Result BlockVector ℕ
vector_coded element tensor size scales codes =
    scaling_coded element tensor >>= λ known.
    if_fitting (are_blocks size (length scales.now) (length codes.now)) known >>= λ scaling.
    if (element == 64) && not (is_positive (tensor_of tensor)) then Err no_such_operation
    else Ok (record { scaling = scaling; length = size; scales = scales; codes = codes })

-- of vectors whose lengths and tensors have no fault
abbrev pub dot_error : DotError → ℕ
dot_error LengthsDiffer = wrong_length
dot_error NotBlocks = wide_operand

abbrev pub IsDotWritten : Constants → Result (StatusAnd Datum) DotError → Answer → Answer → ℕ → Type 0
IsDotWritten c (Ok given) old new code = (code ≡ answered) × IsValueWritten (in_format c) given (pos 0) new
IsDotWritten c (Err error) old new code = (code ≡ dot_error error) × (new ≡ old)

pub record IsDotReply (c : Constants) (mode : Round) (x y : BlockVector) (old new : Answer) (code : ℕ) : Type 0 where
  pub made : Result (StatusAnd Datum) DotError
  pub is_made : IsDotCall (format_with c) mode x y made
  pub is_written : IsDotWritten c made old new code

abbrev pub IsDotBlocksCall : Result KnownReduction ℕ → Result BlockVector ℕ → Result BlockVector ℕ → Answer → Answer
    → ℕ → Type 0
IsDotBlocksCall (Ok known) (Ok x) (Ok y) old new code =
    IsDotReply (flagged_constants known.format) known.round x y old new code
IsDotBlocksCall (Ok known) (Ok x) (Err error) old new code = (code ≡ error) × (new ≡ old)
IsDotBlocksCall (Ok known) (Err error) y old new code = (code ≡ error) × (new ≡ old)
IsDotBlocksCall (Err error) x y old new code = (code ≡ error) × (new ≡ old)

abbrev pub IsDotBlocksCallOnce : Type 0
IsDotBlocksCallOnce =
    (known : Result KnownReduction ℕ) (x y : Result BlockVector ℕ) (old first second : Answer) (code other : ℕ)
    → IsDotBlocksCall known x y old first code → IsDotBlocksCall known x y old second other
    → (code ≡ other) × SameAnswer first second
