-- The terms of an exact sum of arrays, one after another, and the one answer of a call.
use Rattle.std.proofs.Common.{◌≡◌, ℕ, suc, ◌+◌, ◌-◌, ◌*◌, ◌/◌, ◌%◌, ◌<◌, ◌≤◌, lit≤, Bool, true, false, List, Option}
use Rattle.std.proofs.Common.{Some, None, Ok, Err, Result, refl, sym, ap, ◌∙◌, subst, arith}
use Rattle.std.proofs.Math.Path.{subst₂}
use Rattle.std.proofs.lemmas.{Bool.and_parts, Bool.eqb-true, Bool.false≢true, Nat.div-add-mod'}
use Rattle.std.specs.Prelude.{◌==◌, if◌then◌else◌, ok_or}
use Rattle.rustc_apfloat.specs.{declared.Round.Round, declared.StatusAnd.StatusAnd, Datum.Datum, Determined.Determines}
use Rattle.rustc_apfloat.specs.{Flags.Gives, Format.Format, Lawful.Constants, Lawful.format_with}
use Rattle.apfloat_model.specs.rounding.Outcome.{Outcome}
use Rattle.exact_reductions.specs.{BlockDots.IsDotCallOnce, declared.BlockVector.BlockVector}
use Rattle.exact_reductions.specs.declared.DotError.{DotError}
use Rattle.exact_reductions.specs.Reductions.{IsReducible, IsTotal, Tally, joined, magnitude_of, magnitude_terms}
use Rattle.exact_reductions.specs.Reductions.{no_terms, product_terms, tally, tally_of, value_terms}
use Rattle.exact_reductions.proofs.Laws.{total_once}
use Rattle.exact_reductions.proofs.Tallies.{IsUnderWay, all_done, none_joined, one_done, product_one, value_one}
use Rattle.formats_at_run_time.specs.{BuiltIns.constants_in, FlaggedKinds.flagged_constants}
use Rattle.formats_at_run_time.specs.{FlaggedKinds.format_of_ieee, Relations.in_format, ValueKinds.value_of}
use Rattle.formats_at_run_time.specs.declared.BuiltInFormat.{BuiltInFormat, TheVariants.Quad}
use Rattle.formats_at_run_time.specs.declared.FlaggedFormat.{FlaggedFormat}
use Rattle.formats_at_run_time.specs.declared.FlaggedFormat.TheVariants.{BuiltIn, AfterRounding, BeforeRounding}
use Rattle.formats_at_run_time.specs.declared.FlaggedKind.{FlaggedKind, TheVariants.OfFormat, TheVariants.Pairs}
use Rattle.formats_at_run_time.proofs.FormatLaws.{HasLaw, format_law}
use Rattle.apfloat_arrays.specs.{Blocks.value_at, Bytes.number_of}
use Rattle.coded_calls.specs.{declared.data.Answer.Answer, OneReply.SameAnswer}
use Rattle.coded_calls.specs.KnownCalls.{◌>>=◌, no_such_operation}
use Rattle.coded_calls.proofs.ExportsOnce.{OnceAnswer, format_determined, unchanged, value_once}
use Rattle.arrays_for_c.specs.declared.reductions.{KnownReduction.KnownReduction, Reduction.Reduction}
use Rattle.arrays_for_c.specs.declared.reductions.Reduction.TheVariants.{Sum, Magnitudes, Products}
use Rattle.arrays_for_c.specs.ArrayCalls.{bytes_in}
use Rattle.arrays_for_c.specs.Reductions.{IsDotBlocksCallOnce, IsDotReply, IsDotWritten}
use Rattle.arrays_for_c.specs.Reductions.{IsReducedArray, IsReducedCall, IsReducedCallOnce, IsReducedIn, IsReductionOf}
use Rattle.arrays_for_c.specs.Reductions.{fitting_sum, known_reduction, sums_fit, term_of, values_from}
use Rattle.arrays_for_c.proofs.ArrayCalls.{if_fitting_ok}

-- ---- the formats

reducible_built_in : (format : BuiltInFormat) → IsReducible (format_with (constants_in format))
reducible_built_in Quad = record { room = lit≤ tt; few = lit≤ tt }
reducible_built_in format = record { room = lit≤ tt; few = lit≤ tt }

pub reducible : (format : FlaggedFormat) → IsReducible (format_with (flagged_constants format))
reducible (BuiltIn format) = reducible_built_in format
reducible (AfterRounding format) =
    let plain = reducible_built_in (format_of_ieee format) in
    record { room = plain.room; few = plain.few }
reducible (BeforeRounding format) =
    let plain = reducible_built_in (format_of_ieee format) in
    record { room = plain.room; few = plain.few }

-- ---- calls that are not refused

pub record IsKnownReduction (first second : ℕ) (known : KnownReduction) : Type 0 where
  pub whole : first ≡ first / bytes_in (OfFormat known.format) * bytes_in (OfFormat known.format)
  pub same : second ≡ first

whole_of : (first width : ℕ) → (first % width == 0) ≡ true → first ≡ first / width * width
whole_of first width e =
    let none : first % width ≡ 0 = eqb-true _ _ e in
    let all : first / width * width + first % width ≡ first = div-add-mod' first width in
    omega arith

known_if : (format : FlaggedFormat) (mode : Round) (first second : ℕ) (known : KnownReduction)
    → fitting_sum mode first second format ≡ Ok known → IsKnownReduction first second known
known_if format mode first second known e =
    let both = if_fitting_ok (sums_fit (bytes_in (OfFormat format)) first second)
    (record { format = format; round = mode }) known e in
    let parts = and_parts (first % bytes_in (OfFormat format) == 0) _ both.0 in
    subst (λ (k : KnownReduction). IsKnownReduction first second k) both.1
    (record { whole = whole_of first _ parts.0; same = eqb-true _ _ parts.1 })

pub reduction_is_known : (kind : Option FlaggedKind) (mode : Option Round) (first second : ℕ) (known : KnownReduction)
    → known_reduction kind mode first second ≡ Ok known → IsKnownReduction first second known
reduction_is_known None mode first second known e = absurd (cc)
reduction_is_known (Some kind) None first second known e = absurd (cc)
reduction_is_known (Some Pairs) (Some mode) first second known e = absurd (cc)
reduction_is_known (Some (OfFormat format)) (Some mode) first second known e =
    known_if format mode first second known e

pub reduced_call : (reduction : Reduction) (call : Result KnownReduction ℕ) (known : KnownReduction) (width : ℕ)
    (xs ys : List ℕ) (old new : Answer) → width ≡ bytes_in (OfFormat known.format) → call ≡ Ok known
    → IsReducedArray reduction known width xs ys new → IsReducedCall reduction call xs ys old new 0
reduced_call reduction call known width xs ys old new width_is known_is made =
    subst (λ (c : Result KnownReduction ℕ). IsReducedCall reduction c xs ys old new 0) (sym known_is)
    (refl, subst (λ (w : ℕ). IsReducedArray reduction known w xs ys new) width_is made)

-- ---- one term after another

abbrev pub terms_of : Reduction → Format → List Datum → List Datum → List Outcome
terms_of Sum f xs ys = value_terms f xs
terms_of Magnitudes f xs ys = magnitude_terms f xs
terms_of Products f xs ys = product_terms f xs ys

-- the tally of so many terms from an index on
abbrev pub rest : Constants → Reduction → ℕ → List ℕ → List ℕ → ℕ → ℕ → Tally
rest c reduction width xs ys index count =
    tally (terms_of reduction (format_with c) (values_from c width xs index count) (values_from c width ys index count))

-- the tally of the term at an index
abbrev pub term_at : Constants → Reduction → ℕ → List ℕ → List ℕ → ℕ → Tally
term_at c reduction width xs ys index =
    tally_of (term_of reduction c (number_of (value_at width index xs)) (number_of (value_at width index ys)))

rest_next : (c : Constants) (reduction : Reduction) (width : ℕ) (xs ys : List ℕ) (index count : ℕ)
    → rest c reduction width xs ys index (suc count)
    ≡ joined (term_at c reduction width xs ys index) (rest c reduction width xs ys (index + 1) count)
rest_next c Sum width xs ys index count = refl
rest_next c Magnitudes width xs ys index count = refl
rest_next c Products width xs ys index count = refl

rest_none : (c : Constants) (reduction : Reduction) (width : ℕ) (xs ys : List ℕ) (index : ℕ)
    → rest c reduction width xs ys index 0 ≡ no_terms
rest_none c Sum width xs ys index = refl
rest_none c Magnitudes width xs ys index = refl
rest_none c Products width xs ys index = refl

term_one : (c : Constants) (reduction : Reduction) (x y : ℕ) → (tally_of (term_of reduction c x y)).terms ≡ 1
term_one c Sum x y = value_one (format_with c) (value_of c x)
term_one c Magnitudes x y = value_one (format_with c) (magnitude_of (format_with c) (value_of c x))
term_one c Products x y = product_one (format_with c) (value_of c x) (value_of c y)

-- so many terms are added, and the others are left
pub record IsAdded (c : Constants) (reduction : Reduction) (width : ℕ) (xs ys : List ℕ) (count index : ℕ)
    (done : Tally) : Type 0 where
  pub terms : done.terms ≡ index
  pub total : joined done (rest c reduction width xs ys index (count - index)) ≡ rest c reduction width xs ys 0 count

pub added_none : (c : Constants) (reduction : Reduction) (width : ℕ) (xs ys : List ℕ) (count : ℕ) (done : Tally)
    → done ≡ no_terms → IsAdded c reduction width xs ys count 0 done
added_none c reduction width xs ys count done is =
    let all : count - 0 ≡ count = omega arith in
    record {
      terms = ap (λ (t : Tally). t.terms) is;
      total = ap (λ (t : Tally). joined t (rest c reduction width xs ys 0 (count - 0))) is
          ∙ none_joined (rest c reduction width xs ys 0 (count - 0))
          ∙ ap (λ (n : ℕ). rest c reduction width xs ys 0 n) all;
    }

under_way : (c : Constants) (reduction : Reduction) (width : ℕ) (xs ys : List ℕ) (count index : ℕ) (done : Tally)
    → IsAdded c reduction width xs ys count index done
    → IsUnderWay no_terms done (rest c reduction width xs ys 0 count)
    (rest c reduction width xs ys index (count - index)) index
under_way c reduction width xs ys count index done so_far =
    let terms : done.terms ≡ index = so_far.terms in
    let counted : done.terms ≡ 0 + index = omega (arith, terms) in
    record { terms = counted; total = so_far.total ∙ sym (none_joined (rest c reduction width xs ys 0 count)) }

pub added_more : (c : Constants) (reduction : Reduction) (width : ℕ) (xs ys : List ℕ) (count index x y : ℕ)
    (done next : Tally) → index < count → x ≡ number_of (value_at width index xs)
    → y ≡ number_of (value_at width index ys) → next ≡ joined done (tally_of (term_of reduction c x y))
    → IsAdded c reduction width xs ys count index done → IsAdded c reduction width xs ys count (index + 1) next
added_more c reduction width xs ys count index x y done next before x_is y_is added so_far =
    let left : count - index ≡ suc (count - (index + 1)) = omega (arith, before) in
    let after : Tally = rest c reduction width xs ys (index + 1) (count - (index + 1)) in
    let here : rest c reduction width xs ys index (count - index)
    ≡ joined (term_at c reduction width xs ys index) after =
    ap (λ (n : ℕ). rest c reduction width xs ys index n) left
    ∙ rest_next c reduction width xs ys index (count - (index + 1)) in
    let is : next ≡ joined done (term_at c reduction width xs ys index) =
    subst₂ (λ (m : ℕ) (n : ℕ). next ≡ joined done (tally_of (term_of reduction c m n))) x_is y_is added in
    let one = term_one c reduction (number_of (value_at width index xs)) (number_of (value_at width index ys)) in
    let all : Tally = rest c reduction width xs ys 0 count in
    let more = one_done no_terms done next all _ after _ index
    (under_way c reduction width xs ys count index done so_far) here is one in
    let counted : next.terms ≡ 0 + (index + 1) = more.terms in
    record { terms = omega (arith, counted); total = more.total ∙ none_joined all }

-- ---- the sum

of_terms : (reduction : Reduction) (f : Format) (mode : Round) (xs ys : List Datum) (value : Datum) (status : ℕ)
    → IsTotal f mode (tally (terms_of reduction f xs ys)) value status
    → IsReductionOf reduction f mode xs ys value status
of_terms Sum f mode xs ys value status is = is
of_terms Magnitudes f mode xs ys value status is = is
of_terms Products f mode xs ys value status is = is

pub all_added : (c : Constants) (reduction : Reduction) (mode : Round) (width : ℕ) (xs ys : List ℕ)
    (count index : ℕ) (done : Tally) (value : Datum) (status : ℕ) → count ≤ index
    → IsAdded c reduction width xs ys count index done → IsTotal (format_with c) mode done value status
    → IsReductionOf reduction (format_with c) mode (values_from c width xs 0 count) (values_from c width ys 0 count)
    value status
all_added c reduction mode width xs ys count index done value status past added is =
    let left : count - index ≡ 0 = omega (arith, past) in
    let none : rest c reduction width xs ys index (count - index) ≡ no_terms =
    ap (λ (n : ℕ). rest c reduction width xs ys index n) left ∙ rest_none c reduction width xs ys index in
    let whole : done ≡ rest c reduction width xs ys 0 count =
    all_done no_terms done _ _ index (under_way c reduction width xs ys count index done added) none
    ∙ none_joined (rest c reduction width xs ys 0 count) in
    of_terms reduction (format_with c) mode (values_from c width xs 0 count) (values_from c width ys 0 count) value
    status
    (subst (λ (t : Tally). IsTotal (format_with c) mode t value status) whole is)

-- ---- one answer

reduction_once : (reduction : Reduction) (f : Format) (mode : Round) (xs ys : List Datum)
    → Determines (λ (given : StatusAnd Datum). Gives (IsReductionOf reduction f mode xs ys) given)
reduction_once Sum f mode xs ys = total_once f mode (tally (value_terms f xs))
reduction_once Magnitudes f mode xs ys = total_once f mode (tally (magnitude_terms f xs))
reduction_once Products f mode xs ys = total_once f mode (tally (product_terms f xs ys))

reduced_once : (c : Constants) → HasLaw c → (reduction : Reduction) (mode : Round) (xs ys : List Datum)
    → OnceAnswer (IsReducedIn c reduction mode xs ys)
reduced_once c has reduction mode xs ys =
    value_once (in_format c) mode c.precision c.bits has.wide (format_determined c has mode) _
    (reduction_once reduction (format_with c) mode xs ys)

pub reduced_call_once : IsReducedCallOnce
reduced_call_once reduction (Err error) xs ys old a b code other x y = (x.0 ∙ sym y.0, unchanged old a b x.1 y.1)
reduced_call_once reduction (Ok known) xs ys old a b code other x y = (
  x.0 ∙ sym y.0,
  reduced_once (flagged_constants known.format) (format_law known.format) reduction known.round _ _ a b x.1 y.1,
)

written_once : (c : Constants) → HasLaw c → (mode : Round) (made : Result (StatusAnd Datum) DotError)
    (old a b : Answer) (code other : ℕ) → IsDotWritten c made old a code → IsDotWritten c made old b other
    → (code ≡ other) × SameAnswer a b
written_once c has mode (Err error) old a b code other x y = (x.0 ∙ sym y.0, unchanged old a b x.1 y.1)
written_once c has mode (Ok given) old a b code other x y = (
  x.0 ∙ sym y.0,
  value_once (in_format c) mode c.precision c.bits has.wide (format_determined c has mode)
      (λ (g : StatusAnd Datum). g ≡ given) (λ g k e f. e ∙ sym f) a b
      (record { given = given; holds = refl; is_written = x.1 })
      (record { given = given; holds = refl; is_written = y.1 }),
)

reply_once : IsDotCallOnce → (c : Constants) → HasLaw c → (mode : Round) (x y : BlockVector) (old a b : Answer)
    (code other : ℕ) → IsDotReply c mode x y old a code → IsDotReply c mode x y old b other
    → (code ≡ other) × SameAnswer a b
reply_once once c has mode x y old a b code other p q =
    let same = once (format_with c) mode x y p.made q.made p.is_made q.is_made in
    written_once c has mode p.made old a b code other p.is_written
    (subst (λ (m : Result (StatusAnd Datum) DotError). IsDotWritten c m old b other) (sym same) q.is_written)

pub dot_blocks_call_once : IsDotCallOnce → IsDotBlocksCallOnce
dot_blocks_call_once once (Ok known) (Ok x) (Ok y) old a b code other p q =
    reply_once once (flagged_constants known.format) (format_law known.format) known.round x y old a b code other p q
dot_blocks_call_once once (Ok known) (Ok x) (Err error) old a b code other p q =
    (p.0 ∙ sym q.0, unchanged old a b p.1 q.1)
dot_blocks_call_once once (Ok known) (Err error) y old a b code other p q =
    (p.0 ∙ sym q.0, unchanged old a b p.1 q.1)
dot_blocks_call_once once (Err error) x y old a b code other p q = (p.0 ∙ sym q.0, unchanged old a b p.1 q.1)
