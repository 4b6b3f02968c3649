-- Conversions of pairs of doubles and their fused sums have one result each.
use Rattle.std.proofs.Common.{◌≡◌, ℕ, Bool, Option, None, Some, Ok, Err, Result, refl, sym, ap, ◌∙◌}
use Rattle.std.proofs.{Common.subst, Common.lit<, lemmas.Bool.true≢false}
use Rattle.std.specs.Prelude.{option_map}
use Rattle.rustc_apfloat.specs.declared.Category.TheVariants.{Infinity as Infinite, NaN}
use Rattle.rustc_apfloat.specs.{declared.Round.Round, declared.StatusAnd.StatusAnd, Classes.is_nan_category}
use Rattle.rustc_apfloat.specs.{Predicates.is_infinite_category, Datum.Datum, Determined.Determines}
use Rattle.rustc_apfloat.specs.{Determined.DeterminesBoth, Format.Format, Lawful.format_with, PairAnswers.HasOneAnswer}
use Rattle.rustc_apfloat.specs.{Pairs.Pair, double_double_operations.PairConversions.IsPairFrom}
use Rattle.rustc_apfloat.specs.double_double_operations.{PairConversions.IsPairTo, PairFusedSums.IsPairFusedSum}
use Rattle.apfloat_decimals.specs.declared.decimal.Decimal.{Decimal}
use Rattle.apfloat_digits.specs.of_double_doubles.PairShortest.{GivesPairShortest}
use Rattle.apfloat_c.specs.declared.decimals.{DecimalText.DecimalText, Shortest.Shortest}
use Rattle.apfloat_c.specs.declared.decimals.Shortest.TheVariants.{Number, Infinity, Nan}
use Rattle.apfloat_c.specs.Decimals.{text_of_shortest}
use Rattle.apfloat_c.specs.Pairs.{ArePairCallsOnce, IsPairConverted, IsPairFusedCall, IsPairMade, KnownSource}
use Rattle.apfloat_c.specs.Pairs.{IsPairShortestWritten, IsPairText, IsPairTextTold, KnownTarget, pair_of}
use Rattle.apfloat_c.proofs.TextsOnce.{one_struct}
use Rattle.apfloat_model.proofs.Determined.{gives_once}
use Rattle.apfloat_pair_theory.proofs.calls.PairsDetermined.{pairs_determined}
use Rattle.formats_at_run_time.specs.{BuiltIns.constants_in, FlaggedKinds.flagged_constants, Relations.in_format}
use Rattle.formats_at_run_time.specs.{Relations.in_pairs, ValueKinds.value_of}
use Rattle.formats_at_run_time.proofs.FormatLaws.{format_law}
use Rattle.coded_calls.specs.{Answers.IsValue, declared.data.Answer.Answer, OneReply.SameAnswer}
use Rattle.coded_calls.proofs.ExportsOnce.{OnceAnswer, format_determined, unchanged, value_once}

-- if a relation has one pair with one status, it leaves one result
pair_once : (mode : Round) (Holds : StatusAnd Pair → Type 0) → Determines Holds
    → OnceAnswer (IsValue in_pairs Holds)
pair_once mode Holds determines =
    value_once in_pairs mode 106 128 (lit< tt) (pairs_determined mode) Holds determines

converted_once : ((g : Format) (mode : Round) (x : Pair) → DeterminesBoth (IsPairTo g mode x))
    → (known : Result KnownTarget ℕ) (bits : ℕ) (old first second : Answer) (code other : ℕ)
    → IsPairConverted known bits old first code → IsPairConverted known bits old second other
    → (code ≡ other) × SameAnswer first second
converted_once one (Err error) bits old a b code other x y = (x.0 ∙ sym y.0, unchanged old a b x.1 y.1)
converted_once one (Ok known) bits old a b code other x y =
    let c = flagged_constants known.target in
    let has = format_law known.target in (
      x.0 ∙ sym y.0,
      value_once (in_format c) known.mode c.precision c.bits has.wide (format_determined c has known.mode) _
          (gives_once _ (one (format_with c) known.mode (pair_of bits))) a b x.1 y.1,
    )

made_once : ((f : Format) (mode : Round) (x : Datum) → HasOneAnswer (IsPairFrom f mode x))
    → (known : Result KnownSource ℕ) (bits : ℕ) (old first second : Answer) (code other : ℕ)
    → IsPairMade known bits old first code → IsPairMade known bits old second other
    → (code ≡ other) × SameAnswer first second
made_once one (Err error) bits old a b code other x y = (x.0 ∙ sym y.0, unchanged old a b x.1 y.1)
made_once one (Ok known) bits old a b code other x y =
    let c = constants_in known.source in (
      x.0 ∙ sym y.0,
      pair_once known.mode _ (gives_once _ (one (format_with c) known.mode (value_of c bits)).once) a b x.1 y.1,
    )

summed_once : ((mode : Round) (x y z : Pair) → HasOneAnswer (IsPairFusedSum mode x y z))
    → (mode : Option Round) (p q r : ℕ) (old first second : Answer) (code other : ℕ)
    → IsPairFusedCall mode p q r old first code → IsPairFusedCall mode p q r old second other
    → (code ≡ other) × SameAnswer first second
summed_once one None p q r old a b code other x y = (x.0 ∙ sym y.0, unchanged old a b x.1 y.1)
summed_once one (Some mode) p q r old a b code other x y = (
  x.0 ∙ sym y.0,
  pair_once mode _ (gives_once _ (one mode (pair_of p) (pair_of q) (pair_of r)).once) a b x.1 y.1,
)

infinity_or_nan : Infinite ≡ NaN → ⊥
infinity_or_nan e = true≢false (ap is_infinite_category e)

decimal_or_none : (decimal : Decimal) → Some decimal ≡ None → ⊥
decimal_or_none decimal e = cc

-- a pair has one text, or none
text_once : (x : Pair) → Determines (GivesPairShortest x) → Determines (IsPairText x)
text_once x one (Some (Number d)) (Some (Number e)) h k =
    ap (λ (found : Option Decimal). option_map (λ (given : Decimal). Number given) found) (one (Some d) (Some e) h k)
text_once x one (Some (Number d)) (Some (Infinity n)) h k = absurd (decimal_or_none d (one (Some d) None h k.0))
text_once x one (Some (Number d)) (Some Nan) h k = absurd (decimal_or_none d (one (Some d) None h k.0))
text_once x one (Some (Number d)) None h k = absurd (decimal_or_none d (one (Some d) None h k.0))
text_once x one (Some (Infinity m)) (Some (Number e)) h k = absurd (decimal_or_none e (one (Some e) None k h.0))
text_once x one (Some (Infinity m)) (Some (Infinity n)) h k =
    ap (λ (b : Bool). Some (Infinity b)) (h.2 ∙ sym k.2)
text_once x one (Some (Infinity m)) (Some Nan) h k = absurd (infinity_or_nan (sym h.1 ∙ k.1))
text_once x one (Some (Infinity m)) None h k =
    absurd (true≢false (ap is_infinite_category (sym h.1) ∙ k.1))
text_once x one (Some Nan) (Some (Number e)) h k = absurd (decimal_or_none e (one (Some e) None k h.0))
text_once x one (Some Nan) (Some (Infinity n)) h k = absurd (infinity_or_nan (sym k.1 ∙ h.1))
text_once x one (Some Nan) (Some Nan) h k = refl
text_once x one (Some Nan) None h k = absurd (true≢false (ap is_nan_category (sym h.1) ∙ k.2))
text_once x one None (Some (Number e)) h k = absurd (decimal_or_none e (one (Some e) None k h.0))
text_once x one None (Some (Infinity n)) h k = absurd (true≢false (ap is_infinite_category (sym k.1) ∙ h.1))
text_once x one None (Some Nan) h k = absurd (true≢false (ap is_nan_category (sym k.1) ∙ h.2))
text_once x one None None h k = refl

told_once : (found : Option Shortest) (old first second : DecimalText) (code other : ℕ)
    → IsPairTextTold found old first code → IsPairTextTold found old second other
    → (code ≡ other) × (first ≡ second)
told_once (Some found) old a b code other x y =
    (x.0 ∙ sym y.0, one_struct (text_of_shortest found) (text_of_shortest found) a b refl x.1 y.1)
told_once None old a b code other x y = (x.0 ∙ sym y.0, x.1 ∙ sym y.1)

written_once : ((x : Pair) → Determines (GivesPairShortest x)) → (bits : ℕ) (old first second : DecimalText)
    (code other : ℕ) → IsPairShortestWritten bits old first code → IsPairShortestWritten bits old second other
    → (code ≡ other) × (first ≡ second)
written_once one bits old a b code other x y =
    let same = text_once (pair_of bits) (one (pair_of bits)) x.found y.found x.is_text y.is_text in
    told_once x.found old a b code other x.told
    (subst (λ (found : Option Shortest). IsPairTextTold found old b other) (sym same) y.told)

pub pair_calls_once :
    ((mode : Round) (x y z : Pair) → HasOneAnswer (IsPairFusedSum mode x y z))
    → ((f : Format) (mode : Round) (x : Datum) → HasOneAnswer (IsPairFrom f mode x))
    → ((g : Format) (mode : Round) (x : Pair) → DeterminesBoth (IsPairTo g mode x))
    → ((x : Pair) → Determines (GivesPairShortest x)) → ArePairCallsOnce
pair_calls_once sums from_one to_one texts =
    record {
      to_format = λ known bits old a b code other x y. converted_once to_one known bits old a b code other x y;
      from_format = λ known bits old a b code other x y. made_once from_one known bits old a b code other x y;
      fused_sum = λ mode p q r old a b code other x y. summed_once sums mode p q r old a b code other x y;
      text = λ bits old a b code other x y. written_once texts bits old a b code other x y;
    }
