-- A pair has at most one shortest decimal, and the pair is read back from it.
use Rattle.std.proofs.Common.{◌≡◌, ◌<◌, ◌≤◌, ◌*◌, ◌^◌, ℕ, zero, suc, ℤ, ◌∙◌, Bool}
use Rattle.std.proofs.Common.{true, false, refl, sym, ap, subst, List, Option, Some, None, Result, Ok, Err, arith, lit<}
use Rattle.std.proofs.lemmas.Bool.{and_parts}
use Rattle.std.specs.{Bool.MatchBool, Result.IsOkAnd}
use Rattle.apfloat_model.specs.Determined.{Determines}
use Rattle.apfloat_model.specs.declared.kinds.{Round.TheVariants.NearestTiesToEven, NonfiniteBehavior.NonfiniteBehavior}
use Rattle.apfloat_model.specs.declared.kinds.NonfiniteBehavior.TheVariants.{IEEE754, NanOnly, NanNegativeZero}
use Rattle.apfloat_model.specs.declared.{parse_error.ParseError.ParseError, status.StatusAnd.StatusAnd}
use Rattle.apfloat_model.specs.formats.{Datum.Datum, Datum.finite, Datum.infinite, Datum.nan, Format.Format}
use Rattle.apfloat_model.specs.{formats.Format.largest, formats.Members.IsMember, rounding.Flags.bits_of}
use Rattle.apfloat_model.specs.{rounding.Rounding.zero_sign, arithmetic.Exact.up, arithmetic.Exact.down}
use Rattle.apfloat_model.proofs.general.Choices.{match_false, match_true}
use Rattle.apfloat_model.proofs.{order.Categories.same_is, rounding.Laws.zero_on_grid}
use Rattle.apfloat_pair_theory.specs.{PairFormats.wide, PairParts.same_pair, Pairs.Pair, Pairs.IsJoined, Pairs.IsSplit}
use Rattle.apfloat_pair_theory.proofs.calls.PairsOnce.{joined_once, parts_same, split_once}
use Rattle.apfloat_pair_theory.proofs.numbers.Roundings.{pick_on_grid}
use Rattle.apfloat_decimals.specs.{declared.decimal.Decimal.Decimal, Parsing.Spells, ReadBack.IsStoredDecimal}
use Rattle.apfloat_decimals.specs.{ReadBack.written, Shortest.IsSameNumber, ShortestSearch.GivesShortest}
use Rattle.apfloat_decimals.specs.{ShortestSearch.IsShortestOf, Texts.decimal_text}
use Rattle.apfloat_decimals.proofs.shortest_decimals.{OneShortest.one_shortest, PickedFractions.delivered_pick}
use Rattle.apfloat_decimals.proofs.shortest_decimals.ReadBacks.{read_back}
use Rattle.apfloat_decimals.proofs.spelled.TextReadings.{reading_is, text_read}
use Rattle.apfloat_decimals.proofs.spelled.WrittenTexts.{text_spelled, written_same}
use Rattle.apfloat_digits.specs.of_double_doubles.{PairReadings.IsPairDecimalRead, PairShortest.GivesPairShortest}

-- ---- pairs with the same parts

pair_same : (x y : Pair) → same_pair x y ≡ true → x ≡ y
pair_same x y e =
    let p = and_parts _ _ e in
    parts_same x y (same_is x.high y.high p.0) (same_is x.low y.low p.1)

-- ---- what is found

pub given : (x back : Pair) (joined : Datum) (same : Bool) (answer : Option Decimal) → IsJoined x joined
    → IsSplit joined back → same ≡ same_pair back x → same ≡ true → GivesShortest wide joined answer
    → GivesPairShortest x answer
given x back joined same answer j s n e g = record {
  joined = joined;
  back = back;
  is_joined = j;
  is_split = s;
  is_answer = match_true (same_pair back x) (GivesShortest wide joined answer) (answer ≡ None) (sym n ∙ e) g;
}

pub not_given : (x back : Pair) (joined : Datum) (same : Bool) → IsJoined x joined → IsSplit joined back
    → same ≡ same_pair back x → same ≡ false → GivesPairShortest x None
not_given x back joined same j s n e = record {
  joined = joined;
  back = back;
  is_joined = j;
  is_split = s;
  is_answer = match_false (same_pair back x) (GivesShortest wide joined None) (None ≡ None) (sym n ∙ e) refl;
}

-- ---- one decimal

abbrev make_decimal : Bool → ℕ → ℤ → Decimal
make_decimal negative digits exponent = record { negative = negative; digits = digits; exponent = exponent }

same_decimal : (x y : Decimal) → x.negative ≡ y.negative → x.digits ≡ y.digits → x.exponent ≡ y.exponent → x ≡ y
same_decimal x y n d e =
    ap (λ (i : Bool). make_decimal i x.digits x.exponent) n ∙ ap (λ (i : ℕ). make_decimal y.negative i x.exponent) d
    ∙ ap (λ (i : ℤ). make_decimal y.negative y.digits i) e

-- a finite value has at most one shortest decimal
shortest_of_once : (f : Format) (negative : Bool) (quanta : ℕ) (d e : Decimal) → 0 < f.precision
    → IsShortestOf f negative quanta d → IsShortestOf f negative quanta e → d ≡ e
shortest_of_once f b zero d e p x y =
    let g = x.zero refl in
    let h = y.zero refl in
    same_decimal d e (x.sign ∙ sym y.sign) (g.0 ∙ sym h.0) (g.1 ∙ sym h.1)
shortest_of_once f b (suc n) d e p x y =
    let some : 0 < suc n = omega arith in
    let same = one_shortest f b (suc n) d.digits e.digits d.exponent e.exponent p some (x.some some) (y.some some) in
    same_decimal d e (x.sign ∙ sym y.sign) same.0 same.1

shortest_once : (f : Format) (x : Datum) → 0 < f.precision → Determines (GivesShortest f x)
shortest_once f (finite b n) p None other g h = absurd g
shortest_once f (finite b n) p (Some d) None g h = absurd h
shortest_once f (finite b n) p (Some d) (Some e) g h = ap (λ (k : Decimal). Some k) (shortest_of_once f b n d e p g h)
shortest_once f (infinite b) p answer other g h = g ∙ sym h
shortest_once f (nan b s) p answer other g h = g ∙ sym h

-- the choice between a shortest decimal and none has one result
chosen_once : (same : Bool) (x : Datum) (answer other : Option Decimal)
    → MatchBool same (GivesShortest wide x answer) (answer ≡ None)
    → MatchBool same (GivesShortest wide x other) (other ≡ None) → answer ≡ other
chosen_once true x answer other g h = shortest_once wide x (lit< tt) answer other g h
chosen_once false x answer other g h = g ∙ sym h

pub pair_shortest_once : (x : Pair) → Determines (GivesPairShortest x)
pair_shortest_once x answer other g h =
    let e = joined_once x g.joined h.joined g.is_joined h.is_joined in
    let s : g.back ≡ h.back =
    split_once g.joined g.back h.back g.is_split (subst (λ (d : Datum). IsSplit d h.back) (sym e) h.is_split) in
    chosen_once (same_pair g.back x) g.joined answer other g.is_answer
    (subst (λ (d : Datum). MatchBool (same_pair g.back x) (GivesShortest wide d other) (other ≡ None)) (sym e)
    (subst (λ (p : Pair). MatchBool (same_pair p x) (GivesShortest wide h.joined other) (other ≡ None)) (sym s)
    h.is_answer))

-- ---- reading back

-- with infinities, a zero has a sign
zero_signed : (kind : NonfiniteBehavior) (negative : Bool) → kind ≡ IEEE754 → negative ≡ zero_sign kind negative
zero_signed IEEE754 negative e = refl
zero_signed NanOnly negative e = refl
zero_signed NanNegativeZero negative e = cc

at_least_zero : (n : ℕ) → 0 ≤ n
at_least_zero n = omega arith

-- a value with a shortest decimal belongs to its format
member_of : (f : Format) (x : Datum) (d : Decimal) → f.nonfinite ≡ IEEE754 → GivesShortest f x (Some d) → IsMember f x
member_of f (finite b zero) d k g = record {
  on_grid = zero_on_grid f.precision;
  within = at_least_zero (largest f);
  zero_has = λ e. zero_signed f.nonfinite b k;
}
member_of f (finite b (suc n)) d k g =
    let some : 0 < suc n = omega arith in
    let back = (g.some some).reads_back in
    let v = delivered_pick f b (d.digits * 10 ^ up d.exponent * 2 ^ f.scale) (10 ^ down d.exponent) (suc n)
    back.status some back.delivered in
    record {
      on_grid = pick_on_grid f.precision b (d.digits * 10 ^ up d.exponent * 2 ^ f.scale) (10 ^ down d.exponent)
          (suc n) v.pick;
      within = v.within;
      zero_has = λ e. zero_signed f.nonfinite b k;
    }
member_of f (infinite b) d k g = cc
member_of f (nan b s) d k g = cc

-- a pair with a decimal is the split of its join
has_decimal : (same : Bool) (P : Type 0) (d : Decimal) → MatchBool same P (Some d ≡ None) → (same ≡ true) × P
has_decimal true P d h = (refl, h)
has_decimal false P d h = cc

abbrev IsReadAs : Pair → Result (StatusAnd Pair) ParseError → Type 0
IsReadAs x answer = IsOkAnd answer (λ a. a.value ≡ x)

-- each text of that number, with its sign, is read as the pair
pub text_read_back : (x : Pair) (d : Decimal) (text : List ℕ) (digits : ℕ) (exponent : ℤ)
    (answer : Result (StatusAnd Pair) ParseError) → GivesPairShortest x (Some d)
    → Spells text d.negative digits exponent → IsSameNumber digits exponent d.digits d.exponent
    → IsPairDecimalRead NearestTiesToEven text answer → IsReadAs x answer
text_read_back x d text digits exponent (Ok answer) g spells same read =
    let chosen = has_decimal (same_pair g.back x) (GivesShortest wide g.joined (Some d)) d g.is_answer in
    let delivered = reading_is wide NearestTiesToEven text d.negative digits exponent read.value
    (bits_of answer.status) spells read.is_value in
    let value : read.value ≡ g.joined = read_back wide g.joined d digits exponent read.value (bits_of answer.status)
    (lit< tt) (member_of wide g.joined d refl chosen.1) chosen.1 same delivered in
    split_once g.joined answer.value g.back (subst (λ (v : Datum). IsSplit v answer.value) value read.is_split)
    g.is_split ∙ pair_same g.back x chosen.0
text_read_back x d text digits exponent (Err error) g spells same read =
    text_read wide NearestTiesToEven text (Err error) d.negative digits exponent spells read

-- so is the text that is written of it
pub written_read_back : (x : Pair) (d : Decimal) (answer : Result (StatusAnd Pair) ParseError) → IsStoredDecimal d
    → GivesPairShortest x (Some d) → IsPairDecimalRead NearestTiesToEven (decimal_text d) answer → IsReadAs x answer
written_read_back x d answer stored g read =
    text_read_back x d (decimal_text d) (written d).digits (written d).exponent answer g (text_spelled d stored)
    (written_same d) read
