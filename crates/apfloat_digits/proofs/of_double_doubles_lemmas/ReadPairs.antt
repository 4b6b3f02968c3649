-- A pair that a text is read as has a shortest decimal, if its high part is finite.
use Rattle.std.proofs.Common.{◌≡◌, ◌≤◌, ℕ, zero, suc, ◌∙◌, Bool, true, false, eqb, ltb, refl, sym, ap, subst, List, inl}
use Rattle.std.proofs.{Common.inr, Common.Option, Common.arith, lemmas.Bool.false≢true, lemmas.Bool.ltb-false}
use Rattle.std.specs.Prelude.{IsSome, if◌then◌else◌}
use Rattle.std.specs.Bool.{MatchBool}
use Rattle.apfloat_model.specs.{declared.kinds.Round.Round, formats.Datum.Datum, formats.Datum.finite}
use Rattle.apfloat_model.specs.{order.Classes.is_finite, order.Classes.is_finite_non_zero, rounding.Grid.IsOnGrid}
use Rattle.apfloat_model.specs.formats.{Datum.infinite, Datum.nan, Format.largest, Format.nan_base, Members.IsMember}
use Rattle.apfloat_model.specs.rounding.Rounding.{IsDelivered, leads_out, past_largest, signed_quanta, zero_sign}
use Rattle.apfloat_model.specs.texts.Specials.{TextMeaning, infinity, not_a_number, hexadecimal}
use Rattle.apfloat_model.specs.texts.Readings.{IsMeant}
use Rattle.apfloat_model.proofs.rounding.{Laws.zero_on_grid, ModesAgree.pick_on_grid}
use Rattle.apfloat_pair_theory.specs.PairFormats.{wide}
use Rattle.apfloat_pair_theory.specs.Pairs.{Pair, IsJoined, IsSplit, IsSumOfParts, IsWidened}
use Rattle.apfloat_pair_theory.proofs.numbers.Roundings.{largest_on_grid}
use Rattle.apfloat_decimals.specs.{declared.decimal.Decimal.Decimal, DecimalTexts.IsDecimalReading}
use Rattle.apfloat_digits.specs.of_double_doubles.{PairReadings.IsPairDecimalReading, PairShortest.GivesPairShortest}
use Rattle.apfloat_digits.proofs.of_double_doubles_lemmas.SplitsJoined.{joined_has_decimal, split_has_decimal}

-- ---- what is delivered in the wide format belongs to it

at_least_zero : (n : ℕ) → 0 ≤ n
at_least_zero n = omega arith

at_most_itself : (n : ℕ) → n ≤ n
at_most_itself n = omega arith

quanta_member : (negative none : Bool) (p : ℕ) → IsOnGrid wide.precision p → p ≤ largest wide
    → IsMember wide (if none then finite (zero_sign wide.nonfinite negative) 0 else finite negative p)
quanta_member b true p g l = record {
  on_grid = zero_on_grid wide.precision;
  within = at_least_zero (largest wide);
  zero_has = λ z. refl;
}
quanta_member b false p g l = record { on_grid = g; within = l; zero_has = λ z. refl }

value_member : (negative past out : Bool) (p : ℕ) → IsOnGrid wide.precision p → (past ≡ false → p ≤ largest wide)
    → is_finite (if past then (if out then past_largest wide.nonfinite (nan_base wide) negative
    else finite negative (largest wide)) else signed_quanta wide.nonfinite negative p) ≡ true
    → IsMember wide (if past then (if out then past_largest wide.nonfinite (nan_base wide) negative
    else finite negative (largest wide)) else signed_quanta wide.nonfinite negative p)
value_member b true true p g l f = absurd (false≢true f)
value_member b true false p g l f = record {
  on_grid = largest_on_grid wide refl;
  within = at_most_itself (largest wide);
  zero_has = λ z. refl;
}
value_member b false out p g l f = quanta_member b (eqb p 0) p g (l refl)

delivered_member : (mode : Round) (negative : Bool) (amount parts : ℕ) (value : Datum) (status : ℕ)
    → IsDelivered wide mode negative amount parts value status → is_finite value ≡ true → IsMember wide value
delivered_member mode b amount parts value status x f =
    subst (λ (d : Datum). IsMember wide d) (sym x.value_is)
    (value_member b (ltb (largest wide) x.pick) (leads_out mode b) x.pick
    (pick_on_grid wide.precision mode b amount parts x.pick x.is_pick) (λ e. ltb-false (largest wide) x.pick e)
    (sym (ap is_finite x.value_is) ∙ f))

meant_member : (mode : Round) (meaning : TextMeaning) (value : Datum) (status : ℕ)
    → IsMeant wide mode meaning value status → is_finite value ≡ true → IsMember wide value
meant_member mode (infinity b) value status x f = absurd (false≢true (sym (ap is_finite x.value_is) ∙ f))
meant_member mode (not_a_number b s p) value status x f = absurd (false≢true (sym (ap is_finite x.value_is) ∙ f))
meant_member mode (hexadecimal b h places e) value status x f = delivered_member mode b _ _ value status x f

reading_member : (mode : Round) (text : List ℕ) (value : Datum) (status : ℕ)
    → IsDecimalReading wide mode text value status → is_finite value ≡ true → IsMember wide value
reading_member mode text value status (inl x) f = delivered_member mode _ _ _ value status x.delivered f
reading_member mode text value status (inr x) f = meant_member mode x.meaning value status x.is_meant f

-- ---- zeros

alone : (test : Bool) (P Q : Type 0) → test ≡ false → MatchBool test P Q → Q
alone true P Q e h = cc
alone false P Q e h = h

-- the split of a zero is joined to that zero
zero_joined : (negative : Bool) (x : Pair) (joined : Datum) → IsSplit (finite negative 0) x → IsJoined x joined
    → joined ≡ finite negative 0
zero_joined b x joined s j =
    let h : x.high ≡ finite b 0 = s.high_is.value_is in
    let w : IsWidened x.high joined = alone (is_finite_non_zero x.high) (IsSumOfParts x joined)
    (IsWidened x.high joined) (ap (λ (d : Datum). is_finite_non_zero d) h) j in
    let v : IsWidened (finite b 0) joined = subst (λ (d : Datum). IsWidened d joined) h w in
    v.is_conversion.value_is

-- ---- texts

value_has_decimal : (value : Datum) (x : Pair) (answer : Option Decimal)
    → (is_finite value ≡ true → IsMember wide value) → is_finite x.high ≡ true → IsSplit value x
    → GivesPairShortest x answer → IsSome answer
value_has_decimal (finite b zero) x answer m f s g =
    joined_has_decimal b 0 x answer s g (zero_joined b x g.joined s g.is_joined)
value_has_decimal (finite b (suc n)) x answer m f s g =
    split_has_decimal b (suc n) x answer (omega arith) (m refl) f s g
value_has_decimal (infinite b) x answer m f s g = absurd (false≢true (ap is_finite (sym s.high_is.value_is) ∙ f))
value_has_decimal (nan b t) x answer m f s g = absurd (false≢true (ap is_finite (sym s.high_is.value_is) ∙ f))

pub read_has_decimal : (mode : Round) (text : List ℕ) (x : Pair) (status : ℕ) (answer : Option Decimal)
    → IsPairDecimalReading mode text x status → is_finite x.high ≡ true → GivesPairShortest x answer → IsSome answer
read_has_decimal mode text x status answer r f g =
    value_has_decimal r.value x answer (reading_member mode text r.value status r.is_value) f r.is_split g
