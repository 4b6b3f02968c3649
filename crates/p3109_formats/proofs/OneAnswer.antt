-- Conversions into the formats of P3109 have one answer.
use Rattle.std.proofs.Common.{◌≡◌, ℕ, zero, suc, ◌+◌, ◌-◌, ◌*◌, ◌^◌, ◌<◌, ◌≤◌, Bool}
use Rattle.std.proofs.Common.{true, false, cond, not, ◌&&◌, eqb, leb, ltb, sym, refl, ap, ◌∙◌, ⊎_elim}
use Rattle.std.proofs.{Common.arith, Math.Nat.mod-eq_of_lt}
use Rattle.std.proofs.lemmas.Bool.{cases_eq, cases_lt, eq-eqb, eqb-true, false≢true, ltb-true, ne_eqb}
use Rattle.std.proofs.lemmas.{Bool.MatchBool-at_false, Nat.mod_below, Nat.pow_pos}
use Rattle.std.specs.Bool.{MatchBool}
use Rattle.apfloat_model.specs.declared.kinds.Round.{Round}
use Rattle.apfloat_model.specs.declared.kinds.Round.TheVariants.{NearestTiesToAway, NearestTiesToEven}
use Rattle.apfloat_model.specs.formats.{Datum.Datum, Datum.finite, Datum.infinite, Datum.nan, Format.Format}
use Rattle.apfloat_model.specs.order.Classes.{is_infinite, is_nan, is_negative, quanta_of}
use Rattle.apfloat_model.specs.rounding.Rounding.{IsPick, leads_out, ok_bits}
use Rattle.apfloat_model.proofs.general.Powers.{twice_half}
use Rattle.small_formats.specs.declared.ConversionRound.{ConversionRound, TheVariants.Ieee}
use Rattle.small_formats.specs.{declared.RandomDigits.RandomDigits, Codes.point, Modes.IsPickBy, Modes.takes_next}
use Rattle.small_formats.specs.PicksBy.{IsCodePickBy, IsPointPickBy}
use Rattle.small_formats.proofs.{CodePicks.code_picks_by, IndexPicks.index_pick_once, ModesOnce.pick_by_once}
use Rattle.small_formats.proofs.OneAnswer.{AreSame, code_is}
use Rattle.small_formats.proofs.{Points.one_number, Points.points_in_order, RandomCounts.picks_of_model}
use Rattle.p3109_formats.specs.{Laws.AreCodePicksPicks, Laws.IsProjectedOnce, ModeLaws.AreProjectionsOfModes}
use Rattle.p3109_formats.specs.{ModeLaws.IsProjectedByOnce, ModeConversions.IsIntoProjectionBy}
use Rattle.p3109_formats.specs.{ModeConversions.IsProjectedNumberBy, Projections.IsCodeOf}
use Rattle.p3109_formats.specs.Projections.{IsCodePick, IsIntoProjection, IsPointPick, IsProjectedNumber, IsProjection}
use Rattle.p3109_formats.specs.Projections.{is_negative_code, largest_index, magnitude_of, nan_code, projected_datum}
use Rattle.p3109_formats.specs.Projections.{projected_format, projected_status, projected_value, sign_bits}
use Rattle.p3109_formats.specs.{Projections.unsigned_codes, declared.descriptor.Descriptor.Descriptor}
use Rattle.p3109_formats.specs.declared.rules.ProjectionRound.{ProjectionRound, TheVariants.By, TheVariants.StochasticB}
use Rattle.p3109_formats.specs.declared.rules.{ProjectionRound.TheVariants.StochasticC, ProjectionRule.ProjectionRule}
use Rattle.p3109_formats.specs.declared.rules.Saturation.{Saturation, TheVariants.Finite, TheVariants.Overflow}
use Rattle.p3109_formats.specs.{declared.rules.Saturation.TheVariants.Propagate, Rules.IsInfinityBy}
use Rattle.p3109_formats.specs.Rules.{IsRandomPick, IsRulePick, passes, plain_rule, reaches_next, round_of}
use Rattle.p3109_formats.proofs.Codes.{four_codes}

-- ---- picks

pub point_pick_once : (p : ℕ) (mode : ConversionRound) (negative : Bool) (amount parts i j : ℕ) → 0 < p
    → IsPointPickBy p mode negative amount parts i → IsPointPickBy p mode negative amount parts j → i ≡ j
point_pick_once p mode negative amount parts i j some = by_digits (eqb p 1)
  where
    by_digits : (one : Bool) → MatchBool one (IsCodePickBy p mode negative amount parts i)
        (IsPickBy p mode negative amount parts (point p i))
        → MatchBool one (IsCodePickBy p mode negative amount parts j)
        (IsPickBy p mode negative amount parts (point p j)) → i ≡ j
    by_digits true x y =
        index_pick_once (takes_next mode negative) (point p) amount parts i j
        (λ a b less. points_in_order p a b some less) x y
    by_digits false x y = one_number p i j some (pick_by_once p mode negative amount parts (point p i) (point p j) x y)

pub random_pick_once : (p : ℕ) (mode : Round) (bits : RandomDigits) (amount parts i j : ℕ) → 0 < p
    → IsRandomPick p mode bits amount parts i → IsRandomPick p mode bits amount parts j → i ≡ j
random_pick_once p mode bits amount parts i j some x y =
    index_pick_once (λ below above odd. reaches_next mode bits below above) (point p) amount parts i j
    (λ a b less. points_in_order p a b some less) x y

rule_pick_once : (p : ℕ) (round : ProjectionRound) (negative : Bool) (amount parts i j : ℕ) → 0 < p
    → IsRulePick p round negative amount parts i → IsRulePick p round negative amount parts j → i ≡ j
rule_pick_once p (By mode) negative amount parts i j some x y =
    point_pick_once p mode negative amount parts i j some x y
rule_pick_once p (StochasticB bits) negative amount parts i j some x y =
    random_pick_once p NearestTiesToAway bits amount parts i j some x y
rule_pick_once p (StochasticC bits) negative amount parts i j some x y =
    random_pick_once p NearestTiesToEven bits amount parts i j some x y

-- ---- codes

-- what a code is, by what it means
abbrev pub datum_by : (unknown past negative : Bool) → ℕ → Datum
datum_by unknown past negative n = cond unknown (nan false 0) (cond past (infinite negative) (finite negative n))

unknown_is : (unknown past negative : Bool) (n : ℕ) → is_nan (datum_by unknown past negative n) ≡ unknown
unknown_is true past negative n = refl
unknown_is false true negative n = refl
unknown_is false false negative n = refl

past_is : (past negative : Bool) (n : ℕ) → is_infinite (datum_by false past negative n) ≡ past
past_is true negative n = refl
past_is false negative n = refl

sign_is : (past negative : Bool) (n : ℕ) → is_negative (datum_by false past negative n) ≡ negative
sign_is true negative n = refl
sign_is false negative n = refl

-- a code below the sign and its sign; without a sign, the code itself
pub parts_of_code : (c : Descriptor) (code : ℕ) → IsProjection c → code < 2 ^ c.bits
    → code ≡ cond (is_negative_code c code) (unsigned_codes c) 0 + magnitude_of c code
parts_of_code c code law l = by_sign c.signed refl
  where
    by_sign : (signed : Bool) → c.signed ≡ signed
        → code ≡ cond (is_negative_code c code) (unsigned_codes c) 0 + magnitude_of c code
    by_sign true e =
        let width : sign_bits c ≡ 1 = ap (λ (s : Bool). cond s 1 0) e in
        let half : unsigned_codes c ≡ 2 ^ (c.bits - 1) = ap (λ (n : ℕ). 2 ^ (c.bits - n)) width in
        let double : 2 * 2 ^ (c.bits - 1) ≡ 2 ^ c.bits = twice_half c.bits (omega (arith, law.bits_low)) in
        code_is (unsigned_codes c) code (omega (arith, l, half, double))
        ∙ ap (λ (s : Bool). cond (s && leb (unsigned_codes c) code) (unsigned_codes c) 0 + magnitude_of c code) (sym e)
    by_sign false e =
        let width : sign_bits c ≡ 0 = ap (λ (s : Bool). cond s 1 0) e in
        let all : unsigned_codes c ≡ 2 ^ c.bits = ap (λ (n : ℕ). 2 ^ (c.bits - n)) width
        ∙ ap (λ (n : ℕ). 2 ^ n) (let z : c.bits - 0 ≡ c.bits = omega arith in z) in
        let itself : magnitude_of c code ≡ code = mod-eq_of_lt (omega (arith, l, all)) in
        let added : magnitude_of c code ≡ 0 + magnitude_of c code = omega arith in
        sym itself ∙ added
        ∙ ap (λ (s : Bool). cond (s && leb (unsigned_codes c) code) (unsigned_codes c) 0 + magnitude_of c code) (sym e)

-- a code that is no NaN and past the largest number is the infinity
pub infinity_index : (c : Descriptor) (code : ℕ) → IsProjection c → code < 2 ^ c.bits → eqb code (nan_code c) ≡ false
    → largest_index c < magnitude_of c code → magnitude_of c code ≡ largest_index c + 1
infinity_index c code law l other past =
    let below = mod_below code (unsigned_codes c) (pow_pos (c.bits - sign_bits c)) in
    by_cases c.signed c.extended (unsigned_codes c) (magnitude_of c code) (is_negative_code c code)
    (four_codes c law) below (parts_of_code c code law l) refl other past
  where
    last : (code codes m : ℕ) → 4 ≤ codes → m < codes → code ≡ 0 + m → codes - 1 - 1 - 1 < m → (code ≡ codes - 1 → ⊥)
        → m ≡ codes - 1 - 1 - 1 + 1
    last code codes m four below is past n =
        ⊎_elim (λ (k : m < codes - 1). omega (arith, k, past, four))
        (λ (k : codes - 1 ≤ m). absurd (n (omega (arith, k, below, is)))) (cases_lt m (codes - 1))

    by_cases : (signed extended : Bool) (codes m : ℕ) (negative : Bool) → 4 ≤ codes → m < codes
        → code ≡ cond negative codes 0 + m → (signed && leb codes code) ≡ negative
        → eqb code (cond signed codes (codes - 1)) ≡ false → codes - 1 - cond signed 0 1 - cond extended 1 0 < m
        → m ≡ codes - 1 - cond signed 0 1 - cond extended 1 0 + 1
    by_cases true true codes m negative four below is sign other past = omega (arith, below, past)
    by_cases true false codes m negative four below is sign other past = absurd (omega (arith, below, past))
    by_cases false extended codes m true four below is sign other past = absurd (false≢true sign)
    by_cases false true codes m false four below is sign other past =
        let no_nan : code ≡ codes - 1 → ⊥ = λ e. absurd (false≢true (sym other ∙ eq-eqb code (codes - 1) e)) in
        last code codes m four below is past no_nan
    by_cases false false codes m false four below is sign other past =
        let e : code ≡ codes - 1 = omega (arith, below, is, past) in
        absurd (false≢true (sym other ∙ eq-eqb code (codes - 1) e))

-- no two codes mean one datum
pub projected_code_once : (c : Descriptor) (code other : ℕ) → IsProjection c → code < 2 ^ c.bits → other < 2 ^ c.bits
    → projected_datum c code ≡ projected_datum c other → code ≡ other
projected_code_once c code other law l k e =
    let m : ℕ = magnitude_of c code in
    let n : ℕ = magnitude_of c other in
    let nans : eqb code (nan_code c) ≡ eqb other (nan_code c) =
    sym (unknown_is (eqb code (nan_code c)) (ltb (largest_index c) m) (is_negative_code c code) (point c.precision m))
    ∙ ap is_nan e
    ∙ unknown_is (eqb other (nan_code c)) (ltb (largest_index c) n) (is_negative_code c other) (point c.precision n) in
    ⊎_elim
    (λ (q : code ≡ nan_code c). q ∙ sym (eqb-true other (nan_code c) (sym nans ∙ eq-eqb code (nan_code c) q)))
    (λ (q : code ≡ nan_code c → ⊥).
    let off = ne_eqb code (nan_code c) q in
    both_known c code other law l k off (sym nans ∙ off) (rw (off, sym nans ∙ off) at e))
    (cases_eq code (nan_code c))
  where
    same_index : (c : Descriptor) (code other : ℕ) → IsProjection c → code < 2 ^ c.bits → other < 2 ^ c.bits
        → eqb code (nan_code c) ≡ false → eqb other (nan_code c) ≡ false → (past also : Bool) (negative : Bool)
        → ltb (largest_index c) (magnitude_of c code) ≡ past → ltb (largest_index c) (magnitude_of c other) ≡ also
        → past ≡ also → quanta_of (datum_by false past negative (point c.precision (magnitude_of c code)))
        ≡ quanta_of (datum_by false also negative (point c.precision (magnitude_of c other)))
        → magnitude_of c code ≡ magnitude_of c other
    same_index c code other law l k isnt none true true negative p a same e =
        infinity_index c code law l isnt (ltb-true _ _ p) ∙ sym (infinity_index c other law k none (ltb-true _ _ a))
    same_index c code other law l k isnt none true false negative p a same e = cc
    same_index c code other law l k isnt none false true negative p a same e = cc
    same_index c code other law l k isnt none false false negative p a same e =
        one_number c.precision (magnitude_of c code) (magnitude_of c other) law.precision_low e

    both_known : (c : Descriptor) (code other : ℕ) → IsProjection c → code < 2 ^ c.bits
        → other < 2 ^ c.bits → eqb code (nan_code c) ≡ false → eqb other (nan_code c) ≡ false
        → datum_by false (ltb (largest_index c) (magnitude_of c code)) (is_negative_code c code)
        (point c.precision (magnitude_of c code))
        ≡ datum_by false (ltb (largest_index c) (magnitude_of c other)) (is_negative_code c other)
        (point c.precision (magnitude_of c other)) → code ≡ other
    both_known c code other law l k isnt none e =
        let past : Bool = ltb (largest_index c) (magnitude_of c code) in
        let also : Bool = ltb (largest_index c) (magnitude_of c other) in
        let same = sym (past_is past _ _) ∙ ap is_infinite e ∙ past_is also _ _ in
        let sign = sym (sign_is past _ _) ∙ ap is_negative e ∙ sign_is also _ _ in
        let e' = rw sign at e in
        let index = same_index c code other law l k isnt none past also (is_negative_code c other) refl refl same
        (ap quanta_of e') in
        parts_of_code c code law l ∙ ap (λ (b : Bool). cond b (unsigned_codes c) 0 + magnitude_of c code) sign
        ∙ ap (λ (n : ℕ). cond (is_negative_code c other) (unsigned_codes c) 0 + n) index
        ∙ sym (parts_of_code c other law k)

-- ---- conversions

given_once : (c : Descriptor) (given : Datum) (bits : ℕ) (lossy : Bool) (code other status flags : ℕ)
    (loses lost : Bool) → IsProjection c → code < 2 ^ c.bits → other < 2 ^ c.bits
    → IsCodeOf c given bits lossy code status loses → IsCodeOf c given bits lossy other flags lost
    → AreSame code status loses other flags lost
given_once c given bits lossy code other status flags loses lost law l k x y = (
  projected_code_once c code other law l k (x.value_is ∙ sym y.value_is),
  x.status_is ∙ sym y.status_is,
  x.loses_is ∙ sym y.loses_is,
)

number_once : (c : Descriptor) (f : Format) (rule : ProjectionRule) (b : Bool) (n code other status flags : ℕ)
    (loses lost : Bool) → IsProjection c → code < 2 ^ c.bits → other < 2 ^ c.bits
    → IsProjectedNumberBy c f rule b n code status loses → IsProjectedNumberBy c f rule b n other flags lost
    → AreSame code status loses other flags lost
number_once c f rule b n code other status flags loses lost law l k x y =
    let v = x.is_rounded in
    let w = y.is_rounded in
    let round = round_of rule.round in
    let leads : Bool = passes rule.saturation (leads_out round b) in
    let same : v.index ≡ w.index =
    rule_pick_once c.precision rule.round b _ (2 ^ f.scale) v.index w.index law.precision_low v.is_pick w.is_pick in
    let told : status ≡ flags =
    v.status_is ∙ ap (λ (i : ℕ). projected_status c round b _ (2 ^ f.scale) i) same ∙ sym w.status_is in (
      projected_code_once c code other law l k
          (v.value_is ∙ ap (λ (i : ℕ). projected_value c leads b i) same ∙ sym w.value_is),
      told,
      x.loses_is ∙ ap (λ (s : ℕ). not (eqb s ok_bits)) told ∙ sym y.loses_is,
    )

infinity_once : (c : Descriptor) (saturation : Saturation) (b : Bool) (code other status flags : ℕ) (loses lost : Bool)
    → IsProjection c → code < 2 ^ c.bits → other < 2 ^ c.bits → IsInfinityBy saturation c b code status loses
    → IsInfinityBy saturation c b other flags lost → AreSame code status loses other flags lost
infinity_once c saturation b code other status flags loses lost law l k = by_rule saturation
  where
    plain : (extended : Bool) → MatchBool extended (IsCodeOf c (infinite b) 0 false code status loses)
        (IsCodeOf c (nan false 0) 16 true code status loses)
        → MatchBool extended (IsCodeOf c (infinite b) 0 false other flags lost)
        (IsCodeOf c (nan false 0) 16 true other flags lost) → AreSame code status loses other flags lost
    plain true x y = given_once c _ _ _ code other status flags loses lost law l k x y
    plain false x y = given_once c _ _ _ code other status flags loses lost law l k x y

    by_rule : (saturation : Saturation) → IsInfinityBy saturation c b code status loses
        → IsInfinityBy saturation c b other flags lost → AreSame code status loses other flags lost
    by_rule Overflow x y = plain c.extended x y
    by_rule Finite x y = given_once c _ _ _ code other status flags loses lost law l k x y
    by_rule Propagate x y = plain c.extended x y

pub projected_by_once : IsProjectedByOnce
projected_by_once c f rule (nan b s) code other status flags loses lost law l k x y =
    given_once c _ _ _ code other status flags loses lost law l k x y
projected_by_once c f rule (infinite b) code other status flags loses lost law l k x y = by_sign (b && not c.signed) x y
  where
    by_sign : (none : Bool) → MatchBool none (IsCodeOf c (nan false 0) 1 true code status loses)
        (IsInfinityBy rule.saturation c b code status loses)
        → MatchBool none (IsCodeOf c (nan false 0) 1 true other flags lost)
        (IsInfinityBy rule.saturation c b other flags lost) → AreSame code status loses other flags lost
    by_sign true x y = given_once c _ _ _ code other status flags loses lost law l k x y
    by_sign false x y = infinity_once c rule.saturation b code other status flags loses lost law l k x y
projected_by_once c f rule (finite b zero) code other status flags loses lost law l k x y =
    given_once c _ _ _ code other status flags loses lost law l k x y
projected_by_once c f rule (finite b (suc n)) code other status flags loses lost law l k x y =
    let some : eqb (suc n) 0 ≡ false = ne_eqb (suc n) 0 (λ e. omega (arith, e)) in
    number_once c f rule b (suc n) code other status flags loses lost law l k
    (MatchBool-at_false _ _ some x) (MatchBool-at_false _ _ some y)

-- ---- the five modes

-- a pick of the model, and one of a mode of conversions
point_pick_of : (p : ℕ) (mode : Round) (negative : Bool) (amount parts index : ℕ)
    → IsPointPickBy p (Ieee mode) negative amount parts index → IsPointPick p mode negative amount parts index
point_pick_of p mode negative amount parts index = by_digits (eqb p 1)
  where
    by_digits : (one : Bool) → MatchBool one (IsCodePickBy p (Ieee mode) negative amount parts index)
        (IsPickBy p (Ieee mode) negative amount parts (point p index))
        → MatchBool one (IsCodePick p mode negative amount parts index)
        (IsPick p mode negative amount parts (point p index))
    by_digits true x = x
    by_digits false x = picks_of_model p mode negative amount parts (point p index) x

point_pick_by : (p : ℕ) (mode : Round) (negative : Bool) (amount parts index : ℕ)
    → IsPointPick p mode negative amount parts index → IsPointPickBy p (Ieee mode) negative amount parts index
point_pick_by p mode negative amount parts index = by_digits (eqb p 1)
  where
    by_digits : (one : Bool) → MatchBool one (IsCodePick p mode negative amount parts index)
        (IsPick p mode negative amount parts (point p index))
        → MatchBool one (IsCodePickBy p (Ieee mode) negative amount parts index)
        (IsPickBy p (Ieee mode) negative amount parts (point p index))
    by_digits true x = x
    by_digits false x =
        record { below = x.below; above = x.above; is_below = x.is_below; is_above = x.is_above; is = x.is }

pub code_picks : AreCodePicksPicks
code_picks p mode negative amount parts index two some x =
    picks_of_model p mode negative amount parts (point p index)
    (code_picks_by p (Ieee mode) negative amount parts index two some x)

-- only a number is rounded
by_number : (none : Bool) (A C D : Type 0) → (C → D) → MatchBool none A C → MatchBool none A D
by_number true A C D h x = x
by_number false A C D h x = h x

pub projections_of_modes : AreProjectionsOfModes
projections_of_modes c f mode (nan b s) code status loses x = x
projections_of_modes c f mode (infinite b) code status loses x = x
projections_of_modes c f mode (finite b n) code status loses x =
    by_number (eqb n 0) _ _ _
    (λ (y : IsProjectedNumberBy c f (plain_rule (Ieee mode)) b n code status loses).
    let r = y.is_rounded in
    let p = point_pick_of c.precision mode b (n * 2 ^ (projected_format c).scale) (2 ^ f.scale) r.index r.is_pick in
    record {
      is_rounded = record { index = r.index; is_pick = p; value_is = r.value_is; status_is = r.status_is };
      loses_is = y.loses_is;
    }) x

modes_of_projection : (c : Descriptor) (f : Format) (mode : Round) (x : Datum) (code status : ℕ) (loses : Bool)
    → IsIntoProjection c f mode x code status loses
    → IsIntoProjectionBy c f (plain_rule (Ieee mode)) x code status loses
modes_of_projection c f mode (nan b s) code status loses x = x
modes_of_projection c f mode (infinite b) code status loses x = x
modes_of_projection c f mode (finite b n) code status loses x =
    by_number (eqb n 0) _ _ _
    (λ (y : IsProjectedNumber c f mode b n code status loses).
    let r = y.is_rounded in
    let p = point_pick_by c.precision mode b (n * 2 ^ (projected_format c).scale) (2 ^ f.scale) r.index r.is_pick in
    record {
      is_rounded = record { index = r.index; is_pick = p; value_is = r.value_is; status_is = r.status_is };
      loses_is = y.loses_is;
    }) x

pub projected_once : IsProjectedOnce
projected_once c f mode x code other status flags loses lost law l k y z =
    projected_by_once c f (plain_rule (Ieee mode)) x code other status flags loses lost law l k
    (modes_of_projection c f mode x code status loses y) (modes_of_projection c f mode x other flags lost z)
