-- Conversions by the modes of conversions into `e3m4`, by way of the format with one bit of exponent more, and into
-- `e4m3fn` without a sign.
use Rattle.std.proofs.Common.{◌≡◌, ℕ, zero, suc, ◌*◌, ◌%◌, ◌^◌, ◌<◌, ◌≤◌, Bool, true, false, cond, eqb, ltb, sym, refl}
use Rattle.std.proofs.Common.{ap, ◌∙◌, subst, ⊎_elim, arith, lit≤}
use Rattle.std.proofs.{Math.Nat.le_of_mul-le-mul_right, lemmas.Bool.MatchBool-at_false, lemmas.Nat.pow_pos}
use Rattle.std.proofs.lemmas.Bool.{cases_lt, eqb-true, false≢true, le-ltb, lt-ltb, ltb-true, ne_eqb}
use Rattle.apfloat_model.specs.declared.kinds.Round.{Round, TheVariants.NearestTiesToEven, TheVariants.TowardZero}
use Rattle.apfloat_model.specs.arithmetic.Conversions.{IsConversion}
use Rattle.apfloat_model.specs.formats.{Datum.Datum, Datum.finite, Datum.infinite, Datum.nan, Format.Format}
use Rattle.apfloat_model.specs.order.Classes.{is_finite, is_negative, quanta_of}
use Rattle.apfloat_model.specs.rounding.Grid.{IsAbove, IsBelow, IsOnGrid}
use Rattle.apfloat_model.specs.rounding.Rounding.{delivered_status, delivered_value, leads_out}
use Rattle.round_to_odd.specs.Odd.{is_odd_below, odd_between}
use Rattle.small_formats.specs.{Float8E3M4.e3m4_format, Float8E3M4.wide_format, Modes.ieee_mode}
use Rattle.small_formats.specs.declared.modes.ConversionRound.{ConversionRound}
use Rattle.small_formats.specs.declared.modes.ConversionRound.TheVariants.{Ieee, Stochastic, ToOdd}
use Rattle.small_formats.specs.stochastic.ModeConversions.{IsConversionBy, IsDeliveredBy, IsNumberBy}
use Rattle.small_formats.proofs.{stochastic_lemmas.NumbersBy.number_by, ScaleModes.some_quanta}
use Rattle.small_formats.proofs.NarrowCodes.{IsSided, lost_past, narrow_delivered, past_narrow, picked_quanta}
use Rattle.small_formats.proofs.NarrowCodes.{quanta_finite, within_both, within_converted, past_converted}

-- ---- what is not rounded

pub special_by : (f g : Format) (mode : ConversionRound) (x value : Datum) (status : ℕ) (loses : Bool)
    → is_finite x ≡ false → IsConversion f g (ieee_mode mode) x value status loses
    → IsConversionBy f g mode x value status loses
special_by f g mode (finite b n) value status loses number h = absurd (false≢true (sym number))
special_by f g mode (infinite b) value status loses number h = h
special_by f g mode (nan b s) value status loses number h = h

-- ---- what is delivered in the wide format tells the pick

-- 992 quanta are 15.5
record IsPickTold (pick : ℕ) (value : Datum) : Type 0 where
  within : is_finite value ≡ true → quanta_of value ≤ 992 → pick ≤ 992
  past : (is_finite value ≡ true → 992 < quanta_of value) → 992 < pick

pick_told : (mode : Round) (b : Bool) (pick : ℕ) (value : Datum)
    → value ≡ delivered_value wide_format mode b pick → IsPickTold pick value
pick_told mode b pick value is =
    let shown : is_finite value ≡ true → (quanta_of value ≤ pick) × (quanta_of value ≤ 992 → pick ≤ 992) =
    λ number. subst (λ (v : Datum). (quanta_of v ≤ pick) × (quanta_of v ≤ 992 → pick ≤ 992)) (sym is)
    (picked_quanta mode b (ltb 253952 pick) (eqb pick 0) (leads_out mode b) pick
    (sym (ap is_finite is) ∙ number) (λ e. ltb-true 253952 pick e) (λ e. eqb-true pick 0 e)) in
    record {
      within = λ number low. (shown number).1 low;
      past = λ more.
          ⊎_elim
          (λ (l : 253952 < pick). omega (arith, l))
          (λ (l : pick ≤ 253952).
          let inside : ltb 253952 pick ≡ false = le-ltb 253952 pick l in
          let number : is_finite value ≡ true = ap is_finite is ∙ rw inside (quanta_finite (eqb pick 0) b pick) in
          omega (arith, more number, (shown number).0))
          (cases_lt 253952 pick);
    }

-- ---- at most 15.5

-- the odd one of two neighbours is not below the lower one
odd_least : (below above : ℕ) → below ≤ above → below ≤ odd_between below above
odd_least below above l = either (is_odd_below below above)
  where
    either : (odd : Bool) → below ≤ cond odd below above
    either true = omega arith
    either false = l

ordered : (below above amount parts : ℕ) → 0 < parts → IsBelow 5 below amount parts → IsAbove 5 above amount parts
    → below ≤ above
ordered below above amount parts some x y =
    let between : below * parts ≤ above * parts = omega (arith, x.not_above, y.not_below) in
    le_of_mul-le-mul_right between some

within_delivered : (mode : ConversionRound) (b : Bool) (amount parts : ℕ) (value : Datum) (status : ℕ) → 0 < parts
    → is_finite value ≡ true → quanta_of value ≤ 992 → IsDeliveredBy wide_format mode b amount parts value status
    → IsDeliveredBy e3m4_format mode b amount parts value status
within_delivered (Ieee mode) b amount parts value status some number low d =
    narrow_delivered mode b amount parts value status d ((pick_told mode b d.pick value d.value_is).within number low)
within_delivered ToOdd b amount parts value status some number low d =
    let pick : ℕ = odd_between d.below d.above in
    let most = (pick_told TowardZero b pick value d.value_is).within number low in
    let least = odd_least d.below d.above (ordered d.below d.above amount parts some d.is_below d.is_above) in
    record {
      below = d.below;
      above = d.above;
      is_below = d.is_below;
      is_above = d.is_above;
      value_is = d.value_is ∙ (within_both TowardZero b amount parts pick most).0;
      status_is = d.status_is ∙ (within_both TowardZero b amount parts d.below (omega (arith, least, most))).1;
    }
within_delivered (Stochastic bits) b amount parts value status some number low d =
    let most = (pick_told NearestTiesToEven b d.pick value d.value_is).within number low in
    let same = within_both NearestTiesToEven b amount parts d.pick most in
    record { pick = d.pick; is_pick = d.is_pick; value_is = d.value_is ∙ same.0; status_is = d.status_is ∙ same.1 }

-- ---- past 15.5

largest_on_grid : IsOnGrid 5 992
largest_on_grid = record { significand = 31; place = 5; fits = lit≤ tt; is = refl }

-- the status toward zero, of a magnitude whose upper neighbour is past 15.5
odd_status : (b : Bool) (amount parts below above : ℕ) → 0 < parts → IsBelow 5 below amount parts
    → IsAbove 5 above amount parts → 992 < odd_between below above
    → delivered_status e3m4_format TowardZero b amount parts below ≡ 16
odd_status b amount parts below above some x y past =
    ⊎_elim
    (λ (l : 992 < below). let out : ltb 992 below ≡ true = lt-ltb 992 below l in rw out refl)
    (λ (l : below ≤ 992).
    let high : 992 < above = upper (is_odd_below below above) past l in
    let more : 992 * parts < amount =
    ⊎_elim
    (λ (k : 992 * parts < amount). k)
    (λ (k : amount ≤ 992 * parts).
    let least = y.least 992 largest_on_grid k in absurd (omega (arith, least, high)))
    (cases_lt (992 * parts) amount) in
    let least : 992 ≤ below = x.greatest 992 largest_on_grid (omega (arith, more)) in
    let same : below ≡ 992 = omega (arith, l, least) in
    let off : eqb (992 * parts) amount ≡ false = ne_eqb (992 * parts) amount (λ e. omega (arith, e, more)) in
    rw (same, off) refl)
    (cases_lt 992 below)
  where
    upper : (odd : Bool) → 992 < cond odd below above → below ≤ 992 → 992 < above
    upper true p l = absurd (omega (arith, p, l))
    upper false p l = p

past_delivered : (mode : ConversionRound) (b : Bool) (amount parts : ℕ) (given value : Datum) (flags status : ℕ)
    → 0 < parts → (is_finite given ≡ true → 992 < quanta_of given)
    → IsDeliveredBy wide_format mode b amount parts given flags
    → value ≡ cond (leads_out (ieee_mode mode) b) (infinite b) (finite b 992)
    → status ≡ cond (leads_out (ieee_mode mode) b) 20 16 → IsDeliveredBy e3m4_format mode b amount parts value status
past_delivered (Ieee mode) b amount parts given value flags status some more d v s =
    past_narrow mode b amount parts given value flags status d ((pick_told mode b d.pick given d.value_is).past more)
    v s
past_delivered ToOdd b amount parts given value flags status some more d v s =
    let pick : ℕ = odd_between d.below d.above in
    let high : 992 < pick = (pick_told TowardZero b pick given d.value_is).past more in
    let past : ltb 992 pick ≡ true = lt-ltb 992 pick high in
    record {
      below = d.below;
      above = d.above;
      is_below = d.is_below;
      is_above = d.is_above;
      value_is = rw past v;
      status_is = s ∙ sym (odd_status b amount parts d.below d.above some d.is_below d.is_above high);
    }
past_delivered (Stochastic bits) b amount parts given value flags status some more d v s =
    let high : 992 < d.pick = (pick_told NearestTiesToEven b d.pick given d.value_is).past more in
    let past : ltb 992 d.pick ≡ true = lt-ltb 992 d.pick high in
    record { pick = d.pick; is_pick = d.is_pick; value_is = rw past v; status_is = rw past s }

-- ---- the conversion

number_of : (f g : Format) (mode : ConversionRound) (b : Bool) (n : ℕ) (value : Datum) (status : ℕ) (loses : Bool)
    → IsConversionBy f g mode (finite b (suc n)) value status loses → IsNumberBy f g mode b (suc n) value status loses
number_of f g mode b n value status loses x =
    MatchBool-at_false _ (IsNumberBy f g mode b (suc n) value status loses) (some_quanta n) x

pub within_by : (f : Format) (mode : ConversionRound) (x given : Datum) (status code : ℕ) (loses : Bool)
    → is_finite x ≡ true → IsSided code given → code % 256 < 112
    → IsConversionBy f wide_format mode x given status loses → IsConversionBy f e3m4_format mode x given status loses
within_by f mode (finite b zero) given status code loses number side low h =
    within_converted f (ieee_mode mode) (finite b zero) given status code loses number side low h
within_by f mode (finite b (suc n)) given status code loses number side low h =
    let k = number_of f wide_format mode b n given status loses h in
    let at = side.low low in
    number_by f e3m4_format mode b n given status loses
    (record {
      is_delivered = within_delivered mode b (suc n * 2 ^ e3m4_format.scale) (2 ^ f.scale) given status
          (pow_pos f.scale) at.0 at.1 k.is_delivered;
      loses_is = k.loses_is;
    })
within_by f mode (infinite b) given status code loses number side low h = absurd (false≢true number)
within_by f mode (nan b s) given status code loses number side low h = absurd (false≢true number)

pub past_by : (f : Format) (mode : ConversionRound) (x given value : Datum) (flags status code : ℕ) (lost : Bool)
    → is_finite x ≡ true → IsSided code given → 112 ≤ code % 256 → IsConversionBy f wide_format mode x given flags lost
    → value ≡ cond (leads_out (ieee_mode mode) (is_negative x)) (infinite (is_negative x)) (finite (is_negative x) 992)
    → status ≡ cond (leads_out (ieee_mode mode) (is_negative x)) 20 16
    → IsConversionBy f e3m4_format mode x value status true
past_by f mode (finite b zero) given value flags status code lost number side high h v s =
    past_converted f (ieee_mode mode) (finite b zero) given value flags status code lost number side high h v s
past_by f mode (finite b (suc n)) given value flags status code lost number side high h v s =
    let k = number_of f wide_format mode b n given flags lost h in
    number_by f e3m4_format mode b n value status true
    (record {
      is_delivered = past_delivered mode b (suc n * 2 ^ e3m4_format.scale) (2 ^ f.scale) given value flags status
          (pow_pos f.scale) (λ given_number. side.high high given_number) k.is_delivered v s;
      loses_is = lost_past (leads_out (ieee_mode mode) b) status s;
    })
past_by f mode (infinite b) given value flags status code lost number side high h v s = absurd (false≢true number)
past_by f mode (nan b t) given value flags status code lost number side high h v s = absurd (false≢true number)
