-- What a conversion in a picked direction is, in the modes of conversions.
use Rattle.std.proofs.Common.{◌≡◌, ℕ, zero, suc, ◌*◌, ◌^◌, ◌<◌, ◌≤◌, Bool, false, cond, eqb}
use Rattle.std.proofs.Common.{not, sym, refl, ap, ◌∙◌, arith, ◌-◌, ◌/◌, ◌%◌}
use Rattle.std.proofs.{Math.Nat.le_of_mul-le-mul_right, lemmas.Bool.MatchBool-at_false, lemmas.Nat.pow_pos}
use Rattle.apfloat_model.specs.declared.kinds.{Category.TheVariants.Normal, Round.Round, Round.TheVariants.TowardZero}
use Rattle.apfloat_model.specs.declared.status.StatusAnd.{StatusAnd}
use Rattle.apfloat_model.specs.arithmetic.Conversions.{IsConversion, IsConvertedNumber}
use Rattle.apfloat_model.specs.formats.{Datum.Datum, Datum.finite, Datum.infinite, Datum.nan, Format.Format}
use Rattle.apfloat_model.specs.order.Classes.{category_of, is_negative, quanta_of}
use Rattle.apfloat_model.specs.rounding.Flags.{Gives, bits_of}
use Rattle.apfloat_model.specs.rounding.Rounding.{IsDelivered, delivered_status, delivered_value, ok_bits}
use Rattle.apfloat_model.proofs.rounding.Neighbours.{below_unique, above_unique}
use Rattle.apfloat_model.proofs.general.Choices.{match_false}
use Rattle.round_to_odd.specs.Odd.{IsToOdd}
use Rattle.small_formats.specs.declared.modes.ConversionRound.{ConversionRound, TheVariants.Stochastic}
use Rattle.small_formats.specs.declared.modes.{ConversionRound.TheVariants.ToOdd, RandomDigits.RandomDigits}
use Rattle.small_formats.specs.stochastic.Directions.{IsDirection, direction, reaches}
use Rattle.small_formats.specs.stochastic.ModeConversions.{IsConversionBy, IsNumberBy, IsRandomlyDelivered}
use Rattle.small_formats.proofs.stochastic_lemmas.DirectedResults.{status_in_direction, takes_direction}
use Rattle.small_formats.proofs.{stochastic_lemmas.DirectedResults.value_in_direction, ScaleModes.some_quanta}

pub converted_number : (f g : Format) (mode : Round) (b : Bool) (n : ℕ) (value : Datum) (status : ℕ) (loses : Bool)
    → IsConversion f g mode (finite b (suc n)) value status loses
    → IsConvertedNumber f g mode b (suc n) value status loses
converted_number f g mode b n value status loses x =
    MatchBool-at_false _ (IsConvertedNumber f g mode b (suc n) value status loses) (some_quanta n) x

pub number_by : (f g : Format) (mode : ConversionRound) (b : Bool) (n : ℕ) (value : Datum) (status : ℕ) (loses : Bool)
    → IsNumberBy f g mode b (suc n) value status loses → IsConversionBy f g mode (finite b (suc n)) value status loses
number_by f g mode b n value status loses x =
    match_false (eqb (suc n) 0) _ (IsNumberBy f g mode b (suc n) value status loses) (some_quanta n) x

-- ---- random digits

pub randomly_delivered : (f : Format) (bits : RandomDigits) (negative away : Bool) (amount parts : ℕ) (value : Datum)
    (status : ℕ) → f.ieee_flags ≡ false → 0 < parts → IsDirection f bits.digits bits.random amount parts away
    → IsDelivered f (direction away negative) negative amount parts value status
    → IsRandomlyDelivered f bits negative amount parts value status
randomly_delivered f bits negative away amount parts value status plain some x d =
    let mode : Round = direction away negative in
    let p = d.is_pick in
    let low : p.below ≡ x.below = below_unique f.precision p.below x.below amount parts p.is_below x.is_below in
    let high : p.above ≡ x.above = above_unique f.precision p.above x.above amount parts p.is_above x.is_above in
    let odd : Bool = eqb (p.below / (p.above - p.below) % 2) 1 in
    let by : ℕ = amount - p.below * parts in
    let to : ℕ = p.above * parts - amount in
    let picked : d.pick ≡ cond away x.above x.below =
    p.is ∙ ap (λ (b : Bool). cond b p.above p.below) (takes_direction away negative odd by to)
    ∙ ap (λ (n : ℕ). cond away n p.below) high ∙ ap (λ (n : ℕ). cond away x.above n) low in
    let takes : Bool = reaches bits.digits bits.random (amount - x.below * parts) (x.above * parts - amount) in
    let between : x.below * parts ≤ x.above * parts = omega (arith, x.is_below.not_above, x.is_above.not_below) in
    let order : x.below ≤ x.above = le_of_mul-le-mul_right between some in
    record {
      pick = cond takes x.above x.below;
      is_pick = record { below = x.below; above = x.above; is_below = x.is_below; is_above = x.is_above; is = refl };
      value_is =
          d.value_is ∙ ap (λ (n : ℕ). delivered_value f mode negative n) picked
          ∙ value_in_direction f negative away takes x.below x.above order x.is;
      status_is =
          d.status_is ∙ ap (λ (n : ℕ). delivered_status f mode negative amount parts n) picked
          ∙ status_in_direction f negative away takes x.below x.above amount parts plain order x.is;
    }

pub randomly_converted : (f g : Format) (bits : RandomDigits) (x value : Datum) (status : ℕ) (loses away : Bool)
    → g.ieee_flags ≡ false → category_of x ≡ Normal
    → IsDirection g bits.digits bits.random (quanta_of x * 2 ^ g.scale) (2 ^ f.scale) away
    → IsConversion f g (direction away (is_negative x)) x value status loses
    → IsConversionBy f g (Stochastic bits) x value status loses
randomly_converted f g bits (nan b s) value status loses away plain e d x = x
randomly_converted f g bits (infinite b) value status loses away plain e d x = x
randomly_converted f g bits (finite b zero) value status loses away plain e d x = x
randomly_converted f g bits (finite b (suc n)) value status loses away plain e d x =
    let y = converted_number f g (direction away b) b n value status loses x in
    number_by f g (Stochastic bits) b n value status loses
    (record {
      is_delivered = randomly_delivered g bits b away (suc n * 2 ^ g.scale) (2 ^ f.scale) value status plain
          (pow_pos f.scale) d y.is_delivered;
      loses_is = y.loses_is;
    })

-- ---- to odd

pub converted_to_odd : (f g : Format) (x : Datum) (truncated answer : StatusAnd Datum) (loses : Bool)
    → category_of x ≡ Normal → IsConversion f g TowardZero x truncated.value (bits_of truncated.status) loses
    → bits_of answer.status ≡ bits_of truncated.status
    → ((amount parts : ℕ) → 0 < parts → Gives (IsDelivered g TowardZero (is_negative x) amount parts) truncated
    → Gives (IsToOdd g (is_negative x) amount parts) answer)
    → IsConversionBy f g ToOdd x answer.value (bits_of answer.status) loses
converted_to_odd f g (nan b s) truncated answer loses e x same odd = cc
converted_to_odd f g (infinite b) truncated answer loses e x same odd = cc
converted_to_odd f g (finite b zero) truncated answer loses e x same odd = cc
converted_to_odd f g (finite b (suc n)) truncated answer loses e x same odd =
    let y = converted_number f g TowardZero b n truncated.value (bits_of truncated.status) loses x in
    number_by f g ToOdd b n answer.value (bits_of answer.status) loses
    (record {
      is_delivered = odd (suc n * 2 ^ g.scale) (2 ^ f.scale) (pow_pos f.scale) y.is_delivered;
      loses_is = y.loses_is ∙ ap (λ (s : ℕ). not (eqb s ok_bits)) (sym same);
    })
