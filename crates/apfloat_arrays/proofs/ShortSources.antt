-- A value and the value of six digits that it becomes when it is rounded to odd are converted alike.
use Rattle.std.proofs.Common.{◌≡◌, ℕ, ◌+◌, ◌-◌, ◌*◌, ◌/◌, ◌%◌, ◌^◌, ◌<◌, ◌≤◌}
use Rattle.std.proofs.Common.{◌⊎◌, Bool, true, false, not, ◌&&◌, eqb, cond, if◌then◌else◌, List, []}
use Rattle.std.proofs.Common.{◌∷◌, suc, length, get_or, lit<, refl, sym, ap, ◌∙◌, subst, inl, inr, ⊎_elim}
use Rattle.std.proofs.{Common.arith, Math.Nat.add-mul-mod_self_right, Math.Nat.div-div-eq-div-mul}
use Rattle.std.proofs.Math.Nat.{div-mul-le_self, lt-div-mul-add, mul-add-div_right, mul-le-mul_right}
use Rattle.std.proofs.Math.Nat.{mul-lt-mul_of_pos_right, mod-eq_of_lt, mod-le, mul-pos, mul_comm, one-mul}
use Rattle.std.proofs.{Math.Nat.pow-le-pow_right, Math.Nat.zero-div, Math.Nat.zero-mod, lemmas.Int.ints}
use Rattle.std.proofs.lemmas.Nat.{div-add-mod', div_below, le-div, mod_below, pow-add, pow_pos}
use Rattle.std.proofs.lemmas.Bool.{cases_eq, eq-eqb, eqb-true, ne_eqb, true≢false, MatchBool-at_false}
use Rattle.std.specs.Bool.{MatchBool}
use Rattle.apfloat_model.specs.declared.kinds.NonfiniteBehavior.{NonfiniteBehavior, TheVariants.IEEE754}
use Rattle.apfloat_model.specs.rounding.RoundingToOdd.{odd_for_rest, odd_quotient}
use Rattle.apfloat_model.proofs.general.{Choices.cond_same, Choices.not_zero, Powers.two_pos}
use Rattle.apfloat_model.proofs.rounding.{Laws.exact_above, Neighbours.above_is_next, Neighbours.below_is}
use Rattle.rustc_apfloat.specs.{declared.Round.Round, Format.Format, Datum.Datum, Datum.finite, Datum.infinite}
use Rattle.rustc_apfloat.specs.{Datum.nan, Flags.bits_of, Lawful.Constants, Lawful.HasBits, Lawful.HasNoBits}
use Rattle.rustc_apfloat.specs.{Lawful.IsLawful, Lawful.format_with, Lawful.layout_with, Layout.datum_of}
use Rattle.rustc_apfloat.specs.Conversions.{IsConversion, IsConvertedNumber, IsKept, loses_zero_sign}
use Rattle.rustc_apfloat.specs.Rounding.{IsDelivered, zero_sign}
use Rattle.rustc_apfloat.specs.{Grid.IsBelow, Enclosure.IsEnclosed, Standing.reads_halves}
use Rattle.round_to_odd.specs.{Again.HasRoomFor, Odd.is_odd_below, Odd.odd_between}
use Rattle.round_to_odd.proofs.OddPoints.{AgreesAtEven, odd_agrees, odd_below_is}
use Rattle.round_to_odd.proofs.RoundedOnce.{delivered_once_more}
use Rattle.apfloat_arrays.specs.{declared.converted.Converted.Converted, Bytes.number_of}
use Rattle.apfloat_arrays.specs.ShortSources.{IsCoarseFor, IsShortFor, is_nan_of, short_of}
use Rattle.apfloat_arrays.specs.Values.{IsAnswerFrom}
use Rattle.apfloat_arrays.proofs.FarNumbers.{scale_is}
use Rattle.small_formats.specs.declared.saturation.saturation.Overflow.{Overflow}
use Rattle.small_formats.specs.declared.saturation.saturation.Overflow.TheVariants.{Rounded, Saturated, Finite}
use Rattle.small_formats.specs.saturation.Saturation.{IsConversionBy}
use Rattle.fast_bits.proofs.lanes_lemmas.{Cuts.exact_odd, Cuts.inexact_odd, ScaledNumbers.odd_some}

-- ---- the quotient rounded to odd

-- the odd one of two consecutive multiples
odd_of_two : (q w : ℕ) (odd : Bool) → eqb (q % 2) 1 ≡ odd → cond odd (q * w) ((q + 1) * w) ≡ (q + 1 - q % 2) * w
odd_of_two q w true e =
    let one : q % 2 ≡ 1 = eqb-true (q % 2) 1 e in
    let same : q ≡ q + 1 - q % 2 = omega (arith, one) in ap (λ (n : ℕ). n * w) same
odd_of_two q w false e =
    ⊎_elim
    (λ (one : q % 2 ≡ 1). absurd (true≢false (sym (eq-eqb (q % 2) 1 one) ∙ e)))
    (λ (other : q % 2 ≡ 1 → ⊥).
    let none : q % 2 ≡ 0 = omega (arith, other) in
    let same : q + 1 ≡ q + 1 - q % 2 = omega (arith, none) in ap (λ (n : ℕ). n * w) same)
    (cases_eq (q % 2) 1)

-- a significand of six digits and more, counted in units of u, and its quotient at a place
module _ (u m c : ℕ) (unit : 0 < u) (fits : m < 64 * u) (full : (c ≡ 0) ⊎ (32 * u ≤ m)) where
  enclosed : IsEnclosed 6 (2 ^ 5) (m / u) c (m * 2 ^ c) u
  enclosed =
      let low : m / u * u ≤ m = div-mul-le_self m u in
      let high : m < m / u * u + u = lt-div-mul-add unit in
      let from : m / u * u * 2 ^ c ≤ m * 2 ^ c = mul-le-mul_right (2 ^ c) low in
      let to : m * 2 ^ c < (m / u * u + u) * 2 ^ c = mul-lt-mul_of_pos_right high (pow_pos c) in
      record {
        double = refl;
        fits = div_below m u 64 unit fits;
        full = ⊎_elim (λ (z : c ≡ 0). inl z) (λ (f : 32 * u ≤ m). inr (le-div 32 m u unit f)) full;
        from = omega (arith, from);
        to = omega (arith, to);
      }

  below : IsBelow 6 (m / u * 2 ^ c) (m * 2 ^ c) u
  below = below_is 6 (2 ^ 5) (m / u) c (m * 2 ^ c) u enclosed

  exact_point : m % u ≡ 0 → AgreesAtEven 5 (m * 2 ^ c) u (odd_quotient m u * 2 ^ c)
  exact_point none =
      let parts : m / u * u + m % u ≡ m = div-add-mod' m u in
      let whole : m ≡ m / u * u = omega (arith, parts, none) in
      let placed : m * 2 ^ c ≡ m / u * u * 2 ^ c = ap (λ (n : ℕ). n * 2 ^ c) whole in
      let above = exact_above 6 (m / u * 2 ^ c) (m * 2 ^ c) u unit below.on_grid (omega (arith, placed)) in
      let same : odd_between (m / u * 2 ^ c) (m / u * 2 ^ c) ≡ odd_quotient m u * 2 ^ c =
      sym (cond_same (is_odd_below (m / u * 2 ^ c) (m / u * 2 ^ c)) (m / u * 2 ^ c))
      ∙ ap (λ (n : ℕ). n * 2 ^ c) (sym (exact_odd (m / u) (m % u) none)) in
      subst (λ (n : ℕ). AgreesAtEven 5 (m * 2 ^ c) u n) same
      (odd_agrees 6 (m / u * 2 ^ c) (m / u * 2 ^ c) (m * 2 ^ c) u (omega arith) unit below above)

  inexact_point : (m % u ≡ 0 → ⊥) → AgreesAtEven 5 (m * 2 ^ c) u (odd_quotient m u * 2 ^ c)
  inexact_point some =
      let parts : m / u * u + m % u ≡ m = div-add-mod' m u in
      let less : m / u * u < m = omega (arith, parts, some) in
      let placed : m / u * u * 2 ^ c < m * 2 ^ c = mul-lt-mul_of_pos_right less (pow_pos c) in
      let above = above_is_next 6 (2 ^ 5) (m / u) c (m * 2 ^ c) u enclosed (omega (arith, placed)) in
      let same : odd_between (m / u * 2 ^ c) ((m / u + 1) * 2 ^ c) ≡ odd_quotient m u * 2 ^ c =
      odd_of_two (m / u) (2 ^ c) (is_odd_below (m / u * 2 ^ c) ((m / u + 1) * 2 ^ c)) (sym (odd_below_is (m / u) c))
      ∙ ap (λ (n : ℕ). n * 2 ^ c) (sym (inexact_odd (m / u) (m % u) some)) in
      subst (λ (n : ℕ). AgreesAtEven 5 (m * 2 ^ c) u n) same
      (odd_agrees 6 (m / u * 2 ^ c) ((m / u + 1) * 2 ^ c) (m * 2 ^ c) u (omega arith) unit below above)

  pub odd_point : AgreesAtEven 5 (m * 2 ^ c) u (odd_quotient m u * 2 ^ c)
  odd_point = ⊎_elim exact_point inexact_point (cases_eq (m % u) 0)

-- ---- what is delivered

-- a format of six digits with this scale, and with the flags of another
abbrev short_format : ℕ → Format → Format
short_format scale g =
    record {
      precision = 6;
      scale = scale;
      span = g.precision + g.span + scale;
      nonfinite = IEEE754;
      explicit_integer_bit = false;
      tiny_before_rounding = false;
      ieee_flags = g.ieee_flags;
    }

-- at most four digits, and a quantum of at least eight of 2 ^ -scale
pub record IsCoarseFormat (scale : ℕ) (g : Format) : Type 0 where
  pub low : 3 ≤ g.precision
  pub high : g.precision ≤ 4
  pub quantum : g.scale + 3 ≤ scale

quantum_room : (test : Bool) (coarse scale : ℕ) → coarse + 3 ≤ scale → coarse + (if test then 3 else 2) ≤ scale
quantum_room true coarse scale h = h
quantum_room false coarse scale h = omega (arith, h)

short_room : (scale : ℕ) (g : Format) → IsCoarseFormat scale g → HasRoomFor g (short_format scale g)
short_room scale g is =
    record {
      kind = refl;
      digits = omega (arith, is.high);
      quantum = quantum_room (reads_halves g) g.scale scale is.quantum;
      exponents = omega arith;
      flags = refl;
    }

-- what is delivered for the quotient is delivered for the number
pub delivered_alike : (g : Format) (mode : Round) (negative : Bool) (cut m c scale : ℕ) (value : Datum) (status : ℕ)
    → IsCoarseFormat scale g → m < 64 * 2 ^ cut → (c ≡ 0) ⊎ (32 * 2 ^ cut ≤ m)
    → IsDelivered g mode negative (odd_quotient m (2 ^ cut) * 2 ^ c * 2 ^ g.scale) (2 ^ scale) value status
    → IsDelivered g mode negative (m * 2 ^ c * 2 ^ g.scale) (2 ^ (scale + cut)) value status
delivered_alike g mode negative cut m c scale value status coarse fits full short =
    let parts : 2 ^ (scale + cut) ≡ 2 ^ cut * 2 ^ scale = pow-add 2 scale cut ∙ mul_comm (2 ^ scale) (2 ^ cut) in
    subst (λ (n : ℕ). IsDelivered g mode negative (m * 2 ^ c * 2 ^ g.scale) n value status) (sym parts)
    (delivered_once_more (short_format scale g) g mode negative (m * 2 ^ c) (2 ^ cut) (odd_quotient m (2 ^ cut) * 2 ^ c)
    value status coarse.low (short_room scale g coarse) (odd_point (2 ^ cut) m c (pow_pos cut) fits full) short)

-- ---- conversions

-- if the number with m quanta of h is rounded like the number with n quanta of f, it is converted like it
rounded_alike : (f h g : Format) (mode : Round) (negative : Bool) (n m : ℕ) (value : Datum) (status : ℕ) (loses : Bool)
    → 0 < n → 0 < m
    → ((v : Datum) (s : ℕ) → IsDelivered g mode negative (m * 2 ^ g.scale) (2 ^ h.scale) v s
    → IsDelivered g mode negative (n * 2 ^ g.scale) (2 ^ f.scale) v s)
    → IsConversion h g mode (finite negative m) value status loses
    → IsConversion f g mode (finite negative n) value status loses
rounded_alike f h g mode negative n m value status loses p q alike x =
    let y : IsConvertedNumber h g mode negative m value status loses = MatchBool-at_false _ _ (not_zero m q) x in
    subst
    (λ (b : Bool). MatchBool b
    (IsKept (finite (zero_sign g.nonfinite negative) 0) (loses_zero_sign g negative) value status loses)
    (IsConvertedNumber f g mode negative n value status loses)) (sym (not_zero n p))
    (record { is_delivered = alike value status y.is_delivered; loses_is = y.loses_is })

number_alike : (overflow : Overflow) (f h g : Format) (mode : Round) (negative : Bool) (n m : ℕ) (value : Datum)
    (status : ℕ) (loses : Bool) → 0 < n → 0 < m
    → ((v : Datum) (s : ℕ) → IsDelivered g mode negative (m * 2 ^ g.scale) (2 ^ h.scale) v s
    → IsDelivered g mode negative (n * 2 ^ g.scale) (2 ^ f.scale) v s)
    → IsConversionBy overflow h g mode (finite negative m) value status loses
    → IsConversionBy overflow f g mode (finite negative n) value status loses
number_alike Rounded f h g mode negative n m value status loses p q alike x =
    rounded_alike f h g mode negative n m value status loses p q alike x
number_alike Saturated f h g mode negative n m value status loses p q alike x =
    record {
      rounded = x.rounded;
      is_conversion = rounded_alike f h g mode negative n m x.rounded status loses p q alike x.is_conversion;
      value_is = x.value_is;
    }
number_alike (Finite nans) f h g mode negative n m value status loses p q alike x =
    record {
      rounded = x.rounded;
      is_conversion = rounded_alike f h g mode negative n m x.rounded status loses p q alike x.is_conversion;
      value_is = x.value_is;
    }

-- zeros and infinities of both formats are converted alike
zero_alike : (overflow : Overflow) (f h g : Format) (mode : Round) (negative : Bool) (value : Datum) (status : ℕ)
    (loses : Bool) → IsConversionBy overflow h g mode (finite negative 0) value status loses
    → IsConversionBy overflow f g mode (finite negative 0) value status loses
zero_alike Rounded f h g mode negative value status loses x = x
zero_alike Saturated f h g mode negative value status loses x =
    record { rounded = x.rounded; is_conversion = x.is_conversion; value_is = x.value_is }
zero_alike (Finite nans) f h g mode negative value status loses x =
    record { rounded = x.rounded; is_conversion = x.is_conversion; value_is = x.value_is }

infinite_alike : (overflow : Overflow) (f h g : Format) (mode : Round) (negative : Bool) (value : Datum) (status : ℕ)
    (loses : Bool) → IsConversionBy overflow h g mode (infinite negative) value status loses
    → IsConversionBy overflow f g mode (infinite negative) value status loses
infinite_alike Rounded f h g mode negative value status loses x = x
infinite_alike Saturated f h g mode negative value status loses x =
    record { rounded = x.rounded; is_conversion = x.is_conversion; value_is = x.value_is }
infinite_alike (Finite nans) f h g mode negative value status loses x = x

-- ---- fields

-- the datum with these fields, where the greatest biased exponent is `top` and the integer bit counts `one`
abbrev read : ℕ → ℕ → Bool → ℕ → ℕ → Datum
read top one negative biased trailing =
    if eqb biased top
    then (if eqb trailing 0 then infinite negative else nan negative trailing)
    else (if eqb biased 0
    then finite negative trailing
    else finite negative ((one + trailing) * 2 ^ (biased - 1)))

read_infinite : (top one : ℕ) (negative : Bool) (biased trailing : ℕ) → biased ≡ top → trailing ≡ 0
    → read top one negative biased trailing ≡ infinite negative
read_infinite top one negative biased trailing e z = rw (eq-eqb biased top e, eq-eqb trailing 0 z) refl

read_small : (top one : ℕ) (negative : Bool) (biased trailing : ℕ) → (biased ≡ top → ⊥) → biased ≡ 0
    → read top one negative biased trailing ≡ finite negative trailing
read_small top one negative biased trailing n z = rw (ne_eqb biased top n, eq-eqb biased 0 z) refl

read_normal : (top one : ℕ) (negative : Bool) (biased trailing : ℕ) → (biased ≡ top → ⊥) → (biased ≡ 0 → ⊥)
    → read top one negative biased trailing ≡ finite negative ((one + trailing) * 2 ^ (biased - 1))
read_normal top one negative biased trailing n z = rw (ne_eqb biased top n, ne_eqb biased 0 z) refl

-- the odd quotient of a sum with a multiple of an even number of units
odd_above : (u h t : ℕ) → 0 < u → odd_quotient (2 * h * u + t) u ≡ 2 * h + odd_quotient t u
odd_above u h t unit =
    let q : (2 * h * u + t) / u ≡ 2 * h + t / u = mul-add-div_right unit (2 * h) t in
    let swap : 2 * h * u + t ≡ t + 2 * h * u = omega arith in
    let r : (2 * h * u + t) % u ≡ t % u = ap (λ (n : ℕ). n % u) swap ∙ add-mul-mod_self_right t (2 * h) u in
    ap (λ (n : ℕ). odd_for_rest n ((2 * h * u + t) % u)) q ∙ ap (λ (n : ℕ). odd_for_rest (2 * h + t / u) n) r
    ∙ ⊎_elim {C = odd_for_rest (2 * h + t / u) (t % u) ≡ 2 * h + odd_for_rest (t / u) (t % u)}
    (λ (z : t % u ≡ 0).
    exact_odd (2 * h + t / u) (t % u) z ∙ ap (λ (n : ℕ). 2 * h + n) (sym (exact_odd (t / u) (t % u) z)))
    (λ (n : t % u ≡ 0 → ⊥).
    inexact_odd (2 * h + t / u) (t % u) n
    ∙ (let s : 2 * h + t / u + 1 - (2 * h + t / u) % 2 ≡ 2 * h + (t / u + 1 - t / u % 2) = even_apart h (t / u) in s)
    ∙ ap (λ (k : ℕ). 2 * h + k) (sym (inexact_odd (t / u) (t % u) n)))
    (cases_eq (t % u) 0)
  where
    even_apart : (h a : ℕ) → 2 * h + a + 1 - (2 * h + a) % 2 ≡ 2 * h + (a + 1 - a % 2)
    even_apart h a = omega arith

odd_of_zero : (u t : ℕ) → 0 < u → t ≡ 0 → odd_quotient t u ≡ 0
odd_of_zero u t unit z = ap (λ (n : ℕ). odd_quotient n u) z ∙ exact_odd (0 / u) (0 % u) (zero-mod u) ∙ zero-div u

module _ (overflow : Overflow) (f h g : Format) (mode : Round) (cut : ℕ) (coarse : IsCoarseFormat h.scale g)
    (scale : f.scale ≡ h.scale + cut) where
  small_alike : (negative : Bool) (trailing short : ℕ) (value : Datum) (status : ℕ) (loses : Bool)
      → trailing < 32 * 2 ^ cut → short ≡ odd_quotient trailing (2 ^ cut)
      → IsConversionBy overflow h g mode (finite negative short) value status loses
      → IsConversionBy overflow f g mode (finite negative trailing) value status loses
  small_alike negative trailing short value status loses low is x =
      let At : Format → ℕ → Type 0 = λ k n. IsConversionBy overflow k g mode (finite negative n) value status loses in
      ⊎_elim {C = At f trailing}
      (λ (z : trailing ≡ 0).
      subst (At f) (sym z)
      (zero_alike overflow f h g mode negative value status loses
      (subst (At h) (is ∙ odd_of_zero (2 ^ cut) trailing (pow_pos cut) z) x)))
      (λ (some : trailing ≡ 0 → ⊥).
      let p : 0 < trailing = omega (arith, some) in
      let q : 0 < short = subst (λ (n : ℕ). 0 < n) (sym is) (odd_some trailing (2 ^ cut) (pow_pos cut) p) in
      let fits : trailing < 64 * 2 ^ cut = omega (arith, low) in
      let short_unit : short ≡ odd_quotient trailing (2 ^ cut) * 2 ^ 0 =
      is ∙ (let one : odd_quotient trailing (2 ^ cut) ≡ odd_quotient trailing (2 ^ cut) * 2 ^ 0 = times_one _ in one) in
      number_alike overflow f h g mode negative trailing short value status loses p q
      (λ v s d.
      subst (λ (n : ℕ). IsDelivered g mode negative (n * 2 ^ g.scale) (2 ^ f.scale) v s) (omega arith)
      (subst (λ (n : ℕ). IsDelivered g mode negative (trailing * 2 ^ 0 * 2 ^ g.scale) (2 ^ n) v s) (sym scale)
      (delivered_alike g mode negative cut trailing 0 h.scale v s coarse fits (inl refl)
      (subst (λ (n : ℕ). IsDelivered g mode negative (n * 2 ^ g.scale) (2 ^ h.scale) v s) short_unit d))))
      x)
      (cases_eq trailing 0)
    where
      times_one : (n : ℕ) → n ≡ n * 2 ^ 0
      times_one n = omega arith

  normal_alike : (negative : Bool) (place trailing short : ℕ) (value : Datum) (status : ℕ) (loses : Bool)
      → trailing < 32 * 2 ^ cut → short ≡ odd_quotient trailing (2 ^ cut)
      → IsConversionBy overflow h g mode (finite negative ((2 ^ 5 + short) * 2 ^ place)) value status loses
      → IsConversionBy overflow f g mode (finite negative ((32 * 2 ^ cut + trailing) * 2 ^ place)) value status loses
  normal_alike negative place trailing short value status loses low is x =
      let whole : 2 ^ 5 + short ≡ odd_quotient (32 * 2 ^ cut + trailing) (2 ^ cut) =
      ap (λ (n : ℕ). 2 ^ 5 + n) is ∙ sym (odd_above (2 ^ cut) (2 ^ 4) trailing (pow_pos cut)) in
      let u : 0 < 2 ^ cut = pow_pos cut in
      let some : 0 < 32 * 2 ^ cut + trailing = omega (arith, u) in
      let some_short : 0 < 2 ^ 5 + short = omega arith in
      let fits : 32 * 2 ^ cut + trailing < 64 * 2 ^ cut = omega (arith, low) in
      number_alike overflow f h g mode negative ((32 * 2 ^ cut + trailing) * 2 ^ place) ((2 ^ 5 + short) * 2 ^ place)
      value status loses (mul-pos some (pow_pos place)) (mul-pos some_short (pow_pos place))
      (λ v s d.
      subst (λ (n : ℕ). IsDelivered g mode negative ((32 * 2 ^ cut + trailing) * 2 ^ place * 2 ^ g.scale) (2 ^ n) v s)
      (sym scale)
      (delivered_alike g mode negative cut (32 * 2 ^ cut + trailing) place h.scale v s coarse fits (inr (omega arith))
      (subst (λ (n : ℕ). IsDelivered g mode negative (n * 2 ^ place * 2 ^ g.scale) (2 ^ h.scale) v s) whole d))) x

  -- values with the same sign and exponent are converted alike
  pub fields_alike : (top : ℕ) (negative : Bool) (biased trailing short : ℕ) (value : Datum) (status : ℕ)
      (loses : Bool) → trailing < 32 * 2 ^ cut → short ≡ odd_quotient trailing (2 ^ cut)
      → (biased ≡ top → trailing ≡ 0)
      → IsConversionBy overflow h g mode (read top (2 ^ 5) negative biased short) value status loses
      → IsConversionBy overflow f g mode (read top (32 * 2 ^ cut) negative biased trailing) value status loses
  fields_alike top negative biased trailing short value status loses low is number x =
      let At : Format → Datum → Type 0 = λ k d. IsConversionBy overflow k g mode d value status loses in
      ⊎_elim {C = At f (read top (32 * 2 ^ cut) negative biased trailing)}
      (λ (e : biased ≡ top).
      let z = number e in
      subst (At f) (sym (read_infinite top (32 * 2 ^ cut) negative biased trailing e z))
      (infinite_alike overflow f h g mode negative value status loses
      (subst (At h)
      (read_infinite top (2 ^ 5) negative biased short e (is ∙ odd_of_zero (2 ^ cut) trailing (pow_pos cut) z)) x)))
      (λ (n : biased ≡ top → ⊥).
      ⊎_elim {C = At f (read top (32 * 2 ^ cut) negative biased trailing)}
      (λ (z : biased ≡ 0).
      subst (At f) (sym (read_small top (32 * 2 ^ cut) negative biased trailing n z))
      (small_alike negative trailing short value status loses low is
      (subst (At h) (read_small top (2 ^ 5) negative biased short n z) x)))
      (λ (z : biased ≡ 0 → ⊥).
      subst (At f) (sym (read_normal top (32 * 2 ^ cut) negative biased trailing n z))
      (normal_alike negative (biased - 1) trailing short value status loses low is
      (subst (At h) (read_normal top (2 ^ 5) negative biased short n z) x)))
      (cases_eq biased 0))
      (cases_eq biased top)

-- ---- bits

-- a number whose last digit is made odd is unchanged above that digit
odd_high : (q r : ℕ) → odd_for_rest q r / 32 ≡ q / 32
odd_high q r = by_rest (cases_eq r 0)
  where
    by_rest : (r ≡ 0) ⊎ (r ≡ 0 → ⊥) → odd_for_rest q r / 32 ≡ q / 32
    by_rest (inl z) = ap (λ (n : ℕ). n / 32) (exact_odd q r z)
    by_rest (inr n) = let e = inexact_odd q r n in ap (λ (k : ℕ). k / 32) e ∙ same q
      where
        same : (a : ℕ) → (a + 1 - a % 2) / 32 ≡ a / 32
        same a = omega arith

odd_low : (q r : ℕ) → odd_for_rest q r % 32 ≡ odd_for_rest (q % 32) r
odd_low q r = by_rest (cases_eq r 0)
  where
    by_rest : (r ≡ 0) ⊎ (r ≡ 0 → ⊥) → odd_for_rest q r % 32 ≡ odd_for_rest (q % 32) r
    by_rest (inl z) = ap (λ (n : ℕ). n % 32) (exact_odd q r z) ∙ sym (exact_odd (q % 32) r z)
    by_rest (inr n) = ap (λ (k : ℕ). k % 32) (inexact_odd q r n) ∙ same q ∙ sym (inexact_odd (q % 32) r n)
      where
        same : (a : ℕ) → (a + 1 - a % 2) % 32 ≡ a % 32 + 1 - a % 32 % 2
        same a = omega arith

-- the fields of the short value: those above the trailing digits are the same, and these are rounded to odd
short_high : (x u : ℕ) → odd_quotient x u / 32 ≡ x / (32 * u)
short_high x u = odd_high (x / u) (x % u) ∙ div-div-eq-div-mul x u 32 ∙ ap (λ (n : ℕ). x / n) (mul_comm u 32)

short_trailing : (x u : ℕ) → 0 < u → odd_quotient x u % 32 ≡ odd_quotient (x % (32 * u)) u
short_trailing x u unit =
    let split : x / (32 * u) * (32 * u) + x % (32 * u) ≡ x = div-add-mod' x (32 * u) in
    let low : x % (32 * u) < 32 * u = mod_below x (32 * u) (omega (arith, unit)) in
    let some : x / (32 * u) * 32 * u + x % (32 * u) ≡ x = omega (arith, split) in
    let q : x / u ≡ x / (32 * u) * 32 + x % (32 * u) / u =
    ap (λ (n : ℕ). n / u) (sym some) ∙ mul-add-div_right unit (x / (32 * u) * 32) (x % (32 * u)) in
    let swap : x % (32 * u) + x / (32 * u) * 32 * u ≡ x = omega (arith, some) in
    let r : x % u ≡ x % (32 * u) % u =
    ap (λ (n : ℕ). n % u) (sym swap) ∙ add-mul-mod_self_right (x % (32 * u)) (x / (32 * u) * 32) u in
    let few : x % (32 * u) / u < 32 = div_below (x % (32 * u)) u 32 unit low in
    let m : x / u % 32 ≡ x % (32 * u) / u = omega (arith, q, few) in
    odd_low (x / u) (x % u) ∙ ap (λ (n : ℕ). odd_for_rest n (x % u)) m
    ∙ ap (λ (n : ℕ). odd_for_rest (x % (32 * u) / u) n) r

-- the sign is at the same place from the exponent up
short_sign : (x exp_bits cut : ℕ) → odd_quotient x (2 ^ cut) / 2 ^ (exp_bits + 5) ≡ x / 2 ^ (exp_bits + (5 + cut))
short_sign x exp_bits cut =
    let short : 2 ^ (exp_bits + 5) ≡ 32 * 2 ^ exp_bits = pow-add 2 exp_bits 5 ∙ mul_comm (2 ^ exp_bits) 32 in
    let long = pow-add 2 exp_bits (5 + cut) ∙ mul_comm (2 ^ exp_bits) (2 ^ (5 + cut)) in
    let power : 2 ^ (5 + cut) ≡ 32 * 2 ^ cut = pow-add 2 5 cut in
    ap (λ (n : ℕ). odd_quotient x (2 ^ cut) / n) short
    ∙ sym (div-div-eq-div-mul (odd_quotient x (2 ^ cut)) 32 (2 ^ exp_bits))
    ∙ ap (λ (n : ℕ). n / 2 ^ exp_bits) (short_high x (2 ^ cut))
    ∙ ap (λ (n : ℕ). x / n / 2 ^ exp_bits) (sym power)
    ∙ div-div-eq-div-mul x (2 ^ (5 + cut)) (2 ^ exp_bits) ∙ ap (λ (n : ℕ). x / n) (sym long)

-- constants with some of their parts, and the rest of others
abbrev with_parts : Constants → ℕ → ℕ → ℕ → NonfiniteBehavior → Bool → Constants
with_parts c bits exp_bits precision nonfinite explicit =
    record {
      bits = bits;
      exp_bits = exp_bits;
      precision = precision;
      nonfinite = nonfinite;
      max_exp = c.max_exp;
      ieee_max_exp = c.ieee_max_exp;
      min_exp = c.min_exp;
      ieee_min_exp = c.ieee_min_exp;
      nan_significand_base = c.nan_significand_base;
      nan_payload_mask = c.nan_payload_mask;
      qnan_significand = c.qnan_significand;
      explicit_integer_bit = explicit;
      tiny_before_rounding = c.tiny_before_rounding;
      ieee_flags = c.ieee_flags;
    }

-- with this many bits of exponent, and with this many digits beyond six
abbrev like : Constants → ℕ → ℕ → Constants
like c exp_bits cut = with_parts c (exp_bits + (6 + cut)) exp_bits (6 + cut) IEEE754 false

like_is : (c : Constants) (exp_bits cut : ℕ) → c.bits ≡ exp_bits + (6 + cut) → c.exp_bits ≡ exp_bits
    → c.precision ≡ 6 + cut → c.nonfinite ≡ IEEE754 → c.explicit_integer_bit ≡ false → like c exp_bits cut ≡ c
like_is c exp_bits cut bits exponents precision nonfinite implied =
    ap (λ (n : ℕ). with_parts c n exp_bits (6 + cut) IEEE754 false) (sym bits)
    ∙ ap (λ (n : ℕ). with_parts c c.bits n (6 + cut) IEEE754 false) (sym exponents)
    ∙ ap (λ (n : ℕ). with_parts c c.bits c.exp_bits n IEEE754 false) (sym precision)
    ∙ ap (λ (k : NonfiniteBehavior). with_parts c c.bits c.exp_bits c.precision k false) (sym nonfinite)
    ∙ ap (λ (b : Bool). with_parts c c.bits c.exp_bits c.precision c.nonfinite b) (sym implied)

-- the datum that bits encode, by their fields
datum_is : (c : Constants) (exp_bits cut x : ℕ) → like c exp_bits cut ≡ c
    → datum_of (format_with c) (layout_with c) x
    ≡ read (2 ^ exp_bits - 1) (2 ^ (5 + cut)) (eqb (x / 2 ^ (exp_bits + (5 + cut)) % 2) 1)
    (x / 2 ^ (5 + cut) % 2 ^ exp_bits) (x % 2 ^ (5 + cut))
datum_is c exp_bits cut x is =
    let digits : 6 + cut - 1 ≡ 5 + cut = omega arith in
    let sign : exp_bits + (6 + cut) - 1 ≡ exp_bits + (5 + cut) = omega arith in
    subst
    (λ (k : Constants). datum_of (format_with k) (layout_with k) x
    ≡ read (2 ^ exp_bits - 1) (2 ^ (5 + cut)) (eqb (x / 2 ^ (exp_bits + (5 + cut)) % 2) 1)
    (x / 2 ^ (5 + cut) % 2 ^ exp_bits) (x % 2 ^ (5 + cut))) is (rw (digits, sign) refl)

-- the bits of a format whose integer bit is implied are its sign, its exponent and its other digits
pub implied_bits : (c : Constants) → IsLawful c → c.precision < c.bits → c.explicit_integer_bit ≡ false
    → c.bits ≡ c.exp_bits + c.precision
implied_bits c lawful wide implied =
    ⊎_elim {C = c.bits ≡ c.exp_bits + c.precision}
    (λ (none : HasNoBits c). let zero_bits = none.bits in absurd (omega (arith, zero_bits, wide)))
    (λ (some : HasBits c).
    let e : c.bits ≡ c.exp_bits + c.precision + 0 =
    subst (λ (b : Bool). c.bits ≡ c.exp_bits + c.precision + (if b then 1 else 0)) implied some.bits in
    omega (arith, e)) lawful.layout

-- the short value has at most as many bits as its format
pub record AreLow (x unit bound : ℕ) : Type 0 where
  pub whole : x / unit < bound
  pub odd : x / unit + 1 - x / unit % 2 < bound

quotient_low : (x exp_bits cut : ℕ) → x < 2 ^ (exp_bits + (6 + cut)) → AreLow x (2 ^ cut) (2 ^ (exp_bits + 6))
quotient_low x exp_bits cut low =
    let u : 0 < 2 ^ cut = pow_pos cut in
    let power : 2 ^ (exp_bits + 6 + cut) ≡ 2 ^ (exp_bits + 6) * 2 ^ cut = pow-add 2 (exp_bits + 6) cut in
    let same : exp_bits + (6 + cut) ≡ exp_bits + 6 + cut = omega arith in
    let all : 2 ^ (exp_bits + (6 + cut)) ≡ 2 ^ (exp_bits + 6 + cut) = ap (λ (n : ℕ). 2 ^ n) same in
    let within : x < 2 ^ (exp_bits + 6) * 2 ^ cut = omega (arith, low, power, all) in
    let q : x / 2 ^ cut < 2 ^ (exp_bits + 6) = div_below x (2 ^ cut) (2 ^ (exp_bits + 6)) u within in
    let even : 2 ^ (exp_bits + 6) ≡ 2 ^ exp_bits * 64 = pow-add 2 exp_bits 6 in
    record { whole = q; odd = omega (arith, q, even) }

-- the unit as a word holds it
pub short_within : (c z : Constants) (x precision : ℕ) → IsShortFor c z → IsLawful c → IsLawful z
    → c.precision < c.bits → z.precision < z.bits → c.bits ≤ 32 → x < 2 ^ c.bits → precision ≡ c.precision
    → AreLow x (1 * 2 ^ (precision - 6) % 4294967296) (2 ^ z.bits)
short_within c z x precision short lawful_c lawful_z wide_c wide_z few low is =
    let bits = implied_bits c lawful_c wide_c short.implied in
    let width = implied_bits z lawful_z wide_z short.short_implied in
    let k : precision - 6 ≡ c.precision - 6 = ap (λ (n : ℕ). n - 6) is in
    let short_power : c.precision - 6 ≤ 31 = omega (arith, few, wide_c) in
    let small : 2 ^ (c.precision - 6) ≤ 2 ^ 31 = pow-le-pow_right two_pos short_power in
    let fits : 1 * 2 ^ (c.precision - 6) < 4294967296 = omega (arith, small) in
    let unit : 1 * 2 ^ (precision - 6) % 4294967296 ≡ 2 ^ (c.precision - 6) =
    ap (λ (n : ℕ). 1 * 2 ^ n % 4294967296) k ∙ mod-eq_of_lt fits ∙ one-mul (2 ^ (c.precision - 6)) in
    let all : c.bits ≡ z.exp_bits + (6 + (c.precision - 6)) = omega (arith, bits, short.exp_bits, short.more) in
    let bound : 2 ^ (z.exp_bits + 6) ≡ 2 ^ z.bits =
    ap (λ (n : ℕ). 2 ^ n) (let same : z.exp_bits + 6 ≡ z.bits = omega (arith, width, short.digits) in same) in
    subst (λ (n : ℕ). AreLow x n (2 ^ z.bits)) (sym unit)
    (subst (λ (n : ℕ). AreLow x (2 ^ (c.precision - 6)) n) bound
    (quotient_low x z.exp_bits (c.precision - 6) (subst (λ (n : ℕ). x < 2 ^ n) all low)))

-- the number of places in a table
pub places_fit : (n bits : ℕ) → n ≡ bits → bits ≤ 14 → 1 * 2 ^ n % 18446744073709551616 ≤ 16384
places_fit n bits is few =
    let same : 2 ^ n ≡ 2 ^ bits = ap (λ (k : ℕ). 2 ^ k) is in
    let small : 2 ^ bits ≤ 2 ^ 14 = pow-le-pow_right two_pos few in
    let rest : 1 * 2 ^ n % 18446744073709551616 ≤ 1 * 2 ^ n = mod-le (1 * 2 ^ n) 18446744073709551616 in
    omega (arith, same, small, rest)

-- bytes encode a number of their bits
pub number_low : (bytes : List ℕ) → ((i : ℕ) → get_or bytes i 0 < 256) → number_of bytes < 2 ^ (8 * length bytes)
number_low [] bound = lit< tt
number_low (byte ∷ bytes) bound =
    let first : byte < 256 = bound 0 in
    let rest : number_of bytes < 2 ^ (8 * length bytes) = number_low bytes (λ i. bound (suc i)) in
    let e : 8 * suc (length bytes) ≡ 8 * length bytes + 8 = omega arith in
    let power : 2 ^ (8 * suc (length bytes)) ≡ 2 ^ (8 * length bytes) * 256 =
    ap (λ (n : ℕ). 2 ^ n) e ∙ pow-add 2 (8 * length bytes) 8 in
    omega (arith, first, rest, power)

-- a number of at most four bytes
pub record FitsBits (number bits : ℕ) : Type 0 where
  pub below : number < 2 ^ bits
  pub word : number < 4294967296

pub number_fits : (bytes : List ℕ) (number bits : ℕ) → ((i : ℕ) → get_or bytes i 0 < 256)
    → number ≡ number_of bytes → 8 * length bytes ≡ bits → bits ≤ 32 → FitsBits number bits
number_fits bytes number bits bound is size few =
    let low : number_of bytes < 2 ^ (8 * length bytes) = number_low bytes bound in
    let same : 2 ^ (8 * length bytes) ≡ 2 ^ bits = ap (λ (n : ℕ). 2 ^ n) size in
    let small : 2 ^ bits ≤ 2 ^ 32 = pow-le-pow_right two_pos few in
    record { below = omega (arith, low, same, is); word = omega (arith, low, same, is, small) }

-- a value with the greatest exponent that is no NaN has no trailing digits
trailing_of_infinity : (biased top trailing : ℕ) → (eqb biased top && not (eqb trailing 0)) ≡ false → biased ≡ top
    → trailing ≡ 0
trailing_of_infinity biased top trailing number e =
    ⊎_elim (λ (z : trailing ≡ 0). z)
    (λ (n : trailing ≡ 0 → ⊥).
    let t : (eqb biased top && not (eqb trailing 0)) ≡ true = rw (eq-eqb biased top e, ne_eqb trailing 0 n) refl in
    absurd (true≢false (sym t ∙ number)))
    (cases_eq trailing 0)

-- the answer for the short value is that for the value itself
pub short_answers : (overflow : Overflow) (c z d : Constants) (mode : Round) (x : ℕ) (answer : Converted)
    → IsShortFor c z → IsLawful c → IsLawful z → IsLawful d → c.precision < c.bits → z.precision < z.bits
    → IsCoarseFor z d → is_nan_of c x ≡ false
    → IsAnswerFrom overflow z d mode (short_of c x) answer → IsAnswerFrom overflow c d mode x answer
short_answers overflow c z d mode x answer short lawful_c lawful_z lawful_d wide_c wide_z coarse is_number it =
    let more = short.more in
    let exponents = short.exp_bits in
    let bits = implied_bits c lawful_c wide_c short.implied in
    let width = implied_bits z lawful_z wide_z short.short_implied in
    let digits = short.digits in
    let like_c : like c z.exp_bits (c.precision - 6) ≡ c =
    like_is c z.exp_bits (c.precision - 6) (omega (arith, bits, exponents, more)) short.exp_bits (omega (arith, more))
    short.nonfinite short.implied in
    let like_z : like z z.exp_bits 0 ≡ z =
    like_is z z.exp_bits 0 (omega (arith, width, digits)) refl (omega (arith, digits)) short.short_nonfinite
    short.short_implied in
    let power : 2 ^ (5 + (c.precision - 6)) ≡ 32 * 2 ^ (c.precision - 6) = pow-add 2 5 (c.precision - 6) in
    let read_x : datum_of (format_with c) (layout_with c) x
    ≡ read (2 ^ z.exp_bits - 1) (32 * 2 ^ (c.precision - 6))
    (eqb (x / 2 ^ (z.exp_bits + (5 + (c.precision - 6))) % 2) 1)
    (x / (32 * 2 ^ (c.precision - 6)) % 2 ^ z.exp_bits) (x % (32 * 2 ^ (c.precision - 6))) =
    datum_is c z.exp_bits (c.precision - 6) x like_c
    ∙ ap (λ (n : ℕ). read (2 ^ z.exp_bits - 1) n (eqb (x / 2 ^ (z.exp_bits + (5 + (c.precision - 6))) % 2) 1)
    (x / n % 2 ^ z.exp_bits) (x % n)) power in
    let At : Format → Datum → Type 0 = λ f y. IsConversionBy overflow f (format_with d) mode y it.value
    (bits_of answer.outcome.status) it.loses in
    let read_y = subst (At (format_with z)) (datum_is z z.exp_bits 0 (short_of c x) like_z) it.is_conversion in
    let signed : At (format_with z)
    (read (2 ^ z.exp_bits - 1) 32 (eqb (x / 2 ^ (z.exp_bits + (5 + (c.precision - 6))) % 2) 1)
    (short_of c x / 32 % 2 ^ z.exp_bits) (short_of c x % 32)) =
    subst
    (λ (n : ℕ). At (format_with z) (read (2 ^ z.exp_bits - 1) 32 (eqb (n % 2) 1)
    (short_of c x / 32 % 2 ^ z.exp_bits) (short_of c x % 32))) (short_sign x z.exp_bits (c.precision - 6)) read_y in
    let placed : At (format_with z)
    (read (2 ^ z.exp_bits - 1) 32 (eqb (x / 2 ^ (z.exp_bits + (5 + (c.precision - 6))) % 2) 1)
    (x / (32 * 2 ^ (c.precision - 6)) % 2 ^ z.exp_bits) (short_of c x % 32)) =
    subst
    (λ (n : ℕ). At (format_with z)
    (read (2 ^ z.exp_bits - 1) 32 (eqb (x / 2 ^ (z.exp_bits + (5 + (c.precision - 6))) % 2) 1)
    (n % 2 ^ z.exp_bits) (short_of c x % 32))) (short_high x (2 ^ (c.precision - 6))) signed in
    let below_exponent : 2 ^ (c.precision - 1) ≡ 32 * 2 ^ (c.precision - 6) =
    ap (λ (n : ℕ). 2 ^ n) (let same : c.precision - 1 ≡ 5 + (c.precision - 6) = omega (arith, more) in same) ∙ power in
    let number : (eqb (x / (32 * 2 ^ (c.precision - 6)) % 2 ^ z.exp_bits) (2 ^ z.exp_bits - 1)
    && not (eqb (x % (32 * 2 ^ (c.precision - 6))) 0)) ≡ false =
    subst
    (λ (n : ℕ). (eqb (x / (32 * 2 ^ (c.precision - 6)) % 2 ^ n) (2 ^ n - 1)
    && not (eqb (x % (32 * 2 ^ (c.precision - 6))) 0)) ≡ false) short.exp_bits
    (subst
    (λ (n : ℕ). (eqb (x / n % 2 ^ c.exp_bits) (2 ^ c.exp_bits - 1) && not (eqb (x % n) 0)) ≡ false)
    below_exponent is_number) in
    let unit : 0 < 2 ^ (c.precision - 6) = pow_pos (c.precision - 6) in
    let low = mod_below x (32 * 2 ^ (c.precision - 6)) (omega (arith, unit)) in
    let scale_z = scale_is z lawful_z.parameters in
    let scale : (format_with c).scale ≡ (format_with z).scale + (c.precision - 6) =
    omega (arith, ints, scale_is c lawful_c.parameters, scale_z, digits, more, short.least) in
    let scale_d = scale_is d lawful_d.parameters in
    let quantum : (format_with d).scale + 3 ≤ (format_with z).scale =
    omega (arith, ints, scale_d, scale_z, digits, coarse.quantum, lawful_d.parameters.precision_low) in
    let room : IsCoarseFormat (format_with z).scale (format_with d) =
    record { low = lawful_d.parameters.precision_low; high = coarse.precision; quantum = quantum } in
    record {
      value = it.value;
      loses = it.loses;
      is_conversion =
          subst (At (format_with c)) (sym read_x)
          (fields_alike overflow (format_with c) (format_with z) (format_with d) mode (c.precision - 6) room scale
          (2 ^ z.exp_bits - 1) (eqb (x / 2 ^ (z.exp_bits + (5 + (c.precision - 6))) % 2) 1)
          (x / (32 * 2 ^ (c.precision - 6)) % 2 ^ z.exp_bits) (x % (32 * 2 ^ (c.precision - 6)))
          (short_of c x % 32) it.value (bits_of answer.outcome.status) it.loses low
          (short_trailing x (2 ^ (c.precision - 6)) unit)
          (trailing_of_infinity _ _ _ number) placed);
      is_encoded = it.is_encoded;
      nan_is = it.nan_is;
    }
