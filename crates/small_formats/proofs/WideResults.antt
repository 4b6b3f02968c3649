-- A result toward zero in a wider format, made odd and then rounded to the storage format, is the exact result rounded
-- once.
use Rattle.std.proofs.Common.{◌≡◌, ℕ, ◌+◌, ◌-◌, ◌*◌, ◌^◌, ◌<◌, ◌≤◌, Bool, true, false, if◌then◌else◌, sym, refl, ap}
use Rattle.std.proofs.Common.{◌∙◌, subst, ⊎_elim, lit<, arith, zero, suc, cond, eqb, ltb, not}
use Rattle.std.proofs.Math.Nat.{eq_of_mul-eq-mul_right, le_of_mul-le-mul_right, lt_of_mul-lt-mul_right, mul-pos}
use Rattle.std.proofs.Math.Nat.{mul-le-mul_right, pow-le-pow_right}
use Rattle.std.proofs.lemmas.{Bool.false≢true, Int.ints, Nat.mod_below, Nat.pow-add, Nat.pow_pos}
use Rattle.std.proofs.lemmas.Bool.{cases_eq, cases_lt, eq-eqb, eqb-true, le-ltb, lt-ltb, ne_eqb, MatchBool-at_false}
use Rattle.std.specs.Prelude.{ℤ, pos, negsuc, ◌+ℤ◌, ◌*ℤ◌}
use Rattle.std.specs.Bool.{MatchBool}
use Rattle.apfloat_model.specs.{declared.status.StatusAnd.StatusAnd, arithmetic.Conversions.IsExactlyConverted}
use Rattle.apfloat_model.specs.declared.kinds.NonfiniteBehavior.{NonfiniteBehavior, TheVariants.IEEE754}
use Rattle.apfloat_model.specs.declared.kinds.Round.{Round, TheVariants.TowardZero}
use Rattle.apfloat_model.specs.arithmetic.Exact.{IsRounded, magnitude, product_sign, sign_of, signed, zero_sum_sign}
use Rattle.apfloat_model.specs.arithmetic.FusedSums.{IsFusedSum, fused_sum}
use Rattle.apfloat_model.specs.arithmetic.Products.{IsProduct, product as product_of}
use Rattle.apfloat_model.specs.arithmetic.Quotients.{IsQuotient, quotient as quotient_of}
use Rattle.apfloat_model.specs.arithmetic.Roots.{IsDeliveredRoot, IsRoot, root as root_of}
use Rattle.apfloat_model.specs.arithmetic.Sums.{IsDifference, IsSum, difference as difference_of, sum as sum_of}
use Rattle.apfloat_model.specs.formats.{Format.Format, Format.largest, Format.nan_base, Nan.qnan}
use Rattle.apfloat_model.specs.formats.Datum.{Datum, finite, infinite, nan}
use Rattle.apfloat_model.specs.order.Classes.{category_of, is_finite, is_negative, quanta_of}
use Rattle.apfloat_model.specs.order.Predicates.{is_finite_category, is_zero_category}
use Rattle.apfloat_model.specs.rounding.{Answer.IsAnswer, Flags.Gives, Flags.bits_of, Grid.IsBelow, Grid.IsAbove}
use Rattle.apfloat_model.specs.rounding.Negation.{negated}
use Rattle.apfloat_model.specs.rounding.Outcome.{Yields, exactly, invalid, rooted, rounded, totalled}
use Rattle.apfloat_model.specs.rounding.Rounding.{IsDelivered, delivered_status, delivered_value, inexact_bit}
use Rattle.apfloat_model.specs.rounding.Rounding.{leads_out, ok_bits, past_largest, zero_sign}
use Rattle.apfloat_model.proofs.{Outcomes.yields_once, formats.Greatest.greatest_full, general.Choices.not_zero}
use Rattle.apfloat_model.proofs.{general.Powers.two_pos, arithmetic.RootDeliveries.root_delivered}
use Rattle.apfloat_model.proofs.arithmetic.RootSides.{AgreesWithRoot, agreeing, coarser}
use Rattle.apfloat_model.proofs.rounding.{Deliveries.signed_some, FarMagnitudes.far_above, FarMagnitudes.largest_below}
use Rattle.apfloat_model.proofs.rounding.{FarMagnitudes.largest_on_grid, Picks.pick_unique}
use Rattle.apfloat_model.proofs.rounding.Laws.{below_le_above, delivered_once, zero_delivered, zero_on_grid}
use Rattle.apfloat_model.proofs.whole_numbers.SignedNumbers.{largest_some, negated_is}
use Rattle.apfloat_model.proofs.whole_numbers.SignedProducts.{magnitude-times, sign_times, signed_times, sum_times}
use Rattle.round_to_odd.specs.Odd.{IsAnswerMadeOdd, IsToOdd, has_flag, is_odd_below, odd_between}
use Rattle.round_to_odd.proofs.{SameDeliveries.pick_same, SameDeliveries.same_delivered, Sides.same_sides}
use Rattle.round_to_odd.proofs.MadeOdd.{odd_of_truncated}
use Rattle.round_to_odd.proofs.OddPoints.{AgreesAtEven, moved_on_grid, odd_agrees, wider_grid}
use Rattle.round_to_odd.proofs.RootFractions.{fraction_delivered, moved_agrees, root_some}
use Rattle.small_formats.specs.Arithmetic.{IsStored, IsStoredOnce, stored_datum}
use Rattle.small_formats.specs.Codes.{datum_of, is_negative_code, largest_index, magnitude_of, point}
use Rattle.small_formats.specs.Conversions.{IsInto, IsSaturated, IsStoredNumber}
use Rattle.small_formats.specs.Storage.{StorageConstants, IsLawfulStorage, format_with}
use Rattle.small_formats.proofs.{OneAnswer.code_once, Points.point_on_grid}
use Rattle.small_formats.proofs.StoredPicks.{largest_point, not_greater}
use Rattle.small_formats.proofs.blocks_lemmas.SameFractions.{delivered_across, same_fraction}

-- a format with more digits and exponents, and how many of its quanta a quantum of the storage format is
pub record IsWider (c : StorageConstants) (f : Format) (times : ℕ) : Type 0 where
  pub law : IsLawfulStorage c
  pub kind : f.nonfinite ≡ IEEE754
  pub digits : c.precision + 2 ≤ f.precision
  pub quantum : (format_with c).scale + 3 ≤ f.scale
  pub exponents : c.precision + (format_with c).span + f.scale + 1 ≤ f.precision + f.span + (format_with c).scale
  pub some : 0 < times
  pub scale : 2 ^ f.scale ≡ times * 2 ^ (format_with c).scale

-- the greatest value of the wider format is past the numbers of the storage format
largest_far : (c : StorageConstants) (f : Format) (times : ℕ) → IsWider c f times
    → 2 ^ (c.precision + (format_with c).span) * 2 ^ f.scale ≤ largest f * 2 ^ (format_with c).scale
largest_far c f times w =
    let g : Format = format_with c in let p : ℕ = f.precision - 1 in
    let digits = w.digits in let more = w.exponents in
    let a : 2 ^ p * 2 ^ f.span ≤ largest f = mul-le-mul_right (2 ^ f.span)
    (greatest_full f.nonfinite f.precision (omega (arith, digits, w.law.precision_low))) in
    let b : 2 ^ p * 2 ^ f.span * 2 ^ g.scale ≤ largest f * 2 ^ g.scale = mul-le-mul_right (2 ^ g.scale) a in
    let d : 2 ^ (c.precision + g.span + f.scale) ≤ 2 ^ (p + f.span + g.scale) =
    pow-le-pow_right two_pos (omega (arith, digits, more)) in
    let u = pow-add 2 (c.precision + g.span) f.scale in
    omega (arith, b, d, u, pow-add 2 (p + f.span) g.scale ∙ ap (λ (n : ℕ). n * 2 ^ g.scale) (pow-add 2 p f.span))

abbrev pub wide_format : Format
wide_format =
    record {
      precision = 53;
      scale = 2 ^ 20 + 52;
      span = 2 ^ 21;
      nonfinite = IEEE754;
      explicit_integer_bit = false;
      tiny_before_rounding = false;
      ieee_flags = false;
    }

pub wide : (c : StorageConstants) → IsLawfulStorage c
    → IsWider c wide_format (2 ^ (wide_format.scale - (format_with c).scale))
wide c law =
    let few : c.bits - c.precision ≤ 6 = omega (arith, law.precision_low, law.bits_high) in
    let power : 2 ^ (c.bits - c.precision) ≤ 2 ^ 6 = pow-le-pow_right two_pos few in
    let quantum : (format_with c).scale + 3 ≤ wide_format.scale =
    omega (arith, ints, law.exponent, law.bits_high, law.min_exp_low, law.min_exp_high) in
    record {
      law = law;
      kind = refl;
      digits = omega (arith, law.exponent, law.bits_high);
      quantum = quantum;
      exponents = omega (arith, ints, power, law.exponent, law.bits_high, law.min_exp_high);
      some = pow_pos (wide_format.scale - (format_with c).scale);
      scale =
          let e : wide_format.scale ≡ wide_format.scale - (format_with c).scale + (format_with c).scale =
          omega (arith, quantum) in
          ap (λ (n : ℕ). 2 ^ n) e ∙ pow-add 2 (wide_format.scale - (format_with c).scale) (format_with c).scale;
    }

-- a number that is converted exactly
pub widened_is : (c : StorageConstants) (f : Format) → IsWider c f (2 ^ (f.scale - (format_with c).scale))
    → (code : ℕ) (value : Datum) (status : ℕ) (loses : Bool)
    → IsExactlyConverted (format_with c) f (datum_of c code) value status loses
    → value ≡ finite (is_negative_code c code)
    (point c.precision (magnitude_of c code) * 2 ^ (f.scale - (format_with c).scale))
widened_is c f w code value status loses x =
    let g : Format = format_with c in let low = w.law.precision_low in let digits = w.digits in
    let i : ℕ = magnitude_of c code in let m : ℕ = point c.precision i in
    let k : ℕ = 2 ^ (f.scale - g.scale) in let top : ℕ = 2 ^ (c.precision + g.span) in
    let below = mod_below code (2 ^ (c.bits - 1)) (pow_pos (c.bits - 1)) in
    let most : m ≤ largest g = subst (λ (n : ℕ). m ≤ n) (largest_point c w.law)
    (not_greater c.precision i (largest_index c) (omega (arith, low)) (omega (arith, below))) in
    let under = largest_below g in let far = largest_far c f k w in
    let a : m * (k * 2 ^ g.scale) ≤ top * (k * 2 ^ g.scale) =
    mul-le-mul_right (k * 2 ^ g.scale) (omega (arith, most, under)) in
    let e = ap (λ (n : ℕ). top * n) w.scale in
    let within : m * k ≤ largest f = le_of_mul-le-mul_right (omega (arith, a, e, far)) (pow_pos g.scale) in
    (x (m * k) (let n = ap (λ (n : ℕ). m * n) w.scale in omega (arith, n)) (record {
      on_grid = wider_grid c.precision f.precision (m * k) (omega (arith, digits))
          (moved_on_grid c.precision m (f.scale - g.scale) (point_on_grid c.precision i (omega (arith, low))));
      within = within;
      zero_has = λ _. sym (ap (λ (n : NonfiniteBehavior). zero_sign n (is_negative_code c code)) w.kind);
    })).value_is

-- a magnitude whose odd neighbour is past the largest value is not below that value
past : (f : Format) (below above amount parts : ℕ) → 0 < parts → IsBelow f.precision below amount parts
    → IsAbove f.precision above amount parts → largest f < odd_between below above → largest f * parts ≤ amount
past f below above amount parts some x y h =
    ⊎_elim
    (λ (q : amount < largest f * parts).
    let most : above ≤ largest f = y.least (largest f) (largest_on_grid f) (omega (arith, q)) in
    let order = below_le_above f.precision below above amount parts some x y in
    absurd (neither (is_odd_below below above) (omega (arith, order, most)) most h))
    (λ (q : largest f * parts ≤ amount). q)
    (cases_lt amount (largest f * parts))
  where
    neither : {top low high : ℕ} (test : Bool) → low ≤ top → high ≤ top → top < cond test low high → ⊥
    neither true l k h = omega (arith, l, h)
    neither false l k h = omega (arith, k, h)

-- a number that is delivered toward zero has the sign of the magnitude
truncated_sign : (f : Format) (negative : Bool) (amount parts : ℕ) (value : Datum) (status : ℕ) → f.nonfinite ≡ IEEE754
    → IsDelivered f TowardZero negative amount parts value status → is_negative value ≡ negative
truncated_sign f negative amount parts value status kind d =
    ap is_negative d.value_is ∙ either (ltb (largest f) d.pick) (eqb d.pick 0)
  where
    either : (past none : Bool) → is_negative (cond past (finite negative (largest f))
        (cond none (finite (zero_sign f.nonfinite negative) 0) (finite negative d.pick))) ≡ negative
    either true none = refl
    either false true = ap (λ (k : NonfiniteBehavior). zero_sign k negative) kind
    either false false = refl

-- what stands for a value that is delivered
settled : (f : Format) (n : ℕ) (negative past leads none : Bool) → (none ≡ true → n ≡ 0)
    → cond past (finite negative (largest f)) (finite negative n)
    ≡ stored_datum f (cond past (cond leads (infinite negative) (finite negative (largest f)))
    (cond none (finite negative 0) (finite negative n)))
settled f n negative true true none e = refl
settled f n negative true false none e = refl
settled f n negative false leads true e = ap (λ (k : ℕ). finite negative k) (e refl)
settled f n negative false leads false e = refl

-- the sign of an integer, where it is not zero and where it is
sign_for : (own other : Bool) (z : ℤ)
    → (0 < magnitude z → sign_of other z ≡ sign_of own z) × (magnitude z ≡ 0 → own ≡ sign_of own z)
sign_for own other (pos zero) = (λ h. absurd (omega (arith, h)), λ h. refl)
sign_for own other (pos (suc n)) = (λ h. refl, λ h. absurd (omega (arith, h)))
sign_for own other (negsuc n) = (λ h. refl, λ h. absurd (omega (arith, h)))

-- what a value that is rounded to odd in f becomes, with its own flags if it is no number
abbrev pub IsProjection : Format → StorageConstants → Round → Bool → Datum → ℕ → ℕ → ℕ → Type 0
IsProjection f c mode of_zero x own code status =
    MatchBool (is_finite x)
    (MatchBool (eqb (quanta_of x) 0) (IsAnswer (finite of_zero 0) ok_bits (datum_of c code) status)
    (IsSaturated c mode (is_negative x) (quanta_of x * 2 ^ (format_with c).scale) (2 ^ f.scale) code status))
    (IsAnswer (stored_datum (format_with c) x) own (datum_of c code) status)

module _ (f : Format) (c : StorageConstants) (mode : Round) (of_zero : Bool) where
  pub zero_projected : (x : Datum) (own code status : ℕ) → is_zero_category (category_of x) ≡ true
      → datum_of c code ≡ finite of_zero 0 → status ≡ ok_bits → IsProjection f c mode of_zero x own code status
  zero_projected (nan b s) own code status e v h = absurd (false≢true e)
  zero_projected (infinite b) own code status e v h = absurd (false≢true e)
  zero_projected (finite b zero) own code status e v h = record { value_is = v; status_is = h }
  zero_projected (finite b (suc n)) own code status e v h =
      let off = not_zero (suc n) (omega arith) in let k = rw off at e in absurd (false≢true k)

  -- what is not a zero becomes a code as any value of f does
  pub value_projected : (x : Datum) (own flags code status : ℕ) (loses : Bool)
      → is_zero_category (category_of x) ≡ false → IsInto c f mode x code flags loses
      → status ≡ (if is_finite_category (category_of x) then flags else own)
      → IsProjection f c mode of_zero x own code status
  value_projected (nan b s) own flags code status loses some h e = record { value_is = h.value_is; status_is = e }
  value_projected (infinite b) own flags code status loses some h e = record { value_is = h.value_is; status_is = e }
  value_projected (finite b zero) own flags code status loses some h e = absurd (false≢true (sym some))
  value_projected (finite b (suc n)) own flags code status loses some h e =
      let off = not_zero (suc n) (omega arith) in
      let y : IsStoredNumber c f mode b (suc n) code flags loses = rw off at h in
      let told : status ≡ flags = e ∙ rw off refl in
      rw off
      (subst (λ (k : ℕ). IsSaturated c mode b (suc n * 2 ^ (format_with c).scale) (2 ^ f.scale) code k) (sym told)
      y.is_rounded)

-- of a result toward zero in f, which is made odd there and projected
module _ (c : StorageConstants) (f : Format) (times : ℕ) (w : IsWider c f times) (mode : Round) (of_zero : Bool)
    (truncated made : StatusAnd Datum) (is_odd : IsAnswerMadeOdd f (is_negative truncated.value) truncated made)
    (code status : ℕ) (t : IsProjection f c mode of_zero made.value (bits_of made.status) code status) where
  into : (x : Datum) → made.value ≡ x → IsProjection f c mode of_zero x (bits_of made.status) code status
  into x e = subst (λ (v : Datum). IsProjection f c mode of_zero v (bits_of made.status) code status) e t

  stored : (negative : Bool) (n x y : ℕ) → 0 < n → made.value ≡ finite negative n → ((value : Datum)
      → IsDelivered (format_with c) mode negative (n * 2 ^ (format_with c).scale) (2 ^ f.scale) value status
      → IsDelivered (format_with c) mode negative x y value status) → IsStored c mode (rounded negative x y) code status
  stored negative n x y p e same =
      let s : IsSaturated c mode negative (n * 2 ^ (format_with c).scale) (2 ^ f.scale) code status =
      rw (not_zero n p) at (into (finite negative n) e) in
      record {
        value = delivered_value (format_with c) mode negative s.pick;
        yields = same (delivered_value (format_with c) mode negative s.pick)
            (record { pick = s.pick; is_pick = s.is_pick; value_is = refl; status_is = s.status_is });
        value_is = s.value_is ∙ settled (format_with c) s.pick negative (ltb (largest (format_with c)) s.pick)
            (leads_out mode negative) (eqb s.pick 0) (eqb-true s.pick 0);
      }

  -- a nonzero magnitude, which is x / y quanta of the storage format
  rounded_once : (negative : Bool) (amount parts x y : ℕ) → 0 < amount → 0 < parts → 0 < y
      → x * (parts * 2 ^ f.scale) ≡ amount * 2 ^ (format_with c).scale * y
      → Gives (IsDelivered f TowardZero negative amount parts) truncated
      → IsStored c mode (rounded negative x y) code status
  rounded_once negative amount parts x y positive some apart e d =
      let low = w.law.precision_low in let digits = w.digits in let quantum = w.quantum in
      let g : Format = format_with c in let gs : ℕ = 2 ^ (format_with c).scale in
      let fs : ℕ = 2 ^ f.scale in let q : 0 < fs = pow_pos f.scale in
      let pieces : 0 < parts * fs = mul-pos some q in
      let sign = truncated_sign f negative amount parts truncated.value (bits_of truncated.status) w.kind d in
      let odd : IsToOdd f negative amount parts made.value (bits_of made.status) =
      odd_of_truncated f negative amount parts truncated made (omega (arith, digits, low)) some d
      (subst (λ (b : Bool). IsAnswerMadeOdd f b truncated made) sign is_odd) in
      let o : ℕ = odd_between odd.below odd.above in
      let agrees : AgreesAtEven (f.precision - 1) amount parts o =
      odd_agrees f.precision odd.below odd.above amount parts (omega (arith, digits)) some odd.is_below odd.is_above in
      let above : 0 < o = agrees.less 0 (zero_on_grid (f.precision - 1)) (omega (arith, positive)) in
      let across = λ (value : Datum) (z : IsDelivered g mode negative (amount * gs) (parts * fs) value status).
      delivered_across g mode negative x y (amount * gs) (parts * fs) value status (omega (arith, low)) apart pieces e
      z in
      ⊎_elim
      (λ (h : largest f < o).
      let far = largest_far c f times w in
      let most = past f odd.below odd.above amount parts some odd.is_below odd.is_above h in
      let far_too : 2 ^ (c.precision + (format_with c).span) * (parts * fs) ≤ amount * gs =
      let l : largest f * parts * gs ≤ amount * gs = mul-le-mul_right gs most in
      omega (arith, mul-le-mul_right parts far, l) in
      stored negative (largest f) x y (largest_some f (omega (arith, digits, low)))
      (odd.value_is ∙ rw (lt-ltb (largest f) o h) refl)
      (λ value z. across value
      (far_above g mode negative (largest f * gs) fs (amount * gs) (parts * fs) value status (omega (arith, low))
      (record { some = q; from = far }) (record { some = pieces; from = far_too }) z)))
      (λ (h : o ≤ largest f).
      stored negative o x y above
      (odd.value_is ∙ rw (le-ltb (largest f) o h) (signed_some f.nonfinite negative o above))
      (λ value z. across value
      (same_delivered g (amount * gs) (parts * fs) (o * gs) fs
      (same_sides (c.precision + 1) (f.precision - 1) (format_with c).scale f.scale 1 amount parts o
      (omega (arith, digits)) (omega (arith, quantum)) agrees)
      (λ _. same_sides (c.precision + 1) (f.precision - 1) (format_with c).scale f.scale 2 amount parts o
      (omega (arith, digits)) (omega (arith, quantum)) agrees)
      (omega (arith, low)) mode negative value status q z)))
      (cases_lt (largest f) o)

  -- an exact zero
  zero_stored : (sign own : Bool) → of_zero ≡ sign → made.value ≡ finite own 0
      → IsStored c mode (exactly (finite sign 0)) code status
  zero_stored sign own z e =
      let r : IsAnswer (finite of_zero 0) ok_bits (datum_of c code) status = into (finite own 0) e in
      record {
        value = finite sign 0;
        yields = record { value_is = refl; status_is = r.status_is };
        value_is = r.value_is ∙ ap (λ (b : Bool). finite b 0) z;
      }

  -- any number; `sign` is the sign of the exact result, also where that is zero
  number : (negative sign : Bool) (amount parts x y : ℕ) → 0 < parts → 0 < y
      → x * (parts * 2 ^ f.scale) ≡ amount * 2 ^ (format_with c).scale * y → (0 < amount → negative ≡ sign)
      → (amount ≡ 0 → of_zero ≡ sign) → Gives (IsDelivered f TowardZero negative amount parts) truncated
      → IsStored c mode (rounded sign x y) code status
  number negative sign amount parts x y some apart e alike as_zero d =
      ⊎_elim
      (λ (p : 0 < amount).
      subst (λ (b : Bool). IsStored c mode (rounded b x y) code status) (alike p)
      (rounded_once negative amount parts x y p some apart e d))
      (λ (h : amount ≤ 0).
      let none : amount ≡ 0 = omega (arith, h) in
      let pieces : 0 < parts * 2 ^ f.scale = mul-pos some (pow_pos f.scale) in
      let of_none = delivered_once f TowardZero negative amount parts _ _ _ _ d
      (zero_delivered f TowardZero negative parts amount some none) in
      let k : x * (parts * 2 ^ f.scale) ≡ 0 * (parts * 2 ^ f.scale) =
      e ∙ ap (λ (n : ℕ). n * 2 ^ (format_with c).scale * y) none ∙ omega arith in
      let nothing : x ≡ 0 = eq_of_mul-eq-mul_right (parts * 2 ^ f.scale) pieces x 0 k in
      let r = zero_stored sign (zero_sign f.nonfinite negative) (as_zero none)
      (MatchBool-at_false _ _ (ap (λ (n : ℕ). has_flag n inexact_bit) of_none.1) is_odd.value_is ∙ of_none.0) in
      record {
        value = finite sign 0;
        yields = subst (IsDelivered (format_with c) mode sign x y (finite sign 0)) (sym r.yields.status_is)
            (zero_delivered (format_with c) mode sign y x apart nothing);
        value_is = r.value_is ∙ ap (λ (v : Datum). stored_datum (format_with c) v) r.yields.value_is;
      })
      (cases_lt 0 amount)

  total : (b d : Bool) (m n k parts y : ℕ) → 0 < k
      → 0 < parts → 0 < y → parts * 2 ^ f.scale ≡ k * 2 ^ (format_with c).scale * y → of_zero ≡ zero_sum_sign mode b d
      → Gives (IsRounded f TowardZero (zero_sum_sign TowardZero b d) (signed b (m * k) +ℤ signed d (n * k)) parts)
      truncated → IsStored c mode (totalled b d (signed b m +ℤ signed d n) y) code status
  total b d m n k parts y p some apart e z h =
      let whole : ℤ = signed b m +ℤ signed d n in let toward : Bool = zero_sum_sign TowardZero b d in
      let own : Bool = zero_sum_sign mode b d in let size = magnitude-times whole k in
      let scaled : (signed b (m * k) +ℤ signed d (n * k)) ≡ (whole *ℤ pos k) =
      ap (λ (i : ℤ). i +ℤ signed d (n * k)) (signed_times b m k) ∙ ap (λ (i : ℤ). (signed b m *ℤ pos k) +ℤ i)
      (signed_times d n k) ∙ sym (sum_times (signed b m) (signed d n) (pos k)) in
      let same : magnitude whole * (parts * 2 ^ f.scale) ≡ magnitude whole * k * 2 ^ (format_with c).scale * y =
      ap (λ (i : ℕ). magnitude whole * i) e ∙ omega arith in
      let r = number (sign_of toward (whole *ℤ pos k)) (sign_of own whole) (magnitude (whole *ℤ pos k)) parts
      (magnitude whole) y some apart (same ∙ sym (ap (λ (i : ℕ). i * 2 ^ (format_with c).scale * y) size))
      (λ a. sign_times toward whole k p
      ∙ (sign_for own toward whole).0 (lt_of_mul-lt-mul_right k (omega (arith, a, size))))
      (λ a. z ∙ (sign_for own own whole).1 (eq_of_mul-eq-mul_right k p (magnitude whole) 0 (omega (arith, a, size))))
      (subst (λ (i : ℤ). Gives (IsRounded f TowardZero toward i parts) truncated) scaled h) in
      record { value = r.value; yields = r.yields; value_is = r.value_is }

  pub sum : (b d : Bool) (m n : ℕ) → of_zero ≡ zero_sum_sign mode b d
      → Gives (IsSum f TowardZero (finite b (m * times)) (finite d (n * times))) truncated
      → IsStored c mode (sum_of (format_with c) (finite b m) (finite d n)) code status
  sum b d m n z h = total b d m n times 1 1 w.some (lit< tt) (lit< tt) (let e = w.scale in omega (arith, e)) z h

  pub difference : (b d : Bool) (m n : ℕ) → of_zero ≡ zero_sum_sign mode b (not d)
      → Gives (IsDifference f TowardZero (finite b (m * times)) (finite d (n * times))) truncated
      → IsStored c mode (difference_of (format_with c) (finite b m) (finite d n)) code status
  difference b d m n z h =
      subst (λ (y : Datum). IsStored c mode (sum_of (format_with c) (finite b m) y) code status) (sym (negated_is d n))
      (sum b (not d) m n z
      (subst (λ (y : Datum). Gives (IsSum f TowardZero (finite b (m * times)) y) truncated)
      (ap (λ (k : NonfiniteBehavior). negated k (finite d (n * times))) w.kind ∙ negated_is d (n * times)) h))

  pub product : (b d : Bool) (m n : ℕ) → of_zero ≡ product_sign b d
      → Gives (IsProduct f TowardZero (finite b (m * times)) (finite d (n * times))) truncated
      → IsStored c mode (product_of (format_with c) (finite b m) (finite d n)) code status
  product b d m n z h =
      number (product_sign b d) (product_sign b d) (m * times * (n * times)) (2 ^ f.scale) (m * n)
      (2 ^ (format_with c).scale) (pow_pos f.scale) (pow_pos (format_with c).scale)
      (ap (λ (i : ℕ). m * n * (i * i)) w.scale ∙ omega arith) (λ _. refl) (λ _. z) h

  pub fused : (a b d : Bool) (l m n : ℕ) → of_zero ≡ zero_sum_sign mode (product_sign a b) d
      → Gives (IsFusedSum f TowardZero (finite a (l * times)) (finite b (m * times)) (finite d (n * times))) truncated
      → IsStored c mode (fused_sum (format_with c) (finite a l) (finite b m) (finite d n)) code status
  fused a b d l m n z h =
      let s : Bool = product_sign a b in let gs : ℕ = 2 ^ (format_with c).scale in
      let fs : ℕ = 2 ^ f.scale in let k : ℕ = times * times in
      let toward : Bool = zero_sum_sign TowardZero s d in
      let left : l * times * (m * times) ≡ l * m * k = omega arith in
      let right : n * times * fs ≡ n * gs * k = ap (λ (i : ℕ). n * times * i) w.scale ∙ omega arith in
      total s d (l * m) (n * gs) k fs gs (mul-pos w.some w.some) (pow_pos f.scale) (pow_pos (format_with c).scale)
      (ap (λ (i : ℕ). i * i) w.scale ∙ omega arith) z
      (subst (λ (i : ℕ). Gives (IsRounded f TowardZero toward (signed s (l * m * k) +ℤ signed d i) fs) truncated) right
      (subst (λ (i : ℕ). Gives (IsRounded f TowardZero toward (signed s i +ℤ signed d (n * times * fs)) fs)
      truncated) left h))

  -- without a number: what stands for the NaN
  not_a_number : truncated.value ≡ qnan f 0 → bits_of truncated.status ≡ 1
      → IsStored c mode (invalid (format_with c)) code status
  not_a_number v s =
      let r = into (qnan f 0) (MatchBool-at_false _ _ (ap (λ (n : ℕ). has_flag n inexact_bit) s) is_odd.value_is ∙ v) in
      record {
        value = qnan (format_with c) 0;
        yields = record { value_is = refl; status_is = r.status_is ∙ is_odd.status_is ∙ s };
        value_is = r.value_is;
      }

  none : (n : ℕ) → n ≡ 0 → eqb (n * times) 0 ≡ true
  none n e = eq-eqb (n * times) 0 (ap (λ (i : ℕ). i * times) e ∙ omega arith)

  more : (n : ℕ) → (n ≡ 0 → ⊥) → 0 < n * times
  more n p = mul-pos (let k : 0 < n = omega (arith, p) in k) w.some

  pub quotient : (b d : Bool) (m n : ℕ) → of_zero ≡ product_sign b d
      → Gives (IsQuotient f TowardZero (finite b (m * times)) (finite d (n * times))) truncated
      → IsStored c mode (quotient_of (format_with c) (finite b m) (finite d n)) code status
  quotient b d m n z h =
      let s : Bool = product_sign b d in
      ⊎_elim
      (λ (e : n ≡ 0).
      ⊎_elim
      (λ (e' : m ≡ 0).
      let y = rw (none n e, none m e') at h in
      rw (eq-eqb n 0 e, eq-eqb m 0 e') (not_a_number y.value_is y.status_is))
      (λ (p : m ≡ 0 → ⊥).
      let y = rw (none n e, not_zero (m * times) (more m p)) at h in
      let v = y.value_is ∙ ap (λ (k : NonfiniteBehavior). past_largest k (nan_base f) s) w.kind in
      let flag = ap (λ (n : ℕ). has_flag n inexact_bit) y.status_is in
      let r = into (infinite s) (MatchBool-at_false _ _ flag is_odd.value_is ∙ v) in
      rw (eq-eqb n 0 e, ne_eqb m 0 p)
      (record {
        value = infinite s;
        yields = record { value_is = refl; status_is = r.status_is ∙ is_odd.status_is ∙ y.status_is };
        value_is = r.value_is;
      }))
      (cases_eq m 0))
      (λ (p : n ≡ 0 → ⊥).
      let y = rw (not_zero (n * times) (more n p)) at h in
      rw (ne_eqb n 0 p)
      (number s s (m * times * 2 ^ f.scale) (n * times) (m * 2 ^ (format_with c).scale) n (more n p)
      (omega (arith, p)) (omega arith) (λ _. refl) (λ _. z) y))
      (cases_eq n 0)

  -- the root of a positive number
  root_once : (square : ℕ) → 0 < square → Gives (IsDeliveredRoot f TowardZero (square * (times * times)) 1) truncated
      → IsStored c mode (rooted square 1) code status
  root_once square positive root =
      let digits = w.digits in let r = agreeing square (4 * times) (mul-pos (lit< tt) w.some) in
      let own : AgreesWithRoot square 4 r.amount r.parts = coarser square 4 times r.amount r.parts w.some r.agrees in
      let some : 0 < r.parts * 1 = let k = own.some in omega (arith, k) in
      let d = fraction_delivered f TowardZero (square * (times * times)) 1 (r.amount * times) r.parts truncated.value
      (bits_of truncated.status) (omega (arith, digits)) (lit< tt)
      (moved_agrees square 4 times r.amount r.parts r.agrees) root in
      let above : 0 < r.amount * times = mul-pos (root_some square 4 r.amount r.parts positive (lit< tt) own) w.some in
      let s = rounded_once false (r.amount * times) (r.parts * 1) r.amount (r.parts * 1) above some some
      (ap (λ (i : ℕ). r.amount * (r.parts * 1 * i)) w.scale ∙ omega arith) d in
      record {
        value = s.value;
        yields = root_delivered square 1 r.amount r.parts own (format_with c) mode s.value status s.yields;
        value_is = s.value_is;
      }

  pub root : (b : Bool) (n : ℕ) → of_zero ≡ b → Gives (IsRoot f TowardZero (finite b (n * times))) truncated
      → IsStored c mode (root_of (format_with c) (finite b n)) code status
  root b n z h =
      ⊎_elim
      (λ (e : n ≡ 0).
      let y = rw (none n e) at h in let flag = ap (λ (k : ℕ). has_flag k inexact_bit) y.status_is in
      rw (eq-eqb n 0 e)
      (zero_stored b b z (MatchBool-at_false _ _ flag is_odd.value_is ∙ y.value_is)))
      (λ (p : n ≡ 0 → ⊥).
      let y = rw (not_zero (n * times) (more n p)) at h in
      rw (ne_eqb n 0 p) (nonzero b (omega (arith, p)) y))
      (cases_eq n 0)
    where
      nonzero : (b : Bool) → 0 < n
          → Gives (Yields f TowardZero (if b then invalid f else rooted (n * times * 2 ^ f.scale) 1)) truncated
          → IsStored c mode (if b then invalid (format_with c) else rooted (n * 2 ^ (format_with c).scale) 1) code
          status
      nonzero true above y = not_a_number y.value_is y.status_is
      nonzero false above y =
          let e : n * times * 2 ^ f.scale ≡ n * 2 ^ (format_with c).scale * (times * times) =
          ap (λ (i : ℕ). n * times * i) w.scale ∙ omega arith in
          root_once (n * 2 ^ (format_with c).scale) (mul-pos above (pow_pos (format_with c).scale))
          (subst (λ (i : ℕ). Gives (IsDeliveredRoot f TowardZero i 1) truncated) e y)

-- ---- conversions

-- equal fractions are stored alike
saturated_across : (c : StorageConstants) (mode : Round) (b : Bool) (m n x y code status : ℕ) → 0 < c.precision → 0 < n
    → 0 < y → m * y ≡ x * n → IsSaturated c mode b x y code status → IsSaturated c mode b m n code status
saturated_across c mode b m n x y code status some p q e s =
    let g : Format = format_with c in
    let pick = pick_same c.precision m n x y (same_fraction (c.precision + 1) 2 m n x y p q e) mode b s.pick some q
    s.is_pick in
    let told = delivered_across g mode b m n x y (delivered_value g mode b s.pick) status some p q e
    (record { pick = s.pick; is_pick = s.is_pick; value_is = refl; status_is = s.status_is }) in
    record {
      pick = s.pick;
      is_pick = pick;
      value_is = s.value_is;
      status_is = told.status_is ∙ ap (λ (i : ℕ). delivered_status g mode b m n i)
          (pick_unique c.precision mode b m n told.pick s.pick told.is_pick pick);
    }

-- a number in the quanta of f is stored as in its own
pub into_own : (c d : StorageConstants) (f : Format) (times : ℕ) → IsLawfulStorage c → IsWider d f times
    → (mode : Round) (b : Bool) (n code status : ℕ) (loses : Bool)
    → IsInto c f mode (finite b (n * times)) code status loses
    → IsInto c (format_with d) mode (finite b n) code status loses
into_own c d f times law w mode b zero code status loses h = rw (eq-eqb (0 * times) 0 (omega arith)) at h
into_own c d f times law w mode b (suc n) code status loses h =
    let low = law.precision_low in let above : 0 < suc n * times = mul-pos (omega arith) w.some in
    let y : IsStoredNumber c f mode b (suc n * times) code status loses = rw (not_zero (suc n * times) above) at h in
    rw (not_zero (suc n) (omega arith))
    (record {
      is_rounded = saturated_across c mode b (suc n * 2 ^ (format_with c).scale) (2 ^ (format_with d).scale)
          (suc n * times * 2 ^ (format_with c).scale) (2 ^ f.scale) code status (omega (arith, low))
          (pow_pos (format_with d).scale) (pow_pos f.scale)
          (ap (λ (i : ℕ). suc n * 2 ^ (format_with c).scale * i) w.scale ∙ omega arith) y.is_rounded;
      loses_is = y.loses_is;
    })

-- ---- one answer

pub stored_once : IsStoredOnce
stored_once c mode outcome code other status flags law l k x y =
    let same = yields_once (format_with c) mode outcome x.value y.value status flags x.yields y.yields in (
      code_once c code other (stored_datum (format_with c) y.value) law l k
          (x.value_is ∙ ap (λ (d : Datum). stored_datum (format_with c) d) same.0) y.value_is,
      same.1,
    )
