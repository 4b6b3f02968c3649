-- A scaled number, rounded, encoded and counted, is the answer of the model.
use Rattle.std.proofs.Common.{◌≡◌, ℕ, ◌+◌, ◌-◌, ◌*◌, ◌/◌, ◌%◌, ◌^◌, ◌<◌, ◌≤◌, ◌⊎◌, Bool, true, false, cond, min, not}
use Rattle.std.proofs.Common.{◌&&◌, ◌||◌, eqb, ltb, leb, refl, sym, ap, ◌∙◌, subst, inl, inr, ⊎_elim, arith}
use Rattle.std.proofs.Math.Nat.{min-eq_left, min-eq_right, mod-eq_of_lt, mod_self, mul-le-mul_right}
use Rattle.std.proofs.lemmas.{Nat.pow-add, Nat.pow_pos, Bool.cases_eq, Bool.cases_lt, Bool.cond-false}
use Rattle.std.proofs.lemmas.Bool.{eq-eqb, le-leb, le-ltb, lt-leb, lt-ltb, ltb-false, ltb-true, ne_eqb, true≢false}
use Rattle.std.specs.Prelude.{⊤}
use Rattle.apfloat_model.specs.{declared.kinds.Round.Round, formats.Datum.Datum, formats.Datum.finite}
use Rattle.apfloat_model.specs.{formats.Lawful.more_exponents, formats.Members.IsNanSignificand, order.Classes.is_nan}
use Rattle.apfloat_model.specs.bits.Interchange.{IsInterchange, bits_of_fields, AreFieldsOf}
use Rattle.apfloat_model.specs.bits.Layout.{IsEncodedBy, Layout, all_ones, trailing_bits}
use Rattle.apfloat_model.specs.declared.kinds.NonfiniteBehavior.{NonfiniteBehavior}
use Rattle.apfloat_model.specs.declared.kinds.NonfiniteBehavior.TheVariants.{IEEE754, NanOnly, NanNegativeZero}
use Rattle.apfloat_model.specs.formats.{Datum.infinite, Datum.nan, Format.Format, Format.greatest_significand}
use Rattle.apfloat_model.specs.formats.Format.{largest, nan_base, nan_base_of, smallest_normalized}
use Rattle.apfloat_model.specs.rounding.{Enclosure.rounds_up, Rounding.IsPick, Rounding.delivered_status}
use Rattle.apfloat_model.specs.rounding.{Rounding.signed_quanta, Rounding.zero_sign, Standing.reads_halves}
use Rattle.apfloat_model.specs.rounding.Rounding.{delivered_value, is_tiny, leads_out, past_largest, raises_overflow}
use Rattle.apfloat_model.proofs.bits.{EncodedOnce.fields_with, FieldsOf.MayHaveSign}
use Rattle.apfloat_model.proofs.bits.FieldsOf.{fields_encode, infinity_fields_of, nan_fields_of, one_nan_fields_of}
use Rattle.apfloat_model.proofs.formats.Greatest.{greatest_fits, greatest_full}
use Rattle.apfloat_model.proofs.general.Powers.{twice_half}
use Rattle.apfloat_model.proofs.rounding.Deliveries.{exact_if, inexact_if, tiny_after, tiny_before}
use Rattle.apfloat_model.proofs.rounding.FarMagnitudes.{far_above}
use Rattle.apfloat_rounding.specs.Cuts.{loss_at}
use Rattle.apfloat_rounding.proofs.HalfQuanta.{picked_is}
use Rattle.apfloat_rounding.proofs.CutRests.{loss_some, loss_zero, picked_if_moved}
use Rattle.fast_bits.specs.{declared.lanes.lanes.Lane.Lane, lanes.Lanes.IsRounded, lanes.Targets.signed_code}
use Rattle.fast_bits.specs.{Addends.rounded_by}
use Rattle.fast_bits.specs.lanes.{Lanes.finished, Lanes.flag_if, Lanes.flags_of, Scaled.IsReachedLane, Scaled.IsScaled}
use Rattle.fast_bits.specs.lanes.{Sides.greatest_code, Targets.has_no_sign, Targets.is_ieee, Targets.largest_code}
use Rattle.fast_bits.proofs.lanes_lemmas.{Interchanges.spans, Codes.code_encoded, Codes.past_by_code}
use Rattle.fast_bits.proofs.lanes_lemmas.Singles.{zero_factor}

-- ---- what is picked

-- `code` is the place and the significand, added, of the number that is picked
pub record IsPickedSingle (precision : ℕ) (mode : Round) (negative : Bool) (amount parts code rest : ℕ) : Type 0 where
  pub place : ℕ
  pub next : ℕ
  pub code_is : code ≡ place * 2 ^ (precision - 1) + next
  pub fits : next ≤ 2 ^ precision
  pub full : (place ≡ 0) ⊎ (2 ^ (precision - 1) ≤ next)
  pub is_pick : IsPick precision mode negative amount parts (next * 2 ^ place)
  pub exact : rest ≡ 0 → next * 2 ^ place * parts ≡ amount
  pub inexact : (rest ≡ 0 → ⊥) → next * 2 ^ place * parts ≡ amount → ⊥

moved_code : (moved : Bool) (code base kept : ℕ) → code ≡ base + kept
    → cond moved (code + 1) code ≡ base + cond moved (kept + 1) kept
moved_code true code base kept is = omega (arith, is)
moved_code false code base kept is = omega (arith, is)

moved_most : (moved : Bool) (kept bound : ℕ) → kept < bound → cond moved (kept + 1) kept ≤ bound
moved_most true kept bound fits = omega (arith, fits)
moved_most false kept bound fits = omega (arith, fits)

moved_least : (moved : Bool) (kept least : ℕ) → least ≤ kept → least ≤ cond moved (kept + 1) kept
moved_least true kept least full = omega (arith, full)
moved_least false kept least full = omega (arith, full)

some_rest : (rest : ℕ) → (rest ≡ 0 → ⊥) → 0 < rest
some_rest rest more = omega (arith, more)

-- a scaled number, rounded to a whole number, is the code of what is picked
picked_code : (precision low : ℕ) (mode : Round) (negative : Bool) (t amount parts : ℕ) → 3 ≤ precision → 0 < parts
    → IsScaled precision low t amount parts
    → IsPickedSingle precision mode negative amount parts (rounded_by low mode negative t) (t % 2 ^ low)
picked_code precision low mode negative t amount parts precise any it =
    let half = 2 ^ (low - 1) in
    let rest = t % 2 ^ low in
    let loss = loss_at rest half in
    let moved = rounds_up mode negative loss (eqb (it.kept % 2) 1) in
    -- the code has the parity of the significand, since 2 ^ (precision - 1) is even
    let code = it.code in
    let twice : 2 * 2 ^ (precision - 2) ≡ 2 ^ (precision - 1) =
    let places : precision - 1 - 1 ≡ precision - 2 = omega arith in
    ap (λ (x : ℕ). 2 * 2 ^ x) (sym places) ∙ twice_half (precision - 1) (omega (arith, precise)) in
    let even : it.place * 2 ^ (precision - 1) ≡ 2 * (it.place * 2 ^ (precision - 2)) =
    ap (λ (x : ℕ). it.place * x) (sym twice) ∙ omega arith in
    let digit : t / 2 ^ low % 2 ≡ it.kept % 2 = omega (arith, code, even) in
    let parity : eqb (t / 2 ^ low % 2) 1 ≡ eqb (it.kept % 2) 1 = ap (λ (x : ℕ). eqb x 1) digit in
    let sum : rounded_by low mode negative t ≡ cond moved (t / 2 ^ low + 1) (t / 2 ^ low) =
    ap (λ (b : Bool). cond (rounds_up mode negative loss b) (t / 2 ^ low + 1) (t / 2 ^ low)) parity in
    let is_pick : IsPick precision mode negative amount parts (cond moved (it.kept + 1) it.kept * 2 ^ it.place) =
    picked_if_moved precision mode negative it.kept it.place amount parts
    (cond moved (it.kept + 1) it.kept * 2 ^ it.place) loss moved refl refl any it.enclosed it.stands in
    record {
      place = it.place;
      next = cond moved (it.kept + 1) it.kept;
      code_is = sum ∙ moved_code moved (t / 2 ^ low) (it.place * 2 ^ (precision - 1)) it.kept code;
      fits = moved_most moved it.kept (2 ^ precision) it.fits;
      full = ⊎_elim (λ (z : it.place ≡ 0). inl z)
          (λ (f : 2 ^ (precision - 1) ≤ it.kept). inr (moved_least moved it.kept (2 ^ (precision - 1)) f)) it.full;
      is_pick = is_pick;
      exact = λ none. exact_if precision mode negative (2 ^ (precision - 1)) it.kept it.place amount parts
          (cond moved (it.kept + 1) it.kept * 2 ^ it.place) loss (loss_zero rest half none) any it.enclosed it.stands
          is_pick;
      inexact = λ more. inexact_if precision mode negative (2 ^ (precision - 1)) it.kept it.place amount parts
          (cond moved (it.kept + 1) it.kept * 2 ^ it.place) loss (loss_some rest half (some_rest rest more)) any
          it.enclosed it.stands is_pick;
    }

-- ---- bits

-- with infinities or a NaN of each sign, a code keeps its sign
pub keeps_sign : (kind : NonfiniteBehavior) (negative : Bool) (bits code : ℕ) → has_no_sign kind bits code ≡ false
    → cond (negative && not (has_no_sign kind bits code)) (2 ^ (bits - 1)) 0 ≡ cond negative (2 ^ (bits - 1)) 0
keeps_sign kind true bits code has = rw has refl
keeps_sign kind false bits code has = refl

-- the sign that a number is encoded with
pub record IsSignedCode (f : Format) (layout : Layout) (negative : Bool) (n code : ℕ) : Type 0 where
  pub sign : Bool
  pub value_is : signed_quanta f.nonfinite negative n ≡ finite sign n
  pub bits_are : signed_code f.nonfinite layout.bits negative code ≡ cond sign (2 ^ (layout.bits - 1)) 0 + code
  pub may : MayHaveSign f.nonfinite sign n

some_signed : (kind : NonfiniteBehavior) (negative : Bool) (n : ℕ) → (n ≡ 0 → ⊥)
    → signed_quanta kind negative n ≡ finite negative n
some_signed kind negative n some = rw (ne_eqb n 0 some) refl

zero_signed : (kind : NonfiniteBehavior) (negative : Bool) (n : ℕ) → n ≡ 0
    → signed_quanta kind negative n ≡ finite (zero_sign kind negative) n
zero_signed kind negative n none = rw (eq-eqb n 0 none) (ap (λ (x : ℕ). finite (zero_sign kind negative) x) (sym none))

-- the sign of a zero stays that
sign_again : (kind : NonfiniteBehavior) (negative : Bool)
    → zero_sign kind negative ≡ zero_sign kind (zero_sign kind negative)
sign_again IEEE754 negative = refl
sign_again NanOnly negative = refl
sign_again NanNegativeZero negative = refl

-- a zero's sign, in its bits
zero_bits : (kind : NonfiniteBehavior) (negative : Bool) (bits code : ℕ) → code ≡ 0
    → cond (negative && not (has_no_sign kind bits code)) (2 ^ (bits - 1)) 0
    ≡ cond (zero_sign kind negative) (2 ^ (bits - 1)) 0
zero_bits IEEE754 true bits code none = refl
zero_bits IEEE754 false bits code none = refl
zero_bits NanOnly true bits code none = refl
zero_bits NanOnly false bits code none = refl
zero_bits NanNegativeZero true bits code none =
    let rest : code % 2 ^ (bits - 1) ≡ 0 =
    ap (λ (x : ℕ). x % 2 ^ (bits - 1)) none ∙ mod-eq_of_lt (pow_pos (bits - 1)) in
    rw (eq-eqb (code % 2 ^ (bits - 1)) 0 rest) refl
zero_bits NanNegativeZero false bits code none = refl

-- a nonzero code below the sign bit has a sign
has_sign : (kind : NonfiniteBehavior) (bits code : ℕ) → 0 < code → code < 2 ^ (bits - 1)
    → has_no_sign kind bits code ≡ false
has_sign IEEE754 bits code some below = refl
has_sign NanOnly bits code some below = refl
has_sign NanNegativeZero bits code some below =
    let same : code % 2 ^ (bits - 1) ≡ code = mod-eq_of_lt below in
    ne_eqb (code % 2 ^ (bits - 1)) 0 (λ e. omega (arith, e, same, some))

signed_number : (f : Format) (layout : Layout) (negative : Bool) (n code : ℕ) → code < 2 ^ (layout.bits - 1)
    → (n ≡ 0 → code ≡ 0) → (code ≡ 0 → n ≡ 0) → IsSignedCode f layout negative n code
signed_number f layout negative n code below forth back =
    ⊎_elim {C = IsSignedCode f layout negative n code}
    (λ (none : n ≡ 0). record {
      sign = zero_sign f.nonfinite negative;
      value_is = zero_signed f.nonfinite negative n none;
      bits_are = ap (λ (x : ℕ). x + code) (zero_bits f.nonfinite negative layout.bits code (forth none));
      may = λ _. sign_again f.nonfinite negative;
    })
    (λ (some : n ≡ 0 → ⊥). record {
      sign = negative;
      value_is = some_signed f.nonfinite negative n some;
      bits_are =
          ap (λ (x : ℕ). x + code)
          (keeps_sign f.nonfinite negative layout.bits code
          (has_sign f.nonfinite layout.bits code (some_rest code (λ e. some (back e))) below));
      may = λ none. absurd (some none);
    })
    (cases_eq n 0)

-- ---- the codes of the largest value, and of what is past it

-- the bits below the sign
magnitude_bits : (f : Format) (layout : Layout) → IsInterchange f layout → f.explicit_integer_bit ≡ false
    → 2 ^ (layout.bits - 1) ≡ 2 ^ layout.exponent_bits * 2 ^ (f.precision - 1)
magnitude_bits f layout law implied =
    let width : trailing_bits f ≡ f.precision - 1 = cond-false f.explicit_integer_bit _ _ implied in
    let places : layout.bits - 1 ≡ layout.exponent_bits + (f.precision - 1) = omega (arith, law.bits, width) in
    ap (λ (x : ℕ). 2 ^ x) places ∙ pow-add 2 layout.exponent_bits (f.precision - 1)

-- the code of the largest value is below the sign bit
largest_below : (f : Format) (layout : Layout) → IsInterchange f layout → f.explicit_integer_bit ≡ false
    → largest_code f < 2 ^ (layout.bits - 1)
largest_below f layout law implied =
    let half : ℕ = 2 ^ (f.precision - 1) in
    let span : f.span + 2 ≤ 2 ^ layout.exponent_bits = spans f.nonfinite f.span layout.exponent_bits law.span in
    let fits = greatest_fits f.nonfinite f.precision in
    let twice : 2 * 2 ^ (f.precision - 1) ≡ 2 ^ f.precision = twice_half f.precision (omega (arith, law.precise)) in
    omega (arith, magnitude_bits f layout law implied, mul-le-mul_right half span, fits, twice)

-- fields above one another
top_bits : (negative : Bool) (e t biased trailing bits top : ℕ) → top ≡ t + e
    → bits ≡ cond negative (2 ^ top) 0 + (biased * 2 ^ t + trailing)
    → (cond negative 1 0 * 2 ^ e + biased) * 2 ^ t + trailing ≡ bits
top_bits true e t biased trailing bits top at is =
    let both : 2 ^ top ≡ 2 ^ t * 2 ^ e = ap (λ (x : ℕ). 2 ^ x) at ∙ pow-add 2 t e in
    omega (arith, both, is)
top_bits false e t biased trailing bits top at is = omega (arith, is)

-- the code after the largest one, where it is that of infinities
infinity_code : (f : Format) (layout : Layout) → IsInterchange f layout → f.nonfinite ≡ IEEE754
    → largest_code f + 1 ≡ all_ones layout.exponent_bits * 2 ^ (f.precision - 1)
infinity_code f layout law is =
    let half : ℕ = 2 ^ (f.precision - 1) in
    let span : f.span + 3 ≡ 2 ^ layout.exponent_bits =
    law.span ∙ ap (λ (k : NonfiniteBehavior). 2 ^ layout.exponent_bits + more_exponents k) is ∙ omega arith in
    let twice : 2 * 2 ^ (f.precision - 1) ≡ 2 ^ f.precision = twice_half f.precision (omega (arith, law.precise)) in
    let some : 0 < 2 ^ (f.precision - 1) = pow_pos (f.precision - 1) in
    let top : greatest_significand f.nonfinite f.precision ≡ 2 ^ f.precision - 1 =
    ap (λ (k : NonfiniteBehavior). greatest_significand k f.precision) is in
    let biased : 2 ^ layout.exponent_bits - 1 ≡ f.span + 2 = omega (arith, span) in
    let ones : all_ones layout.exponent_bits * 2 ^ (f.precision - 1) ≡ (f.span + 2) * 2 ^ (f.precision - 1) =
    ap (λ (n : ℕ). n * half) biased in
    omega (arith, ones, top, twice, some)

-- the greatest exponent, with these digits
top_encoded : (f : Format) (layout : Layout) (negative : Bool) (s bits : ℕ) (datum : Datum) → IsInterchange f layout
    → f.explicit_integer_bit ≡ false
    → AreFieldsOf f layout (fields_with negative (all_ones layout.exponent_bits) s) datum
    → bits ≡ cond negative (2 ^ (layout.bits - 1)) 0 + (all_ones layout.exponent_bits * 2 ^ (f.precision - 1) + s)
    → IsEncodedBy f layout bits datum
top_encoded f layout negative s bits datum law implied are bits_are =
    let x = fields_with negative (all_ones layout.exponent_bits) s in
    let width : trailing_bits f ≡ f.precision - 1 = cond-false f.explicit_integer_bit _ _ implied in
    let same : bits_of_fields f layout x ≡ bits =
    rw width (top_bits negative layout.exponent_bits (f.precision - 1) (all_ones layout.exponent_bits) s bits
    (layout.bits - 1) (omega (arith, law.bits, width)) bits_are) in
    subst (λ (b : ℕ). IsEncodedBy f layout b datum) same (fields_encode f layout x datum law are)

-- an infinity: the greatest exponent without digits
infinity_encoded : (f : Format) (layout : Layout) (negative : Bool) (bits : ℕ) → IsInterchange f layout
    → f.nonfinite ≡ IEEE754 → f.explicit_integer_bit ≡ false
    → bits ≡ cond negative (2 ^ (layout.bits - 1)) 0 + (largest_code f + 1)
    → IsEncodedBy f layout bits (infinite negative)
infinity_encoded f layout negative bits law is implied bits_are =
    let top = infinity_code f layout law is in
    let code : largest_code f + 1 ≡ all_ones layout.exponent_bits * 2 ^ (f.precision - 1) + 0 = omega (arith, top) in
    top_encoded f layout negative 0 bits (infinite negative) law implied
    (subst
    (λ (s : ℕ). AreFieldsOf f layout (fields_with negative (all_ones layout.exponent_bits) s) (infinite negative))
    (cond-false f.explicit_integer_bit _ _ implied) (infinity_fields_of f layout negative law is))
    (bits_are ∙ ap (λ (n : ℕ). cond negative (2 ^ (layout.bits - 1)) 0 + n) code)

abbrev Only : NonfiniteBehavior → Type 0
Only IEEE754 = ⊥
Only NanOnly = ⊤
Only NanNegativeZero = ⊥

differs : (kind : NonfiniteBehavior) → kind ≡ NanOnly → kind ≡ NanNegativeZero → ⊥
differs kind first second = subst Only second (subst Only (sym first) tt)

-- a NaN of a sign: all ones
nan_encoded : (f : Format) (layout : Layout) (negative : Bool) (bits : ℕ) → IsInterchange f layout
    → f.nonfinite ≡ NanOnly → f.explicit_integer_bit ≡ false
    → bits ≡ cond negative (2 ^ (layout.bits - 1)) 0 + (largest_code f + 1)
    → IsEncodedBy f layout bits (nan negative (nan_base f))
nan_encoded f layout negative bits law is implied bits_are =
    let half : ℕ = 2 ^ (f.precision - 1) in
    let base : nan_base f ≡ 2 ^ (f.precision - 1) - 1 = ap (λ (k : NonfiniteBehavior). nan_base_of k f.precision) is
    in
    let span : f.span + 3 ≡ 2 ^ layout.exponent_bits + 1 =
    law.span ∙ ap (λ (k : NonfiniteBehavior). 2 ^ layout.exponent_bits + more_exponents k) is in
    let twice : 2 * 2 ^ (f.precision - 1) ≡ 2 ^ f.precision = twice_half f.precision (omega (arith, law.precise)) in
    let some : 0 < 2 ^ (f.precision - 1) = pow_pos (f.precision - 1) in
    let top : greatest_significand f.nonfinite f.precision ≡ 2 ^ f.precision - 2 =
    ap (λ (k : NonfiniteBehavior). greatest_significand k f.precision) is in
    let biased : 2 ^ layout.exponent_bits - 1 ≡ f.span + 1 = omega (arith, span) in
    let ones : all_ones layout.exponent_bits * 2 ^ (f.precision - 1) ≡ (f.span + 1) * 2 ^ (f.precision - 1) =
    ap (λ (n : ℕ). n * half) biased in
    let code : largest_code f + 1 ≡ all_ones layout.exponent_bits * 2 ^ (f.precision - 1) + nan_base f =
    omega (arith, ones, top, twice, some, base) in
    top_encoded f layout negative (nan_base f) bits (nan negative (nan_base f)) law implied
    (nan_fields_of f layout negative (nan_base f) law (differs f.nonfinite is)
    (subst (λ (k : NonfiniteBehavior). IsNanSignificand k f.explicit_integer_bit f.precision
    (nan_base_of k f.precision)) (sym is) refl))
    (bits_are ∙ ap (λ (n : ℕ). cond negative (2 ^ (layout.bits - 1)) 0 + n) code)

-- a NaN beside infinities: the greatest exponent with digits
pub digits_encoded : (f : Format) (layout : Layout) (negative : Bool) (s bits : ℕ) → IsInterchange f layout
    → f.nonfinite ≡ IEEE754 → f.explicit_integer_bit ≡ false → 0 < s → s < 2 ^ (f.precision - 1)
    → bits ≡ cond negative (2 ^ (layout.bits - 1)) 0 + (largest_code f + 1) + s
    → IsEncodedBy f layout bits (nan negative s)
digits_encoded f layout negative s bits law is implied some below bits_are =
    let sum : cond negative (2 ^ (layout.bits - 1)) 0 + (largest_code f + 1) + s
    ≡ cond negative (2 ^ (layout.bits - 1)) 0 + (all_ones layout.exponent_bits * 2 ^ (f.precision - 1) + s) =
    omega (arith, infinity_code f layout law is) in
    top_encoded f layout negative s bits (nan negative s) law implied
    (nan_fields_of f layout negative s law (λ one. true≢false (sym (ap is_ieee is) ∙ ap is_ieee one))
    (subst (λ (k : NonfiniteBehavior). IsNanSignificand k f.explicit_integer_bit f.precision s) (sym is)
    (subst (λ (b : Bool). IsNanSignificand IEEE754 b f.precision s) (sym implied) (some, below)))) (bits_are ∙ sum)

-- the one NaN: the sign bit alone
one_nan_encoded : (f : Format) (layout : Layout) (bits : ℕ) → IsInterchange f layout → f.nonfinite ≡ NanNegativeZero
    → bits ≡ 2 ^ (layout.bits - 1) → IsEncodedBy f layout bits (nan false (nan_base f))
one_nan_encoded f layout bits law is bits_are =
    let base : 0 ≡ nan_base f = sym (ap (λ (k : NonfiniteBehavior). nan_base_of k f.precision) is) in
    let places : layout.bits - 1 ≡ trailing_bits f + layout.exponent_bits = omega (arith, law.bits) in
    let both : 2 ^ (layout.bits - 1) ≡ 2 ^ trailing_bits f * 2 ^ layout.exponent_bits =
    ap (λ (x : ℕ). 2 ^ x) places ∙ pow-add 2 (trailing_bits f) layout.exponent_bits in
    let same : bits_of_fields f layout (fields_with true 0 0) ≡ bits = omega (arith, both, bits_are) in
    subst (λ (s : ℕ). IsEncodedBy f layout bits (nan false s)) base
    (subst (λ (b : ℕ). IsEncodedBy f layout b (nan false 0)) same
    (fields_encode f layout (fields_with true 0 0) (nan false 0) law (one_nan_fields_of f layout law is)))

-- ---- what is delivered

-- a finite datum is kept
finished_finite : (saturates : Bool) (f : Format) (left right : Bool) (n : ℕ)
    → finished saturates f left (finite right n) ≡ finite right n
finished_finite true f left right n = refl
finished_finite false f left right n = refl

-- what is past the largest value becomes the largest value where conversions saturate
past_saturated : (kind : NonfiniteBehavior) (f : Format) (negative : Bool) (base : ℕ)
    → finished true f negative (past_largest kind base negative) ≡ finite negative (largest f)
past_saturated IEEE754 f negative base = refl
past_saturated NanOnly f negative base = refl
past_saturated NanNegativeZero f negative base = refl

-- the bits encode a datum, and whether the code is past the largest one says whether that is a NaN
pub record IsGivenCode (f : Format) (layout : Layout) (negative : Bool) (code : ℕ) (datum : Datum) : Type 0 where
  pub is_encoded : IsEncodedBy f layout (signed_code f.nonfinite layout.bits negative code) datum
  pub nan_is : (not (is_ieee f.nonfinite) && ltb (largest_code f) code) ≡ is_nan datum

-- a code within the largest one is that of no NaN
no_nan : (kind : NonfiniteBehavior) (past : Bool) → past ≡ false → (not (is_ieee kind) && past) ≡ false
no_nan IEEE754 past within = refl
no_nan NanOnly past within = within
no_nan NanNegativeZero past within = within

-- a number within the largest value
number_given : (f : Format) (layout : Layout) (negative : Bool) (place next code : ℕ) → IsInterchange f layout
    → f.explicit_integer_bit ≡ false → (place ≡ 0) ⊎ (2 ^ (f.precision - 1) ≤ next) → next ≤ 2 ^ f.precision
    → next * 2 ^ place ≤ largest f → code ≡ place * 2 ^ (f.precision - 1) + next → code ≤ largest_code f
    → IsGivenCode f layout negative code (signed_quanta f.nonfinite negative (next * 2 ^ place))
number_given f layout negative place next code law implied full fits within is low =
    let half : ℕ = 2 ^ (f.precision - 1) in
    let below = largest_below f layout law implied in
    let some : 0 < 2 ^ (f.precision - 1) = pow_pos (f.precision - 1) in
    let unit : 0 < 2 ^ place = pow_pos place in
    let forth : next * 2 ^ place ≡ 0 → code ≡ 0 = λ none.
    let no_digits = zero_factor next (2 ^ place) unit none in
    let last : place ≡ 0 =
    ⊎_elim (λ (z : place ≡ 0). z) (λ (h : 2 ^ (f.precision - 1) ≤ next). absurd
    (omega (arith, h, no_digits, some))) full in
    let nothing : place * 2 ^ (f.precision - 1) ≡ 0 * 2 ^ (f.precision - 1) = ap (λ (x : ℕ). x * half) last in
    omega (arith, is, nothing, no_digits) in
    let back : code ≡ 0 → next * 2 ^ place ≡ 0 = λ none.
    let no_digits : next ≡ 0 = omega (arith, is, none) in
    ap (λ (x : ℕ). x * 2 ^ place) no_digits ∙ omega arith in
    let it = signed_number f layout negative (next * 2 ^ place) code (omega (arith, low, below)) forth back in
    record {
      is_encoded =
          subst (λ (v : Datum). IsEncodedBy f layout (signed_code f.nonfinite layout.bits negative code) v)
          (sym it.value_is)
          (code_encoded f layout it.sign place next (signed_code f.nonfinite layout.bits negative code) law implied
          (λ none. it.may (ap (λ (x : ℕ). x * 2 ^ place) none ∙ omega arith)) full fits within
          (it.bits_are ∙ omega (arith, is)));
      nan_is =
          no_nan f.nonfinite (ltb (largest_code f) code) (le-ltb (largest_code f) code low)
          ∙ ap is_nan (sym it.value_is);
    }

-- the largest value
largest_given : (f : Format) (layout : Layout) (negative : Bool) → IsInterchange f layout
    → f.explicit_integer_bit ≡ false → IsGivenCode f layout negative (largest_code f) (finite negative (largest f))
largest_given f layout negative law implied =
    let full = greatest_full f.nonfinite f.precision law.precise in
    let some : 0 < 2 ^ (f.precision - 1) = pow_pos (f.precision - 1) in
    let unit : 0 < 2 ^ f.span = pow_pos f.span in
    let above : 1 * 2 ^ f.span ≤ largest f = mul-le-mul_right (2 ^ f.span) (omega (arith, full, some)) in
    let value : signed_quanta f.nonfinite negative (largest f) ≡ finite negative (largest f) =
    some_signed f.nonfinite negative (largest f) (λ e. omega (arith, e, above, unit)) in
    subst (λ (v : Datum). IsGivenCode f layout negative (largest_code f) v) value
    (number_given f layout negative f.span (greatest_significand f.nonfinite f.precision) (largest_code f) law implied
    (inr full) (omega (arith, greatest_fits f.nonfinite f.precision)) (omega arith) refl (omega arith))

-- what is past it
pub past_given : (kind : NonfiniteBehavior) (f : Format) (layout : Layout) (negative : Bool) → f.nonfinite ≡ kind
    → IsInterchange f layout → f.explicit_integer_bit ≡ false
    → IsGivenCode f layout negative (largest_code f + 1) (past_largest kind (nan_base f) negative)
past_given IEEE754 f layout negative is law implied =
    record {
      is_encoded =
          infinity_encoded f layout negative (signed_code f.nonfinite layout.bits negative (largest_code f + 1)) law is
          implied
          (ap (λ (x : ℕ). x + (largest_code f + 1))
          (keeps_sign f.nonfinite negative layout.bits (largest_code f + 1)
          (ap (λ (k : NonfiniteBehavior). has_no_sign k layout.bits (largest_code f + 1)) is)));
      nan_is = ap (λ (k : NonfiniteBehavior). not (is_ieee k) && ltb (largest_code f) (largest_code f + 1)) is;
    }
past_given NanOnly f layout negative is law implied =
    record {
      is_encoded =
          nan_encoded f layout negative (signed_code f.nonfinite layout.bits negative (largest_code f + 1)) law is
          implied
          (ap (λ (x : ℕ). x + (largest_code f + 1))
          (keeps_sign f.nonfinite negative layout.bits (largest_code f + 1)
          (ap (λ (k : NonfiniteBehavior). has_no_sign k layout.bits (largest_code f + 1)) is)));
      nan_is =
          ap (λ (k : NonfiniteBehavior). not (is_ieee k) && ltb (largest_code f) (largest_code f + 1)) is
          ∙ lt-ltb (largest_code f) (largest_code f + 1) (omega arith);
    }
past_given NanNegativeZero f layout negative is law implied =
    let twice : 2 * 2 ^ (f.precision - 1) ≡ 2 ^ f.precision = twice_half f.precision (omega (arith, law.precise)) in
    let some : 0 < 2 ^ (f.precision - 1) = pow_pos (f.precision - 1) in
    let top : greatest_significand f.nonfinite f.precision ≡ 2 ^ f.precision - 1 =
    ap (λ (k : NonfiniteBehavior). greatest_significand k f.precision) is in
    let span : f.span + 3 ≡ 2 ^ layout.exponent_bits + 1 =
    law.span ∙ ap (λ (k : NonfiniteBehavior). 2 ^ layout.exponent_bits + more_exponents k) is in
    let exponents : f.span + 2 ≡ 2 ^ layout.exponent_bits = omega (arith, span) in
    let places : (f.span + 2) * 2 ^ (f.precision - 1) ≡ 2 ^ layout.exponent_bits * 2 ^ (f.precision - 1) =
    ap (λ (x : ℕ). x * 2 ^ (f.precision - 1)) exponents in
    let code : largest_code f + 1 ≡ 2 ^ (layout.bits - 1) =
    omega (arith, top, twice, some, places, magnitude_bits f layout law implied) in
    record {
      is_encoded = one_nan_encoded f layout (signed_code f.nonfinite layout.bits negative (largest_code f + 1)) law is
          (bare f.nonfinite negative layout.bits (largest_code f + 1) is code);
      nan_is =
          ap (λ (k : NonfiniteBehavior). not (is_ieee k) && ltb (largest_code f) (largest_code f + 1)) is
          ∙ lt-ltb (largest_code f) (largest_code f + 1) (omega arith);
    }
  where
    bare : (kind : NonfiniteBehavior) (negative : Bool) (bits code : ℕ) → kind ≡ NanNegativeZero → code ≡ 2 ^ (bits - 1)
        → cond (negative && not (has_no_sign kind bits code)) (2 ^ (bits - 1)) 0 + code ≡ 2 ^ (bits - 1)
    bare kind true bits code e same =
        let rest : code % 2 ^ (bits - 1) ≡ 0 = ap (λ (x : ℕ). x % 2 ^ (bits - 1)) same ∙ mod_self (2 ^ (bits - 1)) in
        let has : has_no_sign kind bits code ≡ true =
        ap (λ (k : NonfiniteBehavior). has_no_sign k bits code) e ∙ eq-eqb (code % 2 ^ (bits - 1)) 0 rest in
        rw has (omega (arith, same))
    bare kind false bits code e same = omega (arith, same)

-- past the largest value, by the mode
beyond_given : (saturates out : Bool) (f : Format) (layout : Layout) (mode : Round) (negative : Bool)
    → leads_out mode negative ≡ out → IsInterchange f layout → f.explicit_integer_bit ≡ false
    → IsGivenCode f layout negative (greatest_code saturates f mode negative)
    (finished saturates f negative
    (cond out (past_largest f.nonfinite (nan_base f) negative) (finite negative (largest f))))
beyond_given true true f layout mode negative e law implied =
    rw e
    (subst (λ (v : Datum). IsGivenCode f layout negative (largest_code f) v)
    (sym (past_saturated f.nonfinite f negative (nan_base f)))
    (largest_given f layout negative law implied))
beyond_given true false f layout mode negative e law implied = rw e (largest_given f layout negative law implied)
beyond_given false true f layout mode negative e law implied = rw e
    (past_given f.nonfinite f layout negative refl law implied)
beyond_given false false f layout mode negative e law implied = rw e (largest_given f layout negative law implied)

-- the code that is delivered is that of the value that is delivered
value_given : (saturates : Bool) (f : Format) (layout : Layout) (mode : Round) (negative : Bool)
    (amount parts r rest : ℕ)
    → IsInterchange f layout → f.explicit_integer_bit ≡ false
    → (picked : IsPickedSingle f.precision mode negative amount parts r rest)
    → IsGivenCode f layout negative (min r (greatest_code saturates f mode negative))
    (finished saturates f negative
    (delivered_value f mode negative (picked.next * 2 ^ picked.place)))
value_given saturates f layout mode negative amount parts r rest law implied picked =
    let top = largest_code f in
    let pick = picked.next * 2 ^ picked.place in
    -- the cap is the largest code, or the one after it
    let least = moved_least (leads_out mode negative && not saturates) top top (omega arith) in
    let most = moved_most (leads_out mode negative && not saturates) top (top + 1) (omega arith) in
    let past_is : ltb (largest f) pick ≡ ltb top r =
    past_by_code f picked.next picked.place law.precise picked.full picked.fits
    ∙ ap (λ (x : ℕ). ltb top x) (sym picked.code_is) in
    let Says : ℕ → Datum → Type 0 = λ code v. IsGivenCode f layout negative code (finished saturates f negative v) in
    ⊎_elim {C = Says (min r (greatest_code saturates f mode negative)) (delivered_value f mode negative pick)}
    (λ (past : top < r).
    let capped : min r (greatest_code saturates f mode negative) ≡ greatest_code saturates f mode negative =
    min-eq_right (omega (arith, past, most)) in
    let value : delivered_value f mode negative pick
    ≡ cond (leads_out mode negative) (past_largest f.nonfinite (nan_base f) negative) (finite negative (largest f)) =
    rw (past_is ∙ lt-ltb top r past) refl in
    subst (λ (n : ℕ). Says n (delivered_value f mode negative pick)) (sym capped)
    (subst (λ (v : Datum). Says (greatest_code saturates f mode negative) v) (sym value)
    (beyond_given saturates (leads_out mode negative) f layout mode negative refl law implied)))
    (λ (within : r ≤ top).
    let same : min r (greatest_code saturates f mode negative) ≡ r = min-eq_left (omega (arith, within, least)) in
    let inside : ltb (largest f) pick ≡ false = past_is ∙ le-ltb top r within in
    let value : delivered_value f mode negative pick ≡ signed_quanta f.nonfinite negative pick = rw inside refl in
    let given = number_given f layout negative picked.place picked.next r law implied picked.full picked.fits
    (ltb-false (largest f) pick inside) picked.code_is within in
    subst (λ (n : ℕ). Says n (delivered_value f mode negative pick)) (sym same)
    (subst (λ (v : Datum). Says r v) (sym value)
    (subst (λ (v : Datum). IsGivenCode f layout negative r v) (kept saturates f negative f.nonfinite pick) given)))
    (cases_lt top r)
  where
    kept : (saturates : Bool) (f : Format) (negative : Bool) (kind : NonfiniteBehavior) (n : ℕ)
        → signed_quanta kind negative n ≡ finished saturates f negative (signed_quanta kind negative n)
    kept saturates f negative kind n =
        ⊎_elim
        (λ (none : n ≡ 0).
        let e = zero_signed kind negative n none in
        e ∙ sym (finished_finite saturates f negative (zero_sign kind negative) n)
        ∙ ap (finished saturates f negative) (sym e))
        (λ (some : n ≡ 0 → ⊥).
        let e = some_signed kind negative n some in
        e ∙ sym (finished_finite saturates f negative negative n) ∙ ap (finished saturates f negative) (sym e))
        (cases_eq n 0)

-- ---- flags

-- the sum of the flags, by what raises them; what is past is not tiny
flag_sum : (past some normal raises : Bool) → (past ≡ true → normal ≡ true)
    → flag_if 16 (some || past) + flag_if 8 ((some || past) && not normal) + flag_if 4 (past && raises)
    + flag_if 1 false
    ≡ cond past (cond raises 20 16) (cond some (cond normal 16 24) 0)
flag_sum true true true true large = refl
flag_sum true true true false large = refl
flag_sum true false true true large = refl
flag_sum true false true false large = refl
flag_sum true some false raises large = absurd (true≢false (sym (large refl)))
flag_sum false true true raises large = refl
flag_sum false true false raises large = refl
flag_sum false false normal raises large = refl

-- the status, by the same
status_sum : (past exact tiny raises some normal : Bool) → exact ≡ not some
    → (some ≡ true → tiny ≡ not normal)
    → ◌≡◌ {A = ℕ} (cond past (cond raises 20 16) (cond some (cond normal 16 24) 0))
    (cond past (cond raises 20 16) (cond exact 0 (cond tiny 24 16)))
status_sum true exact tiny raises some normal e t = refl
status_sum false exact tiny raises false normal e t = rw e refl
status_sum false exact tiny raises true true e t = rw (e, t refl) refl
status_sum false exact tiny raises true false e t = rw (e, t refl) refl

-- a test and the opposite one
below_or_from : (a b : ℕ) → ltb a b ≡ not (leb b a)
below_or_from a b =
    ⊎_elim (λ (l : a < b). lt-ltb a b l ∙ ap not (sym (lt-leb b a l)))
    (λ (l : b ≤ a). le-ltb a b l ∙ ap not (sym (le-leb b a l)))
    (cases_lt a b)

-- a code is below that of the least normal number exactly if its significand is
code_below : (half place next code : ℕ) → (place ≡ 0) ⊎ (half ≤ next) → code ≡ place * half + next
    → ltb next half ≡ ltb code half
code_below half place next code (inl z) is =
    let none : place * half ≡ 0 * half = ap (λ (x : ℕ). x * half) z in
    let same : next ≡ code = omega (arith, is, none) in
    ap (λ (x : ℕ). ltb x half) same
code_below half place next code (inr f) is = le-ltb next half f ∙ sym (le-ltb code half (omega (arith, is, f)))

-- flags that are not judged in half quanta
plain_flags : (ieee before : Bool) → (ieee && not before) ≡ false → before ≡ false → ieee ≡ false
plain_flags true true rule is = absurd (true≢false is)
plain_flags true false rule is = absurd (true≢false rule)
plain_flags false before rule is = refl

-- the rules of tininess, but for the one in half quanta
tiny_is : (f : Format) (mode : Round) (negative before by_kept by_code : Bool) (amount parts pick : ℕ)
    → reads_halves f ≡ false → f.tiny_before_rounding ≡ before
    → ltb amount (smallest_normalized f * parts) ≡ not by_kept → ltb pick (smallest_normalized f) ≡ not by_code
    → is_tiny f mode negative amount parts pick ≡ not (cond before by_kept by_code)
tiny_is f mode negative true by_kept by_code amount parts pick rule is by_amount by_pick = rw is by_amount
tiny_is f mode negative false by_kept by_code amount parts pick rule is by_amount by_pick =
    let by_halves : f.ieee_flags ≡ false = plain_flags f.ieee_flags f.tiny_before_rounding rule is in
    picked_is f mode negative amount parts pick is by_halves ∙ by_pick

-- what is past is normal by either test
past_is_normal : (before : Bool) (half kept r : ℕ) → half ≤ kept → half ≤ r
    → cond before (leb half kept) (leb half r) ≡ true
past_is_normal true half kept r by_kept by_code = le-leb half kept by_kept
past_is_normal false half kept r by_kept by_code = le-leb half r by_code

-- what is rounded to is at most one more than what is kept
rounded_most : (low : ℕ) (mode : Round) (negative : Bool) (t : ℕ) → rounded_by low mode negative t ≤ t / 2 ^ low + 1
rounded_most low mode negative t =
    moved_most (rounds_up mode negative (loss_at (t % 2 ^ low) (2 ^ (low - 1))) (eqb (t / 2 ^ low % 2) 1)) (t / 2 ^ low)
    (t / 2 ^ low + 1) (omega arith)

flags_given : (low : ℕ) (f : Format) (layout : Layout) (mode : Round) (negative : Bool) (t amount parts : ℕ)
    → IsInterchange f layout → reads_halves f ≡ false → 0 < parts → IsScaled f.precision low t amount parts
    → (picked : IsPickedSingle f.precision mode negative amount parts (rounded_by low mode negative t) (t % 2 ^ low))
    → let some = not (eqb (t % 2 ^ low) 0) in let past = ltb (largest_code f) (rounded_by low mode negative t) in
    let normal = cond f.tiny_before_rounding (leb (2 ^ (f.precision - 1)) (t / 2 ^ low))
    (leb (2 ^ (f.precision - 1)) (rounded_by low mode negative t)) in
    flag_if 16 (some || past) + flag_if 8 ((some || past) && not normal)
    + flag_if 4 (past && raises_overflow f mode negative) + flag_if 1 false
    ≡ delivered_status f mode negative amount parts (picked.next * 2 ^ picked.place)
flags_given low f layout mode negative t amount parts law rule any scaled picked =
    let precise = law.precise in
    let r = rounded_by low mode negative t in
    let kept = t / 2 ^ low in
    let half : ℕ = 2 ^ (f.precision - 1) in
    let pick = picked.next * 2 ^ picked.place in
    let past = ltb (largest_code f) r in
    let some = not (eqb (t % 2 ^ low) 0) in
    let normal = cond f.tiny_before_rounding (leb half kept) (leb half r) in
    let past_is : ltb (largest f) pick ≡ past =
    past_by_code f picked.next picked.place precise picked.full picked.fits
    ∙ ap (λ (x : ℕ). ltb (largest_code f) x) (sym picked.code_is) in
    let full = greatest_full f.nonfinite f.precision precise in
    let most = rounded_most low mode negative t in
    let large : past ≡ true → normal ≡ true = λ e.
    let above : largest_code f < r = ltb-true (largest_code f) r e in
    past_is_normal f.tiny_before_rounding half kept r (omega (arith, full, above, most)) (omega (arith, full, above)) in
    let exact_is : eqb (pick * parts) amount ≡ not some =
    ⊎_elim
    (λ (none : t % 2 ^ low ≡ 0).
    eq-eqb (pick * parts) amount (picked.exact none) ∙ rw (eq-eqb (t % 2 ^ low) 0 none) refl)
    (λ (more : t % 2 ^ low ≡ 0 → ⊥).
    ne_eqb (pick * parts) amount (picked.inexact more) ∙ rw (ne_eqb (t % 2 ^ low) 0 more) refl)
    (cases_eq (t % 2 ^ low) 0) in
    let by_amount : ltb amount (smallest_normalized f * parts) ≡ not (leb half kept) =
    sym (tiny_before f.precision half scaled.kept scaled.place amount parts any scaled.enclosed)
    ∙ code_below half scaled.place scaled.kept kept scaled.full scaled.code ∙ below_or_from kept half in
    let by_pick : ltb pick (smallest_normalized f) ≡ not (leb half r) =
    sym (tiny_after half picked.next picked.place picked.full)
    ∙ code_below half picked.place picked.next r picked.full picked.code_is ∙ below_or_from r half in
    let tiny : some ≡ true → is_tiny f mode negative amount parts pick ≡ not normal = λ _.
    tiny_is f mode negative f.tiny_before_rounding (leb half kept) (leb half r) amount parts pick rule refl by_amount
    by_pick in
    flag_sum past some normal (raises_overflow f mode negative) large
    ∙ status_sum past (eqb (pick * parts) amount) (is_tiny f mode negative amount parts pick)
    (raises_overflow f mode negative) some normal exact_is tiny ∙ rw past_is refl

-- ---- the answer

-- what a lane is made of
pub record IsMade (low : ℕ) (saturates : Bool) (f : Format) (layout : Layout) (mode : Round)
    (negative : Bool) (t : ℕ) (lane : Lane)
    : Type 0 where
  pub bits : lane.bits ≡ signed_code f.nonfinite layout.bits negative
      (min (rounded_by low mode negative t) (greatest_code saturates f mode negative))
  pub inexact : lane.inexact
      ≡ (not (eqb (t % 2 ^ low) 0) || ltb (largest_code f) (rounded_by low mode negative t))
  pub underflow : lane.underflow
      ≡ (lane.inexact && not (cond f.tiny_before_rounding (leb (2 ^ (f.precision - 1)) (t / 2 ^ low))
      (leb (2 ^ (f.precision - 1)) (rounded_by low mode negative t))))
  pub overflow : lane.overflow
      ≡ (ltb (largest_code f) (rounded_by low mode negative t) && raises_overflow f mode negative)
  pub invalid : lane.invalid ≡ false
  pub nan_is : lane.is_nan
      ≡ (not (is_ieee f.nonfinite)
      && ltb (largest_code f) (min (rounded_by low mode negative t) (greatest_code saturates f mode negative)))

pub made_rounded : (low : ℕ) (saturates : Bool) (f : Format) (layout : Layout) (mode : Round) (negative : Bool)
    (t amount parts : ℕ) (lane : Lane)
    → IsInterchange f layout → f.explicit_integer_bit ≡ false → reads_halves f ≡ false
    → 0 < parts → IsMade low saturates f layout mode negative t lane → IsScaled f.precision low t amount parts
    → IsRounded saturates f layout mode negative amount parts lane
made_rounded low saturates f layout mode negative t amount parts lane law implied rule any made scaled =
    let picked = picked_code f.precision low mode negative t amount parts law.precise any scaled in
    let pick = picked.next * 2 ^ picked.place in
    let given = value_given saturates f layout mode negative amount parts (rounded_by low mode negative t)
    (t % 2 ^ low) law implied picked in
    let flags : flags_of lane ≡ delivered_status f mode negative amount parts pick =
    rw (made.underflow, made.inexact, made.overflow, made.invalid)
    (flags_given low f layout mode negative t amount parts law rule any scaled picked) in
    record {
      rounded = delivered_value f mode negative pick;
      is_delivered = record { pick = pick; is_pick = picked.is_pick; value_is = refl; status_is = flags };
      is_encoded =
          subst
          (λ (n : ℕ). IsEncodedBy f layout n
          (finished saturates f negative (delivered_value f mode negative pick))) (sym made.bits) given.is_encoded;
      nan_is = made.nan_is ∙ given.nan_is;
    }

-- the same for a number that is reached, which is past all values if it is not the number itself
pub lane_rounded : (saturates : Bool) (f : Format) (layout : Layout) (mode : Round) (negative : Bool)
    (t amount parts : ℕ) (lane : Lane)
    → IsInterchange f layout → f.explicit_integer_bit ≡ false → reads_halves f ≡ false
    → 0 < parts → IsMade 16 saturates f layout mode negative t lane → IsReachedLane f t amount parts
    → IsRounded saturates f layout mode negative amount parts lane
lane_rounded saturates f layout mode negative t amount parts lane law implied rule any made it =
    let there = made_rounded 16 saturates f layout mode negative t it.reached parts lane law implied rule any made
    it.scaled
    in
    ⊎_elim
    (λ same. subst (λ (n : ℕ). IsRounded saturates f layout mode negative n parts lane) same there)
    (λ both. record {
      rounded = there.rounded;
      is_delivered =
          far_above f mode negative it.reached parts amount parts there.rounded (flags_of lane)
          (omega (arith, law.precise)) (record { some = both.0.some; from = both.0.from })
          (record { some = both.1.some; from = both.1.from }) there.is_delivered;
      is_encoded = there.is_encoded;
      nan_is = there.nan_is;
    }) it.alike
