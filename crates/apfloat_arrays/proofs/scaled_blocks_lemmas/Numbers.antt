-- The bits of numbers: without the sign, they number the magnitudes from zero up.
use Rattle.std.proofs.{Math.Nat.mul-le-mul_right, Math.Nat.mul-pos, lemmas.Bool.cases_lt, lemmas.Bool.cond-false}
use Rattle.std.proofs.Common.{◌≡◌, ℕ, ◌+◌, ◌-◌, ◌*◌, ◌/◌, ◌%◌, ◌^◌, ◌<◌, ◌≤◌, min, Bool, true, false, cond, eqb, refl}
use Rattle.std.proofs.Common.{sym, ap, ◌∙◌, ⊎_elim, arith, max, ◌&&◌, List, [], ◌∷◌, ◌++◌, subst}
use Rattle.std.proofs.Math.{Arith.mod-mul, Nat.add-mul-mod_self_right, Nat.min-eq_right, Nat.mod-eq_of_lt}
use Rattle.std.proofs.lemmas.{Bool.eq-eqb, Bool.true≢false, Nat.div-mul-add, Nat.mod_below, Nat.pow-add, Nat.pow_pos}
use Rattle.apfloat_model.proofs.{general.Powers.twice_half, formats.Ranges.ieee_within}
use Rattle.apfloat_model.proofs.bits.{Encodings.has_bits, EncodedOnce.fields_with}
use Rattle.apfloat_model.specs.{order.Classes.is_finite, order.Classes.quanta_of, rounding.Grid.IsOnGrid}
use Rattle.apfloat_model.specs.bits.{Interchange.IsInterchange, Layout.IsEncodedBy}
use Rattle.apfloat_model.specs.bits.Layout.{Layout, all_ones, datum_of_fields, implied_datum, trailing_bits}
use Rattle.apfloat_model.specs.declared.kinds.NonfiniteBehavior.{NonfiniteBehavior, TheVariants.IEEE754}
use Rattle.apfloat_model.specs.formats.Datum.{Datum, finite, infinite, nan}
use Rattle.apfloat_model.specs.formats.Format.{Format, largest}
use Rattle.apfloat_model.specs.formats.Lawful.{Constants, IsLawful, format_with, layout_with}
use Rattle.formats_at_run_time.specs.ValueKinds.{value_of}
use Rattle.small_formats.specs.{Codes.index_of, Codes.point, blocks.Magnitudes.are_finite}
use Rattle.small_formats.proofs.{Points.at_index, Points.low_point, Points.point_on_grid, StoredPicks.not_greater}
use Rattle.small_formats.proofs.blocks_lemmas.Greatest.{greatest_more, max_left, max_right}
use Rattle.apfloat_arrays.specs.scaled_blocks.Greatest.{AreAtMost, special_bits}
use Rattle.apfloat_arrays.specs.stored.NumberCodes.{biased_of, is_minus, quanta_in, significand_of}
use Rattle.apfloat_arrays.proofs.scaled_blocks_lemmas.Listed.{finite_push}
use Rattle.apfloat_arrays.proofs.stored_lemmas.Numbers.{normal_full, number_read}

-- ---- widths

pub whole_bits : (c : Constants) → IsLawful c → c.precision < c.bits → c.explicit_integer_bit ≡ false
    → c.bits ≡ c.exp_bits + c.precision
whole_bits c law wide implied =
    let h = has_bits c law wide in
    let none : ◌≡◌ {A = ℕ} (cond c.explicit_integer_bit 1 0) 0 = cond-false c.explicit_integer_bit 1 0 implied in
    omega (arith, h.bits, none)

pub some_special : (c : Constants) → IsLawful c → c.precision < c.bits → 0 < special_bits c
some_special c law wide =
    let h = has_bits c law wide in
    let twice = twice_half c.exp_bits h.exp_bits in
    let one : 0 < 2 ^ (c.exp_bits - 1) = pow_pos (c.exp_bits - 1) in
    mul-pos (omega (arith, twice, one)) (pow_pos (c.precision - 1))

pub half_of : (c : Constants) → 1 ≤ c.precision → c.bits ≡ c.exp_bits + c.precision
    → 2 ^ (c.bits - 1) ≡ 2 ^ c.exp_bits * 2 ^ (c.precision - 1)
half_of c some bits =
    let split : c.bits - 1 ≡ c.exp_bits + (c.precision - 1) = omega (arith, some, bits) in
    ap (λ (n : ℕ). 2 ^ n) split ∙ pow-add 2 c.exp_bits (c.precision - 1)

-- the bits below the sign are the exponent and the trailing significand
pub magnitude_parts : (c : Constants) (x : ℕ) → 1 ≤ c.precision → c.bits ≡ c.exp_bits + c.precision
    → x % 2 ^ (c.bits - 1) ≡ biased_of c x * 2 ^ (c.precision - 1) + x % 2 ^ (c.precision - 1)
magnitude_parts c x some bits =
    ap (λ (n : ℕ). x % n) (half_of c some bits) ∙ mod-mul x (pow_pos c.exp_bits) (pow_pos (c.precision - 1))

-- they are those of a number, or of an infinity or a NaN
pub below_special : (c : Constants) (x : ℕ) → 1 ≤ c.precision → c.bits ≡ c.exp_bits + c.precision
    → x % 2 ^ (c.bits - 1) < (2 ^ c.exp_bits - 1) * 2 ^ (c.precision - 1) → biased_of c x ≡ 2 ^ c.exp_bits - 1 → ⊥
below_special c x some bits below e =
    let parts = magnitude_parts c x some bits in
    let same : biased_of c x * 2 ^ (c.precision - 1) ≡ (2 ^ c.exp_bits - 1) * 2 ^ (c.precision - 1) =
    ap (λ (n : ℕ). n * 2 ^ (c.precision - 1)) e in
    omega (arith, parts, same, below)

pub quanta_point : (c : Constants) (x : ℕ) → 1 ≤ c.precision → c.bits ≡ c.exp_bits + c.precision
    → quanta_in c x ≡ point c.precision (x % 2 ^ (c.bits - 1))
quanta_point c x some bits =
    let h : ℕ = 2 ^ (c.precision - 1) in
    let e = biased_of c x in
    let t = x % 2 ^ (c.precision - 1) in
    let double : 2 * 2 ^ (c.precision - 1) ≡ 2 ^ c.precision = twice_half c.precision some in
    let below : t < 2 ^ (c.precision - 1) = mod_below x (2 ^ (c.precision - 1)) (pow_pos (c.precision - 1)) in
    let parts = magnitude_parts c x some bits in
    ⊎_elim {C = quanta_in c x ≡ point c.precision (x % 2 ^ (c.bits - 1))}
    (λ (zero : e < 1).
    let none : min e 1 * 2 ^ (c.precision - 1) ≡ 0 * 2 ^ (c.precision - 1) =
    (let z : min (biased_of c x) 1 ≡ 0 = omega (arith, zero) in ap (λ (n : ℕ). n * 2 ^ (c.precision - 1)) z) in
    let nothing : e * 2 ^ (c.precision - 1) ≡ 0 * 2 ^ (c.precision - 1) =
    (let z : biased_of c x ≡ 0 = omega (arith, zero) in ap (λ (n : ℕ). n * 2 ^ (c.precision - 1)) z) in
    let last : e - 1 ≡ 0 = omega (arith, zero) in
    let less : (e - 1) * 2 ^ (c.precision - 1) ≡ 0 * 2 ^ (c.precision - 1) =
    ap (λ (n : ℕ). n * 2 ^ (c.precision - 1)) last in
    let is : x % 2 ^ (c.bits - 1) ≡ index_of c.precision (significand_of c x) (e - 1) =
    omega (arith, parts, none, nothing, less) in
    sym (ap (point c.precision) is
    ∙ at_index c.precision (significand_of c x) (e - 1) (omega (arith, some)) (omega (arith, none, below, double))
    (normal_full c x)))
    (λ (any : 1 ≤ e).
    let one : min e 1 * 2 ^ (c.precision - 1) ≡ 1 * 2 ^ (c.precision - 1) =
    ap (λ (n : ℕ). n * 2 ^ (c.precision - 1)) (min-eq_right any) in
    let whole : e ≡ e - 1 + 1 = omega (arith, any) in
    let step : e * 2 ^ (c.precision - 1) ≡ (e - 1 + 1) * 2 ^ (c.precision - 1) =
    ap (λ (n : ℕ). n * 2 ^ (c.precision - 1)) whole in
    let is : x % 2 ^ (c.bits - 1) ≡ index_of c.precision (significand_of c x) (e - 1) =
    omega (arith, parts, one, step) in
    sym (ap (point c.precision) is
    ∙ at_index c.precision (significand_of c x) (e - 1) (omega (arith, some)) (omega (arith, one, below, double))
    (normal_full c x)))
    (cases_lt e 1)

-- ---- the bits of a number

-- the sign above m
pub record HasSign (half m x : ℕ) (negative : Bool) : Type 0 where
  pub rest : x % half ≡ m
  pub sign : eqb (x / half % 2) 1 ≡ negative

pub signed_parts : (half m x : ℕ) (negative : Bool) → m < half → x ≡ cond negative half 0 + m
    → HasSign half m x negative
signed_parts half m x true below is =
    let swapped : x ≡ 1 * half + m = omega (arith, is) in
    let turned : x ≡ m + 1 * half = omega (arith, is) in
    record {
      rest = ap (λ (n : ℕ). n % half) turned ∙ add-mul-mod_self_right m 1 half ∙ mod-eq_of_lt below;
      sign = ap (λ (n : ℕ). eqb (n % 2) 1) (ap (λ (n : ℕ). n / half) swapped ∙ div-mul-add 1 half m below);
    }
signed_parts half m x false below is =
    let swapped : x ≡ 0 * half + m = omega (arith, is) in
    record {
      rest = ap (λ (n : ℕ). n % half) (let z : x ≡ m = omega (arith, is) in z) ∙ mod-eq_of_lt below;
      sign = ap (λ (n : ℕ). eqb (n % 2) 1) (ap (λ (n : ℕ). n / half) swapped ∙ div-mul-add 0 half m below);
    }

pub sign_most : (negative : Bool) (half : ℕ) → cond negative half 0 ≤ half
sign_most true half = omega arith
sign_most false half = omega arith

-- the number with that index
pub record IsWordOf (d : Constants) (negative : Bool) (index bits : ℕ) : Type 0 where
  pub on_grid : IsOnGrid d.precision (point d.precision index)
  pub fits : point d.precision index ≤ largest (format_with d)
  pub is_encoded : IsEncodedBy (format_with d) (layout_with d) bits (finite negative (point d.precision index))

pub word_of_index : (d : Constants) (negative : Bool) (index bits : ℕ) → 1 ≤ d.precision
    → d.bits ≡ d.exp_bits + d.precision → IsInterchange (format_with d) (layout_with d) → d.nonfinite ≡ IEEE754
    → d.explicit_integer_bit ≡ false → index < special_bits d → bits ≡ cond negative (2 ^ (d.bits - 1)) 0 + index
    → IsWordOf d negative index bits
word_of_index d negative index bits some whole law kind implied below is =
    let half : ℕ = 2 ^ (d.bits - 1) in
    let unit : ℕ = 2 ^ (d.precision - 1) in
    let power = half_of d some whole in
    let top : (2 ^ d.exp_bits - 1) * 2 ^ (d.precision - 1) ≤ 2 ^ d.exp_bits * 2 ^ (d.precision - 1) =
    mul-le-mul_right (2 ^ (d.precision - 1)) (let z : 2 ^ d.exp_bits - 1 ≤ 2 ^ d.exp_bits = omega arith in z) in
    let low : index < 2 ^ (d.bits - 1) = omega (arith, below, top, power) in
    let parts = signed_parts half index bits negative low is in
    let rest : bits % 2 ^ (d.bits - 1) ≡ index = parts.rest in
    let number : biased_of d bits ≡ 2 ^ d.exp_bits - 1 → ⊥ =
    below_special d bits some whole (subst (λ (n : ℕ). n < special_bits d) (sym rest) below) in
    let quanta : quanta_in d bits ≡ point d.precision index =
    quanta_point d bits some whole ∙ ap (point d.precision) rest in
    let double : 2 * 2 ^ (d.precision - 1) ≡ 2 ^ d.precision = twice_half d.precision some in
    let trailing : bits % 2 ^ (d.precision - 1) < 2 ^ (d.precision - 1) =
    mod_below bits unit (pow_pos (d.precision - 1)) in
    let one : min (biased_of d bits) 1 * 2 ^ (d.precision - 1) ≤ 1 * 2 ^ (d.precision - 1) =
    mul-le-mul_right (2 ^ (d.precision - 1)) (let z : min (biased_of d bits) 1 ≤ 1 = omega arith in z) in
    let fits : significand_of d bits < 2 ^ d.precision = omega (arith, double, trailing, one) in
    let most : biased_of d bits < 2 ^ d.exp_bits = mod_below (bits / unit) (2 ^ d.exp_bits) (pow_pos d.exp_bits) in
    let within : quanta_in d bits ≤ largest (format_with d) =
    ieee_within (format_with d) (layout_with d) (significand_of d bits) (biased_of d bits) law kind fits most number in
    let twice : 2 * 2 ^ (d.bits - 1) ≡ 2 ^ d.bits = twice_half d.bits (omega (arith, some, whole)) in
    let sign : cond negative (2 ^ (d.bits - 1)) 0 ≤ 2 ^ (d.bits - 1) = sign_most negative (2 ^ (d.bits - 1)) in
    record {
      on_grid = point_on_grid d.precision index (omega (arith, some));
      fits = subst (λ (n : ℕ). n ≤ largest (format_with d)) quanta within;
      is_encoded = record {
        below = omega (arith, is, low, twice, sign);
        canonical = rw implied refl;
        is = number_read d bits kind implied number ∙ (λ i. finite (parts.sign i) (quanta i));
      };
    }

-- ---- infinities and NaNs

neither : (first negative : Bool) (trailing : ℕ)
    → is_finite (cond first (infinite negative) (nan negative trailing)) ≡ false
neither true negative trailing = refl
neither false negative trailing = refl

special_fields : (f : Format) (layout : Layout) (negative : Bool) (biased trailing : ℕ) → f.nonfinite ≡ IEEE754
    → f.explicit_integer_bit ≡ false → eqb biased (all_ones layout.exponent_bits) ≡ true
    → is_finite (datum_of_fields f layout (fields_with negative biased trailing)) ≡ false
special_fields f layout negative biased trailing kind implied all =
    ap is_finite
    (cond-false f.explicit_integer_bit _ _ implied
    ∙ ap (λ (k : NonfiniteBehavior). implied_datum k f layout (fields_with negative biased trailing)) kind)
    ∙ rw all (neither (eqb trailing 0) negative trailing)

pub special_read : (c : Constants) (x : ℕ) → c.nonfinite ≡ IEEE754 → c.explicit_integer_bit ≡ false
    → biased_of c x ≡ 2 ^ c.exp_bits - 1 → is_finite (value_of c x) ≡ false
special_read c x kind implied all =
    let width : trailing_bits (format_with c) ≡ c.precision - 1 =
    cond-false c.explicit_integer_bit _ _ implied in
    ap is_finite (λ i. datum_of_fields (format_with c) (layout_with c)
    (fields_with (is_minus c x) (x / 2 ^ width i % 2 ^ c.exp_bits) (x % 2 ^ width i)))
    ∙ special_fields (format_with c) (layout_with c) (is_minus c x) (biased_of c x) (x % 2 ^ (c.precision - 1)) kind
    implied (eq-eqb (biased_of c x) (2 ^ c.exp_bits - 1) all)

-- a finite value is a number
pub number_if : (c : Constants) (x : ℕ) → c.nonfinite ≡ IEEE754 → c.explicit_integer_bit ≡ false
    → is_finite (value_of c x) ≡ true → biased_of c x ≡ 2 ^ c.exp_bits - 1 → ⊥
number_if c x kind implied holds all = true≢false (sym holds ∙ special_read c x kind implied all)

pub from_special : (c : Constants) (x : ℕ) → 1 ≤ c.precision → c.bits ≡ c.exp_bits + c.precision
    → (2 ^ c.exp_bits - 1) * 2 ^ (c.precision - 1) ≤ x % 2 ^ (c.bits - 1) → biased_of c x ≡ 2 ^ c.exp_bits - 1
from_special c x some bits above =
    let h : ℕ = 2 ^ (c.precision - 1) in
    let e = biased_of c x in
    let parts = magnitude_parts c x some bits in
    let below = mod_below x h (pow_pos (c.precision - 1)) in
    let most : e < 2 ^ c.exp_bits = mod_below (x / h) (2 ^ c.exp_bits) (pow_pos c.exp_bits) in
    ⊎_elim {C = e ≡ 2 ^ c.exp_bits - 1}
    (λ (less : e < 2 ^ c.exp_bits - 1).
    let more : (e + 1) * h ≤ (2 ^ c.exp_bits - 1) * h = mul-le-mul_right h (omega (arith, less)) in
    absurd (omega (arith, more, above, parts, below)))
    (λ (last : 2 ^ c.exp_bits - 1 ≤ e). omega (arith, last, most))
    (cases_lt e (2 ^ c.exp_bits - 1))

-- ---- the greatest of them

point_max : (p a b : ℕ) → 0 < p → max (point p b) (point p a) ≡ point p (max a b)
point_max p a b some =
    ⊎_elim {C = max (point p b) (point p a) ≡ point p (max a b)}
    (λ (l : a < b).
    let le : a ≤ b = omega (arith, l) in
    max_left (point p b) (point p a) (not_greater p a b some le) ∙ ap (point p) (sym (max_right a b le)))
    (λ (l : b ≤ a).
    max_right (point p b) (point p a) (not_greater p b a some l) ∙ ap (point p) (sym (max_left a b l)))
    (cases_lt a b)

alone : (a : Bool) → (a && true) ≡ a
alone true = refl
alone false = refl

joined : (a b c : Bool) → (a && (b && c)) ≡ ((a && b) && c)
joined true b c = refl
joined false b c = refl

finite_both : (xs : List Datum) (x : Datum) → are_finite (xs ++ x ∷ []) ≡ (are_finite xs && is_finite x)
finite_both [] x = alone (is_finite x)
finite_both (y ∷ xs) x =
    ap (λ (b : Bool). is_finite y && b) (finite_both xs x) ∙ joined (is_finite y) (are_finite xs) (is_finite x)

first_false : (a b : Bool) → a ≡ false → (a && b) ≡ false
first_false true b e = absurd (true≢false e)
first_false false b e = refl

second_false : (a b : Bool) → b ≡ false → (a && b) ≡ false
second_false true b e = e
second_false false b e = refl

pub none_at_most : (c : Constants) → 0 < special_bits c → AreAtMost c [] 0
none_at_most c some = record {
  finite = λ below. (refl, sym (low_point c.precision 0 (pow_pos (c.precision - 1))));
  other = λ above. absurd (omega (arith, above, some));
}

pub more_at_most : (c : Constants) (xs : List Datum) (bits x : ℕ) → 1 ≤ c.precision
    → c.bits ≡ c.exp_bits + c.precision → c.nonfinite ≡ IEEE754 → c.explicit_integer_bit ≡ false → AreAtMost c xs bits
    → AreAtMost c (xs ++ value_of c x ∷ []) (max bits (x % 2 ^ (c.bits - 1)))
more_at_most c xs bits x some whole kind implied so_far =
    let m = x % 2 ^ (c.bits - 1) in
    let d = value_of c x in
    record {
      finite = λ below.
          let read = number_read c x kind implied
          (below_special c x some whole (omega (arith, below))) in
          let before = so_far.finite (omega (arith, below)) in
          let quanta : quanta_of d ≡ point c.precision m = ap quanta_of read ∙ quanta_point c x some whole in (
            finite_push xs d before.0 (ap is_finite read),
            greatest_more xs d ∙ (λ i. max (quanta i) (before.1 i))
                ∙ point_max c.precision bits m (omega (arith, some)),
          );
      other = λ above.
          ⊎_elim {C = are_finite (xs ++ value_of c x ∷ []) ≡ false}
          (λ (small : bits < special_bits c).
          finite_both xs d ∙ second_false (are_finite xs) (is_finite d)
          (special_read c x kind implied (from_special c x some whole (omega (arith, above, small)))))
          (λ (large : special_bits c ≤ bits).
          finite_both xs d ∙ first_false (are_finite xs) (is_finite d) (so_far.other large))
          (cases_lt bits (special_bits c));
    }
