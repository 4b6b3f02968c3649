-- Encodings without their sign bits are in the order of the magnitudes of their values.
use Rattle.std.proofs.Common.{◌≡◌, ℕ, zero, suc, ℤ, ◌<ℤ◌, ◌+◌, ◌-◌, ◌*◌, ◌/◌, ◌%◌, ◌^◌, ◌<◌, ◌≤◌, Bool, true, false}
use Rattle.std.proofs.Common.{Some, of_z, to_z, w64, refl, ap, ◌∙◌, sym, subst, inl, inr, ⊎_elim, arith}
use Rattle.std.proofs.Math.Nat.{mul-le-mul_left, mul-le-mul_right, mul-lt-mul_of_pos_right, pow-le-pow_right}
use Rattle.std.proofs.{Math.Nat.two-pow-succ, lemmas.Bool.cases_lt}
use Rattle.std.proofs.lemmas.{Bool.cond-false, Bool.ne_eqb, Bool.eq-eqb, Cmp.by_ranked, Int.ints, Nat.field_of}
use Rattle.std.proofs.lemmas.{Nat.div-add-mod', Nat.mod_below, Nat.pow-add, Nat.pow_pos, Bool.Decides.eqb_tells}
use Rattle.std.specs.{Ordering.int_cmp, Cmp.int_cmp_is, Cmp.int_ranks}
use Rattle.std.specs.declared.cmp.Ordering.TheVariants.{Less, Equal, Greater}
use Rattle.apfloat_model.specs.{arithmetic.Exact.signed, order.Classes.is_nan, order.Order.compared}
use Rattle.apfloat_model.specs.declared.kinds.NonfiniteBehavior.{NonfiniteBehavior, TheVariants.IEEE754}
use Rattle.apfloat_model.specs.bits.{Interchange.IsInterchange, Layout.all_ones, Layout.Layout, Layout.fields_of}
use Rattle.apfloat_model.specs.bits.Layout.{implied_datum, implied_number, trailing_bits}
use Rattle.apfloat_model.specs.formats.{Datum.Datum, Datum.finite, Format.Format}
use Rattle.apfloat_model.specs.formats.Lawful.{Constants, format_with, layout_with}
use Rattle.apfloat_model.proofs.{bits.EncodedOnce.fields_with, general.Powers.fits_longer, general.Powers.lower_mod}
use Rattle.apfloat_model.proofs.{general.Powers.two_pos}
use Rattle.fast_bits.specs.{Encoded.value_in, Order.CountsFor, Order.IsPlaceOf, Order.quanta_at}
use Rattle.fast_bits.proofs.Reading.{trailing_low}

-- ---- quanta

-- a lower exponent is that of lesser numbers
pub below_exponent : (least b s c t : ℕ) → s < least → b < c → quanta_at least b s < quanta_at least c t
below_exponent least b s zero t few less = absurd (omega (arith, less))
below_exponent least zero s (suc c) t few less =
    let more : (least + t) * 1 ≤ (least + t) * 2 ^ c = mul-le-mul_left (least + t) (pow_pos c) in
    omega (arith, more, few)
below_exponent least (suc b) s (suc c) t few less =
    let power : 2 ^ suc b ≤ 2 ^ c = pow-le-pow_right two_pos (omega (arith, less)) in
    let more : least * 2 ^ suc b ≤ least * 2 ^ c = mul-le-mul_left least power in
    let up : least * 2 ^ c ≤ (least + t) * 2 ^ c = mul-le-mul_right (2 ^ c) (omega arith) in
    let low : (least + s) * 2 ^ b < (least + least) * 2 ^ b =
    mul-lt-mul_of_pos_right (omega (arith, few)) (pow_pos b) in
    let twice : least * 2 ^ suc b ≡ least * (2 ^ b + 2 ^ b) = ap (λ (n : ℕ). least * n) (two-pow-succ b) in
    omega (arith, more, up, low, twice)

within_exponent : (least b s t : ℕ) → s < t → quanta_at least b s < quanta_at least b t
within_exponent least zero s t less = less
within_exponent least (suc b) s t less = mul-lt-mul_of_pos_right (omega (arith, less)) (pow_pos b)

-- a magnitude that is not greater has no greater exponent
exponents_below : (least b s c t : ℕ) → t < least → b * least + s ≤ c * least + t → b ≤ c
exponents_below least b s c t few le =
    ⊎_elim
    (λ (past : c < b).
    let over : (c + 1) * least ≤ b * least = mul-le-mul_right least (omega (arith, past)) in
    absurd (omega (arith, over, le, few)))
    (λ (within : b ≤ c). within)
    (cases_lt c b)

-- a lesser magnitude is that of fewer quanta
magnitude_below : (least b s c t : ℕ) → s < least → t < least → b * least + s < c * least + t
    → quanta_at least b s < quanta_at least c t
magnitude_below least b s c t left right less =
    ⊎_elim
    (λ (low : b < c). below_exponent least b s c t left low)
    (λ (high : c ≤ b).
    let is : b ≡ c = omega (arith, high, exponents_below least b s c t right (omega (arith, less))) in
    let digits : s < t = omega (arith, less, ap (λ (n : ℕ). n * least) is) in
    subst (λ (n : ℕ). quanta_at least b s < quanta_at least n t) is (within_exponent least b s t digits))
    (cases_lt b c)

magnitude_same : (least b s c t : ℕ) → s < least → t < least → b * least + s ≡ c * least + t
    → quanta_at least b s ≡ quanta_at least c t
magnitude_same least b s c t left right same =
    let low = exponents_below least b s c t right (omega (arith, same)) in
    let high = exponents_below least c t b s left (omega (arith, same)) in
    let is : b ≡ c = omega (arith, low, high) in
    let digits : s ≡ t = omega (arith, same, ap (λ (n : ℕ). n * least) is) in
    ap (λ (n : ℕ). quanta_at least n s) is ∙ ap (λ (n : ℕ). quanta_at least c n) digits

-- ---- order

pub record AreAlike (m n i j : ℕ) : Type 0 where
  pub less : m < n → i < j
  pub more : n < m → j < i
  pub same : m ≡ n → i ≡ j
  pub some : 0 < m + n → 0 < i + j
  pub none : m + n ≤ 0 → i + j ≡ 0

-- magnitudes are in the order of the quanta that they stand for
pub are_alike : (least b s c t : ℕ) → s < least → t < least
    → AreAlike (b * least + s) (c * least + t) (quanta_at least b s) (quanta_at least c t)
are_alike least b s c t left right =
    let zero_below : 0 < least = omega (arith, left) in
    record {
      less = magnitude_below least b s c t left right;
      more = magnitude_below least c t b s right left;
      same = magnitude_same least b s c t left right;
      some = λ h.
          ⊎_elim
          (λ (m : 0 < b * least + s).
          let k = magnitude_below least 0 0 b s zero_below left (omega (arith, m)) in omega (arith, k))
          (λ (m : b * least + s ≤ 0).
          let k = magnitude_below least 0 0 c t zero_below right (omega (arith, h, m)) in omega (arith, k))
          (cases_lt 0 (b * least + s));
      none = λ h.
          let i = magnitude_same least 0 0 b s zero_below left (omega (arith, h)) in
          let j = magnitude_same least 0 0 c t zero_below right (omega (arith, h)) in
          omega (arith, i, j);
    }

-- numbers with signs are in one order with those that their magnitudes stand for
signed_less : (a b : Bool) (m n i j : ℕ) → AreAlike m n i j → signed a m <ℤ signed b n → signed a i <ℤ signed b j
signed_less false false m n i j are h = omega (arith, ints, are.less (omega (arith, ints, h)))
signed_less true true m n i j are h = omega (arith, ints, are.more (omega (arith, ints, h)))
signed_less true false m n i j are h = omega (arith, ints, are.some (omega (arith, ints, h)))
signed_less false true m n i j are h = absurd (omega (arith, ints, h))

signed_same : (a b : Bool) (m n i j : ℕ) → AreAlike m n i j → signed a m ≡ signed b n → signed a i ≡ signed b j
signed_same false false m n i j are e = ap (signed false) (are.same (omega (arith, ints, e)))
signed_same true true m n i j are e = ap (signed true) (are.same (omega (arith, ints, e)))
signed_same true false m n i j are e = omega (arith, ints, are.none (omega (arith, ints, e)))
signed_same false true m n i j are e = omega (arith, ints, are.none (omega (arith, ints, e)))

signed_alike : (a b : Bool) (m n i j : ℕ) → AreAlike m n i j → AreAlike n m j i
    → int_cmp (signed a m) (signed b n) ≡ int_cmp (signed a i) (signed b j)
signed_alike a b m n i j are back =
    by_ranked (signed a m <ℤ signed b n) (signed a m ≡ signed b n) (signed b n <ℤ signed a m)
    (int_cmp (signed a m) (signed b n)) (int_ranks (signed a m) (signed b n))
    (λ e h. e ∙ int_cmp_is (signed a i) (signed b j) Less (signed_less a b m n i j are h))
    (λ e h. e ∙ int_cmp_is (signed a i) (signed b j) Equal (signed_same a b m n i j are h))
    (λ e h. e ∙ int_cmp_is (signed a i) (signed b j) Greater (signed_less b a n m j i back h))

signed_within : (a : Bool) (m top : ℕ) → m < top → (signed true top <ℤ signed a m) × (signed a m <ℤ signed false top)
signed_within true m top h = (omega (arith, ints, h), omega (arith, ints, h))
signed_within false m top h = (omega (arith, ints, h), omega (arith, ints, h))

-- values are in the order of what they count for
counted_order : (top : ℕ) (a b : Bool) (m n : ℕ) (x y : Datum) → 0 < top → CountsFor top a m x → CountsFor top b n y
    → Some (int_cmp (signed a m) (signed b n)) ≡ compared x y
counted_order top a b m n x y some (inl left) (inl right) = rw (left.0, right.0) refl
counted_order top a true m n x y some (inl left) (inr right) = rw (left.0, right.0, right.1)
    (ap Some (sym (int_cmp_is (signed a m) (signed true top) Greater (signed_within a m top left.1).0)))
counted_order top a false m n x y some (inl left) (inr right) = rw (left.0, right.0, right.1)
    (ap Some (sym (int_cmp_is (signed a m) (signed false top) Less (signed_within a m top left.1).1)))
counted_order top true b m n x y some (inr left) (inl right) = rw (left.0, right.0, left.1)
    (ap Some (sym (int_cmp_is (signed true top) (signed b n) Less (signed_within b n top right.1).0)))
counted_order top false b m n x y some (inr left) (inl right) = rw (left.0, right.0, left.1)
    (ap Some (sym (int_cmp_is (signed false top) (signed b n) Greater (signed_within b n top right.1).1)))
counted_order top true true m n x y some (inr left) (inr right) = rw (left.0, right.0)
    (ap Some (sym (int_cmp_is (signed true m) (signed true n) Equal (ap (signed true) (left.1 ∙ sym right.1)))))
counted_order top false false m n x y some (inr left) (inr right) = rw (left.0, right.0)
    (ap Some (sym (int_cmp_is (signed false m) (signed false n) Equal (ap (signed false) (left.1 ∙ sym right.1)))))
counted_order top true false m n x y some (inr left) (inr right) = rw (left.0, right.0)
    (ap Some (sym (int_cmp_is (signed true m) (signed false n) Less (omega (arith, ints, some, left.1, right.1)))))
counted_order top false true m n x y some (inr left) (inr right) = rw (left.0, right.0)
    (ap Some (sym (int_cmp_is (signed false m) (signed true n) Greater (omega (arith, ints, some, left.1, right.1)))))

-- ---- encodings

pub infinity_fits : (c : Constants) → IsInterchange (format_with c) (layout_with c) → c.explicit_integer_bit ≡ false
    → c.bits ≤ 64 → all_ones c.exp_bits * 2 ^ (c.precision - 1) < 2 ^ 64
infinity_fits c law implied word =
    let t = c.precision - 1 in
    let width : trailing_bits (format_with c) ≡ c.precision - 1 = cond-false c.explicit_integer_bit _ _ implied in
    let power : 2 ^ (c.exp_bits + t) ≡ 2 ^ c.exp_bits * 2 ^ t = pow-add 2 c.exp_bits t in
    let less : all_ones c.exp_bits * 2 ^ t < 2 ^ c.exp_bits * 2 ^ t =
    mul-lt-mul_of_pos_right (omega (arith, pow_pos c.exp_bits)) (pow_pos t) in
    fits_longer (all_ones c.exp_bits * 2 ^ t) (c.exp_bits + t) 64 (omega (arith, less, power))
    (omega (arith, law.bits, width, word))

-- the fields of bits with a magnitude: the biased exponent, followed by the trailing significand
pub record AreParts (c : Constants) (bits magnitude : ℕ) : Type 0 where
  pub most : (fields_of (format_with c) (layout_with c) bits).biased_exponent ≤ all_ones c.exp_bits
  pub few : (fields_of (format_with c) (layout_with c) bits).trailing < 2 ^ (c.precision - 1)
  pub is : magnitude ≡ (fields_of (format_with c) (layout_with c) bits).biased_exponent * 2 ^ (c.precision - 1)
      + (fields_of (format_with c) (layout_with c) bits).trailing

pub parts_of : (c : Constants) (bits magnitude : ℕ) → IsInterchange (format_with c) (layout_with c)
    → c.explicit_integer_bit ≡ false → magnitude ≡ bits % 2 ^ (c.bits - 1) → AreParts c bits magnitude
parts_of c bits magnitude law implied is =
    let e = c.exp_bits in
    let t = trailing_bits (format_with c) in
    let at : c.bits - 1 ≡ e + t = omega (arith, law.bits) in
    let width : t ≡ c.precision - 1 = cond-false c.explicit_integer_bit _ _ implied in
    let there : magnitude ≡ bits % 2 ^ (e + t) = is ∙ ap (λ (n : ℕ). bits % 2 ^ n) at in
    let high = ap (λ (n : ℕ). n * 2 ^ t) (field_of bits e t) in
    let low = lower_mod bits (e + t) t (omega arith) in
    let parts = div-add-mod' (bits % 2 ^ (e + t)) (2 ^ t) in
    record {
      most = omega (arith, mod_below (bits / 2 ^ t) (2 ^ e) (pow_pos e));
      few = trailing_low c bits implied;
      is = omega (arith, there, low, parts, high, ap (λ (n : ℕ). bits / 2 ^ t % 2 ^ e * 2 ^ n) width);
    }

-- the value of bits in a format with infinities
value_is : (c : Constants) (bits : ℕ) → c.explicit_integer_bit ≡ false → c.nonfinite ≡ IEEE754
    → value_in c bits ≡ implied_datum IEEE754 (format_with c) (layout_with c)
    (fields_of (format_with c) (layout_with c) bits)
value_is c bits implied kind =
    cond-false c.explicit_integer_bit _ _ implied
    ∙ ap (λ (k : NonfiniteBehavior). implied_datum k (format_with c) (layout_with c)
    (fields_of (format_with c) (layout_with c) bits)) kind

number_counts : (f : Format) (negative : Bool) (biased trailing : ℕ)
    → implied_number f (fields_with negative biased trailing)
    ≡ finite negative (quanta_at (2 ^ (f.precision - 1)) biased trailing)
number_counts f negative zero trailing = refl
number_counts f negative (suc place) trailing = let e : suc place - 1 ≡ place = omega arith in
    rw (ne_eqb (suc place) 0 (λ none. omega (arith, none)), e) refl

number_below : (f : Format) (layout : Layout) (negative : Bool) (biased trailing : ℕ)
    → biased < all_ones layout.exponent_bits
    → implied_datum IEEE754 f layout (fields_with negative biased trailing)
    ≡ finite negative (quanta_at (2 ^ (f.precision - 1)) biased trailing)
number_below f layout negative biased trailing below =
    rw (ne_eqb biased (all_ones layout.exponent_bits) (λ e. omega (arith, e, below)))
    (number_counts f negative biased trailing)

-- the number of bits below the greatest exponent
pub number_in : (c : Constants) (bits : ℕ) → c.explicit_integer_bit ≡ false → c.nonfinite ≡ IEEE754
    → (fields_of (format_with c) (layout_with c) bits).biased_exponent < all_ones c.exp_bits
    → value_in c bits ≡ finite (fields_of (format_with c) (layout_with c) bits).negative
    (quanta_at (2 ^ (c.precision - 1)) (fields_of (format_with c) (layout_with c) bits).biased_exponent
    (fields_of (format_with c) (layout_with c) bits).trailing)
number_in c bits implied kind below =
    let x = fields_of (format_with c) (layout_with c) bits in
    value_is c bits implied kind
    ∙ number_below (format_with c) (layout_with c) x.negative x.biased_exponent x.trailing below

fields_count : (f : Format) (layout : Layout) (negative : Bool) (biased trailing : ℕ)
    → biased ≤ all_ones layout.exponent_bits → trailing < 2 ^ (f.precision - 1)
    → (biased ≡ all_ones layout.exponent_bits → trailing ≡ 0)
    → CountsFor (quanta_at (2 ^ (f.precision - 1)) (all_ones layout.exponent_bits) 0) negative
    (quanta_at (2 ^ (f.precision - 1)) biased trailing)
    (implied_datum IEEE754 f layout (fields_with negative biased trailing))
fields_count f layout negative biased trailing most few none =
    let least = 2 ^ (f.precision - 1) in
    let top = all_ones layout.exponent_bits in
    ⊎_elim
    (λ past.
    let is = none past.1 in
    inr (
      rw (is, past.0) refl,
      ap (λ (n : ℕ). quanta_at least n trailing) past.1
          ∙ ap (λ (n : ℕ). quanta_at least top n) is,
    ))
    (λ within.
    let below : biased < top = ⊎_elim (λ (h : biased < top). h) (λ (h : top ≤ biased).
    absurd (within.1 (omega (arith, h, most)))) (cases_lt biased top) in
    inl (
      number_below f layout negative biased trailing below,
      below_exponent least biased trailing top 0 few below,
    ))
    (eqb_tells biased top)

pub place_is : (c : Constants) (bits magnitude infinity : ℕ) → IsInterchange (format_with c) (layout_with c)
    → c.explicit_integer_bit ≡ false → c.nonfinite ≡ IEEE754 → magnitude ≡ bits % 2 ^ (c.bits - 1)
    → infinity ≡ all_ones c.exp_bits * 2 ^ (c.precision - 1) → magnitude ≤ infinity → c.bits ≤ 64
    → IsPlaceOf c bits (signed (fields_of (format_with c) (layout_with c) bits).negative magnitude)
place_is c bits magnitude infinity law implied kind is top le word =
    let x = fields_of (format_with c) (layout_with c) bits in
    let least = 2 ^ (c.precision - 1) in
    let parts = parts_of c bits magnitude law implied is in
    record {
      counts = subst (λ (d : Datum). CountsFor (quanta_at least (all_ones c.exp_bits) 0) x.negative
          (quanta_at least x.biased_exponent x.trailing) d)
          (sym (value_is c bits implied kind))
          (fields_count (format_with c) (layout_with c) x.negative x.biased_exponent x.trailing parts.most parts.few
          (λ same. let e = ap (λ (n : ℕ). n * least) same in omega (arith, parts.is, top, le, e)));
      is = ap (signed x.negative) parts.is;
      fits = subst (λ (n : ℕ). n < 2 ^ 63) parts.is (fits_longer magnitude (c.bits - 1) 63
          (subst (λ (n : ℕ). n < 2 ^ (c.bits - 1)) (sym is) (mod_below bits _ (pow_pos (c.bits - 1))))
          (omega (arith, word)));
    }

nan_with : (f : Format) (layout : Layout) (negative : Bool) (biased trailing : ℕ)
    → biased ≡ all_ones layout.exponent_bits → 0 < trailing
    → is_nan (implied_datum IEEE754 f layout (fields_with negative biased trailing)) ≡ true
nan_with f layout negative biased trailing top some =
    rw (eq-eqb biased (all_ones layout.exponent_bits) top, ne_eqb trailing 0 (λ e. omega (arith, e, some))) refl

pub nan_above : (c : Constants) (bits magnitude infinity : ℕ) → IsInterchange (format_with c) (layout_with c)
    → c.explicit_integer_bit ≡ false → c.nonfinite ≡ IEEE754 → magnitude ≡ bits % 2 ^ (c.bits - 1)
    → infinity ≡ all_ones c.exp_bits * 2 ^ (c.precision - 1) → infinity < magnitude → is_nan (value_in c bits) ≡ true
nan_above c bits magnitude infinity law implied kind is top less =
    let x = fields_of (format_with c) (layout_with c) bits in
    let least = 2 ^ (c.precision - 1) in
    let parts = parts_of c bits magnitude law implied is in
    let past = exponents_below least (all_ones c.exp_bits) 0 x.biased_exponent x.trailing parts.few
    (omega (arith, parts.is, top, less)) in
    let same : x.biased_exponent ≡ all_ones c.exp_bits = omega (arith, past, parts.most) in
    ap is_nan (value_is c bits implied kind)
    ∙ nan_with (format_with c) (layout_with c) x.negative x.biased_exponent x.trailing same
    (omega (arith, parts.is, top, less, ap (λ (n : ℕ). n * least) same))

-- ---- two values

word_back : (b : Bool) (m : ℕ) → m < 2 ^ 63 → to_z w64 (of_z w64 (signed b m)) ≡ signed b m
word_back true m h = omega (arith, ints, h)
word_back false m h = omega (arith, ints, h)

-- such a place fits in a signed word
pub place_back : (c : Constants) (bits : ℕ) (place : ℤ) → IsPlaceOf c bits place → to_z w64 (of_z w64 place) ≡ place
place_back c bits place is =
    let x = fields_of (format_with c) (layout_with c) bits in
    rw is.is (word_back x.negative (x.biased_exponent * 2 ^ (c.precision - 1) + x.trailing) is.fits)

pub places_compared : (c : Constants) (x y : ℕ) (z w : ℤ) → IsInterchange (format_with c) (layout_with c)
    → c.explicit_integer_bit ≡ false → IsPlaceOf c x z → IsPlaceOf c y w
    → Some (int_cmp (to_z w64 (of_z w64 z)) (to_z w64 (of_z w64 w))) ≡ compared (value_in c x) (value_in c y)
places_compared c x y z w law implied left right =
    let a = fields_of (format_with c) (layout_with c) x in
    let b = fields_of (format_with c) (layout_with c) y in
    let least = 2 ^ (c.precision - 1) in
    let top = all_ones c.exp_bits in
    let left_few = trailing_low c x implied in
    let right_few = trailing_low c y implied in
    let two : 2 ^ 1 ≤ 2 ^ c.exp_bits = pow-le-pow_right two_pos law.some in
    rw (place_back c x z left, place_back c y w right, left.is, right.is)
    (ap Some (signed_alike a.negative b.negative _ _ _ _
    (are_alike least a.biased_exponent a.trailing b.biased_exponent b.trailing left_few right_few)
    (are_alike least b.biased_exponent b.trailing a.biased_exponent a.trailing right_few left_few))
    ∙ counted_order (quanta_at least top 0) a.negative b.negative _ _ (value_in c x) (value_in c y)
    (below_exponent least 0 0 top 0 (pow_pos (c.precision - 1)) (omega (arith, two))) left.counts right.counts)
