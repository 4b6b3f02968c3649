-- Numbers rounded to integral values, and their encodings.
use Rattle.std.proofs.Common.{◌≡◌, ℕ, zero, suc, ◌+◌, ◌-◌, ◌*◌, ◌/◌, ◌%◌, ◌^◌, ◌<◌, ◌≤◌, Bool, true, false}
use Rattle.std.proofs.Common.{cond, eqb, refl, sym, ap, ◌∙◌, subst, inl, ⊎_elim, arith}
use Rattle.std.proofs.Math.Nat.{mod-eq_of_lt, mul-le-mul_right, pow-le-pow_right, two-pow-succ}
use Rattle.std.proofs.lemmas.{Bool.cases_lt, Bool.ne_eqb, Bool.Decides.eqb_tells, Int.ints, Nat.pow-add, Nat.pow_pos}
use Rattle.apfloat_model.specs.declared.{kinds.Round.Round, loss.Loss.Loss}
use Rattle.apfloat_model.specs.declared.kinds.NonfiniteBehavior.{NonfiniteBehavior, TheVariants.IEEE754}
use Rattle.apfloat_model.specs.declared.loss.Loss.TheVariants.{ExactlyHalf, ExactlyZero, LessThanHalf, MoreThanHalf}
use Rattle.apfloat_model.specs.bits.{Interchange.IsInterchange, Layout.IsEncodedBy, Layout.fields_of}
use Rattle.apfloat_model.specs.formats.{Datum.Datum, Datum.finite}
use Rattle.apfloat_model.specs.formats.Lawful.{AreParameters, Constants, format_with, layout_with}
use Rattle.apfloat_model.specs.rounding.{Enclosure.rounds_up, Flags.bits_of, Rounding.signed_quanta, Rounding.zero_sign}
use Rattle.apfloat_model.specs.rounding.Standing.{StandsFor}
use Rattle.apfloat_model.specs.whole_numbers.WholeNumbers.{IsRoundToIntegral, inexact_unless, whole_pick}
use Rattle.apfloat_model.proofs.{general.Powers.two_pos, rounding.KeptDigits.fits_cut, rounding.KeptDigits.full_cut}
use Rattle.apfloat_rounding.specs.Cuts.{loss_at}
use Rattle.apfloat_rounding.proofs.CutRests.{loss_half, loss_less, loss_more, loss_zero}
use Rattle.apfloat_conversions.proofs.Wholes.{exact_at, rest_exact, rest_inexact, whole_at, word_cut_stands}
use Rattle.fast_bits.specs.{Encoded.IsEncodedIntegral, Encoded.value_in, Order.quanta_at}
use Rattle.fast_bits.specs.declared.encoded.Encoded.{Encoded}
use Rattle.fast_bits.proofs.{Kept.word_room, Magnitudes.are_alike, Magnitudes.below_exponent, Magnitudes.number_in}
use Rattle.fast_bits.proofs.{Magnitudes.parts_of, Reading.span_is, Roundings.moved_high, Roundings.moved_low}
use Rattle.fast_bits.proofs.lanes_lemmas.Codes.{code_encoded}

-- the flags of an exact or an inexact integer
pub flags_are : (exact : Bool) (rest status : ℕ) → eqb rest 0 ≡ exact → (rest ≡ 0 → status ≡ 0)
    → ((rest ≡ 0 → ⊥) → status ≡ 16) → status ≡ inexact_unless exact
flags_are exact rest status is none some =
    ⊎_elim (λ z. none z.1 ∙ ap inexact_unless (sym z.0 ∙ is)) (λ z. some z.1 ∙ ap inexact_unless (sym z.0 ∙ is))
    (eqb_tells rest 0)

-- a number of quanta keeps its sign
kept_sign : (kind : NonfiniteBehavior) (negative : Bool) (n : ℕ) → kind ≡ IEEE754
    → signed_quanta kind negative n ≡ finite negative n
kept_sign kind negative zero is = ap (λ (k : NonfiniteBehavior). finite (zero_sign k negative) 0) is
kept_sign kind negative (suc n) is = rw (ne_eqb (suc n) 0 (λ e. omega (arith, e))) refl

-- the encoding of the integer that the mode picks by the rest is the answer
pub integral_is : (c : Constants) (mode : Round) (negative moved : Bool) (bits quanta kept rest half : ℕ)
    (encoded : Encoded) → c.nonfinite ≡ IEEE754 → value_in c bits ≡ finite negative quanta
    → StandsFor kept (loss_at rest half) quanta (2 ^ (format_with c).scale)
    → moved ≡ rounds_up mode negative (loss_at rest half) (eqb (kept % 2) 1)
    → (rest ≡ 0 → bits_of encoded.status ≡ 0) → ((rest ≡ 0 → ⊥) → bits_of encoded.status ≡ 16)
    → IsEncodedBy (format_with c) (layout_with c) encoded.bits
    (finite negative (cond moved (kept + 1) kept * 2 ^ (format_with c).scale)) → IsEncodedIntegral c mode bits encoded
integral_is c mode negative moved bits quanta kept rest half encoded kind read stands is exact inexact is_encoded =
    let f = format_with c in
    let unit = 2 ^ (format_with c).scale in
    let loss = loss_at rest half in
    let some = pow_pos (format_with c).scale in
    let value = finite negative (cond moved (kept + 1) kept * unit) in
    let pick : cond moved (kept + 1) kept ≡ whole_pick mode negative quanta unit =
    ap (λ (b : Bool). cond b (kept + 1) kept) is ∙ sym (whole_at mode negative kept quanta unit loss some stands) in
    record {
      value = value;
      says =
          subst (λ (d : Datum). IsRoundToIntegral f mode d value (bits_of encoded.status)) (sym read)
          (record {
            value_is = sym (kept_sign c.nonfinite negative (cond moved (kept + 1) kept * unit) kind)
                ∙ ap (λ (n : ℕ). signed_quanta c.nonfinite negative (n * unit)) pick;
            status_is =
                flags_are _ rest _
                (exact_at mode negative kept quanta unit loss (eqb rest 0) some stands (rest_exact rest half)
                (rest_inexact rest half)) exact inexact;
          });
      is_encoded = is_encoded;
    }

-- the exponents reach past all numbers with digits below the binary point
pub scale_inner : (c : Constants) → IsInterchange (format_with c) (layout_with c)
    → AreParameters c.precision c.min_exp c.max_exp → c.nonfinite ≡ IEEE754
    → (format_with c).scale + 4 ≤ 2 ^ c.exp_bits
scale_inner c law are kind = omega (arith, ints, are, span_is c are, rw kind at law.span)

-- the quanta of 1
scale_power : (c : Constants) (up : ℕ) → up + (c.precision - 1) ≡ (format_with c).scale
    → 2 ^ (c.precision - 1) * 2 ^ up ≡ 2 ^ (format_with c).scale
scale_power c up at =
    let digits : c.precision - 1 + up ≡ (format_with c).scale = omega (arith, at) in
    sym (pow-add 2 (c.precision - 1) up) ∙ ap (λ (n : ℕ). 2 ^ n) digits

-- ---- numbers below 1

-- on which side of 1/2 a number is, by its encoding
stands_below_one : (least b t up : ℕ) → 0 < up → t < least → b ≤ up
    → StandsFor 0 (loss_at (b * least + t) (up * least)) (quanta_at least b t) (least * 2 ^ up)
stands_below_one least b t zero some few low = absurd (omega (arith, some))
stands_below_one least b t (suc k) some few low =
    let m = b * least + t in
    let half = suc k * least in
    let q = quanta_at least b t in
    let whole = least * 2 ^ suc k in
    let left : 0 < least = omega (arith, few) in
    let zeros = are_alike least b t 0 0 few left in
    let halves = are_alike least b t (suc k) 0 few left in
    let twice = ap (λ (n : ℕ). least * n) (two-pow-succ k) in
    let below = below_exponent least b t (suc (suc k)) 0 few (omega (arith, low)) in
    ⊎_elim
    (λ (z : b * least + t < 1).
    let is : StandsFor 0 ExactlyZero q whole = omega (arith, zeros.none (omega (arith, z))) in
    subst (λ (l : Loss). StandsFor 0 l q whole) (sym (loss_zero m half (omega (arith, z)))) is)
    (λ (s : 1 ≤ b * least + t).
    let above = zeros.some (omega (arith, s)) in
    ⊎_elim
    (λ (h : b * least + t < suc k * least).
    let up = halves.less (omega (arith, h)) in
    let is : StandsFor 0 LessThanHalf q whole = (omega (arith, above), omega (arith, twice, up)) in
    subst (λ (l : Loss). StandsFor 0 l q whole) (sym (loss_less m half s h)) is)
    (λ (h : suc k * least ≤ b * least + t).
    ⊎_elim
    (λ (p : suc k * least < b * least + t).
    let down = halves.more (omega (arith, p)) in
    let is : StandsFor 0 MoreThanHalf q whole = (omega (arith, twice, down), omega (arith, below)) in
    subst (λ (l : Loss). StandsFor 0 l q whole) (sym (loss_more m half p)) is)
    (λ (w : b * least + t ≤ suc k * least).
    let same = halves.same (omega (arith, h, w)) in
    let is : StandsFor 0 ExactlyHalf q whole = omega (arith, twice, same) in
    subst (λ (l : Loss). StandsFor 0 l q whole) (sym (loss_half m half s (omega (arith, h, w)))) is)
    (cases_lt half m))
    (cases_lt m half))
    (cases_lt m 1)

-- a number below 1, by its encoding
pub record IsBelowOne (c : Constants) (bits rest up quanta : ℕ) : Type 0 where
  pub read : value_in c bits ≡ finite (fields_of (format_with c) (layout_with c) bits).negative quanta
  pub stands : StandsFor 0 (loss_at rest (up * 2 ^ (c.precision - 1))) quanta (2 ^ (format_with c).scale)
  pub none : rest ≡ 0 → quanta ≡ 0

pub below_one : (c : Constants) (bits rest up : ℕ) → IsInterchange (format_with c) (layout_with c)
    → AreParameters c.precision c.min_exp c.max_exp → c.explicit_integer_bit ≡ false → c.nonfinite ≡ IEEE754
    → rest ≡ bits % 2 ^ (c.bits - 1) → up + (c.precision - 1) ≡ (format_with c).scale
    → (fields_of (format_with c) (layout_with c) bits).biased_exponent + (c.precision - 1) ≤ (format_with c).scale
    → IsBelowOne c bits rest up
    (quanta_at (2 ^ (c.precision - 1)) (fields_of (format_with c) (layout_with c) bits).biased_exponent
    (fields_of (format_with c) (layout_with c) bits).trailing)
below_one c bits rest up law are implied kind is at low =
    let x = fields_of (format_with c) (layout_with c) bits in
    let least = 2 ^ (c.precision - 1) in
    let parts = parts_of c bits rest law implied is in
    let left : 0 < least = pow_pos (c.precision - 1) in
    let zeros = are_alike least x.biased_exponent x.trailing 0 0 parts.few left in
    record {
      read = number_in c bits implied kind (omega (arith, scale_inner c law are kind, low));
      stands = rw (parts.is, sym (scale_power c up at))
          (stands_below_one least x.biased_exponent x.trailing up (omega (arith, ints, are, at)) parts.few
          (omega (arith, at, low)));
      none = λ e. omega (arith, zeros.none (omega (arith, parts.is, e)));
    }

-- the encoding of 1 or of 0, by the side of 1/2 on which the encoded number is
pub below_one_is : (c : Constants) (mode : Round) (negative moved : Bool) (bits rest up : ℕ) (encoded : Encoded)
    → IsInterchange (format_with c) (layout_with c) → AreParameters c.precision c.min_exp c.max_exp
    → c.explicit_integer_bit ≡ false → c.nonfinite ≡ IEEE754 → rest ≡ bits % 2 ^ (c.bits - 1)
    → up + (c.precision - 1) ≡ (format_with c).scale
    → (fields_of (format_with c) (layout_with c) bits).biased_exponent + (c.precision - 1) ≤ (format_with c).scale
    → negative ≡ (fields_of (format_with c) (layout_with c) bits).negative
    → moved ≡ rounds_up mode negative (loss_at rest (up * 2 ^ (c.precision - 1))) false
    → (rest ≡ 0 → bits_of encoded.status ≡ 0) → ((rest ≡ 0 → ⊥) → bits_of encoded.status ≡ 16)
    → IsEncodedBy (format_with c) (layout_with c) encoded.bits
    (finite negative (cond moved 1 0 * 2 ^ (format_with c).scale)) → IsEncodedIntegral c mode bits encoded
below_one_is c mode negative moved bits rest up encoded law are implied kind is at low sign_is moved_is exact inexact
    is_encoded =
    let x = fields_of (format_with c) (layout_with c) bits in
    let q = quanta_at (2 ^ (c.precision - 1)) x.biased_exponent x.trailing in
    let below = below_one c bits rest up law are implied kind is at low in
    integral_is c mode negative moved bits q 0 rest (up * 2 ^ (c.precision - 1)) encoded kind
    (below.read ∙ ap (λ (b : Bool). finite b q) (sym sign_is)) below.stands moved_is exact inexact is_encoded

pub one_or_zero : (c : Constants) (negative is_one : Bool) (up unit one none : ℕ)
    → IsInterchange (format_with c) (layout_with c) → c.explicit_integer_bit ≡ false → c.nonfinite ≡ IEEE754
    → up + (c.precision - 1) ≡ (format_with c).scale → unit ≡ 2 ^ (c.precision - 1)
    → none ≡ cond negative (2 ^ (c.bits - 1)) 0
    → IsEncodedBy (format_with c) (layout_with c) one (finite negative (unit * 2 ^ up))
    → IsEncodedBy (format_with c) (layout_with c) (cond is_one one none)
    (finite negative (cond is_one 1 0 * 2 ^ (format_with c).scale))
one_or_zero c negative true up unit one none law implied kind at unit_is none_is encoded =
    let same : unit * 2 ^ up ≡ 1 * 2 ^ (format_with c).scale =
    omega (arith, ap (λ (n : ℕ). n * 2 ^ up) unit_is, scale_power c up at) in
    subst (λ (n : ℕ). IsEncodedBy (format_with c) (layout_with c) one (finite negative n)) same encoded
one_or_zero c negative false up unit one none law implied kind at unit_is none_is encoded =
    let there = code_encoded (format_with c) (layout_with c) negative 0 0 none law implied
    (λ _. sym (ap (λ (k : NonfiniteBehavior). zero_sign k negative) kind)) (inl refl) (omega arith) (omega arith)
    (omega (arith, none_is)) in
    let same : 0 * 2 ^ 0 ≡ 0 * 2 ^ (format_with c).scale = omega arith in
    subst (λ (n : ℕ). IsEncodedBy (format_with c) (layout_with c) none (finite negative n)) same there

-- ---- numbers of 1 or more

-- the digits of a number in units of 1
in_units : (s place places scale : ℕ) → place + places ≡ scale → s * 2 ^ place * 2 ^ places ≡ s * 2 ^ scale
in_units s place places scale at =
    let power : 2 ^ scale ≡ 2 ^ place * 2 ^ places = ap (λ (n : ℕ). 2 ^ n) (sym at) ∙ pow-add 2 place places in
    let scaled = ap (λ (n : ℕ). s * n) power in
    omega (arith, scaled)

-- the digits above the binary point, with the loss of those below it, represent the number
pub point_stands : (s place places scale half rest : ℕ) → s < 2 ^ 62 → 0 < places → places ≤ 63
    → half ≡ 2 ^ (places - 1) → rest ≡ s % 2 ^ places → place + places ≡ scale
    → StandsFor (s / 2 ^ places) (loss_at rest half) (s * 2 ^ place) (2 ^ scale)
point_stands s place places scale half rest short some near half_is rest_is at =
    word_cut_stands s places places half rest (s * 2 ^ place) (2 ^ scale) short (λ _. refl)
    (λ far. absurd (omega (arith, near, far))) some half_is rest_is (pow_pos scale) (in_units s place places scale at)

pub kept_room : (precision s places : ℕ) → precision ≤ 59 → s < 2 ^ precision → s / 2 ^ places < 2 ^ 63
kept_room precision s places precise fits =
    word_room precision _ precise (fits_cut s precision places precision fits (omega arith))

-- digits at the place of the number again, which are a word in units of 1
pub record IsMovedBack (precision place scale digits word : ℕ) : Type 0 where
  pub full : 2 ^ (precision - 1) ≤ digits
  pub fits : digits ≤ 2 ^ precision
  pub value : digits * 2 ^ place ≡ word * 2 ^ scale

pub moved_back : (precision s place places scale word : ℕ) (moved : Bool) → precision ≤ 59
    → 2 ^ (precision - 1) ≤ s → s < 2 ^ precision → places < precision → place + places ≡ scale
    → word ≡ cond moved (s / 2 ^ places + 1) (s / 2 ^ places)
    → IsMovedBack precision place scale (word * 2 ^ places % 2 ^ 64)
    (cond moved (s / 2 ^ places + 1) (s / 2 ^ places))
moved_back precision s place places scale word moved precise full fits near at is =
    let whole = precision - places in
    let high : s / 2 ^ places < 2 ^ (precision - places) =
    fits_cut s precision places whole fits (omega (arith, near)) in
    let low : 2 ^ (precision - places - 1) ≤ s / 2 ^ places =
    full_cut s precision places whole (omega (arith, near)) (λ _. full) (omega (arith, near)) in
    let above : word * 2 ^ places ≤ 2 ^ (precision - places) * 2 ^ places =
    mul-le-mul_right (2 ^ places) (omega (arith, is, high, moved_high moved (s / 2 ^ places))) in
    let below : 2 ^ (precision - places - 1) * 2 ^ places ≤ word * 2 ^ places =
    mul-le-mul_right (2 ^ places) (omega (arith, is, low, moved_low moved (s / 2 ^ places))) in
    let digits : precision ≡ precision - places + places = omega (arith, near) in
    let fewer : precision - 1 ≡ precision - places - 1 + places = omega (arith, near) in
    let top : 2 ^ precision ≡ 2 ^ (precision - places) * 2 ^ places =
    ap (λ (n : ℕ). 2 ^ n) digits ∙ pow-add 2 (precision - places) places in
    let half : 2 ^ (precision - 1) ≡ 2 ^ (precision - places - 1) * 2 ^ places =
    ap (λ (n : ℕ). 2 ^ n) fewer ∙ pow-add 2 (precision - places - 1) places in
    let most : 2 ^ precision ≤ 2 ^ 59 = pow-le-pow_right two_pos precise in
    let same : word * 2 ^ places % 2 ^ 64 ≡ word * 2 ^ places = mod-eq_of_lt (omega (arith, above, top, most)) in
    let units : word * 2 ^ places * 2 ^ place ≡ word * 2 ^ scale =
    omega (arith, in_units word place places scale at) in
    record {
      full = rw (same, half) below;
      fits = rw (same, top) above;
      value = ap (λ (n : ℕ). n * 2 ^ place) same ∙ units ∙ ap (λ (n : ℕ). n * 2 ^ scale) is;
    }
