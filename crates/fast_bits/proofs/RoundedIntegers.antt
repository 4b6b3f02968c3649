-- Numbers rounded to integers, and the ranges of these.
use Rattle.std.proofs.Common.{◌≡◌, ℕ, ◌+◌, ◌-◌, ◌*◌, ◌/◌, ◌%◌, ◌^◌, ◌<◌, ◌≤◌, Bool, true, false, cond, not, ◌&&◌, eqb}
use Rattle.std.proofs.Common.{IfSome, Option, Some, None, refl, sym, ap, ◌∙◌, subst, ⊎_elim, arith, ℤ, pos, neg_ℤ}
use Rattle.std.proofs.Common.{◌≤ℤ◌}
use Rattle.std.proofs.Math.{Bool.and-true, Nat.mod-add-div', Nat.mod-eq_of_lt, Nat.mul-div-mul_right, Nat.mul-pos}
use Rattle.std.proofs.Math.Nat.{mul-lt-mul_of_pos_right, pow-le-pow_right}
use Rattle.std.proofs.lemmas.{Bool.cases_lt, Bool.Decides.eqb_tells, Bool.ne_eqb, Int.ints, Nat.pow-add, Nat.pow_pos}
use Rattle.apfloat_model.specs.{arithmetic.Exact.signed, declared.kinds.Round.Round, formats.Datum.finite}
use Rattle.apfloat_model.specs.declared.loss.Loss.{Loss}
use Rattle.apfloat_model.specs.declared.kinds.NonfiniteBehavior.TheVariants.{IEEE754}
use Rattle.apfloat_model.specs.{bits.Interchange.IsInterchange, bits.Layout.fields_of}
use Rattle.apfloat_model.specs.formats.Lawful.{AreParameters, Constants, format_with, layout_with}
use Rattle.apfloat_model.specs.rounding.{Enclosure.rounds_up, Flags.bits_of, Standing.StandsFor}
use Rattle.apfloat_model.specs.whole_numbers.WholeNumbers.{whole_pick}
use Rattle.apfloat_model.specs.whole_numbers.WholeNumbersOut.{IsWhole, Whole, ranged, to_signed, to_unsigned}
use Rattle.apfloat_model.proofs.{general.Choices.no_zero, general.Powers.two_pos, whole_numbers.SignedTests.less_not}
use Rattle.apfloat_model.proofs.rounding.KeptDigits.{fits_cut, fits_shifted}
use Rattle.apfloat_rounding.specs.Cuts.{loss_at}
use Rattle.apfloat_rounding.proofs.CutRests.{loss_half, loss_less, loss_more, loss_zero}
use Rattle.apfloat_conversions.specs.{Results.GivesSigned, Results.GivesWhole, Wholes.signed_limit}
use Rattle.apfloat_conversions.specs.declared.integers.{Signed.Signed, Unsigned.Unsigned}
use Rattle.apfloat_conversions.proofs.Wholes.{exact_at, rest_exact, rest_inexact, whole_at, word_cut_stands}
use Rattle.fast_bits.specs.{Encoded.value_in, Order.quanta_at, declared.integers.Rounded.Rounded}
use Rattle.fast_bits.specs.Integers.{IsRounded, IsSignedOf, IsUnsignedOf}
use Rattle.fast_bits.proofs.{Integrals.below_one, Integrals.flags_are, Reading.number_read, Roundings.moved_high}

-- the integer that the mode picks by the rest, with its flags
pub rounded_is : (c : Constants) (mode : Round) (bits quanta kept rest half : ℕ) (negative moved : Bool) (x : Rounded)
    → value_in c bits ≡ finite negative quanta
    → StandsFor kept (loss_at rest half) quanta (2 ^ (format_with c).scale)
    → moved ≡ rounds_up mode negative (loss_at rest half) (eqb (kept % 2) 1)
    → x.magnitude ≡ cond moved (kept + 1) kept
    → (rest ≡ 0 → bits_of x.status ≡ 0) → ((rest ≡ 0 → ⊥) → bits_of x.status ≡ 16)
    → x.is_exact ≡ (eqb rest 0 && not (negative && eqb quanta 0)) → kept + 1 ≤ 2 ^ 62
    → IsRounded c mode bits negative x
rounded_is c mode bits quanta kept rest half negative moved x read stands is magnitude exact inexact is_exact small =
    let unit = 2 ^ (format_with c).scale in
    let loss = loss_at rest half in
    let some = pow_pos (format_with c).scale in
    let same = exact_at mode negative kept quanta unit loss (eqb rest 0) some stands (rest_exact rest half)
    (rest_inexact rest half) in
    record {
      quanta = quanta;
      read = read;
      picked = magnitude ∙ ap (λ (b : Bool). cond b (kept + 1) kept) is
          ∙ sym (whole_at mode negative kept quanta unit loss some stands);
      status_is = flags_are _ rest _ same exact inexact;
      is_exact_is = is_exact ∙ ap (λ (b : Bool). b && not (negative && eqb quanta 0)) same;
      small = omega (arith, magnitude, moved_high moved kept, small);
    }

-- a number whose rest is 0 only if it is 0
pub exact_zero : (negative : Bool) (rest quanta : ℕ) → (rest ≡ 0 → quanta ≡ 0)
    → (eqb rest 0 && not negative) ≡ (eqb rest 0 && not (negative && eqb quanta 0))
exact_zero negative rest quanta none =
    ⊎_elim
    (λ z. rw (z.0, none z.1) (sym (ap not (and-true negative))))
    (λ z. rw z.0 refl) (eqb_tells rest 0)

-- ---- normal numbers

-- a rest in smaller units
rest_scaled : (a b w : ℕ) → 0 < w → a * w % (b * w) ≡ a % b * w
rest_scaled a b w p =
    let q : a * w / (b * w) ≡ a / b = mul-div-mul_right a b p in
    let e : a * w % (b * w) + a * w / (b * w) * (b * w) ≡ a * w = mod-add-div' (a * w) (b * w) in
    let f : a * w / (b * w) * (b * w) ≡ a / b * (b * w) = ap (λ (x : ℕ). x * (b * w)) q in
    let g : (a % b + a / b * b) * w ≡ a * w = ap (λ (x : ℕ). x * w) (mod-add-div' a b) in
    omega arith

loss_scaled : (r h m : ℕ) → 0 < m → loss_at (r * m) (h * m) ≡ loss_at r h
loss_scaled r h m some =
    ⊎_elim
    (λ (z : r < 1).
    let none : r ≡ 0 = omega (arith, z) in
    loss_zero (r * m) (h * m) (ap (λ (n : ℕ). n * m) none ∙ omega arith) ∙ sym (loss_zero r h none))
    (λ (s : 1 ≤ r).
    let up : 1 ≤ r * m = mul-pos s some in
    ⊎_elim
    (λ (l : r < h). loss_less (r * m) (h * m) up (mul-lt-mul_of_pos_right l some) ∙ sym (loss_less r h s l))
    (λ (g : h ≤ r).
    ⊎_elim
    (λ (p : h < r). loss_more (r * m) (h * m) (mul-lt-mul_of_pos_right p some) ∙ sym (loss_more r h p))
    (λ (w : r ≤ h).
    let e : r ≡ h = omega (arith, g, w) in
    loss_half (r * m) (h * m) up (ap (λ (n : ℕ). n * m) e) ∙ sym (loss_half r h s e))
    (cases_lt h r))
    (cases_lt r h))
    (cases_lt r 1)

powers : (place places precision scale : ℕ) → precision ≤ 62 → place + places + precision ≡ 62 + scale
    → 2 ^ place * 2 ^ places ≡ 2 ^ (62 - precision) * 2 ^ scale
powers place places precision scale most at =
    let same : place + places ≡ 62 - precision + scale = omega (arith, most, at) in
    sym (pow-add 2 place places) ∙ ap (λ (n : ℕ). 2 ^ n) same ∙ pow-add 2 (62 - precision) scale

-- the digits of a number in a word, cut at the binary point, with those below it at the top of a word
pub record IsCutWord (s place scale word shift : ℕ) : Type 0 where
  pub stands : StandsFor (word / 2 ^ shift) (loss_at (word * 2 ^ (64 - shift) % 2 ^ 64) (2 ^ 63)) (s * 2 ^ place)
      (2 ^ scale)
  pub small : word / 2 ^ shift + 1 ≤ 2 ^ 62

pub cut_word : (precision s place places scale shift : ℕ) → precision ≤ 59 → s < 2 ^ precision → 0 < shift
    → shift ≤ 63 → (places ≤ 63 → shift ≡ places) → (63 < places → shift ≡ 63)
    → place + places + precision ≡ 62 + scale
    → IsCutWord s place scale (s * 2 ^ (62 - precision) % 2 ^ 64) shift
cut_word precision s place places scale shift precise fits some most near far at =
    let word = s * 2 ^ (62 - precision) in
    let in_word = fits_shifted s precision (62 - precision) 62 fits (omega (arith, precise)) in
    let same : s * 2 ^ (62 - precision) % 2 ^ 64 ≡ s * 2 ^ (62 - precision) = mod-eq_of_lt (omega (arith, in_word)) in
    let sixty : 64 ≡ shift + (64 - shift) = omega (arith, most) in
    let whole : 2 ^ 64 ≡ 2 ^ shift * 2 ^ (64 - shift) =
    ap (λ (n : ℕ). 2 ^ n) sixty ∙ pow-add 2 shift (64 - shift) in
    let up : 63 ≡ shift - 1 + (64 - shift) = omega (arith, some, most) in
    let half : 2 ^ 63 ≡ 2 ^ (shift - 1) * 2 ^ (64 - shift) =
    ap (λ (n : ℕ). 2 ^ n) up ∙ pow-add 2 (shift - 1) (64 - shift) in
    let rest : word * 2 ^ (64 - shift) % 2 ^ 64 ≡ word % 2 ^ shift * 2 ^ (64 - shift) =
    ap (λ (n : ℕ). word * 2 ^ (64 - shift) % n) whole
    ∙ rest_scaled word (2 ^ shift) (2 ^ (64 - shift)) (pow_pos (64 - shift)) in
    let loss : loss_at (word * 2 ^ (64 - shift) % 2 ^ 64) (2 ^ 63) ≡ loss_at (word % 2 ^ shift) (2 ^ (shift - 1)) =
    ap (λ (n : ℕ). loss_at n (2 ^ 63)) rest
    ∙ ap (λ (n : ℕ). loss_at (word % 2 ^ shift * 2 ^ (64 - shift)) n) half
    ∙ loss_scaled (word % 2 ^ shift) (2 ^ (shift - 1)) (2 ^ (64 - shift)) (pow_pos (64 - shift)) in
    let units : s * 2 ^ place * 2 ^ places ≡ word * 2 ^ scale =
    omega (arith, ap (λ (n : ℕ). s * n) (powers place places precision scale (omega (arith, precise)) at)) in
    let stands = word_cut_stands word places shift (2 ^ (shift - 1)) (word % 2 ^ shift) (s * 2 ^ place) (2 ^ scale)
    in_word near far some refl refl (pow_pos scale) units in
    let below : word / 2 ^ shift < 2 ^ 61 = fits_cut word 62 shift 61 in_word (omega (arith, some)) in
    record {
      stands =
          rw same
          (subst (λ (l : Loss). StandsFor (word / 2 ^ shift) l (s * 2 ^ place) (2 ^ scale)) (sym loss) stands);
      small = rw same (omega (arith, below));
    }

pub normal_is : (c : Constants) (mode : Round) (bits biased s word shift : ℕ) (negative moved : Bool) (x : Rounded)
    → c.explicit_integer_bit ≡ false → negative ≡ (fields_of (format_with c) (layout_with c) bits).negative
    → biased ≡ (fields_of (format_with c) (layout_with c) bits).biased_exponent → 0 < biased
    → biased + 1 < 2 ^ c.exp_bits
    → s ≡ 2 ^ (c.precision - 1) + (fields_of (format_with c) (layout_with c) bits).trailing
    → IsCutWord s (biased - 1) (format_with c).scale word shift
    → moved ≡ rounds_up mode negative (loss_at (word * 2 ^ (64 - shift) % 2 ^ 64) (2 ^ 63))
    (eqb (word / 2 ^ shift % 2) 1)
    → x.magnitude ≡ cond moved (word / 2 ^ shift + 1) (word / 2 ^ shift)
    → (word * 2 ^ (64 - shift) % 2 ^ 64 ≡ 0 → bits_of x.status ≡ 0)
    → ((word * 2 ^ (64 - shift) % 2 ^ 64 ≡ 0 → ⊥) → bits_of x.status ≡ 16)
    → x.is_exact ≡ eqb (word * 2 ^ (64 - shift) % 2 ^ 64) 0 → IsRounded c mode bits negative x
normal_is c mode bits biased s word shift negative moved x implied sign biased_is normal number s_is cut moved_is
    magnitude exact inexact is_exact =
    let rest = word * 2 ^ (64 - shift) % 2 ^ 64 in
    let read = number_read c bits implied (subst (λ (n : ℕ). 0 < n) biased_is normal)
    (subst (λ (n : ℕ). n + 1 < 2 ^ c.exp_bits) biased_is number) in
    let there : value_in c bits ≡ finite negative (s * 2 ^ (biased - 1)) = rw (sign, biased_is, s_is) read in
    let left : 0 < s = omega (arith, s_is, pow_pos (c.precision - 1)) in
    let quanta : 0 < s * 2 ^ (biased - 1) = mul-pos left (pow_pos (biased - 1)) in
    let nonzero : eqb (s * 2 ^ (biased - 1)) 0 ≡ false = ne_eqb _ 0 (λ e. omega (arith, quanta, e)) in
    rounded_is c mode bits (s * 2 ^ (biased - 1)) (word / 2 ^ shift) rest (2 ^ 63) negative moved x there cut.stands
    moved_is magnitude exact inexact (is_exact ∙ sym (rw nonzero (no_zero negative (eqb rest 0)))) cut.small

-- ---- numbers below 1

pub to_one_is : (c : Constants) (mode : Round) (bits rest : ℕ) (negative moved : Bool) (x : Rounded)
    → IsInterchange (format_with c) (layout_with c) → AreParameters c.precision c.min_exp c.max_exp
    → c.explicit_integer_bit ≡ false → c.nonfinite ≡ IEEE754 → rest ≡ bits % 2 ^ (c.bits - 1)
    → (fields_of (format_with c) (layout_with c) bits).biased_exponent + (c.precision - 1) ≤ (format_with c).scale
    → negative ≡ (fields_of (format_with c) (layout_with c) bits).negative
    → ((up : ℕ) → up + (c.precision - 1) ≡ (format_with c).scale
    → moved ≡ rounds_up mode negative (loss_at rest (up * 2 ^ (c.precision - 1))) false)
    → x.magnitude ≡ cond moved 1 0 → (rest ≡ 0 → bits_of x.status ≡ 0)
    → ((rest ≡ 0 → ⊥) → bits_of x.status ≡ 16) → x.is_exact ≡ (eqb rest 0 && not negative)
    → IsRounded c mode bits negative x
to_one_is c mode bits rest negative moved x law are implied kind is low sign moved_is magnitude exact inexact is_exact =
    let fields = fields_of (format_with c) (layout_with c) bits in
    let up = (format_with c).scale - (c.precision - 1) in
    let at : (format_with c).scale - (c.precision - 1) + (c.precision - 1) ≡ (format_with c).scale =
    omega (arith, low) in
    let below = below_one c bits rest up law are implied kind is at low in
    let q = quanta_at (2 ^ (c.precision - 1)) fields.biased_exponent fields.trailing in
    rounded_is c mode bits q 0 rest (up * 2 ^ (c.precision - 1)) negative moved x
    (below.read ∙ ap (λ (b : Bool). finite b q) (sym sign)) below.stands (moved_is up at) magnitude exact inexact
    (is_exact ∙ exact_zero negative rest q below.none) (omega arith)

-- ---- the ranges

pub in_wide_range : (negative : Bool) (width m : ℕ) → 64 < width → m ≤ 2 ^ 62 → m ≤ signed_limit width negative
in_wide_range true width m wide small =
    let digits : 63 ≤ width - 1 = omega (arith, wide) in
    let more : 2 ^ 63 ≤ 2 ^ (width - 1) = pow-le-pow_right two_pos digits in
    omega (arith, more, small)
in_wide_range false width m wide small =
    let digits : 63 ≤ width - 1 = omega (arith, wide) in
    let more : 2 ^ 63 ≤ 2 ^ (width - 1) = pow-le-pow_right two_pos digits in
    omega (arith, more, small)

within : (low high number : ℤ) (answer : Whole) → low ≤ℤ number → number ≤ℤ high
    → ranged low high number answer ≡ answer
within low high number answer above below = rw (less_not number low above, less_not high number below) refl

above_least : (negative : Bool) (half m : ℕ) → m ≤ cond negative half (half - 1)
    → neg_ℤ (pos half) ≤ℤ signed negative m
above_least true half m h = omega (arith, ints, h)
above_least false half m h = omega (arith, ints)

below_greatest : (negative : Bool) (half m : ℕ) → m ≤ cond negative half (half - 1)
    → signed negative m ≤ℤ pos (half - 1)
below_greatest true half m h = omega (arith, ints)
below_greatest false half m h = omega (arith, ints, h)

pub signed_is : (c : Constants) (mode : Round) (bits width : ℕ) (negative : Bool) (x : Rounded) (number : ℤ)
    (status : ℕ) (is_exact : Bool) → IsRounded c mode bits negative x → x.magnitude ≤ signed_limit width negative
    → number ≡ signed negative x.magnitude → status ≡ bits_of x.status → is_exact ≡ x.is_exact
    → IsWhole (to_signed (format_with c) mode width (value_in c bits)) number status is_exact
signed_is c mode bits width negative x number status is_exact rounded fits number_is status_is is_exact_is =
    let half = 2 ^ (width - 1) in
    let pick = whole_pick mode negative rounded.quanta (2 ^ (format_with c).scale) in
    let in_range = subst (λ (k : ℕ). k ≤ signed_limit width negative) rounded.picked fits in
    rw (
      rounded.read,
      within (neg_ℤ (pos half)) (pos (half - 1)) (signed negative pick) _
          (above_least negative half pick in_range) (below_greatest negative half pick in_range),
    )
    (record {
      number_is = number_is ∙ ap (signed negative) rounded.picked;
      status_is = status_is ∙ rounded.status_is;
      is_exact_is = is_exact_is ∙ rounded.is_exact_is;
    })

pub unsigned_is : (c : Constants) (mode : Round) (bits width : ℕ) (x : Rounded) (number status : ℕ)
    (is_exact : Bool) → IsRounded c mode bits false x → x.magnitude < 2 ^ width → number ≡ x.magnitude
    → status ≡ bits_of x.status → is_exact ≡ x.is_exact
    → IsWhole (to_unsigned (format_with c) mode width (value_in c bits)) (pos number) status is_exact
unsigned_is c mode bits width x number status is_exact rounded fits number_is status_is is_exact_is =
    let pick = whole_pick mode false rounded.quanta (2 ^ (format_with c).scale) in
    let in_range = subst (λ (k : ℕ). k < 2 ^ width) rounded.picked fits in
    rw (
      rounded.read,
      within (pos 0) (pos (2 ^ width - 1)) (pos pick) _ (omega (arith, ints))
          (omega (arith, ints, in_range)),
    )
    (record {
      number_is = ap pos (number_is ∙ rounded.picked);
      status_is = status_is ∙ rounded.status_is;
      is_exact_is = is_exact_is ∙ rounded.is_exact_is;
    })

pub signed_if_some : (c : Constants) (mode : Round) (bits width : ℕ) (negative : Bool) (x : Rounded)
    (answer : Option Signed) → IsRounded c mode bits negative x → 2 ≤ width → width ≤ 128
    → IfSome answer (IsSignedOf x negative width)
    → IfSome answer (λ integer. (2 ≤ width) × (width ≤ 128)
    × GivesSigned (to_signed (format_with c) mode width (value_in c bits)) integer)
signed_if_some c mode bits width negative x None rounded least most is = is
signed_if_some c mode bits width negative x (Some integer) rounded least most is = (
  least,
  most,
  signed_is c mode bits width negative x integer.answer.value _ integer.is_exact rounded is.fits is.value_is
      is.status_is is.is_exact_is,
)

pub unsigned_if_some : (c : Constants) (mode : Round) (bits width : ℕ) (negative : Bool) (x : Rounded)
    (answer : Option Unsigned) → IsRounded c mode bits negative x → 1 ≤ width → width ≤ 128
    → IfSome answer (IsUnsignedOf x negative width)
    → IfSome answer (λ integer. (1 ≤ width) × (width ≤ 128)
    × GivesWhole (to_unsigned (format_with c) mode width (value_in c bits)) integer)
unsigned_if_some c mode bits width negative x None rounded least most is = is
unsigned_if_some c mode bits width negative x (Some integer) rounded least most is = (
  least,
  most,
  unsigned_is c mode bits width x integer.answer.value _ integer.is_exact
      (subst (λ (b : Bool). IsRounded c mode bits b x) is.sign rounded) is.fits is.value_is is.status_is
      is.is_exact_is,
)
