-- Products of a number of an element format and a single, which double has.
use Rattle.std.proofs.Common.{lit≤, ◌≡◌, ℕ, ◌+◌, ◌-◌, ◌*◌, ◌^◌, ◌<◌, ◌≤◌, Bool, false, refl, sym, ap, ◌∙◌, subst, arith}
use Rattle.std.proofs.Math.Nat.{mul-le-mul_left, mul-le-mul_right, mul-pos}
use Rattle.std.proofs.lemmas.Nat.{pow-add, pow_pos}
use Rattle.apfloat_model.specs.{declared.kinds.Round.Round, formats.Datum.Datum, formats.Lawful.format_with}
use Rattle.apfloat_model.specs.{formats.Members.IsFiniteOf, order.Classes.quanta_of, order.Positive.IsPositive}
use Rattle.apfloat_model.specs.{rounding.Grid.IsOnGrid, rounding.Rounding.IsDelivered}
use Rattle.apfloat_model.specs.formats.{Datum.finite, Format.Format, Formats.double_constants, Formats.e4m3fn_constants}
use Rattle.apfloat_arithmetic.specs.other_formats.FormatOf.{IsProductTo}
use Rattle.small_formats.specs.blocks.Nvfp4.{single_format}
use Rattle.small_formats.proofs.blocks_lemmas.ExactProducts.{HasProducts, IsExactIn, exact_product}

-- ---- over plain numbers

-- with p and q digits, all set, there are no more than p + q together
digits_together : (p q : ℕ) → (2 ^ p - 1) * (2 ^ q - 1) ≤ 2 ^ (p + q) - 1
digits_together p q =
    let k : ℕ = 2 ^ p - 1 in
    let j : ℕ = 2 ^ q - 1 in
    let some : 1 ≤ 2 ^ p = pow_pos p in
    let more : 1 ≤ 2 ^ q = pow_pos q in
    let w : 2 ^ p ≡ k + 1 = omega (arith, some) in
    let v : 2 ^ q ≡ j + 1 = omega (arith, more) in
    let power : 2 ^ (p + q) ≡ 2 ^ p * 2 ^ q = pow-add 2 p q in
    let both : 2 ^ p * 2 ^ q ≡ (k + 1) * (j + 1) = ap (λ (n : ℕ). n * 2 ^ q) w ∙ ap (λ (n : ℕ). (k + 1) * n) v in
    let parts : (k + 1) * (j + 1) ≡ k * j + k + j + 1 = omega arith in
    let all : 2 ^ (p + q) ≡ k * j + k + j + 1 = power ∙ both ∙ parts in
    omega (arith, all)

-- a product has the digits of both factors
pub product_on_grid : (p q m n : ℕ) → IsOnGrid p m → IsOnGrid q n → IsOnGrid (p + q) (m * n)
product_on_grid p q m n x y =
    let s : ℕ = x.significand in
    let t : ℕ = y.significand in
    let few : s ≤ 2 ^ p - 1 = let l = x.fits in omega (arith, l) in
    let less : t ≤ 2 ^ q - 1 = let l = y.fits in omega (arith, l) in
    let a : s * t ≤ (2 ^ p - 1) * t = mul-le-mul_right t few in
    let b : (2 ^ p - 1) * t ≤ (2 ^ p - 1) * (2 ^ q - 1) = mul-le-mul_left (2 ^ p - 1) less in
    let unit : 0 < 2 ^ (p + q) = pow_pos (p + q) in
    let places : 2 ^ (x.place + y.place) ≡ 2 ^ x.place * 2 ^ y.place = pow-add 2 x.place y.place in
    record {
      significand = s * t;
      place = x.place + y.place;
      fits = omega (arith, a, b, digits_together p q, unit);
      is = ap (λ (k : ℕ). k * n) x.is ∙ ap (λ (k : ℕ). s * 2 ^ x.place * k) y.is
          ∙ (let z : s * 2 ^ x.place * (t * 2 ^ y.place) ≡ s * t * (2 ^ x.place * 2 ^ y.place) = omega arith in z)
          ∙ ap (λ (k : ℕ). s * t * k) (sym places);
    }

product_within : (p q s t m n : ℕ) → m ≤ (2 ^ p - 1) * 2 ^ s → n ≤ (2 ^ q - 1) * 2 ^ t
    → m * n ≤ (2 ^ (p + q) - 1) * 2 ^ (s + t)
product_within p q s t m n low high =
    let k : ℕ = 2 ^ p - 1 in
    let j : ℕ = 2 ^ q - 1 in
    let a : m * n ≤ k * 2 ^ s * n = mul-le-mul_right n low in
    let b : k * 2 ^ s * n ≤ k * 2 ^ s * (j * 2 ^ t) = mul-le-mul_left (k * 2 ^ s) high in
    let c = mul-le-mul_right (2 ^ (s + t)) (digits_together p q) in
    let e : k * 2 ^ s * (j * 2 ^ t) ≡ k * j * 2 ^ (s + t) =
    (let z : k * 2 ^ s * (j * 2 ^ t) ≡ k * j * (2 ^ s * 2 ^ t) = omega arith in z)
    ∙ ap (λ (x : ℕ). k * j * x) (sym (pow-add 2 s t)) in
    omega (arith, a, b, c, e)

-- a point that was moved by k places, and by all t of them
pub moved_back : (x k s t : ℕ) → t ≡ k + s → x * 2 ^ k * 2 ^ s ≡ x * 2 ^ t
moved_back x k s t e =
    (let z : x * 2 ^ k * 2 ^ s ≡ x * (2 ^ k * 2 ^ s) = omega arith in z)
    ∙ ap (λ (y : ℕ). x * y) (sym (pow-add 2 k s) ∙ sym (ap (λ (y : ℕ). 2 ^ y) e))

-- ---- in double

abbrev pub double_format : Format
double_format = format_with double_constants

-- a product of a number with few digits and a single is exact in double
pub joint_exact : (p span scale : ℕ) (mode : Round) (b : Bool) (m n : ℕ) (value : Datum) (status : ℕ)
    → HasProducts double_format (p + 24) (span + 253) (scale + 149) 0 → IsOnGrid p m → m ≤ (2 ^ p - 1) * 2 ^ span
    → IsFiniteOf single_format false n
    → IsDelivered double_format mode b (m * n * 2 ^ 1074) (2 ^ (scale + 149)) value status
    → IsExactIn double_format b (m * n * 2 ^ (1074 - (scale + 149))) value status
joint_exact p span scale mode b m n value status has grid within single h =
    let same : m * n * 2 ^ 0 ≡ m * n = omega arith in
    exact_product double_format mode b (p + 24) (span + 253) (scale + 149) 0 (m * n) value status has
    (product_on_grid p 24 m n grid single.on_grid) (product_within p 24 span 253 m n within single.within)
    (subst (λ (x : ℕ). IsDelivered double_format mode b (x * 2 ^ 1074) (2 ^ (scale + 149)) value status) (sym same) h)

-- ---- a scale times the tensor's

scale_room : HasProducts double_format 28 267 158 0
scale_room = record { kind = refl; digits = lit≤ tt; quantum = lit≤ tt; room = lit≤ tt }

scale_within : (m : ℕ) → m ≤ 14 * 2 ^ 14 → m ≤ (2 ^ 4 - 1) * 2 ^ 14
scale_within m l = omega (arith, l)

pub joint_is : (mode : Round) (x y value : Datum) (status : ℕ) → IsPositive (format_with e4m3fn_constants) x
    → IsPositive single_format y
    → IsProductTo (format_with e4m3fn_constants) single_format double_format mode x y value status
    → IsExactIn double_format false (quanta_of x * quanta_of y * 2 ^ (1074 - 158)) value status
joint_is mode x y value status p q h =
    let h' = subst (λ (d : Datum). IsProductTo (format_with e4m3fn_constants) single_format double_format mode
    (finite false (quanta_of x)) d value status) q.is
    (subst (λ (d : Datum). IsProductTo (format_with e4m3fn_constants) single_format double_format mode d y value
    status) p.is h) in
    joint_exact 4 14 9 mode false (quanta_of x) (quanta_of y) value status scale_room p.member.on_grid
    (scale_within (quanta_of x) p.member.within) q.member h'

-- the exact product of positive numbers is positive
pub joint_positive : (x y value : Datum) (status : ℕ) → 0 < quanta_of x → 0 < quanta_of y
    → IsExactIn double_format false (quanta_of x * quanta_of y * 2 ^ (1074 - 158)) value status
    → IsPositive double_format value
joint_positive x y value status p q h =
    let n : ℕ = quanta_of x * quanta_of y * 2 ^ (1074 - 158) in
    let quanta : quanta_of value ≡ n = ap quanta_of h.value_is in
    record {
      is = h.value_is ∙ sym (ap (λ (k : ℕ). finite false k) quanta);
      some = subst (λ (k : ℕ). 0 < k) (sym quanta) (mul-pos (mul-pos p q) (pow_pos (1074 - 158)));
      member = subst (λ (k : ℕ). IsFiniteOf double_format false k) (sym quanta) h.member;
    }

pub joint_value : (x y value : Datum) (status : ℕ)
    → IsExactIn double_format false (quanta_of x * quanta_of y * 2 ^ (1074 - 158)) value status
    → quanta_of value * 2 ^ 158 ≡ quanta_of x * quanta_of y * 2 ^ 1074
joint_value x y value status h =
    ap (λ (d : Datum). quanta_of d * 2 ^ 158) h.value_is
    ∙ moved_back (quanta_of x * quanta_of y) (1074 - 158) 158 1074 refl
