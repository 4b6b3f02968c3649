-- Elements times a scale, from code to bits.
use Rattle.std.proofs.Common.{◌≡◌, ℕ, ◌+◌, ◌-◌, ◌*◌, ◌/◌, ◌%◌, ◌^◌, ◌<◌, ◌≤◌, ◌⊎◌, Bool, true, false, cond, eqb, leb}
use Rattle.std.proofs.Common.{refl, sym, ap, ◌∙◌, subst, inl, inr, ⊎_elim, arith}
use Rattle.std.proofs.Math.{Path.subst₂, Nat.mul-le-mul_right, Nat.mul-lt-mul_of_pos_right, Nat.pow-le-pow_right}
use Rattle.std.proofs.lemmas.{Bool.cases_lt, Bool.le-leb, Bool.lt-leb, Bool.ne_eqb}
use Rattle.std.proofs.lemmas.Nat.{div-add-mod', mod_below, pow-add, pow_pos}
use Rattle.apfloat_model.specs.{arithmetic.Exact.product_sign, declared.kinds.NonfiniteBehavior.NonfiniteBehavior}
use Rattle.apfloat_model.specs.{formats.Datum.Datum, formats.Datum.finite}
use Rattle.apfloat_model.specs.formats.{Lawful.Constants, Lawful.IsLawful, Lawful.format_with}
use Rattle.apfloat_model.specs.rounding.{Rounding.IsDelivered}
use Rattle.apfloat_model.specs.rounding.Rounding.{zero_sign}
use Rattle.apfloat_model.proofs.{bits.Encodings.lawful_interchange, general.Choices.match_false}
use Rattle.apfloat_model.proofs.{general.Powers.pow3, general.Powers.twice_half, general.Powers.two_pos}
use Rattle.apfloat_model.proofs.rounding.Laws.{exact_delivered}
use Rattle.apfloat_arithmetic.specs.other_formats.FormatOf.{IsProductTo}
use Rattle.small_formats.specs.{Codes.point, Scales.nan_code, Scales.scale_format, Scales.scale_of}
use Rattle.small_formats.specs.Storage.{StorageConstants, format_with as stored_format}
use Rattle.small_formats.specs.blocks.Elements.{element_datum, format_of_element}
use Rattle.small_formats.proofs.{Points.at_index, Points.low_point, blocks_lemmas.Quotients.signed_same}
use Rattle.apfloat_arrays.specs.declared.scaled_blocks.formats.BlockFormat.{BlockFormat, TheVariants.Mx}
use Rattle.apfloat_arrays.specs.declared.scaled_blocks.formats.BlockFormat.TheVariants.{Nvfp4}
use Rattle.apfloat_arrays.specs.scaled_blocks.Products.{IsCodedAs, IsExactCode, IsExponent, IsProductAt}
use Rattle.apfloat_arrays.specs.stored.NumberCodes.{IsWordSource}
use Rattle.apfloat_arrays.specs.scaled_blocks.Greatest.{special_bits}
use Rattle.apfloat_arrays.proofs.scaled_blocks_lemmas.Numbers.{sign_most, some_special, whole_bits, word_of_index}

-- ---- the significand of an element, moved up to all digits

-- it has k digits of at most P, and this place
pub record IsFound (p P index place k m : ℕ) : Type 0 where
  pub point : point p index ≡ m * 2 ^ place
  pub few : k ≤ P
  pub fits : m * 2 ^ (P - k) < 2 ^ P
  pub full : 2 ^ (P - 1) ≤ m * 2 ^ (P - k)

record IsSplit (p index place m : ℕ) : Type 0 where
  is : index ≡ m + place * 2 ^ (p - 1)
  fits : m < 2 ^ p
  full : (place ≡ 0) ⊎ (2 ^ (p - 1) ≤ m)

split : (p index place : ℕ) → 0 < p → place ≡ index / 2 ^ (p - 1) - 1
    → IsSplit p index place (index - place * 2 ^ (p - 1))
split p index place some at =
    let h : ℕ = 2 ^ (p - 1) in
    let double : 2 * 2 ^ (p - 1) ≡ 2 ^ p = twice_half p some in
    let parts : index / 2 ^ (p - 1) * 2 ^ (p - 1) + index % 2 ^ (p - 1) ≡ index = div-add-mod' index h in
    let below : index % 2 ^ (p - 1) < 2 ^ (p - 1) = mod_below index h (pow_pos (p - 1)) in
    ⊎_elim {C = IsSplit p index place (index - place * 2 ^ (p - 1))}
    (λ (none : index / 2 ^ (p - 1) < 1).
    let zero : place ≡ 0 = omega (arith, at, none) in
    let nothing : place * 2 ^ (p - 1) ≡ 0 * 2 ^ (p - 1) = ap (λ (n : ℕ). n * 2 ^ (p - 1)) zero in
    let same : index / 2 ^ (p - 1) ≡ 0 = omega (arith, none) in
    let less : index / 2 ^ (p - 1) * 2 ^ (p - 1) ≡ 0 * 2 ^ (p - 1) = ap (λ (n : ℕ). n * 2 ^ (p - 1)) same in
    record {
      is = omega (arith, nothing);
      fits = omega (arith, nothing, less, parts, below, double);
      full = inl zero;
    })
    (λ (any : 1 ≤ index / 2 ^ (p - 1)).
    let next : index / 2 ^ (p - 1) ≡ place + 1 = omega (arith, at, any) in
    let times : index / 2 ^ (p - 1) * 2 ^ (p - 1) ≡ (place + 1) * 2 ^ (p - 1) =
    ap (λ (n : ℕ). n * 2 ^ (p - 1)) next in
    record {
      is = omega (arith, times, parts);
      fits = omega (arith, times, parts, below, double);
      full = inr (omega (arith, times, parts));
    })
    (cases_lt (index / 2 ^ (p - 1)) 1)

pub found : (p P index unit place k m : ℕ) → 2 ≤ p → p ≤ P → unit ≡ 2 ^ (p - 1) → place ≡ index / unit - 1
    → m ≡ index - place * unit → (index ≡ 0 → ⊥) → m < 2 ^ k → (0 < k → 2 ^ (k - 1) ≤ m)
    → IsFound p P index place k m
found p P index unit place k m two more unit_is place_is m_is other below full =
    let some : 0 < p = omega (arith, two) in
    let it : IsSplit p index place m =
    subst (λ (n : ℕ). IsSplit p index place n) (sym (m_is ∙ ap (λ (n : ℕ). index - place * n) unit_is))
    (split p index place some (place_is ∙ ap (λ (n : ℕ). index / n - 1) unit_is)) in
    let is = it.is in
    let fits = it.fits in
    let half : 0 < 2 ^ (p - 1) = pow_pos (p - 1) in
    let positive : 0 < m =
    ⊎_elim {C = 0 < m}
    (λ (z : place ≡ 0).
    let nothing : place * 2 ^ (p - 1) ≡ 0 * 2 ^ (p - 1) = ap (λ (n : ℕ). n * 2 ^ (p - 1)) z in
    ⊎_elim {C = 0 < m} (λ (l : m < 1). absurd (other (omega (arith, is, nothing, l)))) (λ (l : 1 ≤ m). omega (arith, l))
    (cases_lt m 1))
    (λ (l : 2 ^ (p - 1) ≤ m). omega (arith, l, half)) it.full in
    let any : 0 < k =
    ⊎_elim {C = 0 < k}
    (λ (z : k < 1).
    let none : k ≡ 0 = omega (arith, z) in
    let one : 2 ^ k ≡ 2 ^ 0 = ap (λ (n : ℕ). 2 ^ n) none in
    absurd (omega (arith, one, below, positive)))
    (λ (l : 1 ≤ k). omega (arith, l)) (cases_lt k 1) in
    let least = full any in
    let few : k ≤ p =
    ⊎_elim {C = k ≤ p}
    (λ (past : p < k).
    let power : 2 ^ p ≤ 2 ^ (k - 1) = pow-le-pow_right two_pos (let l : p ≤ k - 1 = omega (arith, past) in l) in
    absurd (omega (arith, power, least, fits)))
    (λ (l : k ≤ p). l) (cases_lt p k) in
    let all : P ≡ k + (P - k) = omega (arith, few, more) in
    let whole : 2 ^ P ≡ 2 ^ k * 2 ^ (P - k) = ap (λ (n : ℕ). 2 ^ n) all ∙ pow-add 2 k (P - k) in
    let last : P - 1 ≡ k - 1 + (P - k) = omega (arith, few, more, any) in
    let top : 2 ^ (P - 1) ≡ 2 ^ (k - 1) * 2 ^ (P - k) = ap (λ (n : ℕ). 2 ^ n) last ∙ pow-add 2 (k - 1) (P - k) in
    let high : m * 2 ^ (P - k) < 2 ^ k * 2 ^ (P - k) = mul-lt-mul_of_pos_right below (pow_pos (P - k)) in
    let low : 2 ^ (k - 1) * 2 ^ (P - k) ≤ m * 2 ^ (P - k) = mul-le-mul_right (2 ^ (P - k)) least in
    record {
      point = ap (point p) is ∙ at_index p m place some fits it.full;
      few = omega (arith, few, more);
      fits = omega (arith, high, whole);
      full = omega (arith, low, top);
    }

-- ---- its product

same_product : (m a b c k l n : ℕ) → a + b + c ≡ k + l + n → m * 2 ^ a * 2 ^ b * 2 ^ c ≡ m * 2 ^ k * 2 ^ l * 2 ^ n
same_product m a b c k l n e =
    let left : m * 2 ^ a * 2 ^ b * 2 ^ c ≡ m * (2 ^ a * 2 ^ b * 2 ^ c) = omega arith in
    let right : m * (2 ^ k * 2 ^ l * 2 ^ n) ≡ m * 2 ^ k * 2 ^ l * 2 ^ n = omega arith in
    left ∙ ap (λ (x : ℕ). m * x) (sym (pow3 a b c) ∙ ap (λ (x : ℕ). 2 ^ x) e ∙ pow3 k l n) ∙ right

pub none_product : (d : Constants) (s : StorageConstants) (scale : ℕ) → IsLawful d → d.precision < d.bits
    → IsProductAt d s scale 0 0
none_product d s scale law wide =
    let left : point s.precision 0 ≡ 0 = low_point s.precision 0 (pow_pos (s.precision - 1)) in
    let right : point d.precision 0 ≡ 0 = low_point d.precision 0 (pow_pos (d.precision - 1)) in
    record { below = some_special d law wide; exact = rw (left, right) omega arith }

pub normal_product : (d : Constants) (s : StorageConstants) (scale index place k m exponent : ℕ) → 1 ≤ d.precision
    → IsFound s.precision d.precision index place k m → IsExponent d s scale (place + k) exponent
    → IsProductAt d s scale index (m * 2 ^ (d.precision - k) + exponent * 2 ^ (d.precision - 1))
normal_product d s scale index place k m exponent some is above =
    let all : ℕ = m * 2 ^ (d.precision - k) in
    let to : ℕ = (stored_format s).scale + 127 in
    let fits = is.fits in
    let few = is.few in
    let within = above.within in
    let places = above.places in
    let double : 2 * 2 ^ (d.precision - 1) ≡ 2 ^ d.precision = twice_half d.precision some in
    let room : (exponent + 2) * 2 ^ (d.precision - 1) ≤ (2 ^ d.exp_bits - 1) * 2 ^ (d.precision - 1) =
    mul-le-mul_right (2 ^ (d.precision - 1)) (let l : exponent + 2 ≤ 2 ^ d.exp_bits - 1 = omega (arith, within) in l) in
    let at : point d.precision (m * 2 ^ (d.precision - k) + exponent * 2 ^ (d.precision - 1))
    ≡ m * 2 ^ (d.precision - k) * 2 ^ exponent =
    at_index d.precision all exponent (omega (arith, some)) fits (inr is.full) in
    record {
      below = omega (arith, fits, double, room);
      exact = ap (λ (n : ℕ). n * 2 ^ scale * 2 ^ (format_with d).scale) is.point
          ∙ same_product m place scale (format_with d).scale (d.precision - k) exponent to (omega (arith, few, places))
          ∙ ap (λ (n : ℕ). n * 2 ^ to) (sym at);
    }

-- ---- what fits

-- the bits of an exponent, and those below the sign
pub exponent_fits : (d : Constants) (exponent : ℕ) → d.exp_bits ≤ 8 → d.precision ≤ 24 → exponent < 2 ^ d.exp_bits
    → exponent * 2 ^ (d.precision - 1) ≤ 255 * 2 ^ 23
exponent_fits d exponent few digits within =
    let most : 2 ^ d.exp_bits ≤ 2 ^ 8 = pow-le-pow_right two_pos few in
    let unit : 2 ^ (d.precision - 1) ≤ 2 ^ 23 =
    pow-le-pow_right two_pos (let l : d.precision - 1 ≤ 23 = omega (arith, digits) in l) in
    let times : exponent * 2 ^ (d.precision - 1) ≤ 255 * 2 ^ (d.precision - 1) =
    mul-le-mul_right (2 ^ (d.precision - 1)) (let l : exponent ≤ 255 = omega (arith, within, most) in l) in
    omega (arith, times, unit)

pub signed_fits : (d : Constants) (s : StorageConstants) (negative : Bool) (magnitude : ℕ) → IsWordSource d s
    → magnitude < special_bits d → cond negative (2 ^ (d.bits - 1)) 0 + magnitude < 2 ^ 32
signed_fits d s negative magnitude source below =
    let some : 0 < 2 ^ d.exp_bits = pow_pos d.exp_bits in
    let special = exponent_fits d (2 ^ d.exp_bits - 1) source.exp_bits source.digits (omega (arith, some)) in
    let bits = source.bits in
    let power : 2 ^ (d.bits - 1) ≤ 2 ^ 31 =
    pow-le-pow_right two_pos (let l : d.bits - 1 ≤ 31 = omega (arith, bits) in l) in
    let sign : cond negative (2 ^ (d.bits - 1)) 0 ≤ 2 ^ (d.bits - 1) = sign_most negative (2 ^ (d.bits - 1)) in
    omega (arith, special, below, power, sign)

-- the sign of a code is part of it
pub sign_within : (half code : ℕ) → cond (leb half code) half 0 ≤ code
sign_within half code =
    ⊎_elim {C = cond (leb half code) half 0 ≤ code}
    (λ (l : code < half). rw (lt-leb half code l) omega arith)
    (λ (l : half ≤ code). rw (le-leb half code l) l)
    (cases_lt code half)

-- ---- what is delivered

own_sign : (negative : Bool) → product_sign negative false ≡ negative
own_sign true = refl
own_sign false = refl

pub exact_code : (format : BlockFormat) (d : Constants) (s : StorageConstants) (negative : Bool)
    (scale code index most magnitude bits : ℕ) → IsLawful d → d.precision < d.bits → IsWordSource d s
    → IsCodedAs format s most → (scale ≡ nan_code → ⊥) → index ≤ most
    → code ≡ cond negative (2 ^ (s.bits - 1)) 0 + index → IsProductAt d s scale index magnitude
    → bits ≡ cond negative (2 ^ (d.bits - 1)) 0 + magnitude → IsExactCode format d scale code bits
exact_code (Nvfp4 tensor) d s negative scale code index most magnitude bits law wide source has number within code_is at
    bits_is = absurd has
exact_code (Mx element) d s negative scale code index most magnitude bits law wide source has number within code_is at
    bits_is =
    let g = format_with d in
    let n : ℕ = point d.precision magnitude in
    let low = law.parameters.precision_low in
    let word = word_of_index d negative magnitude bits (omega (arith, low)) (whole_bits d law wide source.implied)
    (lawful_interchange d law wide) source.nonfinite source.implied at.below bits_is in
    let amount : ℕ = point s.precision index * 2 ^ scale * 2 ^ (format_with d).scale in
    let sign : zero_sign d.nonfinite negative ≡ negative =
    ap (λ (x : NonfiniteBehavior). zero_sign x negative) source.nonfinite in
    let x : element_datum element code ≡ finite negative (point s.precision index) =
    ap (element_datum element) code_is ∙ has.codes.numbers negative index within in
    let off : eqb scale nan_code ≡ false = ne_eqb scale nan_code number in
    let y : scale_of scale ≡ finite false (2 ^ scale) = rw off refl in
    record {
      negative = negative;
      quanta = n;
      is_scaled = λ mode.
          let kept : IsDelivered (format_with d) mode negative amount (2 ^ ((stored_format s).scale + 127))
          (finite negative (point d.precision magnitude)) 0 =
          subst
          (λ (v : Datum). IsDelivered (format_with d) mode negative amount (2 ^ ((stored_format s).scale + 127)) v 0)
          (signed_same d.nonfinite negative n sign)
          (exact_delivered g mode negative n amount (2 ^ ((stored_format s).scale + 127))
          (pow_pos ((stored_format s).scale + 127)) word.on_grid word.fits at.exact) in
          match_false _ _ _ off
          (subst₂ (λ (u v : Datum). IsProductTo (format_of_element element) scale_format (format_with d) mode u v
          (finite negative (point d.precision magnitude)) 0) (sym x) (sym y)
          (subst₂ (λ (b : Bool) (q : ℕ). IsDelivered (format_with d) mode b amount (2 ^ (q + 127))
          (finite negative (point d.precision magnitude)) 0) (sym (own_sign negative)) (sym has.scale) kept));
      is_encoded = word.is_encoded;
    }
