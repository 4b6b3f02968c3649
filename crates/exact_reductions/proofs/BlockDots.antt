-- Vectors in blocks: the exact values of their elements, and totals in another format.
use Rattle.std.proofs.Common.{lit≤, ◌≡◌, ℕ, ◌+◌, ◌-◌, ◌*◌, ◌/◌, ◌^◌, ◌<◌, ◌≤◌, eqb, Bool}
use Rattle.std.proofs.Common.{false, List, length, get_or, ℤ, pos, refl, sym, ap, ◌∙◌}
use Rattle.std.proofs.{Common.subst, Common.⊎_elim, Common.arith, Math.Nat.eq_of_mul-eq-mul_right, Math.Nat.mul-le-mul}
use Rattle.std.proofs.lemmas.Bool.{MatchBool-at_false, MatchBool-at_true, cases_eq, eq-eqb}
use Rattle.std.proofs.lemmas.Bool.{ne_eqb}
use Rattle.std.proofs.lemmas.{Nat.div_below, Nat.pow-add, Nat.pow_pos}
use Rattle.std.proofs.lemmas.List.{FromFn.get_or-map-range_with_len}
use Rattle.std.specs.Prelude.{◌*ℤ◌, All, [], ◌∷◌}
use Rattle.apfloat_model.specs.arithmetic.Exact.{IsRounded, magnitude, product_sign}
use Rattle.apfloat_model.specs.declared.kinds.Round.{Round}
use Rattle.apfloat_model.specs.formats.{Datum.Datum, Datum.finite, Datum.infinite, Datum.nan, Format.Format}
use Rattle.apfloat_model.specs.formats.{Members.IsFiniteOf}
use Rattle.apfloat_model.specs.formats.Nan.{qnan}
use Rattle.apfloat_model.specs.order.{Classes.is_finite, Classes.is_negative, Classes.quanta_of}
use Rattle.apfloat_model.specs.rounding.{Answer.IsAnswer, Rounding.IsDelivered}
use Rattle.apfloat_model.proofs.whole_numbers.SignedProducts.{magnitude-times, sign_times}
use Rattle.apfloat_arithmetic.specs.other_formats.FormatOf.{IsProductTo}
use Rattle.small_formats.specs.Scales.{nan_code, scale_format, scale_of}
use Rattle.small_formats.specs.declared.blocks.elements.ElementFormat.{ElementFormat, TheVariants.E2M1FN}
use Rattle.small_formats.specs.declared.blocks.elements.ElementFormat.TheVariants.{E4M3FN}
use Rattle.small_formats.specs.blocks.Elements.{e2m1fn, element_datum, format_of_element, width}
use Rattle.small_formats.specs.blocks.{MxBlocks.IsScaled, Nvfp4.IsNvScaled, Nvfp4.nan_scale}
use Rattle.small_formats.specs.blocks.Nvfp4.{scale_quanta, single_format}
use Rattle.small_formats.proofs.blocks_lemmas.ElementNumbers.{e2m1fn_law, element_number, stored_number}
use Rattle.small_formats.proofs.blocks_lemmas.{ExactBlocks.exact_into_double, ExactProducts.HasProducts}
use Rattle.small_formats.proofs.blocks_lemmas.{ExactProducts.exact_product, JointScales.product_on_grid}
use Rattle.small_formats.proofs.blocks_lemmas.{NvScales.number_of_code, Quotients.sign_over_positive}
use Rattle.small_formats.proofs.blocks_lemmas.{SameFractions.delivered_across, exact.Rooms.short}
use Rattle.exact_reductions.specs.BlockDots.{AreCodes, IsVector, double_format}
use Rattle.small_formats.proofs.packing_lemmas.All.{all_cons, all_none}
use Rattle.exact_reductions.specs.BlockDots.{scaled_datum, scaled_value, tensor_of, value_at, values}
use Rattle.exact_reductions.specs.declared.block_dots.BlockScaling.{BlockScaling}
use Rattle.exact_reductions.specs.declared.block_dots.BlockScaling.TheVariants.{Mx, Nvfp4}
use Rattle.exact_reductions.specs.declared.block_dots.BlockVector.{BlockVector}

-- ---- totals

-- a total in quanta of its own format
pub total_in_own : (f : Format) (mode : Round) (of_zero : Bool) (exact : ℤ) (value : Datum) (status : ℕ)
    → 0 < f.precision → IsRounded f mode of_zero (exact *ℤ pos (2 ^ f.scale)) (2 ^ (f.scale + f.scale)) value status
    → IsRounded f mode of_zero exact (2 ^ f.scale) value status
total_in_own f mode of_zero exact value status some h =
    let unit : ℕ = 2 ^ f.scale in
    let amount : magnitude (exact *ℤ pos unit) ≡ magnitude exact * unit = magnitude-times exact unit in
    let units : 2 ^ (f.scale + f.scale) ≡ unit * unit = pow-add 2 f.scale f.scale in
    let sign = sign_times of_zero exact unit (pow_pos f.scale) in
    let across : magnitude exact * 2 ^ (f.scale + f.scale) ≡ magnitude (exact *ℤ pos unit) * unit =
    ap (λ (n : ℕ). magnitude exact * n) units
    ∙ (let z : magnitude exact * (unit * unit) ≡ magnitude exact * unit * unit = omega arith in z)
    ∙ ap (λ (n : ℕ). n * unit) (sym amount) in
    subst (λ (b : Bool). IsDelivered f mode b (magnitude exact) unit value status) sign
    (delivered_across f mode _ (magnitude exact) unit (magnitude (exact *ℤ pos unit)) (2 ^ (f.scale + f.scale)) value
    status some (pow_pos f.scale) (pow_pos (f.scale + f.scale)) across h)

-- ---- values

-- n times the scale, in double
moved : (n scale down quanta : ℕ) → down ≤ 1074
    → quanta * 2 ^ down ≡ n * 2 ^ scale * 2 ^ 1074 → quanta ≡ n * 2 ^ scale * 2 ^ (1074 - down)
moved n scale down quanta l e =
    let all : down + (1074 - down) ≡ 1074 = omega (arith, l) in
    let power : 2 ^ 1074 ≡ 2 ^ down * 2 ^ (1074 - down) =
    ap (λ (x : ℕ). 2 ^ x) (sym all) ∙ pow-add 2 down (1074 - down) in
    let f : quanta * 2 ^ down ≡ n * 2 ^ scale * 2 ^ (1074 - down) * 2 ^ down =
    e ∙ ap (λ (x : ℕ). n * 2 ^ scale * x) power ∙ omega arith in
    eq_of_mul-eq-mul_right (2 ^ down) (pow_pos down) quanta _ f

-- an element of MX: the datum d
mx_scaled : (element : ElementFormat) (mode : Round) (scale code : ℕ) (d value : Datum) (status : ℕ) → scale < nan_code
    → code < 2 ^ width element → element_datum element code ≡ d
    → IsScaled element double_format mode scale code value status
    → IsProductTo (format_of_element element) scale_format double_format mode d (finite false (2 ^ scale)) value status
    → value ≡ scaled_datum (format_of_element element) (2 ^ scale) scale_format.scale d
mx_scaled element mode scale code (finite b n) value status below narrow e h p =
    let f = format_of_element element in
    let few = (short element).quantum in
    let x = exact_into_double element scale below mode code value status narrow (ap is_finite e) h in
    let same : finite x.negative x.number ≡ finite b n = sym x.element_is ∙ e in
    let point : x.quanta ≡ n * 2 ^ scale * 2 ^ (1074 - (f.scale + 127)) = moved n scale (f.scale + 127) x.quanta
    (omega (arith, few)) (x.same ∙ ap (λ (d : Datum). quanta_of d * 2 ^ scale * 2 ^ 1074) same) in
    x.value_is ∙ ap (λ (d : Datum). finite (is_negative d) x.quanta) same ∙ ap (finite b) point
mx_scaled element mode scale code (infinite b) value status below narrow e h p =
    let some = pow_pos scale in
    let off : eqb (2 ^ scale) 0 ≡ false = ne_eqb (2 ^ scale) 0 (λ z. omega (arith, z, some)) in
    let p' : IsAnswer (infinite (product_sign b false)) 0 value status = rw off at p in
    p'.value_is ∙ ap infinite (sign_over_positive b)
mx_scaled element mode scale code (nan b s) value status below narrow e h p = p.value_is

not_last : (n most : ℕ) → n < most + 1 → (n ≡ most → ⊥) → n < most
not_last n most l ne = omega (arith, l, ne)

pub mx_value : (element : ElementFormat) (mode : Round) (scale code : ℕ) (value : Datum) (status : ℕ) → scale < 2 ^ 8
    → code < 2 ^ width element → IsScaled element double_format mode scale code value status
    → value ≡ scaled_value (Mx element) scale code
mx_value element mode scale code value status byte narrow h =
    let product = λ (y : Datum). IsProductTo (format_of_element element) scale_format double_format mode
    (element_datum element code) y value status in
    ⊎_elim
    (λ (e : scale ≡ 255).
    let on = eq-eqb scale 255 e in
    rw on (MatchBool-at_true (IsAnswer (qnan double_format 0) 0 value status) (product (scale_of scale)) on h).value_is)
    (λ (e : scale ≡ 255 → ⊥).
    let off = ne_eqb scale 255 e in
    let at : scale_of scale ≡ finite false (2 ^ scale) = rw off refl in
    let p = MatchBool-at_false (IsAnswer (qnan double_format 0) 0 value status) (product (scale_of scale)) off h in
    rw off
    (mx_scaled element mode scale code (element_datum element code) value status (not_last scale 255 byte e) narrow
    refl h (subst product at p)))
    (cases_eq scale 255)

-- ---- NVFP4

room : HasProducts double_format 30 270 159 0
room = record { kind = refl; digits = lit≤ tt; quantum = lit≤ tt; room = lit≤ tt }

joint_most : (n q t p : ℕ) → n ≤ 12 → q ≤ 14 * 2 ^ 14 → t ≤ (2 ^ 24 - 1) * p → n * (q * t) ≤ (2 ^ 30 - 1) * (2 ^ 17 * p)
joint_most n q t p a b c =
    let scales : q * t ≤ 14 * 2 ^ 14 * ((2 ^ 24 - 1) * p) = mul-le-mul b c in
    let all : n * (q * t) ≤ 12 * (14 * 2 ^ 14 * ((2 ^ 24 - 1) * p)) = mul-le-mul a scales in
    omega (arith, all)

nv_scaled : (mode : Round) (scale code tensor : ℕ) (value : Datum) (status : ℕ) → scale < nan_scale
    → IsFiniteOf single_format false tensor → IsDelivered double_format mode (is_negative (element_datum E2M1FN code))
    (quanta_of (element_datum E2M1FN code) * (scale_quanta scale * tensor) * 2 ^ double_format.scale) (2 ^ 159) value
    status
    → value ≡ scaled_datum (format_of_element E2M1FN) (scale_quanta scale * tensor) 158 (element_datum E2M1FN code)
nv_scaled mode scale code tensor value status below single h =
    let n : ℕ = quanta_of (element_datum E2M1FN code) in
    let q : ℕ = scale_quanta scale in
    let element = stored_number e2m1fn code e2m1fn_law in
    let number = element_number E4M3FN scale (omega (arith, below)) (ap is_finite (number_of_code scale below)) in
    let grid = product_on_grid 2 28 n (q * tensor) element.on_grid
    (product_on_grid 4 24 q tensor number.on_grid single.on_grid) in
    let power : 2 ^ 270 ≡ 2 ^ 17 * 2 ^ 253 = pow-add 2 17 253 in
    let most = subst (λ (m : ℕ). n * (q * tensor) ≤ (2 ^ 30 - 1) * m) (sym power)
    (joint_most n q tensor (2 ^ 253) element.within number.within single.within) in
    let same : n * (q * tensor) * 2 ^ 0 ≡ n * (q * tensor) = omega arith in
    let exact = exact_product double_format mode (is_negative (element_datum E2M1FN code)) 30 270 159 0
    (n * (q * tensor)) value status room grid most
    (subst (λ (m : ℕ). IsDelivered double_format mode (is_negative (element_datum E2M1FN code))
    (m * 2 ^ double_format.scale) (2 ^ 159) value status) (sym same) h) in
    exact.value_is

pub nv_value : (mode : Round) (bits scale code : ℕ) (value : Datum) (status : ℕ) → scale < 2 ^ 7
    → IsFiniteOf single_format false (quanta_of (tensor_of bits))
    → IsNvScaled double_format mode (quanta_of (tensor_of bits)) scale code value status
    → value ≡ scaled_value (Nvfp4 bits) scale code
nv_value mode bits scale code value status few single h =
    ⊎_elim
    (λ (e : scale ≡ 127).
    let on = eq-eqb scale 127 e in
    rw on (MatchBool-at_true (IsAnswer (qnan double_format 0) 0 value status) _ on h).value_is)
    (λ (e : scale ≡ 127 → ⊥).
    let off = ne_eqb scale 127 e in
    rw off
    (nv_scaled mode scale code (quanta_of (tensor_of bits)) value status (not_last scale 127 few e) single
    (MatchBool-at_false (IsAnswer (qnan double_format 0) 0 value status) _ off h)))
    (cases_eq scale 127)

-- ---- vectors

pub scale_there : (x : BlockVector) (index : ℕ) → IsVector x → index < length x.codes.now
    → index / x.length < length x.scales.now
scale_there x index v l = div_below index x.length (length x.scales.now) v.some (subst (λ (n : ℕ). index < n) v.whole l)

only : (bits code : ℕ) → code < 2 ^ bits → All (λ (n : ℕ). n < 2 ^ bits) (code ∷ [])
only bits code l = all_cons (λ (n : ℕ). n < 2 ^ bits) code [] l (all_none (λ (n : ℕ). n < 2 ^ bits))

pub codes_at : (scaling : BlockScaling) (scales codes : List ℕ) (block index : ℕ) → AreCodes scaling scales codes
    → block < length scales → index < length codes
    → AreCodes scaling (get_or scales block 0 ∷ []) (get_or codes index 0 ∷ [])
codes_at (Mx element) scales codes block index h l k = only (width element) (get_or codes index 0) (h index 0 k)
codes_at (Nvfp4 tensor) scales codes block index h l k =
    (h.0, only 7 (get_or scales block 0) (h.1 block 0 l), only 4 (get_or codes index 0) (h.2 index 0 k))

-- ---- one element after another

pub value_there : (x : BlockVector) (i : ℕ) (value : Datum) → i < length x.codes.now → value ≡ value_at x i
    → value ≡ get_or (values x) i value
value_there x i value l e =
    e ∙ sym (get_or-map-range_with_len (value_at x) 0 (length x.codes.now) i i value l (omega arith))
