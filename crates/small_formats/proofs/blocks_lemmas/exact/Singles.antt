-- Blocks that were quantized from singles come back exactly.
use Rattle.std.proofs.Common.{lit<, ◌≡◌, ℕ, suc, ◌+◌, ◌-◌, ◌*◌, ◌^◌, ◌<◌, ◌≤◌, Bool, true, false, cond, ltb, eqb, min}
use Rattle.std.proofs.Common.{refl, ap, ◌∙◌, arith, List, [], ◌∷◌, length, get_or, ℤ, pos, ◌+ℤ◌, ◌-ℤ◌}
use Rattle.std.proofs.Math.Nat.{mul-lt-mul_of_pos_right}
use Rattle.std.proofs.lemmas.{Int.ints, Nat.pow-add, Nat.pow_pos, Option.slice_get-get_or}
use Rattle.std.specs.Bool.{MatchBool}
use Rattle.std.specs.Prelude.{All}
use Rattle.apfloat_model.specs.{arithmetic.Exact.up, declared.kinds.Round.Round}
use Rattle.apfloat_model.specs.formats.{Datum.Datum, Datum.finite, Datum.infinite, Datum.nan, Format.Format}
use Rattle.apfloat_model.specs.formats.{Format.largest, Formats.single_constants, Lawful.format_with, Members.IsMember}
use Rattle.apfloat_model.specs.order.Classes.{is_finite, is_negative, quanta_of}
use Rattle.apfloat_model.proofs.{arithmetic.SingleScalings.up_le, general.Powers.exponent_below}
use Rattle.small_formats.specs.{Scales.nan_code, blocks.Again.IsExactFromSingles, blocks.MxScales.IsScaleOfNumber}
use Rattle.small_formats.specs.{declared.blocks.elements.ElementFormat.ElementFormat}
use Rattle.small_formats.specs.blocks.{Magnitudes.are_finite, Magnitudes.greatest_magnitude, MxBlocks.IsBlockBy}
use Rattle.small_formats.specs.blocks.{MxBlocks.IsBlockOfNan, MxBlocks.IsBlockOfNumbers, MxScales.IsBlockScale}
use Rattle.small_formats.specs.blocks.Elements.{IsQuotientBy, element_datum, format_of_element, max_exp}
use Rattle.small_formats.specs.declared.blocks.{mx.Block.Block, mx_scales.ScaleRule.TheVariants.Floor}
use Rattle.small_formats.proofs.blocks_lemmas.{ExactBlocks.exact_into_single, again.Lists.some_at}
use Rattle.small_formats.proofs.blocks_lemmas.exact.{Blocks.exact_block, Rooms.short}

-- ---- the scale

member_within : (f : Format) (x : Datum) → IsMember f x → quanta_of x ≤ largest f
member_within f (finite b n) m = m.within
member_within f (infinite b) m = omega arith
member_within f (nan b s) m = omega arith

greatest_within : (f : Format) (values : List Datum) → All (λ x. IsMember f x) values
    → greatest_magnitude values ≤ largest f
greatest_within f [] all = omega arith
greatest_within f (x ∷ xs) all =
    let first = member_within f x (all 0 x (omega arith)) in
    let rest = greatest_within f xs (λ k d l. all (suc k) d (omega (arith, l))) in
    grind (arith, first, rest)

-- the exponent of a single is at most 127
number_scale : (element : ElementFormat) (greatest scale : ℕ) → greatest ≤ largest (format_with single_constants)
    → IsScaleOfNumber element (format_with single_constants) greatest scale → scale + max_exp element ≤ 254
number_scale element greatest scale within s =
    let log = s.is_logarithm in
    let low = log.low in
    let few : 2 ^ 24 - 1 < 2 ^ 24 = lit< tt in
    let less : (2 ^ 24 - 1) * 2 ^ 253 < 2 ^ 24 * 2 ^ 253 = mul-lt-mul_of_pos_right few (pow_pos 253) in
    let split : 2 ^ (24 + 253) ≡ 2 ^ 24 * 2 ^ 253 = pow-add 2 24 253 in
    let place : log.place < 24 + 253 = exponent_below log.place (24 + 253) (omega (arith, low, within, less, split)) in
    let z : ℤ = pos log.place -ℤ pos 149 -ℤ pos (max_exp element) +ℤ pos 127 in
    let few_exponents = (short element).exponents in
    let most = up_le z (254 - max_exp element) (omega (arith, ints, place, few_exponents)) in
    let is : scale ≡ min (up z) 254 =
    s.code_is ∙ ap (λ (e : ℤ). min (up (e -ℤ pos (max_exp element) +ℤ pos 127)) 254) log.is in
    grind (arith, is, most, few_exponents)

block_scale : (element : ElementFormat) (greatest scale : ℕ) → greatest ≤ largest (format_with single_constants)
    → IsBlockScale element (format_with single_constants) greatest scale → scale + max_exp element ≤ 254
block_scale element greatest scale within h = by_test (eqb greatest 0) h
  where
    by_test : (test : Bool) → MatchBool test (scale ≡ 0)
        (IsScaleOfNumber element (format_with single_constants) greatest scale) → scale + max_exp element ≤ 254
    by_test true e = let few = (short element).exponents in omega (arith, e, few)
    by_test false s = number_scale element greatest scale within s

-- ---- the elements

finite_either : (test negative : Bool) (m n : ℕ) → is_finite (cond test (finite negative m) (finite negative n)) ≡ true
finite_either true negative m n = refl
finite_either false negative m n = refl

quotient_finite : (element : ElementFormat) (f : Format) (mode : Round) (divisor unit : ℕ) (x : Datum) (code status : ℕ)
    → IsQuotientBy element f mode divisor unit x code status → is_finite (element_datum element code) ≡ true
quotient_finite element f mode divisor unit x code status q =
    let g = format_of_element element in
    ap is_finite q.1.value_is ∙ finite_either (ltb (largest g) q.1.pick) (is_negative x) (largest g) q.1.pick

-- a block that is finite is that of numbers
of_numbers : (element : ElementFormat) (f : Format) (mode : Round) (values : List Datum) (codes : List ℕ)
    (block : Block) → block.is_finite ≡ true → IsBlockBy Floor element f mode values codes block
    → IsBlockOfNumbers Floor element f mode values codes block
of_numbers element f mode values codes block number h = by_test (are_finite values) h
  where
    by_test : (test : Bool) → MatchBool test (IsBlockOfNumbers Floor element f mode values codes block)
        (IsBlockOfNan nan_code values codes block) → IsBlockOfNumbers Floor element f mode values codes block
    by_test true b = b
    by_test false b = let off = b.finite_is in cc

pub exact_from_singles : IsExactFromSingles
exact_from_singles element mode other singles values old before codes block counts members q number d =
    let f = format_with single_constants in
    let b = of_numbers element f mode singles codes block number q.2 in
    let top =
    block_scale element (greatest_magnitude singles) block.scale (greatest_within f singles members) b.scale_is in
    let written = b.elements.in_places in
    let size = written.same_size in
    let finite_codes : (k d : ℕ) → k < length codes → is_finite (element_datum element (get_or codes k d)) ≡ true =
    λ k d l.
    let x = some_at singles k (omega (arith, l, size)) in
    let s = some_at b.elements.flags k (omega (arith, l, size, written.flags_size)) in
    quotient_finite element f mode (2 ^ block.scale) (2 ^ 127) x.0 (get_or codes k d) s.0
    (written.each k x.0 (get_or codes k d) s.0 x.1 (slice_get-get_or codes k d l) s.1) in
    exact_block element f other block.scale codes old values counts (exact_into_single element block.scale top)
    finite_codes d
