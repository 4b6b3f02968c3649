use Rattle.std.proofs.Common.{◌≡◌, ℕ, ◌+◌, ◌*◌, ◌^◌, Bool, false, ◌&&◌, sym, ap, ◌∙◌}
use Rattle.std.proofs.{Common.arith, lemmas.Bool.and_parts}
use Rattle.apfloat_model.specs.arithmetic.{Exact.product_sign, Products.product}
use Rattle.apfloat_model.specs.{declared.kinds.Round.TheVariants.TowardZero, order.Classes.is_finite}
use Rattle.apfloat_model.specs.{order.Classes.is_negative, order.Classes.quanta_of, rounding.Flags.bits_of}
use Rattle.apfloat_model.proofs.{formats.LawfulRanges.ranges_of, general.Powers.fits_longer}
use Rattle.apfloat_model.proofs.order.PredicatesAgree.{finite_agrees}
use Rattle.apfloat_words.specs.Wides.{whole}
use Rattle.apfloat_ieee.specs.FlaggedTypes.{constants_of, format_of}
use Rattle.exact_reductions.specs.Reductions.{Tally, joined, number_tally, tally_of}
use Rattle.exact_reductions.proofs.{Placed.few_digits, Placed.product_units, Sizes.sum_size}
use Rattle.exact_reductions.proofs.Tallies.{finite_product, special_product}
use Rattle.exact_reductions.proofs.exact_sum.ExactSum.add_product.{Given.Over, Goals.After-product_sign-negative}
use Rattle.exact_reductions.proofs.exact_sum.ExactSum.add_product.Goals as goal

pub in_quanta-left-requires : goal.in_quanta-left-requires
in_quanta-left-requires g c =
    record {
      finite = sym (finite_agrees c.args.x) ∙ sym c.is_finite.ensures
          ∙ (and_parts c.is_finite.result c.is_finite-2.result c.if-finite.true).0;
    }

pub in_quanta-right-requires : goal.in_quanta-right-requires
in_quanta-right-requires g c =
    record {
      finite = sym (finite_agrees c.args.y) ∙ sym c.is_finite-2.ensures
          ∙ (and_parts c.is_finite.result c.is_finite-2.result c.if-finite.true).1;
    }

pub full_product-product-requires-clause-left_short : goal.full_product-product-requires-clause-left_short
full_product-product-requires-clause-left_short g c =
    fits_longer c.in_quanta-left.result.significand g.S.Flagged.PRECISION 64 c.in_quanta-left.ensures.significand
    (omega (arith, c.if-PRECISION-le64.true))

pub full_product-product-requires-clause-right_short : goal.full_product-product-requires-clause-right_short
full_product-product-requires-clause-right_short g c =
    fits_longer c.in_quanta-right.result.significand g.S.Flagged.PRECISION 64 c.in_quanta-right.ensures.significand
    (omega (arith, c.if-PRECISION-le64.true))

pub full_wide_product-product-requires-clause-left_short : goal.full_wide_product-product-requires-clause-left_short
full_wide_product-product-requires-clause-left_short g c =
    fits_longer c.in_quanta-left.result.significand g.S.Flagged.PRECISION 125 c.in_quanta-left.ensures.significand
    (ranges_of (constants_of g.S.Flagged) g.S.Flagged.lawful).precision_high

pub full_wide_product-product-requires-clause-right_short : goal.full_wide_product-product-requires-clause-right_short
full_wide_product-product-requires-clause-right_short g c =
    fits_longer c.in_quanta-right.result.significand g.S.Flagged.PRECISION 125 c.in_quanta-right.ensures.significand
    (ranges_of (constants_of g.S.Flagged) g.S.Flagged.lawful).precision_high

-- a product of the significands in units
units_are : (g : Over) → (state : After-product_sign-negative g) → (value : ℕ)
    → value ≡ state.in_quanta-left.result.significand * state.in_quanta-right.result.significand
    → value * 2 ^ (state.in_quanta-left.result.place + state.in_quanta-right.result.place)
    ≡ quanta_of state.args.x * quanta_of state.args.y
units_are g c value e =
    product_units (quanta_of c.args.x) (quanta_of c.args.y) c.in_quanta-left.result.significand
    c.in_quanta-right.result.significand c.in_quanta-left.result.place c.in_quanta-right.result.place value
    c.in_quanta-left.ensures.value c.in_quanta-right.ensures.value e

pub add_number-requires : goal.add_number-requires
add_number-requires g c =
    let f = format_of g.S.Flagged in
    let room = c.requires.format.room in
    let some = (ranges_of (constants_of g.S.Flagged) g.S.Flagged.lawful).precision_low in
    let state = (goal.at.add_number-requires g c).After-product_sign-negative in (
      sum_size g.row.WORDS c.requires.format.few,
      (
        omega (arith, c.in_quanta-left.ensures.place, c.in_quanta-right.ensures.place, room, some),
        (
          rw (units_are g state c.full_product-product.result c.full_product-product.ensures)
              (few_digits (quanta_of c.args.x) (quanta_of c.args.y) (f.precision + f.span) g.row.WORDS
              c.in_quanta-left.ensures.within c.in_quanta-right.ensures.within (omega (arith, room))),
          c.requires.room,
        ),
      ),
    )

pub add_wide_number-requires : goal.add_wide_number-requires
add_wide_number-requires g c =
    let f = format_of g.S.Flagged in
    let room = c.requires.format.room in
    let ranges = ranges_of (constants_of g.S.Flagged) g.S.Flagged.lawful in
    let state = (goal.at.add_wide_number-requires g c).After-product_sign-negative in
    let long = c.if-PRECISION-le64.false in
    let left = c.in_quanta-left.ensures.place in
    let right = c.in_quanta-right.ensures.place in (
      sum_size g.row.WORDS c.requires.format.few,
      (
        omega (arith, left, right, room, long),
        (
          omega (arith, left, right, room, c.requires.format.few),
          (
            rw (units_are g state (whole c.full_wide_product-product.result) c.full_wide_product-product.ensures)
                (few_digits (quanta_of c.args.x) (quanta_of c.args.y) (f.precision + f.span) g.row.WORDS
                c.in_quanta-left.ensures.within c.in_quanta-right.ensures.within (omega (arith, room))),
            c.requires.room,
          ),
        ),
      ),
    )

-- the tally of a product of so many units
product_tally : (g : Over) → (state : After-product_sign-negative g) → (amount : ℕ)
    → amount ≡ quanta_of state.args.x * quanta_of state.args.y → number_tally state.product_sign-negative.result amount
    ≡ tally_of (product (format_of g.S.Flagged) state.args.x state.args.y)
product_tally g c amount units =
    let f = format_of g.S.Flagged in
    let x = c.args.x in
    let y = c.args.y in
    let left = sym (finite_agrees x) ∙ sym c.is_finite.ensures
    ∙ (and_parts c.is_finite.result c.is_finite-2.result c.if-finite.true).0 in
    let right = sym (finite_agrees y) ∙ sym c.is_finite-2.ensures
    ∙ (and_parts c.is_finite.result c.is_finite-2.result c.if-finite.true).1 in
    let sign : c.product_sign-negative.result ≡ product_sign (is_negative x) (is_negative y) =
    c.product_sign-negative.ensures ∙ ap (λ (s : Bool). product_sign s c.is_negative-then-finite.result)
    c.is_negative.ensures ∙ ap (λ (s : Bool). product_sign (is_negative x) s) c.is_negative-then-finite.ensures in
    ap (λ (s : Bool). number_tally s amount) sign
    ∙ ap (λ (n : ℕ). number_tally (product_sign (is_negative x) (is_negative y)) n) units
    ∙ sym (finite_product f x y left right)

pub returns-then-PRECISION-le64 : goal.returns-then-PRECISION-le64
returns-then-PRECISION-le64 g c =
    let state = (goal.at.returns-then-PRECISION-le64 g c).After-product_sign-negative in
    c.add_number.ensures ∙ ap (λ (t : Tally). joined c.args.self.now t)
    (product_tally g state _ (units_are g state c.full_product-product.result c.full_product-product.ensures))

pub returns-else-PRECISION-le64 : goal.returns-else-PRECISION-le64
returns-else-PRECISION-le64 g c =
    let state = (goal.at.returns-else-PRECISION-le64 g c).After-product_sign-negative in
    c.add_wide_number.ensures ∙ ap (λ (t : Tally). joined c.args.self.now t)
    (product_tally g state _
    (units_are g state (whole c.full_wide_product-product.result) c.full_wide_product-product.ensures))

pub add_special-requires : goal.add_special-requires
add_special-requires g c =
    let left : c.is_finite.result ≡ is_finite c.args.x = c.is_finite.ensures ∙ finite_agrees c.args.x in
    let right : c.is_finite-2.result ≡ is_finite c.args.y = c.is_finite-2.ensures ∙ finite_agrees c.args.y in
    let special : (is_finite c.args.x && is_finite c.args.y) ≡ false = rw (left, right) at c.if-finite.false in (
      sum_size g.row.WORDS c.requires.format.few,
      (
        (special_product (format_of g.S.Flagged) TowardZero c.args.x c.args.y c.special_product.result.value
            (bits_of c.special_product.result.status) special c.special_product.ensures).special,
        c.requires.room,
      ),
    )

pub returns-else-finite : goal.returns-else-finite
returns-else-finite g c =
    let left : c.is_finite.result ≡ is_finite c.args.x = c.is_finite.ensures ∙ finite_agrees c.args.x in
    let right : c.is_finite-2.result ≡ is_finite c.args.y = c.is_finite-2.ensures ∙ finite_agrees c.args.y in
    let special : (is_finite c.args.x && is_finite c.args.y) ≡ false = rw (left, right) at c.if-finite.false in
    let same = (special_product (format_of g.S.Flagged) TowardZero c.args.x c.args.y c.special_product.result.value
    (bits_of c.special_product.result.status) special c.special_product.ensures).same in
    c.add_special.ensures ∙ ap (λ (t : Tally). joined c.args.self.now t) same
