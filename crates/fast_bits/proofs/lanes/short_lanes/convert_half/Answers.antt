use Rattle.std.proofs.Common.{Bool, ap, ◌≡◌, ℕ, ◌*◌, ◌/◌, ◌%◌, ◌^◌, ◌<◌, ◌≤◌, true, ◌&&◌, eqb, ltb, leb, sym, ◌∙◌}
use Rattle.std.proofs.{Common.subst, Common.inl, Common.inr, Common.⊎_elim, Common.arith, Math.Bool.and-false}
use Rattle.std.proofs.lemmas.Bool.{cases_lt, le-leb, le-ltb, lt-leb, true_from_ne_false}
use Rattle.apfloat_model.specs.{bits.Layout.Layout, formats.Format.Format, rounding.RoundingToOdd.odd_quotient}
use Rattle.fast_bits.specs.declared.lanes.lanes.Lane.{Lane}
use Rattle.fast_bits.specs.lanes.{At.format_at, At.layout_at, Lanes.IsLane, Lanes.IsPastLane, Targets.IsSingleFormat}
use Rattle.fast_bits.proofs.lanes_lemmas.Specials.{a_layout, a_single, a_single_is, half_nan, half_payload}
use Rattle.fast_bits.proofs.lanes_lemmas.UpperHalves.{half_alone, half_is, word_below}
use Rattle.fast_bits.proofs.lanes.short_lanes.convert_half.Goals as goal

converted : (c : goal.After-with_special) (x : ℕ) (single : Format) (layout : Layout)
    → c.args.half ≡ odd_quotient x (2 ^ 16) → IsSingleFormat single layout
    → IsLane c.args.plan.saturates single layout (format_at c.args.plan.target) (layout_at c.args.plan.target)
    c.args.plan.round x c.with_special.result
converted c x single layout is is_single =
    let plan = c.args.plan in
    let t = plan.target in
    let h = c.args.half in
    let m = c.args.half % 2 ^ 15 in
    let specials = c.args.specials in
    let Says : Lane → Type 0 = λ one.
    IsLane plan.saturates single layout (format_at t) (layout_at t) plan.round x one in
    ⊎_elim {C = Says c.with_special.result}
    (λ (low : c.args.half % 2 ^ 15 < 255 * 2 ^ 7).
    subst Says
    (sym (c.with_special.ensures.number
    (ap (λ (b : Bool). specials && b) (lt-leb (255 * 2 ^ 7) m low) ∙ and-false specials)
    (ap (λ (b : Bool). specials && b) (le-ltb (255 * 2 ^ 7) m (omega (arith, low))) ∙ and-false specials)))
    (inl (c.convert_number.ensures.converted x single layout low is is_single)))
    (λ (high : 255 * 2 ^ 7 ≤ c.args.half % 2 ^ 15).
    let word : x < 2 ^ 32 = word_below x (subst (λ (n : ℕ). n < 2 ^ 16) is c.ranges.half.fits) in
    let half = half_is x word in
    let sign : odd_quotient x (2 ^ 16) / 2 ^ 15 ≡ x / 2 ^ 31 = half.sign in
    let exponent : odd_quotient x (2 ^ 16) % 2 ^ 15 / 2 ^ 7 ≡ x % 2 ^ 31 / 2 ^ 23 = half.exponent in
    let asked : c.args.specials ≡ true =
    true_from_ne_false c.args.specials (λ off. let low = c.requires.number off in omega (arith, low, high)) in
    let leads = c.requires.leads asked in
    let signs : h / 2 ^ 15 ≡ x / 2 ^ 31 = (λ i. is i / 2 ^ 15) ∙ sign in
    inr (
      leads.kept,
      c.with_special.ensures.special single layout plan.round x is_single word (omega (arith, is, exponent, high))
          (subst (λ (n : ℕ). IsPastLane (format_at t) (layout_at t) (eqb n 1) c.convert_number.result) signs
          (c.convert_number.ensures.past high leads))
          ((λ i. asked i && leb (255 * 2 ^ 7) m) ∙ le-leb (255 * 2 ^ 7) m high)
          (ap (λ (b : Bool). b && ltb (255 * 2 ^ 7) m) asked ∙ half_nan h x is high)
          (half_payload t.precision h x plan.short.digits is),
    ))
    (cases_lt m (255 * 2 ^ 7))

-- the bits of either lane are those of an encoding
encoded_below : (c : goal.After-with_special) → c.with_special.result.bits < 2 ^ c.args.plan.target.bits
encoded_below c =
    ⊎_elim (λ number. number.is_encoded.below) (λ special. special.1.is_encoded.below)
    (converted c (c.args.half * 2 ^ 16) a_single a_layout (sym (half_alone c.args.half)) a_single_is)

pub returns : goal.returns
returns c = record { below = encoded_below c; converted = converted c }
