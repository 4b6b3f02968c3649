use Rattle.std.proofs.Common.{◌≡◌, false, ◌∙◌, ℕ, ◌+◌, ◌*◌, ◌/◌, ◌%◌, ◌^◌, ◌<◌}
use Rattle.std.proofs.Common.{◌≤◌, Bool, true, not, ◌&&◌, ◌||◌, eqb, leb, refl, sym, ap, subst, inl, inr}
use Rattle.std.proofs.{Common.⊎_elim, Common.arith, Math.Bool.and-false}
use Rattle.std.proofs.lemmas.Bool.{cases_lt, le-leb, lt-leb, true_from_ne_false}
use Rattle.apfloat_model.specs.{bits.Layout.Layout, formats.Format.Format}
use Rattle.fast_bits.specs.declared.lanes.lanes.Lane.{Lane}
use Rattle.fast_bits.specs.lanes.{At.format_at, At.layout_at, Lanes.IsLane, Lanes.IsPastLane, Targets.IsSingleFormat}
use Rattle.fast_bits.proofs.lanes_lemmas.Specials.{a_layout, a_single, a_single_is, word_nan, word_payload}
use Rattle.fast_bits.proofs.lanes_lemmas.Words.{word_is}
use Rattle.fast_bits.proofs.lanes.lanes.convert_single.Goals as goal

-- whether the halves are those of a NaN, given the upper one without its sign
abbrev nan_test : ℕ → ℕ → Bool
nan_test m lower = leb (255 * 2 ^ 7) m && (not (eqb m (255 * 2 ^ 7)) || not (eqb lower 0))

converted : (c : goal.After-with_special) (single : Format) (layout : Layout) → IsSingleFormat single layout
    → IsLane c.args.plan.saturates single layout (format_at c.args.plan.target) (layout_at c.args.plan.target)
    c.args.plan.round (c.args.upper * 2 ^ 16 + c.args.lower) c.with_special.result
converted c single layout is_single =
    let plan = c.args.plan in
    let t = plan.target in
    let upper = c.args.upper in
    let lower = c.args.lower in
    let m = c.args.upper % 2 ^ 15 in
    let specials = c.args.specials in
    let x = c.args.upper * 2 ^ 16 + c.args.lower in
    let short = c.ranges.lower.fits in
    let word = word_is c.args.upper c.args.lower c.ranges.upper.fits c.ranges.lower.fits in
    let magnitude = word.magnitude in
    let Says : Lane → Type 0 = λ one.
    IsLane plan.saturates single layout (format_at t) (layout_at t) plan.round x one in
    ⊎_elim {C = Says c.with_special.result}
    (λ (low : c.args.upper % 2 ^ 15 < 255 * 2 ^ 7).
    let off : leb (255 * 2 ^ 7) (c.args.upper % 2 ^ 15) ≡ false = lt-leb (255 * 2 ^ 7) m low in
    let none : nan_test (c.args.upper % 2 ^ 15) c.args.lower ≡ false =
    ap (λ (b : Bool). b && (not (eqb m (255 * 2 ^ 7)) || not (eqb lower 0))) off in
    subst Says
    (sym (c.with_special.ensures.number (ap (λ (b : Bool). specials && b) off ∙ and-false specials)
    (ap (λ (b : Bool). specials && b) none ∙ and-false specials)))
    (inl (c.convert_number.ensures.converted single layout low is_single)))
    (λ (high : 255 * 2 ^ 7 ≤ c.args.upper % 2 ^ 15).
    let asked : c.args.specials ≡ true =
    true_from_ne_false c.args.specials (λ off. let low = c.requires.number off in omega (arith, low, high)) in
    let leads = c.requires.leads asked in
    inr (
      leads.kept,
      c.with_special.ensures.special single layout plan.round x is_single word.below (omega (arith, magnitude, high))
          (subst (λ (n : ℕ). IsPastLane (format_at t) (layout_at t) (eqb n 1) c.convert_number.result) word.sign
          (c.convert_number.ensures.past high leads))
          ((λ i. asked i && leb (255 * 2 ^ 7) m) ∙ le-leb (255 * 2 ^ 7) m high)
          (ap (λ (b : Bool). b && nan_test m lower) asked ∙ word_nan m upper lower x refl refl short high)
          (word_payload t.precision (x % 2 ^ 23) (upper % 2 ^ 7 * 2 ^ 9 + lower / 2 ^ 7) t.lawful.digits
          (omega (arith, short))),
    ))
    (cases_lt m (255 * 2 ^ 7))

-- the bits of either lane are those of an encoding
encoded_below : (c : goal.After-with_special) → c.with_special.result.bits < 2 ^ c.args.plan.target.bits
encoded_below c =
    ⊎_elim (λ number. number.is_encoded.below) (λ special. special.1.is_encoded.below)
    (converted c a_single a_layout a_single_is)

pub returns : goal.returns
returns c = record { below = encoded_below c; converted = converted c }
