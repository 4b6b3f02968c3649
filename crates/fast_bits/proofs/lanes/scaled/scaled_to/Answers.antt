use Rattle.std.proofs.Common.{◌≡◌, ◌+◌, ◌-◌, ◌*◌, ◌/◌, ◌%◌, ◌^◌, ℕ, refl, ap, subst}
use Rattle.std.proofs.Common.{pos, ◌-ℤ◌, ⊎_elim, inl, inr, ◌⊎◌, ◌≤◌, ◌∙◌, arith}
use Rattle.std.proofs.lemmas.Int.{ints}
use Rattle.fast_bits.specs.lanes.{At.format_at, At.layout_at, Scaled.IsReachedLane}
use Rattle.fast_bits.proofs.lanes_lemmas.Reached.{AreSteps, steps_are}
use Rattle.fast_bits.proofs.lanes_lemmas.{UpperHalves.short_significand, Words.word_significand_fits}
use Rattle.fast_bits.proofs.lanes.scaled.scaled_to.Goals as goal

steps : (c : goal.After-from-2) → AreSteps (format_at c.args.target)
    (c.from.result * c.from-2.result / 65536 + c.above.result * 2 ^ (c.args.target.precision - 1) % 65536)
    (c.from.result * c.from-2.result % 65536)
    (short_significand c.args.magnitude * 2 ^ 16 + c.args.lower) c.place_of-place.result
steps c =
    let t = c.args.target in
    let m = short_significand c.args.magnitude * 2 ^ 16 + c.args.lower in
    let precise = t.lawful.precise in
    let low = t.lawful.below in
    let scale : pos (format_at t).scale ≡ pos (t.precision - 1) -ℤ t.min_exp = omega (arith, ints, precise, low) in
    let fits = word_significand_fits c.args.magnitude c.args.lower c.ranges.lower.fits in
    let moved : c.from.result * c.from-2.result ≡ c.from.result * 2 ^ c.up.result =
    ap (λ (n : ℕ). c.from.result * n) (c.from-2.ensures ∙ c.power_of_two-power.ensures.is) in
    let full : (c.place_of-place.result ≡ 0) ⊎ (2 ^ 23 ≤ m) =
    ⊎_elim (λ z. inl (c.place_of-place.ensures ∙ z)) (λ h. inr h) fits.1 in
    steps_are (format_at t) (layout_at t) t.min_exp t.max_exp m c.place_of-place.result c.first_place-first.result
    c.from.result c.above.result c.up.result _ _ t.lawful scale fits.0 full
    c.first_place-first.ensures.is (c.from.ensures ∙ c.odd_significand-significand.ensures) c.above.ensures
    c.up.ensures moved refl

pub overflow_add-result : goal.overflow_add-result
overflow_add-result c = let below = (steps c).below in omega (arith, below)

pub returns-clause-reached : goal.returns-clause-reached
returns-clause-reached c =
    let t = c.args.target in
    let kept = c.from.result * c.from-2.result / 65536 + c.above.result * 2 ^ (t.precision - 1) % 65536 in
    let m = short_significand c.args.magnitude * 2 ^ 16 + c.args.lower in
    let rest : c.from.result * c.from-2.result % 65536
    ≡ c.odd_significand-significand.result * c.power_of_two-power.result % 65536 =
    (λ i. c.from.ensures i * c.from-2.ensures i % 65536) in
    let place = c.args.magnitude / 2 ^ 7 - 1 in
    subst
    (λ (n : ℕ). IsReachedLane (format_at t) (kept * 2 ^ 16 + n) (m * 2 ^ place * 2 ^ (format_at t).scale) (2 ^ 149))
    rest
    (subst
    (λ (n : ℕ). IsReachedLane (format_at t) (kept * 2 ^ 16 + c.from.result * c.from-2.result % 65536)
    (m * 2 ^ n * 2 ^ (format_at t).scale) (2 ^ 149)) c.place_of-place.ensures (steps c.before).reached)

pub returns-clause-below : goal.returns-clause-below
returns-clause-below c = (steps c.before).below
