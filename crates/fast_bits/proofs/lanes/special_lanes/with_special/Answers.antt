use Rattle.std.proofs.Common.{rules, ◌≡◌, ℕ, ◌+◌, ◌-◌, ◌/◌, ◌%◌, ◌^◌, ◌∙◌, Bool, cond}
use Rattle.std.proofs.Common.{◌&&◌, ap, sym, refl, subst, arith}
use Rattle.apfloat_model.specs.formats.Nan.{quieted}
use Rattle.fast_bits.specs.lanes.{At.format_at, At.layout_at, Lanes.IsSpecialLane, Targets.is_ieee}
use Rattle.fast_bits.proofs.lanes_lemmas.{Interchanges.target_interchange, Specials.payload_quiet}
use Rattle.fast_bits.proofs.lanes_lemmas.Specials.{quiet_digits, quieted_is, special_converted, with_special}
use Rattle.fast_bits.proofs.lanes.special_lanes.with_special.Goals.{then-nan-ieee, else-nan-ieee}
use Rattle.fast_bits.proofs.lanes.special_lanes.with_special.Goals as goal

pub returns-clause-special : goal.returns-clause-special
returns-clause-special c = λ single read mode x is_single word high past special nan_is it.
    let t = c.args.target in
    let lane = c.args.lane in
    let law = target_interchange (format_at t) (layout_at t) t.min_exp t.max_exp t.lawful in
    let d = quiet_digits t.precision (x % 2 ^ 23) in
    let ieee : c.eq-ieee.result ≡ is_ieee t.nonfinite = search rules in
    let quiet : quieted single (x % 2 ^ 23) / 2 ^ (24 - t.precision) ≡ quiet_digits t.precision (x % 2 ^ 23) =
    ap (λ (n : ℕ). n / 2 ^ (24 - t.precision)) (quieted_is single read (x % 2 ^ 23) is_single (omega arith)) in
    let bits : c.if-nan-ieee.result ≡ cond (c.args.nan && is_ieee t.nonfinite) (lane.bits + d) lane.bits =
    elim c.if-nan-ieee.branch [
      | then-nan-ieee w ↦ rw (w.result-is, sym ieee, w.if-nan-ieee.true, w.from.ensures)
          (ap (λ (n : ℕ). lane.bits + n)
          (w.quiet_digits.ensures.is single read (x % 2 ^ 23) is_single (omega arith) it ∙ quiet))
      | else-nan-ieee w ↦ rw (w.result-is, sym ieee, w.if-nan-ieee.false) refl
    ] in
    let it_is : IsSpecialLane single read (format_at t) (layout_at t) mode x
    (with_special t.nonfinite d lane c.args.special c.args.nan c.args.payload) =
    subst (λ (b : Bool). IsSpecialLane single read (format_at t) (layout_at t) mode x
    (with_special t.nonfinite d lane b c.args.nan c.args.payload)) (sym special)
    (special_converted single read (format_at t) (layout_at t) mode x c.args.payload lane is_single law t.lawful.implied
    t.lawful.digits word high past c.args.nan nan_is
    (payload_quiet t.precision (x % 2 ^ 23) c.args.payload t.lawful.precise t.lawful.digits it)) in
    rw (bits, ieee) it_is
