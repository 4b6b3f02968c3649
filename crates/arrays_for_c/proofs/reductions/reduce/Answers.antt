use Rattle.std.proofs.Common.{◌≡◌, ℕ, ◌*◌, ◌/◌, length, sym, ◌∙◌, subst}
use Rattle.formats_at_run_time.specs.{FlaggedKinds.flagged_kind_coded, Modes.mode_coded}
use Rattle.arrays_for_c.proofs.ExactSums.{reduced_call, reducible, reduction_is_known}
use Rattle.arrays_for_c.proofs.reductions.reduce.Goals as goal

pub write-requires : goal.write-requires
write-requires c =
    let known = reduction_is_known (flagged_kind_coded c.args.format) (mode_coded c.args.mode) (length c.args.xs.now)
    (length c.args.ys.now) c.in-Ok.call
    (sym c.known_reduction-known.ensures ∙ c.in-Ok.is) in
    let width_is = c.bytes_in-width.ensures.is in
    let whole : length c.args.xs.now ≡ length c.args.xs.now / c.bytes_in-width.result * c.bytes_in-width.result =
    subst (λ (w : ℕ). length c.args.xs.now ≡ length c.args.xs.now / w * w) (sym width_is) known.whole in
    (reducible c.in-Ok.call.format, c.bytes_in-width.ensures.greatest, whole, known.same ∙ whole)

pub returns-in-Ok : goal.returns-in-Ok
returns-in-Ok c =
    reduced_call c.args.reduction _ c.in-Ok.call c.bytes_in-width.result c.args.xs.now c.args.ys.now c.args.answer.now
    _ c.bytes_in-width.ensures.is (sym c.known_reduction-known.ensures ∙ c.in-Ok.is) c.write.ensures
