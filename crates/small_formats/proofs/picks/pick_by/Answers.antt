use Rattle.std.proofs.Common.{◌+◌, ◌*◌, ◌^◌, ℕ, cond, ap, ◌∙◌, subst, w32}
use Rattle.std.proofs.lemmas.Int.{to_z-of_z}
use Rattle.apfloat_model.specs.rounding.Standing.{StandsFor, up, down}
use Rattle.small_formats.proofs.PointPicks.{point_at}
use Rattle.small_formats.proofs.picks.pick_by.Goals as goal

-- nothing was lost before the cut
pub takes_next-moves-requires : goal.takes_next-moves-requires
takes_next-moves-requires c =
    subst (λ (n : ℕ). StandsFor n c.cut-kept.result.loss c.args.digits (2 ^ c.cut-kept.result.places * 1))
    c.cut-kept.ensures.quotient c.cut-kept.ensures.rest

pub returns : goal.returns
returns c = λ amount parts u h.
    let e = to_z-of_z w32 c.args.unit c.ranges.unit in
    let kept = c.cut-kept.result in
    let both = (rw e at c.cut-kept.ensures.cut) amount parts u h in
    point_at c.args.precision c.args.mode c.args.negative c.args.digits kept.places kept.significand kept.place
    amount parts (up c.args.unit) (down c.args.unit) c.moved_index.result kept.loss c.takes_next-moves.result
    c.is_exact.result c.requires.some u (rw e at c.cut-kept.ensures.places) c.cut-kept.ensures.quotient h both.0
    both.1 (rw c.index_of-below.ensures.value at c.takes_next-moves.ensures)
    (c.moved_index.ensures ∙ ap (λ (n : ℕ). cond c.takes_next-moves.result (n + 1) n) c.index_of-below.ensures.value)
    c.is_exact.ensures.yes c.is_exact.ensures.no
