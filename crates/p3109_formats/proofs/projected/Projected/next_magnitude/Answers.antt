use Rattle.std.proofs.Common.{arith, sym, subst, ℕ, ◌+◌, ◌<◌, ◌^◌}
use Rattle.p3109_formats.specs.Types.{projection_of}
use Rattle.p3109_formats.proofs.Neighbours.{past_fits}
use Rattle.p3109_formats.proofs.projected.Projected.next_magnitude.Goals as goal

pub of_code-requires : goal.of_code-requires
of_code-requires g c =
    subst (λ (n : ℕ). n + 1 < 2 ^ g.F.Projection.BITS) (sym c.self.view_is)
    (past_fits (projection_of g.F.Projection) c.args.self g.F.Projection.lawful c.magnitude.ensures.fits c.requires
    (λ e. omega (arith, e, c.magnitude.ensures.value, c.last_index.ensures, c.if-magnitude-last_index.true)))
