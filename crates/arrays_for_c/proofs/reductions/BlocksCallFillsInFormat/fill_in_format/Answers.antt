use Rattle.std.proofs.Common.{Ok, Result, refl, subst}
use Rattle.rustc_apfloat.specs.{declared.StatusAnd.StatusAnd, Datum.Datum, FlaggedTypes.format_of}
use Rattle.exact_reductions.specs.{BlockDots.IsDotCall, declared.DotError.DotError}
use Rattle.arrays_for_c.proofs.reductions.BlocksCallFillsInFormat.fill_in_format.Goals as goal

pub returns-in-Ok : goal.returns-in-Ok
returns-in-Ok g c =
    let says = λ (m : Result (StatusAnd Datum) DotError).
    IsDotCall (format_of g.S.Flagged) c.args.self.round c.args.self.x c.args.self.y m in
    record {
      made = Ok c.in-Ok.made;
      is_made = subst says c.in-Ok.is c.dot_blocks_r.ensures;
      is_written = (refl, c.in_bits.ensures);
    }
