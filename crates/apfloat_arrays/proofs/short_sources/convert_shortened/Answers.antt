use Rattle.std.proofs.Common.{◌/◌, sym, subst, arith}
use Rattle.rustc_apfloat.specs.FlaggedTypes.{constants_of}
use Rattle.apfloat_arrays.specs.{declared.widths.Widths.Widths, ShortSources.AreShortened, Tasks.IsDone, Tasks.IsGiven}
use Rattle.apfloat_arrays.proofs.Tasks.{same_widths}
use Rattle.apfloat_arrays.proofs.short_sources.convert_shortened.Goals as goal

pub convert_with-requires-clause-short : goal.convert_with-requires-clause-short
convert_with-requires-clause-short g c =
    subst
    (λ (w : Widths). AreShortened (constants_of g.S.Flagged) (constants_of g.Z.Flagged) (constants_of g.T.Flagged) w)
    (same_widths c.args.widths (record { source = c.BITS.result / 8; target = 1 })
    (omega (arith, c.requires.short.source, c.BITS.ensures)) c.requires.short.target) c.requires.short

pub convert_with-requires-clause-given : goal.convert_with-requires-clause-given
convert_with-requires-clause-given g c =
    subst
    (λ (w : Widths). IsGiven (constants_of g.S.Flagged) (constants_of g.T.Flagged) c.args.task w c.args.output.now)
    (same_widths c.args.widths (record { source = c.BITS.result / 8; target = 1 })
    (omega (arith, c.requires.short.source, c.BITS.ensures)) c.requires.short.target) c.requires.given

pub returns : goal.returns
returns g c =
    subst
    (λ (w : Widths). IsDone (constants_of g.S.Flagged) (constants_of g.T.Flagged) c.args.task w
    c.convert_with.new.output c.convert_with.result)
    (sym (same_widths c.args.widths (record { source = c.BITS.result / 8; target = 1 })
    (omega (arith, c.requires.short.source, c.BITS.ensures)) c.requires.short.target)) c.convert_with.ensures
