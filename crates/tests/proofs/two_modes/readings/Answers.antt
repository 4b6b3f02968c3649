use Rattle.rustc_apfloat.specs.FlaggedTypes.{format_of}
use Rattle.tests.proofs.TwoModes.{same_readings, reading_bounds}
use Rattle.tests.proofs.two_modes.readings.Goals as goal

pub returns-clause-in_mode : goal.returns-clause-in_mode
returns-clause-in_mode g c = c.from_str_r.ensures

pub returns-clause-in_other : goal.returns-clause-in_other
returns-clause-in_other g c = c.from_str_r-2.ensures

pub returns-clause-same : goal.returns-clause-same
returns-clause-same g c =
    same_readings (format_of g.S.Flagged) c.args.mode c.args.other c.args.text.now _ _ c.from_str_r.ensures
    c.from_str_r-2.ensures

pub returns-clause-bounds : goal.returns-clause-bounds
returns-clause-bounds g c =
    reading_bounds (format_of g.S.Flagged) c.args.mode c.args.other c.args.text.now _ _ c.from_str_r.ensures
    c.from_str_r-2.ensures
