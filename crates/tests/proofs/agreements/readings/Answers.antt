use Rattle.std.proofs.Common.{Result, Ok, Err, ap, sym, subst}
use Rattle.apfloat_model.specs.declared.{parse_error.ParseError.ParseError, status.StatusAnd.StatusAnd}
use Rattle.rustc_apfloat.specs.{declared.Round.TheVariants.NearestTiesToEven, Determined.AreOneReading}
use Rattle.rustc_apfloat.specs.Parsing.{without_status}
use Rattle.tests.specs.Agreements.{AreOneValue}
use Rattle.tests.proofs.agreements.readings.Goals as goal

value_of_reading : {A : Type 0} (answer other : Result (StatusAnd A) ParseError) → AreOneReading answer other
    → AreOneValue (without_status answer) other
value_of_reading (Ok r) (Ok s) e = ap (λ a. a.value) e
value_of_reading (Ok r) (Err e) h = absurd h
value_of_reading (Err e) (Ok r) h = absurd h
value_of_reading (Err e) (Err d) h = h

pub returns : goal.returns
returns g c =
    let t = g.met.F.Float in
    let parsed = t.read_law c.args.text.now c.parse.result c.parse.ensures.value in
    let one = (t.determined NearestTiesToEven).reading c.args.text.now parsed.0 c.from_str_r.result parsed.1
    c.from_str_r.ensures in
    subst (λ r. AreOneValue r c.from_str_r.result) (sym parsed.2) (value_of_reading parsed.0 c.from_str_r.result one)
