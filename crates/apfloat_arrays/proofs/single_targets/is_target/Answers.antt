use Rattle.std.proofs.Common.{Bool, true, false, ◌&&◌, refl}
use Rattle.std.specs.Prelude.{IsTrue}
use Rattle.std.proofs.lemmas.Bool.{false≢true}
use Rattle.rustc_apfloat.specs.FlaggedTypes.{constants_of}
use Rattle.apfloat_arrays.proofs.SingleTargets.{target_is}
use Rattle.apfloat_arrays.proofs.single_targets.is_target.Goals as goal

both : (a b : Bool) → IsTrue (a && b) → IsTrue a × IsTrue b
both true b t = (refl, t)
both false b t = absurd (false≢true t)

pub returns : goal.returns
returns g c = λ test.
    let last = both _ _ test in
    let first = both _ _ last.0 in
    let short = c.is_short.ensures first.0 in
    let exponents = c.has_exponents.ensures first.1 in
    target_is (constants_of g.T.Flagged) g.T.Flagged.lawful c.requires short.0 short.1 short.2 exponents.0 exponents.1
    (c.has_plain_rule.ensures last.1)
