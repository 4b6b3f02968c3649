use Rattle.std.proofs.Common.{◌≡◌, ◌≤◌, Bool, true, false, ◌&&◌, refl, arith}
use Rattle.std.specs.Prelude.{IsTrue}
use Rattle.std.proofs.lemmas.Bool.{eqb-true, false≢true, leb-true}
use Rattle.apfloat_arrays.proofs.short_sources.has_short_table.Goals as goal

both : (a b : Bool) → IsTrue (a && b) → IsTrue a × IsTrue b
both true b t = (refl, t)
both false b t = absurd (false≢true t)

pub returns : goal.returns
returns g c = λ test.
    let a = both _ _ test in
    let b = both _ _ a.0 in
    let d = both _ _ b.0 in
    let e = both _ _ d.0 in
    let f = both _ _ e.0 in
    let h = both _ _ f.0 in
    let few : c.BITS.result ≤ 32 = leb-true c.BITS.result 32 f.1 in
    let few_out : c.BITS-2.result ≤ 8 = leb-true c.BITS-2.result 8 d.1 in
    let one : c.args.widths.target ≡ 1 = eqb-true c.args.widths.target 1 a.1 in
    let source : g.S.Flagged.BITS ≤ 32 = omega (arith, few, c.BITS.ensures) in
    let target : g.T.Flagged.BITS ≤ 8 = omega (arith, few_out, c.BITS-2.ensures) in (
      record {
        short = c.is_short_for.ensures h.0;
        coarse = c.is_coarse_for.ensures h.1;
        source_bits = source;
        target_bits = target;
        source = c.has_width.ensures b.1;
        target = one;
      },
      c.pays.ensures e.1,
    )
