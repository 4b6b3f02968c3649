use Rattle.std.proofs.Common.{◌∙◌, ℕ, Bool, true, ◌&&◌, ap, arith, pos}
use Rattle.apfloat_model.specs.whole_numbers.WholeNumbers.{inexact_unless}
use Rattle.apfloat_conversions.proofs.Limits.{same_number}
use Rattle.apfloat_conversions.proofs.integers.magnitude_within.Goals as goal

pub whole_of-requires : goal.whole_of-requires
whole_of-requires c = c.requires

pub returns-in-None-clause-limited : goal.returns-in-None-clause-limited
returns-in-None-clause-limited c =
    let i = rw c.in-None.is at c.whole_of.ensures in
    record {
      past = λ l. c.out_of_range.ensures;
      within = λ l. absurd (omega (arith, i, l));
    }

pub returns-in-None-clause-fits : goal.returns-in-None-clause-fits
returns-in-None-clause-fits c = let e = same_number _ _ c.out_of_range.ensures.number_is in omega (arith, e)

pub returns-in-Some-clause-limited : goal.returns-in-Some-clause-limited
returns-in-Some-clause-limited c =
    let i = rw c.in-Some.is at c.whole_of.ensures in
    let m = i.magnitude_is in
    record {
      past = λ l. c.within_limit.ensures.past (omega (arith, m, l));
      within =
          λ l. let g = c.within_limit.ensures.within (omega (arith, m, l)) in
          record {
            number_is = g.number_is ∙ ap (λ (k : ℕ). pos k) m;
            status_is = g.status_is ∙ ap (λ (e : Bool). inexact_unless e) i.exact_is;
            is_exact_is = g.is_exact_is ∙ ap (λ (e : Bool). e && true) i.exact_is;
          };
    }
