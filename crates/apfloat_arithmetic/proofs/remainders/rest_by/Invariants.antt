use Rattle.std.proofs.Common.{◌-◌, ◌≡◌, ◌+◌, ◌/◌, ◌%◌, ◌^◌, ◌<◌, ◌≤◌, ◌⊎◌, count_ones}
use Rattle.apfloat_arithmetic.specs.Magnitudes.{units_of}
use Rattle.apfloat_arithmetic.proofs.remainders.rest_by.Given as goal

abbrev pub invariant-loop-rest : goal.invariant-loop-rest
invariant-loop-rest l = record {
  above : l.y.place ≤ l.rest.place;
  fits : l.rest.significand < 2 ^ l.precision;
  full : (l.rest.place ≡ l.y.place) ⊎ (2 ^ (l.precision - 1) ≤ l.rest.significand);
  left : units_of l.rest % units_of l.y ≡ units_of l.fn.x % units_of l.y;
  counted : l.steps + count_ones (units_of l.rest / units_of l.y) ≡ count_ones (units_of l.fn.x / units_of l.y);
}

abbrev pub decreases-loop-rest : goal.decreases-loop-rest
decreases-loop-rest l = units_of l.rest
