use Rattle.std.proofs.Common.{refl, rules}
use Rattle.apfloat_model.specs.rounding.Flags.{bits_of}
use Rattle.ieee_operations.proofs.augmented.augmented.with_rounded_tail.Goals as goal

pub returns : goal.returns
returns g c =
    let tail = c.wide_mul_add_r-tail in
    record {
      head_is = rw c.and.ensures.value refl;
      tail_status = bits_of tail.result.status;
      tail_is = rw c.and.ensures.value (rw c.neg.ensures at tail.ensures);
      status_is = search rules;
    }
