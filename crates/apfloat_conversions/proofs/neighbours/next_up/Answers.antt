use Rattle.std.proofs.Common.{refl}
use Rattle.apfloat_conversions.proofs.neighbours.next_up.Goals.{then-x, else-x}
use Rattle.apfloat_conversions.proofs.neighbours.next_up.Goals as goal

pub next_of_number-requires : goal.next_of_number-requires
next_of_number-requires c = rw c.in-Normal.is at c.requires

pub next_of_nan-requires-clause-stored : goal.next_of_nan-requires-clause-stored
next_of_nan-requires-clause-stored c = c.requires

pub next_of_nan-requires-clause-nan : goal.next_of_nan-requires-clause-nan
next_of_nan-requires-clause-nan c = c.in-NaN.is

pub returns-in-Normal-clause-stored : goal.returns-in-Normal-clause-stored
returns-in-Normal-clause-stored c = rw c.and.ensures.value c.next_of_number.ensures.stored

pub returns-in-NaN-clause-stored : goal.returns-in-NaN-clause-stored
returns-in-NaN-clause-stored c = c.next_of_nan.ensures.stored

pub returns-in-NaN-clause-next : goal.returns-in-NaN-clause-next
returns-in-NaN-clause-next c = c.next_of_nan.ensures.next

pub returns-after-x-clause-next : goal.returns-after-x-clause-next
returns-after-x-clause-next c = elim c.if-x.branch [
  | then-x w ↦ rw (
    c.and-in-Infinity.ensures.value,
    c.and-in-Infinity.ensures.status,
    w.and-is,
    c.in-Infinity.is,
    w.if-x.true,
  ) (record { value_is = w.largest_of.ensures.datum; status_is = refl })
  | else-x w ↦ rw (
    c.and-in-Infinity.ensures.value,
    c.and-in-Infinity.ensures.status,
    w.and-is,
    c.in-Infinity.is,
    w.if-x.false,
  ) (record { value_is = refl; status_is = refl })
]
