use Rattle.coded_calls.proofs.machine_operations.plain_of_two.Goals as goal

pub returns-in-Sum : goal.returns-in-Sum
returns-in-Sum g c = rw (c.in-Sum.is) c.sum_in.ensures

pub returns-in-Difference : goal.returns-in-Difference
returns-in-Difference g c = rw (c.in-Difference.is) c.difference_in.ensures

pub returns-in-Product : goal.returns-in-Product
returns-in-Product g c = rw (c.in-Product.is) c.product_in.ensures

pub returns-in-Quotient : goal.returns-in-Quotient
returns-in-Quotient g c = rw (c.in-Quotient.is) c.quotient_in.ensures

pub returns-in-NearestRemainder : goal.returns-in-NearestRemainder
returns-in-NearestRemainder g c = rw (c.in-NearestRemainder.is) c.nearest_remainder.ensures

pub returns-in-TruncatedRemainder : goal.returns-in-TruncatedRemainder
returns-in-TruncatedRemainder g c = rw (c.in-TruncatedRemainder.is) c.truncated_remainder.ensures
