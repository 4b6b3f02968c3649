use Rattle.ieee_operations.proofs.augmented.products.twice_left.Goals as goal

pub returns : goal.returns
returns g c =
    record {
      double = c.scalbn-double.result;
      double_head = c.scalbn-double_head.result;
      is_double = c.scalbn-double.ensures;
      is_double_head = c.scalbn-double_head.ensures;
      is_left = rw c.neg.ensures at c.wide_mul_add_r.ensures;
    }
