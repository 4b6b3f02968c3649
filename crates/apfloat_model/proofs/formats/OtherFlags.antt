-- The law of a format does not depend on its rule of flags.
use Rattle.std.proofs.Common.{Bool, inl, inr, ⊎_elim}
use Rattle.apfloat_model.specs.formats.Lawful.{Constants, HasNoBits, HasBits, IsLawful}

-- constants stay lawful with another rule of flags
pub other_flags : (c : Constants) (tiny ieee : Bool) → IsLawful c
    → IsLawful (record c { tiny_before_rounding = tiny; ieee_flags = ieee })
other_flags c tiny ieee l = record {
  parameters = l.parameters;
  layout =
      ⊎_elim
      (λ (n : HasNoBits c).
      inl (record {
        bits = n.bits;
        exp_bits = n.exp_bits;
        ieee_min_exp = n.ieee_min_exp;
        ieee_max_exp = n.ieee_max_exp;
        implied = n.implied;
      }))
      (λ (h : HasBits c).
      inr (record {
        exp_bits = h.exp_bits;
        bits = h.bits;
        bits_high = h.bits_high;
        ieee_min_exp = h.ieee_min_exp;
        ieee_max_exp = h.ieee_max_exp;
        max_exp = h.max_exp;
      }))
      l.layout;
  explicit = l.explicit;
  base = l.base;
  mask = l.mask;
  quiet = l.quiet;
}
