-- The law of a format as a test that can be computed: a format with literal constants proves its law by `refl`.
use Rattle.std.specs.Prelude.{◌≡◌, ◌+◌, ◌-◌, ◌^◌, ℤ, pos, ◌+ℤ◌, ◌-ℤ◌, ◌≤ℤ◌, neg_ℤ, Bool, true, not, ◌&&◌, ◌||◌}
use Rattle.std.specs.Prelude.{if◌then◌else◌, leb, eqb}
use Rattle.std.specs.{Ordering.int_eq, Cmp.signed_Decides}
use Rattle.std.proofs.Common.{inl, inr, ⊎_elim, subst, sym, T}
use Rattle.std.proofs.lemmas.Bool.{and_parts, or_cases, leb-true, eqb-true, not-true}
use Rattle.apfloat_model.specs.declared.kinds.NonfiniteBehavior.{NonfiniteBehavior}
use Rattle.apfloat_model.specs.declared.kinds.NonfiniteBehavior.TheVariants.{IEEE754, NanOnly, NanNegativeZero}
use Rattle.apfloat_model.specs.formats.Format.{nan_base_of, payload_mask_of, quiet_bits_of}
use Rattle.apfloat_model.specs.formats.Lawful.{Constants, HasNoBits, HasBits, MayBeExplicit, IsLawful, more_exponents}
use Rattle.apfloat_model.specs.rounding.Bounds.{format_bound}
use lib.Signed.{le_z, le_z_yes}

-- ---- each part of the law as a test

abbrev pub no_bits_test : Constants → Bool
no_bits_test c =
    eqb c.bits 0 && (eqb c.exp_bits 0 &&
    (int_eq c.ieee_min_exp (pos 0) && (int_eq c.ieee_max_exp (pos 0) && not c.explicit_integer_bit)))

abbrev pub bits_test : Constants → Bool
bits_test c =
    leb 1 c.exp_bits
    && (eqb c.bits (c.exp_bits + c.precision + (if c.explicit_integer_bit then 1 else 0)) && (leb c.bits 128
    && (int_eq c.ieee_min_exp (pos 2 -ℤ pos (2 ^ (c.exp_bits - 1))) && (int_eq c.ieee_max_exp (pos 1 -ℤ c.ieee_min_exp)
    && int_eq c.max_exp ((c.ieee_max_exp +ℤ (c.min_exp -ℤ c.ieee_min_exp)) +ℤ pos (more_exponents c.nonfinite))))))

abbrev pub may_be_explicit : NonfiniteBehavior → Bool → Bool
may_be_explicit IEEE754 explicit = true
may_be_explicit NanOnly explicit = not explicit
may_be_explicit NanNegativeZero explicit = not explicit

abbrev pub nans_test : Constants → Bool
nans_test c =
    eqb c.nan_significand_base (nan_base_of c.nonfinite c.precision)
    && (eqb c.nan_payload_mask (payload_mask_of c.nonfinite c.precision)
    && eqb c.qnan_significand (quiet_bits_of c.nonfinite c.explicit_integer_bit c.precision))

abbrev pub lawful_test : Constants → Bool
lawful_test c =
    leb 3 c.precision && (leb c.precision 125 && (le_z (neg_ℤ (pos format_bound)) c.min_exp
    && (le_z c.min_exp (neg_ℤ (pos 1)) && (le_z (pos c.precision) c.max_exp && (le_z c.max_exp (pos format_bound)
    && ((no_bits_test c || bits_test c) && (may_be_explicit c.nonfinite c.explicit_integer_bit && nans_test c)))))))

-- ---- what follows from a test that passes

at_most : (a b : ℤ) → le_z a b ≡ true → a ≤ℤ b
at_most a b e = le_z_yes (subst T (sym e) tt)

no_bits_from_test : (c : Constants) → no_bits_test c ≡ true → HasNoBits c
no_bits_from_test c e =
    let a = and_parts _ _ e in
    let b = and_parts _ _ a.1 in
    let d = and_parts _ _ b.1 in
    let f = and_parts _ _ d.1 in
    record {
      bits = eqb-true _ _ a.0;
      exp_bits = eqb-true _ _ b.0;
      ieee_min_exp = (signed_Decides _ _).0 d.0;
      ieee_max_exp = (signed_Decides _ _).0 f.0;
      implied = not-true _ f.1;
    }

bits_from_test : (c : Constants) → bits_test c ≡ true → HasBits c
bits_from_test c e =
    let a = and_parts _ _ e in
    let b = and_parts _ _ a.1 in
    let d = and_parts _ _ b.1 in
    let f = and_parts _ _ d.1 in
    let g = and_parts _ _ f.1 in
    record {
      exp_bits = leb-true _ _ a.0;
      bits = eqb-true _ _ b.0;
      bits_high = leb-true _ _ d.0;
      ieee_min_exp = (signed_Decides _ _).0 f.0;
      ieee_max_exp = (signed_Decides _ _).0 g.0;
      max_exp = (signed_Decides _ _).0 g.1;
    }

explicit_from_test : (kind : NonfiniteBehavior) (explicit : Bool) → may_be_explicit kind explicit ≡ true
    → MayBeExplicit kind explicit
explicit_from_test IEEE754 explicit e = tt
explicit_from_test NanOnly explicit e = not-true explicit e
explicit_from_test NanNegativeZero explicit e = not-true explicit e

-- constants that pass the test are lawful
pub lawful_from_test : (c : Constants) → lawful_test c ≡ true → IsLawful c
lawful_from_test c e =
    let a = and_parts _ _ e in
    let b = and_parts _ _ a.1 in
    let d = and_parts _ _ b.1 in
    let f = and_parts _ _ d.1 in
    let g = and_parts _ _ f.1 in
    let h = and_parts _ _ g.1 in
    let i = and_parts _ _ h.1 in
    let j = and_parts _ _ i.1 in
    let k = and_parts _ _ j.1 in
    let l = and_parts _ _ k.1 in
    record {
      parameters = record {
        precision_low = leb-true _ _ a.0;
        precision_high = leb-true _ _ b.0;
        min_exp_low = at_most _ _ d.0;
        min_exp_high = at_most _ _ f.0;
        max_exp_low = at_most _ _ g.0;
        max_exp_high = at_most _ _ h.0;
      };
      layout = ⊎_elim (λ p. inl (no_bits_from_test c p)) (λ p. inr (bits_from_test c p)) (or_cases _ _ i.0);
      explicit = explicit_from_test c.nonfinite c.explicit_integer_bit j.0;
      base = eqb-true _ _ k.0;
      mask = eqb-true _ _ l.0;
      quiet = eqb-true _ _ l.1;
    }
