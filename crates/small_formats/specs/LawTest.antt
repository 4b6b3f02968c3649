-- The law of a storage format as a test that can be computed: a format with literal constants proves its law by `refl`.
use Rattle.std.specs.Prelude.{◌≡◌, pos, neg_ℤ, Bool, true, ◌&&◌, leb, ltb}
use Rattle.std.proofs.Common.{subst, sym, T}
use Rattle.std.proofs.lemmas.Bool.{and_parts, leb-true, ltb-true}
use lib.Signed.{le_z, le_z_yes}
use Rattle.apfloat_model.specs.rounding.Bounds.{format_bound}
use Rattle.small_formats.specs.Storage.{StorageConstants, IsLawfulStorage}

abbrev pub lawful_test : StorageConstants → Bool
lawful_test c =
    leb 2 c.precision
    && (ltb c.precision c.bits
    && (leb c.bits 8
    && (le_z (neg_ℤ (pos format_bound)) c.min_exp
    && le_z c.min_exp (pos 0))))

-- constants that pass the test are lawful
pub lawful_from_test : (c : StorageConstants) → lawful_test c ≡ true → IsLawfulStorage c
lawful_from_test c e =
    let a = and_parts _ _ e in
    let b = and_parts _ _ a.1 in
    let d = and_parts _ _ b.1 in
    let f = and_parts _ _ d.1 in
    record {
      precision_low = leb-true _ _ a.0;
      exponent = ltb-true _ _ b.0;
      bits_high = leb-true _ _ d.0;
      min_exp_low = le_z_yes (subst T (sym f.0) tt);
      min_exp_high = le_z_yes (subst T (sym f.1) tt);
    }
