-- OVERFLOW and UNDERFLOW are raised only together with INEXACT, by each operation that delivers in another format.
use Rattle.apfloat_model.specs.formats.Format.{Format}
use Rattle.apfloat_model.proofs.Outcomes.{yields_together}
use Rattle.apfloat_arithmetic.specs.other_formats.Extended.{seen, opposite}
use Rattle.apfloat_arithmetic.specs.other_formats.RaisedFlags.{FormatOfFlagsGoTogether}
use Rattle.apfloat_arithmetic.proofs.other_formats_lemmas.SoundOutcomes.{sum_sound, product_sound, quotient_sound}
use Rattle.apfloat_arithmetic.proofs.other_formats_lemmas.SoundOutcomes.{fused_sum_sound, root_sound}

pub raise_together : (g : Format) → FormatOfFlagsGoTogether g
raise_together g =
    record {
      sum = λ f h mode x y. yields_together g mode _ (sum_sound g (seen f g x) (seen h g y));
      difference = λ f h mode x y. yields_together g mode _ (sum_sound g (seen f g x) (opposite (seen h g y)));
      product = λ f h mode x y. yields_together g mode _ (product_sound g (seen f g x) (seen h g y));
      quotient = λ f h mode x y. yields_together g mode _ (quotient_sound g (seen f g x) (seen h g y));
      fused_sum = λ f h k mode x y z.
          yields_together g mode _ (fused_sum_sound g (seen f g x) (seen h g y) (seen k g z));
      root = λ f mode x. yields_together g mode _ (root_sound g (seen f g x));
    }
