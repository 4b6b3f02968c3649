use Rattle.std.proofs.Common.{ap, sym, ◌∙◌, subst}
use Rattle.std.specs.Prelude.{negsuc}
use Rattle.small_formats.specs.Storage.{constants_with}
use Rattle.small_formats.specs.blocks.Elements.{e2m1fn, e2m3fn, e3m2fn}
use Rattle.apfloat_arrays.specs.declared.scaled_blocks.formats.BlockFormat.{BlockFormat, TheVariants.Mx}
use Rattle.apfloat_arrays.specs.scaled_blocks.Products.{IsCodedAs}
use Rattle.apfloat_arrays.proofs.scaled_blocks_lemmas.Elements.{coded_e2m1fn, coded_e2m3fn, coded_e3m2fn, coded_e4m3fn}
use Rattle.apfloat_arrays.proofs.scaled_blocks_lemmas.Elements.{coded_e5m2}
use Rattle.apfloat_arrays.proofs.scaled_blocks.dequantizing.ScaledCallWritesInFormat.write_in_format.Goals as goal

pub write_each-requires-clause-coded : goal.write_each-requires-clause-coded
write_each-requires-clause-coded g c =
    subst (λ (b : BlockFormat). IsCodedAs b (constants_with 8 3 (negsuc 13)) 123)
    (sym (c.in-Mx.is ∙ ap Mx c.in-E5M2.is)) coded_e5m2

pub write_each-requires-in-E4M3FN-clause-coded : goal.write_each-requires-in-E4M3FN-clause-coded
write_each-requires-in-E4M3FN-clause-coded g c =
    subst (λ (b : BlockFormat). IsCodedAs b (constants_with 8 4 (negsuc 5)) 126)
    (sym (c.in-Mx.is ∙ ap Mx c.in-E4M3FN.is)) coded_e4m3fn

pub write_each-requires-in-E3M2FN-clause-coded : goal.write_each-requires-in-E3M2FN-clause-coded
write_each-requires-in-E3M2FN-clause-coded g c =
    subst (λ (b : BlockFormat). IsCodedAs b e3m2fn 31) (sym (c.in-Mx.is ∙ ap Mx c.in-E3M2FN.is)) coded_e3m2fn

pub write_each-requires-in-E2M3FN-clause-coded : goal.write_each-requires-in-E2M3FN-clause-coded
write_each-requires-in-E2M3FN-clause-coded g c =
    subst (λ (b : BlockFormat). IsCodedAs b e2m3fn 31) (sym (c.in-Mx.is ∙ ap Mx c.in-E2M3FN.is)) coded_e2m3fn

pub write_each-requires-in-E2M1FN-clause-coded : goal.write_each-requires-in-E2M1FN-clause-coded
write_each-requires-in-E2M1FN-clause-coded g c =
    subst (λ (b : BlockFormat). IsCodedAs b e2m1fn 7) (sym (c.in-Mx.is ∙ ap Mx c.in-E2M1FN.is)) coded_e2m1fn
