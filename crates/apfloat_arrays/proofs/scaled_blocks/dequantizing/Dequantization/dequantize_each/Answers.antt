use Rattle.std.proofs.Common.{ℕ, ◌*◌, ◌≤◌, refl, sym, subst}
use Rattle.formats_at_run_time.specs.FlaggedKinds.{flagged_constants, format_without_rule}
use Rattle.apfloat_arrays.specs.{declared.widths.Extended.TheVariants.Packed, Widths.width_of}
use Rattle.apfloat_arrays.specs.scaled_blocks.Dequantized.{AreDequantized}
use Rattle.apfloat_arrays.proofs.{WidthBounds.width_room, scaled_blocks_lemmas.Scaled.same_bits}
use Rattle.apfloat_arrays.proofs.scaled_blocks.dequantizing.Dequantization.dequantize_each.Goals as goal

pub returns-then-not-are_narrow : goal.returns-then-not-are_narrow
returns-then-not-are_narrow c = (c.are_narrow.ensures.no c.if-not-are_narrow.true, refl)

pub write-requires : goal.write-requires
write-requires c =
    let target = c.args.self.target in (
      c.requires.codes,
      c.requires.format,
      c.are_narrow.ensures.yes c.if-not-are_narrow.false,
      c.requires.values,
      subst (λ (w : ℕ). (flagged_constants target).bits ≤ 8 * w) (sym c.requires.width)
          (subst (λ (n : ℕ). n ≤ 8 * width_of (format_without_rule target) Packed) (same_bits target)
          (width_room (format_without_rule target) Packed).enough),
    )

pub returns : goal.returns
returns c = (
  c.are_narrow.ensures.yes c.if-not-are_narrow.false,
  subst (λ (w : ℕ). AreDequantized c.args.self (flagged_constants c.args.self.target) w c.args.scales.now
      c.args.codes.now c.write.new.bytes c.write.result) c.requires.width c.write.ensures,
)
