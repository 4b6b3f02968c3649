-- 2 is a value of each format.
use Rattle.std.proofs.Common.{◌≡◌, ℕ, ◌*◌, ◌^◌, ◌<◌, ◌≤◌, Bool, ◌∙◌, arith, lit<}
use Rattle.std.proofs.{Math.Nat.pow-le-pow_right, lemmas.Nat.pow_pos}
use Rattle.apfloat_model.specs.declared.kinds.Round.TheVariants.{NearestTiesToEven}
use Rattle.apfloat_model.specs.formats.{Format.Format, Datum.Datum, Datum.finite}
use Rattle.apfloat_model.specs.rounding.Rounding.{IsDelivered, ok_bits}
use Rattle.apfloat_model.proofs.{formats.LawfulRanges.HasRanges, formats.Ranges.below_top, general.Powers.two_pos}
use Rattle.apfloat_model.proofs.{rounding.Deliveries.signed_some, rounding.Neighbours.multiple_on_grid}
use Rattle.apfloat_model.proofs.rounding.Laws.{delivered_once, exact_delivered}

pub two_delivered : (f : Format) (negative : Bool) (value : Datum) (status : ℕ) → HasRanges f
    → IsDelivered f NearestTiesToEven negative (2 * 2 ^ f.scale) 1 value status
    → value ≡ finite negative (2 * 2 ^ f.scale)
two_delivered f negative value status ranges delivered =
    let long : 2 ^ 3 ≤ 2 ^ f.precision = pow-le-pow_right two_pos ranges.precision_low in
    let few : 2 < 2 ^ f.precision = omega (arith, long) in
    let some : 0 < 2 * 2 ^ f.scale = let w = pow_pos f.scale in omega (arith, w) in
    (delivered_once f NearestTiesToEven negative (2 * 2 ^ f.scale) 1 value _ status ok_bits delivered
    (exact_delivered f NearestTiesToEven negative (2 * 2 ^ f.scale) (2 * 2 ^ f.scale) 1 (lit< tt)
    (multiple_on_grid f.precision 2 f.scale few) (below_top f 2 f.scale ranges.precision_low few ranges.scale)
    (omega arith))).0
    ∙ signed_some f.nonfinite negative (2 * 2 ^ f.scale) some
