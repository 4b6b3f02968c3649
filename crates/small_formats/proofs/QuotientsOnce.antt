-- A quotient in a storage format has one answer.
use Rattle.std.proofs.Common.{ℕ, ◌+◌, ◌*◌, ◌^◌, ◌<◌}
use Rattle.std.proofs.{Math.Nat.mul-pos, Math.Nat.mul_comm, lemmas.Nat.pow_pos}
use Rattle.apfloat_model.specs.order.Classes.{is_negative, quanta_of}
use Rattle.small_formats.specs.{Quotients.IsQuotientOnce, Quotients.IsRatioOf, Storage.format_with}
use Rattle.small_formats.proofs.OneAnswer.{saturated_once}

pub quotient_once : IsQuotientOnce
quotient_once c f g mode x y code other status flags law l k some p q =
    let amount : ℕ = quanta_of x * 2 ^ (g.scale + (format_with c).scale) in
    let parts : ℕ = quanta_of y * 2 ^ f.scale in
    let above : 0 < parts = mul-pos some (pow_pos f.scale) in
    let ratio : IsRatioOf f g (format_with c) x y amount parts = mul_comm amount parts in
    saturated_once c mode (is_negative x) amount parts code other status flags law l k (p amount parts above ratio)
    (q amount parts above ratio)
