-- The difference of near numbers, by the law of differences.
use Rattle.std.proofs.Common.{◌≡◌, ℕ, ap, sym, ◌∙◌}
use Rattle.std.proofs.Math.Path.{ap₂}
use Rattle.std.specs.Prelude.{◌-ℤ◌}
use Rattle.rustc_apfloat.specs.{Datum.Datum, Order.number, Rounding.ok_bits, Sums.IsNearby}
use Rattle.tests.specs.LawPremises.{AreNear}

pub near_number : (x y value : Datum) (status : ℕ) → AreNear x y → IsNearby x y value status
    → number value ≡ (number x -ℤ number y)
near_number x y value status n law =
    let exact = law n.left n.right n.left_is n.right_is n.some_left n.some_right n.few_left n.few_right in
    ap number exact.value_is ∙ exact.number_is ∙ sym (ap₂ (λ (i j : Datum). number i -ℤ number j) n.left_is n.right_is)

pub near_ok : (x y value : Datum) (status : ℕ) → AreNear x y → IsNearby x y value status → status ≡ ok_bits
near_ok x y value status n law =
    (law n.left n.right n.left_is n.right_is n.some_left n.some_right n.few_left n.few_right).status_is
