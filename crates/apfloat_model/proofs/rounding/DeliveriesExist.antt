-- A result given outright exists, and so does each rounding, in every format of at least one digit.
use Rattle.std.proofs.Common.{ℕ, ◌*◌, ◌<◌, Bool, false, refl, lit<}
use Rattle.std.proofs.Math.Nat.{mul-pos}
use Rattle.apfloat_model.specs.{declared.kinds.Round.Round, formats.Format.Format, formats.Datum.Datum}
use Rattle.apfloat_model.specs.rounding.{Rounding.IsDelivered, Answer.IsAnswer, DeliveredRoots.IsDeliveredRoot}
use Rattle.apfloat_model.proofs.arithmetic.{RootSides.agreeing, RootDeliveries.root_delivered}
use Rattle.apfloat_model.proofs.rounding.Laws.{delivered_exists}

-- some value and some status satisfy the relation
abbrev pub HasAnswer : (Datum → ℕ → Type 0) → Type 0
HasAnswer Says = (value : Datum) × ((status : ℕ) × Says value status)

-- a result given outright exists: it is the given datum and status
pub answer_exists : (datum : Datum) (t : ℕ) → HasAnswer (IsAnswer datum t)
answer_exists d t = (d, (t, record { value_is = refl; status_is = refl }))

module _ (format : Format) (precise : 0 < format.precision) where
  -- each rounding has a result
  pub rounded_exists : (mode : Round) (negative : Bool) (amount parts : ℕ) → 0 < parts
      → HasAnswer (IsDelivered format mode negative amount parts)
  rounded_exists mode negative amount parts p = delivered_exists format mode negative amount parts precise p

  -- a root is rounded like a fraction that agrees with it, and there is one
  pub delivered_root_exists : (mode : Round) (square parts : ℕ) → 0 < parts
      → HasAnswer (IsDeliveredRoot format mode square parts)
  delivered_root_exists mode square parts p =
      let g = agreeing square 4 (lit< tt) in
      let r = rounded_exists mode false g.amount (g.parts * parts) (mul-pos g.agrees.some p) in
      (r.0, (r.1.0, root_delivered square parts g.amount g.parts g.agrees format mode r.0 r.1.0 r.1.1))
