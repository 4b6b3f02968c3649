-- A significand and a loss that represent a square root determine how it is rounded.
use Rattle.std.proofs.Common.{◌≡◌, ℕ, ◌+◌, ◌*◌, ◌<◌, false, ap, subst, arith}
use Rattle.std.proofs.Math.Nat.{mul-lt-mul_of_pos_right, mul-pos}
use Rattle.apfloat_model.specs.declared.{kinds.Round.Round, loss.Loss.Loss}
use Rattle.apfloat_model.specs.declared.loss.Loss.TheVariants.{ExactlyZero, LessThanHalf, ExactlyHalf, MoreThanHalf}
use Rattle.apfloat_model.specs.{formats.Format.Format, formats.Datum.Datum, rounding.Rounding.IsDelivered}
use Rattle.apfloat_model.specs.{rounding.Standing.StandsFor, arithmetic.Roots.IsDeliveredRoot}
use Rattle.apfloat_model.proofs.arithmetic.RootSides.{AgreesWithRoot, coarser, agreeing}
use Rattle.apfloat_model.proofs.arithmetic.RootDeliveries.{root_delivered}
use Rattle.apfloat_words.specs.RootStanding.{RootStandsFor}

-- The unit is over / under quanta, and the root of `square` quanta is that of `radicand` units.
module _ (square radicand over under amount parts : ℕ) (some : 0 < over)
    (same : square * (under * under) ≡ radicand * (over * over))
    (agrees : AgreesWithRoot square (2 * under) amount parts) where
  -- n halves of a unit are on the same side of the fraction as of the root
  halves_less : (n : ℕ) → n * n < 4 * radicand → n * (parts * over) < 2 * (amount * under)
  halves_less n h =
      let p : 0 < over * over = mul-pos some some in
      let k : n * n * (over * over) < 4 * radicand * (over * over) = mul-lt-mul_of_pos_right h p in
      let l : (n * over) * (n * over) < square * (2 * under * (2 * under)) = omega arith in
      let r : n * over * parts < amount * (2 * under) = agrees.less (n * over) l in
      omega arith

  halves_same : (n : ℕ) → n * n ≡ 4 * radicand → n * (parts * over) ≡ 2 * (amount * under)
  halves_same n h =
      let k : n * n * (over * over) ≡ 4 * radicand * (over * over) = ap (λ (x : ℕ). x * (over * over)) h in
      let l : (n * over) * (n * over) ≡ square * (2 * under * (2 * under)) = omega arith in
      let r : n * over * parts ≡ amount * (2 * under) = agrees.same (n * over) l in
      omega arith

  halves_more : (n : ℕ) → 4 * radicand < n * n → 2 * (amount * under) < n * (parts * over)
  halves_more n h =
      let p : 0 < over * over = mul-pos some some in
      let k : 4 * radicand * (over * over) < n * n * (over * over) = mul-lt-mul_of_pos_right h p in
      let l : square * (2 * under * (2 * under)) < (n * over) * (n * over) = omega arith in
      let r : amount * (2 * under) < n * over * parts = agrees.more (n * over) l in
      omega arith

  -- a significand and a loss that represent the root also represent the fraction
  pub stands : (whole : ℕ) (loss : Loss) → RootStandsFor whole loss radicand
      → StandsFor whole loss (amount * under) (parts * over)
  stands whole ExactlyZero s =
      let k = halves_same (2 * whole) (omega (arith, s)) in omega (arith, k)
  stands whole LessThanHalf s =
      let a = s.0 in let b = s.1 in
      let k = halves_less (2 * whole) (omega (arith, a)) in
      let l = halves_more (2 * whole + 1) (omega (arith, b)) in
      (omega (arith, k), omega (arith, l))
  stands whole ExactlyHalf s =
      let k = halves_same (2 * whole + 1) (omega (arith, s)) in omega (arith, k)
  stands whole MoreThanHalf s =
      let a = s.0 in let b = s.1 in
      let k = halves_less (2 * whole + 1) (omega (arith, a)) in
      let l = halves_more (2 * (whole + 1)) (omega (arith, b)) in
      (omega (arith, k), omega (arith, l))

-- If each fraction that a significand and its loss represent is delivered as a value, the root that they represent is
-- delivered as that value. The unit is over / under quanta.
pub delivered_of_standing : (f : Format) (mode : Round) (square parts radicand over under whole : ℕ)
    (loss : Loss) (value : Datum) (status : ℕ) → 0 < parts → 0 < over → 0 < under
    → square * (under * under) ≡ radicand * ((over * parts) * (over * parts)) → RootStandsFor whole loss radicand
    → ((amount pieces : ℕ) → 0 < pieces → StandsFor whole loss (amount * under) (pieces * over)
    → IsDelivered f mode false amount pieces value status) → IsDeliveredRoot f mode square parts value status
delivered_of_standing f mode square parts radicand over under whole loss value status r p q e s delivered =
    let g = agreeing square (4 * under) (omega (arith, q)) in
    let d : 4 * under ≡ 2 * under * 2 = omega arith in
    let a : AgreesWithRoot square (2 * under) g.amount g.parts = coarser square (2 * under) 2 g.amount g.parts
    (omega arith) (subst (λ (x : ℕ). AgreesWithRoot square x g.amount g.parts) d g.agrees) in
    let b : AgreesWithRoot square 4 g.amount g.parts = coarser square 4 under g.amount g.parts q g.agrees in
    let h : StandsFor whole loss (g.amount * under) (g.parts * (over * parts)) =
    stands square radicand (over * parts) under g.amount g.parts (mul-pos p r) e a whole loss s in
    let c : g.parts * (over * parts) ≡ g.parts * parts * over = omega arith in
    root_delivered square parts g.amount g.parts b f mode value status
    (delivered g.amount (g.parts * parts) (mul-pos g.agrees.some r)
    (subst (λ (x : ℕ). StandsFor whole loss (g.amount * under) x) c h))
