-- The largest value of a format that has room for another, rounded to that other format: what is delivered past the
-- largest value, or, in the modes that do not lead out, the largest value.
use Rattle.std.proofs.Common.{◌≡◌, ℕ, ◌+◌, ◌-◌, ◌*◌, ◌%◌, ◌^◌, ◌<◌, ◌≤◌, ◌⊎◌, Bool, true, false, eqb, ltb, leb, cond}
use Rattle.std.proofs.Common.{sym, refl, ap, ◌∙◌, inl, inr, ⊎_elim, arith}
use Rattle.std.proofs.Math.Nat.{mul-le-mul_right, mul-le-mul_left, mul-pos, eq_of_mul-eq-mul_right}
use Rattle.std.proofs.lemmas.{Bool.cases_lt, Bool.lt-ltb, Bool.le-ltb, Bool.lt-leb, Nat.pow-add, Nat.pow_pos}
use Rattle.apfloat_model.specs.declared.kinds.Round.{Round, TheVariants.NearestTiesToEven, TheVariants.TowardPositive}
use Rattle.apfloat_model.specs.declared.kinds.Round.TheVariants.{TowardNegative, TowardZero, NearestTiesToAway}
use Rattle.apfloat_model.specs.formats.Format.{Format, smallest_normalized, largest, greatest_significand}
use Rattle.apfloat_model.specs.rounding.Enclosure.{IsEnclosed}
use Rattle.apfloat_model.specs.rounding.Rounding.{takes_above, IsPick, is_tiny, rounds_below_normal, leads_out}
use Rattle.apfloat_model.proofs.formats.Greatest.{greatest_fits, greatest_full}
use Rattle.apfloat_model.proofs.general.{Choices.either_false, Powers.twice_half, Powers.half_at_most}
use Rattle.apfloat_model.proofs.rounding.{FarMagnitudes.picks_past, Picks.inexact_pick, Picks.pick_unique}

-- near the upper neighbour, a mode takes it exactly if it leads out of the finite numbers
takes_out : (mode : Round) (negative odd : Bool) (x y : ℕ) → y < x
    → takes_above mode negative x y odd ≡ leads_out mode negative
takes_out NearestTiesToEven negative odd x y h = grind arith
takes_out TowardPositive negative odd x y h = refl
takes_out TowardNegative negative odd x y h = refl
takes_out TowardZero negative odd x y h = refl
takes_out NearestTiesToAway negative odd x y h = grind arith

-- the pick is past the largest value, or is the largest value, inexactly and in a mode that does not lead out
abbrev pub IsPickedAtEnd : Format → Round → Bool → ℕ → ℕ → ℕ → Type 0
IsPickedAtEnd g mode negative c d pick =
    (ltb (largest g) pick ≡ true) ⊎ ((leads_out mode negative ≡ false) × ((pick ≡ largest g) × (largest g * d < c)))

-- all digits set: U is their last place, and V that of the greatest significand of a coarser format, whose next point
-- is the same power of two
ends_alike : (p q U V : ℕ) → q + 2 ≤ p → 0 < U → 2 ^ p * U ≡ 2 ^ q * V → 4 * U ≤ V
ends_alike p q U V l pos e =
    let w = p - q - 2 in
    let a : 2 ^ p ≡ 2 ^ q * (2 ^ 2 * 2 ^ w) =
    ap (λ (x : ℕ). 2 ^ x) (omega arith) ∙ pow-add 2 q (2 + w) ∙ ap (λ (x : ℕ). 2 ^ q * x) (pow-add 2 2 w) in
    let f : V ≡ 4 * U * 2 ^ w = cancel (2 ^ q) V U (2 ^ w) (pow_pos q) (omega (arith, ap (λ (x : ℕ). x * U) a, e)) in
    omega (arith, mul-le-mul_left (4 * U) (pow_pos w), f)
  where
    cancel : (q V U w : ℕ) → 0 < q → q * V ≡ q * (4 * w) * U → V ≡ 4 * U * w
    cancel q V U w p e = eq_of_mul-eq-mul_right q p V (4 * U * w) (omega (arith, e))

-- the greatest magnitude of the finer format as a number of quanta of the coarser one, c / d: where it is past the
-- coarser format, and where it is just below the next point
picked_below : (g : Format) (mode : Round) (negative : Bool) (p c d pick U : ℕ) → 3 ≤ g.precision
    → g.precision + 2 ≤ p → 0 < d → 0 < U → c + U ≡ 2 ^ p * U → 2 ^ p * U ≡ 2 ^ g.precision * (2 ^ g.span * d)
    → IsPick g.precision mode negative c d pick → IsPickedAtEnd g mode negative c d pick
picked_below g mode negative p c d pick U precise more some pos all same x =
    let q : ℕ = g.precision in
    let V : ℕ = 2 ^ g.span * d in
    let half : ℕ = 2 ^ (q - 1) in
    let m : ℕ = 2 ^ q - 1 in
    let t : 2 * half ≡ 2 ^ q = twice_half q (omega arith) in
    let h : 0 < half = pow_pos (q - 1) in
    let r : m + 1 ≡ 2 ^ q = omega (arith, t, h) in
    let r' : (m + 1) * V ≡ 2 ^ q * V = ap (λ (z : ℕ). z * V) r in
    let w : 4 * U ≤ V = ends_alike p q U V more pos same in
    let i : IsEnclosed q half m g.span c d = record {
      double = sym t;
      fits = omega (arith, r);
      full = inr (omega (arith, t, h));
      from = omega (arith, r', w, all, same);
      to = omega (arith, r', w, all, same, pos);
    } in
    let above : m * 2 ^ g.span * d < c = omega (arith, r', w, all, same, pos) in
    let take : takes_above mode negative (c - m * 2 ^ g.span * d) ((m + 1) * 2 ^ g.span * d - c) (eqb (m % 2) 1)
    ≡ leads_out mode negative = takes_out mode negative (eqb (m % 2) 1) _ _ (omega (arith, r', w, all, same, pos)) in
    let e : pick ≡ cond (leads_out mode negative) (m + 1) m * 2 ^ g.span = pick_unique q mode negative c d pick _ x
    (inexact_pick q mode negative half m g.span c d (leads_out mode negative) i above take) in
    by_end (leads_out mode negative) (greatest_significand g.nonfinite q) m (2 ^ g.span) pick (pow_pos g.span)
    (omega (arith, r, greatest_fits g.nonfinite q)) e above
  where
    by_end : (out : Bool) (top m w pick : ℕ) → 0 < w → top ≤ m → pick ≡ cond out (m + 1) m * w → m * w * d < c
        → (ltb (top * w) pick ≡ true) ⊎ ((out ≡ false) × ((pick ≡ top * w) × (top * w * d < c)))
    by_end true top m w pick k l e s = inl (lt-ltb (top * w) pick (omega (arith, mul-le-mul_right w l, e, k)))
    by_end false top m w pick k l e s =
        let a : top * w ≤ m * w = mul-le-mul_right w l in
        let b : top * w * d ≤ m * w * d = mul-le-mul_right d a in
        ⊎_elim (λ (z : top * w < pick). inl (lt-ltb (top * w) pick z))
        (λ (z : pick ≤ top * w). inr ((refl, (omega (arith, a, e, z), omega (arith, b, s))))) (cases_lt (top * w) pick)

-- the largest value of a finer format with infinities, rounded to a format whose greatest exponent is not above
pub picked_at_end : (g : Format) (mode : Round) (negative : Bool) (p span scale pick : ℕ) → 3 ≤ g.precision
    → g.precision + 2 ≤ p → g.precision + g.span + scale ≤ p + span + g.scale
    → IsPick g.precision mode negative ((2 ^ p - 1) * 2 ^ span * 2 ^ g.scale) (2 ^ scale) pick
    → IsPickedAtEnd g mode negative ((2 ^ p - 1) * 2 ^ span * 2 ^ g.scale) (2 ^ scale) pick
picked_at_end g mode negative p span scale pick precise more within x =
    let q : ℕ = g.precision in
    let d : ℕ = 2 ^ scale in
    let U : ℕ = 2 ^ span * 2 ^ g.scale in
    let c : ℕ = (2 ^ p - 1) * 2 ^ span * 2 ^ g.scale in
    let pos : 0 < U = mul-pos (pow_pos span) (pow_pos g.scale) in
    let u : 2 ^ (p + span + g.scale) ≡ 2 ^ p * U =
    pow-add 2 (p + span) g.scale ∙ ap (λ (z : ℕ). z * 2 ^ g.scale) (pow-add 2 p span) ∙ omega arith in
    let v : 2 ^ (q + g.span + scale) ≡ 2 ^ q * (2 ^ g.span * d) =
    pow-add 2 (q + g.span) scale ∙ ap (λ (z : ℕ). z * d) (pow-add 2 q g.span) ∙ omega arith in
    let v' : 2 ^ (q + g.span) * d ≡ 2 ^ (q + g.span + scale) = sym (pow-add 2 (q + g.span) scale) in
    let two : 2 * 2 ^ 0 ≤ 2 ^ p = half_at_most 0 p (omega arith) in
    let r : (2 ^ p - 1) + 1 ≡ 2 ^ p = omega (arith, two) in
    let all : c + U ≡ 2 ^ p * U =
    let k : ((2 ^ p - 1) + 1) * U ≡ 2 ^ p * U = ap (λ (z : ℕ). z * U) r in omega (arith, k) in
    let most : 2 * U ≤ 2 ^ p * U = mul-le-mul_right U (omega (arith, two)) in
    ⊎_elim
    (λ (z : c < 2 ^ q * (2 ^ g.span * d)).
    let e : q + g.span + scale ≡ p + span + g.scale =
    ⊎_elim
    (λ (y : q + g.span + scale < p + span + g.scale).
    absurd (omega (arith, half_at_most (q + g.span + scale) (p + span + g.scale) y, u, v, z, all, most)))
    (λ (y : p + span + g.scale ≤ q + g.span + scale). omega arith)
    (cases_lt (q + g.span + scale) (p + span + g.scale)) in
    picked_below g mode negative p c d pick U precise more (pow_pos scale) pos all
    (sym u ∙ ap (λ (z : ℕ). 2 ^ z) (sym e) ∙ v) x)
    (λ (z : 2 ^ q * (2 ^ g.span * d) ≤ c).
    inl (picks_past g mode negative c d pick (omega arith)
    (record { some = pow_pos scale; from = omega (arith, z, v, v') }) x))
    (cases_lt c (2 ^ q * (2 ^ g.span * d)))

-- a magnitude above the largest value is not tiny
pub end_not_tiny : (g : Format) (mode : Round) (negative : Bool) (c d : ℕ) → 3 ≤ g.precision → largest g * d < c
    → is_tiny g mode negative c d (largest g) ≡ false
end_not_tiny g mode negative c d precise s =
    let q : ℕ = g.precision in
    let top : ℕ = greatest_significand g.nonfinite q in
    let half : ℕ = 2 ^ (q - 1) in
    let t : 2 * half ≡ 2 ^ q = twice_half q (omega arith) in
    let full : half ≤ top = greatest_full g.nonfinite q precise in
    let w : 1 ≤ 2 ^ g.span = pow_pos g.span in
    let a : top * 1 ≤ top * 2 ^ g.span = mul-le-mul_left top w in
    let b : half ≤ largest g = omega (arith, full, a) in
    let k : half * d ≤ largest g * d = mul-le-mul_right d b in
    let n : (2 ^ q) * d ≡ (2 * half) * d = ap (λ (z : ℕ). z * d) (sym t) in
    let o : (2 ^ q - 1) * d ≤ (2 ^ q) * d = mul-le-mul_right d (omega arith) in
    let one : ltb c (smallest_normalized g * d) ≡ false = le-ltb c (half * d) (omega (arith, k, s)) in
    let three : leb (2 * c) ((2 ^ q - 1) * d) ≡ false = lt-leb (2 * c) ((2 ^ q - 1) * d) (omega (arith, k, s, n, o)) in
    let four : ltb (2 * c) (2 ^ q * d) ≡ false = le-ltb (2 * c) (2 ^ q * d) (omega (arith, k, s, n)) in
    let below : rounds_below_normal q mode negative c d ≡ false = rw (three, four) refl in
    either_false g.tiny_before_rounding _ _ one (either_false g.ieee_flags _ _ below (le-ltb (largest g) half b))
