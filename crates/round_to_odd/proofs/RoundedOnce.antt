-- A result rounded to odd, and rounded again to a format for which there is room, is rounded once.
use Rattle.std.proofs.Common.{◌≡◌, ℕ, ◌+◌, ◌-◌, ◌*◌, ◌^◌, ◌<◌, ◌≤◌, Bool, true, false, ◌||◌, eqb, ltb, cond}
use Rattle.std.proofs.Common.{if◌then◌else◌, sym, refl, ap, ◌∙◌, subst, inl, inr, ⊎_elim, arith}
use Rattle.std.proofs.Math.Nat.{mul-le-mul_right, mul-pos, eq_of_mul-eq-mul_right, pow-le-pow_right}
use Rattle.std.proofs.lemmas.Bool.{cases_lt, cases_eq, lt-ltb, le-ltb, ne_eqb, eq-eqb, MatchBool-at_false}
use Rattle.std.proofs.lemmas.Nat.{pow-add, pow_pos}
use Rattle.apfloat_model.specs.{declared.status.StatusAnd.StatusAnd, formats.Format.Format}
use Rattle.apfloat_model.specs.declared.kinds.Round.{Round, TheVariants.TowardZero}
use Rattle.apfloat_model.specs.declared.kinds.NonfiniteBehavior.{NonfiniteBehavior, TheVariants.IEEE754}
use Rattle.apfloat_model.specs.formats.{Format.largest, Format.greatest_significand, Datum.Datum, Datum.finite}
use Rattle.apfloat_model.specs.rounding.{Flags.Gives, Flags.bits_of, Grid.IsOnGrid, Grid.IsBelow, Grid.IsAbove}
use Rattle.apfloat_model.specs.rounding.{Standing.reads_halves, Rounding.IsDelivered, Rounding.is_tiny}
use Rattle.apfloat_model.specs.rounding.Rounding.{delivered_value, delivered_status, leads_out, raises_overflow}
use Rattle.apfloat_model.specs.arithmetic.Conversions.{IsConversion, IsConvertedNumber}
use Rattle.apfloat_model.proofs.{formats.Greatest.greatest_some, rounding.Deliveries.signed_some}
use Rattle.apfloat_model.proofs.general.{Choices.not_zero, Powers.two_pos, Powers.twice_half}
use Rattle.apfloat_model.proofs.rounding.{Neighbours.none_between, ModesAgree.pick_on_grid}
use Rattle.apfloat_model.proofs.rounding.FarMagnitudes.{IsFarAbove, picks_past, power_on_grid}
use Rattle.apfloat_model.proofs.rounding.Laws.{zero_on_grid, delivered_exists, below_le_above}
use Rattle.round_to_odd.specs.Odd.{IsToOdd, is_odd_below, odd_between}
use Rattle.round_to_odd.specs.Again.{joined, IsRoundedAgain, HasRoomFor, IsRoundedOnce}
use Rattle.round_to_odd.proofs.{OddPoints.twice_on_grid, Sides.same_sides, SameDeliveries.same_delivered}
use Rattle.round_to_odd.proofs.OddPoints.{AgreesAtEven, odd_agrees, odd_on_grid, wider_grid, moved_on_grid}
use Rattle.round_to_odd.proofs.PastLargest.{IsPickedAtEnd, picked_at_end, end_not_tiny}

-- ---- flags

-- an exact first result adds no flag
joined_exact : (past over exact tiny : Bool)
    → joined (if past then (if over then 20 else 16) else (if exact then 0 else (if tiny then 24 else 16))) 0
    ≡ (if past then (if over then 20 else 16) else (if exact then 0 else (if tiny then 24 else 16)))
joined_exact true true exact tiny = refl
joined_exact true false exact tiny = refl
joined_exact false over true tiny = refl
joined_exact false over false true = refl
joined_exact false over false false = refl

-- an inexact one adds no flag if the second is inexact too
joined_inexact : (past over exact tiny first : Bool) → exact ≡ false
    → joined (if past then (if over then 20 else 16) else (if exact then 0 else (if tiny then 24 else 16)))
    (if first then 24 else 16)
    ≡ (if past then (if over then 20 else 16) else (if exact then 0 else (if tiny then 24 else 16)))
joined_inexact true true exact tiny true e = refl
joined_inexact true true exact tiny false e = refl
joined_inexact true false exact tiny true e = refl
joined_inexact true false exact tiny false e = refl
joined_inexact false over true tiny first e = cc
joined_inexact false over false true true e = refl
joined_inexact false over false true false e = refl
joined_inexact false over false false true e = refl
joined_inexact false over false false false e = refl

-- two overflows
joined_past : (ieee out : Bool)
    → joined (if ieee || out then 20 else 16) (if ieee || false then 20 else 16) ≡ (if ieee || out then 20 else 16)
joined_past true out = refl
joined_past false true = refl
joined_past false false = refl

-- an overflow of the first alone, in a mode that does not lead out
joined_at_end : (ieee out : Bool) → out ≡ false
    → joined 16 (if ieee || false then 20 else 16) ≡ (if ieee || out then 20 else 16)
joined_at_end true out e = refl
joined_at_end false true e = cc
joined_at_end false false e = refl

-- ---- a first result within the format

-- the odd neighbour of a magnitude whose lower neighbour is within the format is within it
odd_within : (f : Format) (below above amount parts : ℕ) → f.nonfinite ≡ IEEE754 → 3 ≤ f.precision → 0 < parts
    → IsBelow f.precision below amount parts → IsAbove f.precision above amount parts
    → AgreesAtEven (f.precision - 1) amount parts (odd_between below above) → below ≤ largest f
    → odd_between below above ≤ largest f
odd_within f below above amount parts kind precise some x y a l =
    let p : ℕ = f.precision in
    let half : ℕ = 2 ^ (p - 1) in
    let t : 2 * half ≡ 2 ^ p = twice_half p (omega arith) in
    let h : 0 < half = pow_pos (p - 1) in
    let m : ℕ = 2 ^ p - 1 in
    let r : m + 1 ≡ 2 ^ p = omega (arith, t, h) in
    let top : largest f ≡ m * 2 ^ f.span = ap (λ (k : NonfiniteBehavior). greatest_significand k p * 2 ^ f.span) kind in
    let n : ℕ = 2 ^ (p - 1 + f.span) in
    let n' : 2 * n ≡ (m + 1) * 2 ^ f.span =
    let e : n ≡ half * 2 ^ f.span = pow-add 2 (p - 1) f.span in
    let k : (2 * half) * 2 ^ f.span ≡ (m + 1) * 2 ^ f.span = ap (λ (z : ℕ). z * 2 ^ f.span) (t ∙ sym r) in
    omega (arith, e, k) in
    let g : IsOnGrid (p - 1) n = power_on_grid (p - 1) (p - 1 + f.span) (omega arith) in
    let w : 0 < 2 ^ f.span = pow_pos f.span in
    let under : amount < 2 * n * parts =
    ⊎_elim (λ (z : amount < 2 * n * parts). z)
    (λ (z : 2 * n * parts ≤ amount).
    let k : 2 * n ≤ below =
    x.greatest (2 * n) (wider_grid (p - 1) p (2 * n) (omega arith) (twice_on_grid (p - 1) n g)) z in
    absurd (omega (arith, k, l, top, n', w)))
    (cases_lt amount (2 * n * parts)) in
    ⊎_elim
    (λ (z : m * 2 ^ f.span < odd_between below above).
    let k : (m + 1) * 2 ^ f.span ≤ odd_between below above =
    none_between p half m f.span (odd_between below above) (sym t) (inr (omega (arith, t, h)))
    (odd_on_grid p below above amount parts x y) z in
    absurd (omega (arith, k, a.more n g under, n')))
    (λ (z : odd_between below above ≤ m * 2 ^ f.span). omega (arith, z, top))
    (cases_lt (m * 2 ^ f.span) (odd_between below above))

-- the room of a quarter, at least
two_places : (test : Bool) (coarse finer : ℕ) → coarse + (if test then 3 else 2) ≤ finer → coarse + 2 ≤ finer
two_places true coarse finer h = omega (arith, h)
two_places false coarse finer h = h

-- what is delivered for `point`, a magnitude rounded to odd in f, is delivered for the magnitude too
pub delivered_once_more : (f g : Format) (mode : Round) (negative : Bool) (amount parts point : ℕ) (value : Datum)
    (status : ℕ) → 3 ≤ g.precision → HasRoomFor g f → AgreesAtEven (f.precision - 1) amount parts point
    → IsDelivered g mode negative (point * 2 ^ g.scale) (2 ^ f.scale) value status
    → IsDelivered g mode negative (amount * 2 ^ g.scale) (parts * 2 ^ f.scale) value status
delivered_once_more f g mode negative amount parts point value status precise room a d =
    let digits : g.precision + 1 ≤ f.precision - 1 = let l = room.digits in omega (arith, l) in
    same_delivered g (amount * 2 ^ g.scale) (parts * 2 ^ f.scale) (point * 2 ^ g.scale) (2 ^ f.scale)
    (same_sides (g.precision + 1) (f.precision - 1) g.scale f.scale 1 amount parts point digits
    (let k = two_places (reads_halves g) g.scale f.scale room.quantum in omega (arith, k)) a)
    (λ h. same_sides (g.precision + 1) (f.precision - 1) g.scale f.scale 2 amount parts point digits
    (let k : g.scale + 3 ≤ f.scale =
    subst (λ (t : Bool). g.scale + (if t then 3 else 2) ≤ f.scale) h room.quantum in omega (arith, k)) a)
    (omega arith) mode negative value status (pow_pos f.scale) d

-- a magnitude that is not a value of the finer format is not one of the coarser format
inexact_too : (f g : Format) (below amount parts pick : ℕ) → HasRoomFor g f → 0 < parts
    → IsBelow f.precision below amount parts → (below * parts ≡ amount → ⊥) → IsOnGrid g.precision pick
    → eqb (pick * (parts * 2 ^ f.scale)) (amount * 2 ^ g.scale) ≡ false
inexact_too f g below amount parts pick room some x n o =
    ne_eqb (pick * (parts * 2 ^ f.scale)) (amount * 2 ^ g.scale)
    (λ e.
    let k = two_places (reads_halves g) g.scale f.scale room.quantum in
    let w = f.scale - g.scale in
    let s : 2 ^ f.scale ≡ 2 ^ w * 2 ^ g.scale =
    ap (λ (z : ℕ). 2 ^ z) (omega arith) ∙ pow-add 2 w g.scale in
    let e' : pick * (parts * (2 ^ w * 2 ^ g.scale)) ≡ amount * 2 ^ g.scale =
    subst (λ (z : ℕ). pick * (parts * z) ≡ amount * 2 ^ g.scale) s e in
    let r : pick * 2 ^ w * parts ≡ amount =
    eq_of_mul-eq-mul_right (2 ^ g.scale) (pow_pos g.scale) (pick * 2 ^ w * parts) amount (omega (arith, e')) in
    let d : g.precision ≤ f.precision = let l = room.digits in omega (arith, l) in
    let b : pick * 2 ^ w ≤ below =
    x.greatest (pick * 2 ^ w)
    (wider_grid g.precision f.precision (pick * 2 ^ w) d (moved_on_grid g.precision pick w o)) (omega (arith, r)) in
    n (omega (arith, mul-le-mul_right parts b, x.not_above, r)))

-- the flags of the first result add none to those of the second
flags_once : (f g : Format) (mode : Round) (negative : Bool) (amount parts below pick again first : ℕ) → HasRoomFor g f
    → 0 < parts → IsBelow f.precision below amount parts → below ≤ largest f → IsOnGrid g.precision pick
    → again ≡ delivered_status g mode negative (amount * 2 ^ g.scale) (parts * 2 ^ f.scale) pick
    → first ≡ delivered_status f TowardZero negative amount parts below → joined again first ≡ again
flags_once f g mode negative amount parts below pick again first room some x l o e d =
    let a : ℕ = amount * 2 ^ g.scale in
    let b : ℕ = parts * 2 ^ f.scale in
    let within : ltb (largest f) below ≡ false = le-ltb (largest f) below l in
    let kept : first
    ≡ (if eqb (below * parts) amount then 0 else (if is_tiny f TowardZero negative amount parts below then 24 else 16))
    = d ∙ rw within refl in
    ap (λ (z : ℕ). joined z first) e ∙
    ⊎_elim
    (λ (q : below * parts ≡ amount).
    let none : first ≡ 0 = kept ∙ rw (eq-eqb (below * parts) amount q) refl in
    ap (λ (z : ℕ). joined (delivered_status g mode negative a b pick) z) none
    ∙ joined_exact (ltb (largest g) pick) (raises_overflow g mode negative) (eqb (pick * b) a)
    (is_tiny g mode negative a b pick))
    (λ (q : below * parts ≡ amount → ⊥).
    let lost : first ≡ (if is_tiny f TowardZero negative amount parts below then 24 else 16) =
    kept ∙ rw (ne_eqb (below * parts) amount q) refl in
    ap (λ (z : ℕ). joined (delivered_status g mode negative a b pick) z) lost
    ∙ joined_inexact (ltb (largest g) pick) (raises_overflow g mode negative) (eqb (pick * b) a)
    (is_tiny g mode negative a b pick) (is_tiny f TowardZero negative amount parts below)
    (inexact_too f g below amount parts pick room some x q o))
    (cases_eq (below * parts) amount) ∙ sym e

-- ---- a first result past the largest value

-- both neighbours of the magnitude are past the largest value of the finer format, so the magnitude is past all
far_magnitude : (f g : Format) (below amount parts : ℕ) → 3 ≤ g.precision → HasRoomFor g f → 0 < parts
    → IsBelow f.precision below amount parts → largest f < below
    → IsFarAbove g (amount * 2 ^ g.scale) (parts * 2 ^ f.scale)
far_magnitude f g below amount parts precise room some x h =
    let p : ℕ = f.precision in
    let half : ℕ = 2 ^ (p - 1) in
    let more = room.digits in
    let t : 2 * half ≡ 2 ^ p = twice_half p (omega arith) in
    let pos : 0 < half = pow_pos (p - 1) in
    let m : ℕ = 2 ^ p - 1 in
    let r : m + 1 ≡ 2 ^ p = omega (arith, t, pos) in
    let top : largest f ≡ m * 2 ^ f.span =
    ap (λ (k : NonfiniteBehavior). greatest_significand k p * 2 ^ f.span) room.kind in
    let k : (m + 1) * 2 ^ f.span ≤ below =
    none_between p half m f.span below (sym t) (inr (omega (arith, t, pos))) x.on_grid (omega (arith, top, h)) in
    let r' : (m + 1) * 2 ^ f.span ≡ 2 ^ (p + f.span) = ap (λ (z : ℕ). z * 2 ^ f.span) r ∙ sym (pow-add 2 p f.span) in
    let a : 2 ^ (p + f.span) * parts ≤ below * parts = mul-le-mul_right parts (omega (arith, k, r')) in
    let b : 2 ^ (p + f.span) * parts * 2 ^ g.scale ≤ amount * 2 ^ g.scale =
    mul-le-mul_right (2 ^ g.scale) (omega (arith, a, x.not_above)) in
    let c : 2 ^ (g.precision + g.span + f.scale) ≤ 2 ^ (p + f.span + g.scale) =
    pow-le-pow_right two_pos room.exponents in
    let c' : 2 ^ (g.precision + g.span) * 2 ^ f.scale ≤ 2 ^ (p + f.span) * 2 ^ g.scale =
    let v = pow-add 2 (p + f.span) g.scale in omega (arith, c, pow-add 2 (g.precision + g.span) f.scale, v) in
    record { some = mul-pos some (pow_pos f.scale); from = omega (arith, b, mul-le-mul_right parts c') }

-- the value and the flags that are delivered for the largest value, together with the flags of the first overflow, are
-- those of any magnitude past all values
end_alike : (g : Format) (mode : Round) (negative : Bool) (c d a b p e again first : ℕ) (value : Datum) (ieee : Bool)
    → 3 ≤ g.precision → ieee ≡ g.ieee_flags → IsPickedAtEnd g mode negative c d p → ltb (largest g) e ≡ true
    → value ≡ delivered_value g mode negative p → again ≡ delivered_status g mode negative c d p
    → first ≡ (if ieee || false then 20 else 16)
    → (value ≡ delivered_value g mode negative e) × (joined again first ≡ delivered_status g mode negative a b e)
end_alike g mode negative c d a b p e again first value ieee precise same (inl past) far v s t =
    let s' : again ≡ (if g.ieee_flags || leads_out mode negative then 20 else 16) = s ∙ rw past refl in
    let t' : first ≡ (if g.ieee_flags || false then 20 else 16) =
    t ∙ ap (λ (z : Bool). if z || false then 20 else 16) same in (
      v ∙ rw (past, far) refl,
      ap (λ (z : ℕ). joined z first) s'
          ∙ ap (λ (z : ℕ). joined (if g.ieee_flags || leads_out mode negative then 20 else 16) z) t'
          ∙ joined_past g.ieee_flags (leads_out mode negative) ∙ rw far refl,
    )
end_alike g mode negative c d a b p e again first value ieee precise same (inr h) far v s t =
    let out = h.0 in
    let is : p ≡ largest g = h.1.0 in
    let above = h.1.1 in
    let within : ltb (largest g) (largest g) ≡ false = le-ltb (largest g) (largest g) (omega arith) in
    let some : 0 < largest g = mul-pos (greatest_some g.nonfinite g.precision precise) (pow_pos g.span) in
    let zero : eqb (largest g) 0 ≡ false = not_zero (largest g) some in
    let inexact : eqb (largest g * d) c ≡ false = ne_eqb (largest g * d) c (λ z. omega (arith, z, above)) in
    let big : is_tiny g mode negative c d (largest g) ≡ false = end_not_tiny g mode negative c d precise above in
    let v' : value ≡ finite negative (largest g) =
    v ∙ ap (λ (z : ℕ). delivered_value g mode negative z) is ∙ rw (within, zero) refl in
    let s' : again ≡ 16 =
    s ∙ ap (λ (z : ℕ). delivered_status g mode negative c d z) is ∙ rw (within, inexact, big) refl in
    let t' : first ≡ (if g.ieee_flags || false then 20 else 16) =
    t ∙ ap (λ (z : Bool). if z || false then 20 else 16) same in (
      v' ∙ rw (far, out) refl,
      ap (λ (z : ℕ). joined z first) s' ∙ ap (λ (z : ℕ). joined 16 z) t'
          ∙ joined_at_end g.ieee_flags (leads_out mode negative) out ∙ rw far refl,
    )

-- ---- the theorem

-- the conversion of a nonzero number is its rounding
number_rounded : (f g : Format) (mode : Round) (negative : Bool) (n : ℕ) (first value : Datum) (again : ℕ)
    (loses : Bool) → 0 < n → first ≡ finite negative n → IsConversion f g mode first value again loses
    → IsDelivered g mode negative (n * 2 ^ g.scale) (2 ^ f.scale) value again
number_rounded f g mode negative n first value again loses some is x =
    let y : IsConversion f g mode (finite negative n) value again loses =
    subst (λ (z : Datum). IsConversion f g mode z value again loses) is x in
    let z : IsConvertedNumber f g mode negative n value again loses = MatchBool-at_false _ _ (not_zero n some) y in
    z.is_delivered

past_once : (f g : Format) (mode : Round) (negative : Bool) (amount parts : ℕ) (first answer : StatusAnd Datum)
    → 3 ≤ g.precision → HasRoomFor g f → 0 < parts → (odd : Gives (IsToOdd f negative amount parts) first)
    → Gives (IsRoundedAgain f g mode first) answer → largest f < odd.below
    → Gives (IsDelivered g mode negative (amount * 2 ^ g.scale) (parts * 2 ^ f.scale)) answer
past_once f g mode negative amount parts first answer precise room some odd second h =
    let more = room.digits in
    let p : ℕ = f.precision in
    let o : ℕ = odd_between odd.below odd.above in
    let order : odd.below ≤ odd.above =
    below_le_above p odd.below odd.above amount parts some odd.is_below odd.is_above in
    let past : ltb (largest f) o ≡ true =
    lt-ltb (largest f) o (between odd.below odd.above (is_odd_below odd.below odd.above) h order) in
    let is : first.value ≡ finite negative (largest f) = odd.value_is ∙ rw past refl in
    let top : largest f ≡ (2 ^ p - 1) * 2 ^ f.span =
    ap (λ (k : NonfiniteBehavior). greatest_significand k p * 2 ^ f.span) room.kind in
    let nonzero : 0 < largest f = mul-pos (greatest_some f.nonfinite p (omega arith)) (pow_pos f.span) in
    let d : IsDelivered g mode negative (largest f * 2 ^ g.scale) (2 ^ f.scale) answer.value second.again =
    number_rounded f g mode negative (largest f) first.value answer.value second.again second.loses_info nonzero is
    second.is_conversion in
    let d' : IsDelivered g mode negative ((2 ^ p - 1) * 2 ^ f.span * 2 ^ g.scale) (2 ^ f.scale) answer.value
    second.again =
    subst (λ (z : ℕ). IsDelivered g mode negative (z * 2 ^ g.scale) (2 ^ f.scale) answer.value second.again) top d in
    let e = picked_at_end g mode negative p f.span f.scale d'.pick precise more room.exponents d'.is_pick in
    let far : IsFarAbove g (amount * 2 ^ g.scale) (parts * 2 ^ f.scale) =
    far_magnitude f g odd.below amount parts precise room some odd.is_below h in
    let there = (delivered_exists g mode negative (amount * 2 ^ g.scale) (parts * 2 ^ f.scale) (omega arith)
    far.some).1.1 in
    let past' : ltb (largest g) there.pick ≡ true = picks_past g mode negative (amount * 2 ^ g.scale)
    (parts * 2 ^ f.scale) there.pick (omega arith) far there.is_pick in
    let both = end_alike g mode negative ((2 ^ p - 1) * 2 ^ f.span * 2 ^ g.scale) (2 ^ f.scale) (amount * 2 ^ g.scale)
    (parts * 2 ^ f.scale) d'.pick there.pick second.again (bits_of first.status) answer.value f.ieee_flags precise
    room.flags e past' d'.value_is d'.status_is (odd.status_is ∙ rw (lt-ltb (largest f) odd.below h) refl) in
    record {
      pick = there.pick;
      is_pick = there.is_pick;
      value_is = both.0;
      status_is = second.status_is ∙ both.1;
    }
  where
    between : {top : ℕ} (below above : ℕ) (test : Bool) → top < below → below ≤ above → top < cond test below above
    between below above true h l = h
    between below above false h l = omega (arith, h, l)

within_once : (f g : Format) (mode : Round) (negative : Bool) (amount parts : ℕ) (first answer : StatusAnd Datum)
    → 3 ≤ g.precision → HasRoomFor g f → 0 < amount → 0 < parts → (odd : Gives (IsToOdd f negative amount parts) first)
    → Gives (IsRoundedAgain f g mode first) answer → odd.below ≤ largest f
    → Gives (IsDelivered g mode negative (amount * 2 ^ g.scale) (parts * 2 ^ f.scale)) answer
within_once f g mode negative amount parts first answer precise room nonzero some odd second h =
    let more = room.digits in
    let p : ℕ = f.precision in
    let o : ℕ = odd_between odd.below odd.above in
    let a : AgreesAtEven (p - 1) amount parts o =
    odd_agrees p odd.below odd.above amount parts (omega arith) some odd.is_below odd.is_above in
    let pos : 0 < o = a.less 0 (zero_on_grid (p - 1)) (omega (arith, nonzero)) in
    let l : o ≤ largest f =
    odd_within f odd.below odd.above amount parts room.kind (omega arith) some odd.is_below odd.is_above a h in
    let within : ltb (largest f) o ≡ false = le-ltb (largest f) o l in
    let d : IsDelivered g mode negative (o * 2 ^ g.scale) (2 ^ f.scale) answer.value second.again =
    number_rounded f g mode negative o first.value answer.value second.again second.loses_info pos
    (odd.value_is ∙ rw within (signed_some f.nonfinite negative o pos)) second.is_conversion in
    let e = delivered_once_more f g mode negative amount parts o answer.value second.again precise room a d in
    record {
      pick = e.pick;
      is_pick = e.is_pick;
      value_is = e.value_is;
      status_is = second.status_is ∙ flags_once f g mode negative amount parts odd.below e.pick second.again
          (bits_of first.status) room some odd.is_below h
          (pick_on_grid g.precision mode negative (amount * 2 ^ g.scale) (parts * 2 ^ f.scale) e.pick e.is_pick)
          e.status_is odd.status_is ∙ e.status_is;
    }

pub rounded_once : IsRoundedOnce
rounded_once f g mode negative amount parts first answer precise room nonzero some odd second =
    ⊎_elim (λ (h : largest f < odd.below).
    past_once f g mode negative amount parts first answer precise room some odd second h)
    (λ (h : odd.below ≤ largest f).
    within_once f g mode negative amount parts first answer precise room nonzero some odd second h)
    (cases_lt (largest f) odd.below)
