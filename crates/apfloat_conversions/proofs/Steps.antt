-- A stored number and its neighbours.
use Rattle.std.proofs.Common.{◌≡◌, ℕ, ◌+◌, ◌-◌, ◌*◌, ◌^◌, ◌<◌, ◌≤◌, true, false, eqb, sym, refl, ap, ◌∙◌, subst, ⊎_elim}
use Rattle.std.proofs.Common.{arith, ℤ, pos, ◌+ℤ◌, ◌-ℤ◌, ◌≤ℤ◌}
use Rattle.std.proofs.lemmas.{Nat.pow-add, Nat.pow_pos, Int.ints, Bool.ne_eqb}
use Rattle.apfloat_model.specs.formats.{Format.largest, Format.greatest_significand, Datum.finite}
use Rattle.apfloat_model.specs.rounding.{Grid.IsBelow, Grid.IsAbove, Rounding.zero_sign, Standing.up, Standing.down}
use Rattle.apfloat_model.specs.arithmetic.NextUp.{IsNextGreater, IsNextLess}
use Rattle.apfloat_model.proofs.{rounding.Deliveries.signed_some, arithmetic.Signs.one_side}
use Rattle.apfloat_model.proofs.arithmetic.SingleScalings.{up_le, up_far, quanta_below}
use Rattle.apfloat_model.proofs.general.{Powers.twice_half, Choices.eqb_times}
use Rattle.apfloat_rounding.specs.{declared.shape.Shape.Shape, Shapes.format_at}
use Rattle.apfloat_rounding.specs.Stored.{IsOperandAt, IsQuantaAt, IsNormalAt, quanta_at}
use Rattle.apfloat_rounding.proofs.{StoredBack.quanta_some, StoredNumbers.quanta_is, ShapeExponents.span_is}
use Rattle.apfloat_conversions.proofs.StoredExponents.{half_within, number_of}
use Rattle.apfloat_conversions.proofs.Nexts.{operand_down, step_room, step_small, step_within, step_above, next_is}
use Rattle.apfloat_conversions.proofs.Nexts.{next_within, less_is, least_less, stepped_by, stepped_down_by}
use Rattle.apfloat_conversions.proofs.Nexts.{stays_operand, carries_operand, carried_quanta, lowered_quanta}
use Rattle.apfloat_conversions.proofs.Nexts.{lowered_operand, room_above, room_cases}

-- a shape has at least one digit
some : (shape : Shape) → 0 < shape.precision
some shape = let t = shape.parameters.precision_low in omega (arith, t)

-- a step at the last place of a stored number fits in the word
pub step_fits : (shape : Shape) (m t : ℕ) (e : ℤ) → IsNormalAt shape m e → t ≡ 2 ^ down (e -ℤ shape.min_exp)
    → m + t < 2 ^ 128
step_fits shape m t e n i =
    let l = operand_down shape.precision shape.min_exp e shape.parameters.precision_low n.operand.least in
    subst (λ (x : ℕ). m + x < 2 ^ 128) (sym i)
    (step_room shape.precision m (down (e -ℤ shape.min_exp)) shape.parameters.precision_high n.operand.fits l)

-- a step is no greater than the number
pub step_below : (shape : Shape) (m t : ℕ) (e : ℤ) → ((shape.min_exp +ℤ pos 1) -ℤ pos shape.precision) ≤ℤ e
    → 2 ^ (shape.precision - 1) ≤ m → t ≡ 2 ^ down (e -ℤ shape.min_exp) → t ≤ m
step_below shape m t e l h i =
    let d = operand_down shape.precision shape.min_exp e shape.parameters.precision_low l in
    omega (arith, i, step_small (shape.precision - 1) (down (e -ℤ shape.min_exp)) d, h)

-- ---- up

-- m at exponent e is the next number after n quanta
pub record IsAfter (shape : Shape) (n m : ℕ) (e : ℤ) : Type 0 where
  pub next : ℕ
  pub is_above : IsAbove shape.precision next (n + 1) 1
  pub operand : IsOperandAt shape.precision shape.min_exp shape.max_exp m e
  pub quanta : IsQuantaAt shape.min_exp m e next

-- the neighbour above a number is one step of its last digit above it
above_of : (shape : Shape) (m : ℕ) (e : ℤ) → IsNormalAt shape m e
    → IsAbove shape.precision (quanta_at shape.min_exp m e + 2 ^ up (e -ℤ shape.min_exp))
    (quanta_at shape.min_exp m e + 1) 1
above_of shape m e n =
    next_is shape.precision m (quanta_at shape.min_exp m e) (up (e -ℤ shape.min_exp)) (down (e -ℤ shape.min_exp))
    (some shape) (one_side (e -ℤ shape.min_exp)) n.operand.fits n.operand.full n.whole

-- the next number above, if no digit is added
pub after_stays : (shape : Shape) (m t : ℕ) (e : ℤ) → IsNormalAt shape m e → t ≡ 2 ^ down (e -ℤ shape.min_exp)
    → m + t < 2 ^ shape.precision → IsAfter shape (quanta_at shape.min_exp m e) (m + t) e
after_stays shape m t e n i f =
    let g = n.operand.full in
    record {
      next = quanta_at shape.min_exp m e + 2 ^ up (e -ℤ shape.min_exp);
      is_above = above_of shape m e n;
      operand = stays_operand shape.precision shape.min_exp shape.max_exp e m (m + t) n.operand f (omega (arith, g));
      quanta = stepped_by m (quanta_at shape.min_exp m e) (up (e -ℤ shape.min_exp))
          (down (e -ℤ shape.min_exp)) t i n.whole;
    }

-- the next number above, if a digit is added, is a power of two
pub after_carries : (shape : Shape) (m t w : ℕ) (e r : ℤ) → IsNormalAt shape m e
    → quanta_at shape.min_exp m e < largest (format_at shape) → t ≡ 2 ^ down (e -ℤ shape.min_exp)
    → 2 ^ shape.precision ≤ m + t
    → w ≡ 2 ^ (shape.precision - 1) → r ≡ (e +ℤ pos 1) → IsAfter shape (quanta_at shape.min_exp m e) w r
after_carries shape m t w e r n b i h j k =
    let p = some shape in
    let a = quanta_at shape.min_exp m e in
    let l = operand_down shape.precision shape.min_exp e shape.parameters.precision_low n.operand.least in
    let z : m + 2 ^ down (e -ℤ shape.min_exp) ≤ 2 ^ shape.precision =
    step_within shape.precision m a (up (e -ℤ shape.min_exp)) (down (e -ℤ shape.min_exp)) (omega (arith, l))
    (one_side (e -ℤ shape.min_exp)) n.operand.fits n.whole in
    let y : m + t ≡ 2 ^ shape.precision = omega (arith, i, h, z) in
    let q = stepped_by m a (up (e -ℤ shape.min_exp)) (down (e -ℤ shape.min_exp)) t i n.whole in
    record {
      next = a + 2 ^ up (e -ℤ shape.min_exp);
      is_above = above_of shape m e n;
      operand =
          carries_operand shape.precision shape.min_exp shape.max_exp e r m w p n.operand j k
          (room_above (format_at shape) shape.precision shape.min_exp shape.max_exp e m a refl (span_is shape)
          n.operand n.whole b (omega (arith, i, h)));
      quanta = carried_quanta shape.precision shape.min_exp e r (m + t) w (a + 2 ^ up (e -ℤ shape.min_exp)) p y j k q;
    }

-- the number after n quanta is a normal number of the shape
pub after_stored : (shape : Shape) (n m : ℕ) (e : ℤ) → n < largest (format_at shape) → IsAfter shape n m e
    → IsNormalAt shape m e
after_stored shape n m e b h =
    number_of shape m e h.next h.operand h.quanta (next_within (format_at shape) n h.next (some shape) b h.is_above)

-- the number after n quanta is the neighbour that the model defines
pub after_is : (shape : Shape) (n m : ℕ) (e : ℤ) → IsAfter shape n m e
    → IsNextGreater (format_at shape) n (finite false (quanta_at shape.min_exp m e)) 0
after_is shape n m e h =
    rw (quanta_is shape.min_exp m e h.next h.quanta)
    (record { next = h.next; is_above = h.is_above; is = record { value_is = refl; status_is = refl } })

-- ---- down

-- m at exponent e is the number before n quanta
pub record IsBefore (shape : Shape) (n m : ℕ) (e : ℤ) : Type 0 where
  pub next : ℕ
  pub is_below : IsBelow shape.precision next (n - 1) 1
  pub operand : IsOperandAt shape.precision shape.min_exp shape.max_exp m e
  pub quanta : IsQuantaAt shape.min_exp m e next

-- the number below, if no digit is lost
pub before_stays : (shape : Shape) (m t : ℕ) (e : ℤ) → IsNormalAt shape m e → t ≡ 2 ^ down (e -ℤ shape.min_exp)
    → 2 ^ (shape.precision - 1) < m → IsBefore shape (quanta_at shape.min_exp m e) (m - t) e
before_stays shape m t e n i h =
    let a = quanta_at shape.min_exp m e in
    let f = n.operand.fits in
    let l = operand_down shape.precision shape.min_exp e shape.parameters.precision_low n.operand.least in
    let k : 2 ^ (shape.precision - 1) + 2 ^ down (e -ℤ shape.min_exp) ≤ m = step_above (shape.precision - 1) m a
    (up (e -ℤ shape.min_exp)) (down (e -ℤ shape.min_exp)) l (one_side (e -ℤ shape.min_exp)) h n.whole in
    record {
      next = a - 2 ^ up (e -ℤ shape.min_exp);
      is_below =
          less_is shape.precision m a (up (e -ℤ shape.min_exp)) (down (e -ℤ shape.min_exp)) (some shape)
          (one_side (e -ℤ shape.min_exp)) (omega (arith, f)) h n.whole;
      operand = stays_operand shape.precision shape.min_exp shape.max_exp e m (m - t) n.operand (omega (arith, f))
          (omega (arith, k, i));
      quanta = stepped_down_by m a (up (e -ℤ shape.min_exp)) (down (e -ℤ shape.min_exp)) t i (omega (arith, k)) n.whole;
    }

-- below a power of two the step is half as large
pub before_lowers : (shape : Shape) (m w t : ℕ) (e r : ℤ) → IsNormalAt shape m e → m ≡ 2 ^ (shape.precision - 1)
    → w ≡ 2 ^ shape.precision → r ≡ (e -ℤ pos 1) → ((shape.min_exp +ℤ pos 1) -ℤ pos shape.precision) ≤ℤ r
    → t ≡ 2 ^ down (r -ℤ shape.min_exp) → IsBefore shape (quanta_at shape.min_exp m e) (w - t) r
before_lowers shape m w t e r n i j k low h =
    let p = some shape in
    let a = quanta_at shape.min_exp m e in
    let l = operand_down shape.precision shape.min_exp r shape.parameters.precision_low low in
    let q = lowered_quanta shape.precision shape.min_exp e r m w a p i j k n.whole in
    let z = twice_half shape.precision p in
    let o : 0 < 2 ^ (shape.precision - 1) = pow_pos (shape.precision - 1) in
    record {
      next = a - 2 ^ up (r -ℤ shape.min_exp);
      is_below =
          less_is shape.precision w a (up (r -ℤ shape.min_exp))
          (down (r -ℤ shape.min_exp)) p (one_side (r -ℤ shape.min_exp)) (omega (arith, j)) (omega (arith, j, z, o)) q;
      operand = lowered_operand shape.precision shape.min_exp shape.max_exp e r m w t (down (r -ℤ shape.min_exp)) p
          n.operand j h l k low;
      quanta = stepped_down_by w a (up (r -ℤ shape.min_exp)) (down (r -ℤ shape.min_exp)) t h
          (omega (arith, step_small (shape.precision - 1) (down (r -ℤ shape.min_exp)) l, j, z, o)) q;
    }

-- the number before n quanta is a normal number of the shape
pub before_stored : (shape : Shape) (n m : ℕ) (e : ℤ) → n ≤ largest (format_at shape) → IsBefore shape n m e
    → IsNormalAt shape m e
before_stored shape n m e b h = number_of shape m e h.next h.operand h.quanta (omega (arith, h.is_below.not_above, b))

-- the number before n quanta is the neighbour that the model defines
pub before_is : (shape : Shape) (n m : ℕ) (e : ℤ) → n ≤ largest (format_at shape) → IsBefore shape n m e
    → IsNextLess (format_at shape) n (finite true (quanta_at shape.min_exp m e)) 0
before_is shape n m e b h =
    let q = quanta_is shape.min_exp m e h.next h.quanta in
    let p : 0 < h.next = omega (arith, q, quanta_some shape m e (before_stored shape n m e b h)) in
    rw q (record {
      next = h.next;
      is_below = h.is_below;
      is =
          record { value_is = sym (signed_some shape.nonfinite true h.next p); status_is = refl };
    })

-- the number below the smallest one is zero
pub before_least : (shape : Shape) (m : ℕ) (e : ℤ) → IsNormalAt shape m e
    → m ≡ 2 ^ (shape.precision - 1) → e ≡ ((shape.min_exp +ℤ pos 1) -ℤ pos shape.precision)
    → IsNextLess (format_at shape) (quanta_at shape.min_exp m e) (finite (zero_sign shape.nonfinite true) 0) 0
before_least shape m e n i k =
    record {
      next = 0;
      is_below =
          least_less shape.precision shape.min_exp e m (quanta_at shape.min_exp m e) shape.parameters.precision_low
          i k n.whole;
      is =
          record { value_is = refl; status_is = refl };
    }

-- ---- the largest

-- at the greatest exponent, a number is the largest exactly if its significand is the greatest
pub largest_at_top : (shape : Shape) (m g : ℕ) (e : ℤ) → IsNormalAt shape m e → e ≡ shape.max_exp
    → g ≡ greatest_significand shape.nonfinite shape.precision
    → eqb m g ≡ eqb (quanta_at shape.min_exp m e) (largest (format_at shape))
largest_at_top shape m g e n i k =
    let b = span_is shape in
    let c : up (e -ℤ shape.min_exp) ≡ (format_at shape).span = ap (λ (z : ℤ). up (z -ℤ shape.min_exp)) i ∙
    sym (ap up b) in
    let w = up_far (e -ℤ shape.min_exp) 0 (omega (arith, ints, i, b)) in
    let q : IsQuantaAt shape.min_exp m e (m * 2 ^ (format_at shape).span) =
    let x : 2 ^ down (e -ℤ shape.min_exp) ≡ 1 = ap (λ (z : ℕ). 2 ^ z) w.1 in
    ap (λ (z : ℕ). m * 2 ^ (format_at shape).span * z) x ∙ omega arith ∙ ap (λ (z : ℕ). m * 2 ^ z) (sym c) in
    let d = eqb_times m g (2 ^ (format_at shape).span) (pow_pos (format_at shape).span) in
    let f : eqb (m * 2 ^ (format_at shape).span) (g * 2 ^ (format_at shape).span)
    ≡ eqb (m * 2 ^ (format_at shape).span) (largest (format_at shape)) =
    ap (λ (z : ℕ). eqb (m * 2 ^ (format_at shape).span) (z * 2 ^ (format_at shape).span)) k in
    d ∙ f ∙ ap (λ (z : ℕ). eqb z (largest (format_at shape)))
    (sym (quanta_is shape.min_exp m e (m * 2 ^ (format_at shape).span) q))

-- below the greatest exponent no number is the largest
pub below_top : (shape : Shape) (m : ℕ) (e : ℤ) → IsNormalAt shape m e → (e ≡ shape.max_exp → ⊥)
    → false ≡ eqb (quanta_at shape.min_exp m e) (largest (format_at shape))
below_top shape m e n h =
    let b = span_is shape in
    let lo = shape.parameters.min_exp_high in let hi = shape.parameters.max_exp_low in
    let r : (e +ℤ pos 1) ≤ℤ shape.max_exp =
    ⊎_elim (λ (q : (e +ℤ pos 1) ≤ℤ shape.max_exp). q) (λ (q : e ≡ shape.max_exp). absurd (h q))
    (room_cases e shape.max_exp (shape.max_exp -ℤ e) refl n.operand.greatest) in
    let j : 1 ≤ (format_at shape).span = omega (arith, ints, b, lo, hi) in
    let i : (e -ℤ shape.min_exp) ≤ℤ pos ((format_at shape).span - 1) = omega (arith, ints, r, b, j) in
    let i' = up_le (e -ℤ shape.min_exp) ((format_at shape).span - 1) i in
    let u : up (e -ℤ shape.min_exp) + 1 ≤ (format_at shape).span = omega (arith, i', j) in
    let t = twice_half shape.precision (some shape) in
    let k : 2 ^ (shape.precision + up (e -ℤ shape.min_exp)) ≡ 2 ^ shape.precision * 2 ^ up (e -ℤ shape.min_exp) =
    pow-add 2 shape.precision (up (e -ℤ shape.min_exp)) in
    let l : 2 ^ (up (e -ℤ shape.min_exp) + 1) ≡ 2 ^ up (e -ℤ shape.min_exp) * 2 =
    pow-add 2 (up (e -ℤ shape.min_exp)) 1 in
    let w : 2 ^ (shape.precision - 1) * 2 ^ (up (e -ℤ shape.min_exp) + 1) ≤ largest (format_at shape) =
    half_within shape (2 ^ (shape.precision - 1)) (up (e -ℤ shape.min_exp) + 1) (omega arith) u in
    let x : 2 ^ (shape.precision - 1) * 2 ^ (up (e -ℤ shape.min_exp) + 1)
    ≡ 2 ^ (shape.precision - 1) * (2 ^ up (e -ℤ shape.min_exp) * 2) = ap (λ (z : ℕ). 2 ^ (shape.precision - 1) * z) l in
    let q = quanta_below shape.precision shape.min_exp e m (quanta_at shape.min_exp m e) n.operand.fits n.whole in
    let v : quanta_at shape.min_exp m e < largest (format_at shape) =
    omega (arith, q, k, w, x, ap (λ (z : ℕ). z * 2 ^ up (e -ℤ shape.min_exp)) t) in
    sym (ne_eqb (quanta_at shape.min_exp m e) (largest (format_at shape)) (λ z. omega (arith, v, z)))
