-- Numbers of units that are rounded to odd.
use Rattle.std.proofs.Common.{◌≡◌, ℕ, ◌+◌, ◌-◌, ◌*◌, ◌/◌, ◌%◌, ◌^◌, ◌<◌, ◌≤◌, Bool, true, false, cond, eqb, sym, refl}
use Rattle.std.proofs.Common.{ap, ◌∙◌, subst, inl, inr, ⊎_elim, arith}
use Rattle.std.proofs.Math.Nat.{div-eq_of_lt, mul-le-mul_right, mul-lt-mul_of_pos_right, eq_of_mul-eq-mul_right}
use Rattle.std.proofs.Math.Nat.{lt_of_mul-lt-mul_right, pow-le-pow_right}
use Rattle.std.proofs.lemmas.{Nat.div-add-mod', Nat.mod_below, Nat.pow_pos, Bool.cases_lt, Bool.eq-eqb, Bool.ne_eqb}
use Rattle.apfloat_model.proofs.general.Powers.{two_pos}
use Rattle.apfloat_model.specs.rounding.RoundingToOdd.{IsRoundedToOdd, odd_for_rest, odd_quotient}

-- ---- a number that is cut

-- an even number of units below which something is lost is rounded up to the odd one
pub raised_to_odd : (n u q : ℕ) → q * u < n → n < (q + 1) * u → q % 2 ≡ 0 → IsRoundedToOdd 1 (q + 1) n u
raised_to_odd n u q a b e = inr (record {
  long = omega arith;
  odd = omega (arith, e);
  above = omega (arith, a);
  below = omega (arith, b);
})

-- an odd number of units below which something is lost is unchanged
pub stays_odd : (n u q : ℕ) → q * u ≤ n → n < (q + 1) * u → q % 2 ≡ 1 → IsRoundedToOdd 1 q n u
stays_odd n u q a b o = inr (record {
  long = omega (arith, o);
  odd = o;
  above = omega (arith, a, b);
  below = omega (arith, b);
})

-- a nonzero amount that is cut off completely is rounded to 1
pub beyond_to_odd : (n digits k : ℕ) → digits ≤ k → n < 2 ^ digits → 0 < n → IsRoundedToOdd 1 1 n (2 ^ k)
beyond_to_odd n digits k l h p =
    let w : 2 ^ digits ≤ 2 ^ k = pow-le-pow_right two_pos l in
    inr (record { long = omega arith; odd = refl; above = omega (arith, p); below = omega (arith, w, h) })

-- a significand that is at least a bound, and is rounded to odd, is rounded to odd with that bound
pub long_to_odd : (least first s amount u : ℕ) → least ≤ s → IsRoundedToOdd first s amount u
    → IsRoundedToOdd least s amount u
long_to_odd least first s amount u l (inl e) = inl e
long_to_odd least first s amount u l (inr b) =
    inr (record { long = l; odd = b.odd; above = b.above; below = b.below })

-- a number without its lowest digits, with the last digit that is left set if they are not all 0
pub set_if_lost : (n places : ℕ) (lost : Bool) → (lost ≡ true → 0 < n % 2 ^ places)
    → (lost ≡ false → n % 2 ^ places ≡ 0)
    → IsRoundedToOdd 1 (cond lost (n / 2 ^ places + (1 - n / 2 ^ places % 2)) (n / 2 ^ places)) n (2 ^ places)
set_if_lost n places false f g = inl (omega (arith, g refl, div-add-mod' n (2 ^ places)))
set_if_lost n places true f g =
    let q = n / 2 ^ places in
    let p = f refl in
    let d : q * 2 ^ places + n % 2 ^ places ≡ n = div-add-mod' n (2 ^ places) in
    let m : n % 2 ^ places < 2 ^ places = mod_below n (2 ^ places) (pow_pos places) in
    ⊎_elim
    (λ (l : q % 2 < 1).
    let e : q + (1 - q % 2) ≡ q + 1 = omega arith in
    subst (λ (x : ℕ). IsRoundedToOdd 1 x n (2 ^ places)) (sym e)
    (raised_to_odd n (2 ^ places) q (omega (arith, d, p)) (omega (arith, d, m)) (omega arith)))
    (λ (l : 1 ≤ q % 2).
    let e : q + (1 - q % 2) ≡ q = omega arith in
    subst (λ (x : ℕ). IsRoundedToOdd 1 x n (2 ^ places)) (sym e)
    (stays_odd n (2 ^ places) q (omega (arith, d)) (omega (arith, d, m)) (omega (arith, l))))
    (cases_lt (q % 2) 1)

-- shifting a number by as many places as it has digits, or more, leaves nothing
pub nothing_left : (n digits limit near places : ℕ) → n < 2 ^ digits → digits ≤ limit
    → (places ≤ limit → near ≡ places) → (limit < places → near ≡ limit) → n / 2 ^ near ≡ n / 2 ^ places
nothing_left n digits limit near places h d f g =
    ⊎_elim
    (λ (l : limit < places).
    let w : 2 ^ digits ≤ 2 ^ limit = pow-le-pow_right two_pos d in
    let v : 2 ^ limit ≤ 2 ^ places = pow-le-pow_right two_pos (omega arith) in
    let a : n / 2 ^ limit ≡ 0 = div-eq_of_lt (omega (arith, h, w)) in
    let b : n / 2 ^ places ≡ 0 = div-eq_of_lt (omega (arith, h, w, v)) in
    ap (λ (x : ℕ). n / 2 ^ x) (g l) ∙ a ∙ sym b)
    (λ (l : places ≤ limit). ap (λ (x : ℕ). n / 2 ^ x) (f l))
    (cases_lt limit places)

-- a significand that is at least one bound is at least any lower one
pub to_odd_least : (least lower s amount u : ℕ) → lower ≤ least → IsRoundedToOdd least s amount u
    → IsRoundedToOdd lower s amount u
to_odd_least least lower s amount u l (inl e) = inl e
to_odd_least least lower s amount u l (inr b) =
    inr (record { long = omega (arith, b.long, l); odd = b.odd; above = b.above; below = b.below })

-- ---- a quotient

at_least : (b : Bool) (q : ℕ) → q ≤ cond b q (q + 1 - q % 2)
at_least true q = omega arith
at_least false q = omega arith

pub odd_at_least : (q rest : ℕ) → q ≤ odd_for_rest q rest
odd_at_least q rest = at_least (eqb rest 0) q

at_most : (b : Bool) (q : ℕ) → cond b q (q + 1 - q % 2) ≤ q + 1 - q % 2
at_most true q = omega arith
at_most false q = omega arith

pub odd_at_most : (q rest : ℕ) → odd_for_rest q rest ≤ q + 1 - q % 2
odd_at_most q rest = at_most (eqb rest 0) q

-- an integer quotient with a rest is rounded to odd by moving up if it is even
left_to_odd : (least n d q : ℕ) → least ≤ q → q * d < n → n < (q + 1) * d → IsRoundedToOdd least (q + 1 - q % 2) n d
left_to_odd least n d q l a b =
    ⊎_elim
    (λ (e : q % 2 < 1).
    let s : q + 1 - q % 2 ≡ q + 1 = omega arith in
    let k : (q + 1 - q % 2) * d ≡ (q + 1) * d = ap (λ (x : ℕ). x * d) s in
    let k' : (q + 1 - q % 2 + 1) * d ≡ (q + 1 + 1) * d = ap (λ (x : ℕ). (x + 1) * d) s in
    inr (record {
      long = omega arith;
      odd = omega arith;
      above = omega (arith, k, a);
      below = omega (arith, k', b);
    }))
    (λ (o : 1 ≤ q % 2).
    let s : q + 1 - q % 2 ≡ q = omega arith in
    let k : (q + 1 - q % 2) * d ≡ q * d = ap (λ (x : ℕ). x * d) s in
    let k' : (q + 1 - q % 2 + 1) * d ≡ (q + 1) * d = ap (λ (x : ℕ). (x + 1) * d) s in
    inr (record {
      long = omega arith;
      odd = omega arith;
      above = omega (arith, k, a, b);
      below = omega (arith, k', b);
    }))
    (cases_lt (q % 2) 1)

pub quotient_to_odd : (least n d : ℕ) → 0 < d → least ≤ n / d → IsRoundedToOdd least (odd_quotient n d) n d
quotient_to_odd least n d p l =
    let e : n / d * d + n % d ≡ n = div-add-mod' n d in
    let m : n % d < d = mod_below n d p in
    ⊎_elim
    (λ (z : n % d < 1).
    let b : eqb (n % d) 0 ≡ true = eq-eqb (n % d) 0 (omega arith) in
    subst (λ (x : Bool). IsRoundedToOdd least (cond x (n / d) (n / d + 1 - n / d % 2)) n d) (sym b)
    (inl (omega (arith, e))))
    (λ (z : 1 ≤ n % d).
    let b : eqb (n % d) 0 ≡ false = ne_eqb (n % d) 0 (λ y. omega (arith, y)) in
    subst (λ (x : Bool). IsRoundedToOdd least (cond x (n / d) (n / d + 1 - n / d % 2)) n d) (sym b)
    (left_to_odd least n d (n / d) l (omega (arith, e)) (omega (arith, e, m))))
    (cases_lt (n % d) 1)

-- ---- units

-- rounding to odd does not change a whole number of units
pub whole_to_odd : (least s m u : ℕ) → IsRoundedToOdd least s (m * u) u → s * u ≡ m * u
whole_to_odd least s m u (inl e) = sym e
whole_to_odd least s m u (inr b) =
    let a : s < m + 1 = lt_of_mul-lt-mul_right u (omega (arith, b.above)) in
    let l : m < s + 1 = lt_of_mul-lt-mul_right u (omega (arith, b.below)) in
    let e : s ≡ m = omega arith in
    ap (λ (x : ℕ). x * u) e

-- multiplying amount and unit by a factor does not change what is rounded to odd
pub to_odd_times : (least s amount u w : ℕ) → 0 < w → IsRoundedToOdd least s amount u
    → IsRoundedToOdd least s (amount * w) (u * w)
to_odd_times least s amount u w p (inl e) =
    let k : amount * w ≡ s * u * w = ap (λ (x : ℕ). x * w) e in inl (omega arith)
to_odd_times least s amount u w p (inr b) =
    let a : s * u * w < (amount + u) * w = mul-lt-mul_of_pos_right b.above p in
    let l : amount * w < (s + 1) * u * w = mul-lt-mul_of_pos_right b.below p in
    inr (record { long = b.long; odd = b.odd; above = omega arith; below = omega arith })

-- dividing amount and unit by a common factor does not change what is rounded to odd
pub to_odd_cancel : (least s amount u w : ℕ) → 0 < w → IsRoundedToOdd least s (amount * w) (u * w)
    → IsRoundedToOdd least s amount u
to_odd_cancel least s amount u w p (inl e) = inl (eq_of_mul-eq-mul_right w p amount (s * u) (omega (arith, e)))
to_odd_cancel least s amount u w p (inr b) =
    let a = b.above in let l = b.below in
    inr (record {
      long = b.long;
      odd = b.odd;
      above = lt_of_mul-lt-mul_right w (omega (arith, a));
      below = lt_of_mul-lt-mul_right w (omega (arith, l));
    })

-- ---- sums

-- an even number of whole units can be added to an amount rounded to odd
pub odd_together : (least high low j u : ℕ) → high % 2 ≡ 0 → least ≤ high → IsRoundedToOdd 1 j low u
    → IsRoundedToOdd least (high + j) (high * u + low) u
odd_together least high low j u e l (inl d) = inl (omega (arith, d))
odd_together least high low j u e l (inr b) =
    let o = b.odd in let a = b.above in let d = b.below in
    inr (record {
      long = omega arith;
      odd = omega (arith, e, o);
      above = omega (arith, a);
      below = omega (arith, d);
    })

-- an amount rounded to odd can be subtracted from a greater even number of whole units
pub odd_apart : (least high low j u : ℕ) → high % 2 ≡ 0 → j + 1 + least ≤ high → IsRoundedToOdd 1 j low u
    → (low ≤ high * u) × IsRoundedToOdd least (high - j) (high * u - low) u
odd_apart least high low j u e l (inl d) =
    let r : (high - j) + j ≡ high = omega arith in
    let k : ((high - j) + j) * u ≡ high * u = ap (λ (x : ℕ). x * u) r in
    (omega (arith, d, k), inl (omega (arith, d, k)))
odd_apart least high low j u e l (inr b) =
    let o = b.odd in let a = b.above in let d = b.below in
    let r : (high - j) + j ≡ high = omega arith in
    let k : ((high - j) + j) * u ≡ high * u = ap (λ (x : ℕ). x * u) r in
    let m : (j + 1) * u ≤ high * u = mul-le-mul_right u (omega arith) in (
      omega (arith, d, m),
      inr (record {
        long = omega arith;
        odd = omega (arith, e, o);
        above = omega (arith, a, d, k, m);
        below = omega (arith, a, d, k, m);
      }),
    )
