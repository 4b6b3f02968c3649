-- Fused sums with an infinity or a NaN among their factors.
use Rattle.std.proofs.Common.{◌≡◌, ◌⊎◌, inl, inr, ℕ, Bool, true, false, eqb, subst}
use Rattle.std.specs.Prelude.{⊤, if◌then◌else◌}
use Rattle.std.specs.Bool.{MatchBool}
use Rattle.apfloat_model.specs.{declared.kinds.Round.Round, formats.Format.Format}
use Rattle.apfloat_model.specs.formats.Datum.{Datum, finite, infinite, nan}
use Rattle.apfloat_model.specs.rounding.{Rounding.ok_bits, Answer.IsAnswer}
use Rattle.apfloat_model.specs.rounding.Outcome.{Outcome, settled, rounded, totalled, rooted, Yields}
use Rattle.apfloat_model.specs.arithmetic.{Products.product, Products.IsProduct, Sums.sum, Sums.IsSum}
use Rattle.apfloat_model.specs.arithmetic.FusedSums.{on_product, IsSumWithProduct}
use Rattle.apfloat_model.specs.order.Classes.{is_finite}

-- what two outcomes yield, as a test chooses, is what the chosen one yields
pub chosen : (format : Format) (mode : Round) (test : Bool) (one other : Outcome) (value : Datum) (status : ℕ)
    → MatchBool test (Yields format mode one value status) (Yields format mode other value status)
    → Yields format mode (if test then one else other) value status
chosen format mode true one other value status h = h
chosen format mode false one other value status h = h

abbrev pub IsSettled : Outcome → Type 0
IsSettled (settled datum flags) = ⊤
IsSettled (rounded negative amount parts) = ⊥
IsSettled (totalled left right exact parts) = ⊥
IsSettled (rooted square parts) = ⊥

settled_if : (test : Bool) (one other : Outcome) → IsSettled one → IsSettled other
    → IsSettled (if test then one else other)
settled_if true one other h k = h
settled_if false one other h k = k

special_settled : (format : Format) (x y : Datum) → (is_finite x ≡ false) ⊎ (is_finite y ≡ false)
    → IsSettled (product format x y)
special_settled format (nan b s) y e = tt
special_settled format (infinite b) (nan c t) e = tt
special_settled format (infinite b) (infinite c) e = tt
special_settled format (infinite b) (finite c n) e = settled_if (eqb n 0) _ _ tt tt
special_settled format (finite b m) (nan c t) e = tt
special_settled format (finite b m) (infinite c) e = settled_if (eqb m 0) _ _ tt tt
special_settled format (finite b m) (finite c n) (inl e) = cc
special_settled format (finite b m) (finite c n) (inr e) = cc

on_settled : (format : Format) (mode : Round) (outcome : Outcome) (z given value : Datum) (flags status : ℕ)
    → IsSettled outcome → Yields format mode outcome given flags
    → MatchBool (eqb flags ok_bits) (IsSum format mode given z value status) (IsAnswer given flags value status)
    → Yields format mode (on_product format z outcome) value status
on_settled format mode (settled datum t) z given value flags status i h k =
    chosen format mode (eqb t ok_bits) (sum format datum z) (settled datum t) value status
    (subst (λ (d : Datum). MatchBool (eqb t ok_bits) (IsSum format mode d z value status) (IsAnswer d t value status))
    h.value_is (subst (λ (s : ℕ). MatchBool (eqb s ok_bits) (IsSum format mode given z value status)
    (IsAnswer given s value status)) h.status_is k))
on_settled format mode (rounded negative amount parts) z given value flags status i h k = absurd i
on_settled format mode (totalled left right exact parts) z given value flags status i h k = absurd i
on_settled format mode (rooted square parts) z given value flags status i h k = absurd i

-- the sum with a product that raises no flag, or else the product
pub special_sum : (format : Format) (mode : Round) (x y z value given : Datum) (status flags : ℕ)
    → (is_finite x ≡ false) ⊎ (is_finite y ≡ false) → IsProduct format mode x y given flags
    → MatchBool (eqb flags ok_bits) (IsSum format mode given z value status) (IsAnswer given flags value status)
    → IsSumWithProduct format mode x y z value status
special_sum format mode x y z value given status flags e p h =
    on_settled format mode (product format x y) z given value flags status (special_settled format x y e) p h
