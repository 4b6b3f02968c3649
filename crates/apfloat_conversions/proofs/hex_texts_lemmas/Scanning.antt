-- A significand is read to its end.
use Rattle.std.proofs.Common.{◌≡◌, ℕ, false, refl, sym, subst, List, [], ◌∷◌}
use Rattle.std.specs.Prelude.{Result, Ok, Err, IsErrAnd, MatchResult}
use Rattle.apfloat_model.specs.texts.{Digits.begins, Faults.is_digit_or_dot, Faults.significand_of}
use Rattle.apfloat_conversions.specs.{declared.hex_texts.significand.Scan.Scan, hex_texts.Scans.IsScan}

-- ---- results

-- the result that a `?` returns on an error
pub refused_by : {T E : Type 0} (result : Result T E) (error : E) (P : T → Type 0) (Q : E → Type 0)
    → IsErrAnd result (λ y. y ≡ error) → Q error → MatchResult result P Q
refused_by (Ok x) e P Q is q = absurd is
refused_by (Err y) e P Q is q = subst Q (sym is) q

-- ---- a scan that is rebuilt

-- a scan rebuilt from its parts is the same scan
pub scan_remade : (rest left : List ℕ) (next made : Scan) → made ≡ next → IsScan rest left next → IsScan rest left made
scan_remade rest left next made e s = subst (λ (x : Scan). IsScan rest left x) (sym e) s

-- ---- the end of a significand

-- a text that begins with neither a digit nor a dot has an empty significand
ended : (left : List ℕ) → begins is_digit_or_dot left ≡ false → significand_of left ≡ []
ended [] h = refl
ended (c ∷ left) h = rw h refl
