-- The bits of a status.
use Rattle.std.specs.Prelude.{ℕ}
use Rattle.apfloat_model.specs.declared.status.{Status.Status, StatusAnd.StatusAnd}

abbrev pub bits_of : Status → ℕ
bits_of status = status.0

-- a result whose value and status satisfy the relation
abbrev pub Gives : {A : Type 0} → (A → ℕ → Type 0) → StatusAnd A → Type 0
Gives Says answer = Says answer.value (bits_of answer.status)
