-- What an operation on two values returns.
use Rattle.std.specs.Prelude.{Bool, true}
use Rattle.rustc_apfloat.specs.declared.{Round.Round, StatusAnd.StatusAnd}
use Rattle.formats_at_run_time.specs.declared.arithmetic.Arithmetic.{Arithmetic}
use Rattle.formats_at_run_time.specs.declared.arithmetic.Arithmetic.TheVariants.{Sum, Difference, Product, Quotient}
use Rattle.formats_at_run_time.specs.declared.arithmetic.Arithmetic.TheVariants.{NearestRemainder, TruncatedRemainder}
use Rattle.formats_at_run_time.specs.Relations.{Relations}

-- whether a type has the operation, given whether it has products
abbrev pub has_operation : Bool → Arithmetic → Bool
has_operation multiplies Sum = true
has_operation multiplies Difference = true
has_operation multiplies Product = multiplies
has_operation multiplies Quotient = true
has_operation multiplies NearestRemainder = true
has_operation multiplies TruncatedRemainder = true

-- the result of an operation on two values; remainders do not depend on the mode
abbrev pub IsOfTwo : {A : Type 0} → Relations A → Arithmetic → Round → A → A → StatusAnd A → Type 0
IsOfTwo of_type Sum mode x y answer = of_type.meaning.adds x y mode answer
IsOfTwo of_type Difference mode x y answer = of_type.meaning.subtracts x y mode answer
IsOfTwo of_type Product mode x y answer = of_type.meaning.multiplies x y mode answer
IsOfTwo of_type Quotient mode x y answer = of_type.meaning.divides x y mode answer
IsOfTwo of_type NearestRemainder mode x y answer = of_type.meaning.leaves_nearest x y answer
IsOfTwo of_type TruncatedRemainder mode x y answer = of_type.meaning.leaves x y answer
