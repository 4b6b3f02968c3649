use Rattle.apfloat_digits.proofs.decimal_lemmas.DigitPlaces.{exact_at}
use Rattle.apfloat_digits.proofs.decimal.counted.exact_at_count.Goals as goal

pub returns : goal.returns
returns c = λ f mode negative quanta count digits exponent exact x y.
    exact_at f mode negative quanta count digits exponent exact x y
