-- formats and data
pub use Rattle.apfloat_model.specs.formats.Format
pub use Rattle.apfloat_model.specs.formats.Datum
pub use Rattle.apfloat_model.specs.formats.Members
pub use Rattle.apfloat_model.specs.formats.Constants
pub use Rattle.apfloat_model.specs.formats.Nan
pub use Rattle.apfloat_model.specs.formats.Lawful
pub use Rattle.apfloat_model.specs.formats.Formats
pub use Rattle.apfloat_model.specs.formats.Log
-- one rounding
pub use Rattle.apfloat_model.specs.rounding.Grid
pub use Rattle.apfloat_model.specs.rounding.Rounding
pub use Rattle.apfloat_model.specs.rounding.Answer
pub use Rattle.apfloat_model.specs.rounding.Negation
pub use Rattle.apfloat_model.specs.rounding.Flags
pub use Rattle.apfloat_model.specs.rounding.RaisedFlags
pub use Rattle.apfloat_model.specs.rounding.Standing
pub use Rattle.apfloat_model.specs.rounding.Enclosure
pub use Rattle.apfloat_model.specs.rounding.Bounds
pub use Rattle.apfloat_model.specs.rounding.TwoModes
-- arithmetic
pub use Rattle.apfloat_model.specs.arithmetic.Exact
pub use Rattle.apfloat_model.specs.arithmetic.Sums
pub use Rattle.apfloat_model.specs.arithmetic.Products
pub use Rattle.apfloat_model.specs.arithmetic.Quotients
pub use Rattle.apfloat_model.specs.arithmetic.Roots
pub use Rattle.apfloat_model.specs.arithmetic.FusedSums
pub use Rattle.apfloat_model.specs.arithmetic.Remainders
pub use Rattle.apfloat_model.specs.arithmetic.Exponents
pub use Rattle.apfloat_model.specs.arithmetic.Scaling
pub use Rattle.apfloat_model.specs.arithmetic.NextUp
pub use Rattle.apfloat_model.specs.arithmetic.Signs
pub use Rattle.apfloat_model.specs.arithmetic.Conversions
-- order and classes
pub use Rattle.apfloat_model.specs.order.Classes
pub use Rattle.apfloat_model.specs.order.Order
pub use Rattle.apfloat_model.specs.order.Predicates
-- integers
pub use Rattle.apfloat_model.specs.whole_numbers.WholeNumbers
pub use Rattle.apfloat_model.specs.whole_numbers.WholeNumbersOut
pub use Rattle.apfloat_model.specs.whole_numbers.SignedWholes
-- bits
pub use Rattle.apfloat_model.specs.bits.Layout
pub use Rattle.apfloat_model.specs.bits.Interchange
-- texts
pub use Rattle.apfloat_model.specs.texts.Digits
pub use Rattle.apfloat_model.specs.texts.Specials
pub use Rattle.apfloat_model.specs.texts.Texts
pub use Rattle.apfloat_model.specs.texts.Faults
pub use Rattle.apfloat_model.specs.texts.Literals
pub use Rattle.apfloat_model.specs.texts.Readings
pub use Rattle.apfloat_model.specs.texts.Parsing
-- the laws that a type has to provide, and its constants as a format
pub use Rattle.apfloat_model.specs.Determined
pub use Rattle.apfloat_ieee.specs.Types
pub use Rattle.apfloat_ieee.specs.FlaggedTypes
pub use Rattle.apfloat_base.specs.Meaning
pub use Rattle.apfloat_ieee.specs.FormatMeaning
-- pairs of doubles
pub use Rattle.apfloat_pair_theory.specs.PairFormats
pub use Rattle.apfloat_pair_theory.specs.Pairs
pub use Rattle.apfloat_pair_theory.specs.NearestSums
pub use Rattle.apfloat_pair_theory.specs.PairSums
pub use Rattle.apfloat_pair_theory.specs.PairProducts
pub use Rattle.apfloat_pair_theory.specs.PairParts
pub use Rattle.apfloat_pair_theory.specs.PairCalls
pub use Rattle.apfloat_pair_theory.specs.PairRoots
pub use Rattle.apfloat_pair_theory.specs.PairAnswers
pub use Rattle.apfloat_pair_theory.specs.PairAccuracy
pub use Rattle.rustc_apfloat.specs.double_doubles.PairMeaning
pub mod double_doubles
pub mod double_double_operations
