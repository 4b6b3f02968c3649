-- Conversions by the modes of conversions into `e3m4`, and into `e4m3fn` without a sign, have one answer.
use Rattle.std.proofs.Common.{true, false}
use Rattle.apfloat_model.specs.formats.Datum.{finite, infinite, nan}
use Rattle.small_formats.specs.Float8E3M4.{e3m4_datum, e3m4_format}
use Rattle.small_formats.specs.{Modes.ieee_mode, Unsigned.signed_format, Unsigned.unsigned_datum}
use Rattle.small_formats.specs.stochastic.ElementConversions.{IsE3M4ByOnce, IsUnsignedByOnce}
use Rattle.small_formats.proofs.{NarrowCodes.e3m4_code_once, OneAnswer.unsigned_code_once, OneAnswer.unsigned_once}
use Rattle.small_formats.proofs.stochastic_lemmas.OneAnswer.{conversion_once}

pub e3m4_by_once : IsE3M4ByOnce
e3m4_by_once f mode x code other status flags loses lost l k h j =
    let same = conversion_once f e3m4_format mode x (e3m4_datum code) (e3m4_datum other) status flags loses lost h j in
    (e3m4_code_once code other l k same.0, same.1, same.2)

-- ---- without a sign

pub unsigned_by_once : IsUnsignedByOnce
unsigned_by_once f mode (nan b s) code other status flags loses lost l k h j =
    unsigned_once f (ieee_mode mode) (nan b s) code other status flags loses lost l k h j
unsigned_by_once f mode (infinite b) code other status flags loses lost l k h j =
    unsigned_once f (ieee_mode mode) (infinite b) code other status flags loses lost l k h j
unsigned_by_once f mode (finite true n) code other status flags loses lost l k h j =
    unsigned_once f (ieee_mode mode) (finite true n) code other status flags loses lost l k h j
unsigned_by_once f mode (finite false n) code other status flags loses lost l k h j =
    let same = conversion_once f signed_format mode (finite false n) (unsigned_datum code) (unsigned_datum other)
    status flags loses lost h j in
    (unsigned_code_once code other l k same.0, same.1, same.2)
