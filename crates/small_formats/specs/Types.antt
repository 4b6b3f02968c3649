-- The constants of a storage format's type.
use Rattle.small_formats.specs.{Storage.StorageConstants, Storage.constants_with, declared.format.StorageFormat.Ghosts}

abbrev pub constants_of : {X : Type 0} → Ghosts X → StorageConstants
constants_of s = constants_with s.BITS s.PRECISION s.MIN_EXP
