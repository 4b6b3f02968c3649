-- What each machine does where IEEE 754-2019 leaves a choice: the records of docs/MACHINES.md.
use Rattle.std.specs.Prelude.{◌-◌, ◌^◌, Bool, true, false, not, ◌&&◌, if◌then◌else◌, Some, None}
use Rattle.std.specs.Prelude.{Result, Ok, Err, List, [], ◌∷◌}
use Rattle.apfloat_machines.specs.declared.flushing.Flush.TheVariants.{X86 as FlushX86, Arm as FlushArm}
use Rattle.apfloat_machines.specs.declared.machine.Contradiction.{Contradiction, TheVariants.QuietAddendKept}
use Rattle.apfloat_machines.specs.declared.machine.{Contradiction.TheVariants.SignalingAddendKept, Machine.Machine}
use Rattle.apfloat_machines.specs.declared.machine.NanChoice.{NanChoice, TheVariants.First, TheVariants.SignalingFirst}
use Rattle.apfloat_machines.specs.declared.machine.NanChoice.TheVariants.{SignalingLast, Greater, AlwaysDefault}
use Rattle.apfloat_machines.specs.declared.machine.FusedOrder.TheVariants.{FactorsFirst, AddendFirst, AddendSecond}
use Rattle.apfloat_machines.specs.declared.machine.WholeOfNan.TheVariants.{Zero, Least, Greatest, BySign}

-- ---- the machines

abbrev pub x86 : Machine
x86 =
    record {
      nan_choice = First;
      default_is_negative = true;
      default_payload = 0;
      has_fused = true;
      fused_order = FactorsFirst;
      drops_quiet_addend = false;
      drops_signaling_addend = false;
      flags_quiet_addend = false;
      has_unsigned = true;
      signed_of_nan = Least;
      unsigned_of_nan = Greatest;
      has_one_invalid_integer = true;
      invalid_integer_is_inexact = false;
      tiny_before_rounding = false;
      flush = Some FlushX86;
    }

abbrev pub x87 : Machine
x87 = record x86 { nan_choice = Greater; has_fused = false; has_unsigned = false; flush = None }

abbrev pub arm : Machine
arm =
    record {
      nan_choice = SignalingFirst;
      default_is_negative = false;
      default_payload = 0;
      has_fused = true;
      fused_order = AddendFirst;
      drops_quiet_addend = true;
      drops_signaling_addend = false;
      flags_quiet_addend = true;
      has_unsigned = true;
      signed_of_nan = Zero;
      unsigned_of_nan = Zero;
      has_one_invalid_integer = false;
      invalid_integer_is_inexact = false;
      tiny_before_rounding = true;
      flush = Some FlushArm;
    }

abbrev pub arm_default_nan : Machine
arm_default_nan = record arm { nan_choice = AlwaysDefault; drops_signaling_addend = true }

abbrev pub arm_alternate : Machine
arm_alternate =
    record arm {
      nan_choice = First;
      default_is_negative = true;
      fused_order = FactorsFirst;
      drops_quiet_addend = false;
      flags_quiet_addend = false;
      tiny_before_rounding = false;
      flush = Some FlushX86;
    }

-- an infinity times a zero, plus a quiet NaN, raises no flag here either
abbrev pub arm_alternate_default_nan : Machine
arm_alternate_default_nan =
    record arm_alternate { nan_choice = AlwaysDefault; drops_quiet_addend = true; drops_signaling_addend = true }

abbrev pub risc_v : Machine
risc_v =
    record arm_default_nan {
      fused_order = FactorsFirst;
      signed_of_nan = Greatest;
      unsigned_of_nan = Greatest;
      tiny_before_rounding = false;
      flush = None;
    }

abbrev pub power : Machine
power =
    record arm {
      nan_choice = First;
      fused_order = AddendSecond;
      drops_quiet_addend = false;
      signed_of_nan = Least;
      flush = None;
    }

abbrev pub s390x : Machine
s390x =
    record arm {
      fused_order = FactorsFirst;
      drops_signaling_addend = true;
      signed_of_nan = Least;
      invalid_integer_is_inexact = true;
      flush = None;
    }

abbrev pub webassembly : Machine
webassembly = record risc_v { signed_of_nan = Zero; unsigned_of_nan = Zero }

abbrev pub ptx : Machine
ptx = record webassembly { default_payload = 2 ^ 128 - 1; flush = Some FlushX86 }

abbrev pub mips_2008 : Machine
mips_2008 = record arm { drops_quiet_addend = false; has_unsigned = false; tiny_before_rounding = false; flush = None }

abbrev pub loongarch : Machine
loongarch = record mips_2008 { has_unsigned = true }

abbrev pub sparc : Machine
sparc =
    record arm {
      nan_choice = SignalingLast;
      default_payload = 2 ^ 128 - 1;
      fused_order = FactorsFirst;
      drops_quiet_addend = false;
      has_unsigned = false;
      signed_of_nan = BySign;
      unsigned_of_nan = BySign;
      flush = None;
    }

abbrev pub m68k : Machine
m68k = record sparc { nan_choice = First; has_fused = false }

-- a machine whose result is always the default NaN does not keep a NaN that is added to an infinity times a zero
abbrev pub is_always_default : NanChoice → Bool
is_always_default AlwaysDefault = true
is_always_default First = false
is_always_default SignalingFirst = false
is_always_default SignalingLast = false
is_always_default Greater = false

abbrev pub checked : Machine → Result Machine Contradiction
checked machine =
    if is_always_default machine.nan_choice && not machine.drops_quiet_addend then Err QuietAddendKept
    else if is_always_default machine.nan_choice && not machine.drops_signaling_addend then Err SignalingAddendKept
    else Ok machine

abbrev pub machines : List Machine
machines =
    x86 ∷ x87 ∷ arm ∷ arm_default_nan ∷ arm_alternate ∷ arm_alternate_default_nan ∷ risc_v ∷ power ∷ s390x
    ∷ webassembly ∷ ptx ∷ mips_2008 ∷ loongarch ∷ sparc ∷ m68k ∷ []
