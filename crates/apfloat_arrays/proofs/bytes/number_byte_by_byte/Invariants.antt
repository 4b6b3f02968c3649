use Rattle.apfloat_arrays.proofs.LittleEndian.{IsReadDown}
use Rattle.apfloat_arrays.proofs.bytes.number_byte_by_byte.Given as goal

abbrev pub invariant-loop-place : goal.invariant-loop-place
invariant-loop-place l = IsReadDown l.bytes l.number l.place
