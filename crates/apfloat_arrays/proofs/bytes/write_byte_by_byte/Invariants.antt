use Rattle.apfloat_arrays.proofs.LittleEndian.{IsWrittenUp}
use Rattle.apfloat_arrays.proofs.bytes.write_byte_by_byte.Given as goal

abbrev pub invariant-loop-place : goal.invariant-loop-place
invariant-loop-place l = IsWrittenUp l.number l.rest l.place l.bytes
