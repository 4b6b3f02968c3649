use Rattle.std.proofs.Common.{◌≡◌, ◌+◌, ◌-◌, ◌*◌, length, ◌∙◌, arith}
use Rattle.apfloat_arrays.proofs.{Places.place_size, stored_lemmas.CodeTables.entry_copied}
use borrow.Rule.Slice.PartMut.{same_len_mid}
use Rattle.apfloat_arrays.proofs.stored.code_tables.copy_codes.Goals as goal

pub loop-place-preserved : goal.loop-place-preserved
loop-place-preserved c =
    let past = c.loop-place.invariant.0 in
    let within = c.loop-place-test.true in
    let long = c.loop-place.invariant.1 in
    let size : length c.copy_from_slice-in-loop-place.new.self ≡ 8 =
    c.copy_from_slice-in-loop-place.auto.self
    ∙ place_size 8 c.loop-place.place 256 c.loop-place.table within long in (
      omega (arith, past),
      same_len_mid (c.loop-place.place * 8) (c.loop-place.place * 8 + 8 - c.loop-place.place * 8) c.loop-place.table
          c.copy_from_slice-in-loop-place.new.self c.copy_from_slice-in-loop-place.auto.self ∙ long,
      λ overflow format d mode codes_are filled.
          entry_copied overflow format d mode c.args.codes c.loop-place.place c.loop-place.table
          c.copy_from_slice-in-loop-place.new.self codes_are past within long size
          (c.copy_from_slice-in-loop-place.ensures.after ∙ c.copy_from_slice.ensures.after)
          (c.loop-place.invariant.2 overflow format d mode codes_are filled),
    )
