use Rattle.arrays_for_c.proofs.storage_operations.operated_codes.Goals as goal

pub returns : goal.returns
returns g c =
    let made = c.operated-answer.ensures in
    let stored = rw (c.number_in.ensures, c.number_in-2.ensures, c.number_in-3.ensures) at made in
    record {
      lawful = g.F.StorageFormat.lawful;
      is_stored = rw (c.and.ensures.value, c.to_bits.ensures.code, c.and.ensures.status) stored;
      fits = rw c.and.ensures.value c.to_bits.ensures.below;
    }
