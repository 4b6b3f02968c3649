use Rattle.small_formats.proofs.blocks.elements.quotient_code.Goals as goal

pub returns-in-E5M2-clause-code : goal.returns-in-E5M2-clause-code
returns-in-E5M2-clause-code g c = rw (c.in-E5M2.is) c.ieee_quotient.ensures.code

pub returns-in-E4M3FN-clause-code : goal.returns-in-E4M3FN-clause-code
returns-in-E4M3FN-clause-code g c = rw (c.in-E4M3FN.is) c.ieee_quotient-in-E4M3FN.ensures.code

pub returns-in-E3M2FN-clause-code : goal.returns-in-E3M2FN-clause-code
returns-in-E3M2FN-clause-code g c = rw (c.in-E3M2FN.is) c.stored_quotient.ensures.code

pub returns-in-E2M3FN-clause-code : goal.returns-in-E2M3FN-clause-code
returns-in-E2M3FN-clause-code g c = rw (c.in-E2M3FN.is) c.stored_quotient-in-E2M3FN.ensures.code

pub returns-in-E2M1FN-clause-code : goal.returns-in-E2M1FN-clause-code
returns-in-E2M1FN-clause-code g c = rw (c.in-E2M1FN.is) c.stored_quotient-in-E2M1FN.ensures.code
