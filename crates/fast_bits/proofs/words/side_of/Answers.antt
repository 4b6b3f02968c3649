use Rattle.fast_bits.proofs.words.side_of.Goals as goal

pub returns : goal.returns
returns c = record { addend = c.addend_of.ensures; out = c.leads_past.ensures }
