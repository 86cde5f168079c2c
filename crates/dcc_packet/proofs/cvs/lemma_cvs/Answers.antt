use Rattle.dcc_packet.proofs.cvs.lemma_cvs.Goals as goal

pub returns : goal.returns
returns c = record { count = c.told-cvs; bytes = c.fits-cvs }
