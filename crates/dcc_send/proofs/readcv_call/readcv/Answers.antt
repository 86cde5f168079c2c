use Rattle.dcc_send.proofs.readcv_call.readcv.Goals as goal

pub returns-in-Some-clause-cvs : goal.returns-in-Some-clause-cvs
returns-in-Some-clause-cvs g c = rw c.in-Some.is c.read.ensures.cvs

pub returns-in-Some-clause-asked : goal.returns-in-Some-clause-asked
returns-in-Some-clause-asked g c = rw c.in-Some.is c.read.ensures.asked
