use Rattle.check_reply.proofs.TextLemmas.{fault-same, no-fault, reason-same}
use Rattle.check_reply.proofs.laws.reasons_have_their_own_texts.Goals as goal

pub returns-clause-reasons : goal.returns-clause-reasons
returns-clause-reasons z = λ c q t r o text a b plain h g. reason-same c q t r o text a b plain h g

pub returns-clause-faults : goal.returns-clause-faults
returns-clause-faults z = λ c q t r line h. no-fault c q t r line h

pub returns-clause-lines : goal.returns-clause-lines
returns-clause-lines z = λ n m a b e. fault-same n m a b e
