use Rattle.join_search.proofs.merges.are_past.Goals as goal

pub returns : goal.returns
returns c = λ is. c.is_past.ensures is
