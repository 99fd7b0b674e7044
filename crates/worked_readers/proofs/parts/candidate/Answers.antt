use Rattle.worked_readers.proofs.parts.candidate.Goals as goal

pub read_cand-requires-clause-part : goal.read_cand-requires-clause-part
read_cand-requires-clause-part c = c.a_candidate_that_ends_is_one.ensures c.args.text.now c.in_ok-tokens.tokens 2 c.in_ok-end.end c.in_default.ensures.within c.in_ok-end.ensures
