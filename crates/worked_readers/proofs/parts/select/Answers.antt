use Rattle.worked_readers.proofs.parts.select.Goals as goal

pub read_part-requires-clause-part : goal.read_part-requires-clause-part
read_part-requires-clause-part c = c.a_select_that_ends_is_a_part.ensures c.args.text.now c.in_ok-tokens.tokens 1 c.in_ok-end.end c.in_default.ensures.within c.in_ok-end.ensures
