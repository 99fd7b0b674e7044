use Rattle.std.proofs.Common.{◌∙◌, sym}
use Rattle.join_search.proofs.ListLemmas.{lists-none}
use Rattle.join_search.proofs.lists.lists_among.Goals as goal

pub returns-then-is_empty : goal.returns-then-is_empty
returns-then-is_empty c = c.new.ensures.items ∙ lists-none c.args.classes.now (sym c.is_empty.ensures ∙ c.if-is_empty.true)
