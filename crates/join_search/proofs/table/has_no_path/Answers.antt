use Rattle.std.proofs.Common.{◌≡◌, ◌∙◌, List, [], ◌∷◌, length, sym, arith}
use Rattle.std.proofs.lemmas.Bool.{eqb-true}
use Rattle.plan_tree.specs.declared.path.Path.{Path as Costed}
use Rattle.join_search.proofs.table.has_no_path.Goals as goal
use Rattle.join_search.proofs.ItemLemmas.{nothing as empty-of}

pub returns : goal.returns
returns c = λ is. sym c.items.ensures.items ∙ empty-of c.items.result.now (eqb-true (length c.items.result.now) 0 (sym c.is_empty.ensures ∙ is))
