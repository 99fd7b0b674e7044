use Rattle.std.proofs.Common.{sym, ap, ◌∙◌}
use Rattle.query_reader.proofs.RelationsLemmas.{found_number}
use Rattle.index_reader.proofs.VisibleLemmas.{first_relation, named-in}
use Rattle.index_reader.proofs.table_scope.TableScope.named.Goals as goal

pub returns-in-Some : goal.returns-in-Some
returns-in-Some c =
    ap (found_number first_relation) (sym c.in-Some.is ∙ c.column.ensures.named) ∙ named-in c.args.self.now c.self.inside.cat.now c.self.inside.table c.self.inside.alias.now c.self.view_is c.self.invariant.1 c.args.name.now

pub returns-in-None : goal.returns-in-None
returns-in-None c =
    ap (found_number first_relation) (sym c.in-None.is ∙ c.column.ensures.named) ∙ named-in c.args.self.now c.self.inside.cat.now c.self.inside.table c.self.inside.alias.now c.self.view_is c.self.invariant.1 c.args.name.now
