use Rattle.std.proofs.Common.{sym, ◌∙◌}
use Rattle.index_reader.proofs.VisibleLemmas.{named-under, not-under}
use Rattle.index_reader.proofs.table_scope.TableScope.named_under.Goals as goal

pub returns-then-eq : goal.returns-then-eq
returns-then-eq c =
    c.named.ensures ∙ named-under c.args.self.now c.self.inside.cat.now c.self.inside.table c.self.inside.alias.now c.self.view_is c.self.invariant.1 c.args.alias.now c.args.name.now (sym c.if-eq.ensures)

pub returns-else-eq : goal.returns-else-eq
returns-else-eq c =
    not-under c.args.self.now c.self.inside.cat.now c.self.inside.table c.self.inside.alias.now c.self.view_is c.self.invariant.1 c.args.alias.now c.args.name.now (sym c.if-eq.ensures)
