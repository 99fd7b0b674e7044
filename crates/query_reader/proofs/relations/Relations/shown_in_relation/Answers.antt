use Rattle.query_reader.specs.work.Scope.{own_columns}
use Rattle.query_reader.proofs.RelationsLemmas.{shown-one, hidden-one}
use Rattle.std.proofs.Common.{sym, ◌∙◌}
use Rattle.query_reader.proofs.relations.Relations.shown_in_relation.Goals as goal

pub returns-then-has : goal.returns-then-has
returns-then-has c = shown-one c.args.select.now c.args.name.now (own_columns c.args.self.now c.args.number) c.in_ok-column.column c.in_ok-column.ensures (sym c.has.ensures ∙ c.if-has.true)

pub returns-else-has : goal.returns-else-has
returns-else-has c = hidden-one c.args.select.now c.args.name.now (own_columns c.args.self.now c.args.number) c.in_ok-column.column c.in_ok-column.ensures (sym c.if-has.ensures)
