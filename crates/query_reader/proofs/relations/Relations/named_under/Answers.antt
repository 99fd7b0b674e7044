use Rattle.std.proofs.Common.{ap}
use Rattle.expr_reader.specs.Scope.{the_one}
use Rattle.expr_reader.specs.declared.found.Found.TheVariants.{NoColumn}
use Rattle.query_reader.specs.work.Scope.{own_columns, visible_in}
use Rattle.query_reader.proofs.RelationsLemmas.{filled, lawful-relations, under-one}
use Rattle.query_reader.proofs.relations.Relations.named_under.Goals as goal

pub returns-in-None : goal.returns-in-None
returns-in-None c =
    let (within, under) = c.in-Some.ensures in
    under-one (visible_in c.args.self.now) (own_columns c.args.self.now c.in-Some.number) c.args.alias.now c.args.name.now NoColumn under
    (filled c.args.self.now c.in-Some.number (lawful-relations c.args.self.now c.self.inside.cat.now c.self.inside.range.now c.self.inside.first c.self.view_is c.self.invariant.0) within) (ap the_one c.in-None.ensures)
