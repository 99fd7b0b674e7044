use Rattle.std.proofs.Common.{Ok, subst}
use Rattle.expr_reader.specs.Scope.{Scope, columns_in_scope}
use Rattle.query_reader.specs.work.Adds.{Adds}
use Rattle.query_reader.proofs.RelationsLemmas.{inside, own-of}
use Rattle.query_reader.proofs.relations.Relations.add_relation.Goals as goal

pub returns : goal.returns
returns c =
    subst (λ (own : Scope). Adds (Ok (columns_in_scope own)) c.args.all.now.items c.add_columns.new.all.items c.add_columns.result)
    (own-of c.args.self.now c.self.inside.cat.now c.self.inside.range.now c.self.inside.first c.self.view_is c.self.invariant.0 c.args.number c.index-self-number.result (inside c.args.self.now c.self.inside.cat.now c.self.inside.range.now c.self.inside.first c.self.view_is c.self.invariant.0 c.args.number c.requires))
    (c.add_columns.ensures _)
