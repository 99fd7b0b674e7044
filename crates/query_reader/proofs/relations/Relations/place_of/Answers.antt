use Rattle.std.proofs.Common.{arith}
use Rattle.expr_reader.specs.Scope.{under}
use Rattle.query_reader.specs.work.Scope.{visible_in}
use Rattle.query_reader.proofs.RelationsLemmas.{hit, miss}
use Rattle.query_reader.proofs.relations.Relations.place_of.Goals as goal

pub returns-then-eq : goal.returns-then-eq
returns-then-eq c =
    hit c.args.self.now c.self.inside.cat.now c.self.inside.range.now c.self.inside.first c.self.view_is c.self.invariant.0 c.args.alias.now c.items.result.now c.loop-number.number c.index-self-number.result (under c.args.alias.now (visible_in c.args.self.now))
    (omega arith) c.items.ensures c.if-eq.ensures c.loop-number.invariant

pub loop-number-preserved : goal.loop-number-preserved
loop-number-preserved c =
    miss c.args.self.now c.self.inside.cat.now c.self.inside.range.now c.self.inside.first c.self.view_is c.self.invariant.0 c.args.alias.now c.items.result.now c.loop-number.number c.index-self-number.result (under c.args.alias.now (visible_in c.args.self.now))
    (omega arith) c.items.ensures c.if-eq.ensures c.loop-number.invariant
