use Rattle.std.proofs.Common.{List, ap, sym, subst, ◌∙◌, Result}
use Rattle.pg_base.specs.declared.faults.Fault.{Fault}
use Rattle.pg_expr.specs.declared.operand.ColRef.{ColRef}
use Rattle.expr_reader.specs.Scope.{under}
use Rattle.query_reader.specs.work.Adds.{Adds}
use Rattle.query_reader.specs.Binding.{found_relation}
use Rattle.query_reader.specs.work.Scope.{own_columns, visible_in}
use Rattle.query_reader.proofs.RelationsLemmas.{all-there, filled, lawful-relations}
use Rattle.query_reader.proofs.relations.Relations.add_under.Goals as goal

pub returns-in-Some : goal.returns-in-Some
returns-in-Some c =
    let (within, there) = c.in-Some.ensures in
    let own = own_columns c.args.self.now c.in-Some.number in
    let token = c.args.qualifier.now.token in
    let same = ap (λ s. found_relation s token) (ap (λ q. under q (visible_in c.args.self.now)) (sym c.items.ensures) ∙ there) ∙ all-there own token (filled c.args.self.now c.in-Some.number (lawful-relations c.args.self.now c.self.inside.cat.now c.self.inside.range.now c.self.inside.first c.self.view_is c.self.invariant.0) within) in
    subst (λ (r : Result (List ColRef) Fault). Adds r c.args.all.now.items c.add_relation.new.all.items c.add_relation.result) (sym same) c.add_relation.ensures
