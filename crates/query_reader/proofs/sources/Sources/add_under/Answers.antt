use Rattle.std.proofs.Common.{ap, sym, subst, ◌∙◌, All, map, length, nat_lt}
use Rattle.pg_base.specs.declared.limits.TheConstants.{MOST_RELATIONS}
use Rattle.pg_expr.specs.work.View.{cond}
use Rattle.catalog.specs.Contents.{IsTable, IsLawfulTable, table_at}
use Rattle.catalog.specs.Range.{Range}
use Rattle.path_cost.specs.work.Columns.{IsOver}
use Rattle.query_reader.specs.From.{Joined, is_taken}
use Rattle.query_reader.specs.work.From.{AreRelations}
use Rattle.query_reader.proofs.SourceLemmas.{all-over-more, more-relations}
use Rattle.query_reader.proofs.sources.Sources.add_under.Goals as goal

pub invariant_of-self-2 : goal.invariant_of-self-2
invariant_of-self-2 c =
    let cat = c.self.inside.cat.now in
    let range = c.self.inside.relations.items in
    let alias = c.bytes_of.result in
    let es = map cond c.self.inside.written.items in
    let room = ap (λ (j : Joined). nat_lt (length j.range) MOST_RELATIONS) c.self.view_is ∙ c.requires.room in
    let table = subst (λ (j : Joined). IsTable j.contents c.args.table) (sym c.self.view_is) c.requires.table in
    let lawful = subst (λ (j : Joined). IsLawfulTable (table_at j.contents c.args.table)) (sym c.self.view_is) c.requires.lawful in
    let free = ap (λ (j : Joined). is_taken j.range alias) c.self.view_is ∙ (ap (is_taken c.args.self.now.range) (c.bytes_of.ensures ∙ sym c.items.ensures) ∙ (sym c.is_taken.ensures ∙ c.if-is_taken.false)) in
    subst (λ (r : Range). AreRelations cat r × All (IsOver cat r) es) (sym c.in_ok-push.ensures.items)
    (more-relations cat range c.args.table alias c.self.invariant.0 room table lawful free, all-over-more cat range c.args.table alias es c.self.invariant.1)
