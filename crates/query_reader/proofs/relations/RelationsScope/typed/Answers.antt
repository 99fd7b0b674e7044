use Rattle.std.proofs.Common.{length, ap, subst, ◌∙◌, ◌<◌, ℕ, arith, List}
use Rattle.std.specs.Prelude.{slice_index_or}
use Rattle.std.proofs.lemmas.List.{get_or_default}
use Rattle.pg_base.specs.declared.numbers.TableNo.{TableNo}
use Rattle.catalog.specs.Contents.{table_at}
use Rattle.catalog.specs.Indexes.{no_column}
use Rattle.eq_classes.proofs.ListLemmas.{in_from_contains}
use Rattle.query_reader.proofs.BoundLemmas.{seen-column, seen-relation, seen-type}
use Rattle.query_reader.proofs.relations.RelationsScope.typed.Goals as goal

pub bounds-self-inside-c : goal.bounds-self-inside-c
bounds-self-inside-c c = (seen-column c.args.self.now c.self.inside.cat.now c.self.inside.range.now c.self.inside.first c.self.view_is c.self.invariant.0 c.args.c (in_from_contains _ _ c.requires)).relation

pub columns-requires : goal.columns-requires
columns-requires c =
    let of = seen-column c.args.self.now c.self.inside.cat.now c.self.inside.range.now c.self.inside.first c.self.view_is c.self.invariant.0 c.args.c (in_from_contains _ _ c.requires) in
    c.self.invariant.0.tables c.args.c.rel.0 c.index-self-c.result of.relation

pub bounds-items-c : goal.bounds-items-c
bounds-items-c c =
    let of = seen-column c.args.self.now c.self.inside.cat.now c.self.inside.range.now c.self.inside.first c.self.view_is c.self.invariant.0 c.args.c (in_from_contains _ _ c.requires) in
    let there = seen-relation c.args.self.now c.self.inside.cat.now c.self.inside.range.now c.self.inside.first c.self.view_is c.self.invariant.0 c.args.c c.index-self-c.result of.relation in
    let lt = subst (λ (r : TableNo × List ℕ). c.args.c.col.0 < length (table_at c.self.inside.cat.now r.0).columns) there of.column in
    omega (arith, lt, ap length (c.items.ensures.items ∙ c.columns.ensures))

pub returns : goal.returns
returns c =
    let of = seen-column c.args.self.now c.self.inside.cat.now c.self.inside.range.now c.self.inside.first c.self.view_is c.self.invariant.0 c.args.c (in_from_contains _ _ c.requires) in
    let there = seen-relation c.args.self.now c.self.inside.cat.now c.self.inside.range.now c.self.inside.first c.self.view_is c.self.invariant.0 c.args.c c.index-self-c.result of.relation in
    let lt = subst (λ (r : TableNo × List ℕ). c.args.c.col.0 < length (table_at c.self.inside.cat.now r.0).columns) there of.column in
    ap (λ x. x.typed) (get_or_default c.items.result.now c.args.c.col.0 _ no_column (omega (arith, lt, ap length (c.items.ensures.items ∙ c.columns.ensures))))
    ∙ (ap (λ xs. (slice_index_or xs c.args.c.col.0 no_column).typed) (c.items.ensures.items ∙ c.columns.ensures)
    ∙ seen-type c.args.self.now c.self.inside.cat.now c.self.inside.range.now c.self.inside.first c.self.view_is c.self.invariant.0 c.args.c c.index-self-c.result of.relation)
