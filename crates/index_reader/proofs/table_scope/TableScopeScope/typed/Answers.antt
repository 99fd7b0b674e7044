use Rattle.std.proofs.Common.{length, ap, ◌∙◌, arith}
use Rattle.std.specs.Prelude.{slice_index_or}
use Rattle.std.proofs.lemmas.List.{get_or_default}
use Rattle.catalog.specs.Indexes.{no_column}
use Rattle.index_reader.specs.Visible.{Sight, sight_type}
use Rattle.index_reader.proofs.VisibleLemmas.{column-seen}
use Rattle.index_reader.proofs.table_scope.TableScopeScope.typed.Goals as goal

pub bounds-items-c : goal.bounds-items-c
bounds-items-c c =
    let lt = column-seen c.args.self.now c.self.inside.cat.now c.self.inside.table c.self.inside.alias.now c.self.view_is c.self.invariant.1 c.args.c c.requires in
    omega (arith, lt, ap length (c.items.ensures.items ∙ c.columns.ensures))

pub returns : goal.returns
returns c =
    let lt = column-seen c.args.self.now c.self.inside.cat.now c.self.inside.table c.self.inside.alias.now c.self.view_is c.self.invariant.1 c.args.c c.requires in
    ap (λ x. x.typed) (get_or_default c.items.result.now c.args.c.col.0 _ no_column (omega (arith, lt, ap length (c.items.ensures.items ∙ c.columns.ensures))))
    ∙ ap (λ xs. (slice_index_or xs c.args.c.col.0 no_column).typed) (c.items.ensures.items ∙ c.columns.ensures)
    ∙ ap (λ (s : Sight). sight_type s c.args.c) c.self.view_is
