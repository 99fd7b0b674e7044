use Rattle.std.proofs.Common.{◌∷◌, ◌+◌, ◌∙◌, List, drop, sym, ap}
use Rattle.pg_base.specs.declared.numbers.Tid.{Tid}
use Rattle.executor.proofs.SortLemmas.{next_kept}
use Rattle.executor.proofs.sorting.next_sorted.Goals as goal

pub returns-clause-some : goal.returns-clause-some
returns-clause-some c =
    next_kept c.args.sorting.now.kept.rows c.args.sorting.now.at c.get.result.now c.get.ensures.row
    ∙ ap (λ (t : List Tid). t ∷ drop (c.args.sorting.now.at + 1) c.args.sorting.now.kept.rows) (sym (c.from_vec.ensures ∙ c.in_ok-row.ensures.items))
