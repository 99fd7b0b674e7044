use Rattle.std.proofs.Common.{Bor, rules, ap, subst, sym}
use Rattle.std.specs.Result.{is_err}
use Rattle.std.proofs.lemmas.Cmp.{on_total}
use Rattle.std.proofs.lemmas.List.Sorted.{IsPermutation-map}
use Rattle.pg_value.specs.Sorting.{IsInOrder}
use Rattle.pg_value.proofs.SortByLemmas.{sorted_by_closure}
use Rattle.pg_value.proofs.SortingLemmas.{in_order_is}
use Rattle.plan_tree.specs.declared.path.Path.{Path as Costed}
use Rattle.certificate_laws.specs.work.Printing.{path_order}
use Rattle.planned_table.proofs.MakeLemmas.{one}
use Rattle.planned_table.proofs.OrderLemmas.{order-mapped, path-total}
use Rattle.planned_table.proofs.printing.sort_paths.Goals as goal

pub returns-clause-ordered : goal.returns-clause-ordered
returns-clause-ordered c =
    let order = λ (a b : Bor Costed). path_order (one a) (one b) in
    let total = on_total one path-total in
    let sorted = sorted_by_closure order total c.args.listed.now.items c.sort_by.new.self.items c.sort_by.result
    (ap is_err c.in_ok-sort_by.was) c.sort_by.ensures.sorted c.sort_by.ensures.stable (λ a r q k. search rules) in
    order-mapped one path_order c.sort_by.new.self.items (subst (IsInOrder order) (sym sorted) (in_order_is order total c.args.listed.now.items))

pub returns-clause-same : goal.returns-clause-same
returns-clause-same c = IsPermutation-map one c.args.listed.now.items c.sort_by.new.self.items c.sort_by.ensures.permutation
