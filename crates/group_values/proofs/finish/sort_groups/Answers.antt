use Rattle.std.proofs.Common.{rules, ap, map}
use Rattle.std.specs.Result.{is_err}
use Rattle.pg_value.specs.Sorting.{one_after_other}
use Rattle.pg_value.proofs.SortByLemmas.{sorted_by_closure}
use Rattle.group_values.specs.Groups.{sorter_order}
use Rattle.group_values.proofs.OrderLemmas.{sorters_total}
use Rattle.group_values.proofs.finish.sort_groups.Goals as goal

pub returns : goal.returns
returns c =
    sorted_by_closure (one_after_other (map sorter_order c.args.order.now)) (sorters_total c.args.order.now) c.args.groups.now.items c.sort_by.new.self.items c.sort_by.result
    (ap is_err c.in_ok-sort_by.was) c.sort_by.ensures.sorted c.sort_by.ensures.stable (λ a r q k. search rules)
