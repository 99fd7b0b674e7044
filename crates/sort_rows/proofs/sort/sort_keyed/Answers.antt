use Rattle.std.proofs.Common.{rules, ap, map}
use Rattle.std.specs.Result.{is_err}
use Rattle.pg_value.proofs.SortByLemmas.{sorted_by_closure}
use Rattle.sort_rows.specs.work.Keyed.{keyed_order}
use Rattle.sort_rows.proofs.OrderLemmas.{keyed_total}
use Rattle.sort_rows.proofs.sort.sort_keyed.Goals as goal

pub returns : goal.returns
returns c =
    let keys = map (λ v. v.now) c.args.keys.now in
    sorted_by_closure (keyed_order c.args.columns.now keys) (keyed_total c.args.columns.now keys) c.args.items.now.items c.sort_by.new.self.items c.sort_by.result
    (ap is_err c.in_ok-sort_by.was) c.sort_by.ensures.sorted c.sort_by.ensures.stable (λ a r q k. search rules)
