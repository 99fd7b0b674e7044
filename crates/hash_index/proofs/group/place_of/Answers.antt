-- The place is behind the numbers that do not stand after the one put in, so they rise with it.
use Rattle.std.proofs.Common.{not, rules, subst, sym, ◌++◌, ◌∷◌, []}
use Rattle.std.specs.Ordering.{is_gt, on, nat_cmp}
use Rattle.std.proofs.lemmas.Cmp.{on_total, nat_cmp_total}
use Rattle.std.proofs.lemmas.List.Sorted.{IsPartitionPoint-from_clause}
use Rattle.pg_base.specs.declared.numbers.Tid.{Tid}
use Rattle.pg_value.proofs.SortingLemmas.{before_first, in_order_is, placed_in_order}
use Rattle.hash_index.specs.work.Groups.{AreRising}
use Rattle.hash_index.proofs.group.place_of.Goals as goal

pub returns-clause-rising : goal.returns-clause-rising
returns-clause-rising c =
    let order = on (λ (t : Tid). t.0) nat_cmp in
    let total = on_total (λ (t : Tid). t.0) nat_cmp_total in
    let ts = c.args.tids.now in
    subst AreRising (sym (placed_in_order order total c.args.t ts c.partition_point.result c.requires c.partition_point.ensures.bound
    (IsPartitionPoint-from_clause (λ (x : Tid). not (is_gt (order x c.args.t))) ts c.partition_point.result c.partition_point.ensures.partitioned
    (before_first order total c.args.t ts c.requires) (λ a r q e. search rules))))
    (in_order_is order total (ts ++ c.args.t ∷ []))
