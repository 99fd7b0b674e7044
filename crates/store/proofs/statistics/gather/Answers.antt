use Rattle.std.proofs.Common.{◌≡◌, ◌≤◌, ◌+◌, ◌∙◌, length, subst, sym}
use Rattle.heap.specs.Stored.{Stored}
use Rattle.store.proofs.GatherLemmas.{fits, here, is-kept, kept, never-refused, store-kept, there}
use Rattle.store.proofs.statistics.gather.Goals as goal

pub heap-requires : goal.heap-requires
heap-requires g c = there c.args.catalog.now c.args.store.now c.requires.store c.args.table c.requires.table

pub returns-in_err-found-clause-fewer : goal.returns-in_err-found-clause-fewer
returns-in_err-found-clause-fewer g c =
    let same = here c.args.catalog.now c.args.store.now c.requires.store c.args.table c.requires.table c.heap.result.now c.heap.ensures in
    subst (λ (x : Stored). c.analyze_table.new.looks ≤ c.args.reads.now + length x.rows) same c.analyze_table.ensures.most

pub replace_stats-requires-clause-values : goal.replace_stats-requires-clause-values
replace_stats-requires-clause-values g c =
    fits c.args.catalog.now c.args.store.now c.requires.store c.args.table c.requires.table c.heap.result.now c.heap.ensures c.in_ok-found.found c.in_ok-found.ensures.statistics

pub unreachable-requires : goal.unreachable-requires
unreachable-requires g c =
    never-refused c.args.catalog.now c.args.store.now c.requires.store c.args.table c.requires.table c.heap.result.now c.heap.ensures c.in_ok-found.found c.in_ok-found.ensures.statistics
    c.replace_stats.result c.replace_stats.ensures.cause (sym c.is_err.ensures.value ∙ c.if-is_err.true)

pub returns-clause-gathered : goal.returns-clause-gathered
returns-clause-gathered g c =
    let cat = c.args.catalog.now in
    let k = c.args.store.now in
    let h = c.heap.result.now in
    let s = c.in_ok-found.found in
    let made = is-kept cat k c.requires.store c.args.table c.requires.table h c.heap.ensures s c.in_ok-found.ensures.statistics c.replace_stats.result c.replace_stats.new.self c.replace_stats.ensures.cause c.replace_stats.ensures.kept in
    kept cat k c.requires.store c.args.table c.requires.table h c.heap.ensures s c.in_ok-found.ensures.statistics c.replace_stats.new.self made

pub returns-clause-store : goal.returns-clause-store
returns-clause-store g c =
    let cat = c.args.catalog.now in
    let k = c.args.store.now in
    let h = c.heap.result.now in
    let s = c.in_ok-found.found in
    let made = is-kept cat k c.requires.store c.args.table c.requires.table h c.heap.ensures s c.in_ok-found.ensures.statistics c.replace_stats.result c.replace_stats.new.self c.replace_stats.ensures.cause c.replace_stats.ensures.kept in
    store-kept cat k c.requires.store c.args.table c.requires.table h c.heap.ensures s c.in_ok-found.ensures.statistics c.replace_stats.new.self made

pub returns-clause-looks : goal.returns-clause-looks
returns-clause-looks g c =
    let same = here c.args.catalog.now c.args.store.now c.requires.store c.args.table c.requires.table c.heap.result.now c.heap.ensures in
    subst (λ (x : Stored). c.analyze_table.new.looks ≡ c.args.reads.now + length x.rows) same c.in_ok-found.ensures.cost

pub returns-clause-fewer : goal.returns-clause-fewer
returns-clause-fewer g c =
    let same = here c.args.catalog.now c.args.store.now c.requires.store c.args.table c.requires.table c.heap.result.now c.heap.ensures in
    subst (λ (x : Stored). c.analyze_table.new.looks ≤ c.args.reads.now + length x.rows) same c.analyze_table.ensures.most
