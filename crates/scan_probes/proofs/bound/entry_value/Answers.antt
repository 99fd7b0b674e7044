use Rattle.std.proofs.Common.{rules}
use Rattle.catalog.specs.work.Entries.{index_of}
use Rattle.scan_probes.proofs.EntryLemmas.{included_found, included_passed, key_found, key_passed}
use Rattle.scan_probes.proofs.bound.entry_value.Goals as goal

pub returns-then-index-c : goal.returns-then-index-c
returns-then-index-c c =
    key_found (index_of c.args.def.now) c.args.entry.now c.args.c c.requires c.loop-n.n c.index.result.now (search rules) c.index.ensures c.loop-n.invariant c.key.result.now c.key.ensures c.if-index-c.true

pub loop-n-preserved : goal.loop-n-preserved
loop-n-preserved c =
    key_passed (index_of c.args.def.now) c.args.entry.now c.args.c c.requires c.loop-n.n c.index.result.now (search rules) c.index.ensures c.loop-n.invariant c.if-index-c.false

pub returns-then-index-c-2 : goal.returns-then-index-c-2
returns-then-index-c-2 c =
    included_found (index_of c.args.def.now) c.args.entry.now c.args.c c.requires c.loop-n-2.n c.index-in-loop-n-2.result.now (search rules) c.index-in-loop-n-2.ensures c.loop-n-2.invariant c.include.result.now c.include.ensures c.if-index-c-2.true

pub loop-n-2-preserved : goal.loop-n-2-preserved
loop-n-2-preserved c =
    included_passed (index_of c.args.def.now) c.args.entry.now c.args.c c.requires c.loop-n-2.n c.index-in-loop-n-2.result.now (search rules) c.index-in-loop-n-2.ensures c.loop-n-2.invariant c.if-index-c-2.false
