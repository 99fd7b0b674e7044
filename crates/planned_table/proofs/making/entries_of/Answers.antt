use Rattle.sql_query.specs.Queries.{width}
use Rattle.planned_table.proofs.MakeLemmas.{below-at, entries-more, made-at}
use Rattle.planned_table.proofs.making.entries_of.Goals as goal

pub entry_of-requires-clause-below : goal.entry_of-requires-clause-below
entry_of-requires-clause-below c = below-at c.args.listed.now c.requires.below c.loop-n.n c.index-listed-n.result c.loop-n-test.true c.index-listed-n.is

pub entry_of-requires-clause-made : goal.entry_of-requires-clause-made
entry_of-requires-clause-made c = made-at (width c.args.q.now) c.args.listed.now c.requires.made c.loop-n.n c.index-listed-n.result c.loop-n-test.true c.index-listed-n.is

pub loop-n-preserved : goal.loop-n-preserved
loop-n-preserved c =
    entries-more (width c.args.q.now) c.args.listed.now c.loop-n.n c.index-listed-n.result c.loop-n-test.true c.index-listed-n.is c.loop-n.entries.items c.push.new.self.items c.in_ok-entry.entry
    c.in_ok-push.ensures.items c.loop-n.invariant c.in_ok-entry.ensures
