use Rattle.catalog.proofs.AnalysedLemmas.{all-seen, allowed-more, refusal-at, typed-here}
use Rattle.catalog.proofs.sizes.refused_column.Goals as goal

pub first_refused-requires : goal.first_refused-requires
first_refused-requires c = typed-here c.requires.0 c.args.columns.now c.loop-column.column-index c.column-item.result c.requires.1 c.loop-column-test.true c.column-item.is

pub loop-column-preserved : goal.loop-column-preserved
loop-column-preserved c = allowed-more c.args.columns.now c.loop-column.column-index c.column-item.result c.loop-column-test.true c.column-item.is c.loop-column.invariant c.in_default.ensures

pub returns-in-Some : goal.returns-in-Some
returns-in-Some c = refusal-at c.args.columns.now c.loop-column.column-index c.column-item.result c.in-Some.place c.loop-column-test.true c.column-item.is c.loop-column.invariant c.in-Some.ensures

pub returns : goal.returns
returns c = all-seen c.args.columns.now c.loop-column.column-index c.loop-column-test.false c.loop-column.invariant
