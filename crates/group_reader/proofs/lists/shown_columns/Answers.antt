use Rattle.std.proofs.Common.{arith}
use Rattle.group_reader.specs.Binding.{shown_column}
use Rattle.group_reader.proofs.FoundLemmas.{found-all, found-more}
use Rattle.group_reader.proofs.lists.shown_columns.Goals as goal

pub loop-part-preserved : goal.loop-part-preserved
loop-part-preserved c = found-more shown_column c.loop-part.all.items c.add_found.new.all.items _ _ c.args.parts.now c.loop-part.part-index _ c.loop-part-test.true c.shown.ensures c.in_ok-add_found.ensures c.loop-part.invariant

pub returns : goal.returns
returns c = found-all shown_column c.loop-part.all.items _ c.args.parts.now c.loop-part.part-index (omega arith) c.loop-part.invariant
