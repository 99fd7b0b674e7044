use Rattle.std.proofs.Common.{sym, ◌∙◌, arith}
use Rattle.group_reader.proofs.FoundLemmas.{part-found, part-passed, parts-passed, some-from}
use Rattle.pg_base.proofs.OptionLemmas.{is-none}
use Rattle.group_reader.proofs.lists.first_part.Goals as goal

pub loop-part-preserved : goal.loop-part-preserved
loop-part-preserved c =
    part-passed c.args.keys.now c.args.parts.now c.loop-part.part-index _ c.ungrouped_part-word.result _ c.loop-part-test.true c.ungrouped_part-word.ensures (is-none _ (sym c.is_some.ensures ∙ c.if-is_some.false)) c.loop-part.invariant

pub returns-then-is_some : goal.returns-then-is_some
returns-then-is_some c =
    let some = some-from c.ungrouped_part-word.result (sym c.is_some.ensures ∙ c.if-is_some.true) in
    part-found c.args.keys.now c.args.parts.now c.loop-part.part-index _ c.ungrouped_part-word.result some.0 _ c.loop-part-test.true c.ungrouped_part-word.ensures some.1 c.loop-part.invariant

pub returns : goal.returns
returns c = parts-passed c.args.keys.now c.args.parts.now c.loop-part.part-index _ (omega arith) c.loop-part.invariant
