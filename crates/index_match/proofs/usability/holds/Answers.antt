use Rattle.index_match.proofs.UsableLemmas.{held_by_key, held_beside}
use Rattle.index_match.proofs.usability.holds.Goals as goal

pub returns-then-is_key_column : goal.returns-then-is_key_column
returns-then-is_key_column c = held_by_key c.args.col.0 c.args.def.now.keys.items c.args.def.now.include.items c.is_key_column.result c.if-is_key_column.true c.is_key_column.ensures

pub returns-else-is_key_column : goal.returns-else-is_key_column
returns-else-is_key_column c =
    held_beside c.args.col.0 c.args.def.now.keys.items c.args.def.now.include.items c.is_key_column.result c.is_included.result c.if-is_key_column.false c.is_key_column.ensures c.is_included.ensures
