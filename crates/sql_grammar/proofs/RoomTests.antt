-- Tests that a row of the table computes: the room that it takes, and where a statement's end stands.
use Rattle.std.proofs.Common.{ℕ, ◌+◌, ◌*◌, Bool, true, false, ◌&&◌, not, List, [], ◌∷◌, length, Some, None, cond, nat_le}
use Rattle.sql_grammar.specs.declared.class.Class.{Class}
use Rattle.sql_grammar.specs.declared.table.Item.{Item}
use Rattle.sql_grammar.specs.work.Table.{Expansion, GrammarRow, takes_end, is_ending, room_of}
use Rattle.sql_grammar.specs.work.Machine.{depth_of, is_empty, is_closed}

-- no more cells than the item's room
abbrev pub room_test : ℕ → List Item → Bool
room_test room [] = true
room_test room (i ∷ s) = nat_le (room_of i + length s) (room + 3 * depth_of s) && room_test room s

-- only an item that takes a statement's end takes one, and then nothing is left; any other token leaves such an item last
abbrev pub ending_test : Item → Class → List Item → Bool
ending_test i t is = cond (takes_end i) (cond (is_ending t) (is_empty is) (is_closed false true is)) (not (is_ending t) && is_closed true false is)

-- a row keeps within the item's room, opens one level at most, and keeps the statement's end last
abbrev pub row_test : Item → Class → Expansion → Bool
row_test i t None = true
row_test i t (Some is) = (nat_le (depth_of is) 1 && room_test (room_of i) is) && ending_test i t is

-- each of an item's rows does, also one that is not in the grammar
abbrev pub rows_test : Item → List GrammarRow → Bool
rows_test i [] = true
rows_test i (row ∷ rows) = row_test i row.0 (Some row.2) && rows_test i rows
