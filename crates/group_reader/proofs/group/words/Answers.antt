use Rattle.std.proofs.Common.{◌++◌}
use Rattle.sql_grammar.specs.Words.{words_of_order}
use Rattle.group_reader.proofs.OverLemmas.{order-columns, window-order}
use Rattle.group_reader.proofs.group.words.Goals as goal

pub group_columns-requires : goal.group_columns-requires
group_columns-requires c =
    let (b, y, rest, ends, is) = c.requires in
    (b, words_of_order y ++ rest, order-columns y rest ends, is)

pub sorts-requires : goal.sorts-requires
sorts-requires c =
    let (b, y, rest, ends, is) = c.requires in
    let read = c.in_ok-columns.ensures b (words_of_order y ++ rest) (order-columns y rest ends) is in
    (y, rest, window-order rest ends, read.1)

pub returns-clause-read : goal.returns-clause-read
returns-clause-read c = λ b y rest ends is.
    let read = c.in_ok-columns.ensures b (words_of_order y ++ rest) (order-columns y rest ends) is in
    let last = c.in_ok-sorts.ensures y rest (window-order rest ends) read.1 in
    (read.0, last.0)
