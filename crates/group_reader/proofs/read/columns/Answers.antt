use Rattle.std.proofs.Common.{[], ◌∷◌, ◌++◌, refl, sym, ap, ◌∙◌, append-nil}
use Rattle.sql_grammar.specs.Words.{words_of_col, words_of_group_columns}
use Rattle.expr_reader.specs.Lists.{further_parts}
use Rattle.group_reader.specs.work.Written.{column_written}
use Rattle.group_reader.proofs.WordLemmas.{columns-comma, columns-operand, next-part, no-part, pushed}
use Rattle.group_reader.proofs.read.columns.Goals as goal

pub column-requires : goal.column-requires
column-requires c =
    let (x, xs, rest, ends, is) = c.requires in
    (x, words_of_group_columns xs ++ rest, columns-operand xs rest ends, is)

pub more-init : goal.more-init
more-init c = λ x xs rest ends is.
    let read = c.in_ok-column.ensures.read x (words_of_group_columns xs ++ rest) (columns-operand xs rest ends) is in
    (xs, pushed [] c.push.new.self.items c.in_ok-column.field-0 (column_written x) (further_parts column_written xs) (column_written x ∷ further_parts column_written xs) (c.in_ok-push.ensures.items ∙ ap (λ l. l ++ c.in_ok-column.field-0 ∷ []) c.new-all.ensures.items) read.0 refl, read.1)

pub column-requires-in-more : goal.column-requires-in-more
column-requires-in-more c =
    let (x, xs, rest, ends, is) = c.requires in
    let (ys, whole, left) = c.more.invariant x xs rest ends is in
    let (t, took) = c.more-test.ensures.took refl in
    let next = next-part column_written words_of_col words_of_group_columns refl (λ m x xs. refl) ys c.takes_mark.new.self (rest) t (columns-comma rest ends) (sym took ∙ left) in
    (next.head, words_of_group_columns next.others ++ rest, columns-operand next.others rest ends, next.says)

pub more-preserved : goal.more-preserved
more-preserved c = λ x xs rest ends is.
    let (ys, whole, left) = c.more.invariant x xs rest ends is in
    let (t, took) = c.more-test.ensures.took refl in
    let next = next-part column_written words_of_col words_of_group_columns refl (λ m x xs. refl) ys c.takes_mark.new.self (rest) t (columns-comma rest ends) (sym took ∙ left) in
    let read = c.in_ok-column-2.ensures.read next.head (words_of_group_columns next.others ++ rest) (columns-operand next.others rest ends) next.says in
    let so = sym (ap (λ l. c.more.all.items ++ l) next.all) ∙ whole in
    (next.others, pushed c.more.all.items c.push-in-more.new.self.items c.in_ok-column-2.field-0 (column_written next.head) (further_parts column_written next.others) (column_written x ∷ further_parts column_written xs) c.in_ok-push-2.ensures.items read.0 so, read.1)

pub returns : goal.returns
returns c = λ x xs rest ends is.
    let (ys, whole, left) = c.more.invariant x xs rest ends is in
    let (none, ends) = no-part column_written words_of_col words_of_group_columns refl (λ m x xs. refl) ys _ (rest) (c.more-test.ensures.other refl) left in
    (sym (append-nil _) ∙ (sym (ap (λ l. c.more.all.items ++ l) none) ∙ whole), c.more-test.ensures.left refl ∙ ends)
