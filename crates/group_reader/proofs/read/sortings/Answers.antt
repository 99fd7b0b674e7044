use Rattle.std.proofs.Common.{[], ◌∷◌, ◌++◌, refl, sym, ap, ◌∙◌, append-nil}
use Rattle.sql_grammar.specs.Words.{words_of_ordering, words_of_orderings}
use Rattle.expr_reader.specs.Lists.{further_parts}
use Rattle.query_reader.proofs.OrderLemmas.{more-orders}
use Rattle.group_reader.specs.work.Written.{sorting_of}
use Rattle.group_reader.proofs.WordLemmas.{order-comma, next-part, no-part, pushed}
use Rattle.group_reader.proofs.read.sortings.Goals as goal

pub sorting-requires : goal.sorting-requires
sorting-requires c =
    let (x, xs, rest, ends, is) = c.requires in
    (x, words_of_orderings xs ++ rest, more-orders xs rest ends, is)

pub more-init : goal.more-init
more-init c = λ x xs rest ends is.
    let read = c.in_ok-sorting.ensures.read x (words_of_orderings xs ++ rest) (more-orders xs rest ends) is in
    (xs, pushed [] c.push.new.self.items c.in_ok-sorting.field-0 (sorting_of x) (further_parts sorting_of xs) (sorting_of x ∷ further_parts sorting_of xs) (c.in_ok-push.ensures.items ∙ ap (λ l. l ++ c.in_ok-sorting.field-0 ∷ []) c.new-all.ensures.items) read.0 refl, read.1)

pub sorting-requires-in-more : goal.sorting-requires-in-more
sorting-requires-in-more c =
    let (x, xs, rest, ends, is) = c.requires in
    let (ys, whole, left) = c.more.invariant x xs rest ends is in
    let (t, took) = c.more-test.ensures.took refl in
    let next = next-part sorting_of words_of_ordering words_of_orderings refl (λ m x xs. refl) ys c.takes_mark.new.self (rest) t (order-comma rest ends) (sym took ∙ left) in
    (next.head, words_of_orderings next.others ++ rest, more-orders next.others rest ends, next.says)

pub more-preserved : goal.more-preserved
more-preserved c = λ x xs rest ends is.
    let (ys, whole, left) = c.more.invariant x xs rest ends is in
    let (t, took) = c.more-test.ensures.took refl in
    let next = next-part sorting_of words_of_ordering words_of_orderings refl (λ m x xs. refl) ys c.takes_mark.new.self (rest) t (order-comma rest ends) (sym took ∙ left) in
    let read = c.in_ok-sorting-2.ensures.read next.head (words_of_orderings next.others ++ rest) (more-orders next.others rest ends) next.says in
    let so = sym (ap (λ l. c.more.all.items ++ l) next.all) ∙ whole in
    (next.others, pushed c.more.all.items c.push-in-more.new.self.items c.in_ok-sorting-2.field-0 (sorting_of next.head) (further_parts sorting_of next.others) (sorting_of x ∷ further_parts sorting_of xs) c.in_ok-push-2.ensures.items read.0 so, read.1)

pub returns : goal.returns
returns c = λ x xs rest ends is.
    let (ys, whole, left) = c.more.invariant x xs rest ends is in
    let (none, ends) = no-part sorting_of words_of_ordering words_of_orderings refl (λ m x xs. refl) ys _ (rest) (c.more-test.ensures.other refl) left in
    (sym (append-nil _) ∙ (sym (ap (λ l. c.more.all.items ++ l) none) ∙ whole), c.more-test.ensures.left refl ∙ ends)
