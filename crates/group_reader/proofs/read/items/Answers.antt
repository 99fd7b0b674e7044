use Rattle.std.proofs.Common.{[], ◌∷◌, ◌++◌, refl, sym, ap, ◌∙◌, append-nil}
use Rattle.sql_grammar.specs.Terminals.{t_key}
use Rattle.sql_grammar.specs.declared.class.Word.TheVariants.{From}
use Rattle.sql_grammar.specs.Words.{words_of_grouped_item, words_of_grouped_items}
use Rattle.expr_reader.specs.Lists.{further_parts}
use Rattle.group_reader.specs.work.Written.{listed_of}
use Rattle.group_reader.proofs.WordLemmas.{from-comma, items-listed, next-part, no-part, pushed}
use Rattle.group_reader.proofs.read.items.Goals as goal

pub listed-requires : goal.listed-requires
listed-requires c =
    let (x, xs, f, rest, is) = c.requires in
    (x, words_of_grouped_items xs ++ t_key From f ∷ rest, items-listed xs f rest, is)

pub more-init : goal.more-init
more-init c = λ x xs f rest is.
    let read = c.in_ok-listed.ensures.read x (words_of_grouped_items xs ++ t_key From f ∷ rest) (items-listed xs f rest) is in
    (xs, pushed [] c.push.new.self.items c.in_ok-listed.field-0 (listed_of x) (further_parts listed_of xs) (listed_of x ∷ further_parts listed_of xs) (c.in_ok-push.ensures.items ∙ ap (λ l. l ++ c.in_ok-listed.field-0 ∷ []) c.new-all.ensures.items) read.0 refl, read.1)

pub listed-requires-in-more : goal.listed-requires-in-more
listed-requires-in-more c =
    let (x, xs, f, rest, is) = c.requires in
    let (ys, whole, left) = c.more.invariant x xs f rest is in
    let (t, took) = c.more-test.ensures.took refl in
    let next = next-part listed_of words_of_grouped_item words_of_grouped_items refl (λ m x xs. refl) ys c.takes_mark.new.self (t_key From f ∷ rest) t (from-comma f rest) (sym took ∙ left) in
    (next.head, words_of_grouped_items next.others ++ t_key From f ∷ rest, items-listed next.others f rest, next.says)

pub more-preserved : goal.more-preserved
more-preserved c = λ x xs f rest is.
    let (ys, whole, left) = c.more.invariant x xs f rest is in
    let (t, took) = c.more-test.ensures.took refl in
    let next = next-part listed_of words_of_grouped_item words_of_grouped_items refl (λ m x xs. refl) ys c.takes_mark.new.self (t_key From f ∷ rest) t (from-comma f rest) (sym took ∙ left) in
    let read = c.in_ok-listed-2.ensures.read next.head (words_of_grouped_items next.others ++ t_key From f ∷ rest) (items-listed next.others f rest) next.says in
    let so = sym (ap (λ l. c.more.all.items ++ l) next.all) ∙ whole in
    (next.others, pushed c.more.all.items c.push-in-more.new.self.items c.in_ok-listed-2.field-0 (listed_of next.head) (further_parts listed_of next.others) (listed_of x ∷ further_parts listed_of xs) c.in_ok-push-2.ensures.items read.0 so, read.1)

pub returns : goal.returns
returns c = λ x xs f rest is.
    let (ys, whole, left) = c.more.invariant x xs f rest is in
    let (none, ends) = no-part listed_of words_of_grouped_item words_of_grouped_items refl (λ m x xs. refl) ys _ (t_key From f ∷ rest) (c.more-test.ensures.other refl) left in
    (sym (append-nil _) ∙ (sym (ap (λ l. c.more.all.items ++ l) none) ∙ whole), c.more-test.ensures.left refl ∙ ends)
