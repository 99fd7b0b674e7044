use Rattle.std.proofs.Common.{[], ◌∷◌, ◌++◌, refl, sym, ap, ◌∙◌, append-nil}
use Rattle.query_reader.specs.Written.{item_of, items_of}
use Rattle.query_reader.proofs.PartLemmas.{fronted, items-end, next-item, no-item, pushed}
use Rattle.query_reader.proofs.read.items.Goals as goal

pub list_item-requires : goal.list_item-requires
list_item-requires c =
    let (s, more, key, rest, is) = c.requires in
    (s, fronted more key rest, items-end more key rest, is)

pub more-init : goal.more-init
more-init c = λ s more key rest is.
    let read = c.in_ok-list_item.ensures.read s (fronted more key rest) (items-end more key rest) is in
    (more, pushed [] c.push.new.self.items c.in_ok-list_item.field-0 (item_of s) (items_of more) (item_of s ∷ items_of more) (c.in_ok-push.ensures.items ∙ ap (λ l. l ++ c.in_ok-list_item.field-0 ∷ []) c.new-all.ensures.items) read.0 refl, read.1)

pub list_item-requires-in-more : goal.list_item-requires-in-more
list_item-requires-in-more c =
    let (s, more, key, rest, is) = c.requires in
    let (ys, whole, left) = c.more.invariant s more key rest is in
    let (t, took) = c.more-test.ensures.took refl in
    let next = next-item ys c.takes_mark.new.self t key rest (sym took ∙ left) in
    (next.one, fronted next.more key rest, items-end next.more key rest, next.words)

pub more-preserved : goal.more-preserved
more-preserved c = λ s more key rest is.
    let (ys, whole, left) = c.more.invariant s more key rest is in
    let (t, took) = c.more-test.ensures.took refl in
    let next = next-item ys c.takes_mark.new.self t key rest (sym took ∙ left) in
    let read = c.in_ok-list_item-2.ensures.read next.one (fronted next.more key rest) (items-end next.more key rest) next.words in
    let so = sym (ap (λ l. c.more.all.items ++ l) next.all) ∙ whole in
    (next.more, pushed c.more.all.items c.push-in-more.new.self.items c.in_ok-list_item-2.field-0 (item_of next.one) (items_of next.more) (item_of s ∷ items_of more) c.in_ok-push-2.ensures.items read.0 so, read.1)

pub returns : goal.returns
returns c = λ s more key rest is.
    let (ys, whole, left) = c.more.invariant s more key rest is in
    let (none, ends) = no-item ys _ key rest (c.more-test.ensures.other refl) left in
    (sym (append-nil _) ∙ (sym (ap (λ l. c.more.all.items ++ l) none) ∙ whole), c.more-test.ensures.left refl ∙ ends)
