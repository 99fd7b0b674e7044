use Rattle.std.proofs.Common.{◌∷◌, drop, refl, sym, ap, ◌∙◌}
use Rattle.expr_reader.specs.Lists.{further_parts}
use Rattle.ddl_reader.specs.declared.types.Numbers.TheVariants as numbers
use Rattle.ddl_reader.specs.work.Columns.{numbers_read, words_left}
use Rattle.ddl_reader.proofs.TypeLemmas.{after-comma, no-comma, number-taken}
use Rattle.ddl_reader.proofs.types.behind_one.Goals as goal

pub number-second-requires : goal.number-second-requires
number-second-requires c =
    let (ns, m, rest, is) = c.requires in
    let (t, took) = c.if-takes_mark.ensures.took refl in
    let a = after-comma ns m rest c.args.from.now c.takes_mark.new.self t took is in
    (a.number, words_left a.more m rest, a.words)

pub behind_two-requires : goal.behind_two-requires
behind_two-requires c =
    let (ns, m, rest, is) = c.requires in
    let (t, took) = c.if-takes_mark.ensures.took refl in
    let a = after-comma ns m rest c.args.from.now c.takes_mark.new.self t took is in
    let taken = number-taken a.number (words_left a.more m rest) c.takes_mark.new.self c.number-second.new.from c.number-second.result c.number-second.ensures a.words in
    (a.more, m, rest, taken.1)

pub returns-then-takes_mark : goal.returns-then-takes_mark
returns-then-takes_mark c = λ n one ns m rest is.
    let (t, took) = c.if-takes_mark.ensures.took refl in
    let a = after-comma ns m rest c.args.from.now c.takes_mark.new.self t took is in
    let taken = number-taken a.number (words_left a.more m rest) c.takes_mark.new.self c.number-second.new.from c.number-second.result c.number-second.ensures a.words in
    let told = c.behind_two.ensures n a.number one taken.0 a.more m rest taken.1 in
    (told.0 ∙ sym (ap (λ xs. numbers_read (n ∷ further_parts (λ x. x) xs)) a.all), told.1)

pub returns : goal.returns
returns c = λ n one ns m rest is.
    let e = no-comma ns m rest c.args.from.now (c.if-takes_mark.ensures.other refl) is in
    (ap numbers.One one ∙ sym (ap (λ xs. numbers_read (n ∷ further_parts (λ x. x) xs)) e.0), c.skip.ensures ∙ (ap (drop 1) (c.if-takes_mark.ensures.left refl) ∙ e.1))
