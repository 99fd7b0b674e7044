use Rattle.std.proofs.Common.{refl, sym, ap, ◌∙◌}
use Rattle.ddl_reader.specs.work.Columns.{numbers_read, words_left}
use Rattle.ddl_reader.proofs.TypeLemmas.{after-open, no-open, number-taken}
use Rattle.ddl_reader.proofs.types.modifiers.Goals as goal

pub number-first-requires : goal.number-first-requires
number-first-requires c =
    let (ms, rest, ends, is) = c.requires in
    let (t, took) = c.if-takes_mark.ensures.took refl in
    let a = after-open ms rest c.args.from.now c.takes_mark.new.self t ends took is in
    (a.number, words_left a.more a.close rest, a.words)

pub behind_one-requires : goal.behind_one-requires
behind_one-requires c =
    let (ms, rest, ends, is) = c.requires in
    let (t, took) = c.if-takes_mark.ensures.took refl in
    let a = after-open ms rest c.args.from.now c.takes_mark.new.self t ends took is in
    let taken = number-taken a.number (words_left a.more a.close rest) c.takes_mark.new.self c.number-first.new.from c.number-first.result c.number-first.ensures a.words in
    (a.more, a.close, rest, taken.1)

pub returns-then-takes_mark : goal.returns-then-takes_mark
returns-then-takes_mark c = λ ms rest ends is.
    let (t, took) = c.if-takes_mark.ensures.took refl in
    let a = after-open ms rest c.args.from.now c.takes_mark.new.self t ends took is in
    let taken = number-taken a.number (words_left a.more a.close rest) c.takes_mark.new.self c.number-first.new.from c.number-first.result c.number-first.ensures a.words in
    let told = c.behind_one.ensures a.number taken.0 a.more a.close rest taken.1 in
    (told.0 ∙ sym (ap numbers_read a.all), told.1)

pub returns : goal.returns
returns c = λ ms rest ends is.
    let e = no-open ms rest c.args.from.now (c.if-takes_mark.ensures.other refl) is in
    (sym (ap numbers_read e.0), c.if-takes_mark.ensures.left refl ∙ e.1)
