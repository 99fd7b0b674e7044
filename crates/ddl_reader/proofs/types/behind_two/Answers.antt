use Rattle.std.proofs.Common.{◌∷◌, drop, refl, sym, ap, ap₂, ◌∙◌}
use Rattle.expr_reader.specs.Lists.{further_parts}
use Rattle.ddl_reader.specs.declared.types.Numbers.TheVariants as numbers
use Rattle.ddl_reader.specs.work.Columns.{numbers_read}
use Rattle.ddl_reader.proofs.TypeLemmas.{after-comma, no-comma}
use Rattle.ddl_reader.proofs.types.behind_two.Goals as goal

pub pass_numbers-requires : goal.pass_numbers-requires
pass_numbers-requires c =
    let (ns, m, rest, is) = c.requires in
    let (t, took) = c.if-takes_mark.ensures.took refl in
    let a = after-comma ns m rest c.args.from.now c.takes_mark.new.self t took is in
    (a.more, m, rest, c.skip.ensures ∙ ap (drop 1) a.words)

pub returns-then-takes_mark : goal.returns-then-takes_mark
returns-then-takes_mark c = λ n k one two ns m rest is.
    let (t, took) = c.if-takes_mark.ensures.took refl in
    let a = after-comma ns m rest c.args.from.now c.takes_mark.new.self t took is in
    (ap numbers.More one ∙ sym (ap (λ xs. numbers_read (n ∷ k ∷ further_parts (λ x. x) xs)) a.all), c.pass_numbers.ensures a.more m rest (c.skip.ensures ∙ ap (drop 1) a.words))

pub returns : goal.returns
returns c = λ n k one two ns m rest is.
    let e = no-comma ns m rest c.args.from.now (c.if-takes_mark.ensures.other refl) is in
    (ap₂ numbers.Two one two ∙ sym (ap (λ xs. numbers_read (n ∷ k ∷ further_parts (λ x. x) xs)) e.0), c.skip-2.ensures ∙ (ap (drop 1) (c.if-takes_mark.ensures.left refl) ∙ e.1))
