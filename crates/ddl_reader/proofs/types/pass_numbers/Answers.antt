use Rattle.std.proofs.Common.{drop, refl, ap, ◌∙◌}
use Rattle.ddl_reader.proofs.TypeLemmas.{after-comma, no-comma}
use Rattle.ddl_reader.proofs.types.pass_numbers.Goals as goal

pub more-init : goal.more-init
more-init c = λ ns m rest is. (ns, is)

pub more-preserved : goal.more-preserved
more-preserved c = λ ns m rest is.
    let (t, comma) = c.more-test.ensures.took refl in
    let (left, at) = c.more.invariant ns m rest is in
    let a = after-comma left m rest c.more.from c.takes_mark.new.self t comma at in
    (a.more, c.skip.ensures ∙ ap (drop 1) a.words)

pub returns : goal.returns
returns c = λ ns m rest is.
    let (left, at) = c.more.invariant ns m rest is in
    let e = no-comma left m rest c.more.from (c.more-test.ensures.other refl) at in
    c.skip-2.ensures ∙ (ap (drop 1) (c.more-test.ensures.left refl) ∙ e.1)
