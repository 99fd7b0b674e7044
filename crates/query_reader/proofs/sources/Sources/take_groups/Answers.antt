use Rattle.std.proofs.Common.{◌++◌, refl, ap, sym, ◌∙◌}
use Rattle.sql_grammar.specs.Words.{words_of_groups}
use Rattle.expr_reader.proofs.StepLemmas.{step, stop}
use Rattle.query_reader.specs.From.{Joined, with_group, with_groups}
use Rattle.query_reader.proofs.FromLemmas.{group-shorter, next-group, no-group}
use Rattle.query_reader.proofs.JoinLemmas.{groups-end}
use Rattle.query_reader.proofs.SourceLemmas.{into-fault, into-ok, into-stopped, was-into}
use Rattle.query_reader.proofs.sources.Sources.take_groups.Goals as goal

pub take_group-requires : goal.take_group-requires
take_group-requires c =
    let (g, gs, rest, ends, is) = c.requires in
    (g, words_of_groups gs ++ rest, groups-end gs rest ends, is)

pub returns-in_err-take_group : goal.returns-in_err-take_group
returns-in_err-take_group c = λ g gs rest ends is.
    let told = c.in_err-take_group.ensures g (words_of_groups gs ++ rest) (groups-end gs rest ends) is in
    into-stopped (Unit {0}) Joined c.take_group.new.self _ c.in_err-take_group.field-0.0 _ rest _
    (λ f at. stop (with_group c.args.self.now g) _ f (into-fault (Unit {0}) Joined c.take_group.new.self _ (words_of_groups gs ++ rest) c.take_group.new.from _ f told at))
    c.from_residual.ensures.1

pub more-init : goal.more-init
more-init c = λ g gs rest ends is.
    let told = c.in_ok-take_group.ensures g (words_of_groups gs ++ rest) (groups-end gs rest ends) is in
    let w = was-into (Unit {0}) Joined c.take_group.new.self (with_group c.args.self.now g) _ (words_of_groups gs ++ rest) c.take_group.new.from told in
    (gs, w.words, step (with_group c.args.self.now g) _ c.take_group.new.self w.meant)

pub take_group-requires-in-more : goal.take_group-requires-in-more
take_group-requires-in-more c =
    let (g, gs, rest, ends, is) = c.requires in
    let (more, words, same) = c.more.invariant g gs rest ends is in
    let (t, comma) = c.more-test.ensures.took refl in
    let n = next-group more rest c.takes_mark.new.self t ends (sym comma ∙ words) in
    (n.group, words_of_groups n.others ++ rest, groups-end n.others rest ends, n.words)

pub more-smaller : goal.more-smaller
more-smaller c =
    let (g, gs, rest, ends, is) = c.requires in
    let (more, words, same) = c.more.invariant g gs rest ends is in
    let (t, comma) = c.more-test.ensures.took refl in
    let n = next-group more rest c.takes_mark.new.self t ends (sym comma ∙ words) in
    let told = c.in_ok-take_group-2.ensures n.group (words_of_groups n.others ++ rest) (groups-end n.others rest ends) n.words in
    let w = was-into (Unit {0}) Joined c.take_group-in-more.new.self (with_group c.more.self n.group) _ (words_of_groups n.others ++ rest) c.take_group-in-more.new.from told in
    group-shorter c.more.from c.takes_mark.new.self c.take_group-in-more.new.from (words_of_groups n.others ++ rest) n.group t comma n.words w.words

pub more-preserved : goal.more-preserved
more-preserved c = λ g gs rest ends is.
    let (more, words, same) = c.more.invariant g gs rest ends is in
    let (t, comma) = c.more-test.ensures.took refl in
    let n = next-group more rest c.takes_mark.new.self t ends (sym comma ∙ words) in
    let told = c.in_ok-take_group-2.ensures n.group (words_of_groups n.others ++ rest) (groups-end n.others rest ends) n.words in
    let w = was-into (Unit {0}) Joined c.take_group-in-more.new.self (with_group c.more.self n.group) _ (words_of_groups n.others ++ rest) c.take_group-in-more.new.from told in
    (n.others, w.words, same ∙ (ap (with_groups c.more.self) n.is ∙ step (with_group c.more.self n.group) _ c.take_group-in-more.new.self w.meant))

pub returns-in_err-take_group-2 : goal.returns-in_err-take_group-2
returns-in_err-take_group-2 c = λ g gs rest ends is.
    let (more, words, same) = c.more.invariant g gs rest ends is in
    let (t, comma) = c.more-test.ensures.took refl in
    let n = next-group more rest c.takes_mark.new.self t ends (sym comma ∙ words) in
    let told = c.in_err-take_group-2.ensures n.group (words_of_groups n.others ++ rest) (groups-end n.others rest ends) n.words in
    into-stopped (Unit {0}) Joined c.take_group-in-more.new.self _ c.in_err-take_group-2.field-0.0 _ rest _
    (λ f at. same ∙ (ap (with_groups c.more.self) n.is ∙ stop (with_group c.more.self n.group) _ f (into-fault (Unit {0}) Joined c.take_group-in-more.new.self _ (words_of_groups n.others ++ rest) c.take_group-in-more.new.from _ f told at)))
    c.from_residual-in_err-take_group-2.ensures.1

pub returns : goal.returns
returns c = λ g gs rest ends is.
    let (more, words, same) = c.more.invariant g gs rest ends is in
    let (none, left) = no-group more rest c.more.from (c.more-test.ensures.other refl) words in
    into-ok (Unit {0}) Joined c.more.self _ _ rest c.takes_mark.new.self (same ∙ ap (with_groups c.more.self) none) (c.more-test.ensures.left refl ∙ left)
