use Rattle.std.proofs.Common.{◌≡◌, ◌∷◌, ◌++◌, Result, length, ap, sym, subst, ◌∙◌, arith, length-append}
use Rattle.std.proofs.lemmas.Result.{IfOk-weaker}
use Rattle.pg_base.specs.declared.faults.Fault.{Fault}
use Rattle.catalog.specs.Contents.{Contents}
use Rattle.sql_grammar.specs.FromParts.{groups_after}
use Rattle.sql_grammar.specs.Words.{words_of_group, words_of_group_by, words_of_groups, words_of_order, words_of_where}
use Rattle.expr_reader.proofs.StepLemmas.{step, stop}
use Rattle.query_reader.specs.From.{Joined, nothing_joined, with_groups}
use Rattle.query_reader.proofs.GrowLemmas.{some-groups}
use Rattle.query_reader.proofs.SourceLemmas.{into-fault, was-into}
use Rattle.group_reader.specs.Binding.{BoundGroups, groups_over}
use Rattle.group_reader.specs.work.Binding.{grouper}
use Rattle.group_reader.specs.work.Selected.{IsGroupedAs, IsGroupedByItself}
use Rattle.group_reader.proofs.OverLemmas.{groups-from, stopped}
use Rattle.group_reader.proofs.group.bind.Goals as goal

pub returns-in_err-take_groups-clause-meaning : goal.returns-in_err-take_groups-clause-meaning
returns-in_err-take_groups-clause-meaning c = λ is g gs w b y rest listed ends eq.
    let told = c.in_err-take_groups.ensures g gs (words_of_where w ++ (words_of_group_by b ++ (words_of_order y ++ rest))) (groups-from w b y rest ends) eq in
    stopped _ c.in_err-take_groups.field-0.0 _
    (λ f at. stop (with_groups (nothing_joined c.args.cat.now) (g ∷ groups_after gs)) _ f
    (ap (λ (j : Joined). with_groups j (g ∷ groups_after gs)) (sym c.new-sources.ensures) ∙ into-fault (Unit {0}) Joined c.take_groups.new.self _ (words_of_where w ++ (words_of_group_by b ++ (words_of_order y ++ rest))) c.take_groups.new.from _ f told at))
    c.from_residual.ensures.1

pub over-requires-clause-some : goal.over-requires-clause-some
over-requires-clause-some c =
    let (g, gs, w, b, y, rest, ends, eq) = c.requires.words in
    let told = c.in_ok-take_groups.ensures g gs (words_of_where w ++ (words_of_group_by b ++ (words_of_order y ++ rest))) (groups-from w b y rest ends) eq in
    let so = was-into (Unit {0}) Joined c.take_groups.new.self (with_groups c.new-sources.result (g ∷ groups_after gs)) _ (words_of_where w ++ (words_of_group_by b ++ (words_of_order y ++ rest))) c.take_groups.new.from told in
    omega (arith, (some-groups c.new-sources.result c.take_groups.new.self g (groups_after gs) so.meant).more)

pub over-requires-clause-room : goal.over-requires-clause-room
over-requires-clause-room c =
    let (g, gs, w, b, y, rest, ends, eq) = c.requires.words in
    let told = c.in_ok-take_groups.ensures g gs (words_of_where w ++ (words_of_group_by b ++ (words_of_order y ++ rest))) (groups-from w b y rest ends) eq in
    let so = was-into (Unit {0}) Joined c.take_groups.new.self (with_groups c.new-sources.result (g ∷ groups_after gs)) _ (words_of_where w ++ (words_of_group_by b ++ (words_of_order y ++ rest))) c.take_groups.new.from told in
    omega (arith, ap length so.words, ap length eq, length-append (words_of_group g) (words_of_groups gs ++ (words_of_where w ++ (words_of_group_by b ++ (words_of_order y ++ rest)))), length-append (words_of_groups gs) (words_of_where w ++ (words_of_group_by b ++ (words_of_order y ++ rest))), c.requires.room)

pub over-requires-clause-words : goal.over-requires-clause-words
over-requires-clause-words c =
    let (g, gs, w, b, y, rest, ends, eq) = c.requires.words in
    let told = c.in_ok-take_groups.ensures g gs (words_of_where w ++ (words_of_group_by b ++ (words_of_order y ++ rest))) (groups-from w b y rest ends) eq in
    let so = was-into (Unit {0}) Joined c.take_groups.new.self (with_groups c.new-sources.result (g ∷ groups_after gs)) _ (words_of_where w ++ (words_of_group_by b ++ (words_of_order y ++ rest))) c.take_groups.new.from told in
    (w, b, y, rest, ends, so.words)

pub returns-clause-meaning : goal.returns-clause-meaning
returns-clause-meaning c = λ is g gs w b y rest listed ends eq.
    let told = c.in_ok-take_groups.ensures g gs (words_of_where w ++ (words_of_group_by b ++ (words_of_order y ++ rest))) (groups-from w b y rest ends) eq in
    let so = was-into (Unit {0}) Joined c.take_groups.new.self (with_groups c.new-sources.result (g ∷ groups_after gs)) _ (words_of_where w ++ (words_of_group_by b ++ (words_of_order y ++ rest))) c.take_groups.new.from told in
    let meant = ap (λ (j : Joined). with_groups j (g ∷ groups_after gs)) (sym c.new-sources.ensures) ∙ so.meant in
    subst (λ (m : Result BoundGroups Fault). IsGroupedAs m c.over.result)
    (sym (step (with_groups (nothing_joined c.args.cat.now) (g ∷ groups_after gs)) (groups_over c.args.start is w (grouper c.args.distinct b) y) c.take_groups.new.self meant))
    (c.over.ensures.meaning is w b y rest listed ends so.words)

pub returns-clause-itself : goal.returns-clause-itself
returns-clause-itself c =
    let (g, gs, w, b, y, rest, ends, eq) = c.requires.words in
    let told = c.in_ok-take_groups.ensures g gs (words_of_where w ++ (words_of_group_by b ++ (words_of_order y ++ rest))) (groups-from w b y rest ends) eq in
    let so = was-into (Unit {0}) Joined c.take_groups.new.self (with_groups c.new-sources.result (g ∷ groups_after gs)) _ (words_of_where w ++ (words_of_group_by b ++ (words_of_order y ++ rest))) c.take_groups.new.from told in
    let grown = some-groups c.new-sources.result c.take_groups.new.self g (groups_after gs) so.meant in
    let same : c.take_groups.new.self.contents ≡ c.args.cat.now = grown.contents ∙ ap (λ (j : Joined). j.contents) c.new-sources.ensures in
    IfOk-weaker c.over.result _ _ (λ q has names. subst (λ (x : Contents). IsGroupedByItself x q) same (has names)) c.over.ensures.itself
