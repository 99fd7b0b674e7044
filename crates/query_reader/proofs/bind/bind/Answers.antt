use Rattle.std.proofs.Common.{◌≡◌, ◌∷◌, ◌++◌, Result, ap, sym, subst, ◌∙◌, arith}
use Rattle.std.proofs.lemmas.Result.{IfOk-weaker}
use Rattle.pg_base.specs.declared.faults.Fault.{Fault}
use Rattle.catalog.specs.Contents.{Contents}
use Rattle.sql_grammar.specs.FromParts.{groups_after}
use Rattle.sql_grammar.specs.Words.{words_of_order, words_of_where, words_of_window}
use Rattle.expr_reader.proofs.StepLemmas.{step, stop}
use Rattle.query_reader.specs.Binding.{Bound, bound_over}
use Rattle.query_reader.specs.From.{Joined, nothing_joined, with_groups}
use Rattle.query_reader.specs.work.Select.{IsBoundByItself, IsBoundAs}
use Rattle.query_reader.proofs.GrowLemmas.{some-groups}
use Rattle.query_reader.proofs.JoinLemmas.{behind-from}
use Rattle.query_reader.proofs.QueryLemmas.{stopped}
use Rattle.query_reader.proofs.ReadingLemmas.{ends-order}
use Rattle.query_reader.proofs.SourceLemmas.{into-fault, was-into}
use Rattle.query_reader.proofs.bind.bind.Goals as goal

pub returns-in_err-take_groups-clause-meaning : goal.returns-in_err-take_groups-clause-meaning
returns-in_err-take_groups-clause-meaning c = λ g gs w y v rest ends is.
    let told = c.in_err-take_groups.ensures g gs (words_of_where w ++ (words_of_order y ++ (words_of_window v ++ rest))) (behind-from w y (words_of_window v ++ rest) (ends-order v rest ends)) is in
    stopped _ c.in_err-take_groups.field-0.0 _
    (λ f at. stop (with_groups (nothing_joined c.args.cat.now) (g ∷ groups_after gs)) _ f
    (ap (λ (j : Joined). with_groups j (g ∷ groups_after gs)) (sym c.new-sources.ensures) ∙ into-fault (Unit {0}) Joined c.take_groups.new.self _ (words_of_where w ++ (words_of_order y ++ (words_of_window v ++ rest))) c.take_groups.new.from _ f told at))
    c.from_residual.ensures.1

pub over-requires-clause-some : goal.over-requires-clause-some
over-requires-clause-some c =
    let (g, gs, w, y, v, rest, ends, is) = c.requires in
    let told = c.in_ok-take_groups.ensures g gs (words_of_where w ++ (words_of_order y ++ (words_of_window v ++ rest))) (behind-from w y (words_of_window v ++ rest) (ends-order v rest ends)) is in
    let so = was-into (Unit {0}) Joined c.take_groups.new.self (with_groups c.new-sources.result (g ∷ groups_after gs)) _ (words_of_where w ++ (words_of_order y ++ (words_of_window v ++ rest))) c.take_groups.new.from told in
    omega (arith, (some-groups c.new-sources.result c.take_groups.new.self g (groups_after gs) so.meant).more)

pub returns-clause-meaning : goal.returns-clause-meaning
returns-clause-meaning c = λ g gs w y v rest ends is.
    let told = c.in_ok-take_groups.ensures g gs (words_of_where w ++ (words_of_order y ++ (words_of_window v ++ rest))) (behind-from w y (words_of_window v ++ rest) (ends-order v rest ends)) is in
    let so = was-into (Unit {0}) Joined c.take_groups.new.self (with_groups c.new-sources.result (g ∷ groups_after gs)) _ (words_of_where w ++ (words_of_order y ++ (words_of_window v ++ rest))) c.take_groups.new.from told in
    let meant = ap (λ (j : Joined). with_groups j (g ∷ groups_after gs)) (sym c.new-sources.ensures) ∙ so.meant in
    subst (λ (m : Result Bound Fault). IsBoundAs m c.over.result)
    (sym (step (with_groups (nothing_joined c.args.cat.now) (g ∷ groups_after gs)) (bound_over c.args.start c.args.items.now w y v) c.take_groups.new.self meant))
    (c.over.ensures.meaning w y v rest ends so.words)

pub returns-clause-itself : goal.returns-clause-itself
returns-clause-itself c =
    let (g, gs, w, y, v, rest, ends, is) = c.requires in
    let told = c.in_ok-take_groups.ensures g gs (words_of_where w ++ (words_of_order y ++ (words_of_window v ++ rest))) (behind-from w y (words_of_window v ++ rest) (ends-order v rest ends)) is in
    let so = was-into (Unit {0}) Joined c.take_groups.new.self (with_groups c.new-sources.result (g ∷ groups_after gs)) _ (words_of_where w ++ (words_of_order y ++ (words_of_window v ++ rest))) c.take_groups.new.from told in
    let grown = some-groups c.new-sources.result c.take_groups.new.self g (groups_after gs) so.meant in
    let same : c.take_groups.new.self.contents ≡ c.args.cat.now = grown.contents ∙ ap (λ (j : Joined). j.contents) c.new-sources.ensures in
    IfOk-weaker c.over.result _ _ (λ q has names. subst (λ (x : Contents). IsBoundByItself x q) same (has names)) c.over.ensures.itself
