use Rattle.std.proofs.Common.{Bor, List, ap, not, subst, sym, arith, ◌∙◌}
use Rattle.std.proofs.lemmas.List.{length-map}
use Rattle.pathkeys.specs.Keys.{Keys, covers}
use Rattle.pg_value.specs.Sorting.{IsInOrder}
use Rattle.sql_query.specs.Queries.{width}
use Rattle.plan_tree.specs.work.Views.{path}
use Rattle.plan_tree.specs.declared.path.Path.{Path as Costed}
use Rattle.join_search.specs.work.Tables.{none, paths_at}
use Rattle.certificate_laws.specs.planner_Finishing.{finished}
use Rattle.plan_check.specs.work.Views.{certificate, entry}
use Rattle.certificate_laws.specs.work.Printing.{path_order}
use Rattle.certificate_laws.specs.work.Searched.{AreOfFronts}
use Rattle.certificate_laws.proofs.FrontsLemmas.{at-place}
use Rattle.certificate_laws.proofs.OrderLemmas.{ordered-entries}
use Rattle.certificate_laws.proofs.TurnLemmas.{made-in-turn}
use Rattle.planned_table.specs.work.Gathering.{shown}
use Rattle.planned_table.proofs.MakeLemmas.{best-unfolds}
use Rattle.planned_table.proofs.WholeLemmas.{below-listed, table-of, text-of, tree-there}
use Rattle.planned_table.proofs.whole.certified.Goals as goal

pub certificate_of-requires-clause-below : goal.certificate_of-requires-clause-below
certificate_of-requires-clause-below c =
    let fronts = paths_at c.args.at.now.table.now in
    let are = subst (λ (l : List (Bor Costed)). AreOfFronts fronts (shown l)) (sym c.deref.ensures.value) c.in_ok-listed.ensures.paths in
    below-listed c.args.at.now.cat.now c.args.at.now.q.now c.requires.query c.args.at.now.all c.requires.all fronts c.requires.searched c.deref.result.now are

pub certificate_of-requires-clause-made : goal.certificate_of-requires-clause-made
certificate_of-requires-clause-made c =
    let fronts = paths_at c.args.at.now.table.now in
    let are = subst (λ (l : List (Bor Costed)). AreOfFronts fronts (shown l)) (sym c.deref.ensures.value) c.in_ok-listed.ensures.paths in
    let up = subst (λ (l : List (Bor Costed)). IsInOrder path_order (shown l)) (sym c.deref.ensures.value) c.in_ok-listed.ensures.ordered in
    made-in-turn c.args.at.now.cat.now c.args.at.now.q.now c.requires.query fronts c.requires.searched (shown c.deref.result.now) are up

pub certificate_of-requires-clause-there : goal.certificate_of-requires-clause-there
certificate_of-requires-clause-there c =
    let fronts = paths_at c.args.at.now.table.now in
    let are = subst (λ (l : List (Bor Costed)). AreOfFronts fronts (shown l)) (sym c.deref.ensures.value) c.in_ok-listed.ensures.paths in
    tree-there c.args.at.now.cat.now c.args.at.now.q.now c.requires.query c.args.at.now.all c.requires.all fronts c.requires.searched c.deref.result.now are c.args.at.now.all none (path c.args.best.now) c.requires.best

pub returns-clause-unfolds : goal.returns-clause-unfolds
returns-clause-unfolds c =
    let contents = c.args.at.now.cat.now in
    let q = c.args.at.now.q.now in
    let x = path c.args.best.now in
    let made = c.in_ok-made.ensures in
    best-unfolds contents q (certificate c.in_ok-made.made) c.deref.result.now x made.entries (at-place contents q (paths_at c.args.at.now.table.now) c.requires.searched c.args.at.now.all none x c.requires.best).is_path.numbers.keys
    (made.sorted ∙ ap (λ (ks : Keys). not (covers x.keys ks)) c.requires.order) made.best

pub returns-clause-table : goal.returns-clause-table
returns-clause-table c =
    let contents = c.args.at.now.cat.now in
    let q = c.args.at.now.q.now in
    let fronts = paths_at c.args.at.now.table.now in
    let are = subst (λ (l : List (Bor Costed)). AreOfFronts fronts (shown l)) (sym c.deref.ensures.value) c.in_ok-listed.ensures.paths in
    let x = path c.args.best.now in
    let made = c.in_ok-made.ensures in
    let t = certificate c.in_ok-made.made in
    let is = best-unfolds contents q t c.deref.result.now x made.entries (at-place contents q fronts c.requires.searched c.args.at.now.all none x c.requires.best).is_path.numbers.keys
    (made.sorted ∙ ap (λ (ks : Keys). not (covers x.keys ks)) c.requires.order) made.best in
    table-of contents q c.lawful.ensures c.requires.bound fronts c.requires.searched c.deref.result.now are t made.entries (finished contents q x.tree) is c.requires.least

pub returns-clause-ordered : goal.returns-clause-ordered
returns-clause-ordered c =
    let up = subst (λ (l : List (Bor Costed)). IsInOrder path_order (shown l)) (sym c.deref.ensures.value) c.in_ok-listed.ensures.ordered in
    ordered-entries (width c.args.at.now.q.now) (certificate c.in_ok-made.made).entries (shown c.deref.result.now) c.in_ok-made.ensures.entries up

pub returns-clause-text : goal.returns-clause-text
returns-clause-text c =
    let contents = c.args.at.now.cat.now in
    let q = c.args.at.now.q.now in
    let fronts = paths_at c.args.at.now.table.now in
    let are = subst (λ (l : List (Bor Costed)). AreOfFronts fronts (shown l)) (sym c.deref.ensures.value) c.in_ok-listed.ensures.paths in
    let x = path c.args.best.now in
    let made = c.in_ok-made.ensures in
    let t = certificate c.in_ok-made.made in
    let is = best-unfolds contents q t c.deref.result.now x made.entries (at-place contents q fronts c.requires.searched c.args.at.now.all none x c.requires.best).is_path.numbers.keys
    (made.sorted ∙ ap (λ (ks : Keys). not (covers x.keys ks)) c.requires.order) made.best in
    let long = length-map c.in_ok-made.made.entries entry in
    let few = made.few in
    text-of contents q c.lawful.ensures c.requires.bound fronts c.requires.searched c.deref.result.now are t made.entries (finished contents q x.tree) is c.requires.least (omega (arith, long, few))
