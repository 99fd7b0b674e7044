use Rattle.std.proofs.Common.{◌≡◌, ◌∙◌, List, ap, sym, subst}
use Rattle.std.specs.Prelude.{All, Contains}
use Rattle.std.proofs.lemmas.Result.{IfOk-weaker}
use Rattle.pg_base.specs.Sets.{has}
use Rattle.pathkeys.specs.work.Finding.{class_numbers}
use Rattle.pathkeys.specs.Keys.{Keys}
use Rattle.plan_tree.specs.Space.{IsMergeList}
use Rattle.join_search.specs.work.Merges.{lists_of}
use Rattle.join_search.proofs.ListLemmas.{list-complete, list-sound}
use Rattle.join_search.proofs.lists.merge_lists.Goals as goal

pub returns-clause-sound : goal.returns-clause-sound
returns-clause-sound c =
    let a = has c.args.a.0 in
    let b = has c.args.b.0 in
    let ns = class_numbers c.deref.result.now in
    let first = ap class_numbers c.deref.ensures.value ∙ c.in_ok-classes.ensures in
    IfOk-weaker c.lists_among.result (λ v. v.items ≡ lists_of ns) (λ v. All (IsMergeList c.args.cat.now c.args.q.now a b) v.items)
    (λ v e. subst (All (IsMergeList c.args.cat.now c.args.q.now a b)) (sym e) (list-sound c.args.cat.now c.args.q.now a b ns first)) c.lists_among.ensures

pub returns-clause-complete : goal.returns-clause-complete
returns-clause-complete c =
    let a = has c.args.a.0 in
    let b = has c.args.b.0 in
    let ns = class_numbers c.deref.result.now in
    let first = ap class_numbers c.deref.ensures.value ∙ c.in_ok-classes.ensures in
    IfOk-weaker c.lists_among.result (λ v. v.items ≡ lists_of ns) (λ v. (ks : Keys) → IsMergeList c.args.cat.now c.args.q.now a b ks → Contains v.items ks)
    (λ v e ks is. subst (λ (ls : List Keys). Contains ls ks) (sym e) (list-complete c.args.cat.now c.args.q.now a b ns first ks is)) c.lists_among.ensures
