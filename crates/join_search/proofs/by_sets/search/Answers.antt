use Rattle.std.proofs.Common.{◌≡◌, ◌^◌, ◌∙◌, ap, length, arith}
use Rattle.std.proofs.lemmas.Result.{IfOk-weaker}
use Rattle.catalog.specs.Range.{Range}
use Rattle.sql_query.specs.Queries.{width}
use Rattle.join_search.proofs.SearchLemmas.{done-covered}
use Rattle.join_search.proofs.SetLemmas.{sixteen}
use Rattle.join_search.proofs.by_sets.search.Goals as goal

pub sets_below-requires-clause-few : goal.sets_below-requires-clause-few
sets_below-requires-clause-few c =
    let relations = c.items.ensures ∙ c.range_of.ensures in
    let sets : c.sets_of.result ≡ 2 ^ width c.args.q.now = c.sets_of.ensures ∙ ap (λ (r : Range). 2 ^ length r) relations in
    omega (arith, sets, sixteen (width c.args.q.now) c.requires.query.few)

pub returns-clause-handed : goal.returns-clause-handed
returns-clause-handed c = IfOk-weaker c.sets_below.result _ _ (λ t h. h.2.handed) c.sets_below.ensures

pub returns-clause-placed : goal.returns-clause-placed
returns-clause-placed c = IfOk-weaker c.sets_below.result _ _ (λ t h. h.2.placed) c.sets_below.ensures

pub returns-clause-kept : goal.returns-clause-kept
returns-clause-kept c = IfOk-weaker c.sets_below.result _ _ (λ t h. h.2.kept) c.sets_below.ensures

pub returns-clause-undominated : goal.returns-clause-undominated
returns-clause-undominated c = IfOk-weaker c.sets_below.result _ _ (λ t h. h.2.undominated) c.sets_below.ensures

pub returns-clause-covered : goal.returns-clause-covered
returns-clause-covered c =
    let q = c.args.q.now in
    let relations = c.items.ensures ∙ c.range_of.ensures in
    let sets : c.sets_of.result ≡ 2 ^ width q = c.sets_of.ensures ∙ ap (λ (r : Range). 2 ^ length r) relations in
    IfOk-weaker c.sets_below.result _ _ (λ t h. let past = h.1 in done-covered c.args.cat.now q c.args.asked c.args.base t h.0 h.2 (omega (arith, sets, past))) c.sets_below.ensures
