use Rattle.std.proofs.Common.{◌∙◌, ap, sym, length}
use Rattle.std.proofs.lemmas.List.{length-map}
use Rattle.pathkeys.specs.Keys.{Keys}
use Rattle.join_search.specs.work.Merges.{side_path}
use Rattle.join_search.proofs.MergeLemmas.{merge-reckoned}
use Rattle.join_search.proofs.merges.merge_kept.Goals as goal

pub returns : goal.returns
returns c =
    let j = c.args.j.now in
    let by' = c.args.by.now in
    let o = c.args.outer in
    let i = c.args.inner in
    λ n e. merge-reckoned j by' (side_path o) (side_path i) o.sorted i.sorted c.args.work.pairs c.args.work.ops n c.side_cost-outer_cost.result c.side_cost-inner_cost.result (length c.items-list.result.now) c.merge.result
    c.requires.over.split c.requires.outer c.requires.inner c.requires.pairs.some e (c.side_cost-outer_cost.ensures.kept by') (c.side_cost-inner_cost.ensures.kept by')
    (sym (length-map c.items-list.result.now (λ k. k.0)) ∙ ap (λ (ks : Keys). length ks) c.items-list.ensures.list) c.merge.ensures.rule
