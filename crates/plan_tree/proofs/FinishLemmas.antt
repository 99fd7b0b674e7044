-- A finished plan stays one, at no greater price, where a plan that dominates it stands in its place.
use Rattle.std.proofs.Common.{◌≡◌, ◌≤◌, true, false, ◌∙◌, ◌↔◌, true≢false}
use Rattle.std.specs.Prelude.{Option, Some, None}
use Rattle.sql_query.specs.catalog_Contents.{Contents}
use Rattle.cost_rules.proofs.RisingLemmas.{price-rises}
use Rattle.sql_query.specs.Queries.{Query, all_of_query}
use Rattle.sql_query.specs.declared.window.Window.{Window}
use Rattle.pathkeys.specs.Keys.{Keys, covers, order_keys}
use Rattle.plan_tree.specs.Plans.{Plan, seq, index, index_only, bitmap, sort, nest, merge, is_sort}
use Rattle.plan_tree.specs.Keys.{keys_of}
use Rattle.plan_tree.specs.Costs.{cost, price, price_by, asked, query_rows}
use Rattle.plan_tree.specs.work.Costs.{HaveRows}
use Rattle.plan_tree.specs.Space.{IsBuilt, MeetsOrder, IsFinished}
use Rattle.plan_tree.specs.Least.{Dominates, IsStartupAtMost}
use Rattle.pathkeys.proofs.CoveringLemmas.{covers-trans}
use Rattle.path_cost.proofs.RunLemmas.{set-some}
use Rattle.plan_tree.proofs.BoundLemmas.{startup-most, asked-most}
use Rattle.plan_tree.proofs.DominationLemmas.{sort-stands, stands-dominates}

module _ (c : Contents) (q : Query) where
  -- of a plan that is no sort, to meet the order is that its keys begin with it
  meets-plain : (p : Plan) (keys : Keys) → is_sort p ≡ false → MeetsOrder c q p keys ↔ (covers (keys_of c q p) keys ≡ true)
  meets-plain (seq r) keys e = (λ h. h, λ h. h)
  meets-plain (index r i backward p) keys e = (λ h. h, λ h. h)
  meets-plain (index_only r i backward p) keys e = (λ h. h, λ h. h)
  meets-plain (bitmap r p bits) keys e = (λ h. h, λ h. h)
  meets-plain (sort ks input) keys e = absurd (true≢false e)
  meets-plain (nest outer inner) keys e = (λ h. h, λ h. h)
  meets-plain (merge ks outer inner) keys e = (λ h. h, λ h. h)

  price-most : (w : Option Window) (p o : Plan) → HaveRows c q → (cost c q p).total ≤ (cost c q o).total →
      IsStartupAtMost w (cost c q p).startup (cost c q o).startup → price_by c q w p ≤ price_by c q w o
  price-most None p o some total startup = total
  price-most (Some w) p o some total startup =
      price-rises (cost c q p) (cost c q o) (asked w (query_rows c q)) (query_rows c q) (set-some c q.range q.classes (all_of_query q))
      (asked-most w (query_rows c q)) (startup-most c q some p) (record { startup = startup; total = total })

  pub dominates-price : (p o : Plan) → HaveRows c q → Dominates c q p o → price c q p ≤ price c q o
  dominates-price p o some h = price-most q.window p o some h.total h.startup

  pub finished-plain : (p o : Plan) → IsBuilt c q p → is_sort p ≡ false → is_sort o ≡ false → Dominates c q p o → IsFinished c q o → IsFinished c q p
  finished-plain p o built e f h k = record {
    built = built;
    set_is = λ x. h.like.set x ∙ k.set_is x;
    param_is = λ x. h.like.param x ∙ k.param_is x;
    ordered = let keys = order_keys q.classes q.order in
        (meets-plain p keys e).1 (covers-trans (keys_of c q p) (keys_of c q o) keys h.keys ((meets-plain o keys f).0 k.ordered));
  }

  pub finished-sort : (keys : Keys) (p o : Plan) → IsBuilt c q p → is_sort p ≡ false → Dominates c q p o → IsFinished c q (sort keys o) → IsFinished c q (sort keys p)
  finished-sort keys p o built e h k = record {
    built = (built, e);
    set_is = λ x. h.like.set x ∙ k.set_is x;
    param_is = λ x. h.like.param x ∙ k.param_is x;
    ordered = k.ordered;
  }

  pub sort-dominates : (keys : Keys) (p o : Plan) → Dominates c q p o → Dominates c q (sort keys p) (sort keys o)
  sort-dominates keys p o h = stands-dominates c q (sort keys p) (sort keys o) (sort-stands c q keys p o h)
