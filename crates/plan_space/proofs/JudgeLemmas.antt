-- What is wrong with a plan, by what is found of it.
use Rattle.std.proofs.Common.{◌≡◌, ◌≢◌, ◌<◌, ◌≤◌, ◌+◌, ℕ, List, get_or, length, take, sym, ap, ◌∙◌, subst, arith}
use Rattle.std.proofs.lemmas.List.{take_all, take_more_same}
use Rattle.catalog.specs.Contents.{Contents}
use Rattle.sql_query.specs.Queries.{Query}
use Rattle.cost_rules.specs.work.Costs.{capped, capped_pair}
use Rattle.cost_rules.specs.declared.pair.Pair.{Pair as Costs}
use Rattle.cost_rules.specs.declared.parameters.TheConstants.{MOST_COST}
use Rattle.plan_tree.specs.Plans.{Plan}
use Rattle.plan_tree.specs.Least.{IsAdmissible}
use Rattle.plan_tree.specs.Space.{IsFinished}
use Rattle.plan_space.specs.Judging.{IsJudged, IsWrongPair}
use Rattle.plan_space.specs.work.Judging.{IsWrong, NamesWrong}
use Rattle.plan_space.specs.Numbered.{CostAndRows, lines_from, nodes, own_numbers}
use Rattle.plan_space.specs.declared.judged.Judged.{Judged}
use Rattle.plan_space.specs.declared.judged.Judged.TheVariants.{Good, Outside, Limit, Number}
use Rattle.plan_space.proofs.PartLemmas.{own-count}

-- a total that is cut at the limit
pub at-limit : (r own : Costs) → r ≡ capped_pair own → r.total ≡ MOST_COST → MOST_COST ≤ own.total
at-limit r own is e = here own.total (sym (ap (λ (x : Costs). x.total) is) ∙ e)
  where
    here : (n : ℕ) → capped n ≡ MOST_COST → MOST_COST ≤ n
    here n f = omega (arith, f)

pub below-limit : (r own : Costs) → r ≡ capped_pair own → r.total ≢ MOST_COST → own.total < MOST_COST
below-limit r own is differs = here own.total (λ f. differs (ap (λ (x : Costs). x.total) is ∙ f))
  where
    here : (n : ℕ) → capped n ≢ MOST_COST → n < MOST_COST
    here n f = omega (arith, f)

module _ (c : Contents) (q : Query) (p : Plan) (ns : List CostAndRows) where
  -- a wrong number names its cause
  pub names-judged : (j : Judged) → IsFinished c q p → IsAdmissible c q p → NamesWrong c q p ns j → IsJudged c q p ns j
  names-judged Good f a h = absurd h
  names-judged (Outside line) f a h = absurd h
  names-judged Limit f a h = absurd h
  names-judged (Number line is_cost printed own) f a h = (f, a, h)

  module _ (count : length ns ≡ nodes p) where
    pub one-more : (n : ℕ) → n < length ns → take n ns ≡ take n (own_numbers c q p) → get_or ns n (0, 0) ≡ get_or (own_numbers c q p) n (0, 0) → take (n + 1) ns ≡ take (n + 1) (own_numbers c q p)
    one-more n lt before same = let long = own-count c q p in take_more_same ns (own_numbers c q p) n (0, 0) lt (omega (arith, count, long, lt)) before same

    pub all-same : (n : ℕ) → length ns ≤ n → take n ns ≡ take n (own_numbers c q p) → ns ≡ own_numbers c q p
    all-same n le same = let long = own-count c q p in sym (take_all n ns le) ∙ (same ∙ take_all n (own_numbers c q p) (omega (arith, count, long, le)))

    -- a wrong pair of a node, where those before are the nodes' own
    pub wrong-at : (n line : ℕ) (pair own : CostAndRows) (j : Judged) → n < length ns → take n ns ≡ take n (own_numbers c q p) → line ≡ get_or (lines_from 1 p) n 0 → pair ≡ get_or ns n (0, 0) → own ≡ get_or (own_numbers c q p) n (0, 0) →
        IsWrong line pair own j → NamesWrong c q p ns j
    wrong-at n line pair own Good lt before l a b h = absurd h
    wrong-at n line pair own (Outside at) lt before l a b h = absurd h
    wrong-at n line pair own Limit lt before l a b h = absurd h
    wrong-at n line pair own (Number at is_cost printed is) lt before l a b h = record {
      node = n;
      within = omega (arith, count, lt);
      before = before;
      line_is = h.0 ∙ l;
      wrong = subst (λ (x : CostAndRows). IsWrongPair is_cost x (get_or (own_numbers c q p) n (0, 0)) printed is) a (subst (λ (x : CostAndRows). IsWrongPair is_cost pair x printed is) b h.1);
    }
