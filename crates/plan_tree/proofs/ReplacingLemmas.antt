-- A child replaced by a like plan that costs no more.
use Rattle.std.proofs.Common.{◌≡◌, ◌≤◌, le_refl, ℕ, not, ◌&&◌, length, ap, subst}
use Rattle.sql_query.specs.catalog_Contents.{Contents}
use Rattle.cost_rules.specs.declared.pair.Pair.{Pair}
use Rattle.cost_rules.specs.Costs.{pair, sort_cost, nest_cost, merge_cost}
use Rattle.cost_rules.specs.work.Costs.{IsAtMost}
use Rattle.cost_rules.proofs.RisingLemmas.{sort-rises, nest-rises, merge-rises}
use Rattle.eq_classes.specs.Clauses.{Set, Clause}
use Rattle.eq_classes.specs.Parts.{is_join}
use Rattle.sql_query.specs.Queries.{Query}
use Rattle.path_cost.specs.Costs.{operators}
use Rattle.path_cost.specs.Estimates.{conditions_where, is_pair_of, pairs, set_rows}
use Rattle.pathkeys.specs.Keys.{Keys}
use Rattle.plan_tree.specs.Plans.{Plan, sort, nest, merge, set_of}
use Rattle.plan_tree.specs.Costs.{cost, estimate, merge_operators, join_operators}
use Rattle.plan_tree.specs.Space.{IsLike}
use Rattle.plan_tree.proofs.LikeLemmas.{set-like, rows-like, joins-like}

module _ (c : Contents) (q : Query) where
  sort-same : (a b : Pair) (s t : Set) → s ≡ t → IsAtMost a b → IsAtMost (sort_cost a (set_rows c q.range q.classes s)) (sort_cost b (set_rows c q.range q.classes t))
  sort-same a b s t same most =
      subst (λ u. IsAtMost (sort_cost a (set_rows c q.range q.classes s)) (sort_cost b (set_rows c q.range q.classes u))) same (sort-rises a b (set_rows c q.range q.classes s) most)

  pub sort-replaced : (keys : Keys) (p other : Plan) → IsLike p other → IsAtMost (cost c q p) (cost c q other) → IsAtMost (cost c q (sort keys p)) (cost c q (sort keys other))
  sort-replaced keys p other like most = sort-same (cost c q p) (cost c q other) (set_of p) (set_of other) (set-like p other like) most

  nest-same : (o p i j : Pair) (ro ri ops rp rj oqs : ℕ) → ro ≡ rp → ri ≡ rj → ops ≡ oqs → IsAtMost o p → IsAtMost i j → IsAtMost (nest_cost o i ro ri ops) (nest_cost p j rp rj oqs)
  nest-same o p i j ro ri ops rp rj oqs d e f h k =
      subst (λ n. IsAtMost (nest_cost o i ro ri ops) (nest_cost p j n rj oqs)) d
      (subst (λ n. IsAtMost (nest_cost o i ro ri ops) (nest_cost p j ro n oqs)) e
      (subst (λ n. IsAtMost (nest_cost o i ro ri ops) (nest_cost p j ro ri n)) f (nest-rises o p i j ro ri ops h k)))

  operators-like : (o p i j : Plan) → IsLike o p → IsLike i j → join_operators q o i ≡ join_operators q p j
  operators-like o p i j h k = ap (λ test. operators (conditions_where test q.classes.clauses)) (joins-like o p i j h k)

  pub nest-replaced : (o p i j : Plan) → IsLike o p → IsLike i j → IsAtMost (cost c q o) (cost c q p) → IsAtMost (cost c q i) (cost c q j) → IsAtMost (cost c q (nest o i)) (cost c q (nest p j))
  nest-replaced o p i j h k l m =
      nest-same (cost c q o) (cost c q p) (cost c q i) (cost c q j) (estimate c q o) (estimate c q i) (join_operators q o i) (estimate c q p) (estimate c q j) (join_operators q p j)
      (rows-like c q o p h) (rows-like c q i j k) (operators-like o p i j h k) l m

  merge-same : (o p i j : Pair) (n ro ri ms ops rp rj mt oqs : ℕ) → ro ≡ rp → ri ≡ rj → ms ≡ mt → ops ≡ oqs → IsAtMost o p → IsAtMost i j → IsAtMost (merge_cost o i ro ri n ms ops) (merge_cost p j rp rj n mt oqs)
  merge-same o p i j n ro ri ms ops rp rj mt oqs d e f g h k =
      subst (λ x. IsAtMost (merge_cost o i ro ri n ms ops) (merge_cost p j x rj n mt oqs)) d
      (subst (λ x. IsAtMost (merge_cost o i ro ri n ms ops) (merge_cost p j ro x n mt oqs)) e
      (subst (λ x. IsAtMost (merge_cost o i ro ri n ms ops) (merge_cost p j ro ri n x oqs)) f
      (subst (λ x. IsAtMost (merge_cost o i ro ri n ms ops) (merge_cost p j ro ri n ms x)) g (merge-rises o p i j ro ri n ms ops h k))))

  pairs-like : (keys : Keys) (o p i j : Plan) → IsLike o p → IsLike i j → pairs c q.range q.classes (set_of o) (set_of i) keys ≡ pairs c q.range q.classes (set_of p) (set_of j) keys
  pairs-like keys o p i j h k = λ x. pairs c q.range q.classes (set-like o p h x) (set-like i j k x) keys

  others-like : (keys : Keys) (o p i j : Plan) → IsLike o p → IsLike i j → merge_operators q keys o i ≡ merge_operators q keys p j
  others-like keys o p i j h k = λ x. operators (conditions_where (λ (e : Clause). is_join (set-like o p h x) (set-like i j k x) e && not (is_pair_of keys e)) q.classes.clauses)

  pub merge-replaced : (keys : Keys) (o p i j : Plan) → IsLike o p → IsLike i j → IsAtMost (cost c q o) (cost c q p) → IsAtMost (cost c q i) (cost c q j) → IsAtMost (cost c q (merge keys o i)) (cost c q (merge keys p j))
  merge-replaced keys o p i j h k l m =
      merge-same (cost c q o) (cost c q p) (cost c q i) (cost c q j) (length keys) (estimate c q o) (estimate c q i) (pairs c q.range q.classes (set_of o) (set_of i) keys) (merge_operators q keys o i) (estimate c q p) (estimate c q j) (pairs c q.range q.classes (set_of p) (set_of j) keys) (merge_operators q keys p j)
      (rows-like c q o p h) (rows-like c q i j k) (pairs-like keys o p i j h k) (others-like keys o p i j h k) l m

  -- the totals alone: they read no startup
  total-pair : (a b : Pair) → a.total ≤ b.total → IsAtMost (pair 0 a.total) (pair 0 b.total)
  total-pair a b h = record { startup = le_refl 0; total = h }

  pub nest-totals : (o p i j : Plan) → IsLike o p → IsLike i j → (cost c q o).total ≤ (cost c q p).total → (cost c q i).total ≤ (cost c q j).total → (cost c q (nest o i)).total ≤ (cost c q (nest p j)).total
  nest-totals o p i j h k l m =
      (nest-same (pair 0 (cost c q o).total) (pair 0 (cost c q p).total) (pair 0 (cost c q i).total) (pair 0 (cost c q j).total) (estimate c q o) (estimate c q i) (join_operators q o i) (estimate c q p) (estimate c q j) (join_operators q p j)
      (rows-like c q o p h) (rows-like c q i j k) (operators-like o p i j h k) (total-pair (cost c q o) (cost c q p) l) (total-pair (cost c q i) (cost c q j) m)).total

  pub merge-totals : (keys : Keys) (o p i j : Plan) → IsLike o p → IsLike i j → (cost c q o).total ≤ (cost c q p).total → (cost c q i).total ≤ (cost c q j).total → (cost c q (merge keys o i)).total ≤ (cost c q (merge keys p j)).total
  merge-totals keys o p i j h k l m =
      (merge-same (pair 0 (cost c q o).total) (pair 0 (cost c q p).total) (pair 0 (cost c q i).total) (pair 0 (cost c q j).total) (length keys) (estimate c q o) (estimate c q i) (pairs c q.range q.classes (set_of o) (set_of i) keys) (merge_operators q keys o i) (estimate c q p) (estimate c q j) (pairs c q.range q.classes (set_of p) (set_of j) keys) (merge_operators q keys p j)
      (rows-like c q o p h) (rows-like c q i j k) (pairs-like keys o p i j h k) (others-like keys o p i j h k) (total-pair (cost c q o) (cost c q p) l) (total-pair (cost c q i) (cost c q j) m)).total

  -- a sort reads the total of its input alone
  pub sort-totals : (keys : Keys) (p other : Plan) → IsLike p other → (cost c q p).total ≤ (cost c q other).total → IsAtMost (cost c q (sort keys p)) (cost c q (sort keys other))
  sort-totals keys p other like most =
      sort-same (pair 0 (cost c q p).total) (pair 0 (cost c q other).total) (set_of p) (set_of other) (set-like p other like) (total-pair (cost c q p) (cost c q other) most)
