-- The costs of joins and sorts by what the costs of their sides are computed from.
use Rattle.std.proofs.Common.{◌≡◌, ◌-◌, ◌^◌, ◌&&◌, ℕ, false, List, length, min, nat_lt, not, refl, sym, ◌∙◌, ap}
use Rattle.pg_base.specs.Sets.{has}
use Rattle.pg_base.specs.declared.rel_set.RelSet.{RelSet}
use Rattle.catalog.specs.Contents.{Contents}
use Rattle.cost_rules.specs.Costs.{merge_cost, nest_cost, sort_cost}
use Rattle.cost_rules.specs.work.Costs.{IsEstimate, capped_pair}
use Rattle.cost_rules.specs.declared.pair.Pair.{Pair}
use Rattle.pg_expr.specs.work.AtomSets.{contains}
use Rattle.eq_classes.specs.Clauses.{Set, ClassTable}
use Rattle.eq_classes.specs.Listing.{clause_at}
use Rattle.eq_classes.specs.Parts.{is_join}
use Rattle.path_cost.specs.Costs.{operators}
use Rattle.path_cost.specs.Estimates.{conditions_from, conditions_where, is_pair_of, pairs, set_rows}
use Rattle.path_cost.specs.work.Estimates.{either_but}
use Rattle.pathkeys.specs.Keys.{Keys}
use Rattle.sql_query.specs.Queries.{Query}
use Rattle.plan_tree.specs.Costs.{cost, estimate, join_operators, merge_operators, rows_given}
use Rattle.plan_tree.specs.work.Paths.{kept_cost}
use Rattle.plan_tree.specs.Plans.{Plan, joins, merge, nest, param_of, set_of, sort}
use Rattle.plan_tree.specs.Space.{IsEmpty, IsSameSet}
use Rattle.plan_tree.proofs.JoinLemmas.{join_operators_are, merge_costs, merge_operators_are, nest_costs}
use Rattle.plan_tree.proofs.WindowLemmas.{merge-kept, nest-kept, sort-kept}
use Rattle.entry_check.specs.work.Parts.{IsPart, IsReckoned}
use Rattle.entry_check.specs.declared.work_parts.Part.{Part}
use Rattle.plan_tree.proofs.GivenLemmas.{given-none}
use Rattle.plan_tree.proofs.SetLemmas.{sets-same}

-- the operators of the clauses found, which are those of a nested loop of plans of these sets
pub nest-operators-are : (q : Query) (t : ClassTable) (tested none : List ℕ) (a : RelSet) (o i : Plan) (n : ℕ) → t ≡ q.classes → IsSameSet (set_of o) (has a.0) →
    ((k : ℕ) → contains tested k ≡ nat_lt k (length t.clauses) && joins (has a.0) i (clause_at t.clauses k)) → ((k : ℕ) → contains none k ≡ false) →
    n ≡ min (operators (conditions_from 0 (either_but tested none none) t.clauses)) (2 ^ 64 - 1) → n ≡ min (join_operators q o i) (2 ^ 64 - 1)
nest-operators-are q t tested none a o i n same reads h g e =
    let as-set : has a.0 ≡ set_of o = sym (sets-same (set_of o) (has a.0) reads) in
    e ∙ ap (λ m. min m (2 ^ 64 - 1)) (join_operators_are (joins (has a.0) i) t.clauses tested none h g)
    ∙ (λ z. min (operators (conditions_where (joins (as-set z) i) (same z).clauses)) (2 ^ 64 - 1))

-- the operators of the clauses found, which are those of a merge of two sets by some classes
pub merge-operators-are : (q : Query) (t : ClassTable) (keys tested none equal : List ℕ) (a b : RelSet) (n : ℕ) → t ≡ q.classes →
    ((k : ℕ) → contains tested k ≡ nat_lt k (length t.clauses) && is_join (has a.0) (has b.0) (clause_at t.clauses k)) → ((k : ℕ) → contains none k ≡ false) →
    ((k : ℕ) → contains equal k ≡ nat_lt k (length t.clauses) && (is_join (has a.0) (has b.0) (clause_at t.clauses k) && is_pair_of keys (clause_at t.clauses k))) →
    n ≡ min (operators (conditions_from 0 (either_but tested none equal) t.clauses)) (2 ^ 64 - 1) →
    n ≡ min (operators (conditions_where (λ k. is_join (has a.0) (has b.0) k && not (is_pair_of keys k)) q.classes.clauses)) (2 ^ 64 - 1)
merge-operators-are q t keys tested none equal a b n same h g f e =
    e ∙ ap (λ m. min m (2 ^ 64 - 1)) (merge_operators_are t.clauses a b (has a.0) (has b.0) keys tested none equal (λ k. refl) (λ k. refl) h g f)
    ∙ (λ z. min (operators (conditions_where (λ k. is_join (has a.0) (has b.0) k && not (is_pair_of keys k)) (same z).clauses)) (2 ^ 64 - 1))

module _ (c : Contents) (q : Query) where
  -- the rows of a plan that is given none are those of its set
  pub whole-rows : (t : Plan) → IsEmpty (param_of t) → estimate c q t ≡ set_rows c q.range q.classes (set_of t)
  whole-rows t none = ap (rows_given c q (set_of t)) (given-none t none)

  pub nest-rule : (x y : Part) (o i : Plan) (ops : ℕ) (result : Pair) → IsReckoned x → IsReckoned y → IsPart c q x o → IsPart c q y i → ops ≡ min (join_operators q o i) (2 ^ 64 - 1) →
      result ≡ capped_pair (nest_cost x.cost y.cost x.rows y.rows ops) → result ≡ capped_pair (kept_cost q.window (cost c q (nest o i)))
  nest-rule x y o i ops result rx ry h k e f =
      let a = cost c q o in
      let b = cost c q i in
      nest_costs result x.cost y.cost x.rows y.rows ops (estimate c q o) (estimate c q i) (join_operators q o i) f h.rows_are k.rows_are e rx.rows.some ry.rows.some (kept_cost q.window a) (kept_cost q.window b) h.cost_is k.cost_is
      ∙ ap capped_pair (nest-kept q.window a b (estimate c q o) (estimate c q i) (join_operators q o i))

  pub merge-rule : (x y : Part) (keys : Keys) (o i : Plan) (len equal ops : ℕ) (result : Pair) → IsPart c q x o → IsPart c q y i → len ≡ length keys →
      equal ≡ pairs c q.range q.classes (has x.set.0) (has y.set.0) keys → IsEstimate equal →
      ops ≡ min (operators (conditions_where (λ k. is_join (has x.set.0) (has y.set.0) k && not (is_pair_of keys k)) q.classes.clauses)) (2 ^ 64 - 1) →
      result ≡ capped_pair (merge_cost x.cost y.cost x.rows y.rows len equal ops) → result ≡ capped_pair (kept_cost q.window (cost c q (merge keys o i)))
  merge-rule x y keys o i len equal ops result h k el ee some eo f =
      let a = cost c q o in
      let b = cost c q i in
      let as-set : has x.set.0 ≡ set_of o = sym (sets-same (set_of o) (has x.set.0) h.set) in
      let as-set' : has y.set.0 ≡ set_of i = sym (sets-same (set_of i) (has y.set.0) k.set) in
      let equal-rows = pairs c q.range q.classes (set_of o) (set_of i) keys in
      let same : equal ≡ equal-rows = ee ∙ (λ z. pairs c q.range q.classes (as-set z) (as-set' z) keys) in
      let tested : ops ≡ min (merge_operators q keys o i) (2 ^ 64 - 1) = eo ∙ (λ z. min (operators (conditions_where (λ n. is_join (as-set z) (as-set' z) n && not (is_pair_of keys n)) q.classes.clauses)) (2 ^ 64 - 1)) in
      merge_costs result x.cost y.cost x.rows y.rows len equal ops (estimate c q o) (estimate c q i) (length keys) equal-rows (merge_operators q keys o i)
      f h.rows_are k.rows_are el same tested some.some (kept_cost q.window a) (kept_cost q.window b) h.cost_is k.cost_is
      ∙ ap capped_pair (merge-kept q.window a b (estimate c q o) (estimate c q i) (length keys) equal-rows (merge_operators q keys o i))

  pub sort-rule : (x : Part) (keys : Keys) (p : Plan) (made result : Pair) → IsPart c q x p → IsEmpty (param_of p) →
      made ≡ capped_pair (sort_cost x.cost x.rows) → result ≡ kept_cost q.window made → result ≡ capped_pair (kept_cost q.window (cost c q (sort keys p)))
  sort-rule x keys p made result h none e f =
      f ∙ ap (kept_cost q.window) e
      ∙ ap (λ (y : Pair). kept_cost q.window (capped_pair (sort_cost y x.rows))) h.cost_is
      ∙ sort-kept q.window (cost c q p) x.rows
      ∙ ap (λ n. capped_pair (kept_cost q.window (sort_cost (cost c q p) n))) (h.rows_are ∙ whole-rows p none)
