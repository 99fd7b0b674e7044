-- The clauses of joins by the sets that the relations of their sides are found to be, and their costs over those of the sides.
use Rattle.std.proofs.Common.{◌≡◌, ◌≤◌, ◌<◌, ℕ, ◌+◌, ◌-◌, ◌*◌, ◌^◌, ◌&&◌, ◌||◌, Bool, false, not, List, length, min, nat_lt, arith, ap, sym, ◌∙◌}
use Rattle.std.proofs.lemmas.Grind.{common_steps}
use Rattle.std.specs.Prelude.{Option, Some, None, option_map}
use Rattle.pg_base.specs.Sets.{has}
use Rattle.pg_base.specs.declared.numbers.RelNo.{RelNo}
use Rattle.pg_base.specs.declared.rel_set.RelSet.{RelSet}
use Rattle.pg_expr.specs.work.AtomSets.{contains}
use Rattle.cost_rules.specs.declared.pair.Pair.{Pair}
use Rattle.cost_rules.specs.Costs.{pair, nest_cost, merge_cost}
use Rattle.cost_rules.specs.work.Costs.{capped, capped_pair}
use Rattle.cost_rules.proofs.CapLemmas.{nest-capped, merge-capped}
use Rattle.eq_classes.specs.Clauses.{Set, Clause}
use Rattle.eq_classes.specs.Listing.{clause_at}
use Rattle.eq_classes.specs.Parts.{is_join, is_join_param}
use Rattle.path_cost.specs.Costs.{operators}
use Rattle.path_cost.specs.Estimates.{conditions_from, conditions_where, is_pair_of}
use Rattle.path_cost.specs.work.Estimates.{either_but}
use Rattle.path_cost.proofs.CostLemmas.{work-cut}
use Rattle.path_cost.proofs.KeptLemmas.{where-from}
use Rattle.plan_tree.specs.Plans.{Plan, set_of, given_scan, joins, joins_with}
use Rattle.plan_tree.specs.work.Reads.{scan_of}

pub joining-whole : (ks : List Clause) (set : List ℕ) (a b : RelSet) (o i : Plan) (found : Option (RelNo × RelSet)) → ((k : ℕ) → contains set k ≡ nat_lt k (length ks) && is_join (has a.0) (has b.0) (clause_at ks k)) →
    ((n : ℕ) → has a.0 n ≡ set_of o n) → ((n : ℕ) → has b.0 n ≡ set_of i n) → option_map scan_of found ≡ given_scan i → found ≡ None →
    (k : ℕ) → contains set k ≡ nat_lt k (length ks) && joins (set_of o) i (clause_at ks k)
joining-whole ks set a b o i found h outer inner given none k =
    let whole : None ≡ given_scan i = ap (option_map scan_of) (sym none) ∙ given in
    h k ∙ (λ x. nat_lt k (length ks) && joins_with (λ n. outer n x) (λ n. inner n x) (whole x) (clause_at ks k))

pub joining-given : (ks : List Clause) (set : List ℕ) (a : RelSet) (o i : Plan) (r : RelNo) (p : RelSet) (found : Option (RelNo × RelSet)) → ((k : ℕ) → contains set k ≡ nat_lt k (length ks) && is_join_param (has a.0) r.0 (has p.0) (clause_at ks k)) →
    ((n : ℕ) → has a.0 n ≡ set_of o n) → option_map scan_of found ≡ given_scan i → found ≡ Some (r, p) →
    (k : ℕ) → contains set k ≡ nat_lt k (length ks) && joins (set_of o) i (clause_at ks k)
joining-given ks set a o i r p found h outer given some k =
    let scan : Some (scan_of (r, p)) ≡ given_scan i = ap (option_map scan_of) (sym some) ∙ given in
    h k ∙ (λ x. nat_lt k (length ks) && joins_with (λ n. outer n x) (set_of i) (scan x) (clause_at ks k))

pub ruleset joinings = (joining-whole, joining-given)

one-left : (n m : ℕ) (a x y : Bool) → n < m → x ≡ nat_lt n m && a → y ≡ false → (x || y) && not y ≡ a
one-left n m a x y lt e f = grind (arith, common_steps, lt, e, f)

-- the operators of a set of clauses that is found by a test
pub join_operators_are : (test : Clause → Bool) (ks : List Clause) (set none : List ℕ) → ((k : ℕ) → contains set k ≡ nat_lt k (length ks) && test (clause_at ks k)) → ((k : ℕ) → contains none k ≡ false) →
    operators (conditions_from 0 (either_but set none none) ks) ≡ operators (conditions_where test ks)
join_operators_are test ks set none h g = ap operators (where-from test (either_but set none none) ks 0 at)
  where
    at : (k : ℕ) → k < length ks → either_but set none none (0 + k) ≡ test (clause_at ks k)
    at k lt = let same : 0 + k ≡ k = omega arith in ap (either_but set none none) same ∙ one-left k (length ks) (test (clause_at ks k)) (contains set k) (contains none k) lt (h k) (g k)

some-left : (n m : ℕ) (a b x y z : Bool) → n < m → x ≡ nat_lt n m && a → y ≡ false → z ≡ nat_lt n m && (a && b) → (x || y) && not z ≡ a && not b
some-left n m a b x y z lt e f g = grind (arith, common_steps, lt, e, f, g)

-- the operators of the clauses of a join that are no pair clauses of some keys
pub merge_operators_are : (ks : List Clause) (a b : RelSet) (s t : Set) (keys set none equal : List ℕ) → ((n : ℕ) → has a.0 n ≡ s n) → ((n : ℕ) → has b.0 n ≡ t n) →
    ((k : ℕ) → contains set k ≡ nat_lt k (length ks) && is_join (has a.0) (has b.0) (clause_at ks k)) → ((k : ℕ) → contains none k ≡ false) →
    ((k : ℕ) → contains equal k ≡ nat_lt k (length ks) && (is_join (has a.0) (has b.0) (clause_at ks k) && is_pair_of keys (clause_at ks k))) →
    operators (conditions_from 0 (either_but set none equal) ks) ≡ operators (conditions_where (λ k. is_join s t k && not (is_pair_of keys k)) ks)
merge_operators_are ks a b s t keys set none equal outer inner h g e =
    ap operators (where-from (λ k. is_join (has a.0) (has b.0) k && not (is_pair_of keys k)) (either_but set none equal) ks 0 at)
    ∙ (λ x. operators (conditions_where (λ (k : Clause). is_join (λ n. outer n x) (λ n. inner n x) k && not (is_pair_of keys k)) ks))
  where
    at : (k : ℕ) → k < length ks → either_but set none equal (0 + k) ≡ is_join (has a.0) (has b.0) (clause_at ks k) && not (is_pair_of keys (clause_at ks k))
    at k lt =
        let same : 0 + k ≡ k = omega arith in
        ap (either_but set none equal) same
        ∙ some-left k (length ks) (is_join (has a.0) (has b.0) (clause_at ks k)) (is_pair_of keys (clause_at ks k)) (contains set k) (contains none k) (contains equal k) lt (h k) (g k) (e k)

some-product : (m n : ℕ) → 1 ≤ m → 1 ≤ n → 1 ≤ m * n
some-product m n h k = grind (arith, h, k)

-- the cut of the operators and of the sides' costs changes nothing of what is cut in the end
pub nest-cut : (a b : Pair) (ro ri n : ℕ) → 1 ≤ ro → 1 ≤ ri → capped_pair (nest_cost (capped_pair a) (capped_pair b) ro ri (min n (2 ^ 64 - 1))) ≡ capped_pair (nest_cost a b ro ri n)
nest-cut a b ro ri n h k =
    nest-capped a b ro ri (min n (2 ^ 64 - 1)) h ∙ ap (pair (capped (a.startup + b.startup))) (work-cut (a.total + ro * b.total) (ro * ri) n (some-product ro ri h k))

pub merge-cut : (a b : Pair) (ro ri keys equal n : ℕ) → 1 ≤ equal → capped_pair (merge_cost (capped_pair a) (capped_pair b) ro ri keys equal (min n (2 ^ 64 - 1))) ≡ capped_pair (merge_cost a b ro ri keys equal n)
merge-cut a b ro ri keys equal n h =
    merge-capped a b ro ri keys equal (min n (2 ^ 64 - 1)) ∙ ap (pair (capped (a.startup + b.startup))) (work-cut _ equal n h)

pub nest_costs : (result x y : Pair) (so si m ro ri n : ℕ) → result ≡ capped_pair (nest_cost x y so si m) → so ≡ ro → si ≡ ri → m ≡ min n (2 ^ 64 - 1) → 1 ≤ so → 1 ≤ si →
    (a b : Pair) → x ≡ capped_pair a → y ≡ capped_pair b → result ≡ capped_pair (nest_cost a b ro ri n)
nest_costs result x y so si m ro ri n e f g h k l a b i j =
    e ∙ (λ z. capped_pair (nest_cost (i z) (j z) so si (h z))) ∙ nest-cut a b so si n k l ∙ (λ z. capped_pair (nest_cost a b (f z) (g z) n))

pub merge_costs : (result x y : Pair) (so si ks e m ro ri keys equal n : ℕ) → result ≡ capped_pair (merge_cost x y so si ks e m) → so ≡ ro → si ≡ ri → ks ≡ keys → e ≡ equal → m ≡ min n (2 ^ 64 - 1) → 1 ≤ e →
    (a b : Pair) → x ≡ capped_pair a → y ≡ capped_pair b → result ≡ capped_pair (merge_cost a b ro ri keys equal n)
merge_costs result x y so si ks e m ro ri keys equal n r f g d h k l a b i j =
    r ∙ (λ z. capped_pair (merge_cost (i z) (j z) so si ks e (k z))) ∙ merge-cut a b so si ks e n l ∙ (λ z. capped_pair (merge_cost a b (f z) (g z) (d z) (h z) n))
