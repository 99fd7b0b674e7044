-- Estimates of a plan by the set that its relations are found to be.
use Rattle.std.proofs.Common.{◌≡◌, ◌≤◌, ℕ, ap, ap₂, sym, ◌∙◌, arith}
use Rattle.std.specs.Prelude.{Option, Some, None, option_map}
use Rattle.pg_base.specs.Sets.{has}
use Rattle.pg_base.specs.declared.numbers.RelNo.{RelNo}
use Rattle.pg_base.specs.declared.rel_set.RelSet.{RelSet}
use Rattle.sql_query.specs.catalog_Contents.{Contents}
use Rattle.sql_query.specs.Queries.{Query}
use Rattle.path_cost.specs.Estimates.{param_rows, set_rows}
use Rattle.plan_tree.specs.Plans.{Plan, seq, index, index_only, bitmap, sort, nest, merge, set_of, given_scan}
use Rattle.plan_tree.specs.Costs.{estimate, rows_given}
use Rattle.plan_tree.specs.work.Reads.{ReadsBelow, scan_of}

-- a plan that reads relations below a number reads relations below a greater one
pub below-more : (m n : ℕ) (p : Plan) → m ≤ n → ReadsBelow m p → ReadsBelow n p
below-more m n (seq r) le h = omega (arith, le, h)
below-more m n (index r i backward p) le h = omega (arith, le, h)
below-more m n (index_only r i backward p) le h = omega (arith, le, h)
below-more m n (bitmap r p bits) le h = omega (arith, le, h)
below-more m n (sort keys input) le h = below-more m n input le h
below-more m n (nest outer inner) le h = (below-more m n outer le h.0, below-more m n inner le h.1)
below-more m n (merge keys outer inner) le h = (below-more m n outer le h.0, below-more m n inner le h.1)

pub estimate-whole : (c : Contents) (q : Query) (p : Plan) (s : RelSet) (o : Option (RelNo × RelSet)) → ((k : ℕ) → has s.0 k ≡ set_of p k) → option_map scan_of o ≡ given_scan p → o ≡ None →
    set_rows c q.range q.classes (has s.0) ≡ estimate c q p
estimate-whole c q p s o members given none =
    let whole : None ≡ given_scan p = ap (option_map scan_of) (sym none) ∙ given in
    ap₂ (rows_given c q) (λ i k. members k i) whole

pub estimate-given : (c : Contents) (q : Query) (p : Plan) (r : RelNo) (param : RelSet) (o : Option (RelNo × RelSet)) → option_map scan_of o ≡ given_scan p → o ≡ Some (r, param) →
    param_rows c q.range q.classes r.0 (has param.0) ≡ estimate c q p
estimate-given c q p r param o given some =
    let scan : Some (scan_of (r, param)) ≡ given_scan p = ap (option_map scan_of) (sym some) ∙ given in
    ap (rows_given c q (set_of p)) scan

pub ruleset estimates = (below-more, estimate-whole, estimate-given)
