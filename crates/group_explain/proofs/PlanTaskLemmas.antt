-- The numbers of a grouping are those of its query.
use Rattle.std.proofs.Common.{◌≡◌, ℕ, Bool, List, [], ◌∷◌, length, map, sym, subst, ap, ap₂, ◌∙◌, arith}
use Rattle.std.proofs.lemmas.Bool.{ne_eqb}
use Rattle.std.specs.Prelude.{All, not, nat_eq}
use Rattle.catalog.specs.Contents.{Contents}
use Rattle.catalog.specs.Range.{Range}
use Rattle.eq_classes.specs.declared.classes.ClassNo.{ClassNo}
use Rattle.eq_classes.specs.Clauses.{Clause, Set, ClassTable}
use Rattle.path_cost.specs.work.Columns.{IsOver}
use Rattle.path_cost.specs.Estimates.{set_rows}
use Rattle.pathkeys.specs.work.Finding.{class_numbers}
use Rattle.pathkeys.specs.Keys.{Keys, covers}
use Rattle.sql_query.specs.Queries.{Query, all_of_query}
use Rattle.plan_tree.specs.Costs.{query_rows}
use Rattle.plan_tree.specs.Space.{IsSameSet}
use Rattle.group_values.specs.declared.form.Form.{Form}
use Rattle.group_values.specs.declared.form.Form.TheVariants.{Sorted, Hashed}
use Rattle.group_values.specs.declared.task.GroupTask.{GroupTask}
use Rattle.group_values.specs.work.GroupCosts.{sorts_after}
use Rattle.group_explain.specs.GroupPlans.{GroupQuery, distinct_of, form_keys, group_keys, line_keys}
use Rattle.group_explain.specs.work.GroupPlans.{IsAskedBy, IsTaskOf}

pub rows-are : (c : Contents) (q : Query) (range : Range) (classes : ClassTable) (s : Set) (n : ℕ) → n ≡ set_rows c range classes s → range ≡ q.range → classes ≡ q.classes → IsSameSet s (all_of_query q) → n ≡ query_rows c q
rows-are c q range classes s n e f g same =
    e ∙ ap (λ (x : Set). set_rows c range classes x) (λ i k. same k i) ∙ ap₂ (λ r t. set_rows c r t (all_of_query q)) f g

-- clauses over relations that were lent
pub clauses-lent : (c : Contents) (q : Query) (range : Range) (classes : ClassTable) → range ≡ q.range → classes ≡ q.classes → All (λ (k : Clause). IsOver c q.range k.cond) q.classes.clauses → All (λ (k : Clause). IsOver c range k.cond) classes.clauses
clauses-lent c q range classes e f over =
    subst (λ r. All (λ (k : Clause). IsOver c r k.cond) classes.clauses) (sym e) (subst (λ (t : ClassTable). All (λ (k : Clause). IsOver c q.range k.cond) t.clauses) (sym f) over)

-- a list covers the empty one, and the empty list no other
pub none-covers : (ls : List ClassNo) (keys : Keys) (b : Bool) → b ≡ nat_eq (length ls) 0 → class_numbers ls ≡ keys → b ≡ covers [] keys
none-covers [] keys b e f = e ∙ ap (covers []) f
none-covers (l ∷ ls) keys b e f = e ∙ ne_eqb (length (l ∷ ls)) 0 (λ h. absurd (omega (arith, h))) ∙ ap (covers []) f

sorts-are : (g : GroupQuery) (t : GroupTask) → t.sort_sorted ≡ not (covers (group_keys g) (line_keys g)) → t.sort_hashed ≡ not (covers [] (line_keys g)) → (form : Form) → sorts_after form t ≡ not (covers (form_keys form g) (line_keys g))
sorts-are g t e f Sorted = e
sorts-are g t e f Hashed = f

pub task-is : (c : Contents) (q : Query) (g : GroupQuery) (of_groups of_lines : Keys) (number : ℕ) (t : GroupTask) → g.base ≡ q → IsAskedBy g of_groups of_lines number → t.rows ≡ query_rows c q → t.distinct.items ≡ map (distinct_of c q) of_groups → t.calls ≡ number
    → t.sort_sorted ≡ not (covers of_groups of_lines) → t.sort_hashed ≡ not (covers [] of_lines) → IsTaskOf c g t
task-is c q g of_groups of_lines number t same asked rows distinct calls sorted hashed = record {
  rows = rows ∙ ap (query_rows c) (sym same);
  distinct = distinct ∙ ap₂ (λ k ks. map (distinct_of c k) ks) (sym same) asked.groups;
  calls = calls ∙ asked.calls;
  sorts = sorts-are g t (sorted ∙ ap₂ (λ k l. not (covers k l)) asked.groups asked.lines) (hashed ∙ ap (λ l. not (covers [] l)) asked.lines);
}
