-- The query of the examples is one over tables.
use Rattle.std.proofs.Common.{◌≡◌, ◌≤◌, ◌&&◌, List, [], ◌∷◌, length, nat_lt, IsTrue, refl, sym, subst, arith}
use Rattle.std.specs.Prelude.{All}
use Rattle.std.proofs.lemmas.Bool.{true≢false}
use Rattle.std.proofs.lemmas.List.Elements.{All-cons, All-nil, All-weaker}
use Rattle.pg_base.specs.declared.limits.TheConstants.{MOST_ATOMS}
use Rattle.pg_base.specs.declared.numbers.TableNo.{TableNo}
use Rattle.pg_value.specs.declared.columns.Column.{Column}
use Rattle.pg_value.specs.declared.operators.Op.TheVariants.{Eq}
use Rattle.pg_value.specs.Truths.{AreComparable}
use Rattle.pg_expr.specs.Columns.{atom_count, each_column}
use Rattle.pg_expr.specs.Typed.{some_value, type_kind}
use Rattle.catalog.specs.Contents.{Contents, IsTable}
use Rattle.catalog.specs.Indexes.{type_at}
use Rattle.catalog.specs.Range.{Range}
use Rattle.catalog.specs.work.TextTables.{HasTexts}
use Rattle.eq_classes.specs.Clauses.{Clause}
use Rattle.path_cost.specs.work.Columns.{IsOver}
use Rattle.sql_query.specs.Queries.{Query}
use Rattle.plan_tree.specs.work.Reads.{IsOverTables}
use Rattle.worked_plans.specs.work.Examples.{first_of_left, first_of_right, firsts_equal, twice}

abbrev first : TableNo
first = record { 0 = 0 }

over-firsts : (c : Contents) → HasTexts c → IsOver c twice firsts_equal
over-firsts c h = record {
  columns = subst (λ (cs : List Column). IsTrue (each_column (λ x. nat_lt x.rel.0 2 && nat_lt x.col.0 (length cs)) firsts_equal)) (sym h.1) refl;
  typed = record {
    comparable = subst (λ (cs : List Column). AreComparable Eq (some_value (type_at cs first_of_left.col)) (some_value (type_at cs first_of_right.col))) (sym h.1) (refl, refl, tt);
    alike = subst (λ (cs : List Column). type_kind (type_at cs first_of_left.col) ≡ type_kind (type_at cs first_of_right.col)) (sym h.1) refl;
    integers = λ is. absurd (true≢false (sym is));
  };
}

pub over-twice : (c : Contents) (q : Query) → HasTexts c → q.range ≡ twice → All (λ (k : Clause). k.cond ≡ firsts_equal) q.classes.clauses → IsOverTables c q
over-twice c q h range firsts = record {
  tables = subst (λ (r : Range). All (λ x. IsTable c x.0) r) (sym range) (All-cons (λ x. IsTable c x.0) (first, 97 ∷ []) ((first, 98 ∷ []) ∷ []) h.0 (All-cons (λ x. IsTable c x.0) (first, 98 ∷ []) [] h.0 (All-nil (λ x. IsTable c x.0))));
  few = subst (λ (r : Range). length r ≤ 16) (sym range) (omega arith);
  clauses = All-weaker (λ (k : Clause). k.cond ≡ firsts_equal) (λ (k : Clause). IsOver c q.range k.cond)
      (λ k e. subst (λ x. IsOver c q.range x) (sym e) (subst (λ (r : Range). IsOver c r firsts_equal) (sym range) (over-firsts c h))) q.classes.clauses firsts;
  atoms = All-weaker (λ (k : Clause). k.cond ≡ firsts_equal) (λ (k : Clause). atom_count k.cond ≤ MOST_ATOMS) (λ k e. subst (λ x. atom_count x ≤ MOST_ATOMS) (sym e) (omega arith)) q.classes.clauses firsts;
}
