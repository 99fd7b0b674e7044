-- A query without conditions and ORDER BY has no clause.
use Rattle.std.proofs.Common.{◌≡◌, ◌<◌, ℕ, List, [], ◌∷◌, length, refl, sym, ◌∙◌, ap, subst, arith}
use Rattle.std.specs.Prelude.{◌≤◌, All}
use Rattle.std.proofs.lemmas.List.Elements.{All-head, All-nil, All-weaker}
use Rattle.pg_base.specs.declared.limits.TheConstants.{MOST_ATOMS}
use Rattle.pg_expr.specs.Columns.{atom_count}
use Rattle.catalog.specs.Contents.{Contents, IsTable as IsTableOf}
use Rattle.eq_classes.specs.Classes.{Class, Premises, first_mention}
use Rattle.eq_classes.specs.Clauses.{Clause, ClassTable, clause_list}
use Rattle.eq_classes.specs.Holding.{IsClassTable}
use Rattle.path_cost.specs.work.Columns.{IsOver}
use Rattle.sql_query.specs.Queries.{Query, width}
use Rattle.plan_tree.specs.work.Reads.{IsOverTables}

no-class : (n : Class → ℕ) (cs : List Class) → All (λ c. n c < 0) cs → cs ≡ []
no-class n [] h = refl
no-class n (c ∷ cs) h = absurd (omega (arith, All-head (λ d. n d < 0) c cs h))

pub no-clause : (g : Premises) (t : ClassTable) → IsClassTable g t → g.conjuncts ≡ [] → g.order ≡ [] → t.clauses ≡ []
no-clause g t h none no-order =
    let bare : Premises = record { conjuncts = []; order = []; type_of = g.type_of } in
    let same : g ≡ bare = λ z. record { conjuncts = none z; order = no-order z; type_of = g.type_of } in
    let table : IsClassTable bare t = subst (λ (k : Premises). IsClassTable k t) same h in
    table.clauses ∙ ap (clause_list g.type_of []) (no-class (first_mention bare) t.classes table.classes.none_else)

-- so it is one over a catalogue with a table
pub over-one : (c : Contents) (q : Query) → 0 < length c.tables → All (λ r. r.0.0 ≡ 0) q.range → width q ≡ 1 → q.classes.clauses ≡ [] → IsOverTables c q
over-one c q some range one none = record {
  tables = All-weaker (λ r. r.0.0 ≡ 0) (λ r. IsTableOf c r.0) (λ r e. omega (arith, some, e)) q.range range;
  few = omega (arith, one);
  clauses = subst (All (λ (k : Clause). IsOver c q.range k.cond)) (sym none) (All-nil (λ (k : Clause). IsOver c q.range k.cond));
  atoms = subst (All (λ (k : Clause). atom_count k.cond ≤ MOST_ATOMS)) (sym none) (All-nil (λ (k : Clause). atom_count k.cond ≤ MOST_ATOMS));
}
