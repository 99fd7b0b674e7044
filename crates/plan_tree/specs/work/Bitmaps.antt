-- Working words beside those of `Bitmaps`.
use Rattle.std.specs.Prelude.{◌≡◌, ◌≤◌, ℕ, false, List, [], ◌∷◌, ◌++◌, length, take, ◌<◌, All, IsTrue}
use Rattle.pg_expr.specs.Cond.{any_of}
use Rattle.pg_expr.specs.work.View as view
use Rattle.sql_query.specs.catalog_Contents.{Contents}
use Rattle.eq_classes.specs.Clauses.{ClassTable}
use Rattle.sql_query.specs.Queries.{Query}
use Rattle.index_match.specs.Arms.{arms_of}
use Rattle.pg_base.specs.Sets.{has}
use Rattle.pg_base.specs.declared.limits.TheConstants.{MOST_ATOMS}
use Rattle.pg_base.specs.declared.numbers.RelNo.{RelNo}
use Rattle.pg_base.specs.declared.rel_set.RelSet.{RelSet}
use Rattle.pg_expr.specs.work.AtomSets.{contains}
use Rattle.pg_expr.specs.Columns.{atom_count}
use Rattle.pg_expr.specs.declared.expr.Expr.{Expr}
use Rattle.plan_tree.specs.Bitmaps.{MOST_ELEMENTS, Element, is_or, IsMatchedOr, condition_at, AreElements}

-- elements with one more at the end, where there is room
abbrev pub with_element : List Element → Element → List Element
with_element es e = take MOST_ELEMENTS (es ++ e ∷ [])

-- the clause of a number is no OR
abbrev pub IsNoOr : Query → ℕ → Type 0
IsNoOr q n = is_or (condition_at q n) ≡ false

-- the clause of a number is an OR with no arms, or none
abbrev pub HasNoArms : Query → ℕ → Type 0
HasNoArms q n = arms_of (condition_at q n) ≡ []

-- the clause of a number is an OR of these
abbrev pub IsOrOf : Query → ℕ → List Expr → Type 0
IsOrOf q n es = condition_at q n ≡ any_of (view.conds es)

-- each of some expressions has few atoms
abbrev pub AreOfFewAtoms : List Expr → Type 0
AreOfFewAtoms es = All (λ (e : Expr). atom_count (view.cond e) ≤ MOST_ATOMS) es

-- the clause of a number is an OR each of whose arms some index matches
abbrev pub IsMatchedAt : Contents → Query → ℕ → ℕ → Type 0
IsMatchedAt c q r n = IsMatchedOr c q r (condition_at q n)

-- a set has the number of a clause
abbrev pub HasNumber : ClassTable → List ℕ → Type 0
HasNumber t set = (n : ℕ) × (n < length t.clauses) × IsTrue (contains set n)

-- a list has the first elements of a relation with a parameterisation
abbrev pub AreFirstElements : Contents → Query → RelNo → RelSet → List Element → Type 0
AreFirstElements c q r p kept = (es : List Element) × AreElements c q r.0 (has p.0) es × (kept ≡ take MOST_ELEMENTS es)
