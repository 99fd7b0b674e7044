-- The relations whose rows the scans of a relation may be given: its neighbours in the graph of joins (PostgreSQL,
-- src/backend/optimizer/README, parameterized paths). Own.
use Rattle.std.specs.Prelude.{◌≡◌, ◌<◌, ℕ, Bool, true, ◌&&◌, is_some, length, nat_lt}
use Rattle.pg_base.specs.Sets.{has}
use Rattle.pg_base.specs.declared.rel_set.RelSet.{RelSet}
use Rattle.pg_expr.specs.Columns.{names_rel}
use Rattle.catalog.specs.Contents.{Contents}
use Rattle.eq_classes.specs.Clauses.{Set, one}
use Rattle.eq_classes.specs.Listing.{clause_at, conjunct_of}
use Rattle.eq_classes.specs.Parts.{is_param}
use Rattle.path_cost.specs.Estimates.{conditions_where}
use Rattle.sql_query.specs.Queries.{Query}
use Rattle.plan_tree.specs.Plans.{Plan}
use Rattle.plan_tree.specs.Space.{IsPlanOf, others_named}
use Rattle.pg_base.specs.declared.numbers.RelNo.{RelNo}

-- the numbers of the clauses that come from conjuncts and name a relation
abbrev pub AreConjuncts : Query → ℕ → (ℕ → Bool) → Type 0
AreConjuncts q r chosen = (n : ℕ) → chosen n ≡
    nat_lt n (length q.classes.clauses) && (is_some (conjunct_of (clause_at q.classes.clauses n).source) && names_rel r (clause_at q.classes.clauses n).cond)

-- a set has each other relation that the clauses name which a relation tests given the row of one relation below a number
abbrev pub HavePairs : Query → ℕ → ℕ → Set → Type 0
HavePairs q r end near = (m : ℕ) → m < end → (k : ℕ) → others_named r (conditions_where (is_param r (one m)) q.classes.clauses) k ≡ true → near k ≡ true

-- a set has each relation whose rows a scan of a relation is given
abbrev pub IsNear : Contents → Query → ℕ → Set → Type 0
IsNear c q r near = (p : RelSet) (t : Plan) → IsPlanOf c q (one r) (has p.0) t → (k : ℕ) → has p.0 k ≡ true → near k ≡ true

-- a clause comes from a conjunct and names a relation
abbrev pub is_conjunct_naming : Query → RelNo → ℕ → Bool
is_conjunct_naming q r n =
    is_some (conjunct_of (clause_at q.classes.clauses n).source) && names_rel r.0 (clause_at q.classes.clauses n).cond

-- the other relations that the clauses name which a relation tests given the row of one more
abbrev pub AreNamedWith : Query → RelNo → RelNo → RelSet → Type 0
AreNamedWith q r k near =
    (j : ℕ) → has near.0 j ≡ others_named r.0 (conditions_where (is_param r.0 (one k.0)) q.classes.clauses) j
