-- Queries whose ORs have arms. Own; SQL writes no other OR.
use Rattle.std.specs.Prelude.{◌≡◌, ◌≤◌, true, length, All}
use Rattle.eq_classes.specs.Clauses.{Clause}
use Rattle.index_match.specs.Arms.{arms_of}
use Rattle.plan_tree.specs.Bitmaps.{is_or}
use Rattle.sql_query.specs.Queries.{Query}

-- each clause that is an OR has an arm
abbrev pub HasArmsInOrs : Query → Type 0
HasArmsInOrs q = All (λ (k : Clause). is_or k.cond ≡ true → 1 ≤ length (arms_of k.cond)) q.classes.clauses
