-- What a search has done so far. Own.
use Rattle.std.specs.Prelude.{◌≡◌, ◌<◌, ◌≤◌, ℕ, All, None, ◌+◌}
use Rattle.pg_base.specs.declared.rel_set.RelSet.{RelSet}
use Rattle.catalog.specs.Contents.{Contents}
use Rattle.sql_query.specs.Queries.{Query}
use Rattle.join_search.specs.work.Tables.{front_at, none, paths_at}
use Rattle.join_search.specs.work.Joins.{ArePlaced, AreUndominated, IsJoinPath, IsSingle}
use Rattle.join_search.specs.work.Offers.{AreJoinsServed}
use Rattle.join_search.specs.work.Splits.{IsDivided}
use Rattle.join_search.specs.declared.table.Table.{Table}
use Rattle.join_search.specs.declared.useful.Asked.{Asked}
use Rattle.join_search.specs.declared.splits.Task.{Task}

-- the sets below a number are done, over the fronts that were passed
pub record IsDone (c : Contents) (q : Query) (asked : Asked) (base t : Table) (n : ℕ) : Type 0 where
  pub handed : (s p : RelSet) → IsSingle s → front_at t s p ≡ front_at base s p
  pub placed : ArePlaced c q (paths_at t)
  pub served : (s a b : RelSet) → s.0 < n → IsDivided s a b → AreJoinsServed c q asked (paths_at t) (paths_at t s none) a b
  pub kept : (s p : RelSet) → ¬ IsSingle s → All (IsJoinPath c q (paths_at t) s p) (paths_at t s p)
  pub undominated : (s p : RelSet) → ¬ IsSingle s → AreUndominated c q (paths_at t s p)
  pub later : (s p : RelSet) → n ≤ s.0 → ¬ IsSingle s → front_at t s p ≡ None

-- where the sets below a number are done in one table, those below the next one are in another
abbrev pub DoesNext : Task → Table → Table → ℕ → Type 0
DoesNext task before t n = (base : Table) →
    IsDone task.cat.now task.q.now task.asked base before n → IsDone task.cat.now task.q.now task.asked base t (n + 1)

-- the sets below a number are done, and perhaps more
abbrev pub IsDoneTo : Task → Table → Table → ℕ → Type 0
IsDoneTo task base t end = (n : ℕ) × (end ≤ n) × IsDone task.cat.now task.q.now task.asked base t n
