-- A table with the front of one set put in the place of another one.
use Rattle.std.proofs.Common.{◌≡◌, ◌⊎◌, List, map, inl, inr, sym, ap, subst, subst₂}
use Rattle.std.specs.Prelude.{All, Some}
use Rattle.pg_base.specs.declared.rel_set.RelSet.{RelSet}
use Rattle.catalog.specs.Contents.{Contents}
use Rattle.sql_query.specs.Queries.{Query}
use Rattle.plan_tree.specs.work.Views.{path}
use Rattle.plan_tree.specs.declared.path.Path.{Path as Costed}
use Rattle.join_search.specs.work.Tables.{IsSamePlace, front_at, none, paths_at, paths_of}
use Rattle.join_search.specs.work.Joins.{ArePlaced, IsPathAt}
use Rattle.join_search.specs.declared.table.Table.{Table}
use Rattle.join_search.proofs.SearchLemmas.{same-or-not}
use Rattle.join_search.proofs.TableLemmas.{same-number}

pub placed-put : (c : Contents) (q : Query) (before after : Table) (set : RelSet) (front : List Costed) → front_at after set none ≡ Some front → ((t o : RelSet) → ¬ IsSamePlace t o set none → front_at after t o ≡ front_at before t o) →
    ArePlaced c q (paths_at before) → All (IsPathAt c q set none) (map path front) → ArePlaced c q (paths_at after)
placed-put c q before after set front here others placed paths = record { paths = λ s p. by s p (same-or-not s p set none) }
  where
    by : (s p : RelSet) → IsSamePlace s p set none ⊎ ¬ IsSamePlace s p set none → All (IsPathAt c q s p) (paths_at after s p)
    by s p (inl e) = subst₂ (λ t o. All (IsPathAt c q t o) (paths_at after t o)) (sym (same-number s set e.0)) (sym (same-number p none e.1)) (subst (All (IsPathAt c q set none)) (sym (ap paths_of here)) paths)
    by s p (inr never) = subst (All (IsPathAt c q s p)) (sym (ap paths_of (others s p never))) (placed.paths s p)
