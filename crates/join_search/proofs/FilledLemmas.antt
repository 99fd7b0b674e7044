-- Sets that have paths, noted while the sets are gone through.
use Rattle.std.proofs.Common.{◌≡◌, ◌⊎◌, ◌+◌, Bool, true, false, not, nat_eq, List, [], map, inl, inr, refl, sym, ◌∙◌, ap, subst, arith}
use Rattle.std.specs.Prelude.{All, Contains, Some}
use Rattle.std.proofs.lemmas.Bool.{eq-eqb, eqb-true, true≢false}
use Rattle.std.proofs.lemmas.Bool.Decides.{nat_tests}
use Rattle.std.proofs.lemmas.List.Elements.{All-contains}
use Rattle.pg_base.specs.declared.rel_set.RelSet.{RelSet}
use Rattle.catalog.specs.Contents.{Contents}
use Rattle.sql_query.specs.Queries.{Query}
use Rattle.plan_tree.specs.work.Paths.{Path}
use Rattle.plan_tree.specs.work.Views.{path}
use Rattle.plan_tree.specs.declared.path.Path.{Path as Costed}
use Rattle.join_search.specs.work.Offers.{AreJoinsServed}
use Rattle.join_search.specs.work.Past.{HasNoJoins}
use Rattle.join_search.specs.work.Splits.{HasEachFilled, IsDivided}
use Rattle.join_search.specs.work.Tables.{Fronts, IsSamePlace, front_at, none, paths_at, paths_of}
use Rattle.join_search.specs.declared.table.Table.{Table}
use Rattle.join_search.specs.declared.useful.Asked.{Asked}
use Rattle.join_search.proofs.SearchLemmas.{split-bare, split-none}
use Rattle.join_search.proofs.SetLemmas.{outer-less, outer-some}
use Rattle.join_search.proofs.TableLemmas.{same-number}

pub not-false : (b : Bool) → not b ≡ false → b ≡ true
not-false true e = refl
not-false false e = absurd (true≢false e)

pub filled-first : (fronts : Fronts) (sets : List RelSet) → HasEachFilled fronts 1 sets
filled-first fronts sets s some lt = absurd (omega (arith, some, lt))

-- one more set
pub filled-more : (F G : Fronts) (set : RelSet) (old new : List RelSet) → HasEachFilled F set.0 old → All (Contains new) old → ((s : RelSet) → ¬ (s.0 ≡ set.0) → G s none ≡ F s none) → (G set none ≡ []) ⊎ Contains new set →
    HasEachFilled G (set.0 + 1) new
filled-more F G set old new before kept others here s some lt = by (nat_eq s.0 set.0) refl
  where
    earlier : ¬ (s.0 ≡ set.0) → (F s none ≡ []) ⊎ Contains old s → (G s none ≡ []) ⊎ Contains new s
    earlier other (inl e) = inl (others s other ∙ e)
    earlier other (inr at) = inr (All-contains (Contains new) old s kept at)

    by : (b : Bool) → nat_eq s.0 set.0 ≡ b → (G s none ≡ []) ⊎ Contains new s
    by true e = subst (λ (t : RelSet). (G t none ≡ []) ⊎ Contains new t) (sym (same-number s set (eqb-true s.0 set.0 e))) here
    by false e = earlier (λ same. true≢false (sym (eq-eqb s.0 set.0 same) ∙ e)) (before s some (grind (arith, nat_tests, lt, e)))

-- a set whose front is put
pub filled-put : (before after : Table) (set : RelSet) (front : List Costed) (old new : List RelSet) → HasEachFilled (paths_at before) set.0 old → All (Contains new) old → front_at after set none ≡ Some front →
    ((t o : RelSet) → ¬ IsSamePlace t o set none → front_at after t o ≡ front_at before t o) → (front ≡ []) ⊎ Contains new set → HasEachFilled (paths_at after) (set.0 + 1) new
filled-put before after set front old new filled kept here others noted = filled-more (paths_at before) (paths_at after) set old new filled kept (λ s other. ap paths_of (others s none (λ e. other e.0))) (by noted)
  where
    by : (front ≡ []) ⊎ Contains new set → (paths_at after set none ≡ []) ⊎ Contains new set
    by (inl e) = inl (ap paths_of here ∙ ap (map path) e)
    by (inr at) = inr at

module _ (c : Contents) (q : Query) (asked : Asked) (fronts : Fronts) (front : List Path) (set : RelSet) (sets : List RelSet) (filled : HasEachFilled fronts set.0 sets) where
  -- the joins of the sets that have paths are all joins
  pub filled-served : All (λ a. (b : RelSet) → IsDivided set a b → AreJoinsServed c q asked fronts front a b) sets → (a b : RelSet) → IsDivided set a b → AreJoinsServed c q asked fronts front a b
  filled-served all a b d = by (filled a (outer-some set a b d) (outer-less set a b d))
    where
      by : (fronts a none ≡ []) ⊎ Contains sets a → AreJoinsServed c q asked fronts front a b
      by (inl e) = split-none c q asked fronts front a b e
      by (inr at) = All-contains (λ (x : RelSet). (y : RelSet) → IsDivided set x y → AreJoinsServed c q asked fronts front x y) sets a all at b d

  -- where the rest of each has no paths, or no join with it is below the limit, there are no joins
  pub bare-served : All (HasNoJoins c q asked fronts set) sets → (a b : RelSet) → IsDivided set a b → AreJoinsServed c q asked fronts front a b
  bare-served all a b d = by (filled a (outer-some set a b d) (outer-less set a b d))
    where
      out : HasNoJoins c q asked fronts set a → AreJoinsServed c q asked fronts front a b
      out (inl bare) = split-bare c q asked fronts front a b (bare b d)
      out (inr past) = past front b d

      by : (fronts a none ≡ []) ⊎ Contains sets a → AreJoinsServed c q asked fronts front a b
      by (inl e) = split-none c q asked fronts front a b e
      by (inr at) = out (All-contains (HasNoJoins c q asked fronts set) sets a all at)
