-- The paths of fronts in a list, place by place. Own.
use Rattle.std.specs.Prelude.{◌≡◌, ◌⊎◌, ◌<◌, ◌≤◌, ◌+◌, ℕ, List, All, AllPairs, Contains, map}
use Rattle.std.specs.Borrow.{Bor}
use Rattle.pg_base.specs.Sets.{has}
use Rattle.pg_base.specs.declared.rel_set.RelSet.{RelSet}
use Rattle.eq_classes.specs.Clauses.{one}
use Rattle.pareto.specs.work.Front.{Unrelated}
use Rattle.plan_tree.specs.work.Paths.{Path, is_at_most}
use Rattle.plan_tree.specs.Space.{IsSameSet}
use Rattle.plan_tree.specs.work.Views.{path}
use Rattle.plan_tree.specs.declared.path.Path.{Path as Costed}
use Rattle.join_search.specs.work.Tables.{Fronts}

-- the paths that are lent
abbrev pub shown : List (Bor Costed) → List Path
shown xs = map (λ (x : Bor Costed). path x.now) xs

-- none is at most another
abbrev pub AreUnrelated : List Path → Type 0
AreUnrelated paths = AllPairs (Unrelated is_at_most) paths

-- some places, each a set and a parameterisation
abbrev pub Places : Type 1
Places = RelSet → RelSet → Type 0

-- each path of some fronts says where it stands
abbrev pub StandAtTheirs : Fronts → Type 0
StandAtTheirs fronts = (s p : RelSet) → All (λ (x : Path). (x.set ≡ s) × (x.param ≡ p)) (fronts s p)

-- the paths of the fronts at some places, each once, and no other
pub record AreGathered (places : Places) (fronts : Fronts) (paths : List Path) : Type 0 where
  pub from : All (λ (x : Path). places x.set x.param × Contains (fronts x.set x.param) x) paths
  pub all : (s p : RelSet) → places s p → All (Contains paths) (fronts s p)
  pub apart : AreUnrelated paths

-- sets below a number without a parameterisation
abbrev pub IsWholeBelow : ℕ → Places
IsWholeBelow n s p = (s.0 < n) × (p.0 ≡ 0)

-- a set of one relation, of those below a number, with a parameterisation up to another number that is not empty
abbrev pub IsGivenBelow : ℕ → ℕ → Places
IsGivenBelow all n s p = (1 ≤ p.0) × (p.0 ≤ all) × (r : ℕ) × (r < n) × IsSameSet (has s.0) (one r)

-- sets up to a number without one, or such a set
abbrev pub IsBelow : ℕ → ℕ → Places
IsBelow all n s p = IsWholeBelow (all + 1) s p ⊎ IsGivenBelow all n s p

-- sets as they are gathered so far, or the set of the next relation with a parameterisation below a number
abbrev pub IsBelowOr : ℕ → ℕ → ℕ → Places
IsBelowOr all n most s p = IsBelow all n s p ⊎ ((1 ≤ p.0) × (p.0 < most) × IsSameSet (has s.0) (one n))
