-- A table of fronts, by the set of relations and the parameterisation that they are of (PostgreSQL,
-- src/backend/optimizer/README, Optimizer Data Structures; the table is own).
use Rattle.std.specs.Prelude.{◌≡◌, ℕ, zero, suc, Bool, cond, nat_eq, List, [], ◌∷◌, map, Option, Some, None, Vec}
use Rattle.std.specs.Global.{Global}
use Rattle.pg_base.specs.declared.rel_set.RelSet.{RelSet}
use Rattle.plan_tree.specs.work.Paths.{Path}
use Rattle.plan_tree.specs.work.Views.{path}
use Rattle.plan_tree.specs.declared.path.Path.{Path as Costed}
use Rattle.join_search.specs.declared.table.Placed.{Placed}
use Rattle.join_search.specs.declared.table.Table.{Table}

-- no relations: the parameterisation of a path that is given no rows
abbrev pub none : RelSet
none = record { 0 = 0 }

-- the set of a number
abbrev pub set_numbered : ℕ → RelSet
set_numbered n = record { 0 = n }

-- a front of a set stands at a parameterisation
abbrev pub is_at : RelSet → Placed → Bool
is_at p f = nat_eq f.param.0 p.0

-- the first of some fronts of a set that does
abbrev pub found_at : RelSet → List Placed → Option (List Costed)
found_at p [] = None
found_at p (f ∷ fs) = cond (is_at p f) (Some f.front) (found_at p fs)

-- the front of a number replaced
abbrev pub with_front : List Placed → ℕ → List Costed → List Placed
with_front [] n front = []
with_front (f ∷ fs) zero front = record f { front = front } ∷ fs
with_front (f ∷ fs) (suc n) front = f ∷ with_front fs n front

-- the list of a number, where there is one
abbrev pub list_at : List (Vec Placed Global) → ℕ → List Placed
list_at [] n = []
list_at (v ∷ vs) zero = v.items
list_at (v ∷ vs) (suc n) = list_at vs n

-- the fronts of a set
abbrev pub places_at : Table → RelSet → List Placed
places_at t s = list_at t.sets.items s.0

-- the front at a set and a parameterisation, where one was put
abbrev pub front_at : Table → RelSet → RelSet → Option (List Costed)
front_at t s p = found_at p (places_at t s)

-- the parameterisations of some fronts of a set
abbrev pub params_of : List Placed → List RelSet
params_of fs = map (λ (f : Placed). f.param) fs

-- the paths of a front, none where there is no front
abbrev pub paths_of : Option (List Costed) → List Path
paths_of None = []
paths_of (Some front) = map path front

-- fronts by set and parameterisation, as lists of paths
abbrev pub Fronts : Type 0
Fronts = RelSet → RelSet → List Path

-- the fronts of a table; where no front was put there are no paths
abbrev pub paths_at : Table → Fronts
paths_at t s p = paths_of (front_at t s p)

-- two places are one
abbrev pub IsSamePlace : RelSet → RelSet → RelSet → RelSet → Type 0
IsSamePlace s p t o = (s.0 ≡ t.0) × (p.0 ≡ o.0)

-- the front of a number is the first that stands at a parameterisation
abbrev pub IsPlaceOf : RelSet → List Placed → ℕ → Type 0
IsPlaceOf p places n = (f : List Costed) → found_at p (with_front places n f) ≡ Some f

-- no front of another number changes with the one at a parameterisation
abbrev pub IsOfNoOther : RelSet → List Placed → ℕ → Type 0
IsOfNoOther p places n = (f : List Costed) (o : RelSet) → ¬ (o.0 ≡ p.0) → found_at o (with_front places n f) ≡ found_at o places

-- fronts of a set stay as they are but for that at a parameterisation
abbrev pub ChangesOnlyParam : RelSet → List Placed → List Placed → Type 0
ChangesOnlyParam p old new = (o : RelSet) → ¬ (o.0 ≡ p.0) → found_at o new ≡ found_at o old

-- the fronts of a table stay as they are but for that at a set and a parameterisation
abbrev pub ChangesOnlyFront : RelSet → RelSet → Table → Table → Type 0
ChangesOnlyFront s p old new = (t o : RelSet) → ¬ IsSamePlace t o s p → front_at new t o ≡ front_at old t o

-- the front at one set and parameterisation stays
abbrev pub KeepsFront : RelSet → RelSet → Table → Table → Type 0
KeepsFront s p old new = front_at new s p ≡ front_at old s p
