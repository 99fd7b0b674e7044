-- Lists in the order of others. Own.
use Rattle.std.specs.Prelude.{◌≡◌, Bool, List, map, Option, Some}
use Rattle.std.specs.List.{items_where_true}

-- some optional things are some of a list, in its order
abbrev pub AreInOrder : {X : Type 0} → List (Option X) → List X → Type 0
AreInOrder os xs = (mask : List Bool) × (os ≡ map Some (items_where_true mask xs))
