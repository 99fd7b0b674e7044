-- The catalogue with some of the candidate indexes made. Own.
use Rattle.std.specs.Prelude.{ℕ, Bool, List, ◌++◌}
use Rattle.catalog.specs.Contents.{Contents, NamedIndex}
use Rattle.plan_laws.specs.Moved.{added_from, over}

-- the catalogue with the candidates of a set added, in list order
abbrev pub with_added : Contents → List NamedIndex → (ℕ → Bool) → Contents
with_added c candidates set = over c.tables (c.indexes ++ added_from 0 set candidates)
