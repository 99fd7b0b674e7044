-- The arms of an OR clause that an index matches. Source: PostgreSQL, src/backend/optimizer/path/indxpath.c (generate_bitmap_or_paths); whole arms alone are own.
use Rattle.std.specs.Prelude.{ℕ, Bool, false, ◌&&◌, nat_lt, nat_eq, List, [], length}
use Rattle.std.specs.List.{list_all}
use Rattle.catalog.specs.opfamily_classes_Method.{Method}
use Rattle.catalog.specs.opfamily_classes_Method_TheVariants.{Btree, Hash}
use Rattle.pg_expr.specs.Cond.{Cond, any_of}
use Rattle.pg_expr.specs.Pushed.{parts_of}
use Rattle.catalog.specs.Indexes.{Index}
use Rattle.eq_classes.specs.Classes.{listed}
use Rattle.index_match.specs.Numbered.{Numbered, numbered_from_0}
use Rattle.index_match.specs.Conditions.{is_condition}
use Rattle.index_match.specs.Bounds.{bounds_among}

-- the arms of an OR; another condition has none
abbrev pub arms_of : Cond → List Cond
arms_of (any_of es) = listed es
arms_of _ = []

-- an arm as the list of its AND's parts, or itself
abbrev pub arm_parts : Cond → List Cond
arm_parts arm = listed (parts_of false arm)

-- how many parts an index may use: a hash index one exactly
abbrev pub takes_parts : Method → ℕ → Bool
takes_parts Btree n = nat_lt 0 n
takes_parts Hash n = nat_eq n 1

-- an arm is wholly matched: each part is of a condition's form, and there is one at least
abbrev pub is_matched : Index → ℕ → Cond → Bool
is_matched d r arm = takes_parts d.method (length (arm_parts arm)) && list_all (is_condition d r) (arm_parts arm)

-- the parts of an arm that are bounds, with their places
abbrev pub arm_bounds : Index → ℕ → Cond → List Numbered
arm_bounds d r arm = bounds_among d r (numbered_from_0 (arm_parts arm))
