-- The order in which the entries of a table are printed. Own.
use Rattle.std.specs.Prelude.{ℕ, [], ◌∷◌}
use Rattle.std.specs.Cmp.Lexicographic.{slice_cmp}
use Rattle.std.specs.Ordering.{nat_cmp}
use Rattle.std.specs.declared.cmp.Ordering.{Ordering}
use Rattle.heap.specs.Tuples.{relation_count}
use Rattle.pg_value.specs.Sorting.{one_after_other}
use Rattle.plan_check.specs.Certificates.{Entry}

-- one entry against another by a number of each
abbrev pub by_number : (Entry → ℕ) → Entry → Entry → Ordering
by_number number a b = nat_cmp (number a) (number b)

-- the order of two entries by the numbers of their classes, place by place; a list stands before each longer one that begins
-- with it
abbrev pub by_keys : Entry → Entry → Ordering
by_keys a b = slice_cmp nat_cmp a.keys b.keys

-- the order in which entries are printed: by the size of the set, then by the set, the parameterisation and the cost, each as a
-- number, by the startup, which is 0 without a window, and at last by the keys
abbrev pub printing_order : Entry → Entry → Ordering
printing_order = one_after_other
    (by_number (λ e. relation_count e.set) ∷
    by_number (λ e. e.set.0) ∷
    by_number (λ e. e.param.0) ∷
    by_number (λ e. e.cost) ∷
    by_number (λ e. e.startup) ∷
    by_keys ∷ [])
