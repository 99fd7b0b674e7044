-- Working words beside those of `Coming`.
use Rattle.std.specs.Prelude.{ℕ, Bool, List, [], ◌∷◌, map, filter, cond, length, Option, find, option_map}
use Rattle.scan_exec.specs.Coming.{Coming, is_given}

-- the rows that are given, in order; how many rows are fetched; how many entries are looked at
abbrev pub rows_to_come : List Coming → List ℕ
rows_to_come cs = map (λ (c : Coming). c.row) (filter is_given cs)

-- the looks that coming to all of them takes: one for each entry that a cursor gives
abbrev pub looks_allowed : List Coming → ℕ
looks_allowed cs = length (filter (λ (c : Coming). c.looked) cs)

-- the number of the first row that is given
abbrev pub first_given : List Coming → Option ℕ
first_given cs = option_map (λ c. c.row) (find is_given cs)

-- what stands behind the first that passes a test; nothing where none does
abbrev pub behind : {A : Type 0} → (A → Bool) → List A → List A
behind test [] = []
behind test (x ∷ xs) = cond (test x) xs (behind test xs)
