-- Working words beside those of `Numbered`.
use Rattle.std.specs.Prelude.{not, List, filter}
use Rattle.index_match.specs.Numbered.{Numbered, is_one_of_chosen}

-- the conditions of a list that are not among the chosen
abbrev pub others : List Numbered → List Numbered → List Numbered
others chosen cs = filter (λ c. not (is_one_of_chosen chosen c)) cs
