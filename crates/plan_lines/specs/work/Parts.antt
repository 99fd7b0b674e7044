-- The parts of a block of lines. Own.
use Rattle.std.specs.Prelude.{◌≡◌, ◌≢◌, ◌<◌, ◌*◌, ◌+◌, ℕ, Bool, not, cond, nat_eq, ◌==◌, List, [], ◌∷◌, ◌++◌, codes, get_or}
use Rattle.std.specs.Fmt.{decimal}
use Rattle.std.specs.List.{list_all}
use Rattle.catalog.specs.Contents.{Contents}
use Rattle.eq_classes.specs.Clauses.{Set}
use Rattle.sql_query.specs.Queries.{Query}
use Rattle.certificate_entries.specs.explain_Texts.{key_text}

-- a byte does not stand in a text
abbrev pub lacks : ℕ → List ℕ → Bool
lacks b text = list_all (λ x. not (x == b)) text

-- no line of a depth above d begins a text: a byte stands where the spaces of each such line do, and is none
pub record IsShallow (d : ℕ) (x : List ℕ) : Type 0 where
  pub place : ℕ
  pub before : place < 6 * d + 2
  pub byte : get_or x place 0 ≢ 32

-- a cost and rows, behind a parenthesis, without the end of the line
abbrev pub figures_behind : ℕ → ℕ → List ℕ
figures_behind cost rows = codes "cost=" ++ (decimal cost ++ (codes " rows=" ++ (decimal rows ++ codes ")")))

-- the key at a place of a list, behind a comma where it is not the first
abbrev pub next_key : Contents → Query → Set → ℕ → ℕ → List ℕ
next_key c q set place k = cond (nat_eq place 0) [] (codes ", ") ++ key_text c q set k
