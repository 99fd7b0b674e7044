-- What reading sets of relations comes to: what is written next is read, and what follows is left. Own.
use Rattle.std.specs.Prelude.{◌≡◌, ℕ, true, false, ◌==◌, List, ◌++◌, codes, get_or, All, Option, Some}
use Rattle.std.specs.List.{list_all}
use Rattle.pg_base.specs.Names.{is_in_name}
use Rattle.pg_base.specs.Sets.{has}
use Rattle.pg_base.specs.declared.rel_set.RelSet.{RelSet}
use Rattle.sql_query.specs.Queries.{Query}
use Rattle.certificate_text.specs.work.Words.{stops}
use Rattle.certificate_text.specs.Texts.{alias_list, param_text, set_text, with_bare_commas}
use Rattle.certificate_entries.specs.work.Parts.{IsSet, IsWordRead, has_no_comma}

-- the first of some words in a row, each behind a comma
abbrev pub ReadsWord : List ℕ → List ℕ → List ℕ → Type 0
ReadsWord old new word =
    (xs : List (List ℕ)) (tail : List ℕ) → All (λ x. list_all is_in_name x ≡ true) xs → stops tail ≡ true →
    has_no_comma tail ≡ true → old ≡ with_bare_commas (codes ",") xs ++ tail → IsWordRead xs tail word new

module _ (q : Query) where
  -- the relations of a set by their aliases
  abbrev pub ReadsAliases : List ℕ → List ℕ → RelSet → Type 0
  ReadsAliases old new result =
      (s : RelSet) (tail : List ℕ) → IsSet q s → stops tail ≡ true → has_no_comma tail ≡ true →
      old ≡ alias_list q (has s.0) ++ tail → (result ≡ s) × (new ≡ tail)

  -- a parameterisation, before a text that does not go on it
  abbrev pub ReadsParam : List ℕ → List ℕ → Option RelSet → Type 0
  ReadsParam old new result =
      (s : RelSet) (rest : List ℕ) → IsSet q s → stops rest ≡ true → (get_or rest 1 0 == 102) ≡ false →
      old ≡ param_text q s ++ rest → (result ≡ Some s) × (new ≡ rest)

  -- an entry's set and parameterisation, with the space behind them
  abbrev pub ReadsSets : List ℕ → List ℕ → Option (RelSet × RelSet) → Type 0
  ReadsSets old new result =
      (s p : RelSet) (rest : List ℕ) → IsSet q s → IsSet q p → (get_or rest 0 0 == 102) ≡ false →
      old ≡ set_text q s ++ (param_text q p ++ (codes " " ++ rest)) → (result ≡ Some (s, p)) × (new ≡ rest)
