-- What reading bitmap trees comes to: what is written next is read, and what follows is left. Own.
use Rattle.std.specs.Prelude.{◌≡◌, ◌≤◌, ℕ, true, List, [], ◌++◌, codes, map, length, All, Option, Some, option_map, Vec}
use Rattle.std.specs.Fmt.{decimal}
use Rattle.std.specs.declared.alloc.Global.{Global}
use Rattle.pg_base.specs.declared.numbers.IndexNo.{IndexNo}
use Rattle.catalog.specs.Contents.{Contents, IsIndex}
use Rattle.sql_query.specs.Queries.{Query}
use Rattle.plan_tree.specs.Plans.{BitTree, leaf, all_hold, some_arm, BitTrees}
use Rattle.plan_tree.specs.work.Views.{bits}
use Rattle.plan_tree.specs.declared.bits.BitTree.{BitTree as Bits}
use Rattle.certificate_text.specs.explain_Texts.{conjunct_in, with_commas}
use Rattle.certificate_text.specs.work.Words.{stops}
use Rattle.certificate_text.specs.HasText.{HasBitsText, HasElementText}
use Rattle.certificate_text.specs.Texts.{leaf_texts, or_text, tree_text}
use Rattle.certificate_text.specs.work.Texts.{tree_list}
use Rattle.certificate_entries.specs.work.Parts.{Reads, has_no_comma}

-- indexes in a row, one or more
abbrev pub ReadsLeaves : Contents → List ℕ → List ℕ → Option (Vec IndexNo Global) → Type 0
ReadsLeaves c old new result =
    (is : List IndexNo) (rest : List ℕ) → All (IsIndex c) is → 1 ≤ length is →
    stops rest ≡ true → has_no_comma rest ≡ true → old ≡ leaf_texts c is ++ rest →
    (option_map (λ (v : Vec IndexNo Global). v.items) result ≡ Some is) × (new ≡ rest)

-- a clause by the number of its conjunct, before a parenthesis
abbrev pub ReadsClause : Query → List ℕ → List ℕ → Option ℕ → Type 0
ReadsClause q old new result =
    (n m : ℕ) (rest : List ℕ) → conjunct_in q n ≡ Some m → old ≡ decimal m ++ (codes "(" ++ rest) →
    (result ≡ Some n) × (new ≡ rest)

module _ (c : Contents) (q : Query) where
  -- an index, before no byte of a name
  abbrev pub ReadsLeaf : List ℕ → List ℕ → Option BitTree → Type 0
  ReadsLeaf old new result =
      (i : IndexNo) (rest : List ℕ) → HasElementText c q (leaf i) → stops rest ≡ true →
      old ≡ tree_text c q (leaf i) ++ rest → (result ≡ Some (leaf i)) × (new ≡ rest)

  -- an OR behind its word
  abbrev pub ReadsOr : List ℕ → List ℕ → Option BitTree → Type 0
  ReadsOr old new result =
      (n : ℕ) (is : List IndexNo) (rest : List ℕ) → HasElementText c q (some_arm n is) →
      codes "Or " ++ old ≡ or_text c q n is ++ rest → (result ≡ Some (some_arm n is)) × (new ≡ rest)

  -- an element of a tree
  abbrev pub ReadsElement : List ℕ → List ℕ → Option BitTree → Type 0
  ReadsElement old new result = Reads (HasElementText c q) (tree_text c q) old new result

  -- each of some trees is an element that has a text
  abbrev pub HaveElements : List Bits → Type 0
  HaveElements bs = All (HasElementText c q) (map bits bs)

  -- elements in a row, one or more
  abbrev pub ReadsElements : List ℕ → List ℕ → Option (Vec Bits Global) → Type 0
  ReadsElements old new result =
      (bs : List BitTree) (rest : List ℕ) → All (HasElementText c q) bs → 1 ≤ length bs →
      stops rest ≡ true → has_no_comma rest ≡ true → old ≡ with_commas [] (map (tree_text c q) bs) ++ rest →
      (option_map (λ (v : Vec Bits Global). map bits v.items) result ≡ Some bs) × (new ≡ rest)

  -- the parts of an AND behind its word
  abbrev pub ReadsParts : List ℕ → List ℕ → Option BitTree → Type 0
  ReadsParts old new result =
      (bs : BitTrees) (rest : List ℕ) → HasBitsText c q (all_hold bs) →
      old ≡ tree_list c q bs ++ (codes ")" ++ rest) → (result ≡ Some (all_hold bs)) × (new ≡ rest)

  -- a whole tree
  abbrev pub ReadsTree : List ℕ → List ℕ → Option BitTree → Type 0
  ReadsTree old new result = Reads (HasBitsText c q) (tree_text c q) old new result
