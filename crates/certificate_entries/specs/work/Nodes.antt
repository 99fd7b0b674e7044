-- What reading what entries are comes to: what is written next is read, and what follows is left. Own.
use Rattle.std.specs.Prelude.{◌≡◌, ℕ, Bool, true, List, ◌++◌, codes, Option, Some, option_map}
use Rattle.std.specs.Fmt.{decimal}
use Rattle.pg_base.specs.declared.numbers.IndexNo.{IndexNo}
use Rattle.pg_base.specs.declared.rel_set.RelSet.{RelSet}
use Rattle.catalog.specs.Contents.{Contents, IsIndex}
use Rattle.eq_classes.specs.Clauses.{Set}
use Rattle.sql_query.specs.Queries.{Query}
use Rattle.plan_tree.specs.Plans.{BitTree}
use Rattle.certificate_text.specs.explain_Texts.{keys_text}
use Rattle.certificate_text.specs.plan_check_Certificates.{Side, Node, by_bitmap, by_nest, by_merge}
use Rattle.certificate_text.specs.plan_check_Views.{side}
use Rattle.certificate_text.specs.plan_check_work_Views.{node}
use Rattle.certificate_text.specs.work.Words.{stops}
use Rattle.certificate_text.specs.HasText.{HasBitsText, HasNodeText, IsEntryNumber}
use Rattle.certificate_text.specs.Texts.{node_text, sides_text, tree_text}
use Rattle.certificate_text.specs.plan_check_entry_Side.{Side as Sided}
use Rattle.certificate_text.specs.plan_check_entry_Node.{Node as Noded}
use Rattle.certificate_entries.specs.work.Kinds.{IsReadBack, behind_text, kind_of}
use Rattle.certificate_entries.specs.work.Scans.{scan_text}
use Rattle.certificate_entries.specs.declared.kinds.Kind.{Kind}

-- a node of the program has a text, as an entry of any set of any query, over any catalogue
abbrev pub HasTextAnywhere : Noded → Type 0
HasTextAnywhere n = (c : Contents) (q : Query) (s : Set) → HasNodeText c q s (node n)

-- a node of the program has a text, as an entry of any set of any query, over one catalogue
abbrev pub HasTextInCatalog : Contents → Noded → Type 0
HasTextInCatalog c n = (q : Query) (s : Set) → HasNodeText c q s (node n)

-- a node of the program has a text, as an entry of any set of one query
abbrev pub HasTextInQuery : Contents → Query → Noded → Type 0
HasTextInQuery c q n = (s : Set) → HasNodeText c q s (node n)

-- a node of the program has a text, as an entry of one set of one query
abbrev pub HasTextInSet : Contents → Query → Set → Noded → Type 0
HasTextInSet c q s n = HasNodeText c q s (node n)

-- the two sides of a merge
abbrev pub ReadsSides : List ℕ → List ℕ → Option (Sided × Sided) → Type 0
ReadsSides old new result =
    (a b : Side) (rest : List ℕ) → IsEntryNumber a.entry → IsEntryNumber b.entry → stops rest ≡ true →
    old ≡ sides_text a b ++ rest →
    (option_map {U = Side × Side} (λ p. (side p.0, side p.1)) result ≡ Some (a, b)) × (new ≡ rest)

-- a scan by an index, made a node in one way
abbrev pub ReadsScanNode : Contents → (IndexNo → Bool → Node) → List ℕ → List ℕ → Option Noded → Type 0
ReadsScanNode c made old new result =
    (i : IndexNo) (b : Bool) (rest : List ℕ) → IsIndex c i → stops rest ≡ true → old ≡ scan_text c (i, b) ++ rest →
    (option_map node result ≡ Some (made i b)) × (new ≡ rest)

-- the two sides of a nested loop
abbrev pub ReadsNest : List ℕ → List ℕ → Option Noded → Type 0
ReadsNest old new result =
    (a b : ℕ) (rest : List ℕ) → IsEntryNumber a → IsEntryNumber b → stops rest ≡ true →
    old ≡ decimal a ++ (codes " " ++ (decimal b ++ rest)) →
    (option_map node result ≡ Some (by_nest a b)) × (new ≡ rest)

module _ (c : Contents) (q : Query) where
  -- the tree of a bitmap scan
  abbrev pub ReadsBitmap : List ℕ → List ℕ → Option Noded → Type 0
  ReadsBitmap old new result =
      (b : BitTree) (rest : List ℕ) → HasBitsText c q b → stops rest ≡ true → old ≡ tree_text c q b ++ rest →
      (option_map node result ≡ Some (by_bitmap b)) × (new ≡ rest)

  -- the keys and the sides of a merge whose relations are a set
  abbrev pub ReadsMerge : Set → List ℕ → List ℕ → Option Noded → Type 0
  ReadsMerge s old new result =
      (keys : List ℕ) (a b : Side) (rest : List ℕ) → HasNodeText c q s (by_merge keys a b) → stops rest ≡ true →
      old ≡ keys_text c q s keys ++ (sides_text a b ++ rest) →
      (option_map node result ≡ Some (by_merge keys a b)) × (new ≡ rest)

  -- what stands behind the words of a kind
  abbrev pub ReadsBehind : RelSet → Kind → List ℕ → List ℕ → Option Noded → Type 0
  ReadsBehind s kind old new result =
      (x : Node) → kind_of x ≡ kind → IsReadBack c q s (behind_text c q s) old new (option_map node result) x

  -- a whole node
  abbrev pub ReadsNode : RelSet → List ℕ → List ℕ → Option Noded → Type 0
  ReadsNode s old new result = (x : Node) → IsReadBack c q s (node_text c q s) old new (option_map node result) x
