-- What reading bitmap trees from their lines comes to: the tree whose lines come next is read, and what follows is left. Own.
use Rattle.std.specs.Prelude.{◌≡◌, ◌≤◌, ◌+◌, ◌++◌, ℕ, List, All, Option, Some, option_map}
use Rattle.pg_base.specs.declared.numbers.IndexNo.{IndexNo}
use Rattle.catalog.specs.Contents.{Contents}
use Rattle.sql_query.specs.Queries.{Query}
use Rattle.plan_tree.specs.Plans.{BitTree, all_hold, some_arm, BitTrees}
use Rattle.plan_tree.specs.work.Views.{bits}
use Rattle.plan_tree.specs.declared.bits.BitTree.{BitTree as Bits}
use Rattle.certificate_entries.specs.explain_Texts.{leaf_lines, trees_text}
use Rattle.plan_lines.specs.HasText.{HasBits, IsIndexOfQuery}
use Rattle.plan_lines.specs.work.Lines.{beneath, tree_title}
use Rattle.plan_lines.specs.work.Parts.{IsShallow}
use Rattle.plan_lines.specs.Stands.{Stands}

module _ (c : Contents) (q : Query) where
  -- a tree of the query that stands at a depth
  abbrev pub HasBitsAt : ℕ → BitTree → Type 0
  HasBitsAt d b = HasBits c q b × Stands d b

  -- the arms of the OR of a clause
  abbrev pub ReadsArms : ℕ → ℕ → List ℕ → List ℕ → Option Bits → Type 0
  ReadsArms d n old new result =
      (is : List IndexNo) (rest : List ℕ) → All (IsIndexOfQuery c q) is → All (λ i. d + 1 ≤ 64) is →
      IsShallow d rest → old ≡ leaf_lines c (d + 1) is ++ rest → (option_map bits result ≡ Some (some_arm n is)) × (new ≡ rest)

  -- a tree whose first line was read
  abbrev pub ReadsTreeAt : ℕ → List ℕ → List ℕ → List ℕ → Option Bits → Type 0
  ReadsTreeAt d line old new result =
      (b : BitTree) (rest : List ℕ) → HasBits c q b → Stands d b → IsShallow d rest →
      line ≡ tree_title c q b → old ≡ beneath c q d b ++ rest → (option_map bits result ≡ Some b) × (new ≡ rest)

  -- the parts of an AND
  abbrev pub ReadsAll : ℕ → List ℕ → List ℕ → Option Bits → Type 0
  ReadsAll d old new result =
      (bs : BitTrees) (rest : List ℕ) → HasBits c q (all_hold bs) → Stands d (all_hold bs) →
      IsShallow d rest → old ≡ trees_text c q (d + 1) bs ++ rest → (option_map bits result ≡ Some (all_hold bs)) × (new ≡ rest)
