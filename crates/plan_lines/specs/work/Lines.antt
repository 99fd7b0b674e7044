-- What one line of a bitmap tree says. Own.
use Rattle.std.specs.Prelude.{ℕ, ◌+◌, List, [], ◌++◌, codes}
use Rattle.catalog.specs.Contents.{Contents}
use Rattle.sql_query.specs.Queries.{Query}
use Rattle.plan_tree.specs.Plans.{BitTree, leaf, all_hold, some_arm}
use Rattle.certificate_entries.specs.explain_Texts.{conjunct_text, leaf_lines, leaf_title, or_title, trees_text}
use Rattle.plan_lines.specs.HasText.{IsConjunct, IsIndexOfQuery}
use Rattle.plan_lines.specs.declared.bitmap_lines.TreeLine.{TreeLine}
use Rattle.plan_lines.specs.declared.bitmap_lines.TreeLine.TheVariants.{Leaf, All, Arm}

-- the number of an OR's conjunct, and the end of its line
abbrev pub or_ending : Query → ℕ → List ℕ
or_ending q n = conjunct_text q n ++ codes "\n"

module _ (c : Contents) (q : Query) where
  -- what a line says is of the query
  abbrev pub HasLine : TreeLine → Type 0
  HasLine (Leaf i) = IsIndexOfQuery c q i
  HasLine All = Unit {0}
  HasLine (Arm n) = IsConjunct c q n

  -- the first line of a bitmap tree, without lead and end of line
  abbrev pub tree_title : BitTree → List ℕ
  tree_title (leaf i) = leaf_title c i
  tree_title (all_hold bs) = codes "BitmapAnd"
  tree_title (some_arm n is) = or_title q n

  -- the lines beneath the first, which stands at a depth
  abbrev pub beneath : ℕ → BitTree → List ℕ
  beneath d (leaf i) = []
  beneath d (all_hold bs) = trees_text c q (d + 1) bs
  beneath d (some_arm n is) = leaf_lines c (d + 1) is
