-- What reading the lines of nodes comes to. Own.
use Rattle.std.specs.Prelude.{◌≡◌, ◌<◌, ◌+◌, ◌++◌, ◌∷◌, ℕ, Bool, true, List, codes, Option, Some, option_map, IsSomeAnd, Vec}
use Rattle.std.specs.declared.alloc.Global.{Global}
use Rattle.pg_base.specs.declared.numbers.IndexNo.{IndexNo}
use Rattle.pg_base.specs.declared.numbers.RelNo.{RelNo}
use Rattle.pg_base.specs.declared.rel_set.RelSet.{RelSet}
use Rattle.catalog.specs.Contents.{Contents}
use Rattle.eq_classes.specs.Clauses.{Set}
use Rattle.eq_classes.specs.Parts.{union}
use Rattle.sql_query.specs.Queries.{Query, width}
use Rattle.plan_tree.specs.Plans.{BitTree, Plan, bitmap, merge, seq, set_of, sort}
use Rattle.plan_tree.specs.work.Views.{bits, plan}
use Rattle.plan_tree.specs.declared.bits.BitTree.{BitTree as Bits}
use Rattle.plan_tree.specs.declared.plan.Plan.{Plan as Planned}
use Rattle.plan_space.specs.Numbered.{CostAndRows}
use Rattle.plan_lines.specs.certificate_text_HasText.{HasKeysText, IsWritable}
use Rattle.plan_lines.specs.explain_Texts.{bits_text, keys_text, rel_text, scanned_text}
use Rattle.plan_lines.specs.HasText.{HasBits, IsScanned, IsText}
use Rattle.plan_lines.specs.work.Kinds.{words}
use Rattle.plan_lines.specs.work.Parts.{IsShallow, figures_behind, lacks}
use Rattle.plan_lines.specs.work.Scans.{IsIndexScan, indexed_text}
use Rattle.plan_lines.specs.Stands.{Stands}
use Rattle.plan_lines.specs.work.TitleKinds.{behind_words, kind_of}
use Rattle.plan_lines.specs.declared.indexes.IndexScan.{IndexScan}
use Rattle.plan_lines.specs.declared.kinds.Kind.{Kind}
use Rattle.plan_reader.specs.work.Beneath.{AreRead, IsLineOf, IsRead}
use Rattle.plan_reader.specs.Written.{Fits, IsWritten, StandsAt, line_with}
use Rattle.plan_reader.specs.declared.lines.NodeLine.{NodeLine}

-- a line is parted into a kind, what stands behind the words of that, and figures
abbrev pub CutsParts : List ℕ → Option NodeLine → Type 0
CutsParts line result =
    (k : Kind) (rest : List ℕ) (cost rows : ℕ) → lacks 40 ((words k ++ rest) ++ codes "  ") ≡ true →
    IsWritable cost → IsWritable rows → line ≡ ((words k ++ rest) ++ codes "  ") ++ (40 ∷ figures_behind cost rows) →
    IsSomeAnd result (λ l. IsLineOf l k rest (cost, rows))

-- the relations of two sides
abbrev pub set_of_sides : Plan → Plan → Set
set_of_sides outer inner = union (set_of outer) (set_of inner)

module _ (c : Contents) (q : Query) where
  -- the line of a node at a depth is read, and what follows is left
  abbrev pub ReadsFirst : ℕ → List ℕ → List ℕ → Option NodeLine → Type 0
  ReadsFirst d old new result =
      (p : Plan) (n : CostAndRows) (rest : List ℕ) → IsText c q p → Fits n → old ≡ line_with c q d p n ++ rest →
      IsSomeAnd result (λ l. IsLineOf l (kind_of p) (behind_words c q p) n) × (new ≡ rest)

  -- the text behind the words of a sequential scan
  abbrev pub FindsSeq : List ℕ → Option Planned → Type 0
  FindsSeq behind result = (r : RelNo) → r.0 < width q → behind ≡ rel_text c q r → option_map plan result ≡ Some (seq r)

  -- the text behind the words of a scan by an index, made a plan in one way
  abbrev pub FindsIndexed : (RelNo → IndexNo → Bool → RelSet → Plan) → List ℕ → Option Planned → Type 0
  FindsIndexed made behind result =
      (s : IndexScan) → IsIndexScan c q s → behind ≡ indexed_text c q s →
      option_map plan result ≡ Some (made s.rel s.index s.backward s.param)

  -- the text behind the words of a sort
  abbrev pub FindsSort : List ℕ → Plan → Option Planned → Type 0
  FindsSort behind input result =
      (keys : List ℕ) → HasKeysText q (set_of input) keys → behind ≡ keys_text c q (set_of input) keys →
      option_map plan result ≡ Some (sort keys input)

  -- the text behind the words of a merge
  abbrev pub FindsMerge : List ℕ → Planned → Planned → Option Planned → Type 0
  FindsMerge behind outer inner result =
      (keys : List ℕ) → HasKeysText q (set_of_sides (plan outer) (plan inner)) keys →
      behind ≡ keys_text c q (set_of_sides (plan outer) (plan inner)) keys →
      option_map plan result ≡ Some (merge keys (plan outer) (plan inner))

  -- a bitmap tree whose lines come next
  abbrev pub ReadsBits : ℕ → List ℕ → List ℕ → Option Bits → Type 0
  ReadsBits d old new result =
      (b : BitTree) (rest : List ℕ) → HasBits c q b → Stands d b → IsShallow d rest →
      old ≡ bits_text c q d b ++ rest → (option_map bits result ≡ Some b) × (new ≡ rest)

  -- the text behind the words of a bitmap scan, and its tree, whose lines come next
  abbrev pub ReadsHeapScan : ℕ → List ℕ → List ℕ → List ℕ → Option Planned → Type 0
  ReadsHeapScan d behind old new result =
      (r : RelNo) (p : RelSet) (b : BitTree) (rest : List ℕ) → IsScanned c q r p → HasBits c q b →
      Stands (d + 1) b → IsShallow (d + 1) rest → behind ≡ scanned_text c q r p → old ≡ bits_text c q (d + 1) b ++ rest →
      (option_map plan result ≡ Some (bitmap r p b)) × (new ≡ rest)

  -- a tree that has a text, and stands at a depth
  abbrev pub IsTextAt : ℕ → Plan → Type 0
  IsTextAt d p = IsText c q p × StandsAt d p

  -- two such trees
  abbrev pub AreSidesAt : ℕ → Planned × Planned → Type 0
  AreSidesAt d s = IsTextAt d (plan s.0) × IsTextAt d (plan s.1)

  -- a plan whose lines come next is read with its numbers, and what follows is left
  abbrev pub ReadsPlan : ℕ → List ℕ → List ℕ → Vec CostAndRows Global → Vec CostAndRows Global → Option Planned → Type 0
  ReadsPlan d old new before after result = IsRead c q d old new before.items after.items (option_map plan result)

  -- two plans whose lines come next, one behind the other, are read with their numbers, and what follows is left
  abbrev pub ReadsPair : ℕ → List ℕ → List ℕ → Vec CostAndRows Global → Vec CostAndRows Global → Option (Planned × Planned) → Type 0
  ReadsPair d old new before after result =
      AreRead c q d old new before.items after.items (option_map {U = Plan × Plan} (λ s. (plan s.0, plan s.1)) result)

  -- a block is the text of no other tree, and with no other numbers
  abbrev pub IsOnlyPlan : List ℕ → Plan → List CostAndRows → Type 0
  IsOnlyPlan block p ns = (o : Plan) (ms : List CostAndRows) → IsWritten c q block o ms → (o ≡ p) × (ms ≡ ns)

  -- a block is the text of no tree
  abbrev pub IsNoPlan : List ℕ → Type 0
  IsNoPlan block = (p : Plan) (ns : List CostAndRows) → ¬ IsWritten c q block p ns
