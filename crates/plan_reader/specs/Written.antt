-- Plans as they are written, with any numbers. Own.
use Rattle.std.specs.Prelude.{◌≡◌, ◌≤◌, ◌+◌, ℕ, List, [], ◌∷◌, ◌++◌, length, take, drop, All}
use Rattle.std.specs.Fmt.{decimal}
use Rattle.catalog.specs.Contents.{Contents}
use Rattle.sql_query.specs.Queries.{Query}
use Rattle.plan_tree.specs.Plans.{Plan, seq, index, index_only, bitmap, sort, nest, merge}
use Rattle.plan_lines.specs.explain_Texts.{bits_text, figures_text, lead, title}
use Rattle.plan_lines.specs.certificate_text_HasText.{IsWritable}
use Rattle.plan_space.specs.Numbered.{CostAndRows, line_count, nodes}
use Rattle.plan_space.specs.declared.lines.TheConstants.{MOST_LINES}
use Rattle.plan_lines.specs.HasText.{IsText}
use Rattle.plan_lines.specs.Stands.{MOST_DEPTH, Stands}

-- the numbers of a plan's first line, which come before those of the lines beneath it
abbrev pub first_pair : List CostAndRows → CostAndRows
first_pair [] = (0, 0)
first_pair (n ∷ ns) = n

-- the numbers of the lines beneath the first
abbrev pub later_pairs : List CostAndRows → List CostAndRows
later_pairs [] = []
later_pairs (n ∷ ns) = ns

-- a pair of numbers as a cost and rows
abbrev pub figures_with : CostAndRows → List ℕ
figures_with n = figures_text (decimal n.0) n.1

module _ (c : Contents) (q : Query) where
  -- the line of a node with these numbers
  abbrev pub line_with : ℕ → Plan → CostAndRows → List ℕ
  line_with d p n = lead d ++ (title c q p ++ figures_with n)

  -- the lines beneath the first of a plan at a depth, with the numbers behind the first pair: a pair for each node, the
  -- node's first, an outer side's before an inner's
  abbrev pub written_beneath : ℕ → Plan → List CostAndRows → List ℕ
  written_beneath d (seq r) ns = []
  written_beneath d (index r i backward p) ns = []
  written_beneath d (index_only r i backward p) ns = []
  written_beneath d (bitmap r p bits) ns = bits_text c q (d + 1) bits
  written_beneath d (sort keys input) ns = line_with (d + 1) input (first_pair ns) ++ written_beneath (d + 1) input (later_pairs ns)
  written_beneath d (nest outer inner) ns =
      (line_with (d + 1) outer (first_pair (take (nodes outer) ns)) ++ written_beneath (d + 1) outer (later_pairs (take (nodes outer) ns)))
      ++ (line_with (d + 1) inner (first_pair (drop (nodes outer) ns)) ++ written_beneath (d + 1) inner (later_pairs (drop (nodes outer) ns)))
  written_beneath d (merge keys outer inner) ns =
      (line_with (d + 1) outer (first_pair (take (nodes outer) ns)) ++ written_beneath (d + 1) outer (later_pairs (take (nodes outer) ns)))
      ++ (line_with (d + 1) inner (first_pair (drop (nodes outer) ns)) ++ written_beneath (d + 1) inner (later_pairs (drop (nodes outer) ns)))

  -- the lines of a plan at a depth, with these numbers
  abbrev pub written_at : ℕ → Plan → List CostAndRows → List ℕ
  written_at d p ns = line_with d p (first_pair ns) ++ written_beneath d p (later_pairs ns)

  -- the text of a plan with these numbers: its first line stands at the margin
  abbrev pub written_text : Plan → List CostAndRows → List ℕ
  written_text p ns = written_at 0 p ns

-- no line of a plan whose first line stands at a depth stands deeper than the greatest one
abbrev pub StandsAt : ℕ → Plan → Type 0
StandsAt d (seq r) = d ≤ MOST_DEPTH
StandsAt d (index r i backward p) = d ≤ MOST_DEPTH
StandsAt d (index_only r i backward p) = d ≤ MOST_DEPTH
StandsAt d (bitmap r p bits) = (d ≤ MOST_DEPTH) × Stands (d + 1) bits
StandsAt d (sort keys input) = (d ≤ MOST_DEPTH) × StandsAt (d + 1) input
StandsAt d (nest outer inner) = (d ≤ MOST_DEPTH) × StandsAt (d + 1) outer × StandsAt (d + 1) inner
StandsAt d (merge keys outer inner) = (d ≤ MOST_DEPTH) × StandsAt (d + 1) outer × StandsAt (d + 1) inner

-- two numbers of at most 19 digits, each of which a u64 holds
abbrev pub Fits : CostAndRows → Type 0
Fits n = IsWritable n.0 × IsWritable n.1

-- a block is the text of a tree with these numbers
pub record IsWritten (c : Contents) (q : Query) (block : List ℕ) (p : Plan) (ns : List CostAndRows) : Type 0 where
  pub text : IsText c q p
  pub stands : StandsAt 0 p
  pub few : line_count p ≤ MOST_LINES
  pub count : length ns ≡ nodes p
  pub fits : All Fits ns
  pub written : block ≡ written_text c q p ns
