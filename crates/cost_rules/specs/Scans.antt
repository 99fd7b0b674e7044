-- Costs of scans of one table and of its indexes. They are exact: no number is cut. Own, in the manner of PostgreSQL's
-- cost_seqscan, cost_index and cost_bitmap_heap_scan.
use Rattle.std.specs.Prelude.{ℕ, ◌+◌, ◌*◌, ◌-◌, ◌/◌, min, max, Bool, cond, nat_eq}
use Rattle.std.specs.Int.{div_ceil}
use Rattle.cost_rules.specs.declared.pair.Pair.{Pair}
use Rattle.cost_rules.specs.declared.parameters.TheConstants.{ENTRIES_PER_PAGE, INDEX_TUPLE, LEVEL, OPERATOR, RANDOM_PAGE, SEQUENTIAL_PAGE}
use Rattle.cost_rules.specs.Costs.{pair, row_cost}
use Rattle.cost_rules.specs.Powers.{log_up}

-- the pages of an index of so many entries, and the levels of a B-tree of so many entries above its leaves
abbrev pub pages_of_entries : ℕ → ℕ
pages_of_entries n = max 1 (div_ceil n ENTRIES_PER_PAGE)

-- the levels of a B-tree of so many entries above its leaves, with 200 children to a page
abbrev pub height_of : ℕ → ℕ
height_of n = log_up ENTRIES_PER_PAGE (pages_of_entries n)

-- the way down a B-tree of so many entries: the comparisons of a binary search, and each level
abbrev pub descent_of : ℕ → ℕ
descent_of n = log_up 2 (max n 2) * OPERATOR + LEVEL * (height_of n + 1)

-- the pages of a heap of so many pages that rows at random places touch (after Mackert and Lohman, in whole numbers)
abbrev pub heap_pages_of : ℕ → ℕ → ℕ
heap_pages_of rows pages = min pages (div_ceil (2 * pages * rows) (2 * pages + rows))

-- a sequential scan: every page in order, and each row with so many operators
abbrev pub seq_scan_cost : ℕ → ℕ → ℕ → Pair
seq_scan_cost pages rows ops = pair 0 (pages * SEQUENTIAL_PAGE + rows * row_cost ops)

-- what one of so many runs of a scan pays for pages, at so much a page: those that the rows of all runs touch together,
-- where each run takes so many rows (index_pages_fetched with loop_count)
abbrev pub run_cost : ℕ → ℕ → ℕ → ℕ → ℕ
run_cost runs rows pages price = div_ceil (heap_pages_of (rows * runs) pages * price) runs

-- what one of so many runs pays for so many pages of an index, of all its pages: all of them where there is one run
abbrev pub leaves_cost : ℕ → ℕ → ℕ → ℕ
leaves_cost runs leaves pages = cond (nat_eq runs 1) (leaves * RANDOM_PAGE) (run_cost runs leaves pages RANDOM_PAGE)

-- an index's own part in one of so many runs, of so many entries: the way down, the part of its pages that the entries
-- looked at have, at random, and each of these entries with so many conditions
abbrev pub part_cost : ℕ → ℕ → ℕ → ℕ → ℕ → ℕ
part_cost runs descent looked entries conditions =
    descent + leaves_cost runs (div_ceil (looked * pages_of_entries entries) entries) (pages_of_entries entries) + looked * (INDEX_TUPLE + conditions * OPERATOR)

-- the heap pages of the rows found in one of so many runs, at random; none where columns are taken from the entries
abbrev pub fetch_cost : ℕ → Bool → ℕ → ℕ → ℕ
fetch_cost runs only rows pages = cond only 0 (run_cost runs rows pages RANDOM_PAGE)

-- an index scan over the index's part: the heap pages, and each row found with so many operators
abbrev pub index_scan_cost : ℕ → ℕ → ℕ → Bool → ℕ → ℕ → ℕ → Pair
index_scan_cost runs descent part only rows pages ops = pair descent (part + fetch_cost runs only rows pages + rows * row_cost ops)

-- a page of x read in their order, of a heap of so many pages: a random page at first, a sequential one where all are read
abbrev pub page_in_order : ℕ → ℕ → ℕ
page_in_order x pages = RANDOM_PAGE - (RANDOM_PAGE - SEQUENTIAL_PAGE) * x / pages

-- a bitmap scan over the parts of its indexes in one of so many runs: the heap pages of all runs, each as dear as in the
-- order of one run, and each row with so many operators
abbrev pub bitmap_scan_cost : ℕ → ℕ → ℕ → ℕ → ℕ → Pair
bitmap_scan_cost runs parts rows pages ops =
    pair parts (parts + run_cost runs rows pages (page_in_order (heap_pages_of rows pages) pages) + rows * row_cost ops)
