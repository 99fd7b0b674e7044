-- Which certificates have a text. Own.
use Rattle.std.specs.Prelude.{◌≡◌, ◌<◌, ◌≤◌, ◌^◌, ℕ, suc, true, length, All, slice_get, Option, Some, None}
use Rattle.pg_base.specs.Sets.{has}
use Rattle.catalog.specs.Contents.{Contents, IsIndex}
use Rattle.eq_classes.specs.Clauses.{Set, first_in}
use Rattle.eq_classes.specs.Listing.{class_at}
use Rattle.sql_query.specs.Queries.{Query, width}
use Rattle.sql_query.specs.declared.window.Window.{Window}
use Rattle.pathkeys.specs.Keys.{Keys, AreDifferent}
use Rattle.plan_tree.specs.Plans.{BitTree, leaf, all_hold, some_arm, BitTrees, no_trees, tree_and}
use Rattle.explain.specs.Texts.{conjunct_by}
use Rattle.plan_check.specs.Certificates.{Node, by_seq, by_index, by_index_only, by_bitmap, by_nest, by_merge, Entry, Certificate}
use Rattle.plan_check.specs.Limit.{MOST_ENTRIES}

-- a number of at most 19 digits
abbrev pub IsWritable : ℕ → Type 0
IsWritable n = n < 10 ^ 19

-- a number that an entry may have
abbrev pub IsEntryNumber : ℕ → Type 0
IsEntryNumber n = n ≤ MOST_ENTRIES

-- the startup is written where the query has a window; where it has none it is 0
abbrev pub HasStartup : Option Window → ℕ → Type 0
HasStartup None n = n ≡ 0
HasStartup (Some w) n = IsWritable n

-- a set of relations of the query
abbrev pub IsSetOf : Query → Set → Type 0
IsSetOf q s = (k : ℕ) → s k ≡ true → k < width q

-- a key list whose classes each have a member inside a set
pub record HasKeysText (q : Query) (s : Set) (keys : Keys) : Type 0 where
  pub different : AreDifferent keys
  pub classes : All (λ n. n < length q.classes.classes) keys
  pub members : All (λ n. ¬ (first_in (class_at q.classes.classes n) s ≡ None)) keys

module _ (c : Contents) (q : Query) where
  -- an element of a bitmap tree: an index, or the number of a conjunct with an index or more
  abbrev pub HasElementText : BitTree → Type 0
  HasElementText (leaf i) = IsIndex c i
  HasElementText (all_hold bs) = ⊥
  HasElementText (some_arm n is) = ¬ (conjunct_by (slice_get q.classes.clauses n) ≡ None) × All (IsIndex c) is × (1 ≤ length is)

  -- each of some trees is such an element
  abbrev pub HaveElementTexts : BitTrees → Type 0
  HaveElementTexts no_trees = Unit {0}
  HaveElementTexts (tree_and b bs) = HasElementText b × HaveElementTexts bs

  -- how many trees there are
  abbrev pub count : BitTrees → ℕ
  count no_trees = 0
  count (tree_and b bs) = suc (count bs)

  -- an element, or two or more
  abbrev pub HasBitsText : BitTree → Type 0
  HasBitsText (leaf i) = HasElementText (leaf i)
  HasBitsText (some_arm n is) = HasElementText (some_arm n is)
  HasBitsText (all_hold bs) = (2 ≤ count bs) × HaveElementTexts bs

  -- what an entry is has a text, beside the entry's set
  abbrev pub HasNodeText : Set → Node → Type 0
  HasNodeText s by_seq = Unit {0}
  HasNodeText s (by_index i backward) = IsIndex c i
  HasNodeText s (by_index_only i backward) = IsIndex c i
  HasNodeText s (by_bitmap bits) = HasBitsText bits
  HasNodeText s (by_nest a b) = IsEntryNumber a × IsEntryNumber b
  HasNodeText s (by_merge keys a b) = HasKeysText q s keys × (1 ≤ length keys) × IsEntryNumber a.entry × IsEntryNumber b.entry

  -- an entry that has a line
  pub record HasEntryLine (e : Entry) : Type 0 where
    pub some : (k : ℕ) × (has e.set.0 k ≡ true)
    pub set : IsSetOf q (has e.set.0)
    pub param : IsSetOf q (has e.param.0)
    pub wide : (e.set.0 < 2 ^ 16) × (e.param.0 < 2 ^ 16)
    pub node : HasNodeText (has e.set.0) e.node
    pub startup : HasStartup q.window e.startup
    pub cost : IsWritable e.cost
    pub rows : IsWritable e.rows
    pub keys : HasKeysText q (has e.set.0) e.keys

  -- a certificate that has a text
  pub record HasText (t : Certificate) : Type 0 where
    pub few : length t.entries ≤ MOST_ENTRIES
    pub lines : All HasEntryLine t.entries
    pub best : IsEntryNumber t.best.entry
