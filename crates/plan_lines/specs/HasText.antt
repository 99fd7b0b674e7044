-- Which trees have a text as plans: their relations, indexes, clauses and classes are of the query. Whether a tree is a plan is
-- not asked. Own.
use Rattle.std.specs.Prelude.{◌≡◌, ◌<◌, ℕ, All, None}
use Rattle.pg_base.specs.Sets.{has}
use Rattle.pg_base.specs.declared.numbers.IndexNo.{IndexNo}
use Rattle.pg_base.specs.declared.numbers.RelNo.{RelNo}
use Rattle.pg_base.specs.declared.numbers.TableNo.{TableNo}
use Rattle.pg_base.specs.declared.rel_set.RelSet.{RelSet}
use Rattle.catalog.specs.Contents.{Contents, IsIndex, index_at}
use Rattle.catalog.specs.Range.{relation_at}
use Rattle.sql_query.specs.Queries.{Query, width}
use Rattle.plan_tree.specs.Plans.{Plan, seq, index, index_only, bitmap, sort, nest, merge, BitTree, leaf, all_hold, some_arm, BitTrees, no_trees, tree_and, set_of}
use Rattle.certificate_entries.specs.explain_Texts.{conjunct_in}
use Rattle.certificate_entries.specs.certificate_text_HasText.{HasKeysText, IsSetOf}

-- the table of some relation of a query
pub record IsTableOfQuery (q : Query) (t : TableNo) : Type 0 where
  pub relation : RelNo
  pub within : relation.0 < width q
  pub is : t ≡ (relation_at q.range relation).0

module _ (c : Contents) (q : Query) where
  -- an index of such a table
  pub record IsIndexOfQuery (i : IndexNo) : Type 0 where
    pub index : IsIndex c i
    pub table : IsTableOfQuery q (index_at c i).table

  -- the number of a clause that is a conjunct
  abbrev pub IsConjunct : ℕ → Type 0
  IsConjunct n = ¬ (conjunct_in q n ≡ None)

  -- the indexes of a bitmap tree are of the query's tables, and its ORs are conjuncts
  abbrev mutual
    pub HasBits : BitTree → Type 0
    HasBits (leaf i) = IsIndexOfQuery i
    HasBits (all_hold bs) = HaveBits bs
    HasBits (some_arm n is) = IsConjunct n × All IsIndexOfQuery is

    pub HaveBits : BitTrees → Type 0
    HaveBits no_trees = Unit {0}
    HaveBits (tree_and b bs) = HasBits b × HaveBits bs

  -- a relation of the query, and relations of the query whose rows its scan is given
  pub record IsScanned (r : RelNo) (p : RelSet) : Type 0 where
    pub relation : r.0 < width q
    pub param : IsSetOf q (has p.0)

  -- a tree that has a text
  abbrev pub IsText : Plan → Type 0
  IsText (seq r) = r.0 < width q
  IsText (index r i backward p) = IsScanned r p × IsIndexOfQuery i
  IsText (index_only r i backward p) = IsScanned r p × IsIndexOfQuery i
  IsText (bitmap r p bits) = IsScanned r p × HasBits bits
  IsText (sort keys input) = IsText input × HasKeysText q (set_of input) keys
  IsText (nest outer inner) = IsText outer × IsText inner
  IsText (merge keys outer inner) = IsText outer × IsText inner × HasKeysText q (set_of (merge keys outer inner)) keys
