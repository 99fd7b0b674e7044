-- What a node is: its kind, and what stands behind the words of that. Own.
use Rattle.std.specs.Prelude.{ℕ, List, [], ◌++◌}
use Rattle.catalog.specs.Contents.{Contents}
use Rattle.sql_query.specs.Queries.{Query}
use Rattle.plan_tree.specs.Plans.{Plan, seq, index, index_only, bitmap, sort, nest, merge, set_of}
use Rattle.certificate_entries.specs.explain_Texts.{keys_text, rel_text, scanned_text}
use Rattle.plan_lines.specs.declared.kinds.Kind.{Kind}
use Rattle.plan_lines.specs.declared.kinds.Kind.TheVariants as kinds
use Rattle.plan_lines.specs.work.Kinds.{words}
use Rattle.plan_lines.specs.work.Scans.{indexed_text}

-- the kind of a node
abbrev pub kind_of : Plan → Kind
kind_of (seq r) = kinds.Seq
kind_of (index r i backward p) = kinds.Index
kind_of (index_only r i backward p) = kinds.IndexOnly
kind_of (bitmap r p bits) = kinds.Bitmap
kind_of (sort keys input) = kinds.Sort
kind_of (nest outer inner) = kinds.Nest
kind_of (merge keys outer inner) = kinds.Merge

module _ (c : Contents) (q : Query) where
  -- what stands behind the words of the kind
  abbrev pub behind_words : Plan → List ℕ
  behind_words (seq r) = rel_text c q r
  behind_words (index r i backward p) = indexed_text c q (record { rel = r; index = i; backward = backward; param = p })
  behind_words (index_only r i backward p) = indexed_text c q (record { rel = r; index = i; backward = backward; param = p })
  behind_words (bitmap r p bits) = scanned_text c q r p
  behind_words (sort keys input) = keys_text c q (set_of (sort keys input)) keys
  behind_words (nest outer inner) = []
  behind_words (merge keys outer inner) = keys_text c q (set_of (merge keys outer inner)) keys

  -- what a node is, by the two
  abbrev pub parted_title : Plan → List ℕ
  parted_title p = words (kind_of p) ++ behind_words p
