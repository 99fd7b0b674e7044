-- Working words beside those of `Texts`.
use Rattle.std.specs.Prelude.{ℕ, Bool, cond, List, [], codes, map}
use Rattle.pg_base.specs.declared.rel_set.RelSet.{RelSet}
use Rattle.catalog.specs.Contents.{Contents}
use Rattle.sql_query.specs.Queries.{Query}
use Rattle.plan_tree.specs.Plans.{BitTrees}
use Rattle.explain.specs.Texts.{with_commas}
use Rattle.plan_check.specs.work.Views.{entry, node}
use Rattle.plan_check.specs.declared.entry.Entry.{Entry as Entered}
use Rattle.plan_check.specs.declared.entry.Node.{Node as Noded}
use Rattle.certificate_text.specs.Texts.{tree_texts, node_text, entries_text}

-- nothing before the first of texts in a row, a comma alone before each other one
abbrev pub bare_comma : Bool → List ℕ
bare_comma first = cond first [] (codes ",")

module _ (c : Contents) (q : Query) where
  -- the parts of an AND in a row
  abbrev pub tree_list : BitTrees → List ℕ
  tree_list bs = with_commas [] (tree_texts c q bs)

  -- the text of what an entry of the program is, beside its set
  abbrev pub node_words : RelSet → Noded → List ℕ
  node_words s n = node_text c q s (node n)

  -- the lines of the program's entries, from 1 on
  abbrev pub written_entries : List Entered → List ℕ
  written_entries es = entries_text c q 1 (map entry es)
