-- What nodes are, by the words that their lines begin with. Own.
use Rattle.std.specs.Prelude.{ℕ, List, codes}
use Rattle.plan_lines.specs.declared.kinds.Kind.{Kind}
use Rattle.plan_lines.specs.declared.kinds.Kind.TheVariants as kinds

-- the words that the line of a node begins with
abbrev pub words : Kind → List ℕ
words kinds.Seq = codes "Seq Scan on "
words kinds.Index = codes "Index Scan"
words kinds.IndexOnly = codes "Index Only Scan"
words kinds.Bitmap = codes "Bitmap Heap Scan on "
words kinds.Sort = codes "Sort by "
words kinds.Nest = codes "Nested Loop"
words kinds.Merge = codes "Merge Join by "
