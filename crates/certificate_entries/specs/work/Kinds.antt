-- What entries are, by the words that they begin with. Own.
use Rattle.std.specs.Prelude.{◌≡◌, ℕ, true, List, [], ◌++◌, codes, Option, Some}
use Rattle.std.specs.Fmt.{decimal}
use Rattle.pg_base.specs.Sets.{has}
use Rattle.pg_base.specs.declared.rel_set.RelSet.{RelSet}
use Rattle.catalog.specs.Contents.{Contents}
use Rattle.certificate_text.specs.explain_Texts.{keys_text}
use Rattle.sql_query.specs.Queries.{Query}
use Rattle.certificate_text.specs.plan_check_Certificates.{Node, by_seq, by_index, by_index_only, by_bitmap, by_nest, by_merge}
use Rattle.certificate_text.specs.HasText.{HasNodeText}
use Rattle.certificate_text.specs.Texts.{sides_text, tree_text}
use Rattle.certificate_entries.specs.work.Keys.{ends_key}
use Rattle.certificate_entries.specs.work.Parts.{has_no_comma}
use Rattle.certificate_entries.specs.work.Scans.{scan_text}
use Rattle.certificate_entries.specs.declared.kinds.Kind.{Kind}
use Rattle.certificate_entries.specs.declared.kinds.Kind.TheVariants as kinds

-- the words of a kind
abbrev pub words : Kind → List ℕ
words kinds.Seq = codes "Seq Scan"
words kinds.Index = codes "Index Scan"
words kinds.IndexOnly = codes "Index Only Scan"
words kinds.Bitmap = codes "Bitmap Heap Scan "
words kinds.Nest = codes "Nested Loop "
words kinds.Merge = codes "Merge Join by "

-- the kind whose words are next is read, and what follows is left
abbrev pub ReadsKind : List ℕ → List ℕ → Option Kind → Type 0
ReadsKind old new result = (k : Kind) (rest : List ℕ) → old ≡ words k ++ rest → (result ≡ Some k) × (new ≡ rest)

-- the kind of an entry: which scan or join it is
abbrev pub kind_of : Node → Kind
kind_of by_seq = kinds.Seq
kind_of (by_index i backward) = kinds.Index
kind_of (by_index_only i backward) = kinds.IndexOnly
kind_of (by_bitmap bits) = kinds.Bitmap
kind_of (by_nest a b) = kinds.Nest
kind_of (by_merge keys a b) = kinds.Merge

module _ (c : Contents) (q : Query) (set : RelSet) where
  -- what stands behind the words
  abbrev pub behind_text : Node → List ℕ
  behind_text by_seq = []
  behind_text (by_index i backward) = scan_text c (i, backward)
  behind_text (by_index_only i backward) = scan_text c (i, backward)
  behind_text (by_bitmap bits) = tree_text c q bits
  behind_text (by_nest a b) = decimal a ++ (codes " " ++ decimal b)
  behind_text (by_merge keys a b) = keys_text c q (has set.0) keys ++ sides_text a b

  -- where what is left begins with a text, and nothing that goes on a key or a list follows, the thing is read and what
  -- follows is left
  abbrev pub IsReadBack : (Node → List ℕ) → List ℕ → List ℕ → Option Node → Node → Type 0
  IsReadBack text old new o x = (rest : List ℕ) → HasNodeText c q (has set.0) x → ends_key rest ≡ true → has_no_comma rest ≡ true → old ≡ text x ++ rest → (o ≡ Some x) × (new ≡ rest)
