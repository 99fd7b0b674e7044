-- No title has an LF or a parenthesis in it: names have none.
use Rattle.std.proofs.Common.{◌≡◌, ◌<◌, ◌+◌, ◌==◌, ℕ, Bool, true, false, not, cond, List, [], ◌∷◌, ◌++◌, codes, map, length, refl, sym, ap, ◌∙◌, append_assoc, arith}
use Rattle.std.specs.Prelude.{All, Option, Some, None}
use Rattle.std.specs.Fmt.{decimal}
use Rattle.std.specs.Str.{bytes_eq}
use Rattle.std.proofs.lemmas.Bool.{and_from, and_parts}
use Rattle.std.proofs.lemmas.List.{get_or_default}
use Rattle.std.proofs.lemmas.List.Elements.{All-head, All-tail}
use Rattle.pg_base.specs.Names.{IsName}
use Rattle.pg_base.specs.Sets.{has}
use Rattle.pg_base.specs.declared.numbers.RelNo.{RelNo}
use Rattle.pg_base.specs.declared.numbers.TableNo.{TableNo}
use Rattle.pg_base.specs.declared.rel_set.RelSet.{RelSet}
use Rattle.pg_value.specs.declared.operators.Family.{Family}
use Rattle.pg_value.specs.declared.operators.Family.TheVariants as families
use Rattle.pg_expr.specs.declared.operand.ColRef.{ColRef}
use Rattle.catalog.specs.Contents.{Contents, IsLawful, IsTable, index_name_at, name_at, no_table, table_at}
use Rattle.catalog.specs.Range.{Range, relation_at, table_of}
use Rattle.eq_classes.specs.Classes.{Class}
use Rattle.eq_classes.specs.Clauses.{Set, first_in}
use Rattle.eq_classes.specs.Listing.{blank, class_at}
use Rattle.eq_classes.proofs.ListLemmas.{IsIn, found_in, in_from_contains}
use Rattle.pg_base.proofs.NameLemmas.{decimal-word}
use Rattle.sort_rows.proofs.ColumnLemmas.{member_is}
use Rattle.sql_query.specs.Queries.{Query, width}
use Rattle.sql_query.specs.WellBound.{IsColumnOf, IsWellBound}
use Rattle.pathkeys.specs.Keys.{Keys}
use Rattle.plan_tree.specs.Plans.{Plan, seq, index, index_only, bitmap, sort, nest, merge, set_of}
use Rattle.plan_lines.specs.explain_Texts.{aliases_in, column_text, direction_text, family_text, figures_text, given_text, key_text, keys_text, lead, member_text, rel_text, relation_text, scanned_text, title, with_alias, with_commas}
use Rattle.plan_lines.specs.certificate_text_HasText.{HasKeysText}
use Rattle.pg_base.proofs.NameLemmas.{name-word}
use Rattle.plan_lines.specs.certificate_entries_NameLemmas.{index-word}
use Rattle.plan_space.specs.Numbered.{CostAndRows}
use Rattle.plan_lines.specs.work.Kinds.{words}
use Rattle.plan_lines.specs.work.Parts.{figures_behind, lacks}
use Rattle.plan_lines.proofs.KeyLemmas.{title-is}
use Rattle.plan_lines.specs.HasText.{IsIndexOfQuery, IsScanned, IsText}
use Rattle.plan_lines.specs.work.Scans.{indexed_text}
use Rattle.plan_lines.specs.declared.indexes.IndexScan.{IndexScan}
use Rattle.plan_lines.proofs.LineLemmas.{lacks-forty, lacks-ten, plain, plain-both, word-plain}
use Rattle.plan_lines.specs.work.TitleKinds.{behind_words, kind_of}
use Rattle.plan_reader.specs.Written.{line_with}

name-plain : (w : List ℕ) → IsName w → plain w ≡ true
name-plain w h = word-plain w (name-word w h)

abbrev ArePlain : List (List ℕ) → Type 0
ArePlain [] = Unit {0}
ArePlain (x ∷ xs) = (plain x ≡ true) × ArePlain xs

listed-plain : (before : List ℕ) (xs : List (List ℕ)) → plain before ≡ true → ArePlain xs → plain (with_commas before xs) ≡ true
listed-plain before [] h k = refl
listed-plain before (x ∷ xs) h k = plain-both before (x ++ with_commas (codes ", ") xs) h (plain-both x (with_commas (codes ", ") xs) k.0 (listed-plain (codes ", ") xs refl k.1))

relation-plain : (m a : List ℕ) → plain m ≡ true → plain a ≡ true → plain (relation_text m a) ≡ true
relation-plain m a h k = by (bytes_eq m a)
  where
    by : (b : Bool) → plain (cond b m (m ++ 32 ∷ a)) ≡ true
    by true = h
    by false = plain-both m (32 ∷ a) h k

backward-plain : (b : Bool) (w : List ℕ) → plain w ≡ true → plain (cond b (codes " Backward") [] ++ (codes " using " ++ w)) ≡ true
backward-plain true w h = h
backward-plain false w h = h

family-plain : (f : Family) (w : List ℕ) → plain w ≡ true → plain (family_text f ++ w) ≡ true
family-plain families.IntAbs w h = h
family-plain f w h = h

direction-plain : (a b : Bool) → plain (direction_text a b) ≡ true
direction-plain true true = refl
direction-plain true false = refl
direction-plain false true = refl
direction-plain false false = refl

with-plain : (b : Bool) (w : List ℕ) (rest : List (List ℕ)) → plain w ≡ true → ArePlain rest → ArePlain (with_alias b w rest)
with-plain true w rest h k = (h, k)
with-plain false w rest h k = k

aliases-plain : (n : ℕ) (s : Set) (range : Range) → All (λ r. IsName r.1) range → ArePlain (aliases_in n s range)
aliases-plain n s [] h = tt
aliases-plain n s (r ∷ rs) h =
    with-plain (s n) r.1 (aliases_in (n + 1) s rs) (name-plain r.1 (All-head (λ (x : TableNo × List ℕ). IsName x.1) r rs h)) (aliases-plain (n + 1) s rs (All-tail (λ (x : TableNo × List ℕ). IsName x.1) r rs h))

-- the title of a node, with the two spaces behind it
abbrev pub spaced : Contents → Query → Plan → List ℕ
spaced c q p = (words (kind_of p) ++ behind_words c q p) ++ codes "  "

module _ (c : Contents) (q : Query) (lawful : IsLawful c) (bound : IsWellBound c q) where
  rel-plain : (r : RelNo) → r.0 < width q → plain (rel_text c q r) ≡ true
  rel-plain r lt =
      let table = (relation_at q.range r).0 in
      let made : IsTable c table = bound.range.tables r.0 (record { 0 = 0 }, []) lt in
      relation-plain (table_at c table).name (relation_at q.range r).1 (name-plain _ (lawful.tables table.0 no_table made).name) (name-plain _ (bound.range.names r.0 (record { 0 = 0 }, []) lt))

  scanned-plain : (r : RelNo) (p : RelSet) → r.0 < width q → plain (scanned_text c q r p) ≡ true
  scanned-plain r p lt =
      plain-both (rel_text c q r) (given_text q.range p) (rel-plain r lt) (listed-plain (codes " for ") (aliases_in 0 (has p.0) q.range) refl (aliases-plain 0 (has p.0) q.range bound.range.names))

  column-plain : (x : ColRef) → IsColumnOf c q.range x → plain (column_text c q x) ≡ true
  column-plain x is =
      let alias = bound.range.names x.rel.0 (record { 0 = 0 }, []) is.relation in
      let made : IsTable c (table_of q.range x) = bound.range.tables x.rel.0 (record { 0 = 0 }, []) is.relation in
      let table = lawful.tables (table_of q.range x).0 no_table made in
      let wide = table.width in
      let column = is.column in
      let name = table.names x.col.0 [] (omega (arith, wide, column)) in
      plain-both (relation_at q.range x.rel).1 (codes "." ++ name_at c (table_of q.range x) x.col) (name-plain (relation_at q.range x.rel).1 alias) (name-plain (name_at c (table_of q.range x) x.col) name)

  member-plain : (k : Class) (s : Set) (o : Option ColRef) → IsIn k q.classes.classes → first_in k s ≡ o → plain (member_text c q o) ≡ true
  member-plain k s None i e = refl
  member-plain k s (Some x) i e = column-plain x (member_is c q bound k i x (found_in (λ (y : ColRef). s y.rel.0) k.members x e))

  key-plain : (s : Set) (n : ℕ) → n < length q.classes.classes → plain (key_text c q s n) ≡ true
  key-plain s n lt =
      let k = class_at q.classes.classes n in
      let i : IsIn k q.classes.classes = in_from_contains q.classes.classes k (n, lt, get_or_default q.classes.classes n k blank lt) in
      plain-both (member_text c q (first_in k s)) (family_text k.family ++ direction_text k.descending k.nulls_first) (member-plain k s (first_in k s) i refl)
      (family-plain k.family (direction_text k.descending k.nulls_first) (direction-plain k.descending k.nulls_first))

  keys-texts : (s : Set) (keys : Keys) → All (λ n. n < length q.classes.classes) keys → ArePlain (map (key_text c q s) keys)
  keys-texts s [] h = tt
  keys-texts s (n ∷ ns) h = (key-plain s n (All-head (λ m. m < length q.classes.classes) n ns h), keys-texts s ns (All-tail (λ m. m < length q.classes.classes) n ns h))

  keys-plain : (s : Set) (keys : Keys) → HasKeysText q s keys → plain (keys_text c q s keys) ≡ true
  keys-plain s keys h = listed-plain [] (map (key_text c q s) keys) refl (keys-texts s keys h.classes)

  indexed-plain : (s : IndexScan) → IsScanned c q s.rel s.param → IsIndexOfQuery c q s.index → plain (indexed_text c q s) ≡ true
  indexed-plain s scanned is =
      backward-plain s.backward (index_name_at c s.index ++ (codes " on " ++ scanned_text c q s.rel s.param))
      (plain-both (index_name_at c s.index) (codes " on " ++ scanned_text c q s.rel s.param) (word-plain (index_name_at c s.index) (index-word c lawful s.index is.index)) (scanned-plain s.rel s.param scanned.relation))

  behind-plain : (p : Plan) → IsText c q p → plain (behind_words c q p) ≡ true
  behind-plain (seq r) h = rel-plain r h
  behind-plain (index r i backward p) h = indexed-plain (record { rel = r; index = i; backward = backward; param = p }) h.0 h.1
  behind-plain (index_only r i backward p) h = indexed-plain (record { rel = r; index = i; backward = backward; param = p }) h.0 h.1
  behind-plain (bitmap r p bits) h = scanned-plain r p h.0.relation
  behind-plain (sort keys input) h = keys-plain (set_of (sort keys input)) keys h.1
  behind-plain (nest outer inner) h = refl
  behind-plain (merge keys outer inner) h = keys-plain (set_of (merge keys outer inner)) keys h.2

  words-plain : (p : Plan) → plain (words (kind_of p)) ≡ true
  words-plain (seq r) = refl
  words-plain (index r i backward p) = refl
  words-plain (index_only r i backward p) = refl
  words-plain (bitmap r p bits) = refl
  words-plain (sort keys input) = refl
  words-plain (nest outer inner) = refl
  words-plain (merge keys outer inner) = refl

  spaced-plain : (p : Plan) → IsText c q p → plain (spaced c q p) ≡ true
  spaced-plain p h = plain-both (words (kind_of p) ++ behind_words c q p) (codes "  ") (plain-both (words (kind_of p)) (behind_words c q p) (words-plain p) (behind-plain p h)) refl

  pub spaced-lacks : (p : Plan) → IsText c q p → lacks 40 (spaced c q p) ≡ true
  spaced-lacks p h = lacks-forty (spaced c q p) (spaced-plain p h)

  lacks-both : (a b : List ℕ) → lacks 10 a ≡ true → lacks 10 b ≡ true → lacks 10 (a ++ b) ≡ true
  lacks-both [] b h k = k
  lacks-both (x ∷ a) b h k =
      let p = and_parts (not (x == 10)) (lacks 10 a) h in
      and_from (not (x == 10)) (lacks 10 (a ++ b)) p.0 (lacks-both a b p.1 k)

  number-lacks : (n : ℕ) → lacks 10 (decimal n) ≡ true
  number-lacks n = lacks-ten (decimal n) (word-plain (decimal n) (decimal-word n))

  -- a whole line has no LF
  pub line-lacks : (p : Plan) (n : CostAndRows) → IsText c q p → lacks 10 (spaced c q p ++ (40 ∷ figures_behind n.0 n.1)) ≡ true
  line-lacks p n h =
      lacks-both (spaced c q p) (40 ∷ figures_behind n.0 n.1) (lacks-ten (spaced c q p) (spaced-plain p h))
      (lacks-both (decimal n.0) (codes " rows=" ++ (decimal n.1 ++ codes ")")) (number-lacks n.0) (lacks-both (decimal n.1) (codes ")") (number-lacks n.1) refl))

  figures-are : (n : CostAndRows) (rest : List ℕ) → figures_text (decimal n.0) n.1 ++ rest ≡ codes "  " ++ ((40 ∷ figures_behind n.0 n.1) ++ 10 ∷ rest)
  figures-are n rest =
      let first = decimal n.0 in
      let second = decimal n.1 in
      let one : (first ++ (codes " rows=" ++ (second ++ codes ")\n"))) ++ rest ≡ first ++ (codes " rows=" ++ (second ++ (codes ")\n" ++ rest))) =
      append_assoc first (codes " rows=" ++ (second ++ codes ")\n")) rest ∙ ap (λ (l : List ℕ). first ++ (codes " rows=" ++ l)) (append_assoc second (codes ")\n") rest) in
      let two : (first ++ (codes " rows=" ++ (second ++ codes ")"))) ++ 10 ∷ rest ≡ first ++ (codes " rows=" ++ (second ++ (codes ")\n" ++ rest))) =
      append_assoc first (codes " rows=" ++ (second ++ codes ")")) (10 ∷ rest) ∙ ap (λ (l : List ℕ). first ++ (codes " rows=" ++ l)) (append_assoc second (codes ")") (10 ∷ rest)) in
      ap (λ (l : List ℕ). codes "  (cost=" ++ l) (one ∙ sym two)

  -- the parts of a node's line
  pub line-parts : (d : ℕ) (p : Plan) (n : CostAndRows) (rest : List ℕ) → line_with c q d p n ++ rest ≡ lead d ++ ((spaced c q p ++ (40 ∷ figures_behind n.0 n.1)) ++ 10 ∷ rest)
  line-parts d p n rest =
      let t = words (kind_of p) ++ behind_words c q p in
      let f = figures_text (decimal n.0) n.1 in
      let whole : (lead d ++ (title c q p ++ f)) ++ rest ≡ lead d ++ (t ++ (f ++ rest)) =
      append_assoc (lead d) (title c q p ++ f) rest ∙ ap (λ (l : List ℕ). lead d ++ l) (append_assoc (title c q p) f rest ∙ ap (λ (l : List ℕ). l ++ (f ++ rest)) (title-is c q p)) in
      let parts : (spaced c q p ++ (40 ∷ figures_behind n.0 n.1)) ++ 10 ∷ rest ≡ t ++ (codes "  " ++ ((40 ∷ figures_behind n.0 n.1) ++ 10 ∷ rest)) =
      append_assoc (spaced c q p) (40 ∷ figures_behind n.0 n.1) (10 ∷ rest) ∙ append_assoc t (codes "  ") ((40 ∷ figures_behind n.0 n.1) ++ 10 ∷ rest) in
      whole ∙ ap (λ (l : List ℕ). lead d ++ l) (ap (λ (l : List ℕ). t ++ l) (figures-are n rest) ∙ sym parts)
