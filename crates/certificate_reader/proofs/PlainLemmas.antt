-- No line has an LF in it: names and numbers have none.
use Rattle.std.proofs.Common.{◌≡◌, ◌<◌, ◌+◌, ◌==◌, ℕ, Bool, true, false, not, cond, List, [], ◌∷◌, ◌++◌, codes, map, length, refl, sym, ap, ◌∙◌, arith, true≢false}
use Rattle.std.specs.Prelude.{All, Option, Some, None, slice_get}
use Rattle.std.specs.Fmt.{decimal}
use Rattle.std.specs.List.{list_all}
use Rattle.std.proofs.lemmas.Bool.{and_from, and_parts, eqb-true}
use Rattle.std.proofs.lemmas.List.{get_or_default}
use Rattle.std.proofs.lemmas.List.Elements.{All-head, All-tail}
use Rattle.pg_base.specs.Names.{IsName, begins_name, is_in_name}
use Rattle.pg_base.specs.Sets.{has}
use Rattle.pg_base.specs.declared.numbers.IndexNo.{IndexNo}
use Rattle.pg_base.specs.declared.numbers.TableNo.{TableNo}
use Rattle.pg_base.specs.declared.rel_set.RelSet.{RelSet}
use Rattle.pg_value.specs.declared.operators.Family.{Family}
use Rattle.pg_value.specs.declared.operators.Family.TheVariants as families
use Rattle.pg_expr.specs.declared.operand.ColRef.{ColRef}
use Rattle.catalog.specs.Contents.{Contents, IsIndex, IsLawful, IsTable, index_name_at, name_at, no_index, no_table}
use Rattle.catalog.specs.Range.{Range, relation_at, table_of}
use Rattle.eq_classes.specs.Classes.{Class}
use Rattle.eq_classes.specs.Clauses.{Set, first_in}
use Rattle.eq_classes.specs.Listing.{blank, class_at}
use Rattle.eq_classes.proofs.ListLemmas.{IsIn, found_in, in_from_contains}
use Rattle.pg_base.proofs.NameLemmas.{decimal-word}
use Rattle.sort_rows.proofs.ColumnLemmas.{member_is}
use Rattle.sql_query.specs.Queries.{Query}
use Rattle.sql_query.specs.declared.window.Window.{Window}
use Rattle.cost_rules.specs.Costs.{pair}
use Rattle.cost_rules.specs.declared.pair.Pair.{Pair}
use Rattle.sql_query.specs.WellBound.{IsColumnOf, IsWellBound}
use Rattle.pathkeys.specs.Keys.{Keys}
use Rattle.plan_tree.specs.Plans.{BitTree, leaf, all_hold, some_arm, BitTrees, no_trees, tree_and, is_empty}
use Rattle.certificate_entries.specs.explain_Texts.{aliases_in, backward_text, column_text, conjunct_by, cost_text, direction_text, family_text, key_text, keys_text, member_text, number_text, with_alias, with_commas}
use Rattle.plan_check.specs.Certificates.{Entry, Node, Side, by_seq, by_index, by_index_only, by_bitmap, by_nest, by_merge}
use Rattle.certificate_entries.specs.certificate_text_HasText.{HasBitsText, HasElementText, HasEntryLine, HasNodeText, HaveElementTexts}
use Rattle.certificate_entries.specs.certificate_text_Texts.{entry_line, entry_text, is_line, leaf_text, measures_text, node_text, param_text, set_text, side_text, tree_text, tree_texts, with_bare_commas}

pub joined-line : (a b : List ℕ) → is_line a ≡ true → is_line b ≡ true → is_line (a ++ b) ≡ true
joined-line [] b h k = k
joined-line (x ∷ a) b h k =
    let p = and_parts (not (x == 10)) (is_line a) h in
    and_from (not (x == 10)) (is_line (a ++ b)) p.0 (joined-line a b p.1 k)

in-line : (b : ℕ) → is_in_name b ≡ true → not (b == 10) ≡ true
in-line b h = by (b == 10) refl where
  by : (t : Bool) → (b == 10) ≡ t → not t ≡ true
  by false e = refl
  by true e = absurd (true≢false (sym h ∙ ap is_in_name (eqb-true b 10 e)))

word-line : (w : List ℕ) → list_all is_in_name w ≡ true → is_line w ≡ true
word-line [] h = refl
word-line (b ∷ bs) h =
    let p = and_parts (is_in_name b) (list_all is_in_name bs) h in
    and_from (not (b == 10)) (is_line bs) (in-line b p.0) (word-line bs p.1)

begins-line : (b : ℕ) → begins_name b ≡ true → not (b == 10) ≡ true
begins-line b h = by (b == 10) refl where
  by : (t : Bool) → (b == 10) ≡ t → not t ≡ true
  by false e = refl
  by true e = absurd (true≢false (sym h ∙ ap begins_name (eqb-true b 10 e)))

pub name-line : (w : List ℕ) → IsName w → is_line w ≡ true
name-line [] h = refl
name-line (b ∷ bs) h = and_from (not (b == 10)) (is_line bs) (begins-line b h.0) (word-line bs h.1)

pub number-line : (n : ℕ) → is_line (decimal n) ≡ true
number-line n = word-line (decimal n) (decimal-word n)

abbrev AreLines : List (List ℕ) → Type 0
AreLines [] = Unit {0}
AreLines (x ∷ xs) = (is_line x ≡ true) × AreLines xs

commas-line : (before : List ℕ) (xs : List (List ℕ)) → is_line before ≡ true → AreLines xs → is_line (with_bare_commas before xs) ≡ true
commas-line before [] h k = refl
commas-line before (x ∷ xs) h k = joined-line before (x ++ with_bare_commas (codes ",") xs) h (joined-line x (with_bare_commas (codes ",") xs) k.0 (commas-line (codes ",") xs refl k.1))

listed-line : (before : List ℕ) (xs : List (List ℕ)) → is_line before ≡ true → AreLines xs → is_line (with_commas before xs) ≡ true
listed-line before [] h k = refl
listed-line before (x ∷ xs) h k = joined-line before (x ++ with_commas (codes ", ") xs) h (joined-line x (with_commas (codes ", ") xs) k.0 (listed-line (codes ", ") xs refl k.1))

side-line : (s : Side) → is_line (side_text s) ≡ true
side-line s = by s.sorted where
  by : (b : Bool) → is_line (cond b (codes "sort ") [] ++ decimal s.entry) ≡ true
  by true = number-line s.entry
  by false = number-line s.entry

number-text-line : (o : Option ℕ) → is_line (number_text o) ≡ true
number-text-line None = refl
number-text-line (Some n) = number-line n

cost-line : (w : Option Window) (p : Pair) → is_line (cost_text w p) ≡ true
cost-line None p = number-line p.total
cost-line (Some w) p = joined-line (decimal p.startup) (codes ".." ++ decimal p.total) (number-line p.startup) (number-line p.total)

backward-line : (b : Bool) (w : List ℕ) → is_line w ≡ true → is_line (backward_text b ++ (codes " using " ++ w)) ≡ true
backward-line true w h = h
backward-line false w h = h

family-line : (f : Family) (w : List ℕ) → is_line w ≡ true → is_line (family_text f ++ w) ≡ true
family-line families.IntAbs w h = h
family-line f w h = h

direction-line : (a b : Bool) → is_line (direction_text a b) ≡ true
direction-line true true = refl
direction-line true false = refl
direction-line false true = refl
direction-line false false = refl

module _ (c : Contents) (q : Query) (lawful : IsLawful c) (bound : IsWellBound c q) where
  index-line : (i : IndexNo) → IsIndex c i → is_line (index_name_at c i) ≡ true
  index-line i lt = name-line (index_name_at c i) (lawful.indexes i.0 no_index lt).name

  with-line : (b : Bool) (w : List ℕ) (rest : List (List ℕ)) → is_line w ≡ true → AreLines rest → AreLines (with_alias b w rest)
  with-line true w rest h k = (h, k)
  with-line false w rest h k = k

  aliases-lines : (n : ℕ) (s : Set) (range : Range) → All (λ r. IsName r.1) range → AreLines (aliases_in n s range)
  aliases-lines n s [] h = tt
  aliases-lines n s (r ∷ rs) h =
      with-line (s n) r.1 (aliases_in (n + 1) s rs) (name-line r.1 (All-head (λ (x : TableNo × List ℕ). IsName x.1) r rs h)) (aliases-lines (n + 1) s rs (All-tail (λ (x : TableNo × List ℕ). IsName x.1) r rs h))

  set-line : (s : RelSet) → is_line (set_text q s) ≡ true
  set-line s = joined-line (with_bare_commas [] (aliases_in 0 (has s.0) q.range)) (codes "}") (commas-line [] (aliases_in 0 (has s.0) q.range) refl (aliases-lines 0 (has s.0) q.range bound.range.names)) refl

  param-line : (p : RelSet) → is_line (param_text q p) ≡ true
  param-line p = by (is_empty p) where
    by : (b : Bool) → is_line (cond b [] (codes " for " ++ set_text q p)) ≡ true
    by true = refl
    by false = set-line p

  column-line : (x : ColRef) → IsColumnOf c q.range x → is_line (column_text c q x) ≡ true
  column-line x is =
      let alias = bound.range.names x.rel.0 (record { 0 = 0 }, []) is.relation in
      let made : IsTable c (table_of q.range x) = bound.range.tables x.rel.0 (record { 0 = 0 }, []) is.relation in
      let table = lawful.tables (table_of q.range x).0 no_table made in
      let wide = table.width in
      let column = is.column in
      let name = table.names x.col.0 [] (omega (arith, wide, column)) in
      joined-line (relation_at q.range x.rel).1 (codes "." ++ name_at c (table_of q.range x) x.col) (name-line (relation_at q.range x.rel).1 alias) (name-line (name_at c (table_of q.range x) x.col) name)

  member-line : (k : Class) (s : Set) (o : Option ColRef) → IsIn k q.classes.classes → first_in k s ≡ o → is_line (member_text c q o) ≡ true
  member-line k s None i e = refl
  member-line k s (Some x) i e = column-line x (member_is c q bound k i x (found_in (λ (y : ColRef). s y.rel.0) k.members x e))

  key-line : (s : Set) (n : ℕ) → n < length q.classes.classes → is_line (key_text c q s n) ≡ true
  key-line s n lt =
      let k = class_at q.classes.classes n in
      let i : IsIn k q.classes.classes = in_from_contains q.classes.classes k (n, lt, get_or_default q.classes.classes n k blank lt) in
      joined-line (member_text c q (first_in k s)) (family_text k.family ++ direction_text k.descending k.nulls_first) (member-line k s (first_in k s) i refl)
      (family-line k.family (direction_text k.descending k.nulls_first) (direction-line k.descending k.nulls_first))

  keys-lines : (s : Set) (keys : Keys) → All (λ n. n < length q.classes.classes) keys → AreLines (map (key_text c q s) keys)
  keys-lines s [] h = tt
  keys-lines s (n ∷ ns) h = (key-line s n (All-head (λ m. m < length q.classes.classes) n ns h), keys-lines s ns (All-tail (λ m. m < length q.classes.classes) n ns h))

  keys-line : (s : Set) (keys : Keys) → All (λ n. n < length q.classes.classes) keys → is_line (keys_text c q s keys) ≡ true
  keys-line s keys h = listed-line [] (map (key_text c q s) keys) refl (keys-lines s keys h)

  leaves-lines : (is : List IndexNo) → All (IsIndex c) is → AreLines (map (leaf_text c) is)
  leaves-lines [] h = tt
  leaves-lines (i ∷ is) h = (index-line i (All-head (IsIndex c) i is h), leaves-lines is (All-tail (IsIndex c) i is h))

  element-line : (b : BitTree) → HasElementText c q b → is_line (tree_text c q b) ≡ true
  element-line (leaf i) h = index-line i h
  element-line (all_hold bs) h = absurd h
  element-line (some_arm n is) h =
      joined-line (number_text (conjunct_by (slice_get q.classes.clauses n))) (codes "(" ++ (with_commas [] (map (leaf_text c) is) ++ codes ")")) (number-text-line (conjunct_by (slice_get q.classes.clauses n)))
      (joined-line (with_commas [] (map (leaf_text c) is)) (codes ")") (listed-line [] (map (leaf_text c) is) refl (leaves-lines is h.1)) refl)

  elements-lines : (bs : BitTrees) → HaveElementTexts c q bs → AreLines (tree_texts c q bs)
  elements-lines no_trees h = tt
  elements-lines (tree_and b bs) h = (element-line b h.0, elements-lines bs h.1)

  bits-line : (b : BitTree) → HasBitsText c q b → is_line (tree_text c q b) ≡ true
  bits-line (leaf i) h = element-line (leaf i) h
  bits-line (some_arm n is) h = element-line (some_arm n is) h
  bits-line (all_hold bs) h = joined-line (with_commas [] (tree_texts c q bs)) (codes ")") (listed-line [] (tree_texts c q bs) refl (elements-lines bs h.1)) refl

  node-line : (s : RelSet) (n : Node) → HasNodeText c q (has s.0) n → is_line (node_text c q s n) ≡ true
  node-line s by_seq h = refl
  node-line s (by_index i backward) h = backward-line backward (index_name_at c i) (index-line i h)
  node-line s (by_index_only i backward) h = backward-line backward (index_name_at c i) (index-line i h)
  node-line s (by_bitmap bits) h = bits-line bits h
  node-line s (by_nest a b) h = joined-line (decimal a) (codes " " ++ decimal b) (number-line a) (number-line b)
  node-line s (by_merge keys a b) h =
      joined-line (keys_text c q (has s.0) keys) (codes " " ++ (side_text a ++ (codes " " ++ side_text b))) (keys-line (has s.0) keys h.0.classes)
      (joined-line (side_text a) (codes " " ++ side_text b) (side-line a) (side-line b))

  -- the line of an entry
  pub plain-line : (n : ℕ) (e : Entry) → HasEntryLine c q e → is_line (entry_line c q n e) ≡ true
  plain-line n e h =
      joined-line (decimal n) (codes " " ++ entry_text c q e) (number-line n)
      (joined-line (set_text q e.set ++ (param_text q e.param ++ (codes " " ++ node_text c q e.set e.node))) (measures_text c q e)
      (joined-line (set_text q e.set) _ (set-line e.set) (joined-line (param_text q e.param) _ (param-line e.param) (node-line e.set e.node h.node)))
      (joined-line (cost_text q.window (pair e.startup e.cost)) _ (cost-line q.window (pair e.startup e.cost))
      (joined-line (decimal e.rows) _ (number-line e.rows)
      (joined-line (keys_text c q (has e.set.0) e.keys) (codes ")") (keys-line (has e.set.0) e.keys h.keys.classes) refl))))
