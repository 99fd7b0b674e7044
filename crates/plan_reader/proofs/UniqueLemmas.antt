-- The text of a plan with numbers tells both.
use Prim.Native.Nat.{suc, zero}
use Rattle.std.proofs.Common.{◌≡◌, ◌<◌, ◌+◌, ◌-◌, ◌*◌, ℕ, Bool, true, false, cond, nat_eq, List, [], ◌∷◌, ◌++◌, codes, length, map, take, drop, get_or, replicate, refl, sym, ap, ap₂, ◌∙◌, subst, append_assoc, arith}
use Rattle.std.specs.Prelude.{All, Option, Some, None, slice_get}
use Rattle.std.specs.Fmt.{decimal}
use Rattle.std.specs.List.{flat_map}
use Rattle.std.proofs.lemmas.Bool.Decides.{nat_tests}
use Rattle.std.proofs.lemmas.Fmt.{decimal_injective}
use Rattle.std.proofs.lemmas.List.{append_cancel_left, append-nil, get_or_default, length-drop, length-take-le, take-append-drop}
use Rattle.std.proofs.lemmas.List.Elements.{All-drop, All-head, All-tail, All-take}
use Rattle.pg_base.specs.Names.{IsName}
use Rattle.pg_base.specs.declared.numbers.IndexNo.{IndexNo}
use Rattle.pg_base.specs.declared.numbers.RelNo.{RelNo}
use Rattle.pg_base.specs.declared.rel_set.RelSet.{RelSet}
use Rattle.catalog.specs.Contents.{Contents, IsLawful, index_name_at, name_at, table_at}
use Rattle.catalog.specs.Range.{relation_at, table_of}
use Rattle.pg_expr.specs.declared.operand.ColRef.{ColRef}
use Rattle.eq_classes.proofs.ListLemmas.{IsIn, found_in, in_from_contains}
use Rattle.sort_rows.proofs.ColumnLemmas.{member_is}
use Rattle.eq_classes.specs.Clauses.{Set, first_in}
use Rattle.eq_classes.specs.Listing.{blank, class_at}
use Rattle.eq_classes.specs.Parts.{union}
use Rattle.pathkeys.specs.Keys.{Keys}
use Rattle.sql_query.specs.Queries.{Query, width}
use Rattle.sql_query.specs.WellBound.{IsWellBound}
use Rattle.plan_tree.specs.Plans.{Plan, seq, index, index_only, bitmap, sort, nest, merge, BitTree, leaf, all_hold, some_arm, BitTrees, no_trees, tree_and, set_of}
use Rattle.plan_lines.specs.explain_Texts.{bits_text, conjunct_by, direction_text, family_text, figures_text, key_text, keys_text, lead, leaf_line, leaf_title, member_text, number_text, rel_text, scanned_text, title, trees_text, with_commas}
use Rattle.plan_lines.specs.explain_laws_ClassLemmas.{AreShownKeys, IsShownKey, keys-split}
use Rattle.plan_lines.specs.explain_laws_ConjunctLemmas.{conjunct-same}
use Rattle.plan_lines.specs.explain_laws_NameLemmas.{alias-name, alias-same, index-name, index-same, relation-table, table-name}
use Rattle.pg_base.proofs.NameLemmas.{decimal-word, name-word}
use Rattle.plan_lines.specs.explain_laws_SplitLemmas.{no-space, relation-split, split}
use Rattle.plan_lines.specs.certificate_entries_ClauseLemmas.{conjunct-small}
use Rattle.plan_lines.specs.certificate_text_HasText.{HasKeysText}
use Rattle.plan_space.specs.Numbered.{CostAndRows, nodes}
use Rattle.plan_lines.specs.work.Kinds.{words}
use Rattle.plan_lines.specs.work.Parts.{IsShallow}
use Rattle.plan_lines.specs.declared.kinds.Kind.{Kind}
use Rattle.plan_lines.specs.declared.kinds.Kind.TheVariants as kinds
use Rattle.plan_lines.specs.HasText.{HasBits, HaveBits, IsIndexOfQuery, IsScanned, IsText}
use Rattle.plan_lines.specs.work.TitleKinds.{behind_words, kind_of}
use Rattle.plan_lines.specs.work.Scans.{indexed_text}
use Rattle.plan_lines.proofs.KeyLemmas.{title-is}
use Rattle.plan_lines.proofs.ScannedLemmas.{scanned-split}
use Rattle.plan_lines.specs.work.Lines.{beneath, tree_title}
use Rattle.plan_lines.proofs.CompareLemmas.{some-of}
use Rattle.plan_lines.proofs.LineLemmas.{line-shallow, shallow-end, shallow-more}
use Rattle.plan_lines.proofs.TreeLemmas.{bits-is}
use Rattle.plan_reader.specs.Written.{Fits, IsWritten, first_pair, later_pairs, line_with, written_at, written_beneath, written_text}
use Rattle.plan_reader.proofs.NodeLemmas.{at-bitmap, at-index, at-index-only, at-merge, at-nest, at-seq, at-sort, nodes-some}

-- three bytes of the words of a kind tell it
abbrev three : List ℕ → ℕ
three l = get_or l 0 0 + 256 * get_or l 1 0 + 65536 * get_or l 6 0

abbrev number : Kind → ℕ
number kinds.Seq = 6382931
number kinds.Index = 5467721
number kinds.IndexOnly = 5205577
number kinds.Bitmap = 2124098
number kinds.Sort = 7958355
number kinds.Nest = 2123086
number kinds.Merge = 4875597

words-number : (k : Kind) (z : List ℕ) → three (words k ++ z) ≡ number k
words-number kinds.Seq z = refl
words-number kinds.Index z = refl
words-number kinds.IndexOnly z = refl
words-number kinds.Bitmap z = refl
words-number kinds.Sort z = refl
words-number kinds.Nest z = refl
words-number kinds.Merge z = refl

kind-same : (k l : Kind) → number k ≡ number l → k ≡ l
kind-same kinds.Seq kinds.Seq e = refl
kind-same kinds.Seq kinds.Index e = let bad : 6382931 ≡ 5467721 = e in absurd (omega (arith, bad))
kind-same kinds.Seq kinds.IndexOnly e = let bad : 6382931 ≡ 5205577 = e in absurd (omega (arith, bad))
kind-same kinds.Seq kinds.Bitmap e = let bad : 6382931 ≡ 2124098 = e in absurd (omega (arith, bad))
kind-same kinds.Seq kinds.Sort e = let bad : 6382931 ≡ 7958355 = e in absurd (omega (arith, bad))
kind-same kinds.Seq kinds.Nest e = let bad : 6382931 ≡ 2123086 = e in absurd (omega (arith, bad))
kind-same kinds.Seq kinds.Merge e = let bad : 6382931 ≡ 4875597 = e in absurd (omega (arith, bad))
kind-same kinds.Index kinds.Seq e = let bad : 5467721 ≡ 6382931 = e in absurd (omega (arith, bad))
kind-same kinds.Index kinds.Index e = refl
kind-same kinds.Index kinds.IndexOnly e = let bad : 5467721 ≡ 5205577 = e in absurd (omega (arith, bad))
kind-same kinds.Index kinds.Bitmap e = let bad : 5467721 ≡ 2124098 = e in absurd (omega (arith, bad))
kind-same kinds.Index kinds.Sort e = let bad : 5467721 ≡ 7958355 = e in absurd (omega (arith, bad))
kind-same kinds.Index kinds.Nest e = let bad : 5467721 ≡ 2123086 = e in absurd (omega (arith, bad))
kind-same kinds.Index kinds.Merge e = let bad : 5467721 ≡ 4875597 = e in absurd (omega (arith, bad))
kind-same kinds.IndexOnly kinds.Seq e = let bad : 5205577 ≡ 6382931 = e in absurd (omega (arith, bad))
kind-same kinds.IndexOnly kinds.Index e = let bad : 5205577 ≡ 5467721 = e in absurd (omega (arith, bad))
kind-same kinds.IndexOnly kinds.IndexOnly e = refl
kind-same kinds.IndexOnly kinds.Bitmap e = let bad : 5205577 ≡ 2124098 = e in absurd (omega (arith, bad))
kind-same kinds.IndexOnly kinds.Sort e = let bad : 5205577 ≡ 7958355 = e in absurd (omega (arith, bad))
kind-same kinds.IndexOnly kinds.Nest e = let bad : 5205577 ≡ 2123086 = e in absurd (omega (arith, bad))
kind-same kinds.IndexOnly kinds.Merge e = let bad : 5205577 ≡ 4875597 = e in absurd (omega (arith, bad))
kind-same kinds.Bitmap kinds.Seq e = let bad : 2124098 ≡ 6382931 = e in absurd (omega (arith, bad))
kind-same kinds.Bitmap kinds.Index e = let bad : 2124098 ≡ 5467721 = e in absurd (omega (arith, bad))
kind-same kinds.Bitmap kinds.IndexOnly e = let bad : 2124098 ≡ 5205577 = e in absurd (omega (arith, bad))
kind-same kinds.Bitmap kinds.Bitmap e = refl
kind-same kinds.Bitmap kinds.Sort e = let bad : 2124098 ≡ 7958355 = e in absurd (omega (arith, bad))
kind-same kinds.Bitmap kinds.Nest e = let bad : 2124098 ≡ 2123086 = e in absurd (omega (arith, bad))
kind-same kinds.Bitmap kinds.Merge e = let bad : 2124098 ≡ 4875597 = e in absurd (omega (arith, bad))
kind-same kinds.Sort kinds.Seq e = let bad : 7958355 ≡ 6382931 = e in absurd (omega (arith, bad))
kind-same kinds.Sort kinds.Index e = let bad : 7958355 ≡ 5467721 = e in absurd (omega (arith, bad))
kind-same kinds.Sort kinds.IndexOnly e = let bad : 7958355 ≡ 5205577 = e in absurd (omega (arith, bad))
kind-same kinds.Sort kinds.Bitmap e = let bad : 7958355 ≡ 2124098 = e in absurd (omega (arith, bad))
kind-same kinds.Sort kinds.Sort e = refl
kind-same kinds.Sort kinds.Nest e = let bad : 7958355 ≡ 2123086 = e in absurd (omega (arith, bad))
kind-same kinds.Sort kinds.Merge e = let bad : 7958355 ≡ 4875597 = e in absurd (omega (arith, bad))
kind-same kinds.Nest kinds.Seq e = let bad : 2123086 ≡ 6382931 = e in absurd (omega (arith, bad))
kind-same kinds.Nest kinds.Index e = let bad : 2123086 ≡ 5467721 = e in absurd (omega (arith, bad))
kind-same kinds.Nest kinds.IndexOnly e = let bad : 2123086 ≡ 5205577 = e in absurd (omega (arith, bad))
kind-same kinds.Nest kinds.Bitmap e = let bad : 2123086 ≡ 2124098 = e in absurd (omega (arith, bad))
kind-same kinds.Nest kinds.Sort e = let bad : 2123086 ≡ 7958355 = e in absurd (omega (arith, bad))
kind-same kinds.Nest kinds.Nest e = refl
kind-same kinds.Nest kinds.Merge e = let bad : 2123086 ≡ 4875597 = e in absurd (omega (arith, bad))
kind-same kinds.Merge kinds.Seq e = let bad : 4875597 ≡ 6382931 = e in absurd (omega (arith, bad))
kind-same kinds.Merge kinds.Index e = let bad : 4875597 ≡ 5467721 = e in absurd (omega (arith, bad))
kind-same kinds.Merge kinds.IndexOnly e = let bad : 4875597 ≡ 5205577 = e in absurd (omega (arith, bad))
kind-same kinds.Merge kinds.Bitmap e = let bad : 4875597 ≡ 2124098 = e in absurd (omega (arith, bad))
kind-same kinds.Merge kinds.Sort e = let bad : 4875597 ≡ 7958355 = e in absurd (omega (arith, bad))
kind-same kinds.Merge kinds.Nest e = let bad : 4875597 ≡ 2123086 = e in absurd (omega (arith, bad))
kind-same kinds.Merge kinds.Merge e = refl

-- the numbers of a node
figures-split : (n m : CostAndRows) (x y : List ℕ) → Fits n → Fits m → figures_text (decimal n.0) n.1 ++ x ≡ figures_text (decimal m.0) m.1 ++ y → (n ≡ m) × (x ≡ y)
figures-split n m x y h k e =
    let a : (decimal n.0 ++ (codes " rows=" ++ (decimal n.1 ++ codes ")\n"))) ++ x ≡ (decimal m.0 ++ (codes " rows=" ++ (decimal m.1 ++ codes ")\n"))) ++ y = ap (λ (l : List ℕ). drop 8 l) e in
    let b = split (decimal n.0) (decimal m.0) ((codes " rows=" ++ (decimal n.1 ++ codes ")\n")) ++ x) ((codes " rows=" ++ (decimal m.1 ++ codes ")\n")) ++ y) (decimal-word n.0) (decimal-word m.0) refl refl
    (sym (append_assoc (decimal n.0) (codes " rows=" ++ (decimal n.1 ++ codes ")\n")) x) ∙ a ∙ append_assoc (decimal m.0) (codes " rows=" ++ (decimal m.1 ++ codes ")\n")) y) in
    let d : (decimal n.1 ++ codes ")\n") ++ x ≡ (decimal m.1 ++ codes ")\n") ++ y = ap (λ (l : List ℕ). drop 6 l) b.1 in
    let f = split (decimal n.1) (decimal m.1) (codes ")\n" ++ x) (codes ")\n" ++ y) (decimal-word n.1) (decimal-word m.1) refl refl (sym (append_assoc (decimal n.1) (codes ")\n") x) ∙ d ∙ append_assoc (decimal m.1) (codes ")\n") y) in
    let h0 = h.0 in
    let h1 = h.1 in
    let k0 = k.0 in
    let k1 = k.1 in
    let cost : n.0 ≡ m.0 = decimal_injective n.0 m.0 (omega (arith, h0)) (omega (arith, k0)) b.0 in
    let rows : n.1 ≡ m.1 = decimal_injective n.1 m.1 (omega (arith, h1)) (omega (arith, k1)) f.0 in
    (λ t. (cost t, rows t), ap (λ (l : List ℕ). drop 2 l) f.1)

direction-split : (a b : Bool) (u v : List ℕ) → cond a (codes " Backward") [] ++ (codes " using " ++ u) ≡ cond b (codes " Backward") [] ++ (codes " using " ++ v) → (a ≡ b) × (u ≡ v)
direction-split true true u v e = (refl, ap (λ (l : List ℕ). drop 16 l) e)
direction-split true false u v e = let bad : 66 ≡ 117 = ap (λ (l : List ℕ). get_or l 1 0) e in absurd (omega (arith, bad))
direction-split false true u v e = let bad : 117 ≡ 66 = ap (λ (l : List ℕ). get_or l 1 0) e in absurd (omega (arith, bad))
direction-split false false u v e = (refl, ap (λ (l : List ℕ). drop 7 l) e)

-- no line of a depth above d begins a text that is shallow
spaces-at : (n k : ℕ) (z : List ℕ) → k < n → get_or (replicate n 32 ++ z) k 0 ≡ 32
spaces-at zero k z lt = absurd (omega (arith, lt))
spaces-at (suc n) zero z lt = refl
spaces-at (suc n) (suc k) z lt = spaces-at n k z (omega (arith, lt))

no-line : (d : ℕ) (x z : List ℕ) → IsShallow d x → x ≡ lead (d + 1) ++ z → ⊥
no-line d x z h e = h.byte (ap (λ (l : List ℕ). get_or l h.place 0) (e ∙ is) ∙ spaces-at (6 * d + 2) h.place (codes "->  " ++ z) h.before)
  where
    more : nat_eq (d + 1) 0 ≡ false
    more = grind (arith, nat_tests)

    spaces : 6 * (d + 1) - 4 ≡ 6 * d + 2
    spaces = omega arith

    is : lead (d + 1) ++ z ≡ replicate (6 * d + 2) 32 ++ (codes "->  " ++ z)
    is =
        ap (λ (b : Bool). cond b [] (replicate (6 * (d + 1) - 4) 32 ++ codes "->  ") ++ z) more
        ∙ (ap (λ (m : ℕ). (replicate m 32 ++ codes "->  ") ++ z) spaces ∙ append_assoc (replicate (6 * d + 2) 32) (codes "->  ") z)

module _ (c : Contents) (q : Query) (lawful : IsLawful c) (bound : IsWellBound c q) where
  rel-split : (r s : RelNo) (x y : List ℕ) → r.0 < width q → s.0 < width q → rel_text c q r ++ 32 ∷ 32 ∷ x ≡ rel_text c q s ++ 32 ∷ 32 ∷ y → (r ≡ s) × (x ≡ y)
  rel-split r s x y hr hs e =
      let R = relation_at q.range r in
      let S = relation_at q.range s in
      let one = relation-split (table_at c R.0).name (table_at c S.0).name R.1 S.1 [] [] x y
      (table-name c lawful R.0 (relation-table c q.range bound.range r hr)) (table-name c lawful S.0 (relation-table c q.range bound.range s hs))
      (alias-name c q.range bound.range r hr) (alias-name c q.range bound.range s hs) tt tt e in
      (alias-same c q.range bound.range r s hr hs one.0, one.2)

  indexed-split : (r s : RelNo) (i j : IndexNo) (a b : Bool) (p o : RelSet) (x y : List ℕ) → IsScanned c q r p → IsScanned c q s o → IsIndexOfQuery c q i → IsIndexOfQuery c q j →
      indexed_text c q (record { rel = r; index = i; backward = a; param = p }) ++ 32 ∷ 32 ∷ x ≡ indexed_text c q (record { rel = s; index = j; backward = b; param = o }) ++ 32 ∷ 32 ∷ y → (r ≡ s) × (i ≡ j) × (a ≡ b) × (p ≡ o) × (x ≡ y)
  indexed-split r s i j a b p o x y hr hs hi hj e =
      let I = index_name_at c i in
      let J = index_name_at c j in
      let one = direction-split a b ((I ++ (codes " on " ++ scanned_text c q r p)) ++ 32 ∷ 32 ∷ x) ((J ++ (codes " on " ++ scanned_text c q s o)) ++ 32 ∷ 32 ∷ y)
      (sym (append_assoc (cond a (codes " Backward") []) (codes " using " ++ (I ++ (codes " on " ++ scanned_text c q r p))) (32 ∷ 32 ∷ x)) ∙ e
      ∙ append_assoc (cond b (codes " Backward") []) (codes " using " ++ (J ++ (codes " on " ++ scanned_text c q s o))) (32 ∷ 32 ∷ y)) in
      let two = split I J ((codes " on " ++ scanned_text c q r p) ++ 32 ∷ 32 ∷ x) ((codes " on " ++ scanned_text c q s o) ++ 32 ∷ 32 ∷ y) (name-word I (index-name c lawful i hi.index)) (name-word J (index-name c lawful j hj.index)) refl refl
      (sym (append_assoc I (codes " on " ++ scanned_text c q r p) (32 ∷ 32 ∷ x)) ∙ one.1 ∙ append_assoc J (codes " on " ++ scanned_text c q s o) (32 ∷ 32 ∷ y)) in
      let rest = scanned-split c q lawful bound r s p o x y hr hs (ap (λ (l : List ℕ). drop 4 l) two.1) in
      (rest.0, index-same c lawful i j hi.index hj.index two.0, one.0, rest.1, rest.2)

  -- key lists, which may be empty
  name-first : (w z : List ℕ) → IsName w → get_or (w ++ z) 0 0 ≡ 32 → ⊥
  name-first [] z h e = h
  name-first (b ∷ bs) z h e = no-space b bs h e

  shown-key : (a : Set) (n : ℕ) → n < length q.classes.classes → ¬ (first_in (class_at q.classes.classes n) a ≡ None) → IsShownKey q.classes a n
  shown-key a n lt h = by (first_in (class_at q.classes.classes n) a) refl
    where
      by : (o : Option ColRef) → first_in (class_at q.classes.classes n) a ≡ o → IsShownKey q.classes a n
      by None e = absurd (h e)
      by (Some x) e = record { low = lt; member = x; first = e }

  shown : (a : Set) (ks : Keys) → All (λ n. n < length q.classes.classes) ks → All (λ n. ¬ (first_in (class_at q.classes.classes n) a ≡ None)) ks → AreShownKeys q a ks
  shown a [] h g = tt
  shown a (n ∷ ns) h g = (
    shown-key a n (All-head (λ m. m < length q.classes.classes) n ns h) (All-head (λ m. ¬ (first_in (class_at q.classes.classes m) a ≡ None)) n ns g),
    shown a ns (All-tail (λ m. m < length q.classes.classes) n ns h) (All-tail (λ m. ¬ (first_in (class_at q.classes.classes m) a ≡ None)) n ns g),
  )

  key-first : (a : Set) (n : ℕ) (z : List ℕ) → IsShownKey q.classes a n → get_or (key_text c q a n ++ z) 0 0 ≡ 32 → ⊥
  key-first a n z k e =
      let x = k.member in
      let tail = family_text (class_at q.classes.classes n).family ++ direction_text (class_at q.classes.classes n).descending (class_at q.classes.classes n).nulls_first in
      let in-list : IsIn (class_at q.classes.classes n) q.classes.classes = in_from_contains q.classes.classes (class_at q.classes.classes n) (n, k.low, get_or_default q.classes.classes n (class_at q.classes.classes n) blank k.low) in
      let column = member_is c q bound (class_at q.classes.classes n) in-list x (found_in (λ (y : ColRef). a y.rel.0) (class_at q.classes.classes n).members x k.first) in
      let alias = (relation_at q.range x.rel).1 in
      let rest = codes "." ++ name_at c (table_of q.range x) x.col in
      let same : key_text c q a n ++ z ≡ alias ++ (rest ++ (tail ++ z)) =
      ap (λ (o : Option ColRef). (member_text c q o ++ tail) ++ z) k.first ∙ (append_assoc (alias ++ rest) tail z ∙ append_assoc alias rest (tail ++ z)) in
      name-first alias (rest ++ (tail ++ z)) (bound.range.names x.rel.0 (record { 0 = 0 }, []) column.relation) (sym (ap (λ (l : List ℕ). get_or l 0 0) same) ∙ e)

  keys-told : (a b : Set) (ks ls : Keys) (s t : List ℕ) → HasKeysText q a ks → HasKeysText q b ls → keys_text c q a ks ++ 32 ∷ 32 ∷ s ≡ keys_text c q b ls ++ 32 ∷ 32 ∷ t → (ks ≡ ls) × (s ≡ t)
  keys-told a b [] [] s t h g e = (refl, ap (λ (l : List ℕ). drop 2 l) e)
  keys-told a b [] (l ∷ ls) s t h g e =
      let all = shown b (l ∷ ls) g.classes g.members in
      let more = with_commas (codes ", ") (map (key_text c q b) ls) in
      absurd (key-first b l (more ++ 32 ∷ 32 ∷ t) all.0 (sym (ap (λ (x : List ℕ). get_or x 0 0) (e ∙ append_assoc (key_text c q b l) more (32 ∷ 32 ∷ t)))))
  keys-told a b (k ∷ ks) [] s t h g e =
      let all = shown a (k ∷ ks) h.classes h.members in
      let more = with_commas (codes ", ") (map (key_text c q a) ks) in
      absurd (key-first a k (more ++ 32 ∷ 32 ∷ s) all.0 (sym (ap (λ (x : List ℕ). get_or x 0 0) (sym e ∙ append_assoc (key_text c q a k) more (32 ∷ 32 ∷ s)))))
  keys-told a b (k ∷ ks) (l ∷ ls) s t h g e = keys-split c q lawful bound a b (k ∷ ks) (l ∷ ls) s t (omega arith) (omega arith) (shown a (k ∷ ks) h.classes h.members) (shown b (l ∷ ls) g.classes g.members) e

  -- bitmap trees
  bits-heads : (d : ℕ) (a b : BitTree) (x y : List ℕ) → bits_text c q d a ++ x ≡ bits_text c q d b ++ y → tree_title c q a ++ (10 ∷ (beneath c q d a ++ x)) ≡ tree_title c q b ++ (10 ∷ (beneath c q d b ++ y))
  bits-heads d a b x y e =
      append_cancel_left (lead d) (tree_title c q a ++ (10 ∷ (beneath c q d a ++ x))) (tree_title c q b ++ (10 ∷ (beneath c q d b ++ y))) (sym (bits-is c q d a x) ∙ e ∙ bits-is c q d b y)

  trees-shallow : (d : ℕ) (bs : BitTrees) (x : List ℕ) → IsShallow d x → IsShallow (d + 1) (trees_text c q (d + 1) bs ++ x)
  trees-shallow d no_trees x h = shallow-more d x h
  trees-shallow d (tree_and b bs) x h =
      subst (IsShallow (d + 1)) (sym (append_assoc (bits_text c q (d + 1) b) (trees_text c q (d + 1) bs) x ∙ bits-is c q (d + 1) b (trees_text c q (d + 1) bs ++ x))) (line-shallow d (tree_title c q b ++ (10 ∷ (beneath c q (d + 1) b ++ (trees_text c q (d + 1) bs ++ x)))))

  leaf-is : (d : ℕ) (i : IndexNo) (x : List ℕ) → leaf_line c d i ++ x ≡ lead d ++ (leaf_title c i ++ 10 ∷ x)
  leaf-is d i x = append_assoc (lead d) (leaf_title c i ++ codes "\n") x ∙ ap (λ (l : List ℕ). lead d ++ l) (append_assoc (leaf_title c i) (codes "\n") x)

  names-split : (i j : IndexNo) (x y : List ℕ) → IsIndexOfQuery c q i → IsIndexOfQuery c q j → leaf_title c i ++ 10 ∷ x ≡ leaf_title c j ++ 10 ∷ y → (i ≡ j) × (x ≡ y)
  names-split i j x y hi hj e =
      let one : index_name_at c i ++ 10 ∷ x ≡ index_name_at c j ++ 10 ∷ y = ap (λ (l : List ℕ). drop 21 l) e in
      let two = split (index_name_at c i) (index_name_at c j) (10 ∷ x) (10 ∷ y) (name-word (index_name_at c i) (index-name c lawful i hi.index)) (name-word (index_name_at c j) (index-name c lawful j hj.index)) refl refl one in
      (index-same c lawful i j hi.index hj.index two.0, ap (λ (l : List ℕ). drop 1 l) two.1)

  leaves-unique : (d : ℕ) (is js : List IndexNo) (x y : List ℕ) → All (IsIndexOfQuery c q) is → All (IsIndexOfQuery c q) js → IsShallow d x → IsShallow d y →
      flat_map (leaf_line c (d + 1)) is ++ x ≡ flat_map (leaf_line c (d + 1)) js ++ y → (is ≡ js) × (x ≡ y)
  leaves-unique d [] [] x y h g sx sy e = (refl, e)
  leaves-unique d [] (j ∷ js) x y h g sx sy e =
      let rest = flat_map (leaf_line c (d + 1)) js ++ y in
      absurd (no-line d x (leaf_title c j ++ 10 ∷ rest) sx (e ∙ (append_assoc (leaf_line c (d + 1) j) (flat_map (leaf_line c (d + 1)) js) y ∙ leaf-is (d + 1) j rest)))
  leaves-unique d (i ∷ is) [] x y h g sx sy e =
      let rest = flat_map (leaf_line c (d + 1)) is ++ x in
      absurd (no-line d y (leaf_title c i ++ 10 ∷ rest) sy (sym e ∙ (append_assoc (leaf_line c (d + 1) i) (flat_map (leaf_line c (d + 1)) is) x ∙ leaf-is (d + 1) i rest)))
  leaves-unique d (i ∷ is) (j ∷ js) x y h g sx sy e =
      let X = flat_map (leaf_line c (d + 1)) is ++ x in
      let Y = flat_map (leaf_line c (d + 1)) js ++ y in
      let one = append_cancel_left (lead (d + 1)) (leaf_title c i ++ 10 ∷ X) (leaf_title c j ++ 10 ∷ Y)
      (sym (append_assoc (leaf_line c (d + 1) i) (flat_map (leaf_line c (d + 1)) is) x ∙ leaf-is (d + 1) i X) ∙ e ∙ (append_assoc (leaf_line c (d + 1) j) (flat_map (leaf_line c (d + 1)) js) y ∙ leaf-is (d + 1) j Y)) in
      let two = names-split i j X Y (All-head (IsIndexOfQuery c q) i is h) (All-head (IsIndexOfQuery c q) j js g) one in
      let rest = leaves-unique d is js x y (All-tail (IsIndexOfQuery c q) i is h) (All-tail (IsIndexOfQuery c q) j js g) sx sy two.1 in
      (ap₂ (λ (k : IndexNo) (l : List IndexNo). k ∷ l) two.0 rest.0, rest.1)

  arms-unique : (d n m : ℕ) (is js : List IndexNo) (x y : List ℕ) → HasBits c q (some_arm n is) → HasBits c q (some_arm m js) → IsShallow d x → IsShallow d y →
      tree_title c q (some_arm n is) ++ (10 ∷ (flat_map (leaf_line c (d + 1)) is ++ x)) ≡ tree_title c q (some_arm m js) ++ (10 ∷ (flat_map (leaf_line c (d + 1)) js ++ y)) → (some_arm n is ≡ some_arm m js) × (x ≡ y)
  arms-unique d n m is js x y h g sx sy e =
      let X = flat_map (leaf_line c (d + 1)) is ++ x in
      let Y = flat_map (leaf_line c (d + 1)) js ++ y in
      let k = some-of (conjunct_by (slice_get q.classes.clauses n)) h.0 in
      let l = some-of (conjunct_by (slice_get q.classes.clauses m)) g.0 in
      let one : number_text (conjunct_by (slice_get q.classes.clauses n)) ++ 10 ∷ X ≡ number_text (conjunct_by (slice_get q.classes.clauses m)) ++ 10 ∷ Y = ap (λ (z : List ℕ). drop 9 z) e in
      let two : decimal k.0 ++ 10 ∷ X ≡ decimal l.0 ++ 10 ∷ Y = sym (ap (λ (o : Option ℕ). number_text o ++ 10 ∷ X) k.1) ∙ one ∙ ap (λ (o : Option ℕ). number_text o ++ 10 ∷ Y) l.1 in
      let three = split (decimal k.0) (decimal l.0) (10 ∷ X) (10 ∷ Y) (decimal-word k.0) (decimal-word l.0) refl refl two in
      let few = conjunct-small c q bound n k.0 k.1 in
      let low = conjunct-small c q bound m l.0 l.1 in
      let same : k.0 ≡ l.0 = decimal_injective k.0 l.0 (omega (arith, few)) (omega (arith, low)) three.0 in
      let clause : n ≡ m = conjunct-same c q bound n m l.0 (k.1 ∙ ap (λ (z : ℕ). Some z) same) l.1 in
      let rest = leaves-unique d is js x y h.1 g.1 sx sy (ap (λ (z : List ℕ). drop 1 z) three.1) in
      (ap₂ some_arm clause rest.0, rest.1)

  mutual
    bits-unique : (a b : BitTree) (d : ℕ) (x y : List ℕ) → HasBits c q a → HasBits c q b → IsShallow d x → IsShallow d y → bits_text c q d a ++ x ≡ bits_text c q d b ++ y → (a ≡ b) × (x ≡ y)
    bits-unique (leaf i) (leaf j) d x y h g sx sy e = let r = names-split i j x y h g (bits-heads d (leaf i) (leaf j) x y e) in (ap leaf r.0, r.1)
    bits-unique (leaf i) (all_hold bs) d x y h g sx sy e = let bad : 32 ≡ 65 = ap (λ (l : List ℕ). get_or l 6 0) (bits-heads d (leaf i) (all_hold bs) x y e) in absurd (omega (arith, bad))
    bits-unique (leaf i) (some_arm m js) d x y h g sx sy e = let bad : 32 ≡ 79 = ap (λ (l : List ℕ). get_or l 6 0) (bits-heads d (leaf i) (some_arm m js) x y e) in absurd (omega (arith, bad))
    bits-unique (all_hold bs) (leaf j) d x y h g sx sy e = let bad : 65 ≡ 32 = ap (λ (l : List ℕ). get_or l 6 0) (bits-heads d (all_hold bs) (leaf j) x y e) in absurd (omega (arith, bad))
    bits-unique (all_hold bs) (all_hold cs) d x y h g sx sy e =
        let r = trees-unique bs cs d x y h g sx sy (ap (λ (l : List ℕ). drop 10 l) (bits-heads d (all_hold bs) (all_hold cs) x y e)) in
        (ap all_hold r.0, r.1)
    bits-unique (all_hold bs) (some_arm m js) d x y h g sx sy e = let bad : 65 ≡ 79 = ap (λ (l : List ℕ). get_or l 6 0) (bits-heads d (all_hold bs) (some_arm m js) x y e) in absurd (omega (arith, bad))
    bits-unique (some_arm n is) (leaf j) d x y h g sx sy e = let bad : 79 ≡ 32 = ap (λ (l : List ℕ). get_or l 6 0) (bits-heads d (some_arm n is) (leaf j) x y e) in absurd (omega (arith, bad))
    bits-unique (some_arm n is) (all_hold cs) d x y h g sx sy e = let bad : 79 ≡ 65 = ap (λ (l : List ℕ). get_or l 6 0) (bits-heads d (some_arm n is) (all_hold cs) x y e) in absurd (omega (arith, bad))
    bits-unique (some_arm n is) (some_arm m js) d x y h g sx sy e = arms-unique d n m is js x y h g sx sy (bits-heads d (some_arm n is) (some_arm m js) x y e)

    trees-unique : (bs cs : BitTrees) (d : ℕ) (x y : List ℕ) → HaveBits c q bs → HaveBits c q cs → IsShallow d x → IsShallow d y → trees_text c q (d + 1) bs ++ x ≡ trees_text c q (d + 1) cs ++ y → (bs ≡ cs) × (x ≡ y)
    trees-unique no_trees no_trees d x y h g sx sy e = (refl, e)
    trees-unique no_trees (tree_and b cs) d x y h g sx sy e =
        let rest = trees_text c q (d + 1) cs ++ y in
        absurd (no-line d x (tree_title c q b ++ (10 ∷ (beneath c q (d + 1) b ++ rest))) sx (e ∙ (append_assoc (bits_text c q (d + 1) b) (trees_text c q (d + 1) cs) y ∙ bits-is c q (d + 1) b rest)))
    trees-unique (tree_and a bs) no_trees d x y h g sx sy e =
        let rest = trees_text c q (d + 1) bs ++ x in
        absurd (no-line d y (tree_title c q a ++ (10 ∷ (beneath c q (d + 1) a ++ rest))) sy (sym e ∙ (append_assoc (bits_text c q (d + 1) a) (trees_text c q (d + 1) bs) x ∙ bits-is c q (d + 1) a rest)))
    trees-unique (tree_and a bs) (tree_and b cs) d x y h g sx sy e =
        let one = bits-unique a b (d + 1) (trees_text c q (d + 1) bs ++ x) (trees_text c q (d + 1) cs ++ y) h.0 g.0 (trees-shallow d bs x sx) (trees-shallow d cs y sy)
        (sym (append_assoc (bits_text c q (d + 1) a) (trees_text c q (d + 1) bs) x) ∙ e ∙ append_assoc (bits_text c q (d + 1) b) (trees_text c q (d + 1) cs) y) in
        let rest = trees-unique bs cs d x y h.1 g.1 sx sy one.1 in
        (ap₂ tree_and one.0 rest.0, rest.1)

  -- the first line of a plan, taken to pieces
  line-flat : (d : ℕ) (p : Plan) (n : CostAndRows) (x : List ℕ) → line_with c q d p n ++ x ≡ lead d ++ (words (kind_of p) ++ (behind_words c q p ++ (figures_text (decimal n.0) n.1 ++ x)))
  line-flat d p n x =
      append_assoc (lead d) (title c q p ++ figures_text (decimal n.0) n.1) x
      ∙ ap (λ (l : List ℕ). lead d ++ l) (append_assoc (title c q p) (figures_text (decimal n.0) n.1) x ∙ (ap (λ (t : List ℕ). t ++ (figures_text (decimal n.0) n.1 ++ x)) (title-is c q p)
      ∙ append_assoc (words (kind_of p)) (behind_words c q p) (figures_text (decimal n.0) n.1 ++ x)))

  heads : (d : ℕ) (p o : Plan) (n m : CostAndRows) (x y : List ℕ) → line_with c q d p n ++ x ≡ line_with c q d o m ++ y →
      (kind_of p ≡ kind_of o) × (behind_words c q p ++ (figures_text (decimal n.0) n.1 ++ x) ≡ behind_words c q o ++ (figures_text (decimal m.0) m.1 ++ y))
  heads d p o n m x y e =
      let A = behind_words c q p ++ (figures_text (decimal n.0) n.1 ++ x) in
      let B = behind_words c q o ++ (figures_text (decimal m.0) m.1 ++ y) in
      let one : words (kind_of p) ++ A ≡ words (kind_of o) ++ B = append_cancel_left (lead d) (words (kind_of p) ++ A) (words (kind_of o) ++ B) (sym (line-flat d p n x) ∙ e ∙ line-flat d o m y) in
      let kind : kind_of p ≡ kind_of o = kind-same (kind_of p) (kind_of o) (sym (words-number (kind_of p) A) ∙ ap three one ∙ words-number (kind_of o) B) in
      (kind, append_cancel_left (words (kind_of o)) A B (ap (λ (k : Kind). words k ++ A) (sym kind) ∙ one))

  -- behind the two spaces of the numbers
  numbers-told : (n m : CostAndRows) (x y : List ℕ) → Fits n → Fits m → drop 2 (figures_text (decimal n.0) n.1 ++ x) ≡ drop 2 (figures_text (decimal m.0) m.1 ++ y) → (n ≡ m) × (x ≡ y)
  numbers-told n m x y h k e = figures-split n m x y h k (ap (λ (l : List ℕ). 32 ∷ 32 ∷ l) e)

  -- what is told of two plans of one text
  abbrev IsTold : ℕ → Plan → Plan → Type 0
  IsTold d p o = (ns ms : List CostAndRows) (x y : List ℕ) → IsText c q p → IsText c q o → length ns ≡ nodes p → length ms ≡ nodes o → All Fits ns → All Fits ms → IsShallow d x → IsShallow d y →
      written_at c q d p ns ++ x ≡ written_at c q d o ms ++ y → (p ≡ o) × (ns ≡ ms) × (x ≡ y)

  -- the numbers of a plan: the first pair, and the later ones
  parted : (p : Plan) (ns : List CostAndRows) → length ns ≡ nodes p → ns ≡ first_pair ns ∷ later_pairs ns
  parted p [] h = let some = nodes-some p in absurd (omega (arith, some, h))
  parted p (n ∷ ns) h = refl

  first-fits : (p : Plan) (ns : List CostAndRows) → length ns ≡ nodes p → All Fits ns → Fits (first_pair ns)
  first-fits p [] h k = let some = nodes-some p in absurd (omega (arith, some, h))
  first-fits p (n ∷ ns) h k = All-head Fits n ns k

  later-fits : (p : Plan) (ns : List CostAndRows) → length ns ≡ nodes p → All Fits ns → All Fits (later_pairs ns)
  later-fits p [] h k = k
  later-fits p (n ∷ ns) h k = All-tail Fits n ns k

  later-count : (p : Plan) (ns : List CostAndRows) → length ns ≡ nodes p → length (later_pairs ns) + 1 ≡ nodes p
  later-count p [] h = let some = nodes-some p in absurd (omega (arith, some, h))
  later-count p (n ∷ ns) h = omega (arith, h)

  no-later : (p : Plan) (ns : List CostAndRows) → nodes p ≡ 1 → length (later_pairs ns) + 1 ≡ nodes p → later_pairs ns ≡ []
  no-later p [] one h = refl
  no-later p (n ∷ []) one h = refl
  no-later p (n ∷ (m ∷ ns)) one h = absurd (omega (arith, one, h))

  -- what is told behind the titles
  record Heads (d : ℕ) (p o : Plan) (ns ms : List CostAndRows) (x y : List ℕ) : Type 0 where
    kind : kind_of p ≡ kind_of o
    titles : behind_words c q p ++ (figures_text (decimal (first_pair ns).0) (first_pair ns).1 ++ (written_beneath c q d p (later_pairs ns) ++ x))
        ≡ behind_words c q o ++ (figures_text (decimal (first_pair ms).0) (first_pair ms).1 ++ (written_beneath c q d o (later_pairs ms) ++ y))

  headed : (d : ℕ) (p o : Plan) (ns ms : List CostAndRows) (x y : List ℕ) → written_at c q d p ns ++ x ≡ written_at c q d o ms ++ y → Heads d p o ns ms x y
  headed d p o ns ms x y e =
      let h = heads d p o (first_pair ns) (first_pair ms) (written_beneath c q d p (later_pairs ns) ++ x) (written_beneath c q d o (later_pairs ms) ++ y)
      (sym (append_assoc (line_with c q d p (first_pair ns)) (written_beneath c q d p (later_pairs ns)) x) ∙ e ∙ append_assoc (line_with c q d o (first_pair ms)) (written_beneath c q d o (later_pairs ms)) y) in
      record { kind = h.0; titles = h.1 }

  -- the rest of a line, behind its title
  abbrev rest_of : ℕ → Plan → List CostAndRows → List ℕ → List ℕ
  rest_of d p ns x = drop 2 (figures_text (decimal (first_pair ns).0) (first_pair ns).1 ++ (written_beneath c q d p (later_pairs ns) ++ x))

  pairs-told : (p o : Plan) (ns ms : List CostAndRows) → length ns ≡ nodes p → length ms ≡ nodes o → first_pair ns ≡ first_pair ms → later_pairs ns ≡ later_pairs ms → ns ≡ ms
  pairs-told p o ns ms h k e f = parted p ns h ∙ (ap₂ (λ (n : CostAndRows) (l : List CostAndRows). n ∷ l) e f ∙ sym (parted o ms k))

  leaf-told : (d : ℕ) (p o : Plan) (ns ms : List CostAndRows) (x y : List ℕ) → nodes p ≡ 1 → nodes o ≡ 1 → written_beneath c q d p [] ≡ [] → written_beneath c q d o [] ≡ [] → length ns ≡ nodes p → length ms ≡ nodes o → All Fits ns → All Fits ms →
      rest_of d p ns x ≡ rest_of d o ms y → (ns ≡ ms) × (x ≡ y)
  leaf-told d p o ns ms x y op oo np no-beneath h k f g e =
      let r = numbers-told (first_pair ns) (first_pair ms) (written_beneath c q d p (later_pairs ns) ++ x) (written_beneath c q d o (later_pairs ms) ++ y) (first-fits p ns h f) (first-fits o ms k g) e in
      let ln = no-later p ns op (later-count p ns h) in
      let lm = no-later o ms oo (later-count o ms k) in (
        pairs-told p o ns ms h k r.0 (ln ∙ sym lm),
        sym (ap (λ (l : List CostAndRows). written_beneath c q d p l ++ x) ln ∙ ap (λ (l : List ℕ). l ++ x) np) ∙ r.1 ∙ (ap (λ (l : List CostAndRows). written_beneath c q d o l ++ y) lm ∙ ap (λ (l : List ℕ). l ++ y) no-beneath),
      )

  seq-told : (d : ℕ) (r s : RelNo) → IsTold d (seq r) (seq s)
  seq-told d r s ns ms x y tp to h k f g sx sy e =
      let t = rel-split r s (rest_of d (seq r) ns x) (rest_of d (seq s) ms y) tp to (headed d (seq r) (seq s) ns ms x y e).titles in
      let l = leaf-told d (seq r) (seq s) ns ms x y refl refl refl refl h k f g t.1 in
      (ap seq t.0, l.0, l.1)

  index-told : (d : ℕ) (r s : RelNo) (i j : IndexNo) (a b : Bool) (p o : RelSet) → IsTold d (index r i a p) (index s j b o)
  index-told d r s i j a b p o ns ms x y tp to h k f g sx sy e =
      let A = index r i a p in
      let B = index s j b o in
      let t = indexed-split r s i j a b p o (rest_of d A ns x) (rest_of d B ms y) tp.0 to.0 tp.1 to.1 (headed d A B ns ms x y e).titles in
      let l = leaf-told d A B ns ms x y refl refl refl refl h k f g t.4 in
      ((λ z. index (t.0 z) (t.1 z) (t.2 z) (t.3 z)), l.0, l.1)

  index-only-told : (d : ℕ) (r s : RelNo) (i j : IndexNo) (a b : Bool) (p o : RelSet) → IsTold d (index_only r i a p) (index_only s j b o)
  index-only-told d r s i j a b p o ns ms x y tp to h k f g sx sy e =
      let A = index_only r i a p in
      let B = index_only s j b o in
      let t = indexed-split r s i j a b p o (rest_of d A ns x) (rest_of d B ms y) tp.0 to.0 tp.1 to.1 (headed d A B ns ms x y e).titles in
      let l = leaf-told d A B ns ms x y refl refl refl refl h k f g t.4 in
      ((λ z. index_only (t.0 z) (t.1 z) (t.2 z) (t.3 z)), l.0, l.1)

  bitmap-told : (d : ℕ) (r s : RelNo) (p o : RelSet) (a b : BitTree) → IsTold d (bitmap r p a) (bitmap s o b)
  bitmap-told d r s p o a b ns ms x y tp to h k f g sx sy e =
      let A = bitmap r p a in
      let B = bitmap s o b in
      let t = scanned-split c q lawful bound r s p o (rest_of d A ns x) (rest_of d B ms y) tp.0 to.0 (headed d A B ns ms x y e).titles in
      let n = numbers-told (first_pair ns) (first_pair ms) (bits_text c q (d + 1) a ++ x) (bits_text c q (d + 1) b ++ y) (first-fits A ns h f) (first-fits B ms k g) t.2 in
      let u = bits-unique a b (d + 1) x y tp.1 to.1 (shallow-more d x sx) (shallow-more d y sy) n.1 in
      ((λ z. bitmap (t.0 z) (t.1 z) (u.0 z)), pairs-told A B ns ms h k n.0 (no-later A ns refl (later-count A ns h) ∙ sym (no-later B ms refl (later-count B ms k))), u.1)

  sort-told : (d : ℕ) (ks ls : Keys) (p o : Plan) → IsTold (d + 1) p o → IsTold d (sort ks p) (sort ls o)
  sort-told d ks ls p o told ns ms x y tp to h k f g sx sy e =
      let A = sort ks p in
      let B = sort ls o in
      let t = keys-told (set_of p) (set_of o) ks ls (rest_of d A ns x) (rest_of d B ms y) tp.1 to.1 (headed d A B ns ms x y e).titles in
      let n = numbers-told (first_pair ns) (first_pair ms) (written_at c q (d + 1) p (later_pairs ns) ++ x) (written_at c q (d + 1) o (later_pairs ms) ++ y) (first-fits A ns h f) (first-fits B ms k g) t.1 in
      let cn = later-count A ns h in
      let cm = later-count B ms k in
      let u = told (later_pairs ns) (later_pairs ms) x y tp.0 to.0 (omega (arith, cn)) (omega (arith, cm)) (later-fits A ns h f) (later-fits B ms k g) (shallow-more d x sx) (shallow-more d y sy) n.1 in
      (ap₂ sort t.0 u.0, pairs-told A B ns ms h k n.0 u.1, u.2)

  written-shallow : (d : ℕ) (p : Plan) (ns : List CostAndRows) (x : List ℕ) → IsShallow (d + 1) (written_at c q (d + 1) p ns ++ x)
  written-shallow d p ns x =
      subst (IsShallow (d + 1)) (sym (append_assoc (line_with c q (d + 1) p (first_pair ns)) (written_beneath c q (d + 1) p (later_pairs ns)) x ∙ line-flat (d + 1) p (first_pair ns) (written_beneath c q (d + 1) p (later_pairs ns) ++ x)))
      (line-shallow d (words (kind_of p) ++ (behind_words c q p ++ (figures_text (decimal (first_pair ns).0) (first_pair ns).1 ++ (written_beneath c q (d + 1) p (later_pairs ns) ++ x)))))

  -- two plans, one behind the other
  both-told : (d : ℕ) (p r o s : Plan) (ns ms : List CostAndRows) (x y : List ℕ) → IsTold (d + 1) p o → IsTold (d + 1) r s → IsText c q p → IsText c q r → IsText c q o → IsText c q s → length ns ≡ nodes p + nodes r → length ms ≡ nodes o + nodes s →
      All Fits ns → All Fits ms → IsShallow d x → IsShallow d y → written_beneath c q d (nest p r) ns ++ x ≡ written_beneath c q d (nest o s) ms ++ y → (p ≡ o) × (r ≡ s) × (ns ≡ ms) × (x ≡ y)
  both-told d p r o s ns ms x y first second tp tr to ts h k f g sx sy e =
      let A = written_at c q (d + 1) r (drop (nodes p) ns) ++ x in
      let B = written_at c q (d + 1) s (drop (nodes o) ms) ++ y in
      let one = first (take (nodes p) ns) (take (nodes o) ms) A B tp to (length-take-le (nodes p) ns (omega (arith, h))) (length-take-le (nodes o) ms (omega (arith, k))) (All-take Fits (nodes p) ns f) (All-take Fits (nodes o) ms g)
      (written-shallow d r (drop (nodes p) ns) x) (written-shallow d s (drop (nodes o) ms) y)
      (sym (append_assoc (written_at c q (d + 1) p (take (nodes p) ns)) (written_at c q (d + 1) r (drop (nodes p) ns)) x) ∙ e ∙ append_assoc (written_at c q (d + 1) o (take (nodes o) ms)) (written_at c q (d + 1) s (drop (nodes o) ms)) y) in
      let ln = length-drop (nodes p) ns in
      let lm = length-drop (nodes o) ms in
      let two = second (drop (nodes p) ns) (drop (nodes o) ms) x y tr ts (omega (arith, ln, h)) (omega (arith, lm, k)) (All-drop Fits (nodes p) ns f) (All-drop Fits (nodes o) ms g) (shallow-more d x sx) (shallow-more d y sy) one.2 in
      (one.0, two.0, sym (take-append-drop (nodes p) ns) ∙ (ap₂ (λ (a b : List CostAndRows). a ++ b) one.1 two.1 ∙ take-append-drop (nodes o) ms), two.2)

  nest-told : (d : ℕ) (p r o s : Plan) → IsTold (d + 1) p o → IsTold (d + 1) r s → IsTold d (nest p r) (nest o s)
  nest-told d p r o s first second ns ms x y tp to h k f g sx sy e =
      let A = nest p r in
      let B = nest o s in
      let n = numbers-told (first_pair ns) (first_pair ms) (written_beneath c q d A (later_pairs ns) ++ x) (written_beneath c q d B (later_pairs ms) ++ y) (first-fits A ns h f) (first-fits B ms k g)
      (ap (λ (l : List ℕ). drop 2 l) (headed d A B ns ms x y e).titles) in
      let cn = later-count A ns h in
      let cm = later-count B ms k in
      let u = both-told d p r o s (later_pairs ns) (later_pairs ms) x y first second tp.0 tp.1 to.0 to.1 (omega (arith, cn)) (omega (arith, cm)) (later-fits A ns h f) (later-fits B ms k g) sx sy n.1 in
      (ap₂ nest u.0 u.1, pairs-told A B ns ms h k n.0 u.2, u.3)

  merge-told : (d : ℕ) (ks ls : Keys) (p r o s : Plan) → IsTold (d + 1) p o → IsTold (d + 1) r s → IsTold d (merge ks p r) (merge ls o s)
  merge-told d ks ls p r o s first second ns ms x y tp to h k f g sx sy e =
      let A = merge ks p r in
      let B = merge ls o s in
      let t = keys-told (union (set_of p) (set_of r)) (union (set_of o) (set_of s)) ks ls (rest_of d A ns x) (rest_of d B ms y) tp.2 to.2 (headed d A B ns ms x y e).titles in
      let n = numbers-told (first_pair ns) (first_pair ms) (written_beneath c q d A (later_pairs ns) ++ x) (written_beneath c q d B (later_pairs ms) ++ y) (first-fits A ns h f) (first-fits B ms k g) t.1 in
      let cn = later-count A ns h in
      let cm = later-count B ms k in
      let u = both-told d p r o s (later_pairs ns) (later_pairs ms) x y first second tp.0 tp.1 to.0 to.1 (omega (arith, cn)) (omega (arith, cm)) (later-fits A ns h f) (later-fits B ms k g) sx sy n.1 in
      ((λ z. merge (t.0 z) (u.0 z) (u.1 z)), pairs-told A B ns ms h k n.0 u.2, u.3)

  -- where the kinds are the same, so are the plans
  of-kind : (p o : Plan) (d : ℕ) → (kind_of o ≡ kind_of p → IsTold d p o) → IsTold d p o
  of-kind p o d told ns ms x y tp to h k f g sx sy e = told (sym (headed d p o ns ms x y e).kind) ns ms x y tp to h k f g sx sy e

  plans-told : (p o : Plan) (d : ℕ) → IsTold d p o
  plans-told (seq r) o d = of-kind (seq r) o d (at-seq (IsTold d (seq r)) (λ s. seq-told d r s) o)
  plans-told (index r i a p) o d = of-kind (index r i a p) o d (at-index (IsTold d (index r i a p)) (λ s j b z. index-told d r s i j a b p z) o)
  plans-told (index_only r i a p) o d = of-kind (index_only r i a p) o d (at-index-only (IsTold d (index_only r i a p)) (λ s j b z. index-only-told d r s i j a b p z) o)
  plans-told (bitmap r p a) o d = of-kind (bitmap r p a) o d (at-bitmap (IsTold d (bitmap r p a)) (λ s z b. bitmap-told d r s p z a b) o)
  plans-told (sort ks p) o d = of-kind (sort ks p) o d (at-sort (IsTold d (sort ks p)) (λ ls z. sort-told d ks ls p z (plans-told p z (d + 1))) o)
  plans-told (nest p r) o d = of-kind (nest p r) o d (at-nest (IsTold d (nest p r)) (λ z s. nest-told d p r z s (plans-told p z (d + 1)) (plans-told r s (d + 1))) o)
  plans-told (merge ks p r) o d = of-kind (merge ks p r) o d (at-merge (IsTold d (merge ks p r)) (λ ls z s. merge-told d ks ls p r z s (plans-told p z (d + 1)) (plans-told r s (d + 1))) o)

pub one-plan : (c : Contents) (q : Query) (block : List ℕ) (p o : Plan) (ns ms : List CostAndRows) → IsLawful c → IsWellBound c q → IsWritten c q block p ns → IsWritten c q block o ms → (p ≡ o) × (ns ≡ ms)
one-plan c q block p o ns ms lawful bound w v =
    let r = plans-told c q lawful bound p o 0 ns ms [] [] w.text v.text w.count v.count w.fits v.fits (shallow-end 0) (shallow-end 0)
    (append-nil (written_text c q p ns) ∙ (sym w.written ∙ v.written) ∙ sym (append-nil (written_text c q o ms))) in
    (r.0, r.1)
