-- Two entries, and two certificates, have different texts.
use Rattle.std.proofs.Common.{◌≡◌, ◌≢◌, ◌<◌, ◌+◌, ◌==◌, ℕ, Bool, true, false, not, cond, List, [], ◌∷◌, ◌++◌, codes, get_or, drop, length, map, All, Option, Some, None, refl, sym, ap, ap₂, subst, ◌∙◌, append_assoc, arith}
use Rattle.std.specs.Prelude.{slice_get}
use Rattle.std.specs.Char.{is_ascii_digit}
use Rattle.std.specs.Fmt.{decimal}
use Rattle.std.proofs.lemmas.Bool.{and_parts, true≢false}
use Rattle.std.proofs.lemmas.Bool.Decides.{nat_tests}
use Rattle.std.proofs.lemmas.Fmt.{decimal_injective}
use Rattle.std.proofs.lemmas.List.{append_cancel_left}
use Rattle.std.proofs.lemmas.List.Elements.{All-head, All-tail}
use Rattle.pg_base.specs.Names.{IsName}
use Rattle.pg_base.specs.Sets.{has}
use Rattle.pg_base.specs.declared.numbers.IndexNo.{IndexNo}
use Rattle.pg_base.specs.declared.rel_set.RelSet.{RelSet}
use Rattle.pg_base.proofs.NameLemmas.{decimal-word, name-word}
use Rattle.pg_expr.specs.declared.operand.ColRef.{ColRef}
use Rattle.catalog.specs.Contents.{Contents, IsIndex, IsLawful, index_name_at}
use Rattle.cost_rules.specs.Costs.{pair}
use Rattle.eq_classes.specs.Clauses.{Set, first_in}
use Rattle.eq_classes.specs.Listing.{class_at}
use Rattle.sql_query.specs.Queries.{Query}
use Rattle.sql_query.specs.WellBound.{IsWellBound}
use Rattle.sql_query.specs.declared.window.Window.{Window}
use Rattle.pathkeys.specs.Keys.{Keys}
use Rattle.plan_tree.specs.Plans.{BitTree, leaf, all_hold, some_arm, BitTrees, no_trees, tree_and, is_empty}
use Rattle.explain.specs.Texts.{aliases_in, conjunct_by, cost_text, key_text, keys_text, number_text, with_commas}
use Rattle.explain_laws.proofs.ClassLemmas.{AreShownKeys, IsNext, begins_family, key-begins, key-split}
use Rattle.explain_laws.proofs.NameLemmas.{aliases-names, index-name, index-same}
use Rattle.explain_laws.proofs.ParamLemmas.{IsOfQuery, params-same}
use Rattle.explain_laws.proofs.SplitLemmas.{Names, split, stops}
use Rattle.plan_check.specs.Certificates.{Certificate, Entry, Node, Side, by_bitmap, by_index, by_index_only, by_merge, by_nest, by_seq}
use Rattle.certificate_text.specs.HasText.{HasEntryLine, HasKeysText, HasNodeText, HasStartup, HasText, HasElementText, HaveElementTexts, HasBitsText, IsEntryNumber, IsSetOf, IsWritable}
use Rattle.certificate_text.specs.Texts.{alias_list, best_line, certificate_text, ended, entries_text, entry_line, entry_text, head_text, leaf_text, leaf_texts, measures_text, node_text, param_text, set_text, side_text, sides_text, tree_text, tree_texts, with_bare_commas}
use Rattle.certificate_entries.specs.work.Keys.{ends_key}
use Rattle.certificate_entries.specs.work.Scans.{scan_text}
use Rattle.certificate_entries.proofs.ClauseLemmas.{conjunct-once, conjunct-small}
use Rattle.certificate_entries.proofs.NodeLemmas.{ends-sides}
use Rattle.certificate_entries.proofs.NumberLemmas.{number-begins}
use Rattle.statements.specs.certificate_reader_work_Reading.{AreOnly}
use Rattle.statements.specs.certificate_reader_PlainLemmas.{plain-line}
use Rattle.statements.specs.certificate_reader_ReadingLemmas.{same-entries}

-- numbers
decimal-split : (m n : ℕ) (s t : List ℕ) → IsWritable m → IsWritable n → stops s ≡ true → stops t ≡ true → decimal m ++ s ≡ decimal n ++ t → (m ≡ n) × (s ≡ t)
decimal-split m n s t lm ln hs ht e =
    let p = split (decimal m) (decimal n) s t (decimal-word m) (decimal-word n) hs ht e in
    (decimal_injective m n (omega (arith, lm)) (omega (arith, ln)) p.0, p.1)

writable : (n : ℕ) → IsEntryNumber n → IsWritable n
writable n h = omega (arith, h)

-- aliases in a row, up to `}`
stops-bare : (xs : List (List ℕ)) (s : List ℕ) → stops (with_bare_commas (codes ",") xs ++ 125 ∷ s) ≡ true
stops-bare [] s = refl
stops-bare (x ∷ xs) s = refl

bare-split : (us vs : List (List ℕ)) (s t : List ℕ) → Names us → Names vs → with_bare_commas (codes ",") us ++ 125 ∷ s ≡ with_bare_commas (codes ",") vs ++ 125 ∷ t → (us ≡ vs) × (s ≡ t)
bare-split [] [] s t hu hv e = (refl, ap (λ (l : List ℕ). drop 1 l) e)
bare-split [] (v ∷ vs) s t hu hv e = let bad : 125 ≡ 44 = ap (λ (l : List ℕ). get_or l 0 0) e in absurd (omega (arith, bad))
bare-split (u ∷ us) [] s t hu hv e = let bad : 44 ≡ 125 = ap (λ (l : List ℕ). get_or l 0 0) e in absurd (omega (arith, bad))
bare-split (u ∷ us) (v ∷ vs) s t hu hv e =
    let W = with_bare_commas (codes ",") us in
    let V = with_bare_commas (codes ",") vs in
    let one : (u ++ W) ++ 125 ∷ s ≡ (v ++ V) ++ 125 ∷ t = ap (λ (l : List ℕ). drop 1 l) e in
    let p = split u v (W ++ 125 ∷ s) (V ++ 125 ∷ t) (name-word u hu.0) (name-word v hv.0) (stops-bare us s) (stops-bare vs t) (sym (append_assoc u W (125 ∷ s)) ∙ one ∙ append_assoc v V (125 ∷ t)) in
    let more = bare-split us vs s t hu.1 hv.1 p.1 in
    (ap₂ (λ (x : List ℕ) (xs : List (List ℕ)). x ∷ xs) p.0 more.0, more.1)

no-name : (v : List ℕ) → [] ≡ v → IsName v → ⊥
no-name v e h = subst IsName (sym e) h

first-split : (us vs : List (List ℕ)) (s t : List ℕ) → Names us → Names vs → with_bare_commas [] us ++ 125 ∷ s ≡ with_bare_commas [] vs ++ 125 ∷ t → (us ≡ vs) × (s ≡ t)
first-split [] [] s t hu hv e = (refl, ap (λ (l : List ℕ). drop 1 l) e)
first-split [] (v ∷ vs) s t hu hv e =
    let V = with_bare_commas (codes ",") vs in
    absurd (no-name v (split [] v (125 ∷ s) (V ++ 125 ∷ t) refl (name-word v hv.0) refl (stops-bare vs t) (e ∙ append_assoc v V (125 ∷ t))).0 hv.0)
first-split (u ∷ us) [] s t hu hv e =
    let W = with_bare_commas (codes ",") us in
    absurd (no-name u (split [] u (125 ∷ t) (W ++ 125 ∷ s) refl (name-word u hu.0) refl (stops-bare us s) (sym e ∙ append_assoc u W (125 ∷ s))).0 hu.0)
first-split (u ∷ us) (v ∷ vs) s t hu hv e =
    let W = with_bare_commas (codes ",") us in
    let V = with_bare_commas (codes ",") vs in
    let p = split u v (W ++ 125 ∷ s) (V ++ 125 ∷ t) (name-word u hu.0) (name-word v hv.0) (stops-bare us s) (stops-bare vs t) (sym (append_assoc u W (125 ∷ s)) ∙ e ∙ append_assoc v V (125 ∷ t)) in
    let more = bare-split us vs s t hu.1 hv.1 p.1 in
    (ap₂ (λ (x : List ℕ) (xs : List (List ℕ)). x ∷ xs) p.0 more.0, more.1)

-- a set has no relation past the query's
outside : (q : Query) (s : RelSet) → IsSetOf q (has s.0) → IsOfQuery q s
outside q s is k le = by (has s.0 k) refl
  where
    by : (b : Bool) → has s.0 k ≡ b → has s.0 k ≡ false
    by false h = h
    by true h = let lt = is k h in absurd (omega (arith, le, lt))

-- what goes on no key may stand behind one
next-is : (s : List ℕ) → ends_key s ≡ true → IsNext s
next-is s h =
    let parts = and_parts (stops s) (not (begins_family s)) h in
    record { stops_name = parts.0; no_family = by (begins_family s) parts.1 }
  where
    by : (b : Bool) → not b ≡ true → b ≡ false
    by true e = absurd (true≢false (sym e))
    by false e = refl

some-first : (o : Option ColRef) → ¬ (o ≡ None) → (x : ColRef) × (o ≡ Some x)
some-first None h = absurd (h refl)
some-first (Some x) h = (x, refl)

some-number : (o : Option ℕ) → ¬ (o ≡ None) → (n : ℕ) × (o ≡ Some n)
some-number None h = absurd (h refl)
some-number (Some n) h = (n, refl)

shown-each : (q : Query) (s : Set) (keys : Keys) → All (λ n. n < length q.classes.classes) keys → All (λ n. ¬ (first_in (class_at q.classes.classes n) s ≡ None)) keys → AreShownKeys q s keys
shown-each q s [] low some = tt
shown-each q s (n ∷ ns) low some =
    let Low : ℕ → Type 0 = λ m. m < length q.classes.classes in
    let Has : ℕ → Type 0 = λ m. ¬ (first_in (class_at q.classes.classes m) s ≡ None) in
    let x = some-first (first_in (class_at q.classes.classes n) s) (All-head Has n ns some) in
    (record { low = All-head Low n ns low; member = x.0; first = x.1 }, shown-each q s ns (All-tail Low n ns low) (All-tail Has n ns some))

module _ (c : Contents) (q : Query) (lawful : IsLawful c) (bound : IsWellBound c q) where
  set-split : (a b : RelSet) (s t : List ℕ) → IsSetOf q (has a.0) → IsSetOf q (has b.0) → set_text q a ++ s ≡ set_text q b ++ t → (a ≡ b) × (s ≡ t)
  set-split a b s t ha hb e =
      let A = alias_list q (has a.0) in
      let B = alias_list q (has b.0) in
      let one : (A ++ codes "}") ++ s ≡ (B ++ codes "}") ++ t = ap (λ (l : List ℕ). drop 1 l) e in
      let p = first-split (aliases_in 0 (has a.0) q.range) (aliases_in 0 (has b.0) q.range) s t
      (aliases-names 0 (has a.0) q.range bound.range.names) (aliases-names 0 (has b.0) q.range bound.range.names)
      (sym (append_assoc A (codes "}") s) ∙ one ∙ append_assoc B (codes "}") t) in
      (params-same c q bound a b (outside q a ha) (outside q b hb) p.0, p.1)

  empty-is : (p : RelSet) → is_empty p ≡ true → p.0 ≡ 0
  empty-is p h = grind (arith, nat_tests)

  param-by : (a b : RelSet) (x y : Bool) (s t : List ℕ) → is_empty a ≡ x → is_empty b ≡ y → IsSetOf q (has a.0) → IsSetOf q (has b.0) → get_or s 0 0 ≢ 102 → get_or t 0 0 ≢ 102 →
      cond x [] (codes " for " ++ set_text q a) ++ 32 ∷ s ≡ cond y [] (codes " for " ++ set_text q b) ++ 32 ∷ t → (a ≡ b) × (s ≡ t)
  param-by a b true true s t ea eb ha hb ns nt e =
      let zero-a = empty-is a ea in
      let zero-b = empty-is b eb in
      (ap (λ (n : ℕ). let x : RelSet = record { 0 = n } in x) (zero-a ∙ sym zero-b), ap (λ (l : List ℕ). drop 1 l) e)
  param-by a b true false s t ea eb ha hb ns nt e = absurd (ns (ap (λ (l : List ℕ). get_or l 1 0) e))
  param-by a b false true s t ea eb ha hb ns nt e = absurd (nt (sym (ap (λ (l : List ℕ). get_or l 1 0) e)))
  param-by a b false false s t ea eb ha hb ns nt e =
      let p = set-split a b (32 ∷ s) (32 ∷ t) ha hb (ap (λ (l : List ℕ). drop 5 l) e) in
      (p.0, ap (λ (l : List ℕ). drop 1 l) p.1)

  next-key : (set : Set) (ks : Keys) (s : List ℕ) → ends_key s ≡ true → ends_key (with_commas (codes ", ") (map (key_text c q set) ks) ++ s) ≡ true
  next-key set [] s h = h
  next-key set (k ∷ ks) s h = refl

  more-keys : (set : Set) (ks ls : Keys) (s t : List ℕ) → AreShownKeys q set ks → AreShownKeys q set ls → ends_key s ≡ true → ends_key t ≡ true → get_or s 0 0 ≢ 44 → get_or t 0 0 ≢ 44 →
      with_commas (codes ", ") (map (key_text c q set) ks) ++ s ≡ with_commas (codes ", ") (map (key_text c q set) ls) ++ t → (ks ≡ ls) × (s ≡ t)
  more-keys set [] [] s t h g hs ht ns nt e = (refl, e)
  more-keys set [] (l ∷ ls) s t h g hs ht ns nt e = absurd (ns (ap (λ (z : List ℕ). get_or z 0 0) e))
  more-keys set (k ∷ ks) [] s t h g hs ht ns nt e = absurd (nt (sym (ap (λ (z : List ℕ). get_or z 0 0) e)))
  more-keys set (k ∷ ks) (l ∷ ls) s t h g hs ht ns nt e =
      let A = with_commas (codes ", ") (map (key_text c q set) ks) in
      let B = with_commas (codes ", ") (map (key_text c q set) ls) in
      let one : (key_text c q set k ++ A) ++ s ≡ (key_text c q set l ++ B) ++ t = ap (λ (z : List ℕ). drop 2 z) e in
      let two = key-split c q lawful bound set set k l h.0 g.0 (A ++ s) (B ++ t) (next-is (A ++ s) (next-key set ks s hs)) (next-is (B ++ t) (next-key set ls t ht)) (sym (append_assoc (key_text c q set k) A s) ∙ one ∙ append_assoc (key_text c q set l) B t) in
      let rest = more-keys set ks ls s t h.1 g.1 hs ht ns nt two.1 in
      (ap₂ (λ (j : ℕ) (js : List ℕ). j ∷ js) two.0 rest.0, rest.1)

  keys-split : (set : Set) (ks ls : Keys) (s t : List ℕ) → AreShownKeys q set ks → AreShownKeys q set ls → ends_key s ≡ true → ends_key t ≡ true → get_or s 0 0 ≢ 44 → get_or t 0 0 ≢ 44 →
      keys_text c q set ks ++ s ≡ keys_text c q set ls ++ t → (ks ≡ ls) × (s ≡ t)
  keys-split set [] [] s t h g hs ht ns nt e = (refl, e)
  keys-split set [] (l ∷ ls) s t h g hs ht ns nt e =
      let B = with_commas (codes ", ") (map (key_text c q set) ls) in
      absurd (key-begins c q lawful bound set l s (B ++ t) g.0 (next-is s hs).stops_name (e ∙ append_assoc (key_text c q set l) B t))
  keys-split set (k ∷ ks) [] s t h g hs ht ns nt e =
      let A = with_commas (codes ", ") (map (key_text c q set) ks) in
      absurd (key-begins c q lawful bound set k t (A ++ s) h.0 (next-is t ht).stops_name (sym e ∙ append_assoc (key_text c q set k) A s))
  keys-split set (k ∷ ks) (l ∷ ls) s t h g hs ht ns nt e =
      let A = with_commas (codes ", ") (map (key_text c q set) ks) in
      let B = with_commas (codes ", ") (map (key_text c q set) ls) in
      let two = key-split c q lawful bound set set k l h.0 g.0 (A ++ s) (B ++ t) (next-is (A ++ s) (next-key set ks s hs)) (next-is (B ++ t) (next-key set ls t ht)) (sym (append_assoc (key_text c q set k) A s) ∙ e ∙ append_assoc (key_text c q set l) B t) in
      let rest = more-keys set ks ls s t h.1 g.1 hs ht ns nt two.1 in
      (ap₂ (λ (j : ℕ) (js : List ℕ). j ∷ js) two.0 rest.0, rest.1)

  -- an index by its name
  index-split : (i j : IndexNo) (s t : List ℕ) → IsIndex c i → IsIndex c j → stops s ≡ true → stops t ≡ true → index_name_at c i ++ s ≡ index_name_at c j ++ t → (i ≡ j) × (s ≡ t)
  index-split i j s t hi hj hs ht e =
      let p = split (index_name_at c i) (index_name_at c j) s t (name-word (index_name_at c i) (index-name c lawful i hi)) (name-word (index_name_at c j) (index-name c lawful j hj)) hs ht e in
      (index-same c lawful i j hi hj p.0, p.1)

  leaf-split : (i j : IndexNo) (s t : List ℕ) → IsIndex c i → IsIndex c j → stops s ≡ true → stops t ≡ true → leaf_text c i ++ s ≡ leaf_text c j ++ t → (i ≡ j) × (s ≡ t)
  leaf-split i j s t hi hj hs ht e = index-split i j s t hi hj hs ht (ap (λ (l : List ℕ). drop 6 l) e)

  stops-list : (xs : List (List ℕ)) (s : List ℕ) → stops (with_commas (codes ", ") xs ++ 41 ∷ s) ≡ true
  stops-list [] s = refl
  stops-list (x ∷ xs) s = refl

  leaves-more : (is js : List IndexNo) (s t : List ℕ) → All (IsIndex c) is → All (IsIndex c) js → with_commas (codes ", ") (map (leaf_text c) is) ++ 41 ∷ s ≡ with_commas (codes ", ") (map (leaf_text c) js) ++ 41 ∷ t → (is ≡ js) × (s ≡ t)
  leaves-more [] [] s t h g e = (refl, ap (λ (l : List ℕ). drop 1 l) e)
  leaves-more [] (j ∷ js) s t h g e = let bad : 41 ≡ 44 = ap (λ (l : List ℕ). get_or l 0 0) e in absurd (omega (arith, bad))
  leaves-more (i ∷ is) [] s t h g e = let bad : 44 ≡ 41 = ap (λ (l : List ℕ). get_or l 0 0) e in absurd (omega (arith, bad))
  leaves-more (i ∷ is) (j ∷ js) s t h g e =
      let A = with_commas (codes ", ") (map (leaf_text c) is) in
      let B = with_commas (codes ", ") (map (leaf_text c) js) in
      let one : (leaf_text c i ++ A) ++ 41 ∷ s ≡ (leaf_text c j ++ B) ++ 41 ∷ t = ap (λ (l : List ℕ). drop 2 l) e in
      let p = leaf-split i j (A ++ 41 ∷ s) (B ++ 41 ∷ t) (All-head (IsIndex c) i is h) (All-head (IsIndex c) j js g) (stops-list (map (leaf_text c) is) s) (stops-list (map (leaf_text c) js) t)
      (sym (append_assoc (leaf_text c i) A (41 ∷ s)) ∙ one ∙ append_assoc (leaf_text c j) B (41 ∷ t)) in
      let more = leaves-more is js s t (All-tail (IsIndex c) i is h) (All-tail (IsIndex c) j js g) p.1 in
      (ap₂ (λ (x : IndexNo) (xs : List IndexNo). x ∷ xs) p.0 more.0, more.1)

  leaves-split : (is js : List IndexNo) (s t : List ℕ) → All (IsIndex c) is → All (IsIndex c) js → leaf_texts c is ++ 41 ∷ s ≡ leaf_texts c js ++ 41 ∷ t → (is ≡ js) × (s ≡ t)
  leaves-split [] [] s t h g e = (refl, ap (λ (l : List ℕ). drop 1 l) e)
  leaves-split [] (j ∷ js) s t h g e = let bad : 41 ≡ 73 = ap (λ (l : List ℕ). get_or l 0 0) e in absurd (omega (arith, bad))
  leaves-split (i ∷ is) [] s t h g e = let bad : 73 ≡ 41 = ap (λ (l : List ℕ). get_or l 0 0) e in absurd (omega (arith, bad))
  leaves-split (i ∷ is) (j ∷ js) s t h g e =
      let A = with_commas (codes ", ") (map (leaf_text c) is) in
      let B = with_commas (codes ", ") (map (leaf_text c) js) in
      let p = leaf-split i j (A ++ 41 ∷ s) (B ++ 41 ∷ t) (All-head (IsIndex c) i is h) (All-head (IsIndex c) j js g) (stops-list (map (leaf_text c) is) s) (stops-list (map (leaf_text c) js) t)
      (sym (append_assoc (leaf_text c i) A (41 ∷ s)) ∙ e ∙ append_assoc (leaf_text c j) B (41 ∷ t)) in
      let more = leaves-more is js s t (All-tail (IsIndex c) i is h) (All-tail (IsIndex c) j js g) p.1 in
      (ap₂ (λ (x : IndexNo) (xs : List IndexNo). x ∷ xs) p.0 more.0, more.1)

  -- an OR by its conjunct and its indexes
  or-is : (n k : ℕ) (is : List IndexNo) (s : List ℕ) → conjunct_by (slice_get q.classes.clauses n) ≡ Some k → tree_text c q (some_arm n is) ++ s ≡ codes "Or " ++ (decimal k ++ 40 ∷ (leaf_texts c is ++ 41 ∷ s))
  or-is n k is s at =
      ap (λ (o : Option ℕ). (codes "Or " ++ (number_text o ++ (codes "(" ++ (leaf_texts c is ++ codes ")")))) ++ s) at
      ∙ append_assoc (codes "Or ") (decimal k ++ (codes "(" ++ (leaf_texts c is ++ codes ")"))) s
      ∙ ap (λ (l : List ℕ). codes "Or " ++ l) (append_assoc (decimal k) (codes "(" ++ (leaf_texts c is ++ codes ")")) s
      ∙ ap (λ (l : List ℕ). decimal k ++ 40 ∷ l) (append_assoc (leaf_texts c is) (codes ")") s))

  or-split : (n m : ℕ) (is js : List IndexNo) (s t : List ℕ) → HasElementText c q (some_arm n is) → HasElementText c q (some_arm m js) → tree_text c q (some_arm n is) ++ s ≡ tree_text c q (some_arm m js) ++ t →
      (some_arm n is ≡ some_arm m js) × (s ≡ t)
  or-split n m is js s t h g e =
      let x = some-number (conjunct_by (slice_get q.classes.clauses n)) h.0 in
      let y = some-number (conjunct_by (slice_get q.classes.clauses m)) g.0 in
      let whole = sym (or-is n x.0 is s x.1) ∙ e ∙ or-is m y.0 js t y.1 in
      let p = decimal-split x.0 y.0 (40 ∷ (leaf_texts c is ++ 41 ∷ s)) (40 ∷ (leaf_texts c js ++ 41 ∷ t)) (conjunct-small c q bound n x.0 x.1) (conjunct-small c q bound m y.0 y.1) refl refl (ap (λ (l : List ℕ). drop 3 l) whole) in
      let number = conjunct-once c q bound n m y.0 (x.1 ∙ ap Some p.0) y.1 in
      let r = leaves-split is js s t h.1 g.1 (ap (λ (l : List ℕ). drop 1 l) p.1) in
      (ap₂ (λ (k : ℕ) (ks : List IndexNo). some_arm k ks) number r.0, r.1)

  element-split : (a b : BitTree) (s t : List ℕ) → HasElementText c q a → HasElementText c q b → stops s ≡ true → stops t ≡ true → tree_text c q a ++ s ≡ tree_text c q b ++ t → (a ≡ b) × (s ≡ t)
  element-split (leaf i) (leaf j) s t h g hs ht e = let p = leaf-split i j s t h g hs ht e in (ap leaf p.0, p.1)
  element-split (leaf i) (some_arm m js) s t h g hs ht e = let bad : 73 ≡ 79 = ap (λ (l : List ℕ). get_or l 0 0) e in absurd (omega (arith, bad))
  element-split (leaf i) (all_hold bs) s t h g hs ht e = absurd g
  element-split (some_arm n is) (leaf j) s t h g hs ht e = let bad : 79 ≡ 73 = ap (λ (l : List ℕ). get_or l 0 0) e in absurd (omega (arith, bad))
  element-split (some_arm n is) (some_arm m js) s t h g hs ht e = or-split n m is js s t h g e
  element-split (some_arm n is) (all_hold bs) s t h g hs ht e = absurd g
  element-split (all_hold us) b s t h g hs ht e = absurd h

  trees-more : (us bs : BitTrees) (s t : List ℕ) → HaveElementTexts c q us → HaveElementTexts c q bs → with_commas (codes ", ") (tree_texts c q us) ++ 41 ∷ s ≡ with_commas (codes ", ") (tree_texts c q bs) ++ 41 ∷ t → (us ≡ bs) × (s ≡ t)
  trees-more no_trees no_trees s t h g e = (refl, ap (λ (l : List ℕ). drop 1 l) e)
  trees-more no_trees (tree_and b bs) s t h g e = let bad : 41 ≡ 44 = ap (λ (l : List ℕ). get_or l 0 0) e in absurd (omega (arith, bad))
  trees-more (tree_and a us) no_trees s t h g e = let bad : 44 ≡ 41 = ap (λ (l : List ℕ). get_or l 0 0) e in absurd (omega (arith, bad))
  trees-more (tree_and a us) (tree_and b bs) s t h g e =
      let A = with_commas (codes ", ") (tree_texts c q us) in
      let B = with_commas (codes ", ") (tree_texts c q bs) in
      let one : (tree_text c q a ++ A) ++ 41 ∷ s ≡ (tree_text c q b ++ B) ++ 41 ∷ t = ap (λ (l : List ℕ). drop 2 l) e in
      let p = element-split a b (A ++ 41 ∷ s) (B ++ 41 ∷ t) h.0 g.0 (stops-list (tree_texts c q us) s) (stops-list (tree_texts c q bs) t)
      (sym (append_assoc (tree_text c q a) A (41 ∷ s)) ∙ one ∙ append_assoc (tree_text c q b) B (41 ∷ t)) in
      let more = trees-more us bs s t h.1 g.1 p.1 in
      (ap₂ (λ (x : BitTree) (xs : BitTrees). tree_and x xs) p.0 more.0, more.1)

  -- no element's text begins with `)`
  element-begins : (a : BitTree) (s : List ℕ) → HasElementText c q a → get_or (tree_text c q a ++ s) 0 0 ≢ 41
  element-begins (leaf i) s h e = let bad : 73 ≡ 41 = e in omega (arith, bad)
  element-begins (some_arm n is) s h e = let bad : 79 ≡ 41 = e in omega (arith, bad)
  element-begins (all_hold bs) s h e = h

  trees-split : (us bs : BitTrees) (s t : List ℕ) → HaveElementTexts c q us → HaveElementTexts c q bs → with_commas [] (tree_texts c q us) ++ 41 ∷ s ≡ with_commas [] (tree_texts c q bs) ++ 41 ∷ t → (us ≡ bs) × (s ≡ t)
  trees-split no_trees no_trees s t h g e = (refl, ap (λ (l : List ℕ). drop 1 l) e)
  trees-split no_trees (tree_and b bs) s t h g e =
      let B = with_commas (codes ", ") (tree_texts c q bs) in
      absurd (element-begins b (B ++ 41 ∷ t) g.0 (sym (ap (λ (l : List ℕ). get_or l 0 0) (e ∙ append_assoc (tree_text c q b) B (41 ∷ t)))))
  trees-split (tree_and a us) no_trees s t h g e =
      let A = with_commas (codes ", ") (tree_texts c q us) in
      absurd (element-begins a (A ++ 41 ∷ s) h.0 (sym (ap (λ (l : List ℕ). get_or l 0 0) (sym e ∙ append_assoc (tree_text c q a) A (41 ∷ s)))))
  trees-split (tree_and a us) (tree_and b bs) s t h g e =
      let A = with_commas (codes ", ") (tree_texts c q us) in
      let B = with_commas (codes ", ") (tree_texts c q bs) in
      let p = element-split a b (A ++ 41 ∷ s) (B ++ 41 ∷ t) h.0 g.0 (stops-list (tree_texts c q us) s) (stops-list (tree_texts c q bs) t)
      (sym (append_assoc (tree_text c q a) A (41 ∷ s)) ∙ e ∙ append_assoc (tree_text c q b) B (41 ∷ t)) in
      let more = trees-more us bs s t h.1 g.1 p.1 in
      (ap₂ (λ (x : BitTree) (xs : BitTrees). tree_and x xs) p.0 more.0, more.1)

  bits-split : (a b : BitTree) (s t : List ℕ) → HasBitsText c q a → HasBitsText c q b → stops s ≡ true → stops t ≡ true → tree_text c q a ++ s ≡ tree_text c q b ++ t → (a ≡ b) × (s ≡ t)
  bits-split (leaf i) (leaf j) s t h g hs ht e = element-split (leaf i) (leaf j) s t h g hs ht e
  bits-split (leaf i) (some_arm m js) s t h g hs ht e = element-split (leaf i) (some_arm m js) s t h g hs ht e
  bits-split (leaf i) (all_hold bs) s t h g hs ht e = let bad : 73 ≡ 65 = ap (λ (l : List ℕ). get_or l 0 0) e in absurd (omega (arith, bad))
  bits-split (some_arm n is) (leaf j) s t h g hs ht e = element-split (some_arm n is) (leaf j) s t h g hs ht e
  bits-split (some_arm n is) (some_arm m js) s t h g hs ht e = element-split (some_arm n is) (some_arm m js) s t h g hs ht e
  bits-split (some_arm n is) (all_hold bs) s t h g hs ht e = let bad : 79 ≡ 65 = ap (λ (l : List ℕ). get_or l 0 0) e in absurd (omega (arith, bad))
  bits-split (all_hold us) (leaf j) s t h g hs ht e = let bad : 65 ≡ 73 = ap (λ (l : List ℕ). get_or l 0 0) e in absurd (omega (arith, bad))
  bits-split (all_hold us) (some_arm m js) s t h g hs ht e = let bad : 65 ≡ 79 = ap (λ (l : List ℕ). get_or l 0 0) e in absurd (omega (arith, bad))
  bits-split (all_hold us) (all_hold bs) s t h g hs ht e =
      let A = with_commas [] (tree_texts c q us) in
      let B = with_commas [] (tree_texts c q bs) in
      let one : (A ++ codes ")") ++ s ≡ (B ++ codes ")") ++ t = ap (λ (l : List ℕ). drop 4 l) e in
      let p = trees-split us bs s t h.1 g.1 (sym (append_assoc A (codes ")") s) ∙ one ∙ append_assoc B (codes ")") t) in
      (ap all_hold p.0, p.1)

  -- an index and a direction
  scan-by : (i j : IndexNo) (x y : Bool) (s t : List ℕ) → IsIndex c i → IsIndex c j → stops s ≡ true → stops t ≡ true → scan_text c (i, x) ++ s ≡ scan_text c (j, y) ++ t → ((i ≡ j) × (x ≡ y)) × (s ≡ t)
  scan-by i j true true s t hi hj hs ht e = let p = index-split i j s t hi hj hs ht (ap (λ (l : List ℕ). drop 16 l) e) in ((p.0, refl), p.1)
  scan-by i j true false s t hi hj hs ht e = let bad : 66 ≡ 117 = ap (λ (l : List ℕ). get_or l 1 0) e in absurd (omega (arith, bad))
  scan-by i j false true s t hi hj hs ht e = let bad : 117 ≡ 66 = ap (λ (l : List ℕ). get_or l 1 0) e in absurd (omega (arith, bad))
  scan-by i j false false s t hi hj hs ht e = let p = index-split i j s t hi hj hs ht (ap (λ (l : List ℕ). drop 7 l) e) in ((p.0, refl), p.1)

-- a side
digit-no : (n : ℕ) (s : List ℕ) → IsEntryNumber n → 115 ≡ get_or (decimal n ++ s) 0 0 → ⊥
digit-no n s h e = true≢false (sym (number-begins n s h) ∙ sym (ap is_ascii_digit e))

side-by : (a b : Side) (x y : Bool) (s t : List ℕ) → a.sorted ≡ x → b.sorted ≡ y → IsEntryNumber a.entry → IsEntryNumber b.entry → stops s ≡ true → stops t ≡ true →
    (cond x (codes "sort ") [] ++ decimal a.entry) ++ s ≡ (cond y (codes "sort ") [] ++ decimal b.entry) ++ t → (a ≡ b) × (s ≡ t)
side-by a b true true s t ea eb ha hb hs ht e =
    let p = decimal-split a.entry b.entry s t (writable a.entry ha) (writable b.entry hb) hs ht (ap (λ (l : List ℕ). drop 5 l) e) in
    (ap₂ (λ (o : Bool) (n : ℕ). let z : Side = record { sorted = o; entry = n } in z) (ea ∙ sym eb) p.0, p.1)
side-by a b true false s t ea eb ha hb hs ht e = absurd (digit-no b.entry t hb (ap (λ (l : List ℕ). get_or l 0 0) e))
side-by a b false true s t ea eb ha hb hs ht e = absurd (digit-no a.entry s ha (sym (ap (λ (l : List ℕ). get_or l 0 0) e)))
side-by a b false false s t ea eb ha hb hs ht e =
    let p = decimal-split a.entry b.entry s t (writable a.entry ha) (writable b.entry hb) hs ht e in
    (ap₂ (λ (o : Bool) (n : ℕ). let z : Side = record { sorted = o; entry = n } in z) (ea ∙ sym eb) p.0, p.1)

side-split : (a b : Side) (s t : List ℕ) → IsEntryNumber a.entry → IsEntryNumber b.entry → stops s ≡ true → stops t ≡ true → side_text a ++ s ≡ side_text b ++ t → (a ≡ b) × (s ≡ t)
side-split a b s t ha hb hs ht e = side-by a b a.sorted b.sorted s t refl refl ha hb hs ht e

sides-split : (a b x y : Side) (s t : List ℕ) → IsEntryNumber a.entry → IsEntryNumber b.entry → IsEntryNumber x.entry → IsEntryNumber y.entry → stops s ≡ true → stops t ≡ true → sides_text a b ++ s ≡ sides_text x y ++ t →
    ((a ≡ x) × (b ≡ y)) × (s ≡ t)
sides-split a b x y s t ha hb hx hy hs ht e =
    let one : (side_text a ++ (codes " " ++ side_text b)) ++ s ≡ (side_text x ++ (codes " " ++ side_text y)) ++ t = ap (λ (l : List ℕ). drop 1 l) e in
    let p = side-split a x ((codes " " ++ side_text b) ++ s) ((codes " " ++ side_text y) ++ t) ha hx refl refl (sym (append_assoc (side_text a) (codes " " ++ side_text b) s) ∙ one ∙ append_assoc (side_text x) (codes " " ++ side_text y) t) in
    let r = side-split b y s t hb hy hs ht (ap (λ (l : List ℕ). drop 1 l) p.1) in
    ((p.0, r.0), r.1)

nest-split : (a b x y : ℕ) (s t : List ℕ) → IsEntryNumber a → IsEntryNumber b → IsEntryNumber x → IsEntryNumber y → stops s ≡ true → stops t ≡ true →
    (decimal a ++ (codes " " ++ decimal b)) ++ s ≡ (decimal x ++ (codes " " ++ decimal y)) ++ t → ((a ≡ x) × (b ≡ y)) × (s ≡ t)
nest-split a b x y s t ha hb hx hy hs ht e =
    let p = decimal-split a x ((codes " " ++ decimal b) ++ s) ((codes " " ++ decimal y) ++ t) (writable a ha) (writable x hx) refl refl (sym (append_assoc (decimal a) (codes " " ++ decimal b) s) ∙ e ∙ append_assoc (decimal x) (codes " " ++ decimal y) t) in
    let r = decimal-split b y s t (writable b hb) (writable y hy) hs ht (ap (λ (l : List ℕ). drop 1 l) p.1) in
    ((p.0, r.0), r.1)

-- the kind of an entry by a number, and that with which a text begins
abbrev node_no : Node → ℕ
node_no by_seq = 0
node_no (by_index i b) = 1
node_no (by_index_only i b) = 2
node_no (by_bitmap t) = 3
node_no (by_nest a b) = 4
node_no (by_merge k a b) = 5

abbrev text_no : List ℕ → ℕ
text_no l = cond (get_or l 0 0 == 83) 0 (cond (get_or l 0 0 == 66) 3 (cond (get_or l 0 0 == 78) 4 (cond (get_or l 0 0 == 77) 5 (cond (get_or l 6 0 == 83) 1 2))))

text-no-is : (c : Contents) (q : Query) (set : RelSet) (x : Node) (s : List ℕ) → text_no (node_text c q set x ++ s) ≡ node_no x
text-no-is c q set by_seq s = refl
text-no-is c q set (by_index i b) s = refl
text-no-is c q set (by_index_only i b) s = refl
text-no-is c q set (by_bitmap t) s = refl
text-no-is c q set (by_nest a b) s = refl
text-no-is c q set (by_merge k a b) s = refl

module _ (c : Contents) (q : Query) (lawful : IsLawful c) (bound : IsWellBound c q) (set : RelSet) where
  merge-split : (k1 k2 : Keys) (l1 l2 r1 r2 : Side) (s t : List ℕ) → HasNodeText c q (has set.0) (by_merge k1 l1 r1) → HasNodeText c q (has set.0) (by_merge k2 l2 r2) →
      (keys_text c q (has set.0) k1 ++ sides_text l1 r1) ++ 32 ∷ 99 ∷ s ≡ (keys_text c q (has set.0) k2 ++ sides_text l2 r2) ++ 32 ∷ 99 ∷ t → (by_merge k1 l1 r1 ≡ by_merge k2 l2 r2) × (s ≡ t)
  merge-split k1 k2 l1 l2 r1 r2 s t h g e =
      let A = keys_text c q (has set.0) k1 in
      let B = keys_text c q (has set.0) k2 in
      let S = sides_text l1 r1 ++ 32 ∷ 99 ∷ s in
      let T = sides_text l2 r2 ++ 32 ∷ 99 ∷ t in
      let p = keys-split c q lawful bound (has set.0) k1 k2 S T (shown-each q (has set.0) k1 h.0.classes h.0.members) (shown-each q (has set.0) k2 g.0.classes g.0.members)
      (ends-sides l1 r1 (32 ∷ 99 ∷ s) h.2) (ends-sides l2 r2 (32 ∷ 99 ∷ t) g.2)
      (λ bad. let wrong : 32 ≡ 44 = bad in omega (arith, wrong)) (λ bad. let wrong : 32 ≡ 44 = bad in omega (arith, wrong))
      (sym (append_assoc A (sides_text l1 r1) (32 ∷ 99 ∷ s)) ∙ e ∙ append_assoc B (sides_text l2 r2) (32 ∷ 99 ∷ t)) in
      let r = sides-split l1 r1 l2 r2 (32 ∷ 99 ∷ s) (32 ∷ 99 ∷ t) h.2 h.3 g.2 g.3 refl refl p.1 in
      (ap (λ (k : Keys). by_merge k l1 r1) p.0 ∙ ap₂ (λ (a b : Side). by_merge k2 a b) r.0.0 r.0.1, ap (λ (l : List ℕ). drop 2 l) r.1)

  -- what an entry is, before ` cost=`
  kinds-split : (x y : Node) (s t : List ℕ) → node_no x ≡ node_no y → HasNodeText c q (has set.0) x → HasNodeText c q (has set.0) y → node_text c q set x ++ 32 ∷ 99 ∷ s ≡ node_text c q set y ++ 32 ∷ 99 ∷ t → (x ≡ y) × (s ≡ t)
  kinds-split by_seq by_seq s t kind h g e = (refl, ap (λ (l : List ℕ). drop 10 l) e)
  kinds-split by_seq (by_index i2 b2) s t kind h g e = let wrong : 0 ≡ 1 = kind in absurd (omega (arith, wrong))
  kinds-split by_seq (by_index_only i2 b2) s t kind h g e = let wrong : 0 ≡ 2 = kind in absurd (omega (arith, wrong))
  kinds-split by_seq (by_bitmap t2) s t kind h g e = let wrong : 0 ≡ 3 = kind in absurd (omega (arith, wrong))
  kinds-split by_seq (by_nest m2 n2) s t kind h g e = let wrong : 0 ≡ 4 = kind in absurd (omega (arith, wrong))
  kinds-split by_seq (by_merge k2 l2 r2) s t kind h g e = let wrong : 0 ≡ 5 = kind in absurd (omega (arith, wrong))
  kinds-split (by_index i1 b1) by_seq s t kind h g e = let wrong : 1 ≡ 0 = kind in absurd (omega (arith, wrong))
  kinds-split (by_index i1 b1) (by_index i2 b2) s t kind h g e = let p = scan-by c q lawful bound i1 i2 b1 b2 (32 ∷ 99 ∷ s) (32 ∷ 99 ∷ t) h g refl refl (ap (λ (l : List ℕ). drop 10 l) e) in (ap₂ (λ (i : IndexNo) (b : Bool). by_index i b) p.0.0 p.0.1, ap (λ (l : List ℕ). drop 2 l) p.1)
  kinds-split (by_index i1 b1) (by_index_only i2 b2) s t kind h g e = let wrong : 1 ≡ 2 = kind in absurd (omega (arith, wrong))
  kinds-split (by_index i1 b1) (by_bitmap t2) s t kind h g e = let wrong : 1 ≡ 3 = kind in absurd (omega (arith, wrong))
  kinds-split (by_index i1 b1) (by_nest m2 n2) s t kind h g e = let wrong : 1 ≡ 4 = kind in absurd (omega (arith, wrong))
  kinds-split (by_index i1 b1) (by_merge k2 l2 r2) s t kind h g e = let wrong : 1 ≡ 5 = kind in absurd (omega (arith, wrong))
  kinds-split (by_index_only i1 b1) by_seq s t kind h g e = let wrong : 2 ≡ 0 = kind in absurd (omega (arith, wrong))
  kinds-split (by_index_only i1 b1) (by_index i2 b2) s t kind h g e = let wrong : 2 ≡ 1 = kind in absurd (omega (arith, wrong))
  kinds-split (by_index_only i1 b1) (by_index_only i2 b2) s t kind h g e = let p = scan-by c q lawful bound i1 i2 b1 b2 (32 ∷ 99 ∷ s) (32 ∷ 99 ∷ t) h g refl refl (ap (λ (l : List ℕ). drop 15 l) e) in (ap₂ (λ (i : IndexNo) (b : Bool). by_index_only i b) p.0.0 p.0.1, ap (λ (l : List ℕ). drop 2 l) p.1)
  kinds-split (by_index_only i1 b1) (by_bitmap t2) s t kind h g e = let wrong : 2 ≡ 3 = kind in absurd (omega (arith, wrong))
  kinds-split (by_index_only i1 b1) (by_nest m2 n2) s t kind h g e = let wrong : 2 ≡ 4 = kind in absurd (omega (arith, wrong))
  kinds-split (by_index_only i1 b1) (by_merge k2 l2 r2) s t kind h g e = let wrong : 2 ≡ 5 = kind in absurd (omega (arith, wrong))
  kinds-split (by_bitmap t1) by_seq s t kind h g e = let wrong : 3 ≡ 0 = kind in absurd (omega (arith, wrong))
  kinds-split (by_bitmap t1) (by_index i2 b2) s t kind h g e = let wrong : 3 ≡ 1 = kind in absurd (omega (arith, wrong))
  kinds-split (by_bitmap t1) (by_index_only i2 b2) s t kind h g e = let wrong : 3 ≡ 2 = kind in absurd (omega (arith, wrong))
  kinds-split (by_bitmap t1) (by_bitmap t2) s t kind h g e = let p = bits-split c q lawful bound t1 t2 (32 ∷ 99 ∷ s) (32 ∷ 99 ∷ t) h g refl refl (ap (λ (l : List ℕ). drop 17 l) e) in (ap by_bitmap p.0, ap (λ (l : List ℕ). drop 2 l) p.1)
  kinds-split (by_bitmap t1) (by_nest m2 n2) s t kind h g e = let wrong : 3 ≡ 4 = kind in absurd (omega (arith, wrong))
  kinds-split (by_bitmap t1) (by_merge k2 l2 r2) s t kind h g e = let wrong : 3 ≡ 5 = kind in absurd (omega (arith, wrong))
  kinds-split (by_nest m1 n1) by_seq s t kind h g e = let wrong : 4 ≡ 0 = kind in absurd (omega (arith, wrong))
  kinds-split (by_nest m1 n1) (by_index i2 b2) s t kind h g e = let wrong : 4 ≡ 1 = kind in absurd (omega (arith, wrong))
  kinds-split (by_nest m1 n1) (by_index_only i2 b2) s t kind h g e = let wrong : 4 ≡ 2 = kind in absurd (omega (arith, wrong))
  kinds-split (by_nest m1 n1) (by_bitmap t2) s t kind h g e = let wrong : 4 ≡ 3 = kind in absurd (omega (arith, wrong))
  kinds-split (by_nest m1 n1) (by_nest m2 n2) s t kind h g e = let p = nest-split m1 n1 m2 n2 (32 ∷ 99 ∷ s) (32 ∷ 99 ∷ t) h.0 h.1 g.0 g.1 refl refl (ap (λ (l : List ℕ). drop 12 l) e) in (ap₂ (λ (m n : ℕ). by_nest m n) p.0.0 p.0.1, ap (λ (l : List ℕ). drop 2 l) p.1)
  kinds-split (by_nest m1 n1) (by_merge k2 l2 r2) s t kind h g e = let wrong : 4 ≡ 5 = kind in absurd (omega (arith, wrong))
  kinds-split (by_merge k1 l1 r1) by_seq s t kind h g e = let wrong : 5 ≡ 0 = kind in absurd (omega (arith, wrong))
  kinds-split (by_merge k1 l1 r1) (by_index i2 b2) s t kind h g e = let wrong : 5 ≡ 1 = kind in absurd (omega (arith, wrong))
  kinds-split (by_merge k1 l1 r1) (by_index_only i2 b2) s t kind h g e = let wrong : 5 ≡ 2 = kind in absurd (omega (arith, wrong))
  kinds-split (by_merge k1 l1 r1) (by_bitmap t2) s t kind h g e = let wrong : 5 ≡ 3 = kind in absurd (omega (arith, wrong))
  kinds-split (by_merge k1 l1 r1) (by_nest m2 n2) s t kind h g e = let wrong : 5 ≡ 4 = kind in absurd (omega (arith, wrong))
  kinds-split (by_merge k1 l1 r1) (by_merge k2 l2 r2) s t kind h g e = merge-split k1 k2 l1 l2 r1 r2 s t h g (ap (λ (l : List ℕ). drop 14 l) e)

  node-parts : (x y : Node) (s t : List ℕ) → HasNodeText c q (has set.0) x → HasNodeText c q (has set.0) y → node_text c q set x ++ 32 ∷ 99 ∷ s ≡ node_text c q set y ++ 32 ∷ 99 ∷ t → (x ≡ y) × (s ≡ t)
  node-parts x y s t hx hy e = kinds-split x y s t (sym (text-no-is c q set x (32 ∷ 99 ∷ s)) ∙ (ap text_no e ∙ text-no-is c q set y (32 ∷ 99 ∷ t))) hx hy e

-- no kind begins with `f`
node-begins : (c : Contents) (q : Query) (set : RelSet) (x : Node) (s : List ℕ) → get_or (node_text c q set x ++ s) 0 0 ≢ 102
node-begins c q set by_seq s e = let bad : 83 ≡ 102 = e in omega (arith, bad)
node-begins c q set (by_index i b) s e = let bad : 73 ≡ 102 = e in omega (arith, bad)
node-begins c q set (by_index_only i b) s e = let bad : 73 ≡ 102 = e in omega (arith, bad)
node-begins c q set (by_bitmap t) s e = let bad : 66 ≡ 102 = e in omega (arith, bad)
node-begins c q set (by_nest a b) s e = let bad : 78 ≡ 102 = e in omega (arith, bad)
node-begins c q set (by_merge k a b) s e = let bad : 77 ≡ 102 = e in omega (arith, bad)

-- costs
cost-split : (w : Option Window) (a b x y : ℕ) (s t : List ℕ) → HasStartup w a → HasStartup w x → IsWritable b → IsWritable y → stops s ≡ true → stops t ≡ true → cost_text w (pair a b) ++ s ≡ cost_text w (pair x y) ++ t → ((a ≡ x) × (b ≡ y)) × (s ≡ t)
cost-split None a b x y s t ha hx hb hy hs ht e = let p = decimal-split b y s t hb hy hs ht e in ((ha ∙ sym hx, p.0), p.1)
cost-split (Some w) a b x y s t ha hx hb hy hs ht e =
    let p = decimal-split a x ((codes ".." ++ decimal b) ++ s) ((codes ".." ++ decimal y) ++ t) ha hx refl refl (sym (append_assoc (decimal a) (codes ".." ++ decimal b) s) ∙ e ∙ append_assoc (decimal x) (codes ".." ++ decimal y) t) in
    let r = decimal-split b y s t hb hy hs ht (ap (λ (l : List ℕ). drop 2 l) p.1) in
    ((p.0, r.0), r.1)

made-entry : RelSet → RelSet → Node → ℕ → ℕ → ℕ → Keys → Entry
made-entry set param node startup cost rows keys = record { set = set; param = param; node = node; startup = startup; cost = cost; rows = rows; keys = keys }

same-entry : (e o : Entry) → e.set ≡ o.set → e.param ≡ o.param → e.node ≡ o.node → e.startup ≡ o.startup → e.cost ≡ o.cost → e.rows ≡ o.rows → e.keys ≡ o.keys → e ≡ o
unfolding made-entry
same-entry e o set param node startup cost rows keys =
    ap (λ x. made-entry x e.param e.node e.startup e.cost e.rows e.keys) set
    ∙ (ap (λ x. made-entry o.set x e.node e.startup e.cost e.rows e.keys) param
    ∙ (ap (λ x. made-entry o.set o.param x e.startup e.cost e.rows e.keys) node
    ∙ (ap (λ x. made-entry o.set o.param o.node x e.cost e.rows e.keys) startup
    ∙ (ap (λ x. made-entry o.set o.param o.node o.startup x e.rows e.keys) cost
    ∙ (ap (λ x. made-entry o.set o.param o.node o.startup o.cost x e.keys) rows
    ∙ ap (λ x. made-entry o.set o.param o.node o.startup o.cost o.rows x) keys)))))

module _ (c : Contents) (q : Query) (lawful : IsLawful c) (bound : IsWellBound c q) where
  measures-split : (set : RelSet) (e o : Entry) → HasEntryLine c q e → HasEntryLine c q o → e.set ≡ set → o.set ≡ set →
      cost_text q.window (pair e.startup e.cost) ++ (codes " rows=" ++ (decimal e.rows ++ (codes " keys=(" ++ (keys_text c q (has set.0) e.keys ++ codes ")"))))
      ≡ cost_text q.window (pair o.startup o.cost) ++ (codes " rows=" ++ (decimal o.rows ++ (codes " keys=(" ++ (keys_text c q (has set.0) o.keys ++ codes ")")))) →
      ((e.startup ≡ o.startup) × (e.cost ≡ o.cost)) × ((e.rows ≡ o.rows) × (e.keys ≡ o.keys))
  measures-split set e o he ho se so is =
      let a = cost-split q.window e.startup e.cost o.startup o.cost _ _ he.startup ho.startup he.cost ho.cost refl refl is in
      let b = decimal-split e.rows o.rows _ _ he.rows ho.rows refl refl (ap (λ (l : List ℕ). drop 6 l) a.1) in
      let P : RelSet → Keys → Type 0 = λ s ks. HasKeysText q (has s.0) ks in
      let ke = subst (λ s. P s e.keys) se he.keys in
      let ko = subst (λ s. P s o.keys) so ho.keys in
      let k = keys-split c q lawful bound (has set.0) e.keys o.keys (codes ")") (codes ")") (shown-each q (has set.0) e.keys ke.classes ke.members) (shown-each q (has set.0) o.keys ko.classes ko.members) refl refl
      (λ bad. let wrong : 41 ≡ 44 = bad in omega (arith, wrong)) (λ bad. let wrong : 41 ≡ 44 = bad in omega (arith, wrong)) (ap (λ (l : List ℕ). drop 7 l) b.1) in
      (a.0, (b.0, k.0))

  entry-parts : (e o : Entry) → HasEntryLine c q e → HasEntryLine c q o → entry_text c q e ≡ entry_text c q o → e ≡ o
  entry-parts e o he ho is =
      let whole : (x : Entry) → entry_text c q x ≡ set_text q x.set ++ (param_text q x.param ++ 32 ∷ (node_text c q x.set x.node ++ measures_text c q x)) = λ x.
      append_assoc (set_text q x.set) (param_text q x.param ++ (codes " " ++ node_text c q x.set x.node)) (measures_text c q x)
      ∙ ap (λ (l : List ℕ). set_text q x.set ++ l) (append_assoc (param_text q x.param) (codes " " ++ node_text c q x.set x.node) (measures_text c q x)) in
      let a = set-split c q lawful bound e.set o.set _ _ he.set ho.set (sym (whole e) ∙ is ∙ whole o) in
      let b = param-by c q lawful bound e.param o.param (is_empty e.param) (is_empty o.param) (node_text c q e.set e.node ++ measures_text c q e) (node_text c q o.set o.node ++ measures_text c q o) refl refl he.param ho.param
      (node-begins c q e.set e.node (measures_text c q e)) (node-begins c q o.set o.node (measures_text c q o)) a.1 in
      let M : RelSet → Entry → List ℕ = λ s x. cost_text q.window (pair x.startup x.cost) ++ (codes " rows=" ++ (decimal x.rows ++ (codes " keys=(" ++ (keys_text c q (has s.0) x.keys ++ codes ")")))) in
      let at : node_text c q e.set e.node ++ 32 ∷ 99 ∷ (codes "ost=" ++ M e.set e) ≡ node_text c q e.set o.node ++ 32 ∷ 99 ∷ (codes "ost=" ++ M e.set o) =
      b.1 ∙ ap (λ (s : RelSet). node_text c q s o.node ++ 32 ∷ 99 ∷ (codes "ost=" ++ M s o)) (sym a.0) in
      let n = node-parts c q lawful bound e.set e.node o.node (codes "ost=" ++ M e.set e) (codes "ost=" ++ M e.set o) he.node (subst (λ (s : RelSet). HasNodeText c q (has s.0) o.node) (sym a.0) ho.node) at in
      let m = measures-split e.set e o he ho refl (sym a.0) (ap (λ (l : List ℕ). drop 4 l) n.1) in
      same-entry e o a.0 b.0 n.0 m.0.0 m.0.1 m.1.0 m.1.1

  entry-one : (n : ℕ) (e o : Entry) → HasEntryLine c q e → HasEntryLine c q o → entry_line c q n e ≡ entry_line c q n o → o ≡ e
  entry-one n e o he ho is =
      let one = append_cancel_left (decimal n) (codes " " ++ entry_text c q e) (codes " " ++ entry_text c q o) is in
      sym (entry-parts e o he ho (ap (λ (l : List ℕ). drop 1 l) one))

  all-only : (n : ℕ) (es : List Entry) → All (HasEntryLine c q) es → AreOnly c q n es
  all-only n [] h = tt
  all-only n (e ∷ es) h = (λ o ho is. entry-one n e o (All-head (HasEntryLine c q) e es h) ho is, all-only (n + 1) es (All-tail (HasEntryLine c q) e es h))

  -- two certificates that have a text, and the same, are the same
  pub one-certificate : (a b : Certificate) → HasText c q a → HasText c q b → certificate_text c q a ≡ certificate_text c q b → a ≡ b
  one-certificate a b ha hb e =
      let few = ha.few in
      let cut = append_cancel_left (head_text q.window) (entries_text c q 1 b.entries ++ ended (best_line b.best)) (entries_text c q 1 a.entries ++ ended (best_line a.best)) (sym e) in
      let parts = same-entries c q (plain-line c q lawful bound) 1 a.entries b.entries a.best b.best (omega (arith, few)) (all-only 1 a.entries ha.lines) ha.lines hb.lines cut in
      let bests : best_line a.best ++ [] ≡ best_line b.best ++ [] = ap (λ (l : List ℕ). l ++ []) parts.1 in
      let side = side-split a.best b.best [] [] ha.best hb.best refl refl (ap (λ (l : List ℕ). drop 5 l) bests) in
      ap₂ (λ (es : List Entry) (s : Side). let z : Certificate = record { entries = es; best = s } in z) (sym parts.0) side.0
