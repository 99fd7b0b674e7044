-- Bitmap trees by their lines.
use Rattle.std.proofs.Common.{rules, ◌≡◌, ◌≤◌, ◌+◌, ℕ, true, List, [], ◌∷◌, ◌++◌, codes, length, map, refl, sym, ap, ◌∙◌, subst, arith}
use Rattle.std.specs.Prelude.{All, Option, Some, None, IfSome, slice_get}
use Rattle.std.specs.Fmt.{decimal}
use Rattle.std.specs.List.{flat_map}
use Rattle.std.proofs.lemmas.List.{append_assoc, map-append}
use Rattle.std.proofs.lemmas.List.Elements.{All-cons, All-head, All-push, All-tail}
use Rattle.std.proofs.lemmas.Option.{same_Some}
use Rattle.pg_base.specs.declared.numbers.IndexNo.{IndexNo}
use Rattle.catalog.specs.Contents.{Contents, IsLawful, index_name_at}
use Rattle.sql_query.specs.Queries.{Query}
use Rattle.plan_tree.specs.Plans.{BitTree, leaf, all_hold, some_arm, BitTrees, no_trees, tree_and}
use Rattle.plan_tree.specs.work.Views.{bits, trees_of}
use Rattle.plan_tree.specs.declared.bits.BitTree.{BitTree as Bits, Leaf}
use Rattle.plan_tree.specs.declared.bits.BitTree.TheViews.{the_lemmas}
use Rattle.plan_tree.specs.declared.bits.BitTree.TheVariants.{rolls-Leaf}
use Rattle.plan_tree.specs.declared.bits.BitTree.TheFolds.{fold_out-BitTree}
use Rattle.certificate_entries.specs.explain_Texts.{bits_text, conjunct_by, lead, leaf_line, leaf_title, number_text, plain_line, trees_text}
use Rattle.pg_base.proofs.NameLemmas.{decimal-word}
use Rattle.plan_lines.specs.work.Parts.{IsShallow, lacks}
use Rattle.certificate_entries.proofs.NameLemmas.{index-word}
use Rattle.pg_base.proofs.OptionLemmas.{none-some-too as none-some}
use Rattle.plan_lines.specs.HasText.{HasBits, HaveBits, IsConjunct, IsIndexOfQuery}
use Rattle.plan_lines.specs.work.Lines.{beneath, tree_title}
use Rattle.plan_lines.specs.Stands.{Stand, Stands}
use Rattle.plan_lines.proofs.LineLemmas.{lacks-ten, plain, plain-both, word-plain}
use Rattle.plan_lines.proofs.ListLemmas.{AreRead, IsItem, begun, one-more}
use Rattle.explain_laws.proofs.BitLemmas.{line-is}

-- what the clause of the next line says
abbrev pub IsNext : ℕ → List ℕ → Option (List ℕ) → List ℕ → Type 0
IsNext d old o new = (t rest : List ℕ) → lacks 10 t ≡ true → old ≡ lead d ++ (t ++ (10 ∷ rest)) → (o ≡ Some t) × (new ≡ rest)

pub in_list : BitTrees → List BitTree
in_list no_trees = []
in_list (tree_and b bs) = b ∷ in_list bs

pub in_list-back : (bs : BitTrees) → trees_of (in_list bs) ≡ bs
unfolding in_list
in_list-back no_trees = refl
in_list-back (tree_and b bs) = ap (tree_and b) (in_list-back bs)

module _ (c : Contents) (q : Query) where
  pub bits-is : (d : ℕ) (b : BitTree) (x : List ℕ) → bits_text c q d b ++ x ≡ lead d ++ (tree_title c q b ++ (10 ∷ (beneath c q d b ++ x)))
  bits-is d (leaf i) x = line-is d (leaf_title c i) x
  bits-is d (all_hold bs) x = append_assoc (plain_line d (codes "BitmapAnd")) (trees_text c q (d + 1) bs) x ∙ line-is d (codes "BitmapAnd") (trees_text c q (d + 1) bs ++ x)
  bits-is d (some_arm n is) x =
      let title = codes "BitmapOr " ++ number_text (conjunct_by (slice_get q.classes.clauses n)) in
      append_assoc (plain_line d title) (flat_map (leaf_line c (d + 1)) is) x ∙ line-is d title (flat_map (leaf_line c (d + 1)) is ++ x)

  pub tree-begins : (d : ℕ) (b : BitTree) (z : List ℕ) → (w : List ℕ) × (bits_text c q (d + 1) b ++ z ≡ lead (d + 1) ++ w)
  tree-begins d b z = (tree_title c q b ++ (10 ∷ (beneath c q (d + 1) b ++ z)), bits-is (d + 1) b z)

  pub leaf-begins : (d : ℕ) (i : IndexNo) (z : List ℕ) → (w : List ℕ) × (leaf_line c (d + 1) i ++ z ≡ lead (d + 1) ++ w)
  leaf-begins d i z = (leaf_title c i ++ (10 ∷ z), line-is (d + 1) (leaf_title c i) z)

  number-plain : (o : Option ℕ) → plain (number_text o) ≡ true
  number-plain None = refl
  number-plain (Some n) = word-plain (decimal n) (decimal-word n)

  -- a tree at a depth, with its lines not too deep
  abbrev pub HasTree : ℕ → BitTree → Type 0
  HasTree d b = HasBits c q b × Stands d b

  -- an index, whose line is not too deep
  abbrev pub HasLeaf : ℕ → IndexNo → Type 0
  HasLeaf d i = IsIndexOfQuery c q i × (d ≤ 64)

  pub in_list-text : (d : ℕ) (bs : BitTrees) → trees_text c q d bs ≡ flat_map (bits_text c q d) (in_list bs)
  unfolding in_list
  in_list-text d no_trees = refl
  in_list-text d (tree_and b bs) = ap (λ (l : List ℕ). bits_text c q d b ++ l) (in_list-text d bs)

  pub in_list-has : (d : ℕ) (bs : BitTrees) → HaveBits c q bs → Stand d bs → All (HasTree d) (in_list bs)
  unfolding in_list
  in_list-has d no_trees h s = λ k x lt. absurd (omega (arith, lt))
  in_list-has d (tree_and b bs) h s = All-cons (HasTree d) b (in_list bs) (h.0, s.0) (in_list-has d bs h.1 s.1)

  pub trees-have : (d : ℕ) (bs : List BitTree) → All (HasTree d) bs → HaveBits c q (trees_of bs) × Stand d (trees_of bs)
  trees-have d [] h = (tt, tt)
  trees-have d (b ∷ bs) h =
      let first = All-head (HasTree d) b bs h in
      let rest = trees-have d bs (All-tail (HasTree d) b bs h) in
      ((first.0, rest.0), (first.1, rest.1))

  module _ (lawful : IsLawful c) where
    leaf-plain : (i : IndexNo) → IsIndexOfQuery c q i → plain (leaf_title c i) ≡ true
    leaf-plain i is = plain-both (codes "Bitmap Index Scan on ") (index_name_at c i) refl (word-plain (index_name_at c i) (index-word c lawful i is.index))

    title-plain : (b : BitTree) → HasBits c q b → plain (tree_title c q b) ≡ true
    title-plain (leaf i) h = leaf-plain i h
    title-plain (all_hold bs) h = refl
    title-plain (some_arm n is) h = number-plain (conjunct_by (slice_get q.classes.clauses n))

    -- a leaf as the next line
    pub leaf-item : (d : ℕ) (left mid line : List ℕ) (next : Option (List ℕ)) (o : Option IndexNo) → IsNext (d + 1) left next mid → next ≡ Some line →
        ((i : IndexNo) → IsIndexOfQuery c q i → d + 1 ≤ 64 → line ≡ leaf_title c i → o ≡ Some i) → IsItem (HasLeaf (d + 1)) (leaf_line c (d + 1)) d (leaf-begins d) left o mid
    leaf-item d left mid line next o step found reads = λ i z has shallow e.
        let s = step (leaf_title c i) z (lacks-ten (leaf_title c i) (leaf-plain i has.0)) (e ∙ line-is (d + 1) (leaf_title c i) z) in
        (reads i has.0 has.1 (same_Some line (leaf_title c i) (sym found ∙ s.0)), s.1)

    -- a tree whose first line is the next one
    pub tree-item : (d : ℕ) (left mid new line : List ℕ) (next : Option (List ℕ)) (o : Option BitTree) → IsNext (d + 1) left next mid → next ≡ Some line →
        ((b : BitTree) (rest : List ℕ) → HasBits c q b → Stands (d + 1) b → IsShallow (d + 1) rest → line ≡ tree_title c q b → mid ≡ beneath c q (d + 1) b ++ rest → (o ≡ Some b) × (new ≡ rest)) →
        IsItem (HasTree (d + 1)) (bits_text c q (d + 1)) d (tree-begins d) left o new
    tree-item d left mid new line next o step found reads = λ b z has shallow e.
        let s = step (tree_title c q b) (beneath c q (d + 1) b ++ z) (lacks-ten (tree_title c q b) (title-plain b has.0)) (e ∙ bits-is (d + 1) b z) in
        reads b z has.0 has.1 shallow (same_Some line (tree_title c q b) (sym found ∙ s.0)) s.1

    -- no line comes next
    pub no-leaf : (d : ℕ) (left mid : List ℕ) (next : Option (List ℕ)) → IsNext (d + 1) left next mid → next ≡ None → (i : IndexNo) (z : List ℕ) → HasLeaf (d + 1) i → left ≡ leaf_line c (d + 1) i ++ z → ⊥
    no-leaf d left mid next step none i z has e =
        none-some next (leaf_title c i) none (step (leaf_title c i) z (lacks-ten (leaf_title c i) (leaf-plain i has.0)) (e ∙ line-is (d + 1) (leaf_title c i) z)).0

    pub no-tree : (d : ℕ) (left mid : List ℕ) (next : Option (List ℕ)) → IsNext (d + 1) left next mid → next ≡ None → (b : BitTree) (z : List ℕ) → HasTree (d + 1) b → left ≡ bits_text c q (d + 1) b ++ z → ⊥
    no-tree d left mid next step none b z has e =
        none-some next (tree_title c q b) none (step (tree_title c q b) (beneath c q (d + 1) b ++ z) (lacks-ten (tree_title c q b) (title-plain b has.0)) (e ∙ bits-is (d + 1) b z)).0

  -- the leaves of an OR read so far
  pub record AreLeaves (d : ℕ) (old : List ℕ) (indexes : List IndexNo) (left : List ℕ) : Type 0 where
    pub has : All (HasLeaf (d + 1)) indexes
    pub list : AreRead (HasLeaf (d + 1)) (leaf_line c (d + 1)) d (leaf-begins d) old indexes left
    pub shorter : length left ≤ length old

  -- the trees of an AND read so far
  pub record AreTrees (d : ℕ) (old : List ℕ) (items : List Bits) (left : List ℕ) : Type 0 where
    pub has : All (HasTree (d + 1)) (map bits items)
    pub list : AreRead (HasTree (d + 1)) (bits_text c q (d + 1)) d (tree-begins d) old (map bits items) left
    pub shorter : length left ≤ length old

  pub leaves-begun : (d : ℕ) (old : List ℕ) (indexes : List IndexNo) → indexes ≡ [] → AreLeaves d old indexes old
  leaves-begun d old indexes e = subst (λ (l : List IndexNo). AreLeaves d old l old) (sym e) (record {
    has = λ k x lt. absurd (omega (arith, lt));
    list = begun (HasLeaf (d + 1)) (leaf_line c (d + 1)) d (leaf-begins d) old;
    shorter = omega arith;
  })

  pub trees-begun : (d : ℕ) (old : List ℕ) (items : List Bits) → items ≡ [] → AreTrees d old items old
  trees-begun d old items e = subst (λ (l : List Bits). AreTrees d old l old) (sym e) (record {
    has = λ k x lt. absurd (omega (arith, lt));
    list = begun (HasTree (d + 1)) (bits_text c q (d + 1)) d (tree-begins d) old;
    shorter = omega arith;
  })

  pub leaves-next : (d : ℕ) (old left new : List ℕ) (indexes more : List IndexNo) (o : Option IndexNo) (i : IndexNo) → AreLeaves d old indexes left → (IsShallow d left → ⊥) →
      IsItem (HasLeaf (d + 1)) (leaf_line c (d + 1)) d (leaf-begins d) left o new → o ≡ Some i → HasLeaf (d + 1) i → more ≡ indexes ++ i ∷ [] → length new ≤ length left → AreLeaves d old more new
  leaves-next d old left new indexes more o i before deep item found has all less = subst (λ (l : List IndexNo). AreLeaves d old l new) (sym all) (record {
    has = All-push (HasLeaf (d + 1)) indexes i before.has has;
    list = one-more (HasLeaf (d + 1)) (leaf_line c (d + 1)) d (leaf-begins d) old left new indexes o i before.list deep item found;
    shorter = let first = before.shorter in omega (arith, first, less);
  })

  pub trees-next : (d : ℕ) (old left new : List ℕ) (items more : List Bits) (o : Option BitTree) (b : Bits) → AreTrees d old items left → (IsShallow d left → ⊥) →
      IsItem (HasTree (d + 1)) (bits_text c q (d + 1)) d (tree-begins d) left o new → o ≡ Some (bits b) → HasTree (d + 1) (bits b) → more ≡ items ++ b ∷ [] → length new ≤ length left → AreTrees d old more new
  trees-next d old left new items more o b before deep item found has all less = subst (λ (l : List Bits). AreTrees d old l new) (sym all) (record {
    has = subst (All (HasTree (d + 1))) (sym (map-append bits items (b ∷ []))) (All-push (HasTree (d + 1)) (map bits items) (bits b) before.has has);
    list = subst (λ (l : List BitTree). AreRead (HasTree (d + 1)) (bits_text c q (d + 1)) d (tree-begins d) old l new) (sym (map-append bits items (b ∷ [])))
        (one-more (HasTree (d + 1)) (bits_text c q (d + 1)) d (tree-begins d) old left new (map bits items) o (bits b) before.list deep item found);
    shorter = let first = before.shorter in omega (arith, first, less);
  })

pub leaf-bits : (i : IndexNo) → bits (Leaf i) ≡ leaf i
leaf-bits i = search (rules, the_lemmas, rolls-Leaf, fold_out-BitTree)

module _ (c : Contents) (q : Query) where
  pub leaves-have : (d : ℕ) (is : List IndexNo) → All (IsIndexOfQuery c q) is → All (λ (i : IndexNo). d ≤ 64) is → All (HasLeaf c q d) is
  leaves-have d is h g = λ k x lt. (h k x lt, g k x lt)

  pub arm-has : (d n : ℕ) (is : List IndexNo) → IsConjunct c q n → d ≤ 64 → All (HasLeaf c q (d + 1)) is → HasBits c q (some_arm n is) × Stands d (some_arm n is)
  arm-has d n is h low all = ((h, λ k x lt. (all k x lt).0), (low, λ k x lt. (all k x lt).1))

  pub held-has : (d : ℕ) (o : Option Bits) (b : Bits) → o ≡ Some b → IfSome o (λ x. HasBits c q (bits x) × Stands d (bits x)) → HasTree c q d (bits b)
  held-has d o b is h = subst (λ (x : Option Bits). IfSome x (λ y. HasBits c q (bits y) × Stands d (bits y))) is h
