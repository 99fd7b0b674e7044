-- The lines of a bitmap tree tell the tree.
use Rattle.std.proofs.Common.{◌≡◌, ◌<◌, ◌≢◌, inl, inr, ℕ, ◌+◌, ◌-◌, ◌*◌, Bool, false, cond, nat_eq, List, [], ◌∷◌, ◌++◌, codes, drop, get_or, length, map, replicate, take, refl, sym, ◌∙◌, ap, ap₂, subst, append_assoc, arith}
use Rattle.std.specs.Prelude.{Option, Some, slice_get}
use Rattle.std.specs.Fmt.{decimal}
use Rattle.std.specs.List.{AllByRecursion, AllZip, flat_map, items_where_true}
use Rattle.std.proofs.Math.ListN.{get_or-append}
use Rattle.std.proofs.lemmas.Bool.Decides.{nat_tests}
use Rattle.std.proofs.lemmas.Fmt.{decimal_injective}
use Rattle.std.proofs.lemmas.List.{append_cancel_left, get_or-append-add, get_or-replicate, length-replicate}
use Rattle.pg_base.specs.declared.numbers.IndexNo.{IndexNo}
use Rattle.pg_expr.specs.Cond.{Cond}
use Rattle.catalog.specs.Contents.{Contents, IsIndex, IsLawful, index_name_at, indexes_of}
use Rattle.eq_classes.specs.Clauses.{Set}
use Rattle.index_match.specs.Arms.{arms_of}
use Rattle.index_match.specs.Numbered.{Numbered, local}
use Rattle.sql_query.specs.Queries.{Query}
use Rattle.sql_query.specs.WellBound.{IsWellBound}
use Rattle.plan_tree.specs.Plans.{BitTree, leaf, all_hold, some_arm, BitTrees, no_trees, tree_and}
use Rattle.plan_tree.specs.Bitmaps.{ArePicked, Element, IsBitTree, IsElement, by_clause, by_index, candidates, condition_at, element_of, elements_of, none_left, passed, picked, table_of_relation}
use Rattle.plan_tree.specs.work.Costable.{AreCostableTrees, IsCostableTree, IsMatchedBy}
use Rattle.plan_tree.proofs.CostableLemmas.{In, in-contained, in-masked, in-picked, in-taken}
use Rattle.plan_space.proofs.NamedLemmas.{IsOfTable, enumerated}
use Rattle.explain.specs.Texts.{bits_text, conjunct_by, lead, leaf_line, number_text, plain_line, trees_text}
use Rattle.explain_laws.proofs.ConjunctLemmas.{HasConjunct, conjunct-same, or-conjunct}
use Rattle.explain_laws.proofs.NameLemmas.{index-name, index-same}
use Rattle.explain_laws.proofs.SplitLemmas.{split}
use Rattle.pg_base.proofs.NameLemmas.{decimal-word, name-word}
use Rattle.pg_base.proofs.ListLemmas.{zip-long as zip_long}
use Rattle.plan_tree.proofs.PickedLemmas.{holds-picked as picked-is}

-- no line of a depth above d begins a text
pub record IsShallow (d : ℕ) (x : List ℕ) : Type 0 where
  pub place : ℕ
  pub before : place < 6 * d + 2
  pub byte : get_or x place 0 ≢ 32

pub shallow-more : (d : ℕ) (x : List ℕ) → IsShallow d x → IsShallow (d + 1) x
shallow-more d x h = let lt = h.before in record { place = h.place; before = omega (arith, lt); byte = h.byte }

pub shallow-end : (d : ℕ) → IsShallow d []
shallow-end d = record { place = 0; before = omega arith; byte = λ e. (omega (arith, e)) }

lead-deep : (d : ℕ) → lead (d + 1) ≡ replicate (6 * d + 2) 32 ++ codes "->  "
lead-deep d =
    let no : nat_eq (d + 1) 0 ≡ false = grind (arith, nat_tests) in
    let many : 6 * (d + 1) - 4 ≡ 6 * d + 2 = omega arith in
    ap (λ (b : Bool). cond b [] (replicate (6 * (d + 1) - 4) 32 ++ codes "->  ")) no ∙ ap (λ (n : ℕ). replicate n 32 ++ codes "->  ") many

lead-flat : (d : ℕ) (z : List ℕ) → lead (d + 1) ++ z ≡ replicate (6 * d + 2) 32 ++ (codes "->  " ++ z)
lead-flat d z = ap (λ (l : List ℕ). l ++ z) (lead-deep d) ∙ append_assoc (replicate (6 * d + 2) 32) (codes "->  ") z

spaces-at : (d j : ℕ) (z : List ℕ) → j < 6 * d + 2 → get_or (lead (d + 1) ++ z) j 0 ≡ 32
spaces-at d j z lt =
    let space : ℕ = 32 in
    let spaces : List ℕ = replicate (6 * d + 2) space in
    let long : length spaces ≡ 6 * d + 2 = length-replicate (6 * d + 2) space in
    ap (λ (l : List ℕ). get_or l j 0) (lead-flat d z) ∙ get_or-append spaces (codes "->  " ++ z) 0 j (omega (arith, long, lt)) ∙ get_or-replicate (6 * d + 2) j space 0 lt

no-line : (d : ℕ) (x z : List ℕ) → IsShallow d x → x ≡ lead (d + 1) ++ z → ⊥
no-line d x z h e = h.byte (ap (λ (l : List ℕ). get_or l h.place 0) e ∙ spaces-at d h.place z h.before)

pub line-shallow : (d : ℕ) (z : List ℕ) → IsShallow (d + 1) (lead (d + 1) ++ z)
line-shallow d z =
    let space : ℕ = 32 in
    let spaces : List ℕ = replicate (6 * d + 2) space in
    let long : length spaces ≡ 6 * d + 2 = length-replicate (6 * d + 2) space in
    let dash : get_or (lead (d + 1) ++ z) (length spaces + 0) 0 ≡ 45 = ap (λ (l : List ℕ). get_or l (length spaces + 0) 0) (lead-flat d z) ∙ get_or-append-add spaces (codes "->  " ++ z) 0 0 in
    record { place = length spaces + 0; before = omega (arith, long); byte = λ e. (omega (arith, dash, e)) }

pub line-is : (d : ℕ) (t x : List ℕ) → plain_line d t ++ x ≡ lead d ++ (t ++ 10 ∷ x)
line-is d t x = append_assoc (lead d) (t ++ codes "\n") x ∙ ap (λ (l : List ℕ). lead d ++ l) (append_assoc t (codes "\n") x)

zip-made : (c : Contents) (r : ℕ) (arms : List Cond) (js : List IndexNo) → AllZip (IsMatchedBy c r) arms js → AllByRecursion (IsIndex c) js
zip-made c r [] [] h = tt
zip-made c r [] (j ∷ js) h = absurd h
zip-made c r (a ∷ arms) [] h = tt
zip-made c r (a ∷ arms) (j ∷ js) h = (h.0.made, zip-made c r arms js h.1)

number_of : Element → ℕ
number_of (by_index i) = 0
number_of (by_clause n) = n

number-of : (m n : ℕ) → by_clause m ≡ by_clause n → m ≡ n
unfolding number_of
number-of m n e = ap number_of e

clause-listed : (most n : ℕ) (js : List IndexNo) (cs : List Numbered) → AllByRecursion (λ (x : Numbered). x.number < most) cs → In (by_clause n) (map by_index js ++ map (λ (k : Numbered). by_clause k.number) cs) → n < most
clause-listed most n [] [] h i = absurd i
clause-listed most n [] (k ∷ ks) h (inl same) = let is = number-of k.number n same in let lt = h.0 in omega (arith, is, lt)
clause-listed most n [] (k ∷ ks) h (inr i) = clause-listed most n [] ks h.1 i
clause-listed most n (j ∷ js) cs h (inl same) = cc
clause-listed most n (j ∷ js) cs h (inr i) = clause-listed most n js cs h i

module _ (c : Contents) (q : Query) where
  -- an element, of which its line tells all
  abbrev pub IsTold : BitTree → Type 0
  IsTold (leaf i) = IsIndex c i
  IsTold (all_hold bs) = ⊥
  IsTold (some_arm n js) = HasConjunct q n × AllByRecursion (IsIndex c) js × (length js ≡ length (arms_of (condition_at q n)))

  abbrev pub AreTold : BitTrees → Type 0
  AreTold no_trees = Unit {0}
  AreTold (tree_and b bs) = IsTold b × AreTold bs

  abbrev pub IsTreeTold : BitTree → Type 0
  IsTreeTold (leaf i) = IsIndex c i
  IsTreeTold (all_hold bs) = AreTold bs
  IsTreeTold (some_arm n js) = IsTold (some_arm n js)

  abbrev or_title : ℕ → List ℕ
  or_title n = codes "BitmapOr " ++ number_text (conjunct_by (slice_get q.classes.clauses n))

  or-is : (d n : ℕ) (js : List IndexNo) (x : List ℕ) → bits_text c q d (some_arm n js) ++ x ≡ lead d ++ (or_title n ++ 10 ∷ (flat_map (leaf_line c (d + 1)) js ++ x))
  or-is d n js x = append_assoc (plain_line d (or_title n)) (flat_map (leaf_line c (d + 1)) js) x ∙ line-is d (or_title n) (flat_map (leaf_line c (d + 1)) js ++ x)

  and-is : (d : ℕ) (bs : BitTrees) (x : List ℕ) → bits_text c q d (all_hold bs) ++ x ≡ lead d ++ (codes "BitmapAnd" ++ 10 ∷ (trees_text c q (d + 1) bs ++ x))
  and-is d bs x = append_assoc (plain_line d (codes "BitmapAnd")) (trees_text c q (d + 1) bs) x ∙ line-is d (codes "BitmapAnd") (trees_text c q (d + 1) bs ++ x)

  abbrev leaf_title : IndexNo → List ℕ
  leaf_title i = codes "Bitmap Index Scan on " ++ index_name_at c i

  -- two lines of one depth
  same-titles : (d : ℕ) (x y s t : List ℕ) → x ≡ lead d ++ s → y ≡ lead d ++ t → x ≡ y → s ≡ t
  same-titles d x y s t p r e = append_cancel_left (lead d) s t (sym p ∙ e ∙ r)

  begins : (d : ℕ) (b : BitTree) (z : List ℕ) → (w : List ℕ) × (bits_text c q d b ++ z ≡ lead d ++ w)
  begins d (leaf i) z = (leaf_title i ++ 10 ∷ z, line-is d (leaf_title i) z)
  begins d (all_hold bs) z = (codes "BitmapAnd" ++ 10 ∷ (trees_text c q (d + 1) bs ++ z), and-is d bs z)
  begins d (some_arm n js) z = (or_title n ++ 10 ∷ (flat_map (leaf_line c (d + 1)) js ++ z), or-is d n js z)

  module _ (lawful : IsLawful c) (bound : IsWellBound c q) where
    leaf-split : (d : ℕ) (i j : IndexNo) (x y : List ℕ) → IsIndex c i → IsIndex c j → leaf_line c d i ++ x ≡ leaf_line c d j ++ y → (i ≡ j) × (x ≡ y)
    leaf-split d i j x y hi hj e =
        let one = same-titles d _ _ (leaf_title i ++ 10 ∷ x) (leaf_title j ++ 10 ∷ y) (line-is d (leaf_title i) x) (line-is d (leaf_title j) y) e in
        let two : index_name_at c i ++ 10 ∷ x ≡ index_name_at c j ++ 10 ∷ y = ap (λ (l : List ℕ). drop 21 l) one in
        let three = split (index_name_at c i) (index_name_at c j) (10 ∷ x) (10 ∷ y) (name-word (index_name_at c i) (index-name c lawful i hi)) (name-word (index_name_at c j) (index-name c lawful j hj)) refl refl two in
        (index-same c lawful i j hi hj three.0, ap (λ (l : List ℕ). drop 1 l) three.1)

    leaves-split : (d : ℕ) (us vs : List IndexNo) (x y : List ℕ) → AllByRecursion (IsIndex c) us → AllByRecursion (IsIndex c) vs → length us ≡ length vs →
        flat_map (leaf_line c d) us ++ x ≡ flat_map (leaf_line c d) vs ++ y → (us ≡ vs) × (x ≡ y)
    leaves-split d [] [] x y h g long e = (refl, e)
    leaves-split d [] (v ∷ vs) x y h g long e = absurd (omega (arith, long))
    leaves-split d (u ∷ us) [] x y h g long e = absurd (omega (arith, long))
    leaves-split d (u ∷ us) (v ∷ vs) x y h g long e =
        let U = flat_map (leaf_line c d) us in
        let V = flat_map (leaf_line c d) vs in
        let one = leaf-split d u v (U ++ x) (V ++ y) h.0 g.0 (sym (append_assoc (leaf_line c d u) U x) ∙ e ∙ append_assoc (leaf_line c d v) V y) in
        let rest = leaves-split d us vs x y h.1 g.1 (omega (arith, long)) one.1 in
        (ap₂ (λ (i : IndexNo) (l : List IndexNo). i ∷ l) one.0 rest.0, rest.1)

    or-split : (d n m : ℕ) (us vs : List IndexNo) (x y : List ℕ) → IsTold (some_arm n us) → IsTold (some_arm m vs) → bits_text c q d (some_arm n us) ++ x ≡ bits_text c q d (some_arm m vs) ++ y →
        (some_arm n us ≡ some_arm m vs) × (x ≡ y)
    or-split d n m us vs x y h g e =
        let U = flat_map (leaf_line c (d + 1)) us ++ x in
        let V = flat_map (leaf_line c (d + 1)) vs ++ y in
        let one = same-titles d _ _ (or_title n ++ 10 ∷ U) (or_title m ++ 10 ∷ V) (or-is d n us x) (or-is d m vs y) e in
        let two : number_text (conjunct_by (slice_get q.classes.clauses n)) ++ 10 ∷ U ≡ number_text (conjunct_by (slice_get q.classes.clauses m)) ++ 10 ∷ V = ap (λ (l : List ℕ). drop 9 l) one in
        let three : decimal h.0.number ++ 10 ∷ U ≡ decimal g.0.number ++ 10 ∷ V =
        sym (ap (λ (o : Option ℕ). number_text o ++ 10 ∷ U) h.0.is) ∙ two ∙ ap (λ (o : Option ℕ). number_text o ++ 10 ∷ V) g.0.is in
        let four = split (decimal h.0.number) (decimal g.0.number) (10 ∷ U) (10 ∷ V) (decimal-word h.0.number) (decimal-word g.0.number) refl refl three in
        let number = decimal_injective h.0.number g.0.number h.0.few g.0.few four.0 in
        let same : n ≡ m = conjunct-same c q bound n m g.0.number (h.0.is ∙ ap Some number) g.0.is in
        let long : length us ≡ length vs = h.2 ∙ ap (λ (k : ℕ). length (arms_of (condition_at q k))) same ∙ sym g.2 in
        let rest = leaves-split (d + 1) us vs x y h.1 g.1 long (ap (λ (l : List ℕ). drop 1 l) four.1) in
        (ap₂ some_arm same rest.0, rest.1)

    element-split : (d : ℕ) (a b : BitTree) (x y : List ℕ) → IsTold a → IsTold b → bits_text c q d a ++ x ≡ bits_text c q d b ++ y → (a ≡ b) × (x ≡ y)
    element-split d (leaf i) (leaf j) x y h g e = let one = leaf-split d i j x y h g e in (ap leaf one.0, one.1)
    element-split d (leaf i) (all_hold bs) x y h g e = absurd g
    element-split d (leaf i) (some_arm m vs) x y h g e =
        let one = same-titles d _ _ (leaf_title i ++ 10 ∷ x) (or_title m ++ 10 ∷ (flat_map (leaf_line c (d + 1)) vs ++ y)) (line-is d (leaf_title i) x) (or-is d m vs y) e in
        let bad : 32 ≡ 79 = ap (λ (l : List ℕ). get_or l 6 0) one in
        absurd (omega (arith, bad))
    element-split d (all_hold bs) b x y h g e = absurd h
    element-split d (some_arm n us) (leaf j) x y h g e =
        let one = same-titles d _ _ (or_title n ++ 10 ∷ (flat_map (leaf_line c (d + 1)) us ++ x)) (leaf_title j ++ 10 ∷ y) (or-is d n us x) (line-is d (leaf_title j) y) e in
        let bad : 79 ≡ 32 = ap (λ (l : List ℕ). get_or l 6 0) one in
        absurd (omega (arith, bad))
    element-split d (some_arm n us) (all_hold bs) x y h g e = absurd g
    element-split d (some_arm n us) (some_arm m vs) x y h g e = or-split d n m us vs x y h g e

    trees-split : (d : ℕ) (bs cs : BitTrees) (x y : List ℕ) → AreTold bs → AreTold cs → IsShallow d x → IsShallow d y → trees_text c q (d + 1) bs ++ x ≡ trees_text c q (d + 1) cs ++ y → (bs ≡ cs) × (x ≡ y)
    trees-split d no_trees no_trees x y h g sx sy e = (refl, e)
    trees-split d no_trees (tree_and b cs) x y h g sx sy e =
        let w = begins (d + 1) b (trees_text c q (d + 1) cs ++ y) in
        absurd (no-line d x w.0 sx (e ∙ append_assoc (bits_text c q (d + 1) b) (trees_text c q (d + 1) cs) y ∙ w.1))
    trees-split d (tree_and a bs) no_trees x y h g sx sy e =
        let w = begins (d + 1) a (trees_text c q (d + 1) bs ++ x) in
        absurd (no-line d y w.0 sy (sym e ∙ append_assoc (bits_text c q (d + 1) a) (trees_text c q (d + 1) bs) x ∙ w.1))
    trees-split d (tree_and a bs) (tree_and b cs) x y h g sx sy e =
        let A = trees_text c q (d + 1) bs in
        let B = trees_text c q (d + 1) cs in
        let one = element-split (d + 1) a b (A ++ x) (B ++ y) h.0 g.0 (sym (append_assoc (bits_text c q (d + 1) a) A x) ∙ e ∙ append_assoc (bits_text c q (d + 1) b) B y) in
        let rest = trees-split d bs cs x y h.1 g.1 sx sy one.1 in
        (ap₂ tree_and one.0 rest.0, rest.1)

    pub bits-split : (d : ℕ) (a b : BitTree) (x y : List ℕ) → IsTreeTold a → IsTreeTold b → IsShallow d x → IsShallow d y → bits_text c q d a ++ x ≡ bits_text c q d b ++ y → (a ≡ b) × (x ≡ y)
    bits-split d (leaf i) (leaf j) x y h g sx sy e = element-split d (leaf i) (leaf j) x y h g e
    bits-split d (leaf i) (all_hold bs) x y h g sx sy e =
        let one = same-titles d _ _ (leaf_title i ++ 10 ∷ x) (codes "BitmapAnd" ++ 10 ∷ (trees_text c q (d + 1) bs ++ y)) (line-is d (leaf_title i) x) (and-is d bs y) e in
        let bad : 32 ≡ 65 = ap (λ (l : List ℕ). get_or l 6 0) one in
        absurd (omega (arith, bad))
    bits-split d (leaf i) (some_arm m vs) x y h g sx sy e = element-split d (leaf i) (some_arm m vs) x y h g e
    bits-split d (all_hold bs) (leaf j) x y h g sx sy e =
        let one = same-titles d _ _ (codes "BitmapAnd" ++ 10 ∷ (trees_text c q (d + 1) bs ++ x)) (leaf_title j ++ 10 ∷ y) (and-is d bs x) (line-is d (leaf_title j) y) e in
        let bad : 65 ≡ 32 = ap (λ (l : List ℕ). get_or l 6 0) one in
        absurd (omega (arith, bad))
    bits-split d (all_hold bs) (all_hold cs) x y h g sx sy e =
        let one = same-titles d _ _ (codes "BitmapAnd" ++ 10 ∷ (trees_text c q (d + 1) bs ++ x)) (codes "BitmapAnd" ++ 10 ∷ (trees_text c q (d + 1) cs ++ y)) (and-is d bs x) (and-is d cs y) e in
        let rest = trees-split d bs cs x y h g sx sy (ap (λ (l : List ℕ). drop 10 l) one) in
        (ap all_hold rest.0, rest.1)
    bits-split d (all_hold bs) (some_arm m vs) x y h g sx sy e =
        let one = same-titles d _ _ (codes "BitmapAnd" ++ 10 ∷ (trees_text c q (d + 1) bs ++ x)) (or_title m ++ 10 ∷ (flat_map (leaf_line c (d + 1)) vs ++ y)) (and-is d bs x) (or-is d m vs y) e in
        let bad : 65 ≡ 79 = ap (λ (l : List ℕ). get_or l 6 0) one in
        absurd (omega (arith, bad))
    bits-split d (some_arm n us) (leaf j) x y h g sx sy e = element-split d (some_arm n us) (leaf j) x y h g e
    bits-split d (some_arm n us) (all_hold bs) x y h g sx sy e =
        let one = same-titles d _ _ (or_title n ++ 10 ∷ (flat_map (leaf_line c (d + 1)) us ++ x)) (codes "BitmapAnd" ++ 10 ∷ (trees_text c q (d + 1) bs ++ y)) (or-is d n us x) (and-is d bs y) e in
        let bad : 79 ≡ 65 = ap (λ (l : List ℕ). get_or l 6 0) one in
        absurd (omega (arith, bad))
    bits-split d (some_arm n us) (some_arm m vs) x y h g sx sy e = or-split d n m us vs x y h g e

  -- the trees of a plan space are told by their lines
  module _ (bound : IsWellBound c q) (r : ℕ) (p : Set) (es : List Element) (are : ArePicked (IsElement c q r p) (candidates c q r p) es) where
    local-within : (xs : List Numbered) → AllByRecursion (IsOfTable q.classes.clauses) xs → AllByRecursion (λ (x : Numbered). x.number < length q.classes.clauses) xs
    local-within [] h = tt
    local-within (x ∷ xs) h = (h.0.within, local-within xs h.1)

    clause-told : (n : ℕ) → In (by_clause n) es → HasConjunct q n
    clause-told n i =
        let lt = clause-listed (length q.classes.clauses) n (indexes_of c (table_of_relation q r)) (local q.classes r p)
        (local-within (local q.classes r p) (enumerated q.classes.clauses _ 0 q.classes.clauses refl))
        (in-picked (IsElement c q r p) (by_clause n) (candidates c q r p) es are i) in
        or-conjunct c q bound n lt (picked-is (IsElement c q r p) (by_clause n) (candidates c q r p) es are i).is_an_or

    arm-told : (n : ℕ) (js : List IndexNo) → In (by_clause n) es → AllZip (IsMatchedBy c r) (arms_of (condition_at q n)) js → IsTold (some_arm n js)
    arm-told n js i zip = (clause-told n i, zip-made c r (arms_of (condition_at q n)) js zip, zip_long (IsMatchedBy c r) (arms_of (condition_at q n)) js zip)

    child-told : (b : BitTree) (y : Element) → element_of c q r p b ≡ Some y → In y es → IsCostableTree c q r b → IsTold b
    child-told (leaf i) y e i-in ok = ok
    child-told (all_hold bs) y e i-in ok = cc
    child-told (some_arm n js) y e i-in ok = let is : by_clause n ≡ y = cc in arm-told n js (subst (λ (x : Element). In x es) (sym is) i-in) ok

    children-told : (bs : BitTrees) (ys : List Element) → elements_of c q r p bs ≡ map Some ys → ((y : Element) → In y ys → In y es) → AreCostableTrees c q r bs → AreTold bs
    children-told no_trees ys e f ok = tt
    children-told (tree_and b bs) [] e f ok = cc
    children-told (tree_and b bs) (y ∷ ys) e f ok =
        let here : element_of c q r p b ≡ Some y = cc in
        let later : elements_of c q r p bs ≡ map Some ys = cc in
        (child-told b y here (f y (inl refl)) ok.0, children-told bs ys later (λ z i. f z (inr i)) ok.1)

  pub tree-told : IsWellBound c q → (r : ℕ) (p : Set) (bits : BitTree) → IsBitTree c q r p bits → IsCostableTree c q r bits → IsTreeTold bits
  tree-told bound r p (leaf i) is ok = ok
  tree-told bound r p (all_hold bs) is ok =
      let over = is.over in
      children-told bound r p is.elements is.are bs (items_where_true over.0 (take 8 is.elements)) over.1 (λ y i. in-taken 8 y is.elements (in-masked y over.0 (take 8 is.elements) i)) ok
  tree-told bound r p (some_arm n js) is ok =
      let at = is.over.0 in
      arm-told bound r p is.elements is.are n js (in-taken 8 (by_clause n) is.elements (in-contained (by_clause n) (take 8 is.elements) at.0 at.1 at.2)) ok
