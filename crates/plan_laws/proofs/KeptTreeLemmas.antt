-- Bitmap trees over fewer indexes: what reads only indexes that are kept is a tree over these and over all alike.
use Rattle.std.proofs.Common.{◌≡◌, ◌≤◌, ◌<◌, ℕ, Bool, true, false, cond, ◌||◌, nat_eq, nat_lt, List, [], ◌∷◌, ◌++◌, length, map, filter, take, Option, Some, Contains, map-id, true≢false, refl, sym, ap, ap₂, ◌∙◌, subst, arith}
use Prim.Native.Nat.{suc}
use Rattle.std.specs.List.{AllZip, AllByRecursion, items_where_true, list_any}
use Rattle.std.proofs.lemmas.List.{take_all}
use Rattle.std.proofs.lemmas.Bool.{eq-eqb, or_left, or_right}
use Rattle.pg_base.specs.declared.numbers.IndexNo.{IndexNo}
use Rattle.pg_expr.specs.Cond.{Cond}
use Rattle.catalog.specs.Contents.{TableDef, NamedIndex, index_at, indexes_of}
use Rattle.catalog.specs.Indexes.{Index}
use Rattle.eq_classes.specs.Clauses.{Set}
use Rattle.index_match.specs.Arms.{arms_of, is_matched}
use Rattle.index_match.specs.Numbered.{Numbered, local}
use Rattle.sql_query.specs.Queries.{Query, width}
use Rattle.plan_tree.specs.Plans.{BitTree, leaf, all_hold, some_arm, BitTrees, no_trees, tree_and}
use Rattle.plan_tree.specs.Bitmaps.{Element, by_index, by_clause, ArePicked, AreElements, AreMatchedArms, MOST_ELEMENTS, IsIndexOn, MatchesArm, IsBitTree, IsTreeOver, IsElement, HasArms, HaveArms, element_of, elements_of, condition_at, candidates, table_of_relation}
use Rattle.plan_tree.proofs.CostableLemmas.{in-contained}
use Rattle.plan_tree.proofs.ElementLemmas.{same-number}
use Rattle.plan_laws.specs.work.Fewer.{HasRoom, Keeps, some_reads, tree_reads}
use Rattle.plan_laws.specs.Moved.{over}
use Rattle.plan_laws.specs.work.Moved.{tree_moved, trees_moved}
use Rattle.plan_laws.proofs.HiddenLemmas.{is_kept, left, left-listed, on-all, on-kept, on-left, stays-at}
use Rattle.plan_laws.proofs.IndexLemmas.{conditions-same, usable-same}
use Rattle.plan_laws.proofs.PickedLemmas.{Among, all-pass, from-filter, in-contains, in-same, passes-test, same-part}
use Rattle.plan_laws.proofs.RoomLemmas.{elements-there, few-elements}
use Rattle.plan_laws.proofs.TreeLemmas.{AreOnTrees, IsOnTree, tree-on}

mutual
  pub tree-stays : (t : BitTree) → tree_moved (λ i. i) t ≡ t
  tree-stays (leaf i) = refl
  tree-stays (all_hold bs) = ap all_hold (trees-stay bs)
  tree-stays (some_arm n is) = ap (some_arm n) (map-id is)

  trees-stay : (bs : BitTrees) → trees_moved (λ i. i) bs ≡ bs
  trees-stay no_trees = refl
  trees-stay (tree_and b bs) = ap₂ tree_and (tree-stays b) (trees-stay bs)

-- a catalogue keeps what it has
stays : (tables : List TableDef) (xs : List NamedIndex) (q : Query) → Keeps (over tables xs) (over tables xs) q (λ i. i)
stays tables xs q = record { there = λ r i lt on. on; same = λ r i lt on. refl; trees = λ r p t lt h. subst (IsBitTree (over tables xs) q r p) (sym (tree-stays t)) h }

-- the indexes of a tree are on the relation's table
pub on-tree : (tables : List TableDef) (xs : List NamedIndex) (q : Query) (r : ℕ) (p : Set) (t : BitTree) → r < width q → IsBitTree (over tables xs) q r p t → IsOnTree (over tables xs) q r t
on-tree tables xs q r p t lt h = tree-on tables xs xs q (λ i. i) (stays tables xs q) r lt p t h

-- each index that a tree reads is kept
abbrev pub KeepsTree : List Bool → BitTree → Type 0
KeepsTree kept t = (i : IndexNo) → tree_reads t i ≡ true → is_kept kept i ≡ true

-- by which side of an OR it holds
pub or-cases : {P : Type 0} {b : Bool} (a : Bool) → a || b ≡ true → (a ≡ true → P) → (b ≡ true → P) → P
or-cases true e f g = f refl
or-cases false e f g = g e

-- an element is an OR, or an index that is kept
abbrev lets : List Bool → Element → Bool
lets kept (by_index i) = is_kept kept i
lets kept (by_clause n) = true

module _ (tables : List TableDef) (a b : List NamedIndex) (q : Query) (r : ℕ) (kept : List Bool)
    (on : (i : IndexNo) → is_kept kept i ≡ true → IsIndexOn (over tables a) q r i → IsIndexOn (over tables b) q r i)
    (same : (i : IndexNo) → is_kept kept i ≡ true → IsIndexOn (over tables a) q r i → index_at (over tables b) i ≡ index_at (over tables a) i) where
  match-there : (arm : Cond) (i : IndexNo) → is_kept kept i ≡ true → MatchesArm (over tables a) q r arm i → MatchesArm (over tables b) q r arm i
  match-there arm i k h = record {
    index = on i k h.index;
    usable = usable-same tables a b i i (same i k h.index) q.classes r h.usable;
    matched = ap (λ (d : Index). is_matched d r arm) (same i k h.index) ∙ h.matched;
  }

  zip-there : (arms : List Cond) (is : List IndexNo) → ((i : IndexNo) → list_any (λ (j : IndexNo). nat_eq j.0 i.0) is ≡ true → is_kept kept i ≡ true) → AllZip (MatchesArm (over tables a) q r) arms is → AllZip (MatchesArm (over tables b) q r) arms is
  zip-there [] [] k h = tt
  zip-there [] (i ∷ is) k h = h
  zip-there (x ∷ arms) [] k h = h
  zip-there (x ∷ arms) (i ∷ is) k h = (
    match-there x i (k i (ap (λ (c : Bool). c || list_any (λ (j : IndexNo). nat_eq j.0 i.0) is) (eq-eqb i.0 i.0 refl))) h.0,
    zip-there arms is (λ j e. k j (or_right (nat_eq i.0 j.0) (list_any (λ (y : IndexNo). nat_eq y.0 j.0) is) e)) h.1,
  )

  arms-matched : (arms : List Cond) (is : List IndexNo) → AllZip (MatchesArm (over tables b) q r) arms is → AreMatchedArms (over tables b) q r arms
  arms-matched [] is h = tt
  arms-matched (x ∷ arms) [] h = absurd h
  arms-matched (x ∷ arms) (i ∷ is) h = ((i, h.0), arms-matched arms is h.1)

  module _ (p : Set) where
    index-there : (i : IndexNo) → is_kept kept i ≡ true → IsIndexOn (over tables a) q r i → IsElement (over tables a) q r p (by_index i) → IsElement (over tables b) q r p (by_index i)
    index-there i k h is = (
      usable-same tables a b i i (same i k h) q.classes r is.0,
      ap (λ (cs : List Numbered). nat_lt 0 (length cs)) (conditions-same tables a b i i (same i k h) q.classes r p) ∙ is.1,
    )

    has-there : (t : BitTree) → KeepsTree kept t → HasArms (over tables a) q r p t → HasArms (over tables b) q r p t
    has-there (leaf i) k h = tt
    has-there (all_hold bs) k h = h
    has-there (some_arm n is) k h = zip-there (arms_of (condition_at q n)) is k h

    have-there : (bs : BitTrees) → KeepsTree kept (all_hold bs) → HaveArms (over tables a) q r p bs → HaveArms (over tables b) q r p bs
    have-there no_trees k h = tt
    have-there (tree_and t bs) k h = (has-there t (λ i e. k i (or_left (tree_reads t i) (some_reads bs i) e)) h.0, have-there bs (λ i e. k i (or_right (tree_reads t i) (some_reads bs i) e)) h.1)

    element-same : (t : BitTree) → element_of (over tables b) q r p t ≡ element_of (over tables a) q r p t
    element-same (leaf i) = refl
    element-same (all_hold bs) = refl
    element-same (some_arm n is) = refl

    elements-same : (bs : BitTrees) → elements_of (over tables b) q r p bs ≡ elements_of (over tables a) q r p bs
    elements-same no_trees = refl
    elements-same (tree_and t bs) = ap₂ (λ (x : Option Element) (xs : List (Option Element)). x ∷ xs) (element-same t) (elements-same bs)

    -- what is picked on each side from one list
    module _ (P Q : Element → Type 0) (whole es fs : List Element)
        (leave : (e : Element) → P e → IsElement (over tables a) q r p e)
        (enter : (e : Element) → lets kept e ≡ true → IsElement (over tables b) q r p e → Q e)
        (hp : ArePicked P whole es) (hq : ArePicked Q whole fs) where
      one-there : (t : BitTree) (e : Element) → IsOnTree (over tables a) q r t → KeepsTree kept t → HasArms (over tables a) q r p t → P e → element_of (over tables a) q r p t ≡ Some e → Q e
      one-there (leaf i) e at k arms is found =
          let there : by_index i ≡ e = cc in
          let mine = k i (eq-eqb i.0 i.0 refl) in
          subst Q there (enter (by_index i) mine (index-there i mine at (leave (by_index i) (subst P (sym there) is))))
      one-there (all_hold bs) e at k arms is found = absurd arms
      one-there (some_arm n is) e at k arms here found =
          let there : by_clause n ≡ e = cc in
          let was = leave (by_clause n) (subst P (sym there) here) in
          subst Q there (enter (by_clause n) refl (record { is_an_or = was.is_an_or; arms = arms-matched (arms_of (condition_at q n)) is (zip-there (arms_of (condition_at q n)) is k arms) }))

      all-there : (xs : List Element) (bs : BitTrees) → AreOnTrees (over tables a) q r bs → KeepsTree kept (all_hold bs) → HaveArms (over tables a) q r p bs → AllByRecursion P xs → elements_of (over tables a) q r p bs ≡ map Some xs → AllByRecursion Q xs
      all-there [] no_trees at k arms all found = tt
      all-there (e ∷ xs) no_trees at k arms all found = cc
      all-there [] (tree_and t bs) at k arms all found = tt
      all-there (e ∷ xs) (tree_and t bs) at k arms all found =
          let head : element_of (over tables a) q r p t ≡ Some e = cc in
          let tail : elements_of (over tables a) q r p bs ≡ map Some xs = cc in (
            one-there t e at.0 (λ i f. k i (or_left (tree_reads t i) (some_reads bs i) f)) arms.0 all.0 head,
            all-there xs bs at.1 (λ i f. k i (or_right (tree_reads t i) (some_reads bs i) f)) arms.1 all.1 tail,
          )

      contained : (t : BitTree) (e : Element) → IsOnTree (over tables a) q r t → KeepsTree kept t → HasArms (over tables a) q r p t → element_of (over tables a) q r p t ≡ Some e → Contains es e → Contains fs e
      contained t e at k arms found h =
          let here = in-contained e es h.0 h.1 h.2 in
          in-contains e fs (in-same P Q e whole es fs hp hq (one-there t e at k arms (passes-test P e whole es hp here) found) here)

      over-there : (t : BitTree) → IsOnTree (over tables a) q r t → KeepsTree kept t → IsTreeOver (over tables a) q r p es t → IsTreeOver (over tables b) q r p fs t
      over-there (leaf i) at k h = contained (leaf i) (by_index i) at k tt refl h
      over-there (some_arm n is) at k h = (contained (some_arm n is) (by_clause n) at k h.1 refl h.0, zip-there (arms_of (condition_at q n)) is k h.1)
      over-there (all_hold bs) at k h =
          let part = same-part P Q h.0 whole es fs hp hq (all-there (items_where_true h.0 es) bs at k h.3 (all-pass P h.0 whole es hp) h.1) in (
            part.0,
            elements-same bs ∙ h.1 ∙ ap (map Some) (sym part.1),
            subst (λ (xs : List (Option Element)). 2 ≤ length xs) (sym (elements-same bs)) h.2,
            have-there bs k h.3,
          )

      pub tree-there : (t : BitTree) → length es ≤ MOST_ELEMENTS → length fs ≤ MOST_ELEMENTS → AreElements (over tables b) q r p fs → IsOnTree (over tables a) q r t → KeepsTree kept t → IsTreeOver (over tables a) q r p (take MOST_ELEMENTS es) t → IsBitTree (over tables b) q r p t
      tree-there t few many are at k h = record {
        elements = fs;
        are = are;
        over = subst (λ (xs : List Element). IsTreeOver (over tables b) q r p xs t) (sym (take_all MOST_ELEMENTS fs many))
            (over-there t at k (subst (λ (xs : List Element). IsTreeOver (over tables a) q r p xs t) (take_all MOST_ELEMENTS es few) h));
      }

-- the candidates that are left
lets-clauses : (kept : List Bool) (cs : List Numbered) → map (λ (k : Numbered). by_clause k.number) cs ≡ filter (lets kept) (map (λ (k : Numbered). by_clause k.number) cs)
lets-clauses kept [] = refl
lets-clauses kept (k ∷ cs) = ap (λ (xs : List Element). by_clause k.number ∷ xs) (lets-clauses kept cs)

lets-indexes : (kept : List Bool) (is : List IndexNo) (cs : List Numbered) → map by_index (filter (is_kept kept) is) ++ map (λ (k : Numbered). by_clause k.number) cs ≡ filter (lets kept) (map by_index is ++ map (λ (k : Numbered). by_clause k.number) cs)
lets-indexes kept [] cs = lets-clauses kept cs
lets-indexes kept (i ∷ is) cs = by (is_kept kept i) (lets-indexes kept is cs)
  where
    by : (b : Bool) → map by_index (filter (is_kept kept) is) ++ map (λ (k : Numbered). by_clause k.number) cs ≡ filter (lets kept) (map by_index is ++ map (λ (k : Numbered). by_clause k.number) cs) →
        map by_index (cond b (i ∷ filter (is_kept kept) is) (filter (is_kept kept) is)) ++ map (λ (k : Numbered). by_clause k.number) cs
        ≡ cond b (by_index i ∷ filter (lets kept) (map by_index is ++ map (λ (k : Numbered). by_clause k.number) cs)) (filter (lets kept) (map by_index is ++ map (λ (k : Numbered). by_clause k.number) cs))
    by true e = ap (λ (xs : List Element). by_index i ∷ xs) e
    by false e = e

length-kept : (K : IndexNo → Bool) (is : List IndexNo) → length (filter K is) ≤ length is
length-kept K [] = omega arith
length-kept K (i ∷ is) = by (K i) (length-kept K is)
  where
    by : (b : Bool) → length (filter K is) ≤ length is → length (cond b (i ∷ filter K is) (filter K is)) ≤ suc (length is)
    by true h = omega (arith, h)
    by false h = omega (arith, h)

module _ (tables : List TableDef) (q : Query) (kept : List Bool) (xs : List NamedIndex) (room : HasRoom (over tables xs) q) where
  room-left : HasRoom (over tables (left tables q kept xs)) q
  room-left r lt =
      let fewer = length-kept (is_kept kept) (indexes_of (over tables xs) (table_of_relation q r)) in
      let same = ap length (left-listed tables q kept xs r lt) in
      let few = room r lt in
      omega (arith, fewer, same, few)

  module _ (r : ℕ) (lt : r < width q) (p : Set) where
    candidates-left : candidates (over tables (left tables q kept xs)) q r p ≡ filter (lets kept) (candidates (over tables xs) q r p)
    candidates-left =
        ap (λ (is : List IndexNo). map by_index is ++ map (λ (k : Numbered). by_clause k.number) (local q.classes r p)) (left-listed tables q kept xs r lt)
        ∙ lets-indexes kept (indexes_of (over tables xs) (table_of_relation q r)) (local q.classes r p)

    from-left : (es : List Element) → AreElements (over tables (left tables q kept xs)) q r p es → ArePicked (Among (lets kept) (IsElement (over tables (left tables q kept xs)) q r p)) (candidates (over tables xs) q r p) es
    from-left es h = from-filter (lets kept) (IsElement (over tables (left tables q kept xs)) q r p) (candidates (over tables xs) q r p) es
        (subst (λ (us : List Element). ArePicked (IsElement (over tables (left tables q kept xs)) q r p) us es) candidates-left h)

    one-kept : (i j : IndexNo) → IsIndexOn (over tables (left tables q kept xs)) q r i → nat_eq i.0 j.0 ≡ true → is_kept kept j ≡ true
    one-kept i j h e = subst (λ (n : ℕ). is_kept kept (record { 0 = n }) ≡ true) (same-number i.0 j.0 e) (on-kept tables q kept xs r i lt h)

    arms-kept : (arms : List Cond) (is : List IndexNo) → AllZip (MatchesArm (over tables (left tables q kept xs)) q r) arms is → (j : IndexNo) → list_any (λ (i : IndexNo). nat_eq i.0 j.0) is ≡ true → is_kept kept j ≡ true
    arms-kept [] [] h j e = absurd (true≢false (sym e))
    arms-kept [] (i ∷ is) h j e = absurd h
    arms-kept (x ∷ arms) [] h j e = absurd h
    arms-kept (x ∷ arms) (i ∷ is) h j e = or-cases (nat_eq i.0 j.0) e (one-kept i j h.0.index) (arms-kept arms is h.1 j)

    mutual
      keeps-on : (t : BitTree) → IsOnTree (over tables (left tables q kept xs)) q r t → (j : IndexNo) → tree_reads t j ≡ true → is_kept kept j ≡ true
      keeps-on (leaf i) h j e = one-kept i j h e
      keeps-on (all_hold bs) h j e = keep-on bs h j e
      keeps-on (some_arm n is) h j e = arms-kept (arms_of (condition_at q n)) is h j e

      keep-on : (bs : BitTrees) → AreOnTrees (over tables (left tables q kept xs)) q r bs → (j : IndexNo) → some_reads bs j ≡ true → is_kept kept j ≡ true
      keep-on no_trees h j e = absurd (true≢false (sym e))
      keep-on (tree_and t bs) h j e = or-cases (tree_reads t j) e (keeps-on t h.0 j) (keep-on bs h.1 j)

    -- a tree of what is left is one of all
    pub tree-all : (t : BitTree) → IsBitTree (over tables (left tables q kept xs)) q r p t → IsBitTree (over tables xs) q r p t
    tree-all t h =
        let all = elements-there (over tables xs) q r p (candidates (over tables xs) q r p) in
        let at = on-tree tables (left tables q kept xs) q r p t lt h in
        tree-there tables (left tables q kept xs) xs q r kept
        (λ i k on. on-all tables q kept xs r i lt on)
        (λ i k on. sym (stays-at tables q kept xs i (on-all tables q kept xs r i lt on).made k))
        p (Among (lets kept) (IsElement (over tables (left tables q kept xs)) q r p)) (IsElement (over tables xs) q r p) (candidates (over tables xs) q r p) h.elements all.0
        (λ e is. is.1) (λ e k is. is) (from-left h.elements h.are) all.1
        t (few-elements (over tables (left tables q kept xs)) q r p room-left lt h.elements h.are) (few-elements (over tables xs) q r p room lt all.0 all.1) all.1
        at (keeps-on t at) h.over

    -- a tree that reads only what is kept is one of what is left
    pub tree-left : (t : BitTree) → KeepsTree kept t → IsBitTree (over tables xs) q r p t → IsBitTree (over tables (left tables q kept xs)) q r p t
    tree-left t k h =
        let some = elements-there (over tables (left tables q kept xs)) q r p (candidates (over tables (left tables q kept xs)) q r p) in
        tree-there tables xs (left tables q kept xs) q r kept
        (λ i f on. on-left tables q kept xs r i f on)
        (λ i f on. stays-at tables q kept xs i on.made f)
        p (IsElement (over tables xs) q r p) (Among (lets kept) (IsElement (over tables (left tables q kept xs)) q r p)) (candidates (over tables xs) q r p) h.elements some.0
        (λ e is. is) (λ e f is. (f, is)) h.are (from-left some.0 some.1)
        t (few-elements (over tables xs) q r p room lt h.elements h.are) (few-elements (over tables (left tables q kept xs)) q r p room-left lt some.0 some.1) some.1
        (on-tree tables xs q r p t lt h) k h.over
