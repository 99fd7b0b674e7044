-- Lists by which the entries of two sets may be merged, and what is said of all of them.
use Rattle.std.proofs.Common.{◌≡◌, ◌≢◌, ◌<◌, ◌≤◌, ℕ, Bool, true, false, ◌&&◌, nat_eq, List, [], ◌∷◌, length, map, take, get_or, zero, suc, refl, sym, ap, subst, subst₂, ◌∙◌, arith}
use Rattle.std.specs.Prelude.{Option, Some, None, MatchOption, option_map, slice_get}
use Rattle.std.specs.List.{list_any}
use Rattle.std.proofs.lemmas.List.{length-map}
use Rattle.std.proofs.lemmas.List.Quantifiers.{all_pairs_push}
use Rattle.std.proofs.lemmas.Bool.{and_parts}
use Rattle.pg_base.specs.Sets.{has}
use Rattle.catalog.specs.Contents.{Contents}
use Rattle.eq_classes.specs.Clauses.{Set, ClassTable}
use Rattle.eq_classes.specs.Parts.{joining_from}
use Rattle.eq_classes.specs.work.Parts.{first_four}
use Rattle.eq_classes.specs.declared.classes.ClassNo.{ClassNo}
use Rattle.sql_query.specs.Queries.{Query}
use Rattle.pathkeys.specs.work.Finding.{class_numbers}
use Rattle.pathkeys.specs.Keys.{AreDifferent, Keys}
use Rattle.plan_tree.specs.Space.{IsMergeList}
use Rattle.entry_check.specs.plan_space_JoinLemmas.{found-four}
use Rattle.plan_check.specs.Certificates.{Certificate}
use Rattle.plan_check.specs.Reasons.{AllRight}
use Rattle.plan_check.specs.declared.verdict.Plain.{Plain}
use Rattle.plan_check.proofs.MergeLemmas.{built-merge}
use Rattle.join_cover.specs.work.Serving.{AreListsOf, AreMergesBy, AreMergesOf, AreThirdsServed, IsFirstServed, IsSecondServed}
use Rattle.join_cover.specs.declared.uncovered.Uncovered.{Uncovered}
use Rattle.join_cover.proofs.CoverLemmas.{right-at}
use Rattle.join_cover.proofs.WalkLemmas.{IsFound, any-found, found-any}

-- lists of one, two and three classes
different-one : (x : ℕ) → AreDifferent (x ∷ [])
different-one x i j d lt within = absurd (omega (arith, lt, within))

apart-one : (x y : ℕ) → y ≢ x → (k d : ℕ) → k < length (x ∷ []) → get_or (x ∷ []) k d ≢ y
apart-one x y e zero d lt = λ same. e (sym same)
apart-one x y e (suc k) d lt = absurd (omega (arith, lt))

apart-two : (x y z : ℕ) → z ≢ x → z ≢ y → (k d : ℕ) → k < length (x ∷ y ∷ []) → get_or (x ∷ y ∷ []) k d ≢ z
apart-two x y z e f zero d lt = λ same. e (sym same)
apart-two x y z e f (suc k) d lt = apart-one y z f k d (omega (arith, lt))

pub different-two : (x y : ℕ) → y ≢ x → AreDifferent (x ∷ y ∷ [])
different-two x y e = all_pairs_push (λ a b. a ≢ b) (x ∷ []) y (different-one x) (apart-one x y e)

pub different-three : (x y z : ℕ) → AreDifferent (x ∷ y ∷ []) → z ≢ x → z ≢ y → AreDifferent (x ∷ y ∷ z ∷ [])
different-three x y z h e f = all_pairs_push (λ a b. a ≢ b) (x ∷ y ∷ []) z h (apart-two x y z e f)

both-two : (a b : Bool) → a && true ≡ true → b && true ≡ true → a && (b && true) ≡ true
both-two true b e f = f
both-two false b e f = e

both-three : (a b c : Bool) → a && (b && true) ≡ true → c && true ≡ true → a && (b && (c && true)) ≡ true
both-three true true c e f = f
both-three true false c e f = e
both-three false b c e f = e

first-part : (a b : Bool) → a && b ≡ true → a ≡ true
first-part true b e = refl
first-part false b e = e

module _ (c : Contents) (q : Query) (a b : Set) where
  pub list-two : (x y : ℕ) → IsMergeList c q a b (x ∷ []) → IsMergeList c q a b (y ∷ []) → y ≢ x → IsMergeList c q a b (x ∷ y ∷ [])
  list-two x y f g e = record {
    some = omega arith;
    few = omega arith;
    different = different-two x y e;
    joining = both-two _ _ f.joining g.joining;
  }

  pub list-three : (x y z : ℕ) → IsMergeList c q a b (x ∷ y ∷ []) → IsMergeList c q a b (z ∷ []) → z ≢ x → z ≢ y → IsMergeList c q a b (x ∷ y ∷ z ∷ [])
  list-three x y z f g e e' = record {
    some = omega arith;
    few = omega arith;
    different = different-three x y z f.different e e';
    joining = both-three _ _ _ f.joining g.joining;
  }

  -- a list of a merge has three classes at most
  pub few-classes : (cs : List ClassNo) → IsMergeList c q a b (class_numbers cs) → length cs ≤ 3
  few-classes cs h =
      let few : length (class_numbers cs) ≤ 3 = h.few in
      let long = length-map cs (λ (x : ClassNo). x.0) in
      omega (arith, few, long)

module _ (c : Contents) (q : Query) (t : Certificate) (k l : ℕ) where
  module _ (found : List (Option ClassNo)) (r : Option (Plain × Uncovered)) (S : Plain × Uncovered → Type 0) where
    -- the lists that begin with two classes, and those that begin with one
    pub second-served : (x y : ClassNo) → AreMergesBy c q t (x.0 ∷ y.0 ∷ []) k l → MatchOption r (AreThirdsServed c q t found x y k l) S → MatchOption r (IsSecondServed c q t found x y k l) S
    second-served x y list h = by r h
      where
        by : (s : Option (Plain × Uncovered)) → MatchOption s (AreThirdsServed c q t found x y k l) S → MatchOption s (IsSecondServed c q t found x y k l) S
        by None thirds = λ ne. (list, thirds)
        by (Some u) open' = open'

    pub first-served : (x : ClassNo) → AreMergesBy c q t (x.0 ∷ []) k l → MatchOption r ((n : ℕ) (y : ClassNo) → slice_get found n ≡ Some (Some y) → IsSecondServed c q t found x y k l) S → MatchOption r (IsFirstServed c q t found x k l) S
    first-served x list h = by r h
      where
        by : (s : Option (Plain × Uncovered)) → MatchOption s ((n : ℕ) (y : ClassNo) → slice_get found n ≡ Some (Some y) → IsSecondServed c q t found x y k l) S → MatchOption s (IsFirstServed c q t found x k l) S
        by None seconds = (list, seconds)
        by (Some u) open' = open'

  module _ (found : List (Option ClassNo)) (classes : ClassTable) (same : classes ≡ q.classes) (four : map (option_map (λ (n : ClassNo). n.0)) found ≡ first_four (joining_from (has k) (has l) 0 classes.classes)) where
    first : map (option_map (λ (n : ClassNo). n.0)) found ≡ first_four (joining_from (has k) (has l) 0 q.classes.classes)
    first = four ∙ ap (λ (x : ClassTable). first_four (joining_from (has k) (has l) 0 x.classes)) same

    -- what was found are classes that join the two sets
    pub lists-of : AreListsOf c q found k l
    lists-of n x is =
        let js = joining_from (has k) (has l) 0 q.classes.classes in
        let any : list_any (nat_eq x.0) (take 4 js) ≡ true = sym (found-four x.0 js found first) ∙ found-any x.0 found n x is refl in
        record { some = omega arith; few = omega arith; different = different-one x.0; joining = ap (λ b. b && true) any }

    among : (n : ℕ) → list_any (nat_eq n) (take 4 (joining_from (has k) (has l) 0 q.classes.classes)) ≡ true → IsFound found n
    among n e = any-found n found (found-four n (joining_from (has k) (has l) 0 q.classes.classes) found first ∙ e)

    module _ (served : (n : ℕ) (x : ClassNo) → slice_get found n ≡ Some (Some x) → IsFirstServed c q t found x k l) where
      by-one : (x : ℕ) → IsFound found x → AreMergesBy c q t (x ∷ []) k l
      by-one x f = subst (λ n. AreMergesBy c q t (n ∷ []) k l) f.same (served f.place f.class f.is).0

      by-two : (x y : ℕ) → IsFound found x → IsFound found y → y ≢ x → AreMergesBy c q t (x ∷ y ∷ []) k l
      by-two x y f g e =
          let h = (served f.place f.class f.is).1 g.place g.class g.is in
          subst₂ (λ m n. n ≢ m → AreMergesBy c q t (m ∷ n ∷ []) k l) f.same g.same (λ ne. (h ne).0) e

      by-three : (x y z : ℕ) → IsFound found x → IsFound found y → IsFound found z → y ≢ x → z ≢ x → z ≢ y → AreMergesBy c q t (x ∷ y ∷ z ∷ []) k l
      by-three x y z f g i e =
          let h = (served f.place f.class f.is).1 g.place g.class g.is in
          let r : y ≢ x → i.class.0 ≢ x → i.class.0 ≢ y → AreMergesBy c q t (x ∷ y ∷ i.class.0 ∷ []) k l =
          subst₂ (λ m n. n ≢ m → i.class.0 ≢ m → i.class.0 ≢ n → AreMergesBy c q t (m ∷ n ∷ i.class.0 ∷ []) k l) f.same g.same (λ ne. (h ne).1 i.place i.class i.is) in
          subst (λ n. n ≢ x → n ≢ y → AreMergesBy c q t (x ∷ y ∷ n ∷ []) k l) i.same (r e)

      by-list : (keys : Keys) → IsMergeList c q (has k) (has l) keys → AreMergesBy c q t keys k l
      by-list [] m = let some : 1 ≤ 0 = m.some in absurd (omega (arith, some))
      by-list (x ∷ []) m = by-one x (among x (first-part _ _ m.joining))
      by-list (x ∷ y ∷ []) m =
          let one : 0 < 1 = omega arith in
          let two : 1 < 2 = omega arith in
          let rest = (and_parts _ _ m.joining).1 in
          by-two x y (among x (first-part _ _ m.joining)) (among y (first-part _ _ rest)) (λ e. m.different 0 1 0 one two (sym e))
      by-list (x ∷ y ∷ z ∷ []) m =
          let one : 0 < 1 = omega arith in
          let one' : 0 < 2 = omega arith in
          let two : 1 < 3 = omega arith in
          let two' : 1 < 2 = omega arith in
          let three : 2 < 3 = omega arith in
          let rest = (and_parts _ _ m.joining).1 in
          let last = (and_parts _ _ rest).1 in
          by-three x y z (among x (first-part _ _ m.joining)) (among y (first-part _ _ rest)) (among z (first-part _ _ last))
          (λ e. m.different 0 1 0 one two (sym e)) (λ e. m.different 0 2 0 one' three (sym e)) (λ e. m.different 1 2 0 two' three (sym e))
      by-list (x ∷ y ∷ z ∷ w ∷ keys) m = let few : length (x ∷ y ∷ z ∷ w ∷ keys) ≤ 3 = m.few in absurd (omega (arith, few))

      -- the merges by the lists of what was found are all merges of the two
      pub merges-of : AllRight c q t → AreMergesOf c q t k l
      merges-of right keys m n is is' sa sb o i eo ei built =
          let may = built-merge c q keys is.entry is'.entry sa sb o i (right-at c q t right m is.entry o is.stands eo) (right-at c q t right n is'.entry i is'.stands ei) built in
          by-list keys (subst₂ (λ (x y : ℕ). IsMergeList c q (has x) (has y) keys) is.same is'.same may.list) m n is is' sa sb o i eo ei built

    -- what a walk over the classes found says of the lists holds of all merges of the two
    pub walked : AllRight c q t → (r : Option (Plain × Uncovered)) (S : Plain × Uncovered → Type 0) → MatchOption r ((n : ℕ) (x : ClassNo) → slice_get found n ≡ Some (Some x) → IsFirstServed c q t found x k l) S → MatchOption r (AreMergesOf c q t k l) S
    walked right None S h = merges-of h right
    walked right (Some x) S h = h
