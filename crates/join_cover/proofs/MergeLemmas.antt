-- Merges of the entries of two sets, from what these have in common.
use Rattle.std.proofs.Common.{◌≡◌, ◌<◌, ◌≤◌, ◌+◌, ℕ, List, length, map, min, sym, subst, ap, arith, ◌∙◌}
use Rattle.std.specs.Prelude.{MatchOption, Option, Some, None}
use Rattle.pg_base.specs.Sets.{has}
use Rattle.pg_base.specs.declared.rel_set.RelSet.{RelSet}
use Rattle.catalog.specs.Contents.{Contents}
use Rattle.eq_classes.specs.declared.classes.ClassNo.{ClassNo}
use Rattle.sql_query.specs.Queries.{Query}
use Rattle.pathkeys.specs.work.Finding.{class_numbers}
use Rattle.plan_tree.specs.Space.{IsMergeList}
use Rattle.plan_check.specs.Certificates.{Certificate, Entry}
use Rattle.plan_check.specs.work.Views.{entry}
use Rattle.plan_check.specs.declared.entry.Entry.{Entry as Entered}
use Rattle.entry_check.specs.declared.merges.MergeWork.{MergeWork}
use Rattle.entry_check.specs.declared.nests.NestWork.{NestWork}
use Rattle.plan_check.specs.work.Placing.{ArePlaced, IsOf, first_of, order_of, past_of, place_at}
use Rattle.plan_check.specs.declared.places.SetPlaces.{SetPlaces}
use Rattle.plan_check.specs.declared.verdict.Plain.{Plain}
use Rattle.plan_check.specs.declared.verdict.Plain.TheVariants as plain
use Rattle.plan_check.proofs.PlacedLemmas.{each-of}
use Rattle.join_cover.specs.work.Leasts.{IsLeastFrom}
use Rattle.join_cover.specs.work.Serving.{AreMergesBy, AreNestsBy, AreNestsOf, IsNestServed, IsMergeBy, IsMergeOfSets, IsNumberOf, IsOpen, AreSides}
use Rattle.join_cover.specs.declared.uncovered.Uncovered.{Uncovered}
use Rattle.pg_base.proofs.NumberLemmas.{each-below as below-next}

-- the places of the entries as they were read
pub placed-read : (t : Certificate) (xs items : List Entered) (p : SetPlaces) → t.entries ≡ map entry xs → items ≡ xs → ArePlaced t.entries p → ArePlaced (map entry items) p
placed-read t xs items p es same h = subst (λ (ys : List Entry). ArePlaced ys p) (es ∙ sym (ap (map entry) same)) h

-- the least of them
pub least-read : (t : Certificate) (xs items : List Entered) → t.entries ≡ map entry xs → items ≡ xs → (s : ℕ) (p : SetPlaces) (from i : ℕ) (found : Option (ℕ × ℕ)) → IsLeastFrom (map entry items) s p from i found → IsLeastFrom t.entries s p from i found
least-read t xs items es same s p from i found h = subst (λ (ys : List Entry). IsLeastFrom ys s p from i found) (ap (map entry) same ∙ sym es) h

-- the place at a rank is one of an entry
pub there-at : (es : List Entry) (p : SetPlaces) (i n : ℕ) → ArePlaced es p → i < length (order_of p) → n ≡ place_at p i → n < length es
there-at es p i n placed lt is = subst (λ m. m < length es) (sym is) (placed.there i lt)

-- from one rank on, one rank more
pub below-from : (P : ℕ → Type 0) (from n : ℕ) → ((k : ℕ) → from ≤ k → k < n → P k) → P n → (k : ℕ) → from ≤ k → k < n + 1 → P k
below-from P from n h here k le lt = below-next (λ m. from ≤ m → P m) n (λ m less le'. h m le' less) (λ le'. here) k lt le

-- a place past the last of some is no further than they go
pub past-within : (past a count long : ℕ) → past ≡ min a count → count ≡ long → past ≤ long
past-within past a count long e f = omega (arith, e, f)

-- what a walk says, from what it says of each
pub weaker : {X : Type 0} (r : Option X) (P Q : Type 0) (S : X → Type 0) → (P → Q) → MatchOption r P S → MatchOption r Q S
weaker None P Q S f h = f h
weaker (Some x) P Q S f h = h

-- the nested loops at all places of two sets are all of their entries
module _ (c : Contents) (q : Query) (t : Certificate) (p : SetPlaces) (placed : ArePlaced t.entries p) where
  nests-at : (x y : ℕ) (a b : ℕ × ℕ) → a.0 ≡ first_of p x → a.1 ≡ min (past_of p x) (length (order_of p)) → b.0 ≡ first_of p y → b.1 ≡ min (past_of p y) (length (order_of p)) → AreNestsBy c q t p x y a b → AreNestsOf c q t x y
  nests-at x y a b f g f' g' h k l is is' =
      each-of t.entries p x a.0 a.1 (λ m. IsOf t.entries x m → IsNestServed c q t m l) placed f g
      (λ m le lt of. each-of t.entries p y b.0 b.1 (λ n. IsOf t.entries y n → IsNestServed c q t (place_at p m) n) placed f' g' (λ n le' lt' of'. h m n le lt le' lt' of of') l is' is') k is is

  pub nests-of : (w : NestWork) (x y : RelSet) → w.outer ≡ x → w.inner ≡ y → (a b : ℕ × ℕ) → a.0 ≡ first_of p x.0 → a.1 ≡ min (past_of p x.0) (length (order_of p)) → b.0 ≡ first_of p y.0 → b.1 ≡ min (past_of p y.0) (length (order_of p)) →
      (r : Option (ℕ × ℕ × Uncovered)) → MatchOption r (AreNestsBy c q t p w.outer.0 w.inner.0 a b) (λ u. AreSides t w.outer.0 w.inner.0 u.0 u.1 × IsOpen c q t (plain.Nest u.0 u.1) u.2) →
      MatchOption r (AreNestsOf c q t x.0 y.0) (λ u. AreSides t x.0 y.0 u.0 u.1 × IsOpen c q t (plain.Nest u.0 u.1) u.2)
  nests-of w x y outer inner a b f g f' g' (Some u) h = (
    (subst (λ (s : RelSet). IsNumberOf t s.0 u.0) outer h.0.0, subst (λ (s : RelSet). IsNumberOf t s.0 u.1) inner h.0.1),
    h.1,
  )
  nests-of w x y outer inner a b f g f' g' None h =
      nests-at x.0 y.0 a b f g f' g'
      (subst (λ (s : RelSet). AreNestsBy c q t p s.0 y.0 a b) outer (subst (λ (s : RelSet). AreNestsBy c q t p w.outer.0 s.0 a b) inner h))

module _ (c : Contents) (q : Query) (w : MergeWork) (list : List ClassNo) (x y : RelSet) (is : w.list.now ≡ list) (outer : w.outer ≡ x) (inner : w.inner ≡ y) where
  pub list-by : IsMergeList c q (has x.0) (has y.0) (class_numbers list) → IsMergeList c q (has w.outer.0) (has w.inner.0) (class_numbers w.list.now)
  list-by h =
      subst (λ (xs : List ClassNo). IsMergeList c q (has w.outer.0) (has w.inner.0) (class_numbers xs)) (sym is)
      (subst (λ (s : RelSet). IsMergeList c q (has s.0) (has w.inner.0) (class_numbers list)) (sym outer)
      (subst (λ (s : RelSet). IsMergeList c q (has x.0) (has s.0) (class_numbers list)) (sym inner) h))

  pub merges-by : (t : Certificate) (r : Option (Plain × Uncovered)) →
      MatchOption r (AreMergesBy c q t (class_numbers w.list.now) w.outer.0 w.inner.0) (λ u. IsMergeBy t (class_numbers w.list.now) w.outer.0 w.inner.0 u.0 × IsOpen c q t u.0 u.1) →
      MatchOption r (AreMergesBy c q t (class_numbers list) x.0 y.0) (λ u. IsMergeOfSets t x.0 y.0 u.0 × IsOpen c q t u.0 u.1)
  merges-by t (Some u) h = (
    (
      class_numbers w.list.now,
      subst (λ (s : RelSet). IsMergeBy t (class_numbers w.list.now) s.0 y.0 u.0) outer
          (subst (λ (s : RelSet). IsMergeBy t (class_numbers w.list.now) w.outer.0 s.0 u.0) inner h.0),
    ),
    h.1,
  )
  merges-by t None h =
      subst (λ (xs : List ClassNo). AreMergesBy c q t (class_numbers xs) x.0 y.0) is
      (subst (λ (s : RelSet). AreMergesBy c q t (class_numbers w.list.now) s.0 y.0) outer
      (subst (λ (s : RelSet). AreMergesBy c q t (class_numbers w.list.now) w.outer.0 s.0) inner h))
