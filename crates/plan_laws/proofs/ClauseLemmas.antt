-- What a well bound query's parts of its clause list say at tuples of a world.
use Rattle.std.proofs.Common.{◌≡◌, [], ℕ, ◌<◌, Bool, true, false, cond, ◌&&◌, sym, ap, ◌∙◌, ⊎_elim, All}
use Rattle.std.specs.Prelude.{slice_index_or}
use Rattle.std.proofs.lemmas.Bool.{cases_Bool, true≢false}
use Rattle.pg_expr.specs.Typed.{IsTyped}
use Rattle.catalog.specs.Range.{type_in}
use Rattle.eq_classes.specs.Clauses.{Set, one}
use Rattle.eq_classes.specs.Parts.{union, is_all, is_base, is_join, is_param, is_join_param}
use Rattle.eq_classes.specs.Holding.{AreApart, IsWithin}
use Rattle.eq_classes.specs.work.Holding.{AgreeOn, Fits}
use Rattle.eq_classes.proofs.WrittenLemmas.{in_typed}
use Rattle.plan_laws.proofs.LocalLemmas.{all_reads, base_reads, param_reads}
use Rattle.plan_laws.proofs.PartLemmas.{base_at, local_at, params_at, split_at}
use Rattle.sql_query.specs.Queries.{Query, width}
use Rattle.sql_query.specs.Tuples.{Tuple, row_of, merged, rows_of_relation, value_at}
use Rattle.sql_query.specs.WellBound.{given_with, IsWellBound}
use Rattle.sql_query.specs.Worlds.{World, IsWorld}
use Rattle.plan_laws.proofs.FitsLemmas.{values_fit}
use Rattle.plan_tree.specs.Entries.{cell}
use Rattle.plan_laws.specs.work.Meant.{HaveSameRows, holds_at}
use Rattle.plan_laws.proofs.TupleLemmas.{row_at}

module _ (w : World) (q : Query) where
  -- a set of relations of the query
  abbrev pub IsOfQuery : Set → Type 0
  IsOfQuery a = (k : ℕ) → a k ≡ true → k < width q

  pub agree : (a : Set) (s t : Tuple) → HaveSameRows a s t → AgreeOn a (value_at w q s) (value_at w q t)
  agree a s t h = λ x is. ap (λ (row : ℕ). cell (slice_index_or (rows_of_relation w q x.rel) row []) x.col) (h x.rel.0 is)

  -- the rows of a merged tuple
  pub merged_left : (a : Set) (s u : Tuple) → IsOfQuery a → HaveSameRows a (merged q a s u) s
  merged_left a s u of k is = row_at (width q) (λ j. cond (a j) (row_of s j) (row_of u j)) k (of k is) ∙ ap (λ (v : Bool). cond v (row_of s k) (row_of u k)) is

  pub merged_right : (a b : Set) (s u : Tuple) → AreApart a b → IsOfQuery b → HaveSameRows b (merged q a s u) u
  merged_right a b s u apart of k is =
      row_at (width q) (λ j. cond (a j) (row_of s j) (row_of u j)) k (of k is)
      ∙ ap (λ (v : Bool). cond v (row_of s k) (row_of u k)) (⊎_elim (λ (in_a : a k ≡ true). absurd (true≢false (sym is ∙ apart k in_a))) (λ (out : a k ≡ false). out) (cases_Bool (a k)))

  module _ (world : IsWorld w) (bound : IsWellBound w.contents q) where
    pub fits : (t : Tuple) → Fits (type_in w.contents q.range) (value_at w q t)
    fits t = values_fit w q t world

    pub typed : All (IsTyped (type_in w.contents q.range)) (given_with w.contents q bound.items).conjuncts
    typed = in_typed (type_in w.contents q.range) q.where_all bound.typed

    pub all_splits : (t : Tuple) (a b : Set) → AreApart a b → holds_at w q t (is_all (union a b)) ≡ holds_at w q t (is_all a) && (holds_at w q t (is_all b) && holds_at w q t (is_join a b))
    all_splits t a b apart = split_at (given_with w.contents q bound.items) q.classes bound.classes (value_at w q t) typed (fits t) a b apart

    pub params_split : (t : Tuple) (a p : Set) (r : ℕ) → IsWithin p a → a r ≡ false → holds_at w q t (is_all a) ≡ true
        → holds_at w q t (is_join a (one r)) ≡ holds_at w q t (is_param r p) && holds_at w q t (is_join_param a r p)
    params_split t a p r part out h = params_at (given_with w.contents q bound.items) q.classes bound.classes (value_at w q t) typed (fits t) a p r part out h

    pub one_is_base : (t : Tuple) (r : ℕ) → holds_at w q t (is_all (one r)) ≡ holds_at w q t (is_base r)
    one_is_base t r = base_at (given_with w.contents q bound.items) q.classes bound.classes (value_at w q t) r

    pub local_all : (s t : Tuple) (a : Set) → HaveSameRows a s t → holds_at w q s (is_all a) ≡ holds_at w q t (is_all a)
    local_all s t a same =
        let g = given_with w.contents q bound.items in
        local_at g q.classes bound.classes a (is_all a) (all_reads g.type_of g.conjuncts q.classes.classes a) (value_at w q s) (value_at w q t) (agree a s t same)

    pub local_base : (s t : Tuple) (r : ℕ) → HaveSameRows (one r) s t → holds_at w q s (is_base r) ≡ holds_at w q t (is_base r)
    local_base s t r same =
        let g = given_with w.contents q bound.items in
        local_at g q.classes bound.classes (one r) (is_base r) (base_reads g.type_of g.conjuncts q.classes.classes r) (value_at w q s) (value_at w q t) (agree (one r) s t same)

    pub local_param : (s t : Tuple) (r : ℕ) (p : Set) → HaveSameRows (union (one r) p) s t → holds_at w q s (is_param r p) ≡ holds_at w q t (is_param r p)
    local_param s t r p same =
        let g = given_with w.contents q bound.items in
        local_at g q.classes bound.classes (union (one r) p) (is_param r p) (param_reads g.type_of g.conjuncts q.classes.classes r p) (value_at w q s) (value_at w q t) (agree (union (one r) p) s t same)
