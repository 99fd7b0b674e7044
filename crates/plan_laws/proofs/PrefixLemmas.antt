-- A finished plan's run is sorted by the order keys.
use Rattle.std.proofs.Common.{◌≡◌, ℕ, true, false, List, [], ◌∷◌, refl, sym, subst}
use mathlib.Core.Path.{fun_ext}
use Rattle.std.specs.Prelude.{nat_eq}
use Rattle.std.specs.Ordering.{is_gt}
use Rattle.std.proofs.lemmas.Bool.{and_parts, true≢false, eqb-true}
use Rattle.eq_classes.specs.Clauses.{Set}
use Rattle.pathkeys.specs.Sorted.{class_order}
use Rattle.sql_query.specs.Queries.{Query, all_of_query}
use Rattle.pathkeys.specs.Keys.{Keys, covers, order_keys}
use Rattle.eq_classes.specs.Listing.{class_at}
use Rattle.plan_tree.specs.Plans.{Plan, seq, index, index_only, bitmap, sort, nest, merge, set_of}
use Rattle.plan_tree.specs.Keys.{keys_of}
use Rattle.plan_tree.specs.Space.{MeetsOrder, IsFinished}
use Rattle.sql_query.specs.Worlds.{World}
use Rattle.sql_query.specs.Tuples.{Tuple, value_at}
use Rattle.plan_laws.proofs.TotalLemmas.{IsUp}
use Rattle.plan_laws.proofs.KeyLemmas.{by_keys}
use Rattle.plan_laws.proofs.EachLemmas.{each_weaker}
use Rattle.plan_laws.proofs.IndexKeyLemmas.{after_same}

module _ (w : World) (q : Query) where
  prefix_up : (set : Set) (ms ns : Keys) (x y : Tuple) → covers ms ns ≡ true → is_gt (by_keys w q set ms x y) ≡ false → is_gt (by_keys w q set ns x y) ≡ false
  prefix_up set [] [] x y c h = refl
  prefix_up set (m ∷ ms) [] x y c h = refl
  prefix_up set [] (n ∷ ns) x y c h = absurd (true≢false (sym c))
  prefix_up set (m ∷ ms) (n ∷ ns) x y c h =
      let parts : (nat_eq m n ≡ true) × (covers ms ns ≡ true) = and_parts (nat_eq m n) (covers ms ns) c in
      let here : is_gt (by_keys w q set (n ∷ ms) x y) ≡ false = subst (λ (k : ℕ). is_gt (by_keys w q set (k ∷ ms) x y) ≡ false) (eqb-true m n parts.0) h in
      after_same (class_order (class_at q.classes.classes n) set (value_at w q x) (value_at w q y)) (by_keys w q set ms x y) (by_keys w q set ns x y) here (λ tie rest. prefix_up set ms ns x y parts.1 rest)

  covered_up : (set : Set) (ms ns : Keys) → covers ms ns ≡ true → (ts : List Tuple) → IsUp (by_keys w q set ms) ts → IsUp (by_keys w q set ns) ts
  covered_up set ms ns c [] h = tt
  covered_up set ms ns c (t ∷ ts) h = (each_weaker (λ u. is_gt (by_keys w q set ms t u) ≡ false) (λ u. is_gt (by_keys w q set ns t u) ≡ false) (λ u e. prefix_up set ms ns t u c e) ts h.0, covered_up set ms ns c ts h.1)

  meets_up : (p : Plan) (keys : Keys) → MeetsOrder w.contents q p keys → (ts : List Tuple) → IsUp (by_keys w q (set_of p) (keys_of w.contents q p)) ts → IsUp (by_keys w q (set_of p) keys) ts
  meets_up (sort ks input) keys meets ts h = subst (λ (l : Keys). IsUp (by_keys w q (set_of input) l) ts) meets.0 h
  meets_up (seq r) keys meets ts h = covered_up (set_of (seq r)) (keys_of w.contents q (seq r)) keys meets ts h
  meets_up (index r i backward p) keys meets ts h = covered_up (set_of (index r i backward p)) (keys_of w.contents q (index r i backward p)) keys meets ts h
  meets_up (index_only r i backward p) keys meets ts h = covered_up (set_of (index_only r i backward p)) (keys_of w.contents q (index_only r i backward p)) keys meets ts h
  meets_up (bitmap r p bits) keys meets ts h = covered_up (set_of (bitmap r p bits)) (keys_of w.contents q (bitmap r p bits)) keys meets ts h
  meets_up (nest outer inner) keys meets ts h = covered_up (set_of (nest outer inner)) (keys_of w.contents q (nest outer inner)) keys meets ts h
  meets_up (merge ks outer inner) keys meets ts h = covered_up (set_of (merge ks outer inner)) (keys_of w.contents q (merge ks outer inner)) keys meets ts h

  pub finished_up : (p : Plan) → IsFinished w.contents q p → (ts : List Tuple) → IsUp (by_keys w q (set_of p) (keys_of w.contents q p)) ts → IsUp (by_keys w q (all_of_query q) (order_keys q.classes q.order)) ts
  finished_up p is ts h = subst (λ (s : Set). IsUp (by_keys w q s (order_keys q.classes q.order)) ts) (fun_ext (λ k. is.set_is k)) (meets_up p (order_keys q.classes q.order) is.ordered ts h)
