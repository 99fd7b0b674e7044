-- A finished plan over kept plans, of a price below the limit and no greater than that of any other such, is least of all.
use Rattle.std.proofs.Common.{Bool, ◌≡◌, ◌≤◌, ◌<◌, ◌⊎◌, inl, inr, ℕ, ◌+◌, true, false, refl, ◌∙◌, arith, le_trans, ◌↔◌, true≢false}
use Rattle.std.proofs.Math.Nat.{lt_of_le_of_lt}
use Rattle.std.proofs.lemmas.Bool.{cases_lt}
use Rattle.plan_tree.specs.catalog_Contents.{Contents}
use Rattle.plan_tree.specs.sql_query_Queries.{Query}
use Rattle.plan_tree.specs.pathkeys_Keys.{Keys, covers, order_keys}
use Rattle.plan_tree.specs.Plans.{Plan, seq, index, index_only, bitmap, sort, nest, merge, is_sort}
use Rattle.plan_tree.specs.Keys.{keys_of}
use Rattle.plan_tree.specs.Costs.{cost, price}
use Rattle.plan_tree.specs.work.Costs.{HaveRows}
use Rattle.plan_tree.specs.Space.{IsBuilt, MeetsOrder, IsFinished}
use Rattle.plan_tree.specs.Least.{IsAdmissible, IsLeast}
use Rattle.plan_tree.proofs.BoundLemmas.{sort-most, startup-most}
use Rattle.plan_laws.specs.work.Useful.{Suffices, IsBelow, IsClosedBelow, IsLeastKept}
use Rattle.plan_laws.proofs.UsefulLemmas.{child-below, enough, price-most, sort-stands}

module _ (c : Contents) (q : Query) (every : Bool) where
  meets-plain : (p : Plan) (keys : Keys) → is_sort p ≡ false → MeetsOrder c q p keys ↔ (covers (keys_of c q p) keys ≡ true)
  meets-plain (seq r) keys e = (λ h. h, λ h. h)
  meets-plain (index r i backward p) keys e = (λ h. h, λ h. h)
  meets-plain (index_only r i backward p) keys e = (λ h. h, λ h. h)
  meets-plain (bitmap r p bits) keys e = (λ h. h, λ h. h)
  meets-plain (sort ks input) keys e = absurd (true≢false e)
  meets-plain (nest outer inner) keys e = (λ h. h, λ h. h)
  meets-plain (merge ks outer inner) keys e = (λ h. h, λ h. h)

  first-part : (a b : ℕ) → a ≤ a + b
  first-part a b = omega arith

  pub finished-plain : (p o : Plan) → IsBuilt c q p → is_sort p ≡ false → is_sort o ≡ false → Suffices c q every p o → IsFinished c q o → IsFinished c q p
  finished-plain p o built e f h k = record {
    built = built;
    set_is = λ x. h.like.set x ∙ k.set_is x;
    param_is = λ x. h.like.param x ∙ k.param_is x;
    ordered = let keys = order_keys q.classes q.order in
        (meets-plain p keys e).1 (h.keys keys (inr (inr refl)) ((meets-plain o keys f).0 k.ordered));
  }

  finished-sort : (keys : Keys) (p o : Plan) → IsBuilt c q p → is_sort p ≡ false → Suffices c q every p o → IsFinished c q (sort keys o) → IsFinished c q (sort keys p)
  finished-sort keys p o built e h k = record {
    built = (built, e);
    set_is = λ x. h.like.set x ∙ k.set_is x;
    param_is = λ x. h.like.param x ∙ k.param_is x;
    ordered = k.ordered;
  }

  module _ (Kept : Plan → Type 0) (limit : ℕ) (some : HaveRows c q) (closed : IsClosedBelow c q every Kept limit) (b : Plan) (least : IsLeastKept c q Kept b) (below : price c q b < limit) where
    plain-price : (t : Plan) → is_sort t ≡ false → IsFinished c q t → IsAdmissible c q t → price c q t < price c q b → price c q b ≤ price c q t
    plain-price t e f a lt =
        let under : IsBelow c q limit t = record { admissible = a; floor = let m = below in omega (arith, lt, m) } in
        let k = enough c q every Kept limit some closed t f.built e under in
        let s = k.suffices in
        le_trans (least.plain k.by' k.is_kept (finished-plain k.by' t (closed.built k.by' k.is_kept) (closed.plain k.by' k.is_kept) e s f) (lt_of_le_of_lt s.total a))
        (price-most c q q.window k.by' t s.total s.startup)

    sorted-price : (keys : Keys) (t : Plan) → IsFinished c q (sort keys t) → IsAdmissible c q (sort keys t) → price c q (sort keys t) < price c q b → price c q b ≤ price c q (sort keys t)
    sorted-price keys t f a lt =
        let whole : IsBelow c q limit (sort keys t) = record { admissible = a; floor = let m = below in omega (arith, lt, m) } in
        let under = child-below c q every t (sort keys t) limit (sort-most c q keys t) (le_trans (startup-most c q some t) (first-part (cost c q t).total _)) whole in
        let k = enough c q every Kept limit some closed t f.built.0 f.built.1 under in
        let s = (sort-stands c q every keys k.by' t k.suffices).suffices in
        le_trans (least.sorted keys k.by' k.is_kept (finished-sort keys k.by' t (closed.built k.by' k.is_kept) (closed.plain k.by' k.is_kept) k.suffices f) (lt_of_le_of_lt s.total a))
        (price-most c q q.window (sort keys k.by') (sort keys t) s.total s.startup)

    by-kind : (t : Plan) → IsFinished c q t → IsAdmissible c q t → price c q t < price c q b → price c q b ≤ price c q t
    by-kind (seq r) f a lt = plain-price (seq r) refl f a lt
    by-kind (index r i backward p) f a lt = plain-price (index r i backward p) refl f a lt
    by-kind (index_only r i backward p) f a lt = plain-price (index_only r i backward p) refl f a lt
    by-kind (bitmap r p bits) f a lt = plain-price (bitmap r p bits) refl f a lt
    by-kind (sort keys input) f a lt = sorted-price keys input f a lt
    by-kind (nest outer inner) f a lt = plain-price (nest outer inner) refl f a lt
    by-kind (merge keys outer inner) f a lt = plain-price (merge keys outer inner) refl f a lt

    either-way : (t : Plan) → IsFinished c q t → IsAdmissible c q t → (price c q t < price c q b) ⊎ (price c q b ≤ price c q t) → price c q b ≤ price c q t
    either-way t f a (inl lt) = by-kind t f a lt
    either-way t f a (inr le) = le

    pub least-of-all : IsLeast c q b
    least-of-all t f a = either-way t f a (cases_lt (price c q t) (price c q b))
