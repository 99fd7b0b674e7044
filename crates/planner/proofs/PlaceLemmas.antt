-- The path at a place, and the least price of the paths before it.
use Rattle.std.proofs.Common.{◌≡◌, ◌⊎◌, ◌<◌, ◌≤◌, ℕ, ◌+◌, List, get_or, length, map, take, inl, inr, refl, sym, ◌∙◌, ap, subst, take_all}
use Rattle.std.specs.Prelude.{All, IfNone, IfSome, Option, Some, None}
use Rattle.std.proofs.lemmas.List.{get_or_default}
use Rattle.std.proofs.lemmas.List.Elements.{All-contains, All-map, All-more, All-nil, All-weaker}
use Rattle.catalog.specs.Contents.{Contents}
use Rattle.sql_query.specs.Queries.{Query}
use Rattle.plan_tree.specs.Least.{IsAdmissible}
use Rattle.plan_tree.specs.work.Paths.{Path}
use Rattle.plan_tree.specs.work.Views.{path}
use Rattle.plan_tree.specs.declared.path.Path.{Path as Costed}
use Rattle.plan_tree.proofs.FrontLemmas.{contains-mapped}
use Rattle.planner.specs.work.Finishing.{IsLeastOf, IsPriced, finished, finished_price}
use Rattle.planner.specs.work.Priced.{IsUnder}
use Rattle.planner.specs.declared.finishing.Least.{Least}

pub at-place : (P : Path → Type 0) (xs : List Costed) (k : ℕ) (x : Costed) → k < length xs → x ≡ get_or xs k x → All P (map path xs) → P (path x)
at-place P xs k x lt e h = All-contains P (map path xs) (path x) h (contains-mapped path xs x (k, lt, sym e))

pub one-more : (P : Costed → Type 0) (xs : List Costed) (k : ℕ) (x : Costed) → k < length xs → x ≡ get_or xs k x → All P (take k xs) → P x → All P (take (k + 1) xs)
one-more P xs k x lt e before this = All-more P xs k x lt before (subst P e this)

module _ (c : Contents) (q : Query) where
  -- the least price of the paths so far, and where it is
  pub record IsLeastSoFar (xs : List Costed) (best : Option Least) (at : ℕ) : Type 0 where
    pub within : IfSome best (λ b. b.at < length xs)
    pub priced : IfSome best (λ b. (d : Costed) → IsPriced c q (path (get_or xs b.at d)) b.price)
    pub under : All (λ x. IsAdmissible c q (finished c q (path x).tree) → IsUnder best (finished_price c q (path x).tree)) (take at xs)

  pub none-so-far : (xs : List Costed) → IsLeastSoFar xs None 0
  none-so-far xs = record { within = tt; priced = tt; under = All-nil (λ x. IsAdmissible c q (finished c q (path x).tree) → IsUnder None (finished_price c q (path x).tree)) }

  -- one more path
  module _ (xs : List Costed) (old new : Option Least) (price : Option ℕ) (at : ℕ) (before : IsLeastSoFar xs old at) (x : Costed) (lt : at < length xs) (is : x ≡ get_or xs at x)
      (found : IfSome price (IsPriced c q (path x))) (never : IfNone price (¬ IsAdmissible c q (finished c q (path x).tree)))
      (first : (n : ℕ) → IsUnder old n → IsUnder new n) (this : (n : ℕ) → price ≡ Some n → IsUnder new n)
      (from : IfSome new (λ r. (old ≡ Some r) ⊎ ((r.at ≡ at) × (price ≡ Some r.price)))) where
    from-old : (P : Least → Type 0) (r : Least) → old ≡ Some r → IfSome old P → P r
    from-old P r e h = subst (λ (o : Option Least). IfSome o P) e h

    from-price : (P : ℕ → Type 0) (n : ℕ) → price ≡ Some n → IfSome price P → P n
    from-price P n e h = subst (λ (o : Option ℕ). IfSome o P) e h

    by-some : (P : Least → Type 0) → ((r : Least) → (old ≡ Some r) ⊎ ((r.at ≡ at) × (price ≡ Some r.price)) → P r) → (o : Option Least) → IfSome o (λ r. (old ≡ Some r) ⊎ ((r.at ≡ at) × (price ≡ Some r.price))) → IfSome o P
    by-some P each None h = tt
    by-some P each (Some r) h = each r h

    within-one : (r : Least) → (old ≡ Some r) ⊎ ((r.at ≡ at) × (price ≡ Some r.price)) → r.at < length xs
    within-one r (inl e) = from-old (λ b. b.at < length xs) r e before.within
    within-one r (inr h) = subst (λ n. n < length xs) (sym h.0) lt

    priced-one : (r : Least) → (old ≡ Some r) ⊎ ((r.at ≡ at) × (price ≡ Some r.price)) → (d : Costed) → IsPriced c q (path (get_or xs r.at d)) r.price
    priced-one r (inl e) d = from-old (λ b. (d : Costed) → IsPriced c q (path (get_or xs b.at d)) b.price) r e before.priced d
    priced-one r (inr h) d =
        let same : x ≡ get_or xs r.at d = is ∙ get_or_default xs at x d lt ∙ ap (λ n. get_or xs n d) (sym h.0) in
        subst (λ (y : Costed). IsPriced c q (path y) r.price) same (from-price (IsPriced c q (path x)) r.price h.1 found)

    under-this : (o : Option ℕ) → price ≡ o → IsAdmissible c q (finished c q (path x).tree) → IsUnder new (finished_price c q (path x).tree)
    under-this None e a = absurd (subst (λ (o : Option ℕ). IfNone o (¬ IsAdmissible c q (finished c q (path x).tree))) e never a)
    under-this (Some n) e a = subst (IsUnder new) (from-price (IsPriced c q (path x)) n e found).price (this n e)

    pub one-so-far : IsLeastSoFar xs new (at + 1)
    one-so-far = record {
      within = by-some (λ b. b.at < length xs) within-one new from;
      priced = by-some (λ b. (d : Costed) → IsPriced c q (path (get_or xs b.at d)) b.price) priced-one new from;
      under = one-more (λ y. IsAdmissible c q (finished c q (path y).tree) → IsUnder new (finished_price c q (path y).tree)) xs at x lt is
          (All-weaker (λ y. IsAdmissible c q (finished c q (path y).tree) → IsUnder old (finished_price c q (path y).tree)) (λ y. IsAdmissible c q (finished c q (path y).tree) → IsUnder new (finished_price c q (path y).tree))
          (λ y h a. first (finished_price c q (path y).tree) (h a)) (take at xs) before.under) (under-this price refl);
    }

  module _ (xs : List Costed) (best : Option Least) (at : ℕ) (so : IsLeastSoFar xs best at) (all : length xs ≤ at) where
    whole : All (λ x. IsAdmissible c q (finished c q (path x).tree) → IsUnder best (finished_price c q (path x).tree)) xs
    whole = subst (All (λ x. IsAdmissible c q (finished c q (path x).tree) → IsUnder best (finished_price c q (path x).tree))) (take_all at xs all) so.under

    none-admissible : best ≡ None → All (λ p. ¬ IsAdmissible c q (finished c q p.tree)) (map path xs)
    none-admissible e =
        All-map (λ p. ¬ IsAdmissible c q (finished c q p.tree)) path xs
        (All-weaker (λ x. IsAdmissible c q (finished c q (path x).tree) → IsUnder best (finished_price c q (path x).tree)) (λ x. ¬ IsAdmissible c q (finished c q (path x).tree))
        (λ x h a. subst (λ (o : Option Least). IsUnder o (finished_price c q (path x).tree)) e (h a)) xs whole)

    least-found : (r : Least) → best ≡ Some r → (d : Costed) → IsLeastOf c q (map path xs) (path (get_or xs r.at d)).tree
    least-found r e d =
        let priced = subst (λ (o : Option Least). IfSome o (λ b. (d : Costed) → IsPriced c q (path (get_or xs b.at d)) b.price)) e so.priced d in
        let t = (path (get_or xs r.at d)).tree in
        record {
          admissible = priced.admissible;
          least = All-map (λ (p : Path). IsAdmissible c q (finished c q p.tree) → finished_price c q t ≤ finished_price c q p.tree) path xs
              (All-weaker (λ x. IsAdmissible c q (finished c q (path x).tree) → IsUnder best (finished_price c q (path x).tree))
              (λ x. IsAdmissible c q (finished c q (path x).tree) → finished_price c q t ≤ finished_price c q (path x).tree)
              (λ x h a. subst (λ n. n ≤ finished_price c q (path x).tree) priced.price (subst (λ (o : Option Least). IsUnder o (finished_price c q (path x).tree)) e (h a))) xs whole);
        }

    by-found : (P : Least → Type 0) → ((r : Least) → best ≡ Some r → P r) → (o : Option Least) → best ≡ o → IfSome o P
    by-found P each None e = tt
    by-found P each (Some r) e = each r e

    pub place-least : IfSome best (λ r. (d : Costed) → IsLeastOf c q (map path xs) (path (get_or xs r.at d)).tree)
    place-least = by-found (λ r. (d : Costed) → IsLeastOf c q (map path xs) (path (get_or xs r.at d)).tree) least-found best refl

    pub place-none : IfNone best (All (λ p. ¬ IsAdmissible c q (finished c q p.tree)) (map path xs))
    place-none = by best refl
      where
        by : (o : Option Least) → best ≡ o → IfNone o (All (λ p. ¬ IsAdmissible c q (finished c q p.tree)) (map path xs))
        by None e = none-admissible e
        by (Some r) e = tt
