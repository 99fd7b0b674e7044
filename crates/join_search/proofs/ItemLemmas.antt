-- Paths of a table's fronts as they are lent, one by one.
use Rattle.std.proofs.Common.{◌≡◌, ◌<◌, ◌≤◌, ℕ, ◌+◌, nat_eq, true, List, [], ◌∷◌, map, length, get_or, take, refl, sym, ◌∙◌, ap, subst, take_all, arith}
use Rattle.std.specs.Prelude.{All, Contains}
use Rattle.std.proofs.lemmas.Bool.{eqb-true}
use Rattle.std.proofs.lemmas.List.Elements.{All-contains, All-map, All-more, All-weaker}
use Rattle.pg_base.specs.declared.rel_set.RelSet.{RelSet}
use Rattle.catalog.specs.Contents.{Contents}
use Rattle.sql_query.specs.Queries.{Query}
use Rattle.plan_tree.specs.work.Fronts.{StayDominated}
use Rattle.plan_tree.specs.work.Paths.{Path}
use Rattle.plan_tree.specs.Plans.{Plan, seq, index, index_only, bitmap, sort, nest, merge}
use Rattle.plan_tree.specs.work.Views.{path}
use Rattle.plan_tree.specs.declared.path.Path.{Path as Costed}
use Rattle.plan_tree.proofs.FrontLemmas.{contains-mapped}
use Rattle.join_search.specs.work.Tables.{Fronts}
use Rattle.join_search.specs.work.Joins.{ArePlaced, IsKept, IsPathAt, IsPlanIn, IsSideIn}
use Rattle.join_search.specs.work.Offers.{IsCheapest}
use Rattle.join_search.specs.work.Sufficing.{IsServed}
use Rattle.join_search.specs.declared.useful.Asked.{Asked}
use Rattle.join_search.proofs.OfferLemmas.{cheapest-of, served-later}

-- an item read is one of the paths
pub item-there : (items : List Costed) (ps : List Path) (n : ℕ) (x : Costed) → map path items ≡ ps → n < length items → x ≡ get_or items n x → Contains ps (path x)
item-there items ps n x e lt is = subst (λ (l : List Path). Contains l (path x)) e (contains-mapped path items x (n, lt, sym is))

pub there-kept : (fronts : Fronts) (s p : RelSet) (x : Path) → Contains (fronts s p) x → IsKept fronts x.tree
there-kept fronts s p x h = record { set = s; param = p; plan = record { path = x; is_there = h; is_plan = refl } }

module _ (c : Contents) (q : Query) where
  pub there-at : (fronts : Fronts) (s p : RelSet) (x : Path) → ArePlaced c q fronts → Contains (fronts s p) x → IsPathAt c q s p x
  there-at fronts s p x placed h = All-contains (IsPathAt c q s p) (fronts s p) x (placed.paths s p) h

  pub lent-at : (fronts : Fronts) (s p : RelSet) (items : List Costed) → ArePlaced c q fronts → map path items ≡ fronts s p → All (IsPathAt c q s p) (map path items)
  lent-at fronts s p items placed e = subst (All (IsPathAt c q s p)) (sym e) (placed.paths s p)

module _ (c : Contents) (q : Query) (asked : Asked) where
  -- one more item is served
  pub served-more : (plan_with : Path → Plan) (items : List Costed) (n : ℕ) (x : Costed) (old new : List Path) → n < length items → x ≡ get_or items n x → StayDominated c q old new →
      All (λ o. IsServed c q asked old (plan_with (path o))) (take n items) → IsServed c q asked new (plan_with (path x)) → All (λ o. IsServed c q asked new (plan_with (path o))) (take (n + 1) items)
  served-more plan_with items n x old new lt is still before one =
      All-more (λ (o : Costed). IsServed c q asked new (plan_with (path o))) items n x lt
      (All-weaker (λ (o : Costed). IsServed c q asked old (plan_with (path o))) (λ (o : Costed). IsServed c q asked new (plan_with (path o))) (λ o h. served-later c q asked old new (plan_with (path o)) still h) (take n items) before)
      (subst (λ (o : Costed). IsServed c q asked new (plan_with (path o))) is one)

  pub served-all : (plan_with : Path → Plan) (items : List Costed) (n : ℕ) (ps front : List Path) → map path items ≡ ps → length items ≤ n →
      All (λ o. IsServed c q asked front (plan_with (path o))) (take n items) → All (λ o. IsServed c q asked front (plan_with o)) ps
  served-all plan_with items n ps front e le h =
      subst (All (λ (o : Path). IsServed c q asked front (plan_with o))) e
      (All-map (λ (o : Path). IsServed c q asked front (plan_with o)) path items (subst (All (λ (o : Costed). IsServed c q asked front (plan_with (path o)))) (take_all n items le) h))

-- the cheapest of the items
pub cheapest-lent : (items : List Costed) (ps : List Path) (p : Costed) → map path items ≡ ps → Contains items p → All (λ o. p.cost ≤ o.cost) items → IsCheapest ps (path p)
cheapest-lent items ps p e is_there least = subst (λ (l : List Path). IsCheapest l (path p)) e (cheapest-of items p is_there least)

pub none-lent : (items : List Costed) (ps : List Path) → map path items ≡ ps → items ≡ [] → ps ≡ []
none-lent items ps e never = sym e ∙ ap (map path) never

pub nothing : (items : List Costed) → length items ≡ 0 → items ≡ []
nothing [] e = refl
nothing (x ∷ items) e = absurd (omega (arith, e))

pub empty-lent : (items : List Costed) (ps : List Path) → map path items ≡ ps → nat_eq (length items) 0 ≡ true → ps ≡ []
empty-lent items ps e is = none-lent items ps e (nothing items (eqb-true (length items) 0 is))

pub not-contained : (xs : List Path) (x : Path) → xs ≡ [] → Contains xs x → ⊥
not-contained xs x e h = let none : length xs ≡ 0 = ap (λ (l : List Path). length l) e in absurd (omega (arith, none, h.1))

pub plan-of-none : (ps : List Path) (t : Plan) → ps ≡ [] → IsPlanIn ps t → ⊥
plan-of-none ps t e k = not-contained ps k.path e k.is_there

pub side-of-none : (ps : List Path) (t : Plan) → ps ≡ [] → IsSideIn ps t → ⊥
side-of-none ps (sort keys input) e k = plan-of-none ps input e k
side-of-none ps (seq r) e k = plan-of-none ps (seq r) e k
side-of-none ps (index r i backward p) e k = plan-of-none ps (index r i backward p) e k
side-of-none ps (index_only r i backward p) e k = plan-of-none ps (index_only r i backward p) e k
side-of-none ps (bitmap r p bits) e k = plan-of-none ps (bitmap r p bits) e k
side-of-none ps (nest o i) e k = plan-of-none ps (nest o i) e k
side-of-none ps (merge keys o i) e k = plan-of-none ps (merge keys o i) e k

pub contains-lent : (items : List Costed) (ps : List Path) (x : Costed) → map path items ≡ ps → Contains items x → Contains ps (path x)
contains-lent items ps x e h = subst (λ (l : List Path). Contains l (path x)) e (contains-mapped path items x h)

-- one more item, and all of them, of which something holds
pub items-more : (P Q : Path → Type 0) → ((x : Path) → P x → Q x) → (items : List Costed) (n : ℕ) (x : Costed) → n < length items → x ≡ get_or items n x → All (λ o. P (path o)) (take n items) → Q (path x) → All (λ o. Q (path o)) (take (n + 1) items)
items-more P Q weaker items n x lt is before one =
    All-more (λ (o : Costed). Q (path o)) items n x lt (All-weaker (λ (o : Costed). P (path o)) (λ (o : Costed). Q (path o)) (λ o h. weaker (path o) h) (take n items) before) (subst (λ (o : Costed). Q (path o)) is one)

pub items-all : (P : Path → Type 0) (items : List Costed) (n : ℕ) (ps : List Path) → map path items ≡ ps → length items ≤ n → All (λ o. P (path o)) (take n items) → All P ps
items-all P items n ps e le h = subst (All P) e (All-map P path items (subst (All (λ (o : Costed). P (path o))) (take_all n items le) h))

-- one more item of any list, and all of them, of which something holds
pub all-more : {X : Type 0} (P Q : X → Type 0) → ((x : X) → P x → Q x) → (xs : List X) (n : ℕ) (x : X) → n < length xs → x ≡ get_or xs n x → All P (take n xs) → Q x → All Q (take (n + 1) xs)
all-more P Q weaker xs n x lt is before one = All-more Q xs n x lt (All-weaker P Q weaker (take n xs) before) (subst Q is one)

pub all-taken : {X : Type 0} (P : X → Type 0) (xs : List X) (n : ℕ) → length xs ≤ n → All P (take n xs) → All P xs
all-taken P xs n le h = subst (All P) (take_all n xs le) h

pub all-at : {X : Type 0} (P : X → Type 0) (xs : List X) (n : ℕ) (x : X) → n < length xs → x ≡ get_or xs n x → All P xs → P x
all-at P xs n x lt is h = subst P (sym is) (h n x lt)
