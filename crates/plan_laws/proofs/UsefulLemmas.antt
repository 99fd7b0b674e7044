-- Plans that suffice for the sides of a join make a join that suffices for it, so kept plans suffice for all below a limit.
use Prim.Native.Nat.{suc, zero}
use Rattle.std.proofs.Common.{◌≡◌, ◌≤◌, ◌<◌, ◌⊎◌, inl, inr, ⊎_elim, ℕ, ◌+◌, ◌-◌, ◌*◌, Bool, true, false, cond, not, ◌||◌, ◌&&◌, nat_eq, List, [], ◌∷◌, length, take, refl, sym, ◌∙◌, ap, ap₂, subst, subst₂, arith, le_refl, le_trans, ◌↔◌, true≢false}
use Rattle.std.specs.Prelude.{Option, Some, None}
use Rattle.std.specs.List.{list_all, list_any}
use Rattle.std.specs.Int.{div_ceil}
use Rattle.std.proofs.Math.Nat.{lt_of_le_of_lt, mul-le-mul_left, mul-le-mul_right}
use Rattle.std.proofs.lemmas.Bool.{or_cases, and_parts, and_from, cases_lt, eqb-true}
use Rattle.pg_expr.specs.declared.operand.ColRef.{ColRef}
use Rattle.plan_tree.specs.catalog_Contents.{Contents}
use Rattle.cost_rules.specs.declared.pair.Pair.{Pair}
use Rattle.cost_rules.specs.Costs.{price_of}
use Rattle.cost_rules.specs.work.Costs.{IsAtMost}
use Rattle.cost_rules.proofs.RisingLemmas.{ceil-least, price-rises}
use Rattle.plan_tree.specs.sql_query_Queries.{Query, all_of_query}
use Rattle.plan_tree.specs.sql_query_window_Window.{Window}
use Rattle.plan_tree.specs.eq_classes_Classes.{Class}
use Rattle.plan_tree.specs.eq_classes_Clauses.{Set, has_constant}
use Rattle.plan_tree.specs.eq_classes_Parts.{has_in, is_joining, joining_from}
use Rattle.plan_tree.specs.eq_classes_Listing.{class_at}
use Rattle.plan_tree.specs.eq_classes_Holding.{AreApart, IsWithin}
use Rattle.plan_tree.specs.pathkeys_Keys.{Keys, covers}
use Rattle.plan_tree.specs.pathkeys_CoveringLemmas.{covers-refl, covers-trans}
use Rattle.plan_tree.specs.Plans.{Plan, seq, index, index_only, bitmap, sort, nest, merge, is_sort, set_of}
use Rattle.plan_tree.specs.Keys.{keys_of}
use Rattle.plan_tree.specs.Costs.{cost, price_by, asked, query_rows}
use Rattle.plan_tree.specs.work.Costs.{HaveRows}
use Rattle.plan_tree.specs.Space.{IsLike, IsBuilt, IsNest, IsMerge, IsMergeList, HasKeys}
use Rattle.plan_tree.specs.Least.{Dominates, IsStartupAtMost}
use Rattle.path_cost.proofs.RunLemmas.{set-some}
use Rattle.plan_tree.proofs.BoundLemmas.{asked-most, merge-most, nest-most, sort-most, startup-most}
use Rattle.plan_tree.proofs.LikeLemmas.{set-like}
use Rattle.plan_tree.proofs.ReplacingLemmas.{nest-replaced, nest-totals, merge-replaced, merge-totals, sort-totals}
use Rattle.plan_tree.proofs.WindowLemmas.{startup-from}
use Rattle.plan_laws.specs.Closed.{IsKeptSide}
use Rattle.plan_laws.proofs.WithinLemmas.{built-within}
use Rattle.plan_laws.specs.work.Useful.{outside, is_open, are_open, IsOfUse, Suffices, StandsIn, IsBelow, HasEnough, IsClosedBelow}
use Rattle.pg_base.proofs.ListLemmas.{any-taken}
use Rattle.plan_tree.proofs.DominationLemmas.{startup-trans}
use Rattle.pg_value.proofs.Spelled.{all_weaker as all-weaker}

-- what is within a set is open to more
not-within : (a b : Bool) → (a ≡ true → b ≡ true) → not b ≡ true → not a ≡ true
not-within false b h e = refl
not-within true true h e = e
not-within true false h e = absurd (true≢false (sym (h refl)))

or-weaker : (a b d e : Bool) → (a ≡ true → d ≡ true) → (b ≡ true → e ≡ true) → a || b ≡ true → d || e ≡ true
or-weaker true b true e h k w = refl
or-weaker true b false e h k w = absurd (true≢false (sym (h refl)))
or-weaker false b true e h k w = refl
or-weaker false b false e h k w = k w

any-weaker : {A : Type 0} (f g : A → Bool) → ((x : A) → f x ≡ true → g x ≡ true) → (xs : List A) → list_any f xs ≡ true → list_any g xs ≡ true
any-weaker f g h [] e = e
any-weaker f g h (x ∷ xs) e = or-weaker (f x) (list_any f xs) (g x) (list_any g xs) (h x) (any-weaker f g h xs) e

in-weaker : (c : Class) (s t : Set) → IsWithin s t → has_in c s ≡ true → has_in c t ≡ true
in-weaker c s t h e = any-weaker {A = ColRef} (λ x. s x.rel.0) (λ x. t x.rel.0) (λ x. h x.rel.0) c.members e

outside-weaker : (q : Query) (s t : Set) → IsWithin s t → IsWithin (outside q t) (outside q s)
outside-weaker q s t h k e =
    let parts = and_parts (all_of_query q k) (not (t k)) e in
    and_from (all_of_query q k) (not (s k)) parts.0 (not-within (s k) (t k) (h k) parts.1)

-- a class that is joining is one of the list
pub record IsJoiningAt (a b : Set) (m : ℕ) (cs : List Class) (n : ℕ) : Type 0 where
  pub at : ℕ
  pub is : n ≡ m + at
  pub joins : is_joining a b (class_at cs at) ≡ true
  pub within : at < length cs

joining-at : (a b : Set) (m : ℕ) (cs : List Class) (n : ℕ) → list_any (nat_eq n) (joining_from a b m cs) ≡ true → IsJoiningAt a b m cs n
joining-at a b m [] n h = absurd (true≢false (sym h))
joining-at a b m (c ∷ cs) n h = by (joining-at a b (suc m) cs n) (is_joining a b c) refl h
  where
    shift : IsJoiningAt a b (suc m) cs n → IsJoiningAt a b m (c ∷ cs) n
    shift j = let same = j.is in record { at = suc j.at; is = omega (arith, same); joins = j.joins; within = omega (arith, j.within) }

    by : (list_any (nat_eq n) (joining_from a b (suc m) cs) ≡ true → IsJoiningAt a b (suc m) cs n) → (v : Bool) → is_joining a b c ≡ v → list_any (nat_eq n) (cond v (m ∷ joining_from a b (suc m) cs) (joining_from a b (suc m) cs)) ≡ true → IsJoiningAt a b m (c ∷ cs) n
    by later true e h = ⊎_elim
        (λ (here : nat_eq n m ≡ true). let same : n ≡ m = eqb-true n m here in record { at = zero; is = omega (arith, same); joins = e; within = omega arith })
        (λ (more : list_any (nat_eq n) (joining_from a b (suc m) cs) ≡ true). shift (later more))
        (or_cases (nat_eq n m) (list_any (nat_eq n) (joining_from a b (suc m) cs)) h)
    by later false e h = shift (later h)

joining-class : (a b : Set) (cs : List Class) (n : ℕ) → list_any (nat_eq n) (take 4 (joining_from a b 0 cs)) ≡ true → is_joining a b (class_at cs n) ≡ true
joining-class a b cs n h =
    let j = joining-at a b 0 cs n (any-taken (nat_eq n) 4 (joining_from a b 0 cs) h) in
    let same : j.at ≡ n = let is = j.is in omega (arith, is) in
    subst (λ k. is_joining a b (class_at cs k) ≡ true) same j.joins

-- a class that is joining is one of the table
pub joining-below : (a b : Set) (cs : List Class) (n : ℕ) → list_any (nat_eq n) (take 4 (joining_from a b 0 cs)) ≡ true → n < length cs
joining-below a b cs n h =
    let j = joining-at a b 0 cs n (any-taken (nat_eq n) 4 (joining_from a b 0 cs) h) in
    let is = j.is in
    omega (arith, is, j.within)

apart-outside : (q : Query) (a b : Set) → IsWithin b (all_of_query q) → AreApart a b → IsWithin b (outside q a)
apart-outside q a b within h k e = and_from (all_of_query q k) (not (a k)) (within k e) (by (a k) (h k) e)
  where
    by : (v : Bool) → (v ≡ true → b k ≡ false) → b k ≡ true → not v ≡ true
    by false f e = refl
    by true f e = absurd (true≢false (sym e ∙ f refl))

outside-apart : (q : Query) (a b : Set) → IsWithin a (all_of_query q) → AreApart a b → IsWithin a (outside q b)
outside-apart q a b within h k e = and_from (all_of_query q k) (not (b k)) (within k e) (ap not (h k e))

-- the classes of a merge are open on both sides
pub list-free : (q : Query) (a b : Set) (keys : Keys) → IsWithin a (all_of_query q) → IsWithin b (all_of_query q) → AreApart a b → list_all (λ n. list_any (nat_eq n) (take 4 (joining_from a b 0 q.classes.classes))) keys ≡ true →
    (are_open q a keys ≡ true) × (are_open q b keys ≡ true)
list-free q a b keys wa wb apart h = (
  all-weaker (λ n. list_any (nat_eq n) (take 4 (joining_from a b 0 q.classes.classes))) (is_open q a)
      (λ n e. in-weaker (class_at q.classes.classes n) b (outside q a) (apart-outside q a b wb apart) (both n e).1) keys h,
  all-weaker (λ n. list_any (nat_eq n) (take 4 (joining_from a b 0 q.classes.classes))) (is_open q b)
      (λ n e. in-weaker (class_at q.classes.classes n) a (outside q b) (outside-apart q a b wa apart) (both n e).0) keys h,
)
  where
    both : (n : ℕ) → list_any (nat_eq n) (take 4 (joining_from a b 0 q.classes.classes)) ≡ true → (has_in (class_at q.classes.classes n) a ≡ true) × (has_in (class_at q.classes.classes n) b ≡ true)
    both n e =
        let k = class_at q.classes.classes n in
        let parts = and_parts (not (has_constant k)) (has_in k a && has_in k b) (joining-class a b q.classes.classes n e) in
        and_parts (has_in k a) (has_in k b) parts.1

-- a list of use at a set is of use within it
use-shrinks : (q : Query) (every : Bool) (s t : Set) (keys : Keys) → IsWithin s t → IsOfUse q every t keys → IsOfUse q every s keys
use-shrinks q every s t keys h (inl all) = inl all
use-shrinks q every s t keys h (inr (inl free)) =
    inr (inl (all-weaker (is_open q t) (is_open q s) (λ n e. in-weaker (class_at q.classes.classes n) (outside q t) (outside q s) (outside-weaker q s t h) e) keys free))
use-shrinks q every s t keys h (inr (inr order)) = inr (inr order)

first-within : (s t : Set) → IsWithin s (λ k. s k || t k)
first-within s t k e = ap (λ v. v || t k) e

-- a plan that costs no less before its first row than in all has that price, whatever is asked for
nothing-more : (r f n : ℕ) → 1 ≤ n → r ≤ 0 → div_ceil (r * f) n ≤ 0
nothing-more r f n some h =
    let none : r * f ≤ 0 * f = mul-le-mul_right f h in
    ceil-least (r * f) 0 n some (omega (arith, none))

-- a price falls where neither number falls, of any two costs
pub price-falls : (a b : Pair) (f n : ℕ) → 1 ≤ n → f ≤ n → IsAtMost a b → price_of a f n ≤ price_of b f n
price-falls a b f n some part h = by (cases_lt a.total a.startup)
  where
    by : (a.total < a.startup) ⊎ (a.startup ≤ a.total) → price_of a f n ≤ price_of b f n
    by (inr own) = price-rises a b f n some part own h
    by (inl past) =
        let none = nothing-more (a.total - a.startup) f n some (omega (arith, past)) in
        omega (arith, none, h.startup)

-- a part of a plan's rows costs no more than all of them
part-of : (a : Pair) (f n : ℕ) → 1 ≤ n → f ≤ n → a.startup ≤ a.total → price_of a f n ≤ a.total
part-of a f n some part own =
    let rest = ceil-least ((a.total - a.startup) * f) (a.total - a.startup) n some (mul-le-mul_left (a.total - a.startup) part) in
    omega (arith, rest, own)

module _ (c : Contents) (q : Query) where
  -- the price of a plan by the rows of all relations, where neither of its costs is greater
  pub price-most : (w : Option Window) (p o : Plan) → (cost c q p).total ≤ (cost c q o).total →
      IsStartupAtMost w (cost c q p).startup (cost c q o).startup → price_by c q w p ≤ price_by c q w o
  price-most None p o total startup = total
  price-most (Some w) p o total startup =
      price-falls (cost c q p) (cost c q o) (asked w (query_rows c q)) (query_rows c q) (set-some c q.range q.classes (all_of_query q))
      (asked-most w (query_rows c q)) (record { startup = startup; total = total })

  -- the price of a plan is no more than it costs in all
  pub price-total : HaveRows c q → (w : Option Window) (p : Plan) → price_by c q w p ≤ (cost c q p).total
  price-total some None p = le_refl (cost c q p).total
  price-total some (Some w) p =
      part-of (cost c q p) (asked w (query_rows c q)) (query_rows c q) (set-some c q.range q.classes (all_of_query q)) (asked-most w (query_rows c q)) (startup-most c q some p)

  -- domination is enough, and where every list counts no less is
  pub dominates-suffices : (every : Bool) (p o : Plan) → Dominates c q p o → Suffices c q every p o
  dominates-suffices every p o h = record {
    like = h.like;
    total = h.total;
    startup = h.startup;
    keys = λ ks used e. covers-trans (keys_of c q p) (keys_of c q o) ks h.keys e;
  }

  pub suffices-dominates : (p o : Plan) → Suffices c q true p o → Dominates c q p o
  suffices-dominates p o h = record { like = h.like; total = h.total; startup = h.startup; keys = h.keys (keys_of c q o) (inl refl) (covers-refl (keys_of c q o)) }

module _ (c : Contents) (q : Query) (every : Bool) where
  pub suffices-trans : (a b d : Plan) → Suffices c q every a b → Suffices c q every b d → Suffices c q every a d
  suffices-trans a b d h k = record {
    like = record { set = λ n. h.like.set n ∙ k.like.set n; param = λ n. h.like.param n ∙ k.like.param n };
    total = le_trans h.total k.total;
    startup = startup-trans q.window (cost c q a).startup (cost c q b).startup (cost c q d).startup h.startup k.startup;
    keys = λ ks used e. h.keys ks (subst (λ s. IsOfUse q every s ks) (sym (set-like b d k.like)) used) (k.keys ks used e);
  }

  has-plain : (p : Plan) (keys : Keys) → is_sort p ≡ false → HasKeys c q p keys ↔ (covers (keys_of c q p) keys ≡ true)
  has-plain (seq r) keys e = (λ h. h, λ h. h)
  has-plain (index r i backward p) keys e = (λ h. h, λ h. h)
  has-plain (index_only r i backward p) keys e = (λ h. h, λ h. h)
  has-plain (bitmap r p bits) keys e = (λ h. h, λ h. h)
  has-plain (sort ks input) keys e = absurd (true≢false e)
  has-plain (nest outer inner) keys e = (λ h. h, λ h. h)
  has-plain (merge ks outer inner) keys e = (λ h. h, λ h. h)

  pub plain-stands : (p o : Plan) → is_sort p ≡ false → is_sort o ≡ false → Suffices c q every p o → StandsIn c q every p o
  plain-stands p o e f h = record {
    suffices = h;
    has = λ ks free k. (has-plain p ks e).1 (h.keys ks (inr (inl free)) ((has-plain o ks f).0 k));
  }

  pub sort-stands : (ks : Keys) (p o : Plan) → Suffices c q every p o → StandsIn c q every (sort ks p) (sort ks o)
  sort-stands ks p o h = record {
    suffices = record {
      like = record { set = h.like.set; param = h.like.param };
      total = (sort-totals c q ks p o h.like h.total).total;
      startup = startup-from q.window (cost c q (sort ks p)).startup (cost c q (sort ks o)).startup (sort-totals c q ks p o h.like h.total).startup;
      keys = λ ls used e. e;
    };
    has = λ ls free k. k;
  }

  nest-stands : (o p i j : Plan) → IsLike p o → IsLike j i → is_sort p ≡ false → is_sort j ≡ false → IsNest o i → IsNest p j
  nest-stands o p i j h k e f n = record {
    sides = record {
      apart = λ x e. k.set x ∙ n.sides.apart x (sym (h.set x) ∙ e);
      outer_whole = λ x. h.param x ∙ n.sides.outer_whole x;
    };
    given = λ x g. h.set x ∙ n.given x (sym (k.param x) ∙ g);
    outer_plain = e;
    inner_plain = f;
  }

  nest-startups : (w : Option Window) (o p i j : Plan) → IsLike p o → IsLike j i → (cost c q p).total ≤ (cost c q o).total → (cost c q j).total ≤ (cost c q i).total →
      IsStartupAtMost w (cost c q p).startup (cost c q o).startup → IsStartupAtMost w (cost c q j).startup (cost c q i).startup → IsStartupAtMost w (cost c q (nest p j)).startup (cost c q (nest o i)).startup
  nest-startups None o p i j h k l m s t = tt
  nest-startups (Some w) o p i j h k l m s t = (nest-replaced c q p o j i h k (record { startup = s; total = l }) (record { startup = t; total = m })).startup

  pub nest-suffices : (o p i j : Plan) → IsBuilt c q p → IsBuilt c q j → is_sort p ≡ false → is_sort j ≡ false → Suffices c q every p o → Suffices c q every j i → IsBuilt c q (nest o i) →
      IsBuilt c q (nest p j) × Suffices c q every (nest p j) (nest o i)
  nest-suffices o p i j a b e f h k n = (
    (a, b, nest-stands o p i j h.like k.like e f n.2),
    record {
      like = record { set = λ x. ap₂ (λ s t. s || t) (h.like.set x) (k.like.set x); param = λ x. refl };
      total = nest-totals c q p o j i h.like k.like h.total k.total;
      startup = nest-startups q.window o p i j h.like k.like h.total k.total h.startup k.startup;
      keys = λ ks used e. h.keys ks (use-shrinks q every (set_of o) (set_of (nest o i)) ks (first-within (set_of o) (set_of i)) used) e;
    },
  )

  merge-stands : (keys : Keys) (o p i j : Plan) → IsBuilt c q o → IsBuilt c q i → StandsIn c q every p o → StandsIn c q every j i → IsMerge c q keys o i → IsMerge c q keys p j
  merge-stands keys o p i j bo bi h k n =
      let free = list-free q (set_of o) (set_of i) keys (built-within c q o bo) (built-within c q i bi) n.sides.apart n.list.joining in record {
        sides = record {
          apart = λ x e. k.suffices.like.set x ∙ n.sides.apart x (sym (h.suffices.like.set x) ∙ e);
          outer_whole = λ x. h.suffices.like.param x ∙ n.sides.outer_whole x;
        };
        inner_whole = λ x. k.suffices.like.param x ∙ n.inner_whole x;
        list = subst₂ (λ a b. IsMergeList c q a b keys) (sym (set-like p o h.suffices.like)) (sym (set-like j i k.suffices.like)) n.list;
        outer_keys = h.has keys free.0 n.outer_keys;
        inner_keys = k.has keys free.1 n.inner_keys;
      }

  merge-startups : (w : Option Window) (keys : Keys) (o p i j : Plan) → IsLike p o → IsLike j i → (cost c q p).total ≤ (cost c q o).total → (cost c q j).total ≤ (cost c q i).total →
      IsStartupAtMost w (cost c q p).startup (cost c q o).startup → IsStartupAtMost w (cost c q j).startup (cost c q i).startup → IsStartupAtMost w (cost c q (merge keys p j)).startup (cost c q (merge keys o i)).startup
  merge-startups None keys o p i j h k l m s t = tt
  merge-startups (Some w) keys o p i j h k l m s t = (merge-replaced c q keys p o j i h k (record { startup = s; total = l }) (record { startup = t; total = m })).startup

  pub merge-suffices : (keys : Keys) (o p i j : Plan) → IsBuilt c q p → IsBuilt c q j → StandsIn c q every p o → StandsIn c q every j i → IsBuilt c q (merge keys o i) →
      IsBuilt c q (merge keys p j) × Suffices c q every (merge keys p j) (merge keys o i)
  merge-suffices keys o p i j a b h k n = (
    (a, b, merge-stands keys o p i j n.0 n.1 h k n.2),
    record {
      like = record { set = λ x. ap₂ (λ s t. s || t) (h.suffices.like.set x) (k.suffices.like.set x); param = λ x. refl };
      total = merge-totals c q keys p o j i h.suffices.like k.suffices.like h.suffices.total k.suffices.total;
      startup = merge-startups q.window keys o p i j h.suffices.like k.suffices.like h.suffices.total k.suffices.total h.suffices.startup k.suffices.startup;
      keys = λ ks used e. h.suffices.keys ks (use-shrinks q every (set_of o) (set_of (merge keys o i)) ks (first-within (set_of o) (set_of i)) used) e;
    },
  )

  -- what suffices for a plan below a limit is below it
  pub below-from : (p o : Plan) (limit : ℕ) → Suffices c q every p o → IsBelow c q limit o → IsBelow c q limit p
  below-from p o limit h b = record { admissible = lt_of_le_of_lt h.total b.admissible; floor = lt_of_le_of_lt (price-most c q q.window p o h.total h.startup) b.floor }

  first-part : (a b : ℕ) → a ≤ a + b
  first-part a b = omega arith

  second-part : (a b : ℕ) → b ≤ a + b
  second-part a b = omega arith

  -- a child's floor is no greater than its parent's
  pub child-below : (p o : Plan) (limit : ℕ) → (cost c q p).total ≤ (cost c q o).total → (cost c q p).startup ≤ (cost c q o).startup → IsBelow c q limit o → IsBelow c q limit p
  child-below p o limit h k b = record { admissible = lt_of_le_of_lt h b.admissible; floor = lt_of_le_of_lt (price-most c q q.window p o h (startup-from q.window (cost c q p).startup (cost c q o).startup k)) b.floor }

  module _ (Kept : Plan → Type 0) (limit : ℕ) (some : HaveRows c q) (closed : IsClosedBelow c q every Kept limit) where
    pub record HasSide (t : Plan) : Type 0 where
      pub side : Plan
      pub is_kept : IsKeptSide c q Kept side
      pub built : IsBuilt c q side
      pub stands : StandsIn c q every side t

    side-plain : (t : Plan) → Kept t → IsKeptSide c q Kept t
    side-plain (seq r) h = h
    side-plain (index r i backward p) h = h
    side-plain (index_only r i backward p) h = h
    side-plain (bitmap r p bits) h = h
    side-plain (sort keys input) h = absurd (true≢false (closed.plain (sort keys input) h))
    side-plain (nest outer inner) h = h
    side-plain (merge keys outer inner) h = h

    enough-stands : (t : Plan) → is_sort t ≡ false → HasEnough c q every Kept limit t → HasSide t
    enough-stands t e u = record {
      side = u.by';
      is_kept = side-plain u.by' u.is_kept;
      built = closed.built u.by' u.is_kept;
      stands = plain-stands u.by' t (closed.plain u.by' u.is_kept) e u.suffices;
    }

    sorted-stands : (keys : Keys) (t : Plan) → HasEnough c q every Kept limit t → HasSide (sort keys t)
    sorted-stands keys t u = record {
      side = sort keys u.by';
      is_kept = u.is_kept;
      built = (closed.built u.by' u.is_kept, closed.plain u.by' u.is_kept);
      stands = sort-stands keys u.by' t u.suffices;
    }

    nest-enough : (o i : Plan) → IsBuilt c q (nest o i) → IsBelow c q limit (nest o i) → HasEnough c q every Kept limit o → HasEnough c q every Kept limit i → HasEnough c q every Kept limit (nest o i)
    nest-enough o i built below p j =
        let made = nest-suffices o p.by' i j.by' (closed.built p.by' p.is_kept) (closed.built j.by' j.is_kept) (closed.plain p.by' p.is_kept) (closed.plain j.by' j.is_kept) p.suffices j.suffices built in
        let found = closed.joins (nest p.by' j.by') (p.is_kept, j.is_kept) made.0 (below-from (nest p.by' j.by') (nest o i) limit made.1 below) in
        record { by' = found.by'; is_kept = found.is_kept; suffices = suffices-trans found.by' (nest p.by' j.by') (nest o i) found.suffices made.1 }

    merge-enough : (keys : Keys) (o i : Plan) → IsBuilt c q (merge keys o i) → IsBelow c q limit (merge keys o i) → HasSide o → HasSide i → HasEnough c q every Kept limit (merge keys o i)
    merge-enough keys o i built below p j =
        let made = merge-suffices keys o p.side i j.side p.built j.built p.stands j.stands built in
        let found = closed.joins (merge keys p.side j.side) (p.is_kept, j.is_kept) made.0 (below-from (merge keys p.side j.side) (merge keys o i) limit made.1 below) in
        record { by' = found.by'; is_kept = found.is_kept; suffices = suffices-trans found.by' (merge keys p.side j.side) (merge keys o i) found.suffices made.1 }

    abbrev HasInputEnough : Plan → Type 0
    HasInputEnough (sort keys input) = HasEnough c q every Kept limit input
    HasInputEnough t = HasEnough c q every Kept limit t

    plain-enough : (t : Plan) → is_sort t ≡ false → HasInputEnough t → HasEnough c q every Kept limit t
    plain-enough (seq r) e h = h
    plain-enough (index r i backward p) e h = h
    plain-enough (index_only r i backward p) e h = h
    plain-enough (bitmap r p bits) e h = h
    plain-enough (sort keys input) e h = absurd (true≢false e)
    plain-enough (nest outer inner) e h = h
    plain-enough (merge keys outer inner) e h = h

    side-of : (t : Plan) → HasInputEnough t → HasSide t
    side-of (seq r) h = enough-stands (seq r) refl h
    side-of (index r i backward p) h = enough-stands (index r i backward p) refl h
    side-of (index_only r i backward p) h = enough-stands (index_only r i backward p) refl h
    side-of (bitmap r p bits) h = enough-stands (bitmap r p bits) refl h
    side-of (sort keys input) h = sorted-stands keys input h
    side-of (nest outer inner) h = enough-stands (nest outer inner) refl h
    side-of (merge keys outer inner) h = enough-stands (merge keys outer inner) refl h

    sort-startup-most : (keys : Keys) (input : Plan) → (cost c q input).startup ≤ (cost c q (sort keys input)).startup
    sort-startup-most keys input = le_trans (startup-most c q some input) (first-part (cost c q input).total _)

    input-enough : (t : Plan) → IsBuilt c q t → IsBelow c q limit t → HasInputEnough t
    input-enough (seq r) built below = closed.scans (seq r) refl built below
    input-enough (index r i backward p) built below = closed.scans (index r i backward p) refl built below
    input-enough (index_only r i backward p) built below = closed.scans (index_only r i backward p) refl built below
    input-enough (bitmap r p bits) built below = closed.scans (bitmap r p bits) refl built below
    input-enough (sort keys input) built below =
        plain-enough input built.1 (input-enough input built.0 (child-below input (sort keys input) limit (sort-most c q keys input) (sort-startup-most keys input) below))
    input-enough (nest outer inner) built below =
        let most = nest-most c q some outer inner in
        nest-enough outer inner built below
        (plain-enough outer built.2.outer_plain (input-enough outer built.0 (child-below outer (nest outer inner) limit most.0 (first-part (cost c q outer).startup (cost c q inner).startup) below)))
        (plain-enough inner built.2.inner_plain (input-enough inner built.1 (child-below inner (nest outer inner) limit most.1 (second-part (cost c q outer).startup (cost c q inner).startup) below)))
    input-enough (merge keys outer inner) built below =
        let most = merge-most c q keys outer inner in
        merge-enough keys outer inner built below
        (side-of outer (input-enough outer built.0 (child-below outer (merge keys outer inner) limit most.0 (first-part (cost c q outer).startup (cost c q inner).startup) below)))
        (side-of inner (input-enough inner built.1 (child-below inner (merge keys outer inner) limit most.1 (second-part (cost c q outer).startup (cost c q inner).startup) below)))

    -- each plan of the space below the limit that is no sort has a kept one that suffices for it
    pub enough : (t : Plan) → IsBuilt c q t → is_sort t ≡ false → IsBelow c q limit t → HasEnough c q every Kept limit t
    enough t built e below = plain-enough t e (input-enough t built below)
