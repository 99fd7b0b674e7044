-- Keys: classes with members in a set, and the order of tuples by them.
use Rattle.std.proofs.Common.{◌≡◌, Ordering, ℕ, ◌<◌, Bool, true, false, not, cond, ◌&&◌, ◌||◌, List, [], ◌∷◌, length, refl, sym, ◌∙◌, subst, arith, ⊎_elim}
use Rattle.std.specs.Prelude.{None, Some, nat_eq, take, find}
use Rattle.std.specs.List.{AllByRecursion, list_all, list_any}
use Rattle.std.specs.Ordering.{is_gt}
use Rattle.std.proofs.lemmas.Bool.{or_cases, and_parts, true≢false}
use Rattle.pg_expr.specs.declared.operand.ColRef.{ColRef}
use Rattle.eq_classes.specs.Clauses.{Set, ClassTable, first_in, has_constant}
use Rattle.eq_classes.specs.Parts.{is_joining, has_in, joining_from}
use Rattle.eq_classes.specs.work.Holding.{HasClass}
use Rattle.eq_classes.specs.Listing.{blank, class_at}
use Rattle.eq_classes.proofs.ListLemmas.{contains_from_in, in_at}
use Rattle.sql_query.specs.Queries.{Query}
use Rattle.sql_query.specs.Tuples.{Tuple, value_at}
use Rattle.sql_query.specs.Worlds.{World}
use Rattle.pathkeys.specs.Keys.{Keys}
use Rattle.pathkeys.specs.Sorted.{keys_order}
use Rattle.plan_laws.proofs.TotalLemmas.{IsUp}
use Rattle.plan_laws.proofs.JoiningLemmas.{joining_at}
use Rattle.pg_base.proofs.ListLemmas.{any-taken as any_taken}

-- a larger set has a first member where a smaller one has a member
pub find_more : (p r : ColRef → Bool) → ((x : ColRef) → p x ≡ true → r x ≡ true) → (xs : List ColRef) → list_any p xs ≡ true → (y : ColRef) × (find r xs ≡ Some y)
find_more p r f [] h = absurd (true≢false (sym h))
find_more p r f (x ∷ xs) h = by (find_more p r f xs) (r x) refl
  where
    by : (list_any p xs ≡ true → (y : ColRef) × (find r xs ≡ Some y)) → (v : Bool) → r x ≡ v → (y : ColRef) × (cond v (Some x) (find r xs) ≡ Some y)
    by later true e = (x, refl)
    by later false e = later (⊎_elim (λ (here : p x ≡ true). absurd (true≢false (sym (f x here) ∙ e))) (λ (more : list_any p xs ≡ true). more) (or_cases (p x) (list_any p xs) h))

pub found_any : (p : ColRef → Bool) (xs : List ColRef) (x : ColRef) → find p xs ≡ Some x → list_any p xs ≡ true
found_any p [] x h = absurd (nothing h)
  where
    nothing : None ≡ Some x → ⊥
    nothing e = cc
found_any p (y ∷ ys) x h = by (found_any p ys x) (p y) h
  where
    by : (find p ys ≡ Some x → list_any p ys ≡ true) → (v : Bool) → cond v (Some y) (find p ys) ≡ Some x → v || list_any p ys ≡ true
    by later true h = refl
    by later false h = later h

-- a class of the table that has a member inside a set
pub record IsKey (t : ClassTable) (a : Set) (n : ℕ) : Type 0 where
  pub class : HasClass t (class_at t.classes n)
  pub member : ColRef
  pub first : first_in (class_at t.classes n) a ≡ Some member

abbrev pub AreKeys : ClassTable → Set → Keys → Type 0
AreKeys t a keys = AllByRecursion (IsKey t a) keys

pub wider : (t : ClassTable) (a b : Set) → ((k : ℕ) → a k ≡ true → b k ≡ true) → (keys : Keys) → AreKeys t a keys → AreKeys t b keys
wider t a b f [] h = tt
wider t a b f (n ∷ ns) h =
    let more = find_more (λ x. a x.rel.0) (λ x. b x.rel.0) (λ x is. f x.rel.0 is) (class_at t.classes n).members (found_any (λ x. a x.rel.0) (class_at t.classes n).members h.0.member h.0.first) in
    (record { class = h.0.class; member = more.0; first = more.1 }, wider t a b f ns h.1)

-- the joining classes of two sets have members in both
pub list_keys : (t : ClassTable) (a b : Set) (keys : Keys) → list_all (λ n. list_any (nat_eq n) (take 4 (joining_from a b 0 t.classes))) keys ≡ true → AreKeys t a keys × AreKeys t b keys
list_keys t a b [] h = (tt, tt)
list_keys t a b (n ∷ ns) h =
    let parts : (list_any (nat_eq n) (take 4 (joining_from a b 0 t.classes)) ≡ true) × (list_all (λ m. list_any (nat_eq m) (take 4 (joining_from a b 0 t.classes))) ns ≡ true) = and_parts (list_any (nat_eq n) (take 4 (joining_from a b 0 t.classes))) (list_all (λ m. list_any (nat_eq m) (take 4 (joining_from a b 0 t.classes))) ns) h in
    let at = joining_at a b 0 t.classes n (any_taken (nat_eq n) 4 (joining_from a b 0 t.classes) parts.0) in
    let same : at.0 ≡ n = omega (arith, at.1) in
    let low : n < length t.classes = omega (arith, at.1, at.2) in
    let joins_here : is_joining a b (class_at t.classes n) ≡ true = subst (λ (k : ℕ). is_joining a b (class_at t.classes k) ≡ true) same at.3 in
    let both : (has_in (class_at t.classes n) a ≡ true) × (has_in (class_at t.classes n) b ≡ true) = and_parts (has_in (class_at t.classes n) a) (has_in (class_at t.classes n) b) (and_parts (not (has_constant (class_at t.classes n))) (has_in (class_at t.classes n) a && has_in (class_at t.classes n) b) joins_here).1 in
    let class : HasClass t (class_at t.classes n) = contains_from_in t.classes (class_at t.classes n) (in_at t.classes n blank low) in
    let in_a = find_more (λ x. a x.rel.0) (λ x. a x.rel.0) (λ x is. is) (class_at t.classes n).members both.0 in
    let in_b = find_more (λ x. b x.rel.0) (λ x. b x.rel.0) (λ x is. is) (class_at t.classes n).members both.1 in
    let rest = list_keys t a b ns parts.1 in
    ((record { class = class; member = in_a.0; first = in_a.1 }, rest.0), (record { class = class; member = in_b.0; first = in_b.1 }, rest.1))

module _ (w : World) (q : Query) where
  abbrev pub by_keys : Set → Keys → Tuple → Tuple → Ordering
  by_keys set keys = keys_order (value_at w q) q.classes set keys

  pub no_keys_up : (set : Set) (ts : List Tuple) → IsUp (by_keys set []) ts
  no_keys_up set [] = tt
  no_keys_up set (t ∷ ts) = (each ts, no_keys_up set ts)
    where
      each : (us : List Tuple) → AllByRecursion (λ u. is_gt (by_keys set [] t u) ≡ false) us
      each [] = tt
      each (u ∷ us) = (refl, each us)
