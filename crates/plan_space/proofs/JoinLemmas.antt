-- The sets of plans and the parts of joins, by what is found of them.
use Prim.Native.Nat.{suc, zero}
use Rattle.std.proofs.Common.{◌≡◌, ◌<◌, ◌≤◌, ◌↔◌, ℕ, Bool, true, false, cond, ◌&&◌, ◌||◌, nat_eq, nat_lt, List, [], ◌∷◌, length, map, take, IsTrue, refl, sym, ap, ap₂, ◌∙◌, arith, ◌⊎◌, inl, inr, subst, subst₂}
use Rattle.std.specs.Prelude.{Option, Some, None, option_map}
use Rattle.std.specs.List.{list_any, list_all}
use Rattle.std.proofs.lemmas.Bool.{eqb-true, lt-ltb, ltb-true, or_cases, true≢false}
use Rattle.std.proofs.lemmas.List.{length-map}
use Rattle.pg_base.specs.Sets.{has}
use Rattle.pg_base.specs.work.Sets.{Meets}
use Rattle.pg_base.specs.declared.numbers.RelNo.{RelNo}
use Rattle.pg_base.specs.declared.rel_set.RelSet.{RelSet}
use Rattle.pg_base.proofs.SetLaws.{has-zero}
use Rattle.catalog.specs.Contents.{Contents}
use Rattle.eq_classes.specs.Clauses.{Set, ClassTable}
use Rattle.eq_classes.specs.Holding.{AreApart, IsWithin}
use Rattle.eq_classes.specs.Parts.{joining_from}
use Rattle.eq_classes.specs.work.Parts.{first_four}
use Rattle.eq_classes.specs.declared.classes.ClassNo.{ClassNo}
use Rattle.pathkeys.specs.work.Finding.{class_numbers, is_class}
use Rattle.pathkeys.specs.Keys.{AreDifferent, Keys}
use Rattle.sql_query.specs.Queries.{Query, width}
use Rattle.plan_tree.specs.Plans.{Plan, seq, index, index_only, bitmap, sort, nest, merge, param_in, scan_given, set_of}
use Rattle.plan_tree.specs.work.Reads.{ReadsBelow}
use Rattle.plan_tree.specs.work.Costable.{IsCostable}
use Rattle.plan_tree.specs.Space.{IsBuilt, IsEmpty, IsMergeList, IsSameSet}
use Rattle.plan_tree.specs.work.Views.{plan}
use Rattle.plan_tree.specs.declared.plan.Plan.{Plan as Planned}
use Rattle.plan_tree.proofs.CostableLemmas.{built-costable}
use Rattle.plan_tree.proofs.EstimateLemmas.{below-more}
use Rattle.plan_tree.proofs.PathLemmas.{built-below}
use Rattle.plan_tree.proofs.GivenLemmas.{read-below}

-- a scan is given the rows of its parameterisation, also of an empty one
pub scan-param : (r : RelNo) (p : RelSet) (k : ℕ) → has p.0 k ≡ param_in (scan_given r p) k
scan-param r p k = by (nat_eq p.0 0) refl
  where
    by : (b : Bool) → nat_eq p.0 0 ≡ b → has p.0 k ≡ param_in (cond b None (Some (record { relation = r; param = p }))) k
    by true e = ap (λ n. has n k) (eqb-true p.0 0 e) ∙ has-zero k
    by false e = refl

module _ (a b : ℕ) (s t : Set) (left : (k : ℕ) → has a k ≡ s k) (right : (k : ℕ) → has b k ≡ t k) where
  pub apart-from : ¬ (Meets a b) → AreApart s t
  apart-from none k e = by (t k) refl
    where
      by : (x : Bool) → t k ≡ x → t k ≡ false
      by true f = absurd (none (k, left k ∙ e, right k ∙ f))
      by false f = f

  pub apart-no : AreApart s t → ¬ (Meets a b)
  apart-no apart (k, in_a, in_b) = true≢false (sym (sym (right k) ∙ in_b) ∙ apart k (sym (left k) ∙ in_a))

  pub within-from : ((k : ℕ) → IsTrue (has a k) → IsTrue (has b k)) → IsWithin s t
  within-from h k e = sym (right k) ∙ h k (left k ∙ e)

  pub within-to : IsWithin s t → (k : ℕ) → IsTrue (has a k) → IsTrue (has b k)
  within-to h k e = right k ∙ h k (sym (left k) ∙ e)

pub empty-from : (a : ℕ) (s : Set) → ((k : ℕ) → has a k ≡ s k) → ((k : ℕ) → has a k ≡ false) → IsEmpty s
empty-from a s same h k = sym (same k) ∙ h k

pub empty-to : (a : ℕ) (s : Set) → ((k : ℕ) → has a k ≡ s k) → IsEmpty s → (k : ℕ) → has a k ≡ false
empty-to a s same h k = same k ∙ h k

-- a number among the first four of a list
four : (n : ℕ) (js : List ℕ) → list_any (is_class n) (first_four js) ≡ list_any (nat_eq n) (take 4 js)
four n [] = refl
four n (a ∷ []) = refl
four n (a ∷ b ∷ []) = refl
four n (a ∷ b ∷ c ∷ []) = refl
four n (a ∷ b ∷ c ∷ d ∷ js) = refl

any-mapped : {X Y : Type 0} (p : Y → Bool) (f : X → Y) (xs : List X) → list_any (λ x. p (f x)) xs ≡ list_any p (map f xs)
any-mapped p f [] = refl
any-mapped p f (x ∷ xs) = ap (λ b. p (f x) || b) (any-mapped p f xs)

abbrev number_of : Option ClassNo → Option ℕ
number_of o = option_map (λ (n : ClassNo). n.0) o

pub found-four : (n : ℕ) (js : List ℕ) (found : List (Option ClassNo)) → map (option_map (λ (n : ClassNo). n.0)) found ≡ first_four js →
    list_any (λ (o : Option ClassNo). is_class n (option_map (λ (n : ClassNo). n.0) o)) found ≡ list_any (nat_eq n) (take 4 js)
found-four n js found e = any-mapped (is_class n) number_of found ∙ ap (list_any (is_class n)) e ∙ four n js

-- each class of a list is one of the first four
pub all-four : (js : List ℕ) (found : List (Option ClassNo)) (cs : List ClassNo) → map (option_map (λ (n : ClassNo). n.0)) found ≡ first_four js →
    list_all (λ (c : ClassNo). list_any (λ (o : Option ClassNo). is_class c.0 (option_map (λ (n : ClassNo). n.0) o)) found) cs ≡ list_all (λ n. list_any (nat_eq n) (take 4 js)) (class_numbers cs)
all-four js found [] e = refl
all-four js found (c ∷ cs) e = ap₂ (λ x y. x && y) (found-four c.0 js found e) (all-four js found cs e)

-- what is found of a list makes it one of a merge
pub merge-list : (c : Contents) (q : Query) (a b : Set) (t : ClassTable) (keys : Keys) (cs : List ClassNo) (found : List (Option ClassNo)) (all : Bool) → q.classes ≡ t → class_numbers cs ≡ keys → 1 ≤ length cs → length cs ≤ 3 → AreDifferent keys →
    map (option_map (λ (n : ClassNo). n.0)) found ≡ first_four (joining_from a b 0 t.classes) → all ≡ list_all (λ (c : ClassNo). list_any (λ (o : Option ClassNo). is_class c.0 (option_map (λ (n : ClassNo). n.0) o)) found) cs →
    (all ≡ true) ↔ IsMergeList c q a b keys
merge-list c q a b t keys cs found all table same some few different four is =
    (λ h. record { some = omega (arith, long, some); few = omega (arith, long, few); different = different; joining = sym joined ∙ h }, λ h. joined ∙ h.joining)
  where
    long : length keys ≡ length cs
    long = ap length (sym same) ∙ length-map cs (λ (x : ClassNo). x.0)

    joined : all ≡ list_all (λ n. list_any (nat_eq n) (take 4 (joining_from a b 0 q.classes.classes))) keys
    joined = is ∙ all-four (joining_from a b 0 t.classes) found cs four
        ∙ ap₂ (λ (x : ClassTable) (ks : Keys). list_all (λ n. list_any (nat_eq n) (take 4 (joining_from a b 0 x.classes))) ks) (sym table) same

either : {A B C : Type 0} → (A → C) → (B → C) → A ⊎ B → C
either f g (inl a) = f a
either f g (inr b) = g b

-- a plan reads all relations exactly where each is found in it
pub all-read : (n a : ℕ) (p : Plan) → ReadsBelow n p → ((k : ℕ) → has a k ≡ set_of p k) → ((k : ℕ) → k < n → has a k ≡ true) ↔ IsSameSet (set_of p) (λ k. nat_lt k n)
all-read n a p reads same = (λ h k. by h k (nat_lt k n) refl, λ h k lt. same k ∙ h k ∙ lt-ltb k n lt)
  where
    other : (k : ℕ) → nat_lt k n ≡ false → (b : Bool) → set_of p k ≡ b → b ≡ false
    other k f true e = absurd (true≢false (sym (lt-ltb k n (read-below n p k reads e)) ∙ f))
    other k f false e = refl

    by : ((k : ℕ) → k < n → has a k ≡ true) → (k : ℕ) (b : Bool) → nat_lt k n ≡ b → set_of p k ≡ b
    by h k true f = sym (same k) ∙ h k (ltb-true k n f)
    by h k false f = other k f (set_of p k) refl

-- a list of a merge of two sets by their members
pub merge-of : (c : Contents) (q : Query) (a b : ℕ) (s t : Set) (keys : Keys) → ((k : ℕ) → has a k ≡ s k) → ((k : ℕ) → has b k ≡ t k) → IsMergeList c q (has a) (has b) keys ↔ IsMergeList c q s t keys
merge-of c q a b s t keys left right =
    let first : has a ≡ s = λ i k. left k i in
    let second : has b ≡ t = λ i k. right k i in
    (λ h. subst₂ (λ x y. IsMergeList c q x y keys) first second h, λ h. subst₂ (λ x y. IsMergeList c q x y keys) (sym first) (sym second) h)

-- a plan of the space at another place of memory
pub below-built : (c : Contents) (q : Query) (x y : Planned) → width q ≤ 16 → x ≡ y → IsBuilt c q (plan x) → ReadsBelow 16 (plan y)
below-built c q x y few same h = subst (λ (z : Planned). ReadsBelow 16 (plan z)) same (below-more (width q) 16 (plan x) few (built-below c q (plan x) h))

pub costable-built : (c : Contents) (q : Query) (x y : Planned) → x ≡ y → IsBuilt c q (plan x) → IsCostable c q (plan y)
costable-built c q x y same h = subst (λ (z : Planned). IsCostable c q (plan z)) same (built-costable c q (plan x) h)

pub some-listed : (n : ℕ) → nat_eq n 0 ≡ false → 1 ≤ n
some-listed zero e = absurd (true≢false e)
some-listed (suc n) e = omega arith
