-- The key lists of plans of the space have texts: their classes are different and have members in the plan's set.
use Rattle.std.proofs.Common.{◌≡◌, ◌<◌, ℕ, Bool, true, false, cond, ◌||◌, nat_eq, List, [], ◌∷◌, length, refl, sym, ◌∙◌, ap, subst, arith, true≢false}
use Rattle.std.specs.Prelude.{Option, None, Some, find}
use Rattle.std.specs.List.{AllByRecursion, list_any}
use Rattle.std.proofs.lemmas.List.Elements.{All-from_recursion, All-nil, All-weaker}
use Rattle.pg_base.specs.declared.numbers.IndexNo.{IndexNo}
use Rattle.pg_base.specs.declared.numbers.RelNo.{RelNo}
use Rattle.pg_expr.specs.declared.operand.ColRef.{ColRef}
use Rattle.opfamily.specs.KeyOrder.{key_family}
use Rattle.opfamily.specs.declared.classes.IndexKey.{IndexKey}
use Rattle.opfamily.specs.declared.classes.Method.{Method}
use Rattle.opfamily.specs.declared.classes.Method.TheVariants.{Btree, Hash}
use Rattle.catalog.specs.Contents.{Contents, index_at}
use Rattle.eq_classes.specs.Clauses.{Set, ClassTable, first_in, one}
use Rattle.eq_classes.specs.Listing.{class_at}
use Rattle.eq_classes.specs.Parts.{union}
use Rattle.plan_laws.proofs.JoiningLemmas.{joining_classes}
use Rattle.pathkeys.specs.Keys.{Keys, class_of_key, key_column, ends, gives, has_direction, index_keys, is_constant, keys_by, keys_from, passes, step_of}
use Rattle.pathkeys.proofs.StepLemmas.{keys_by_are_keys}
use Rattle.sql_query.specs.Queries.{Query}
use Rattle.plan_tree.specs.Keys.{keys_of}
use Rattle.plan_tree.specs.Plans.{Plan, seq, index, index_only, bitmap, sort, nest, merge, is_empty, is_sort, set_of}
use Rattle.plan_tree.specs.Space.{HasKeys, IsBuilt, IsMergeList}
use Rattle.explain_laws.specs.plan_laws_IndexOrderLemmas.{KeyClass, class_found, first_of}
use Rattle.explain_laws.specs.plan_laws_KeyLemmas.{AreKeys, list_keys}
use Rattle.certificate_text.specs.HasText.{HasKeysText}

some-none : {A : Type 0} (x : A) (o : Option A) → o ≡ Some x → o ≡ None → ⊥
some-none x o e n = cc

-- a class has a member in a set
abbrev HasMember : ClassTable → Set → ℕ → Type 0
HasMember t s n = ¬ (first_in (class_at t.classes n) s ≡ None)

none-more : (p r : ColRef → Bool) → ((x : ColRef) → p x ≡ true → r x ≡ true) → (xs : List ColRef) → find r xs ≡ None → find p xs ≡ None
none-more p r f [] h = refl
none-more p r f (x ∷ xs) h = by (none-more p r f xs) (r x) (p x) refl refl h
  where
    by : (find r xs ≡ None → find p xs ≡ None) → (a b : Bool) → r x ≡ a → p x ≡ b → cond a (Some x) (find r xs) ≡ None → cond b (Some x) (find p xs) ≡ None
    by later true b e g h = absurd (some-none x (Some x) refl h)
    by later false true e g h = absurd (true≢false (sym (f x g) ∙ e))
    by later false false e g h = later h

member-wider : (t : ClassTable) (a b : Set) → ((k : ℕ) → a k ≡ true → b k ≡ true) → (n : ℕ) → HasMember t a n → HasMember t b n
member-wider t a b f n h none = h (none-more (λ (x : ColRef). a x.rel.0) (λ (x : ColRef). b x.rel.0) (λ x is. f x.rel.0 is) (class_at t.classes n).members none)

pub keys-wider : (q : Query) (a b : Set) → ((k : ℕ) → a k ≡ true → b k ≡ true) → (keys : Keys) → HasKeysText q a keys → HasKeysText q b keys
keys-wider q a b f keys h = record {
  different = h.different;
  classes = h.classes;
  members = All-weaker (HasMember q.classes a) (HasMember q.classes b) (member-wider q.classes a b f) keys h.members;
}

no-keys : (q : Query) (s : Set) → HasKeysText q s []
no-keys q s = record { different = λ i j d lt within. absurd (omega (arith, within)); classes = All-nil (λ n. n < length q.classes.classes); members = All-nil (HasMember q.classes s) }

-- the keys of an index are classes with members in the relation
from-members : (t : ClassTable) (r : ℕ) (backward : Bool) (taken : Keys) (ks : List IndexKey) → AllByRecursion (HasMember t (one r)) (keys_from t r backward taken ks)
from-members t r backward taken [] = tt
from-members t r backward taken (k ∷ ks) = by (λ more. from-members t r backward more ks) (class_of_key t r k) refl
  where
    by_tests : ((more : Keys) → AllByRecursion (HasMember t (one r)) (keys_from t r backward more ks)) → (n : ℕ) → KeyClass t r k n → (A D : Bool)
        → AllByRecursion (HasMember t (one r)) (elim (cond A passes (cond D (gives n) ends)) [ ends ↦ [] | passes ↦ keys_from t r backward taken ks | gives m ↦ m ∷ keys_from t r backward (m ∷ taken) ks ])
    by_tests later n key true D = later taken
    by_tests later n key false true = let first = first_of t r k n key in (some-none first.0 (first_in (class_at t.classes n) (one r)) first.1, later (n ∷ taken))
    by_tests later n key false false = tt

    by : ((more : Keys) → AllByRecursion (HasMember t (one r)) (keys_from t r backward more ks)) → (o : Option ℕ) → class_of_key t r k ≡ o
        → AllByRecursion (HasMember t (one r)) (elim (step_of t backward taken k o) [ ends ↦ [] | passes ↦ keys_from t r backward taken ks | gives m ↦ m ∷ keys_from t r backward (m ∷ taken) ks ])
    by later None e = tt
    by later (Some n) e = by_tests later n (class_found t (key_column r k) (key_family k) n e) (is_constant t n || list_any (nat_eq n) taken) (has_direction backward k (class_at t.classes n))

by-members : (m : Method) (t : ClassTable) (r : ℕ) (backward : Bool) (ks : List IndexKey) → AllByRecursion (HasMember t (one r)) (keys_by m t r backward ks)
by-members Btree t r backward ks = from-members t r backward [] ks
by-members Hash t r backward ks = tt

-- the keys of a list that joins two sets are classes with members in either
listed-members : (t : ClassTable) (s : Set) (keys : Keys) → AreKeys t s keys → AllByRecursion (HasMember t s) keys
listed-members t s [] h = tt
listed-members t s (n ∷ ns) h = (some-none h.0.member (first_in (class_at t.classes n) s) h.0.first, listed-members t s ns h.1)

module _ (c : Contents) (q : Query) where
  index-text : (r : RelNo) (i : IndexNo) (backward : Bool) → HasKeysText q (one r.0) (index_keys c q.classes i r.0 backward)
  index-text r i backward =
      let m = (index_at c i).method in
      let ks = (index_at c i).keys in
      let list = keys_by_are_keys q.classes r.0 backward m ks in
      record {
        different = list.different;
        classes = list.classes;
        members = All-from_recursion (HasMember q.classes (one r.0)) (keys_by m q.classes r.0 backward ks) (by-members m q.classes r.0 backward ks);
      }

  scan-text : (r : RelNo) (i : IndexNo) (backward b : Bool) → HasKeysText q (one r.0) (cond b (index_keys c q.classes i r.0 backward) [])
  scan-text r i backward true = index-text r i backward
  scan-text r i backward false = no-keys q (one r.0)

  pub list-outer : (a b : Set) (keys : Keys) → IsMergeList c q a b keys → HasKeysText q a keys
  list-outer a b keys list = record {
    different = list.different;
    classes = joining_classes a b q.classes.classes keys list.joining;
    members = All-from_recursion (HasMember q.classes a) keys (listed-members q.classes a keys (list_keys q.classes a b keys list.joining).0);
  }

  side-text : (t : Plan) (keys : Keys) → HasKeys c q t keys → HasKeysText q (set_of t) keys → (is_sort t ≡ false → HasKeysText q (set_of t) (keys_of c q t)) → HasKeysText q (set_of t) (keys_of c q t)
  side-text (seq r) keys has list plain = plain refl
  side-text (index r i backward p) keys has list plain = plain refl
  side-text (index_only r i backward p) keys has list plain = plain refl
  side-text (bitmap r p bits) keys has list plain = plain refl
  side-text (sort ks input) keys has list plain = subst (HasKeysText q (set_of input)) (sym has) list
  side-text (nest outer inner) keys has list plain = plain refl
  side-text (merge ks outer inner) keys has list plain = plain refl

  -- the keys of a plan without a sort on top have a text over its relations
  pub plan-text : (t : Plan) → IsBuilt c q t → is_sort t ≡ false → HasKeysText q (set_of t) (keys_of c q t)
  plan-text (seq r) built plain = no-keys q (one r.0)
  plan-text (index r i backward p) built plain = scan-text r i backward (is_empty p)
  plan-text (index_only r i backward p) built plain = scan-text r i backward (is_empty p)
  plan-text (bitmap r p bits) built plain = no-keys q (one r.0)
  plan-text (sort keys input) built plain = absurd (true≢false plain)
  plan-text (nest outer inner) built plain =
      keys-wider q (set_of outer) (union (set_of outer) (set_of inner)) (λ k is. ap (λ (b : Bool). b || set_of inner k) is) (keys_of c q outer) (plan-text outer built.0 built.2.outer_plain)
  plan-text (merge keys outer inner) built plain =
      keys-wider q (set_of outer) (union (set_of outer) (set_of inner)) (λ k is. ap (λ (b : Bool). b || set_of inner k) is) (keys_of c q outer)
      (side-text outer keys built.2.outer_keys (list-outer (set_of outer) (set_of inner) keys built.2.list) (plan-text outer built.0))
