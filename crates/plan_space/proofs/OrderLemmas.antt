-- A list of classes held against those that ORDER BY asks for, one after the other.
use Prim.Native.Nat.{suc, zero}
use Rattle.std.proofs.Common.{◌≡◌, ◌<◌, ◌≤◌, ◌+◌, ℕ, Bool, true, false, not, cond, ◌&&◌, ◌||◌, nat_eq, List, [], ◌∷◌, ◌++◌, length, filter, take, drop, get_or, refl, sym, ap, ap₂, ◌∙◌, arith, ◌⊎◌, inl, inr}
use Rattle.std.specs.Prelude.{IfNone, Option, Some, None, filter_map, slice_get}
use Rattle.std.specs.List.{list_any, cons_option}
use Rattle.std.proofs.lemmas.Bool.{and_from, and_parts, cases_lt, eqb-true, eqb-false, eq-eqb, ne_eqb}
use Rattle.std.proofs.lemmas.Option.{slice_get-get_or, slice_get_within}
use Rattle.std.proofs.lemmas.List.{drop_all, drop_more, length-map, map-append, take-map, take_all, take_more}
use Rattle.std.proofs.lemmas.List.Folds.{list_any-append}
use Rattle.eq_classes.specs.Clauses.{ClassTable}
use Rattle.eq_classes.specs.declared.classes.ClassNo.{ClassNo}
use Rattle.eq_classes.specs.declared.order.OrderItem.{OrderItem}
use Rattle.pathkeys.specs.work.Finding.{class_numbers}
use Rattle.pathkeys.specs.Keys.{Keys, covers, is_constant, once, order_class, order_keys}
use Rattle.plan_space.specs.work.OrderKeys.{GoesOnAs, classes_asked, goes_on, once_besides}
use Rattle.pg_base.proofs.NumberLemmas.{nat_eq-turned}

-- a filter of a filter is one by both tests
filter-both : (p q r : ℕ → Bool) → ((m : ℕ) → r m ≡ q m && p m) → (ns : List ℕ) → filter p (filter q ns) ≡ filter r ns
filter-both p q r h [] = refl
filter-both p q r h (n ∷ ns) = by (filter-both p q r h ns) (q n) (r n) (h n)
  where
    by : filter p (filter q ns) ≡ filter r ns → (a b : Bool) → b ≡ a && p n → filter p (cond a (n ∷ filter q ns) (filter q ns)) ≡ cond b (n ∷ filter r ns) (filter r ns)
    by later true b e = ap (λ (ms : List ℕ). cond (p n) (n ∷ ms) ms) later ∙ ap (λ x. cond x (n ∷ filter r ns) (filter r ns)) (sym e)
    by later false b e = later ∙ ap (λ x. cond x (n ∷ filter r ns) (filter r ns)) (sym e)

abbrev free : Keys → ℕ → Bool
free taken m = not (list_any (nat_eq m) taken)

pub besides-none : (ns : List ℕ) → once_besides [] ns ≡ once ns
besides-none ns = all (once ns)
  where
    all : (ms : List ℕ) → filter (free []) ms ≡ ms
    all [] = refl
    all (m ∷ ms) = ap (λ (xs : List ℕ). m ∷ xs) (all ms)

-- a class that is taken adds nothing
pub besides-passed : (taken : Keys) (n : ℕ) (ns : List ℕ) → list_any (nat_eq n) taken ≡ true → once_besides taken (n ∷ ns) ≡ once_besides taken ns
besides-passed taken n ns e =
    let rest = filter (λ m. not (nat_eq n m)) (once ns) in
    ap (λ b. cond (not b) (n ∷ filter (free taken) rest) (filter (free taken) rest)) e ∙ filter-both (free taken) (λ m. not (nat_eq n m)) (free taken) other (once ns)
  where
    other : (m : ℕ) → free taken m ≡ not (nat_eq n m) && free taken m
    other m = by (nat_eq n m) refl
      where
        by : (b : Bool) → nat_eq n m ≡ b → free taken m ≡ not b && free taken m
        by false f = refl
        by true f = ap (free taken) (sym (eqb-true n m f)) ∙ ap not e

-- another one stands first
pub besides-taken : (taken : Keys) (n : ℕ) (ns : List ℕ) → list_any (nat_eq n) taken ≡ false → once_besides taken (n ∷ ns) ≡ n ∷ once_besides (taken ++ n ∷ []) ns
besides-taken taken n ns e =
    let rest = filter (λ m. not (nat_eq n m)) (once ns) in
    ap (λ b. cond (not b) (n ∷ filter (free taken) rest) (filter (free taken) rest)) e
    ∙ ap (λ (xs : List ℕ). n ∷ xs) (filter-both (free taken) (λ m. not (nat_eq n m)) (free (taken ++ n ∷ [])) more (once ns))
  where
    parts : (x y : Bool) → not (x || (y || false)) ≡ not y && not x
    parts true true = refl
    parts true false = refl
    parts false true = refl
    parts false false = refl

    more : (m : ℕ) → free (taken ++ n ∷ []) m ≡ not (nat_eq n m) && free taken m
    more m =
        ap not (list_any-append (nat_eq m) taken (n ∷ [])) ∙ parts (list_any (nat_eq m) taken) (nat_eq m n)
        ∙ ap (λ b. not b && free taken m) (nat_eq-turned m n)

module _ (keys : Keys) (at : ℕ) (n : ℕ) where
  pub passes-on : list_any (nat_eq n) (take at keys) ≡ true → (ns : List ℕ) → GoesOnAs keys at (n ∷ ns) at ns
  passes-on e ns = record {
    begins = ap (covers (drop at keys)) (besides-passed (take at keys) n ns e);
    count = ap (λ (xs : Keys). at + length xs) (besides-passed (take at keys) n ns e);
  }

  module _ (other : list_any (nat_eq n) (take at keys) ≡ false) where
    pub stands-on : at < length keys → get_or keys at 0 ≡ n → (ns : List ℕ) → GoesOnAs keys at (n ∷ ns) (at + 1) ns
    stands-on lt same ns =
        let first : once_besides (take at keys) (n ∷ ns) ≡ n ∷ once_besides (take (at + 1) keys) ns
        = besides-taken (take at keys) n ns other ∙ ap (λ (ts : Keys). n ∷ once_besides ts ns) (sym (take_more keys at 0 lt ∙ ap (λ m. take at keys ++ m ∷ []) same)) in
        record {
          begins = ap₂ covers (drop_more keys at 0 lt) first ∙ ap (λ b. b && goes_on keys (at + 1) ns) (eq-eqb (get_or keys at 0) n same);
          count = ap (λ (xs : Keys). at + length xs) first ∙ moved at (length (once_besides (take (at + 1) keys) ns));
        }
      where
        moved : (a b : ℕ) → a + suc b ≡ a + 1 + b
        moved a b = omega arith

    pub differs-on : at < length keys → ¬ (get_or keys at 0 ≡ n) → (ns : List ℕ) → goes_on keys at (n ∷ ns) ≡ false
    differs-on lt other-one ns =
        ap₂ covers (drop_more keys at 0 lt) (besides-taken (take at keys) n ns other)
        ∙ ap (λ b. b && covers (drop (at + 1) keys) (once_besides (take at keys ++ n ∷ []) ns)) (ne_eqb (get_or keys at 0) n other-one)

    pub ends-on : length keys ≤ at → (ns : List ℕ) → goes_on keys at (n ∷ ns) ≡ false
    ends-on le ns = ap₂ covers (drop_all at keys le) (besides-taken (take at keys) n ns other)

-- the numbers of classes of a list
any-number : (n : ℕ) (cs : List ClassNo) → list_any (λ (c : ClassNo). nat_eq n c.0) cs ≡ list_any (nat_eq n) (class_numbers cs)
any-number n [] = refl
any-number n (c ∷ cs) = ap (λ b. nat_eq n c.0 || b) (any-number n cs)

taken-number : (n at : ℕ) (cs : List ClassNo) → list_any (λ (c : ClassNo). nat_eq n c.0) (take at cs) ≡ list_any (nat_eq n) (take at (class_numbers cs))
taken-number n at cs = any-number n (take at cs) ∙ ap (list_any (nat_eq n)) (sym (take-map (λ (c : ClassNo). c.0) at cs))

-- whether a class is among those before a place
pub taken-found : (n at : ℕ) (cs : List ClassNo) (found is : Bool) → found ≡ list_any (λ (c : ClassNo). nat_eq n c.0) (take at cs) → found ≡ is → list_any (nat_eq n) (take at (class_numbers cs)) ≡ is
taken-found n at cs found is e f = sym (taken-number n at cs) ∙ sym e ∙ f

pub within-numbers : (cs : List ClassNo) (at : ℕ) → at < length cs → at < length (class_numbers cs)
within-numbers cs at lt = let long = length-map cs (λ (c : ClassNo). c.0) in omega (arith, long, lt)

pub ends-numbers : (cs : List ClassNo) (at n : ℕ) → list_any (nat_eq n) (take at (class_numbers cs)) ≡ false → length cs ≤ at → (ns : List ℕ) → goes_on (class_numbers cs) at (n ∷ ns) ≡ false
ends-numbers cs at n other le = let long = length-map cs (λ (c : ClassNo). c.0) in ends-on (class_numbers cs) at n other (omega (arith, long, le))

-- the classes of items, one item after the other
pub asked-more : (t : ClassTable) (i : OrderItem) (is : List OrderItem) → classes_asked t (i ∷ is) ≡ classes_asked t (i ∷ []) ++ classes_asked t is
asked-more t i is = by (order_class t i.col)
  where
    keep : ℕ → Bool
    keep n = not (is_constant t n)

    later : List ℕ
    later = filter_map (λ (item : OrderItem). order_class t item.col) is

    one : (n : ℕ) (b : Bool) (xs : List ℕ) → cond b (n ∷ xs) xs ≡ cond b (n ∷ []) [] ++ xs
    one n true xs = refl
    one n false xs = refl

    by : (o : Option ℕ) → filter (λ n. not (is_constant t n)) (cons_option o (filter_map (λ (item : OrderItem). order_class t item.col) is)) ≡ filter (λ n. not (is_constant t n)) (cons_option o []) ++ classes_asked t is
    by None = refl
    by (Some n) = one n (not (is_constant t n)) (classes_asked t is)

pub goes-same : (keys : Keys) (at : ℕ) (ns : List ℕ) → GoesOnAs keys at ns at ns
goes-same keys at ns = record { begins = refl; count = refl }

pub goes-then : (keys : Keys) (a : ℕ) (xs : List ℕ) (b : ℕ) (ys : List ℕ) (d : ℕ) (zs : List ℕ) → GoesOnAs keys a xs b ys → GoesOnAs keys b ys d zs → GoesOnAs keys a xs d zs
goes-then keys a xs b ys d zs f g = record { begins = f.begins ∙ g.begins; count = f.count ∙ g.count }

covers-none : (keys : Keys) → covers keys [] ≡ true
covers-none [] = refl
covers-none (k ∷ ks) = refl

-- past the last item the list begins with the keys, and there are as many as it went on
pub begun-all : (t : ClassTable) (order : List OrderItem) (keys : Keys) (n : ℕ) → GoesOnAs keys 0 (classes_asked t order) n [] → (covers keys (order_keys t order) ≡ true) × (n ≡ length (order_keys t order))
begun-all t order keys n h = (
  ap (covers keys) (sym (besides-none (classes_asked t order))) ∙ h.begins ∙ covers-none (drop n keys),
  sym (ap length (sym (besides-none (classes_asked t order))) ∙ sum (length (once_besides [] (classes_asked t order))) n h.count),
)
  where
    sum : (a b : ℕ) → 0 + a ≡ b + 0 → a ≡ b
    sum a b e = omega (arith, e)

pub begun-no : (t : ClassTable) (order : List OrderItem) (keys : Keys) (at : ℕ) (ns : List ℕ) → GoesOnAs keys 0 (classes_asked t order) at ns → goes_on keys at ns ≡ false → covers keys (order_keys t order) ≡ false
begun-no t order keys at ns h stops = ap (covers keys) (sym (besides-none (classes_asked t order))) ∙ h.begins ∙ stops

-- a list is the keys of ORDER BY where it begins with them and is no longer
pub same-keys : (list keys : Keys) → covers list keys ≡ true → length keys ≡ length list → list ≡ keys
same-keys [] [] e f = refl
same-keys (a ∷ xs) [] e f = cc
same-keys [] (b ∷ ys) e f = cc
same-keys (a ∷ xs) (b ∷ ys) e f = ap₂ (λ (x : ℕ) (zs : Keys). x ∷ zs) (eqb-true a b (and_parts (nat_eq a b) (covers xs ys) e).0) (same-keys xs ys (and_parts (nat_eq a b) (covers xs ys) e).1 (let less : length ys ≡ length xs = omega (arith, f) in less))

pub covers-same : (list keys : Keys) → list ≡ keys → covers list keys ≡ true
covers-same [] [] e = refl
covers-same (a ∷ xs) [] e = cc
covers-same [] (b ∷ ys) e = cc
covers-same (a ∷ xs) (b ∷ ys) e = and_from (nat_eq a b) (covers xs ys) (eq-eqb a b (cc)) (covers-same xs ys (cc))

-- the first keys of a plan, and one more
pub keys-more : (keys : Keys) (n : ℕ) (cs : List ClassNo) (c : ClassNo) → class_numbers cs ≡ take n keys → Some c.0 ≡ slice_get keys n → class_numbers (cs ++ c ∷ []) ≡ take (n + 1) keys
keys-more keys n cs c same at =
    map-append (λ (x : ClassNo). x.0) cs (c ∷ []) ∙ ap₂ (λ (a : Keys) (b : ℕ). a ++ b ∷ []) same (some-is c.0 (get_or keys n 0) (at ∙ slice_get-get_or keys n 0 within)) ∙ sym (take_more keys n 0 within)
  where
    within : n < length keys
    within = slice_get_within keys n c.0 (sym at)

    some-is : (x y : ℕ) → Some x ≡ Some y → x ≡ y
    some-is x y e = cc

pub keys-end : (keys : Keys) (n : ℕ) (cs : List ClassNo) → class_numbers cs ≡ take n keys → None ≡ slice_get keys n → class_numbers cs ≡ keys
keys-end keys n cs same at = same ∙ take_all n keys (by (cases_lt n (length keys)))
  where
    by : (n < length keys) ⊎ (length keys ≤ n) → length keys ≤ n
    by (inl lt) = let wrong : None ≡ Some (get_or keys n 0) = at ∙ slice_get-get_or keys n 0 lt in absurd (cc)
    by (inr le) = le

pub if-none : {A : Type 0} (o : Option A) (P : Type 0) → P → IfNone o P
if-none None P h = h
if-none (Some x) P h = tt
