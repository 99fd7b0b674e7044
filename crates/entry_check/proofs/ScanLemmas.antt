-- Scans that entries say they are.
use Prim.Native.Nat.{suc, zero}
use Rattle.std.proofs.Common.{◌≡◌, ◌<◌, ◌≤◌, ◌+◌, ℕ, Bool, true, false, cond, List, [], ◌∷◌, length, nat_eq, refl, sym, ap, ap₂, subst, ◌∙◌, arith, ◌⊎◌, inl, inr}
use Rattle.std.specs.Prelude.{Option, IfNone, IfSome, Some, None, MatchOption, find, option_map, slice_get}
use Rattle.std.specs.List.{range_with_len}
use Rattle.std.proofs.lemmas.Bool.{cases_lt, eq-eqb}
use Rattle.std.proofs.lemmas.Grind.{common_steps}
use Rattle.std.proofs.lemmas.List.{length-map}
use Rattle.std.proofs.lemmas.Option.{slice_get_past}
use Rattle.pg_base.specs.Sets.{has}
use Rattle.pg_base.proofs.SetLaws.{has-zero}
use Rattle.pg_base.specs.declared.limits.TheConstants.{MOST_COLUMNS}
use Rattle.pg_base.specs.declared.numbers.RelNo.{RelNo}
use Rattle.pg_base.specs.declared.rel_set.RelSet.{RelSet}
use Rattle.catalog.specs.Contents.{Contents, IsIndex, IsLawful}
use Rattle.cost_rules.specs.work.Costs.{capped_pair}
use Rattle.cost_rules.specs.declared.pair.Pair.{Pair}
use Rattle.eq_classes.specs.Clauses.{one}
use Rattle.eq_classes.specs.declared.classes.ClassNo.{ClassNo}
use Rattle.sql_query.specs.Queries.{Query}
use Rattle.sql_query.specs.declared.window.Window.{Window}
use Rattle.path_cost.specs.Estimates.{param_rows, set_rows}
use Rattle.pathkeys.specs.work.Finding.{class_numbers}
use Rattle.pathkeys.specs.Keys.{Keys, index_keys}
use Rattle.plan_tree.specs.Costs.{cost, estimate, rows_given, scan_cost}
use Rattle.plan_tree.specs.work.Costs.{HaveRows}
use Rattle.plan_tree.specs.Least.{IsAdmissible}
use Rattle.plan_tree.specs.Keys.{keys_of, scan_keys}
use Rattle.plan_tree.specs.work.Paths.{kept_cost}
use Rattle.plan_tree.specs.Plans.{Plan, index, index_only, is_empty, is_sort, param_in, param_of, scan_given, set_of}
use Rattle.plan_tree.specs.Space.{IsBuilt, IsSameSet}
use Rattle.plan_space.specs.work.Sorts.{sort_list}
use Rattle.plan_space.proofs.SortLemmas.{few-plain}
use Rattle.plan_check.specs.Certificates.{Entry, relation_in}
use Rattle.plan_check.specs.Tables.{HasItsPlan}
use Rattle.entry_check.specs.work.Owning.{AreNumbersOf, HasNone, HasOwn, IsOwn, tree_of}
use Rattle.entry_check.specs.declared.numbers.Own.{Own}
use Rattle.entry_check.specs.declared.scans.ByIndex.{ByIndex}

-- the first number of a range that a set has
find-first : (s : ℕ → Bool) (from len r : ℕ) → from ≤ r → r < from + len → s r ≡ true → ((k : ℕ) → k < r → s k ≡ false) → find s (range_with_len from len) ≡ Some r
find-first s from zero r le lt is least = absurd (omega (arith, le, lt))
find-first s from (suc len) r le lt is least = by (cases_lt from r) (λ less. find-first s (from + 1) len r (omega (arith, less)) (omega (arith, lt)) is least)
  where
    by : (from < r) ⊎ (r ≤ from) → (from < r → find s (range_with_len (from + 1) len) ≡ Some r) → find s (range_with_len from (suc len)) ≡ Some r
    by (inl less) later = rw (least from less) (later less)
    by (inr most) later =
        let same : r ≡ from = omega (arith, le, most) in
        let here : s from ≡ true = subst (λ k. s k ≡ true) same is in
        rw here (ap Some (sym same))

find-none : (s : ℕ → Bool) (from len : ℕ) → ((k : ℕ) → k < from + len → s k ≡ false) → find s (range_with_len from len) ≡ None
find-none s from zero h = refl
find-none s from (suc len) h = rw (h from (omega arith)) (find-none s (from + 1) len (λ k lt. h k (omega (arith, lt))))

pub relation-found : (n : ℕ) (set : RelSet) (r : RelNo) → has set.0 r.0 ≡ true → ((k : ℕ) → k < r.0 → has set.0 k ≡ false) → r.0 < n → Some r ≡ relation_in n set
relation-found n set r is least lt = sym (ap (option_map (λ (k : ℕ). let x : RelNo = record { 0 = k } in x)) (find-first (has set.0) 0 n r.0 (omega arith) (omega (arith, lt)) is least))

pub relation-past : (n : ℕ) (set : RelSet) (r : RelNo) → ((k : ℕ) → k < r.0 → has set.0 k ≡ false) → n ≤ r.0 → None ≡ relation_in n set
relation-past n set r least le = sym (ap (option_map (λ (k : ℕ). let x : RelNo = record { 0 = k } in x)) (find-none (has set.0) 0 n (λ k lt. least k (omega (arith, lt, le)))))

pub relation-none : (n : ℕ) (set : RelSet) → ((k : ℕ) → has set.0 k ≡ false) → None ≡ relation_in n set
relation-none n set none = sym (ap (option_map (λ (k : ℕ). let x : RelNo = record { 0 = k } in x)) (find-none (has set.0) 0 n (λ k lt. none k)))

some-test : (n : ℕ) → ¬ (n ≡ 0) → nat_eq n 0 ≡ false
some-test n e = grind (arith, common_steps)

-- what is kept of a cut cost is cut of what is kept
pub kept-cut : (w : Option Window) (x : Pair) → kept_cost w (capped_pair x) ≡ capped_pair (kept_cost w x)
kept-cut None x = refl
kept-cut (Some w) x = refl

-- the parameterisation of a scan
pub param-given : (r : RelNo) (p : RelSet) → IsSameSet (param_in (scan_given r p)) (has p.0)
param-given r p = by (is_empty p) refl
  where
    by : (b : Bool) → is_empty p ≡ b → IsSameSet (param_in (cond b None (Some (record { relation = r; param = p })))) (has p.0)
    by false e k = refl
    by true e k = let none : p.0 ≡ 0 = grind (arith, common_steps, e) in sym (ap (λ n. has n k) none ∙ has-zero k)

-- a list is another where it is so at each place and the other ends there
pub same-list : (own list : Keys) → ((k : ℕ) → k < length list → slice_get own k ≡ slice_get list k) → slice_get own (length list) ≡ None → list ≡ own
same-list [] [] h end = refl
same-list (m ∷ ms) [] h end = cc
same-list [] (n ∷ ns) h end = let first = h 0 (omega arith) in cc
same-list (m ∷ ms) (n ∷ ns) h end =
    let first : Some m ≡ Some n = h 0 (omega arith) in
    let head : m ≡ n = cc in
    let tail : ns ≡ ms = same-list ms ns (λ k lt. h (suc k) (omega (arith, lt))) end in
    ap₂ (λ (k : ℕ) (ks : Keys). k ∷ ks) (sym head) tail

-- a list that is another ends where it does
pub list-ends : (own list : Keys) → list ≡ own → slice_get own (length list) ≡ None
list-ends own list e = slice_get_past own (length list) (let long : length list ≡ length own = ap length e in omega (arith, long))

module _ (c : Contents) (q : Query) where
  -- the rows of a scan
  pub rows-whole : (r : RelNo) (p : RelSet) (set n : ℕ) → p.0 ≡ 0 → ((k : ℕ) → has set k ≡ nat_eq k r.0) → n ≡ set_rows c q.range q.classes (has set) → n ≡ rows_given c q (one r.0) (scan_given r p)
  rows-whole r p set n none is e =
      let as-set : has set ≡ one r.0 = λ i k. is k i in
      let test : true ≡ is_empty p = sym (eq-eqb p.0 0 none) in
      e ∙ (λ z. rows_given c q (as-set z) (cond (test z) None (Some (record { relation = r; param = p }))))

  pub rows-param : (r : RelNo) (p : RelSet) (n : ℕ) → ¬ (p.0 ≡ 0) → n ≡ param_rows c q.range q.classes r.0 (has p.0) → n ≡ rows_given c q (one r.0) (scan_given r p)
  rows-param r p n some e =
      let test : false ≡ is_empty p = sym (some-test p.0 some) in
      e ∙ (λ z. rows_given c q (one r.0) (cond (test z) None (Some (record { relation = r; param = p }))))

  -- its keys
  pub keys-whole : (s : ByIndex) (o : Option ℕ) (n : ℕ) → s.param.0 ≡ 0 → o ≡ slice_get (index_keys c q.classes s.index s.rel.0 s.backward) n → o ≡ slice_get (scan_keys c q s.rel s.index s.backward s.param) n
  keys-whole s o n none e =
      let test : true ≡ is_empty s.param = sym (eq-eqb s.param.0 0 none) in
      e ∙ (λ z. slice_get (cond (test z) (index_keys c q.classes s.index s.rel.0 s.backward) []) n)

  pub keys-param : (s : ByIndex) (n : ℕ) → ¬ (s.param.0 ≡ 0) → None ≡ slice_get (scan_keys c q s.rel s.index s.backward s.param) n
  keys-param s n some =
      let test : false ≡ is_empty s.param = sym (some-test s.param.0 some) in
      (λ z. slice_get (cond (test z) (index_keys c q.classes s.index s.rel.0 s.backward) []) n)

  -- a scan by an index, whether index-only or not
  module _ (s : ByIndex) where
    abbrev tree_if : Bool → Plan
    tree_if only = cond only (index_only s.rel s.index s.backward s.param) (index s.rel s.index s.backward s.param)

    pub tree-made : IsBuilt c q (tree_of s) → IsIndex c s.index
    tree-made h = by s.only h
      where
        by : (only : Bool) → IsBuilt c q (tree_if only) → IsIndex c s.index
        by true h = h.scan.index.made
        by false h = h.index.made

    pub tree-keys : scan_keys c q s.rel s.index s.backward s.param ≡ keys_of c q (tree_of s)
    tree-keys = by s.only
      where
        by : (only : Bool) → scan_keys c q s.rel s.index s.backward s.param ≡ keys_of c q (tree_if only)
        by true = refl
        by false = refl

    -- a list that is found at each place, where the keys end after it
    pub key-at-end : (list : List ClassNo) (n : ℕ) → ((k : ℕ) → k < n → slice_get (keys_of c q (tree_of s)) k ≡ slice_get (class_numbers list) k) → length list ≤ n →
        None ≡ slice_get (scan_keys c q s.rel s.index s.backward s.param) (length list) → class_numbers list ≡ keys_of c q (tree_of s)
    key-at-end list n h le end =
        let long : length (class_numbers list) ≡ length list = length-map list (λ (x : ClassNo). x.0) in
        same-list (keys_of c q (tree_of s)) (class_numbers list) (λ k lt. h k (omega (arith, lt, long, le)))
        (ap (slice_get (keys_of c q (tree_of s))) long ∙ ap (λ (ks : Keys). slice_get ks (length list)) (sym tree-keys) ∙ sym end)

    -- a list that is found at each place, where the keys do not end after it
    pub some-end : (list : List ClassNo) (n : ℕ) → Some n ≡ slice_get (scan_keys c q s.rel s.index s.backward s.param) (length list) → ¬ (class_numbers list ≡ keys_of c q (tree_of s))
    some-end list n found same =
        let long : length (class_numbers list) ≡ length list = length-map list (λ (x : ClassNo). x.0) in
        let end : slice_get (keys_of c q (tree_of s)) (length (class_numbers list)) ≡ None = list-ends (keys_of c q (tree_of s)) (class_numbers list) same in
        let here : Some n ≡ None = found ∙ ap (λ (ks : Keys). slice_get ks (length list)) tree-keys ∙ ap (slice_get (keys_of c q (tree_of s))) (sym long) ∙ end in
        cc

    pub tree-cost : scan_cost c q s.rel s.index s.param s.only ≡ cost c q (tree_of s)
    tree-cost = by s.only
      where
        by : (only : Bool) → scan_cost c q s.rel s.index s.param only ≡ cost c q (tree_if only)
        by true = refl
        by false = refl

    pub tree-rows : rows_given c q (one s.rel.0) (scan_given s.rel s.param) ≡ estimate c q (tree_of s)
    tree-rows = by s.only
      where
        by : (only : Bool) → rows_given c q (one s.rel.0) (scan_given s.rel s.param) ≡ estimate c q (tree_if only)
        by true = refl
        by false = refl

    pub tree-set : set_of (tree_of s) ≡ one s.rel.0
    tree-set = by s.only
      where
        by : (only : Bool) → set_of (tree_if only) ≡ one s.rel.0
        by true = refl
        by false = refl

    pub tree-param : IsSameSet (param_of (tree_of s)) (has s.param.0)
    tree-param = by s.only
      where
        by : (only : Bool) → IsSameSet (param_of (tree_if only)) (has s.param.0)
        by true = param-given s.rel s.param
        by false = param-given s.rel s.param

    pub tree-plain : is_sort (tree_of s) ≡ false
    tree-plain = by s.only
      where
        by : (only : Bool) → is_sort (tree_if only) ≡ false
        by true = refl
        by false = refl

    pub tree-few : IsLawful c → IsBuilt c q (tree_of s) → length (keys_of c q (tree_of s)) ≤ MOST_COLUMNS
    tree-few lawful h = few-plain c q lawful (tree_of s) h (by s.only)
      where
        by : (only : Bool) → None ≡ sort_list (tree_if only)
        by true = refl
        by false = refl

  -- an entry is a scan but for its numbers
  module _ (e : Entry) (p : Plan) (r : RelNo) (built : IsBuilt c q p) (plain : is_sort p ≡ false) (reads : set_of p ≡ one r.0) where
    pub scan-own : (x : Own) → IsSameSet (one r.0) (has e.set.0) → IsSameSet (param_of p) (has e.param.0) → e.keys ≡ keys_of c q p → AreNumbersOf c q p x → IsOwn c q e p x
    scan-own x alone param keys n = record {
      has = record {
        plan = record { built = built; plain = plain; set_is = λ k. ap (λ (s : ℕ → Bool). s k) reads ∙ alone k; param_is = param };
        admissible = n.admissible;
        keys = keys;
      };
      numbers = n;
    }

    pub scan-judged : (priced : Pair) (rows : ℕ) (result : Option Own) → IfSome result (λ x. (d : Contents) (o : Plan) → HaveRows d q → priced ≡ capped_pair (kept_cost q.window (cost d q o)) → rows ≡ estimate d q o → AreNumbersOf d q o x) →
        IfNone result ((d : Contents) (o : Plan) → priced ≡ capped_pair (kept_cost q.window (cost d q o)) → ¬ IsAdmissible d q o) →
        IsSameSet (one r.0) (has e.set.0) → IsSameSet (param_of p) (has e.param.0) → e.keys ≡ keys_of c q p → HaveRows c q → priced ≡ capped_pair (kept_cost q.window (cost c q p)) → rows ≡ estimate c q p →
        MatchOption result (¬ HasItsPlan c q e p) (λ x. IsOwn c q e p x)
    scan-judged priced rows None some none alone param keys have f g = λ h. none c p f h.admissible
    scan-judged priced rows (Some x) some none alone param keys have f g = scan-own x alone param keys (some c p have f g)

-- no keys and some
pub no-keys : (items : List ClassNo) (keys : Keys) → class_numbers items ≡ keys → length items ≡ 0 → keys ≡ []
no-keys [] keys e h = sym e
no-keys (x ∷ xs) keys e h = absurd (omega (arith, h))

pub some-keys : (items : List ClassNo) (keys : Keys) → class_numbers items ≡ keys → ¬ (length items ≡ 0) → ¬ (keys ≡ [])
some-keys items keys e h k = h (sym (length-map items (λ (x : ClassNo). x.0)) ∙ ap length (e ∙ k))

-- a node that makes one plan has what the plan has
pub made-by : (c : Contents) (q : Query) (made : Option Plan) (p : Plan) (e : Entry) (result : Option Own) → made ≡ Some p → MatchOption result (¬ HasItsPlan c q e p) (λ x. IsOwn c q e p x) → MatchOption result (HasNone c q made e) (λ x. HasOwn c q made e x)
made-by c q made p e None is h = λ o f own. h (subst (HasItsPlan c q e) (some-same o p (sym f ∙ is)) own)
  where
    some-same : (x y : Plan) → Some x ≡ Some y → x ≡ y
    some-same x y e = cc
made-by c q made p e (Some x) is h = record { plan = p; is = is; own = h }

pub made-none : (c : Contents) (q : Query) (made : Option Plan) (e : Entry) → made ≡ None → HasNone c q made e
made-none c q made e is p f own = none-some p (sym is ∙ f)
  where
    none-some : (x : Plan) → None ≡ Some x → ⊥
    none-some x e = cc
