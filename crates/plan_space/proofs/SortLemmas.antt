-- Plans by whether they are sorts, and how many keys those of the space have.
use Rattle.std.proofs.Common.{◌≡◌, ◌≤◌, ◌↔◌, ℕ, Bool, true, false, cond, nat_lt, List, [], ◌∷◌, length, refl, sym, ap, ◌∙◌, arith}
use Rattle.std.specs.Prelude.{Some, None}
use Rattle.std.proofs.lemmas.Bool.{lt-ltb, true≢false}
use Rattle.pg_base.specs.declared.limits.TheConstants.{MOST_COLUMNS}
use Rattle.pg_base.specs.declared.numbers.IndexNo.{IndexNo}
use Rattle.pg_base.specs.declared.numbers.RelNo.{RelNo}
use Rattle.pg_base.specs.declared.rel_set.RelSet.{RelSet}
use Rattle.opfamily.specs.declared.classes.IndexKey.{IndexKey}
use Rattle.opfamily.specs.declared.classes.Method.{Method}
use Rattle.opfamily.specs.declared.classes.Method.TheVariants.{Btree, Hash}
use Rattle.catalog.specs.Contents.{Contents, IsIndex, IsLawful, index_at, no_index}
use Rattle.eq_classes.specs.Clauses.{ClassTable}
use Rattle.sql_query.specs.Queries.{Query}
use Rattle.pathkeys.specs.Keys.{Keys, covers, keys_from, keys_by, index_keys, class_of_key, step_of, Step, ends, passes, gives}
use Rattle.plan_tree.specs.Keys.{keys_of, scan_keys}
use Rattle.plan_tree.specs.Plans.{Plan, seq, index, index_only, bitmap, sort, nest, merge, is_empty, is_sort}
use Rattle.plan_tree.specs.Space.{HasKeys, IsBuilt, MeetsOrder}
use Rattle.plan_space.specs.work.Sorts.{sort_list}

module _ (c : Contents) (q : Query) where
  pub sort-has : (p : Plan) (own keys : Keys) → Some own ≡ sort_list p → HasKeys c q p keys ↔ (own ≡ keys)
  sort-has (seq r) own keys e = absurd (cc)
  sort-has (index r i backward p) own keys e = absurd (cc)
  sort-has (index_only r i backward p) own keys e = absurd (cc)
  sort-has (bitmap r p bits) own keys e = absurd (cc)
  sort-has (sort ks input) own keys e = let same : own ≡ ks = cc in (λ h. same ∙ h, λ h. sym same ∙ h)
  sort-has (nest o i) own keys e = absurd (cc)
  sort-has (merge ks o i) own keys e = absurd (cc)

  pub plain-has : (p : Plan) (keys : Keys) → None ≡ sort_list p → HasKeys c q p keys ↔ (covers (keys_of c q p) keys ≡ true)
  plain-has (seq r) keys e = (λ h. h, λ h. h)
  plain-has (index r i backward p) keys e = (λ h. h, λ h. h)
  plain-has (index_only r i backward p) keys e = (λ h. h, λ h. h)
  plain-has (bitmap r p bits) keys e = (λ h. h, λ h. h)
  plain-has (sort ks input) keys e = absurd (cc)
  plain-has (nest o i) keys e = (λ h. h, λ h. h)
  plain-has (merge ks o i) keys e = (λ h. h, λ h. h)

  pub sort-meets : (p : Plan) (own keys : Keys) → Some own ≡ sort_list p → MeetsOrder c q p keys ↔ ((own ≡ keys) × (1 ≤ length own))
  sort-meets (seq r) own keys e = absurd (cc)
  sort-meets (index r i backward p) own keys e = absurd (cc)
  sort-meets (index_only r i backward p) own keys e = absurd (cc)
  sort-meets (bitmap r p bits) own keys e = absurd (cc)
  sort-meets (sort ks input) own keys e =
      let same : own ≡ ks = cc in
      (λ h. (same ∙ h.0, some own keys (same ∙ h.0) h.1), λ h. (sym same ∙ h.0, tested own keys h.0 h.1))
    where
      some : (xs ys : Keys) → xs ≡ ys → nat_lt 0 (length ys) ≡ true → 1 ≤ length xs
      some [] [] f h = absurd (true≢false (sym h))
      some [] (y ∷ ys) f h = absurd (cc)
      some (x ∷ xs) ys f h = omega arith

      tested : (xs ys : Keys) → xs ≡ ys → 1 ≤ length xs → nat_lt 0 (length ys) ≡ true
      tested xs [] f h = let long : length xs ≡ 0 = ap length f in absurd (omega (arith, long, h))
      tested xs (y ∷ ys) f h = lt-ltb 0 (length (y ∷ ys)) (omega arith)
  sort-meets (nest o i) own keys e = absurd (cc)
  sort-meets (merge ks o i) own keys e = absurd (cc)

  pub plain-meets : (p : Plan) (keys : Keys) → None ≡ sort_list p → MeetsOrder c q p keys ↔ (covers (keys_of c q p) keys ≡ true)
  plain-meets (seq r) keys e = (λ h. h, λ h. h)
  plain-meets (index r i backward p) keys e = (λ h. h, λ h. h)
  plain-meets (index_only r i backward p) keys e = (λ h. h, λ h. h)
  plain-meets (bitmap r p bits) keys e = (λ h. h, λ h. h)
  plain-meets (sort ks input) keys e = absurd (cc)
  plain-meets (nest o i) keys e = (λ h. h, λ h. h)
  plain-meets (merge ks o i) keys e = (λ h. h, λ h. h)

-- a B-tree gives no more keys than it has key columns
few-from : (t : ClassTable) (r : ℕ) (backward : Bool) (taken : Keys) (ks : List IndexKey) → length (keys_from t r backward taken ks) ≤ length ks
few-from t r backward taken [] = omega arith
few-from t r backward taken (k ∷ ks) = by (step_of t backward taken k (class_of_key t r k)) (few-from t r backward taken ks) (λ n. few-from t r backward (n ∷ taken) ks)
  where
    by : (s : Step) → length (keys_from t r backward taken ks) ≤ length ks → ((n : ℕ) → length (keys_from t r backward (n ∷ taken) ks) ≤ length ks) →
        length (elim s as (λ _. Keys) [ ends ↦ [] | passes ↦ keys_from t r backward taken ks | gives n ↦ n ∷ keys_from t r backward (n ∷ taken) ks ]) ≤ length (k ∷ ks)
    by ends h g = omega arith
    by passes h g = omega (arith, h)
    by (gives n) h g = omega (arith, g n)

few-by : (m : Method) (t : ClassTable) (r : ℕ) (backward : Bool) (ks : List IndexKey) → length (keys_by m t r backward ks) ≤ length ks
few-by Btree t r backward ks = few-from t r backward [] ks
few-by Hash t r backward ks = omega arith

module _ (c : Contents) (q : Query) (lawful : IsLawful c) where
  few-scan : (r : RelNo) (i : IndexNo) (backward : Bool) (p : RelSet) → IsIndex c i → length (scan_keys c q r i backward p) ≤ MOST_COLUMNS
  few-scan r i backward p made = by (is_empty p)
    where
      columns : length (index_at c i).keys ≤ MOST_COLUMNS
      columns = let few = (lawful.indexes i.0 no_index made).index.fits.few in omega (arith, few)

      by : (b : Bool) → length (cond b (index_keys c q.classes i r.0 backward) []) ≤ MOST_COLUMNS
      by true = let few = few-by (index_at c i).method q.classes r.0 backward (index_at c i).keys in omega (arith, few, columns)
      by false = omega arith

  -- a plan of the space has few keys, where a sort has few
  few-keys : (p : Plan) → IsBuilt c q p → ((ks : Keys) → Some ks ≡ sort_list p → length ks ≤ MOST_COLUMNS) → length (keys_of c q p) ≤ MOST_COLUMNS
  few-keys (seq r) h few = omega arith
  few-keys (index r i backward p) h few = few-scan r i backward p h.index.made
  few-keys (index_only r i backward p) h few = few-scan r i backward p h.scan.index.made
  few-keys (bitmap r p bits) h few = omega arith
  few-keys (sort ks input) h few = few ks refl
  few-keys (nest o i) h few = few-keys o h.0 (λ ks e. absurd (true≢false (sym (sort-is o ks e) ∙ h.2.outer_plain)))
    where
      sort-is : (p : Plan) (ks : Keys) → Some ks ≡ sort_list p → is_sort p ≡ true
      sort-is (seq r) ks e = absurd (cc)
      sort-is (index r i backward p) ks e = absurd (cc)
      sort-is (index_only r i backward p) ks e = absurd (cc)
      sort-is (bitmap r p bits) ks e = absurd (cc)
      sort-is (sort own input) ks e = refl
      sort-is (nest o i) ks e = absurd (cc)
      sort-is (merge own o i) ks e = absurd (cc)
  few-keys (merge keys o i) h few =
      few-keys o h.0 (λ ks e. let same : ks ≡ keys = (sort-has c q o ks keys e).0 h.2.outer_keys in let long : length ks ≡ length keys = ap length same in let most = h.2.list.few in omega (arith, long, most))

  pub few-plain : (p : Plan) → IsBuilt c q p → None ≡ sort_list p → length (keys_of c q p) ≤ MOST_COLUMNS
  few-plain p h e = few-keys p h (λ ks f. let wrong : Some ks ≡ None = f ∙ sym e in absurd (cc))
