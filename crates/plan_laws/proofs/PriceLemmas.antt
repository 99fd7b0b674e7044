-- The least price of a query reads the indexes of its tables alone.
use Rattle.std.proofs.Common.{◌≡◌, ◌<◌, ◌+◌, ℕ, Bool, true, false, cond, ◌&&◌, List, [], ◌∷◌, ◌++◌, length, refl, sym, ap, ◌∙◌, arith, subst, get_or}
use Rattle.std.proofs.Math.Nat.{zero-add}
use Prim.Native.Nat.{suc}
use Rattle.std.specs.Prelude.{filter}
use Rattle.pg_base.specs.declared.numbers.IndexNo.{IndexNo}
use Rattle.catalog.specs.Contents.{TableDef, NamedIndex, no_index}
use Rattle.sql_query.specs.Queries.{Query}
use Rattle.plan_laws.specs.work.Fewer.{Keeps}
use Rattle.plan_laws.specs.Moved.{over, HasPrice, added_from}
use Rattle.plan_laws.specs.work.Moved.{is_read, moved}
use Rattle.plan_laws.proofs.ListLemmas.{no, read-alone}
use Rattle.plan_laws.proofs.TreeLemmas.{keeps}
use Rattle.plan_laws.proofs.PlanLemmas.{admissible-there, best-there, finished-there, price-there}
use Rattle.plan_tree.specs.Least.{HasNoPlan}

module _ (tables : List TableDef) (a b : List NamedIndex) (q : Query) (f g : IndexNo → IndexNo) (there : Keeps (over tables a) (over tables b) q f) (back : Keeps (over tables b) (over tables a) q g) where
  pub price-moves : (n : ℕ) → HasPrice (over tables a) q n → HasPrice (over tables b) q n
  price-moves n h = record { plan = moved f h.plan; best = best-there tables a b q f g there back h.plan h.best; is = price-there tables a b q f there h.plan h.best.finished.built ∙ h.is }

  pub none-moves : HasNoPlan (over tables a) q → HasNoPlan (over tables b) q
  none-moves h p finished admissible = h (moved g p) (finished-there tables b a q g back p finished) (admissible-there tables b a q g back p finished.built admissible)

module _ (tables : List TableDef) (q : Query) (a b : List NamedIndex) (same : filter (is_read q) a ≡ filter (is_read q) b) where
  pub price-reads : (n : ℕ) → HasPrice (over tables a) q n → HasPrice (over tables b) q n
  price-reads n h =
      let s = read-alone tables q a in
      let t = read-alone tables q b in
      price-moves tables (filter (is_read q) b) b q (no t.g) (no t.f) (keeps tables (filter (is_read q) b) b q (no t.g) t.back) (keeps tables b (filter (is_read q) b) q (no t.f) t.there) n
      (subst (λ (xs : List NamedIndex). HasPrice (over tables xs) q n) same
      (price-moves tables a (filter (is_read q) a) q (no s.f) (no s.g) (keeps tables a (filter (is_read q) a) q (no s.f) s.there) (keeps tables (filter (is_read q) a) a q (no s.g) s.back) n h))

  pub none-reads : HasNoPlan (over tables a) q → HasNoPlan (over tables b) q
  none-reads h =
      let s = read-alone tables q a in
      let t = read-alone tables q b in
      none-moves tables (filter (is_read q) b) b q (no t.g) (no t.f) (keeps tables (filter (is_read q) b) b q (no t.g) t.back) (keeps tables b (filter (is_read q) b) q (no t.f) t.there)
      (subst (λ (xs : List NamedIndex). HasNoPlan (over tables xs) q) same
      (none-moves tables a (filter (is_read q) a) q (no s.f) (no s.g) (keeps tables a (filter (is_read q) a) q (no s.f) s.there) (keeps tables (filter (is_read q) a) a q (no s.g) s.back) h))

filter-joined : (test : NamedIndex → Bool) (xs ys : List NamedIndex) → filter test (xs ++ ys) ≡ filter test xs ++ filter test ys
filter-joined test [] ys = refl
filter-joined test (x ∷ xs) ys = by (filter-joined test xs ys) (test x)
  where
    by : filter test (xs ++ ys) ≡ filter test xs ++ filter test ys → (b : Bool) → cond b (x ∷ filter test (xs ++ ys)) (filter test (xs ++ ys)) ≡ cond b (x ∷ filter test xs) (filter test xs) ++ filter test ys
    by rest true = ap (λ (zs : List NamedIndex). x ∷ zs) rest
    by rest false = rest

shifted : (m k : ℕ) → m + 1 + k ≡ m + suc k
shifted m k = omega arith

added-read : (q : Query) (n : ℕ) (s t : ℕ → Bool) (xs : List NamedIndex) → ((k : ℕ) → k < length xs → t (n + k) ≡ is_read q (get_or xs k no_index)) → filter (is_read q) (added_from n s xs) ≡ filter (is_read q) (added_from n (λ k. s k && t k) xs)
added-read q n s t [] h = refl
added-read q n s t (x ∷ xs) h = by (added-read q (n + 1) s t xs (λ k lt. ap t (shifted n k) ∙ h (suc k) (omega (arith, lt)))) (s n) (is_read q x) (t n) refl here
  where
    number : (a m : ℕ) → a ≡ m → t m ≡ is_read q x → t a ≡ is_read q x
    number a m e g = ap t e ∙ g

    here : t n ≡ is_read q x
    here = number n (n + 0) (omega arith) (h 0 (omega arith))

    by : filter (is_read q) (added_from (n + 1) s xs) ≡ filter (is_read q) (added_from (n + 1) (λ k. s k && t k) xs) → (c d e : Bool) → is_read q x ≡ d → e ≡ d → filter (is_read q) (cond c (x ∷ added_from (n + 1) s xs) (added_from (n + 1) s xs)) ≡ filter (is_read q) (cond (c && e) (x ∷ added_from (n + 1) (λ k. s k && t k) xs) (added_from (n + 1) (λ k. s k && t k) xs))
    by rest false d e read same = rest
    by rest true d true read same = ap (λ (zs : List NamedIndex). cond (is_read q x) (x ∷ zs) zs) rest
    by rest true d false read same = ap (λ (b : Bool). cond b (x ∷ filter (is_read q) (added_from (n + 1) s xs)) (filter (is_read q) (added_from (n + 1) s xs))) (read ∙ sym same) ∙ rest

-- of the candidates of a set, those on the query's tables alone count
pub added-same : (q : Query) (indexes candidates : List NamedIndex) (s t : ℕ → Bool) → ((k : ℕ) → k < length candidates → t k ≡ is_read q (get_or candidates k no_index)) → filter (is_read q) (indexes ++ added_from 0 s candidates) ≡ filter (is_read q) (indexes ++ added_from 0 (λ k. s k && t k) candidates)
added-same q indexes candidates s t h =
    filter-joined (is_read q) indexes (added_from 0 s candidates)
    ∙ ap (λ (zs : List NamedIndex). filter (is_read q) indexes ++ zs) (added-read q 0 s t candidates (λ k lt. ap t (zero-add k) ∙ h k lt))
    ∙ sym (filter-joined (is_read q) indexes (added_from 0 (λ k. s k && t k) candidates))
