-- Elements of bitmaps gathered one by one.
use Rattle.std.proofs.Common.{◌≡◌, ◌<◌, ◌≤◌, ◌+◌, ℕ, Bool, true, false, cond, List, [], ◌∷◌, ◌++◌, length, map, filter, take, drop, IsTrue, refl, sym, ap, ◌∙◌, subst, arith, append_assoc, ◌↔◌, true≢false, get_or}
use Rattle.std.specs.List.{enumerate_from}
use Prim.Native.Nat.{suc, zero}
use Rattle.std.proofs.Math.ListN.{drop_of_length-le}
use Rattle.std.proofs.lemmas.List.{append-nil, drop_more}
use Rattle.pg_base.specs.declared.numbers.IndexNo.{IndexNo}
use Rattle.eq_classes.specs.Clauses.{Clause}
use Rattle.index_match.specs.Numbered.{Numbered, numbered}
use Rattle.plan_tree.specs.Bitmaps.{Element, by_index, by_clause, ArePicked, none_left, picked, passed, MOST_ELEMENTS}
use Rattle.plan_tree.specs.work.Gathering.{Gathered}

-- the first of a list are those of its first and of what follows
taken-twice : {X : Type 0} (n : ℕ) (xs ys : List X) → take n (take n xs ++ ys) ≡ take n (xs ++ ys)
taken-twice zero [] ys = refl
taken-twice (suc n) [] ys = refl
taken-twice zero (x ∷ xs) ys = refl
taken-twice (suc n) (x ∷ xs) ys = ap (λ zs. x ∷ zs) (taken-twice n xs ys)

module _ (P : Element → Type 0) (all : List Element) where
  gather-yes : (rest kept : List Element) (x : Element) → P x → Gathered P all (x ∷ rest) kept → Gathered P all rest (take MOST_ELEMENTS (kept ++ x ∷ []))
  gather-yes rest kept x is h = record {
    found = h.found ++ x ∷ [];
    first = ap (λ xs. take MOST_ELEMENTS (xs ++ x ∷ [])) h.first ∙ taken-twice MOST_ELEMENTS h.found (x ∷ []);
    completes = λ more p. subst (ArePicked P all) (sym (append_assoc h.found (x ∷ []) more)) (h.completes (x ∷ more) (picked x rest more is p));
  }

  gather-no : (rest kept : List Element) (x : Element) → ¬ P x → Gathered P all (x ∷ rest) kept → Gathered P all rest kept
  gather-no rest kept x is h = record { found = h.found; first = h.first; completes = λ more p. h.completes more (passed x rest more is p) }

  pub gather : (rest kept : List Element) (x : Element) (b : Bool) → (IsTrue b ↔ P x) → Gathered P all (x ∷ rest) kept → Gathered P all rest (cond b (take MOST_ELEMENTS (kept ++ x ∷ [])) kept)
  gather rest kept x true is h = gather-yes rest kept x (is.0 refl) h
  gather rest kept x false is h = gather-no rest kept x (λ p. true≢false (sym (is.1 p))) h

  -- one index of those that are left
  pub gather-index : (xs : List IndexNo) (k : ℕ) (d : IndexNo) (rest kept : List Element) (b : Bool) → k < length xs → (IsTrue b ↔ P (by_index (get_or xs k d))) → Gathered P all (map by_index (drop k xs) ++ rest) kept →
      Gathered P all (map by_index (drop (k + 1) xs) ++ rest) (cond b (take MOST_ELEMENTS (kept ++ by_index (get_or xs k d) ∷ [])) kept)
  gather-index xs k d rest kept b lt is h =
      gather (map by_index (drop (k + 1) xs) ++ rest) kept (by_index (get_or xs k d)) b is (subst (λ ys. Gathered P all (map by_index ys ++ rest) kept) (drop_more xs k d lt) h)

  pub gather-end : (xs : List IndexNo) (k : ℕ) (rest kept : List Element) → length xs ≤ k → Gathered P all (map by_index (drop k xs) ++ rest) kept → Gathered P all rest kept
  gather-end xs k rest kept le h = subst (λ ys. Gathered P all (map by_index ys ++ rest) kept) (drop_of_length-le xs le) h

-- the clauses that pass a test, as elements by number; the first clause of the list has the number given
abbrev pub clauses-left : (Clause → Bool) → ℕ → List Clause → List Element
clauses-left test n ks = map (λ (k : Numbered). by_clause k.number) (map (λ (p : ℕ × Clause). numbered (p.0, p.1.cond)) (filter (λ (p : ℕ × Clause). test p.1) (enumerate_from n ks)))

module _ (P : Element → Type 0) (all : List Element) (test : Clause → Bool) where
  pub gather-clause : (ks : List Clause) (n : ℕ) (d : Clause) (kept : List Element) (local b : Bool) → n < length ks → local ≡ test (get_or ks n d) → (IsTrue b ↔ (IsTrue local × P (by_clause n))) →
      Gathered P all (clauses-left test n (drop n ks)) kept → Gathered P all (clauses-left test (n + 1) (drop (n + 1) ks)) (cond b (take MOST_ELEMENTS (kept ++ by_clause n ∷ [])) kept)
  gather-clause ks n d kept local b lt is-local is h =
      by (test (get_or ks n d)) refl (subst (λ xs. Gathered P all (clauses-left test n xs) kept) (drop_more ks n d lt) h)
    where
      rest : List Element
      rest = clauses-left test (n + 1) (drop (n + 1) ks)

      left : Bool → List Element
      left t = map (λ (k : Numbered). by_clause k.number) (map (λ (p : ℕ × Clause). numbered (p.0, p.1.cond)) (cond t ((n, get_or ks n d) ∷ filter (λ (p : ℕ × Clause). test p.1) (enumerate_from (n + 1) (drop (n + 1) ks))) (filter (λ (p : ℕ × Clause). test p.1) (enumerate_from (n + 1) (drop (n + 1) ks)))))

      never : (x : Bool) → ¬ (x ≡ true) → x ≡ false
      never true h = absurd (h refl)
      never false h = refl

      by : (t : Bool) → test (get_or ks n d) ≡ t → Gathered P all (left t) kept → Gathered P all rest (cond b (take MOST_ELEMENTS (kept ++ by_clause n ∷ [])) kept)
      by true e g = gather P all rest kept (by_clause n) b (λ x. (is.0 x).1, λ p. is.1 (is-local ∙ e, p)) g
      by false e g = subst (λ (x : Bool). Gathered P all rest (cond x (take MOST_ELEMENTS (kept ++ by_clause n ∷ [])) kept)) (sym (never b (λ x. true≢false (sym (is.0 x).0 ∙ is-local ∙ e)))) g

  pub clauses-end : (ks : List Clause) (n : ℕ) (kept : List Element) → length ks ≤ n → Gathered P all (clauses-left test n (drop n ks)) kept → Gathered P all [] kept
  clauses-end ks n kept le h = subst (λ xs. Gathered P all (clauses-left test n xs) kept) (drop_of_length-le ks le) h

pub gather-none : (P : Element → Type 0) (all : List Element) → Gathered P all all []
gather-none P all = record { found = []; first = refl; completes = λ more p. p }

pub gathered-all : (P : Element → Type 0) (all kept : List Element) → Gathered P all [] kept → (es : List Element) × ArePicked P all es × (kept ≡ take MOST_ELEMENTS es)
gathered-all P all kept h = (h.found, subst (ArePicked P all) (append-nil h.found) (h.completes [] none_left), h.first)
