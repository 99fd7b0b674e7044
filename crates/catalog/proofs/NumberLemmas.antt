-- The numbers of a table's indexes: after one more, after one less, and how many there are in all.
use Rattle.std.proofs.Common.{◌≡◌, ◌≢◌, ◌<◌, ◌≤◌, ◌+◌, ◌*◌, ◌++◌, ◌∷◌, [], ◌∙◌, ℕ, Bool, true, false, cond, nat_eq, nat_lt, List, length, zero, suc, get_or, All, refl, sym, ap, arith}
use Rattle.std.proofs.lemmas.Bool.Decides.{nat_tests}
use Rattle.std.proofs.lemmas.List.Elements.{All-head, All-tail}
use Rattle.std.proofs.lemmas.Bool.{eq-eqb, ne_eqb}
use Rattle.pg_base.specs.declared.numbers.IndexNo.{IndexNo}
use Rattle.pg_base.specs.declared.numbers.TableNo.{TableNo}
use Rattle.catalog.specs.Contents.{NamedIndex, numbers_from}

cond-append : (b : Bool) (p : IndexNo) (m q : List IndexNo) → cond b (p ∷ (m ++ q)) (m ++ q) ≡ cond b (p ∷ m) m ++ q
cond-append true p m q = refl
cond-append false p m q = refl

-- one more index of the table has the next number
pub numbers-same : (k : ℕ) (xs : List NamedIndex) (x : NamedIndex) (t : TableNo) → x.index.table.0 ≡ t.0 → numbers_from k (xs ++ x ∷ []) t ≡ numbers_from k xs t ++ record { 0 = k + length xs } ∷ []
numbers-same k [] x t e =
    let at : k ≡ k + 0 = omega arith in
    ap (λ b. cond b (record { 0 = k } ∷ []) []) (eq-eqb _ _ e) ∙ ap (λ n. record { 0 = n } ∷ []) at
numbers-same k (y ∷ xs) x t e =
    let at : (k + 1) + length xs ≡ k + length (y ∷ xs) = omega arith in
    let first : IndexNo = record { 0 = k } in
    let b = nat_eq y.index.table.0 t.0 in
    ap (λ l. cond b (first ∷ l) l) (numbers-same (k + 1) xs x t e)
    ∙ cond-append b first (numbers_from (k + 1) xs t) _
    ∙ ap (λ n. cond b (first ∷ numbers_from (k + 1) xs t) (numbers_from (k + 1) xs t) ++ record { 0 = n } ∷ []) at

-- one of another table changes nothing
pub numbers-other : (k : ℕ) (xs : List NamedIndex) (x : NamedIndex) (t : TableNo) → x.index.table.0 ≢ t.0 → numbers_from k (xs ++ x ∷ []) t ≡ numbers_from k xs t
numbers-other k [] x t ne = ap (λ b. cond b (record { 0 = k } ∷ []) []) (ne_eqb _ _ ne)
numbers-other k (y ∷ xs) x t ne = ap (λ l. cond (nat_eq y.index.table.0 t.0) (record { 0 = k } ∷ l) l) (numbers-other (k + 1) xs x t ne)

cond-none : (b : Bool) (p : IndexNo) (m : List IndexNo) → cond b (p ∷ m) m ≡ [] → (b ≡ false) × (m ≡ [])
cond-none true p m e = cc e
cond-none false p m e = (refl, e)

-- a table without numbers has no index
pub no_numbers : (k : ℕ) (xs : List NamedIndex) (t : TableNo) → numbers_from k xs t ≡ [] → (i : ℕ) (d : NamedIndex) → i < length xs → (get_or xs i d).index.table.0 ≢ t.0
no_numbers k [] t e i d lt = absurd (omega (arith, lt))
no_numbers k (x ∷ xs) t e zero d lt = λ same. let h = cond-none _ _ _ e in let both : true ≡ false = sym (eq-eqb _ _ same) ∙ h.0 in absurd (cc)
no_numbers k (x ∷ xs) t e (suc i) d lt = let h = cond-none (nat_eq x.index.table.0 t.0) _ _ e in no_numbers (k + 1) xs t h.1 i d (omega (arith, lt))

-- a table past those of the indexes has no numbers
pub numbers-past : (k : ℕ) (xs : List NamedIndex) (t : TableNo) → All (λ (x : NamedIndex). x.index.table.0 < t.0) xs → numbers_from k xs t ≡ []
numbers-past k [] t h = refl
numbers-past k (x ∷ xs) t h =
    let head = All-head (λ (y : NamedIndex). y.index.table.0 < t.0) x xs h in
    let ne : x.index.table.0 ≢ t.0 = λ e. omega (arith, head, e) in
    ap (λ b. cond b (record { 0 = k } ∷ numbers_from (k + 1) xs t) (numbers_from (k + 1) xs t)) (ne_eqb _ _ ne)
    ∙ numbers-past (k + 1) xs t (All-tail (λ (y : NamedIndex). y.index.table.0 < t.0) x xs h)

-- how many indexes are of tables below a number, and of one table
abbrev below : ℕ → List NamedIndex → ℕ
below n [] = 0
below n (x ∷ xs) = cond (nat_lt x.index.table.0 n) (suc (below n xs)) (below n xs)

count-cond : (b : Bool) (p : IndexNo) (m : List IndexNo) → length (cond b (p ∷ m) m) ≡ cond b (suc (length m)) (length m)
count-cond true p m = refl
count-cond false p m = refl

-- the numbers' starting point does not matter for how many there are
split-by : (a n s b m : ℕ) (c d e : Bool) → nat_lt a (n + 1) ≡ c → nat_lt a n ≡ d → nat_eq a n ≡ e → s ≡ b + m → cond c (suc s) s ≡ cond d (suc b) b + cond e (suc m) m
split-by a n s b m c d e p q r h = grind (arith, nat_tests)

below-split : (k n : ℕ) (xs : List NamedIndex) → below (n + 1) xs ≡ below n xs + length (numbers_from k xs (record { 0 = n }))
below-split k n [] = refl
below-split k n (x ∷ xs) =
    split-by x.index.table.0 n _ _ _ _ _ _ refl refl refl (below-split (k + 1) n xs)
    ∙ ap (λ m. cond (nat_lt x.index.table.0 n) (suc (below n xs)) (below n xs) + m) (sym (count-cond (nat_eq x.index.table.0 n) (record { 0 = k }) (numbers_from (k + 1) xs (record { 0 = n }))))

below-few : (most n : ℕ) (xs : List NamedIndex) → ((t : TableNo) → length (numbers_from 0 xs t) ≤ most) → below n xs ≤ most * n
below-few most zero [] h = omega arith
below-few most zero (x ∷ xs) h = none (x ∷ xs)
  where
    none : (ys : List NamedIndex) → below 0 ys ≤ most * 0
    none [] = omega arith
    none (y ∷ ys) = let rest = none ys in let past : nat_lt y.index.table.0 0 ≡ false = grind (arith, nat_tests) in rw past rest
below-few most (suc n) xs h =
    let rest = below-few most n xs h in
    let next : suc n ≡ n + 1 = omega arith in
    let split = ap (λ m. below m xs) next ∙ below-split 0 n xs in
    let here = h (record { 0 = n }) in
    let step : most * suc n ≡ most * n + most = omega arith in
    omega (arith, rest, split, here, step)

below-all : (n : ℕ) (xs : List NamedIndex) → All (λ (x : NamedIndex). x.index.table.0 < n) xs → below n xs ≡ length xs
below-all n [] h = refl
below-all n (x ∷ xs) h =
    let head = All-head (λ (y : NamedIndex). y.index.table.0 < n) x xs h in
    let here : nat_lt x.index.table.0 n ≡ true = grind (arith, nat_tests) in
    ap (λ b. cond b (suc (below n xs)) (below n xs)) here ∙ ap suc (below-all n xs (All-tail (λ (y : NamedIndex). y.index.table.0 < n) x xs h))

-- where no table has more than some number, there are at most so many for each table
pub few_in_all : (most n : ℕ) (xs : List NamedIndex) → ((t : TableNo) → length (numbers_from 0 xs t) ≤ most) → All (λ (x : NamedIndex). x.index.table.0 < n) xs → length xs ≤ most * n
few_in_all most n xs h k = let all = below-all n xs k in let few = below-few most n xs h in omega (arith, all, few)
