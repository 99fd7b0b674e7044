-- What a bitmap may be made of, as it is found: the arms of a clause, its indexes, and the first elements.
use Rattle.std.proofs.Common.{◌≡◌, ◌<◌, ◌≤◌, ◌+◌, ℕ, Bool, true, false, cond, ◌||◌, nat_eq, nat_lt, List, [], ◌∷◌, ◌++◌, length, map, take, drop, All, IsTrue, refl, sym, ap, ◌∙◌, subst, arith, ◌↔◌, true≢false, slice_get, get_or}
use Prim.Native.Nat.{suc, zero}
use Rattle.std.specs.Prelude.{Option, Some, None, MatchOption, IfSome}
use Rattle.std.specs.List.{AllByRecursion, list_any}
use Rattle.std.proofs.Math.ListN.{drop_of_length-le}
use Rattle.std.proofs.lemmas.Bool.{and_parts, or_right}
use Rattle.std.proofs.lemmas.Grind.{common_steps}
use Rattle.std.proofs.lemmas.List.{take-append-le, drop_more}
use Rattle.std.proofs.lemmas.List.Elements.{All-from_recursion}
use Rattle.pg_base.specs.declared.numbers.IndexNo.{IndexNo}
use Rattle.pg_base.specs.declared.numbers.TableNo.{TableNo}
use Rattle.pg_expr.specs.Cond.{Cond, compare, is_null, is_not_null, bool_col, const, all_of, any_of, negation}
use Rattle.pg_expr.specs.Columns.{atom_count, atom_count_of, each_column, each_column_of}
use Rattle.pg_expr.specs.Typed.{AreTyped}
use Rattle.pg_expr.specs.work.View as view
use Rattle.pg_expr.specs.declared.expr.Expr.{Expr}
use Rattle.index_match.specs.predicate_proof_Atoms.{is_any}
use Rattle.sql_query.specs.catalog_Contents.{Contents, NamedIndex, no_index, numbers_from, indexes_of, IsIndex}
use Rattle.sql_query.specs.catalog_Range.{Range, type_in}
use Rattle.eq_classes.specs.Clauses.{Clause}
use Rattle.eq_classes.specs.Listing.{clause_at}
use Rattle.eq_classes.proofs.ClasswiseLemmas.{same_truth}
use Rattle.path_cost.specs.work.Columns.{IsOver, is_column_in}
use Rattle.pg_expr.specs.work.AtomSets.{contains}
use Rattle.index_match.specs.Numbered.{Numbered, has_number}
use Rattle.sql_query.specs.Queries.{Query}
use Rattle.index_match.specs.Arms.{arms_of}
use Rattle.eq_classes.proofs.ConditionLemmas.{listed_conds}
use Rattle.plan_tree.specs.Bitmaps.{IsIndexOn, IsMatchedOr, MatchesArm, table_of_relation, condition_by, is_or}
use Rattle.path_cost.proofs.PartLemmas.{over-each}

-- a list of 8 has no room for one more
pub full-kept : {X : Type 0} (xs : List X) (x : X) → length xs ≡ 8 → take 8 (xs ++ x ∷ []) ≡ xs
full-kept xs x e = take-append-le 8 xs (x ∷ []) (omega arith) ∙ all-taken 8 xs (omega arith)
  where
    all-taken : {Y : Type 0} (n : ℕ) (ys : List Y) → length ys ≤ n → take n ys ≡ ys
    all-taken n ys h = grind (arith, common_steps)

-- the condition of a clause, by its number
pub condition-here : (ks : List Clause) (n : ℕ) → n < length ks → condition_by (slice_get ks n) ≡ (clause_at ks n).cond
condition-here [] n h = elim h [ ]
condition-here (k ∷ ks) zero h = refl
condition-here (k ∷ ks) (suc n) h = condition-here ks n (omega arith)

pub or-any : (e : Cond) → is_any e ≡ is_or e
or-any (compare op a b) = refl
or-any (is_null x) = refl
or-any (is_not_null x) = refl
or-any (bool_col x) = refl
or-any (const x) = refl
or-any (all_of es) = refl
or-any (any_of es) = refl
or-any (negation e) = refl

-- the arms of an OR are over what it is over, and have no more atoms
pub arms-over : (c : Contents) (range : Range) (es : List Expr) → IsOver c range (any_of (view.conds es)) → All (λ (e : Expr). IsOver c range (view.cond e)) es
arms-over c range es h = All-from_recursion (λ (e : Expr). IsOver c range (view.cond e)) es (over-each c range es h.columns h.typed)

few-each : (most : ℕ) (es : List Expr) → atom_count_of (view.conds es) ≤ most → AllByRecursion (λ (e : Expr). atom_count (view.cond e) ≤ most) es
few-each most [] h = tt
few-each most (e ∷ es) h = (few-head (atom_count (view.cond e)) (atom_count_of (view.conds es)) most h, few-each most es (few-tail (atom_count (view.cond e)) (atom_count_of (view.conds es)) most h))
  where
    few-head : (a b m : ℕ) → a + b ≤ m → a ≤ m
    few-head a b m h = omega arith

    few-tail : (a b m : ℕ) → a + b ≤ m → b ≤ m
    few-tail a b m h = omega arith

pub arms-few : (most : ℕ) (es : List Expr) → atom_count (any_of (view.conds es)) ≤ most → All (λ (e : Expr). atom_count (view.cond e) ≤ most) es
arms-few most es h = All-from_recursion (λ (e : Expr). atom_count (view.cond e) ≤ most) es (few-each most es h)

pub arms-are : {X : Type 0} (f : X → List Expr) (found : Option X) (e k : Cond) → k ≡ e → MatchOption found (is_any e ≡ false) (λ a. e ≡ any_of (view.conds (f a))) → MatchOption found (is_or k ≡ false) (λ a. k ≡ any_of (view.conds (f a)))
arms-are f None e k same h = sym (or-any k) ∙ ap is_any same ∙ h
arms-are f (Some a) e k same h = same ∙ h

pub arms-over-of : {X : Type 0} (f : X → List Expr) (found : Option X) (c : Contents) (range : Range) (k : Cond) → IsOver c range k → MatchOption found (is_or k ≡ false) (λ a. k ≡ any_of (view.conds (f a))) → IfSome found (λ a. All (λ (e : Expr). IsOver c range (view.cond e)) (f a))
arms-over-of f None c range k over h = tt
arms-over-of f (Some a) c range k over h = arms-over c range (f a) (subst (IsOver c range) h over)

pub arms-few-of : {X : Type 0} (f : X → List Expr) (found : Option X) (most : ℕ) (k : Cond) → atom_count k ≤ most → MatchOption found (is_or k ≡ false) (λ a. k ≡ any_of (view.conds (f a))) → IfSome found (λ a. All (λ (e : Expr). atom_count (view.cond e) ≤ most) (f a))
arms-few-of f None most k few h = tt
arms-few-of f (Some a) most k few h = arms-few most (f a) (subst (λ (x : Cond). atom_count x ≤ most) h few)

-- what holds of each clause holds of the condition of a number
pub clause-holds : (P : Cond → Type 0) (ks : List Clause) (n : ℕ) → n < length ks → All (λ (k : Clause). P k.cond) ks → P (condition_by (slice_get ks n))
clause-holds P ks n lt h = subst P (sym (condition-here ks n lt)) (h n _ lt)

-- a number is one of a table's indexes
abbrev pub is-listed : IndexNo → List IndexNo → Bool
is-listed i is = list_any (λ (y : IndexNo). nat_eq y.0 i.0) is

record StandsAt (k : ℕ) (xs : List NamedIndex) (t : TableNo) (i : IndexNo) : Type 0 where
  pub place : ℕ
  pub within : place < length xs
  pub number : i.0 ≡ k + place
  pub table : (get_or xs place no_index).index.table.0 ≡ t.0

pub same-number : (m n : ℕ) → nat_eq m n ≡ true → m ≡ n
same-number m n e = grind (arith, common_steps)

pub equal-number : (m n : ℕ) → m ≡ n → nat_eq m n ≡ true
equal-number m n e = grind (arith, common_steps)

later : (k : ℕ) (x : NamedIndex) (xs : List NamedIndex) (t : TableNo) (i : IndexNo) → StandsAt (k + 1) xs t i → StandsAt k (x ∷ xs) t i
later k x xs t i h = record { place = suc h.place; within = let lt : h.place < length xs = h.within in omega arith; number = let e : i.0 ≡ k + 1 + h.place = h.number in omega arith; table = h.table }

listed-stands : (k : ℕ) (xs : List NamedIndex) (t : TableNo) (i : IndexNo) → is-listed i (numbers_from k xs t) ≡ true → StandsAt k xs t i
listed-stands k [] t i h = absurd (true≢false (sym h))
listed-stands k (x ∷ xs) t i h = by (listed-stands (k + 1) xs t i) (nat_eq x.index.table.0 t.0) refl h
  where
    head : (is-listed i (numbers_from (k + 1) xs t) ≡ true → StandsAt (k + 1) xs t i) → (b : Bool) → b ≡ nat_eq k i.0 → nat_eq x.index.table.0 t.0 ≡ true → b || is-listed i (numbers_from (k + 1) xs t) ≡ true → StandsAt k (x ∷ xs) t i
    head rest true e f g = record { place = 0; within = omega arith; number = let same : k ≡ i.0 = same-number k i.0 (sym e) in omega arith; table = same-number x.index.table.0 t.0 f }
    head rest false e f g = later k x xs t i (rest g)

    by : (is-listed i (numbers_from (k + 1) xs t) ≡ true → StandsAt (k + 1) xs t i) → (b : Bool) → nat_eq x.index.table.0 t.0 ≡ b → is-listed i (cond b (record { 0 = k } ∷ numbers_from (k + 1) xs t) (numbers_from (k + 1) xs t)) ≡ true → StandsAt k (x ∷ xs) t i
    by rest true e g = head rest (nat_eq k i.0) refl e g
    by rest false e g = later k x xs t i (rest g)

stands-listed : (k : ℕ) (xs : List NamedIndex) (t : TableNo) (i : IndexNo) (j : ℕ) → j < length xs → i.0 ≡ k + j → (get_or xs j no_index).index.table.0 ≡ t.0 → is-listed i (numbers_from k xs t) ≡ true
stands-listed k [] t i j lt n at = elim lt [ ]
stands-listed k (x ∷ xs) t i zero lt n at =
    subst (λ (b : Bool). is-listed i (cond b (record { 0 = k } ∷ numbers_from (k + 1) xs t) (numbers_from (k + 1) xs t)) ≡ true) (sym (equal-number x.index.table.0 t.0 at))
    (ap (λ (b : Bool). b || is-listed i (numbers_from (k + 1) xs t)) (equal-number k i.0 (omega (arith, n))))
stands-listed k (x ∷ xs) t i (suc j) lt n at =
    let rest : is-listed i (numbers_from (k + 1) xs t) ≡ true = stands-listed (k + 1) xs t i j (omega (arith, lt)) (omega (arith, n)) at in
    by (nat_eq x.index.table.0 t.0) rest
  where
    by : (b : Bool) → is-listed i (numbers_from (k + 1) xs t) ≡ true → is-listed i (cond b (record { 0 = k } ∷ numbers_from (k + 1) xs t) (numbers_from (k + 1) xs t)) ≡ true
    by true e = or_right (nat_eq k i.0) (is-listed i (numbers_from (k + 1) xs t)) e
    by false e = e

-- the indexes of a relation's table are those that are listed
pub listed-on : (c : Contents) (q : Query) (r : ℕ) (i : IndexNo) → is-listed i (indexes_of c (table_of_relation q r)) ≡ true ↔ IsIndexOn c q r i
listed-on c q r i = (there, λ h. stands-listed 0 c.indexes (table_of_relation q r) i i.0 h.made (omega arith) (ap (λ (t : TableNo). t.0) h.table))
  where
    there : is-listed i (indexes_of c (table_of_relation q r)) ≡ true → IsIndexOn c q r i
    there h =
        let s = listed-stands 0 c.indexes (table_of_relation q r) i h in
        let same : i.0 ≡ s.place = omega (arith, s.number) in
        record {
          made = subst (λ (n : ℕ). n < length c.indexes) (sym same) s.within;
          table = ap (λ (n : ℕ). (get_or c.indexes n no_index).index.table) same ∙ ap (λ (n : ℕ). record { 0 = n }) s.table;
        }

here-listed : (xs : List IndexNo) (k : ℕ) (d : IndexNo) → k < length xs → is-listed (get_or xs k d) xs ≡ true
here-listed [] k d lt = elim lt [ ]
here-listed (x ∷ xs) zero d lt = ap (λ (b : Bool). b || is-listed x xs) (equal-number x.0 x.0 refl)
here-listed (x ∷ xs) (suc k) d lt = or_right (nat_eq x.0 (get_or xs k d).0) (is-listed (get_or xs k d) xs) (here-listed xs k d (omega (arith, lt)))

-- what is listed is an index of the catalogue
pub index-within : (c : Contents) (q : Query) (r : ℕ) (xs : List IndexNo) (k : ℕ) (d : IndexNo) → xs ≡ indexes_of c (table_of_relation q r) → k < length xs → IsIndex c (get_or xs k d)
index-within c q r xs k d e lt = ((listed-on c q r (get_or xs k d)).0 (ap (is-listed (get_or xs k d)) (sym e) ∙ here-listed xs k d lt)).made

-- each index of the table that has a property is among those that are left
pub record AreLeft (P : IndexNo → Type 0) (left : List IndexNo) : Type 0 where
  pub each : (i : IndexNo) → P i → is-listed i left ≡ true

pub all-left : (c : Contents) (q : Query) (r : ℕ) (P : IndexNo → Type 0) → ((i : IndexNo) → P i → IsIndexOn c q r i) → AreLeft P (indexes_of c (table_of_relation q r))
all-left c q r P on = record { each = λ i h. (listed-on c q r i).1 (on i h) }

pub fewer-left : (P : IndexNo → Type 0) (xs : List IndexNo) (k : ℕ) (d : IndexNo) → k < length xs → ¬ P (get_or xs k d) → AreLeft P (drop k xs) → AreLeft P (drop (k + 1) xs)
fewer-left P xs k d lt not-this h = record { each = λ i p. by (get_or xs k d) not-this i p (nat_eq (get_or xs k d).0 i.0) refl (subst (λ ys. is-listed i ys ≡ true) (drop_more xs k d lt) (h.each i p)) }
  where
    by : (x : IndexNo) → ¬ P x → (i : IndexNo) → P i → (b : Bool) → nat_eq x.0 i.0 ≡ b → b || is-listed i (drop (k + 1) xs) ≡ true → is-listed i (drop (k + 1) xs) ≡ true
    by x none i p true e g = absurd (none (subst P (ap (λ (n : ℕ). record { 0 = n }) (sym (same-number x.0 i.0 e))) p))
    by x none i p false e g = g

pub none-left-has : (P : IndexNo → Type 0) (xs : List IndexNo) (k : ℕ) → length xs ≤ k → AreLeft P (drop k xs) → (i : IndexNo) → ¬ P i
none-left-has P xs k le h i p = true≢false (sym (subst (λ ys. is-listed i ys ≡ true) (drop_of_length-le xs le) (h.each i p)))

some-number : (cs : List Numbered) (n : ℕ) → has_number cs n ≡ true → nat_lt 0 (length cs) ≡ true
some-number [] n h = absurd (true≢false (sym h))
some-number (x ∷ cs) n h = grind (arith, common_steps)

first-number : (cs : List Numbered) → nat_lt 0 (length cs) ≡ true → (n : ℕ) × (has_number cs n ≡ true)
first-number [] h = absurd (true≢false (sym h))
first-number (x ∷ cs) h = (x.number, ap (λ (b : Bool). b || has_number cs x.number) (equal-number x.number x.number refl))

-- an index has a condition where a number is found to be one's
pub condition-found : (found : Bool) (cs : List Numbered) (len : ℕ) (set : List ℕ) → (IsTrue found ↔ ((n : ℕ) × (n < len) × IsTrue (contains set n))) → ((n : ℕ) → contains set n ≡ has_number cs n) → ((n : ℕ) → has_number cs n ≡ true → n < len) → found ≡ nat_lt 0 (length cs)
condition-found found cs len set h same below =
    same_truth found (nat_lt 0 (length cs)) (λ e. some-number cs (h.0 e).0 (sym (same (h.0 e).0) ∙ (h.0 e).2)) (λ e. let n = first-number cs e in h.1 (n.0, below n.0 n.1, same n.0 ∙ n.1))

-- what holds of each arm that is left holds of each arm
pub record AllWhere {X : Type 0} (f : X → Cond) (P : Cond → Type 0) (whole left : List X) : Type 0 where
  pub back : AllByRecursion P (map f left) → AllByRecursion P (map f whole)
  pub there : AllByRecursion P (map f whole) → AllByRecursion P (map f left)

pub all-where : {X : Type 0} (f : X → Cond) (P : Cond → Type 0) (whole : List X) → AllWhere f P whole whole
all-where f P whole = record { back = λ h. h; there = λ h. h }

pub fewer-where : {X : Type 0} (f : X → Cond) (P : Cond → Type 0) (whole : List X) (k : ℕ) (d : X) → k < length whole → P (f (get_or whole k d)) → AllWhere f P whole (drop k whole) → AllWhere f P whole (drop (k + 1) whole)
fewer-where f P whole k d lt holds h = record {
  back = λ rest. h.back (subst (λ xs. AllByRecursion P (map f xs)) (sym (drop_more whole k d lt)) (holds, rest));
  there = λ all. (subst (λ xs. AllByRecursion P (map f xs)) (drop_more whole k d lt) (h.there all)).1;
}

pub not-where : {X : Type 0} (f : X → Cond) (P : Cond → Type 0) (whole : List X) (k : ℕ) (d : X) → k < length whole → ¬ P (f (get_or whole k d)) → AllWhere f P whole (drop k whole) → ¬ AllByRecursion P (map f whole)
not-where f P whole k d lt fails h all = fails (subst (λ xs. AllByRecursion P (map f xs)) (drop_more whole k d lt) (h.there all)).0

pub end-where : {X : Type 0} (f : X → Cond) (P : Cond → Type 0) (whole : List X) (k : ℕ) → length whole ≤ k → AllWhere f P whole (drop k whole) → AllByRecursion P (map f whole)
end-where f P whole k le h = h.back (subst (λ xs. AllByRecursion P (map f xs)) (sym (drop_of_length-le whole le)) tt)

pub matched-or : (c : Contents) (q : Query) (r : ℕ) (k : Cond) (es : List Expr) → k ≡ any_of (view.conds es) → AllByRecursion (λ arm. (i : IndexNo) × MatchesArm c q r arm i) (map view.cond es) ↔ IsMatchedOr c q r k
matched-or c q r k es e = (
  λ h. record { is_an_or = ap is_or e; arms = subst (AllByRecursion (λ arm. (i : IndexNo) × MatchesArm c q r arm i)) (sym arms) h },
  λ h. subst (AllByRecursion (λ arm. (i : IndexNo) × MatchesArm c q r arm i)) arms h.arms,
)
  where
    arms : arms_of k ≡ map view.cond es
    arms = ap arms_of e ∙ listed_conds (map view.cond es)
