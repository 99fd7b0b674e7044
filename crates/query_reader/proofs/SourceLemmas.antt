-- One more relation, and one more condition, of FROM.
use Rattle.std.proofs.Common.{◌≡◌, ◌≢◌, ℕ, ◌<◌, ◌⊎◌, ◌||◌, Bool, true, false, nat_lt, List, [], ◌∷◌, ◌++◌, length, All, Result, Ok, Err, IsErrAnd, inl, inr, ⊎_elim, refl, sym, ap, subst, ◌∙◌, arith, length-append}
use Rattle.std.specs.List.{list_any}
use Rattle.std.specs.Str.{bytes_eq}
use Rattle.std.specs.Prelude.{slice_index_or}
use Rattle.std.proofs.lemmas.Bool.{and_parts, and_from, ltb-true, lt-ltb, true≢false}
use Rattle.std.proofs.lemmas.List.{get_or_append_left, map-append}
use Rattle.std.proofs.lemmas.List.Elements.{All-append, All-cons, All-nil, All-weaker}
use Rattle.std.proofs.lemmas.Slice.Eq.{bytes_eq-Decides}
use Rattle.pg_base.specs.declared.faults.Fault.{Fault}
use Rattle.pg_base.specs.declared.faults.Refusal.{Refusal}
use Rattle.pg_base.specs.declared.faults.Refusal.TheVariants as refusal
use Rattle.pg_base.specs.declared.limits.TheConstants.{MOST_RELATIONS}
use Rattle.pg_base.specs.declared.numbers.TableNo.{TableNo}
use Rattle.pg_base.specs.Names.{AreDistinct}
use Rattle.pg_value.specs.declared.value.SqlType.{SqlType}
use Rattle.pg_value.specs.declared.value.Value.{Value}
use Rattle.pg_value.specs.Truths.{AreComparable}
use Rattle.pg_expr.specs.declared.operand.ColRef.{ColRef}
use Rattle.pg_expr.specs.declared.operand.Operand.{Operand}
use Rattle.pg_expr.specs.declared.operand.Operand.TheVariants.{Col, Lit}
use Rattle.pg_expr.specs.Columns.{each_column, each_column_of, passes_column}
use Rattle.pg_expr.specs.Cond.{Cond, compare, is_null, is_not_null, bool_col, const, all_of, any_of, negation, Conds, no_conds, cond_and}
use Rattle.pg_expr.specs.Truths.{value_of}
use Rattle.pg_expr.specs.Typed.{some_value, type_kind, AreAlike, IsInteger, IsTyped, AreTyped}
use Rattle.pg_expr.proofs.ColumnLaws.{weaker-each}
use Rattle.catalog.specs.Contents.{Contents, IsTable, IsLawfulTable, table_at}
use Rattle.catalog.specs.Range.{Range, aliases, relation_at, type_in, table_of}
use Rattle.catalog.specs.Indexes.{no_column}
use Rattle.eq_classes.proofs.ListLemmas.{Before, IsIn, any_from, in_parts, pairs_all, pairs_at}
use Rattle.path_cost.specs.work.Columns.{IsOver, is_column_in}
use Rattle.sql_grammar.specs.Terminals.{Terminal}
use Rattle.query_reader.specs.work.Conveys.{Conveys, ReadsInto}
use Rattle.query_reader.specs.From.{is_taken}
use Rattle.query_reader.specs.work.From.{AreRelations}

-- an answer of a step: what is meant, its fault, or out of memory
pub conveys-ok : {A T : Type 0} (Says : A → T → Type 0) (m : Result A Fault) (a : A) (v : T) → m ≡ Ok a → Says a v → Conveys Says m (Ok v)
conveys-ok Says m a v is says = subst (λ x. Conveys Says x (Ok v)) (sym is) says

pub conveys-memory : {A T : Type 0} (Says : A → T → Type 0) (m : Result A Fault) (r : Result T Refusal) → IsErrAnd r (λ e. e ≡ refusal.Memory) → Conveys Says m r
conveys-memory Says m (Ok v) told = absurd told
conveys-memory Says (Ok a) (Err refusal.Memory) told = tt
conveys-memory Says (Err f) (Err refusal.Memory) told = tt
conveys-memory Says m (Err (refusal.Fault g)) told = absurd (cc (told))

pub conveys-err : {A T : Type 0} (Says : A → T → Type 0) (m : Result A Fault) (f g : Fault) → m ≡ Err f → g ≡ f → Conveys {T = T} Says m (Err (refusal.Fault g))
conveys-err Says m f g is same = subst (λ x. Conveys Says x (Err (refusal.Fault g))) (sym is) same

pub conveys-fault-on : {A T : Type 0} (Says : A → T → Type 0) (m : Result A Fault) (r : Result T Refusal) (f g : Fault) → m ≡ Err f → g ≡ f → IsErrAnd r (λ e. e ≡ refusal.Fault g) → Conveys Says m r
conveys-fault-on Says m (Ok v) f g is same told = absurd told
conveys-fault-on Says m (Err (refusal.Fault h)) f g is same told = conveys-err Says m f h is (cc (told, same))
conveys-fault-on Says m (Err refusal.Memory) f g is same told = absurd (cc (told))

pub conveys-same : {A T : Type 0} (Says : A → T → Type 0) (m n : Result A Fault) (r : Result T Refusal) → m ≡ n → Conveys Says n r → Conveys Says m r
conveys-same Says m n r is h = subst (λ x. Conveys Says x r) (sym is) h

-- what words are read into
pub record WasInto {A : Type 0} (now : A) (m : Result A Fault) (rest left : List Terminal) : Type 0 where
  pub meant : m ≡ Ok now
  pub words : left ≡ rest

pub was-into : (T A : Type 0) (now : A) (m : Result A Fault) (v : T) (rest left : List Terminal) → ReadsInto now m rest (Ok v) left → WasInto now m rest left
was-into T A now (Ok a) v rest left h = record { meant = ap (λ (b : A). Ok b) (sym h.0); words = h.1 }
was-into T A now (Err f) v rest left h = absurd h

pub into-ok : (T A : Type 0) (now : A) (m : Result A Fault) (v : T) (rest left : List Terminal) → m ≡ Ok now → left ≡ rest → ReadsInto now m rest (Ok v) left
into-ok T A now m v rest left is words = subst (λ x. ReadsInto now x rest (Ok v) left) (sym is) (refl, words)

pub into-short : (T A : Type 0) (now : A) (m : Result A Fault) (r : Result T Refusal) (rest left : List Terminal) → IsErrAnd r (λ e. e ≡ refusal.Memory) → ReadsInto now m rest r left
into-short T A now m (Ok v) rest left told = absurd told
into-short T A now (Ok a) (Err refusal.Memory) rest left told = tt
into-short T A now (Err f) (Err refusal.Memory) rest left told = tt
into-short T A now m (Err (refusal.Fault g)) rest left told = absurd (cc (told))

pub into-stopped : (T A : Type 0) (now : A) (m : Result A Fault) (e : Refusal) (r : Result T Refusal) (rest left : List Terminal) → ((f : Fault) → e ≡ refusal.Fault f → m ≡ Err f) → IsErrAnd r (λ d. d ≡ e) → ReadsInto now m rest r left
into-stopped T A now m e (Ok v) rest left wrong told = absurd told
into-stopped T A now m refusal.Memory (Err d) rest left wrong told = into-short T A now m (Err d) rest left told
into-stopped T A now m (refusal.Fault f) (Err (refusal.Fault g)) rest left wrong told =
    subst (λ x. ReadsInto {T = T} now x rest (Err (refusal.Fault g)) left) (sym (wrong f refl)) (cc (told))
into-stopped T A now m (refusal.Fault f) (Err refusal.Memory) rest left wrong told = absurd (cc (told))

pub into-fault : (T A : Type 0) (now : A) (m : Result A Fault) (rest left : List Terminal) (e : Refusal) (f : Fault) → ReadsInto {T = T} now m rest (Err e) left → e ≡ refusal.Fault f → m ≡ Err f
into-fault T A now (Ok a) rest left (refusal.Fault g) f told is = absurd told
into-fault T A now (Ok a) rest left refusal.Memory f told is = absurd (cc (is))
into-fault T A now (Err g) rest left (refusal.Fault h) f told is = cc (told, is)
into-fault T A now (Err g) rest left refusal.Memory f told is = absurd (cc (is))

pub into-same : {T A : Type 0} (now : A) (m n : Result A Fault) (r : Result T Refusal) (rest left : List Terminal) → m ≡ n → ReadsInto now n rest r left → ReadsInto now m rest r left
into-same now m n r rest left is h = subst (λ x. ReadsInto now x rest r left) (sym is) h

pub into-conveyed : {T A : Type 0} (now : A) (m : Result A Fault) (r : Result T Refusal) (rest left : List Terminal) → left ≡ rest → Conveys {T = T} (λ j _. now ≡ j) m r → ReadsInto now m rest r left
into-conveyed now (Ok a) (Ok v) rest left is h = (h, is)
into-conveyed now (Ok a) (Err (refusal.Fault f)) rest left is h = absurd h
into-conveyed now (Ok a) (Err refusal.Memory) rest left is h = tt
into-conveyed now (Err f) (Ok v) rest left is h = absurd h
into-conveyed now (Err f) (Err (refusal.Fault g)) rest left is h = h
into-conveyed now (Err f) (Err refusal.Memory) rest left is h = tt

-- names and one more
last-is : {A : Type 0} (y a : A) → IsIn y (a ∷ []) → y ≡ a
last-is y a i = ⊎_elim (λ (e : y ≡ a). e) (λ (none : ⊥). absurd none) i

before-more : {A : Type 0} (xs : List A) (a x y : A) → Before x y (xs ++ a ∷ []) → Before x y xs ⊎ (IsIn x xs × (y ≡ a))
before-more [] a x y b = ⊎_elim (λ (h : (x ≡ a) × ⊥). absurd h.1) (λ (none : ⊥). absurd none) b
before-more (z ∷ zs) a x y b = ⊎_elim
    (λ (h : (x ≡ z) × IsIn y (zs ++ a ∷ [])). ⊎_elim (λ (i : IsIn y zs). inl (inl (h.0, i))) (λ (i : IsIn y (a ∷ [])). inr (inl h.0, last-is y a i)) (in_parts y zs (a ∷ []) h.1))
    (λ (later : Before x y (zs ++ a ∷ [])). ⊎_elim (λ (p : Before x y zs). inl (inr p)) (λ (q : IsIn x zs × (y ≡ a)). inr (inr q.0, q.1)) (before-more zs a x y later)) b

distinct-more : (xs : List (List ℕ)) (a : List ℕ) → AreDistinct xs → list_any (bytes_eq a) xs ≡ false → AreDistinct (xs ++ a ∷ [])
distinct-more xs a apart free = pairs_all (λ x y. x ≢ y) (xs ++ a ∷ []) (λ x y b. ⊎_elim
    (λ (p : Before x y xs). pairs_at (λ x y. x ≢ y) xs apart x y p)
    (λ (q : IsIn x xs × (y ≡ a)). λ same. true≢false (sym (any_from (bytes_eq a) xs x q.0 ((bytes_eq-Decides a x).1 (sym (same ∙ q.1)))) ∙ free))
    (before-more xs a x y b))

taken-so : (range : Range) (alias : List ℕ) → list_any (bytes_eq alias) (aliases range) ≡ is_taken range alias
taken-so [] alias = refl
taken-so (r ∷ rs) alias = ap (λ b. bytes_eq alias r.1 || b) (taken-so rs alias)

-- one more relation
module _ (c : Contents) (range : Range) (t : TableNo) (alias : List ℕ) where
  abbrev pub more : Range
  more = range ++ (t, alias) ∷ []

  pub more-relations : AreRelations c range → nat_lt (length range) MOST_RELATIONS ≡ true → IsTable c t → IsLawfulTable (table_at c t) → is_taken range alias ≡ false → AreRelations c more
  more-relations are room table lawful free = record {
    few = omega (arith, ltb-true (length range) MOST_RELATIONS room, length-append range ((t, alias) ∷ []));
    tables = All-append (λ (r : TableNo × List ℕ). IsTable c r.0) range ((t, alias) ∷ []) are.tables (All-cons (λ (r : TableNo × List ℕ). IsTable c r.0) (t, alias) [] table (All-nil (λ (r : TableNo × List ℕ). IsTable c r.0)));
    lawful = All-append (λ (r : TableNo × List ℕ). IsLawfulTable (table_at c r.0)) range ((t, alias) ∷ []) are.lawful
        (All-cons (λ (r : TableNo × List ℕ). IsLawfulTable (table_at c r.0)) (t, alias) [] lawful (All-nil (λ (r : TableNo × List ℕ). IsLawfulTable (table_at c r.0))));
    distinct = subst AreDistinct (sym (map-append (λ (r : TableNo × List ℕ). r.1) range ((t, alias) ∷ []))) (distinct-more (aliases range) alias are.distinct (taken-so range alias ∙ free));
  }

  -- what is over the relations is over them and one more
  same-relation : (x : ColRef) → x.rel.0 < length range → relation_at more x.rel ≡ relation_at range x.rel
  same-relation x lt = get_or_append_left range ((t, alias) ∷ []) (record { 0 = 0 }, []) x.rel.0 lt

  still-column : (x : ColRef) → is_column_in c range x ≡ true → is_column_in c more x ≡ true
  still-column x h =
      let parts = and_parts (nat_lt x.rel.0 (length range)) (nat_lt x.col.0 (length (table_at c (table_of range x)).columns)) h in
      let lt = ltb-true x.rel.0 (length range) parts.0 in
      and_from _ _ (lt-ltb x.rel.0 (length more) (omega (arith, lt, length-append range ((t, alias) ∷ []))))
      (ap (λ (r : TableNo × List ℕ). nat_lt x.col.0 (length (table_at c r.0).columns)) (same-relation x lt) ∙ parts.1)

  same-type : (x : ColRef) → is_column_in c range x ≡ true → type_in c range x ≡ type_in c more x
  same-type x h =
      let parts = and_parts (nat_lt x.rel.0 (length range)) (nat_lt x.col.0 (length (table_at c (table_of range x)).columns)) h in
      ap (λ (r : TableNo × List ℕ). (slice_index_or (table_at c r.0).columns x.col.0 no_column).typed) (sym (same-relation x (ltb-true x.rel.0 (length range) parts.0)))

-- types that agree on the columns of a condition
module _ (test : ColRef → Bool) (t u : ColRef → SqlType) (same : (x : ColRef) → test x ≡ true → t x ≡ u x) where
  same-side : (o : Operand) → passes_column test o ≡ true → value_of (λ c. some_value (t c)) o ≡ value_of (λ c. some_value (u c)) o
  same-side (Col c) h = ap some_value (same c h)
  same-side (Lit v) h = refl

  same-alike : (l r : Operand) → passes_column test l ≡ true → passes_column test r ≡ true → AreAlike t l r → AreAlike u l r
  same-alike (Col c) (Col d) h k alike = ap type_kind (sym (same c h)) ∙ alike ∙ ap type_kind (same d k)
  same-alike (Col c) (Lit v) h k alike = tt
  same-alike (Lit v) r h k alike = tt

  same-integer : (o : Operand) → passes_column test o ≡ true → IsInteger t o → IsInteger u o
  same-integer (Col c) h is = ap type_kind (sym (same c h)) ∙ is
  same-integer (Lit v) h is = tt

  mutual
    pub typed-same : (e : Cond) → each_column test e ≡ true → IsTyped t e → IsTyped u e
    typed-same (compare op l r) h d =
        let parts = and_parts (passes_column test l) (passes_column test r) h in
        record {
          comparable =
              subst (λ (b : Value). AreComparable op (value_of (λ c. some_value (u c)) l) b) (same-side r parts.1)
              (subst (λ (a : Value). AreComparable op a (value_of (λ c. some_value (t c)) r)) (same-side l parts.0) d.comparable);
          alike = same-alike l r parts.0 parts.1 d.alike;
          integers = λ is. (same-integer l parts.0 (d.integers is).0, same-integer r parts.1 (d.integers is).1);
        }
    typed-same (is_null c) h d = tt
    typed-same (is_not_null c) h d = tt
    typed-same (bool_col c) h d = sym (same c h) ∙ d
    typed-same (const k) h d = tt
    typed-same (all_of cs) h d = typed-same-all cs h d
    typed-same (any_of cs) h d = typed-same-all cs h d
    typed-same (negation c) h d = typed-same c h d

    typed-same-all : (cs : Conds) → each_column_of test cs ≡ true → AreTyped t cs → AreTyped u cs
    typed-same-all no_conds h d = tt
    typed-same-all (cond_and c cs) h d =
        let parts = and_parts (each_column test c) (each_column_of test cs) h in
        (typed-same c parts.0 d.0, typed-same-all cs parts.1 d.1)

over-more : (c : Contents) (range : Range) (t : TableNo) (alias : List ℕ) (e : Cond) → IsOver c range e → IsOver c (more c range t alias) e
over-more c range t alias e over = record {
  columns = weaker-each (is_column_in c range) (is_column_in c (more c range t alias)) (still-column c range t alias) e over.columns;
  typed = typed-same (is_column_in c range) (type_in c range) (type_in c (more c range t alias)) (same-type c range t alias) e over.columns over.typed;
}

pub all-over-more : (c : Contents) (range : Range) (t : TableNo) (alias : List ℕ) (es : List Cond) → All (IsOver c range) es → All (IsOver c (more c range t alias)) es
all-over-more c range t alias es over = All-weaker (IsOver c range) (IsOver c (more c range t alias)) (over-more c range t alias) es over
