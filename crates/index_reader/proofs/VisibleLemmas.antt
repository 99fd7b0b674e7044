-- The columns that the condition of an index may name: found by their names, and of the table.
use Rattle.std.proofs.Common.{◌≡◌, ℕ, ◌+◌, ◌<◌, ◌≤◌, Bool, true, false, ◌&&◌, List, [], ◌∷◌, length, map, nat_eq, nat_lt, All, Contains, IsTrue, Option, Some, None, refl, sym, ap, ◌∙◌, subst, arith}
use Rattle.std.specs.List.{position}
use Rattle.std.specs.Option.{option_map}
use Rattle.std.specs.Str.{bytes_eq}
use Rattle.std.proofs.lemmas.Bool.{lt-ltb, ltb-true, and_parts}
use Rattle.std.proofs.lemmas.List.Elements.{All-nil, All-cons, All-tail}
use Rattle.std.proofs.lemmas.Iterator.Adapters.{position_from-zero}
use Rattle.pg_base.specs.declared.numbers.RelNo.{RelNo}
use Rattle.pg_base.specs.declared.numbers.TableNo.{TableNo}
use Rattle.pg_expr.specs.declared.operand.ColRef.{ColRef}
use Rattle.catalog.specs.Contents.{Contents, IsLawfulTable, table_at}
use Rattle.catalog.specs.Tables.{column_named}
use Rattle.expr_reader.specs.Scope.{Visible, columns_in_scope, of_name, the_one, among, look_up}
use Rattle.expr_reader.specs.declared.found.Found.TheVariants.{NoTable}
use Rattle.query_reader.specs.Scope.{columns_from}
use Rattle.query_reader.proofs.RelationsLemmas.{found_number}
use Rattle.query_reader.proofs.ScopeLemmas.{found_at, found-from, under-same, under-other}
use Rattle.index_reader.specs.Visible.{Sight, visible_in}

pub all-map : {A B : Type 0} (P : B → Type 0) (f : A → B) (xs : List A) → All (λ x. P (f x)) xs → All P (map f xs)
all-map P f [] h = All-nil P
all-map P f (x ∷ xs) h = All-cons P (f x) (map f xs) (h 0 x (omega arith)) (all-map P f xs (All-tail (λ y. P (f y)) x xs h))

-- a column of relation 0, among this many
abbrev pub is_first_column : ℕ → ColRef → Bool
is_first_column n x = nat_eq x.rel.0 0 && nat_lt x.col.0 n

abbrev pub first_relation : RelNo
first_relation = record { 0 = 0 }

pub visible-columns : (alias : List ℕ) (n k : ℕ) (names : List (List ℕ)) → k + length names ≤ n → All (λ v. IsTrue (is_first_column n v.column)) (columns_from alias first_relation k names)
visible-columns alias n k [] le = All-nil (λ v. IsTrue (is_first_column n v.column))
visible-columns alias n k (x ∷ xs) le =
    All-cons (λ v. IsTrue (is_first_column n v.column)) _ (columns_from alias first_relation (k + 1) xs) (lt-ltb k n (omega (arith, le))) (visible-columns alias n (k + 1) xs (omega (arith, le)))

number-found : (o : Option ℕ) → found_at first_relation o ≡ found_number first_relation (option_map (λ n. record { 0 = n }) o)
number-found (Some k) = refl
number-found None = refl

among-some : (alias : List ℕ) (name : List ℕ) (names : List (List ℕ)) → 0 < length names → among name (columns_from alias first_relation 0 names) ≡ the_one (of_name name (columns_from alias first_relation 0 names))
among-some alias name [] some = absurd (omega (arith, some))
among-some alias name (n ∷ ns) some = refl

-- a table under a name
abbrev pub sight : Contents → TableNo → List ℕ → Sight
sight c t alias = record { contents = c; table = t; alias = alias }

module _ (s : Sight) (c : Contents) (t : TableNo) (alias : List ℕ) (is : sight c t alias ≡ s) (lawful : IsLawfulTable (table_at c t)) where
  abbrev names : List (List ℕ)
  names = (table_at c t).names

  one-column : (name : List ℕ) → the_one (of_name name (columns_from alias first_relation 0 names)) ≡ found_number first_relation (column_named c t name)
  one-column name =
      found-from alias first_relation name 0 names lawful.distinct ∙
      (ap (found_at first_relation) (sym (position_from-zero (bytes_eq name) names)) ∙ number-found (position (bytes_eq name) names))

  pub named-in : (name : List ℕ) → found_number first_relation (column_named c t name) ≡ look_up (visible_in s) None name
  named-in name = subst (λ (x : Sight). found_number first_relation (column_named c t name) ≡ look_up (visible_in x) None name) is (sym (one-column name))

  pub named-under : (q name : List ℕ) → bytes_eq q alias ≡ true → look_up (visible_in s) None name ≡ look_up (visible_in s) (Some q) name
  named-under q name same =
      let there = ap (among name) (under-same alias first_relation q 0 names same) ∙ among-some alias name names (omega (arith, lawful.some, lawful.width)) in
      subst (λ (x : Sight). look_up (visible_in x) None name ≡ look_up (visible_in x) (Some q) name) is (sym there)

  pub not-under : (q name : List ℕ) → bytes_eq q alias ≡ false → NoTable ≡ look_up (visible_in s) (Some q) name
  not-under q name other =
      let none = ap (among name) (under-other alias first_relation q 0 names other) in
      subst (λ (x : Sight). NoTable ≡ look_up (visible_in x) (Some q) name) is (sym none)

  -- a visible column is one of the table
  pub column-seen : (x : ColRef) → Contains (columns_in_scope (visible_in s)) x → x.col.0 < length (table_at c t).columns
  column-seen x among' =
      let n = length (table_at c t).columns in
      let all = visible-columns alias n 0 names (omega (arith, lawful.width)) in
      let each = all-map (λ y. IsTrue (is_first_column n y)) (λ (v : Visible). v.column) (columns_from alias first_relation 0 names) all in
      let (k, lt, at) = subst (λ (y : Sight). Contains (columns_in_scope (visible_in y)) x) (sym is) among' in
      let passed : is_first_column n x ≡ true = subst (λ y. is_first_column n y ≡ true) at (each k x lt) in
      ltb-true x.col.0 n (and_parts (nat_eq x.rel.0 0) (nat_lt x.col.0 n) passed).1
