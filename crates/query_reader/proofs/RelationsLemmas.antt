-- The columns of the relations of a query: found by their names, and listed.
use Rattle.std.proofs.Common.{◌≡◌, ℕ, ◌+◌, ◌<◌, ◌≤◌, Bool, true, false, List, [], ◌∷◌, ◌++◌, length, filter, drop, get_or, All, Option, Some, None, Ok, refl, sym, ap, subst, ◌∙◌, suc, arith, append-nil, append_assoc, length-drop}
use Rattle.std.specs.List.{list_any, position}
use Rattle.std.specs.Option.{option_map}
use Rattle.std.specs.Str.{bytes_eq}
use Rattle.std.proofs.lemmas.List.{drop_more, get_or_default, get_or-drop, get_or-map, length-map, map-append, nil_from_length}
use Rattle.std.proofs.lemmas.Slice.Eq.{bytes_eq-Decides}
use Rattle.std.proofs.lemmas.List.Elements.{filter-append}
use Rattle.std.proofs.lemmas.Iterator.Adapters.{position_from-zero}
use Rattle.pg_base.specs.declared.numbers.RelNo.{RelNo}
use Rattle.pg_base.specs.declared.numbers.ColNo.{ColNo}
use Rattle.pg_base.specs.declared.numbers.TableNo.{TableNo}
use Rattle.pg_base.specs.Names.{AreDistinct}
use Rattle.pg_expr.specs.declared.operand.ColRef.{ColRef}
use Rattle.catalog.specs.Contents.{Contents, IsLawfulTable, table_at}
use Rattle.catalog.specs.Range.{Range, aliases, relation_at}
use Rattle.catalog.specs.Tables.{column_named}
use Rattle.eq_classes.specs.Equality.{is_column}
use Rattle.sql_lex.specs.declared.tokens.Token.{Token}
use Rattle.expr_reader.specs.Scope.{Scope, Visible, columns_in_scope, under, of_name, the_one, among, look_up}
use Rattle.expr_reader.specs.declared.found.Found.{Found}
use Rattle.expr_reader.specs.declared.found.Found.TheVariants.{One, NoTable, NoColumn, Many}
use Rattle.query_reader.specs.Binding.{found_relation}
use Rattle.query_reader.specs.work.From.{AreRelations}
use Rattle.query_reader.specs.Order.{first_among, shown_of_name}
use Rattle.query_reader.specs.Scope.{columns_from, relations_from}
use Rattle.query_reader.specs.work.Scope.{Sight, also, own_columns}
use Rattle.query_reader.proofs.ScopeLemmas.{differs, found_at, found-from, under-same, under-other}

-- the column of that number of a relation, where there is one
abbrev pub found_number : RelNo → Option ColNo → Found
found_number rel (Some k) = One (record { rel = rel; col = k })
found_number rel None = NoColumn

number-found : (rel : RelNo) (o : Option ℕ) → found_at rel o ≡ found_number rel (option_map (λ n. record { 0 = n }) o)
number-found rel (Some k) = refl
number-found rel None = refl

-- none there, or one
pub none-there : (s : Scope) → the_one s ≡ NoColumn → s ≡ []
none-there [] is = refl
none-there (v ∷ []) is = absurd (cc (is))
none-there (v ∷ w ∷ s) is = absurd (cc (is))

pub one-there : (s : Scope) (x : ColRef) → the_one s ≡ One x → columns_in_scope s ≡ x ∷ []
one-there [] x is = absurd (cc (is))
one-there (v ∷ []) x is = let same : v.column ≡ x = cc (is) in ap (λ c. c ∷ []) same
one-there (v ∷ w ∷ s) x is = absurd (cc (is))

pub the-one-there : (s : Scope) (x : ColRef) → columns_in_scope s ≡ x ∷ [] → the_one s ≡ One x
the-one-there [] x is = absurd (cc (is))
the-one-there (v ∷ []) x is = let same : v.column ≡ x = cc (is) in ap One same
the-one-there (v ∷ w ∷ s) x is = absurd (cc (is))

-- what a name means among the columns of a lawful table
pub named-own : (c : Contents) (t : TableNo) (alias : List ℕ) (rel : RelNo) → IsLawfulTable (table_at c t) → (name : List ℕ) →
    the_one (of_name name (columns_from alias rel 0 (table_at c t).names)) ≡ found_number rel (column_named c t name)
named-own c t alias rel lawful name =
    found-from alias rel name 0 (table_at c t).names lawful.distinct ∙
    (ap (found_at rel) (sym (position_from-zero (bytes_eq name) (table_at c t).names)) ∙ number-found rel (position (bytes_eq name) (table_at c t).names))

-- one name after another
abbrev pub after : Found → List ColRef → Found
after f [] = f
after f (x ∷ xs) = after (also f x) xs

many-after : (s : Scope) → Many ≡ after Many (columns_in_scope s)
many-after [] = refl
many-after (v ∷ s) = many-after s

pub after-none : (s : Scope) → after NoColumn (columns_in_scope s) ≡ the_one s
after-none [] = refl
after-none (v ∷ []) = refl
after-none (v ∷ w ∷ s) = sym (many-after s)

-- a relation stands first among those from its number on
pub relations-more : (c : Contents) (range : Range) (k : ℕ) (d : TableNo × List ℕ) → k < length range →
    relations_from c k (drop k range) ≡ columns_from (get_or range k d).1 (record { 0 = k }) 0 (table_at c (get_or range k d).0).names ++ relations_from c (k + 1) (drop (k + 1) range)
relations-more c range k d lt = ap (relations_from c k) (drop_more range k d lt)

pub relations-end : (c : Contents) (range : Range) (k : ℕ) → length range ≤ k → relations_from c k (drop k range) ≡ []
relations-end c range k le = ap (relations_from c k) (nil_from_length (drop k range) (omega (arith, length-drop k range)))

-- columns picked from those of the relations
module _ (pick : Scope → Scope) (parts : (xs ys : Scope) → pick (xs ++ ys) ≡ pick xs ++ pick ys) (empty : pick [] ≡ []) (s : Sight) where
  -- the columns that are still to be looked at
  abbrev pub left : ℕ → List ColRef
  left k = columns_in_scope (pick (relations_from s.contents k (drop k s.range)))

  parted : (k : ℕ) → k < length s.range → left k ≡ columns_in_scope (pick (own_columns s k)) ++ left (k + 1)
  parted k lt =
      ap (λ x. columns_in_scope (pick x)) (relations-more s.contents s.range k (record { 0 = 0 }, []) lt) ∙
      (ap columns_in_scope (parts (own_columns s k) (relations_from s.contents (k + 1) (drop (k + 1) s.range))) ∙
      map-append (λ (v : Visible). v.column) (pick (own_columns s k)) (pick (relations_from s.contents (k + 1) (drop (k + 1) s.range))))

  pub none-more : (k : ℕ) (f : Found) (whole : Found) → k < length s.range → pick (own_columns s k) ≡ [] → after f (left k) ≡ whole → after f (left (k + 1)) ≡ whole
  none-more k f whole lt none so = sym (ap (after f) (parted k lt ∙ ap (λ x. columns_in_scope x ++ left (k + 1)) none)) ∙ so

  pub one-more : (k : ℕ) (f g : Found) (x : ColRef) (whole : Found) → k < length s.range → columns_in_scope (pick (own_columns s k)) ≡ x ∷ [] → g ≡ also f x → after f (left k) ≡ whole → after g (left (k + 1)) ≡ whole
  one-more k f g x whole lt one is so = ap (λ h. after h (left (k + 1))) is ∙ (sym (ap (after f) (parted k lt ∙ ap (λ xs. xs ++ left (k + 1)) one)) ∙ so)

  pub no-more : (k : ℕ) (f whole : Found) → length s.range ≤ k → after f (left k) ≡ whole → f ≡ whole
  no-more k f whole le so = sym (ap (λ x. after f (columns_in_scope (pick x))) (relations-end s.contents s.range k le) ∙ ap (λ x. after f (columns_in_scope x)) empty) ∙ so

pub name-parts : (name : List ℕ) (xs ys : Scope) → of_name name (xs ++ ys) ≡ of_name name xs ++ of_name name ys
name-parts name xs ys = filter-append (λ v. bytes_eq name v.name) xs ys

pub shown-parts : (select : List ColRef) (name : List ℕ) (xs ys : Scope) → shown_of_name (xs ++ ys) select name ≡ shown_of_name xs select name ++ shown_of_name ys select name
shown-parts select name xs ys =
    ap (filter (λ v. list_any (is_column v.column) select)) (name-parts name xs ys) ∙ filter-append (λ v. list_any (is_column v.column) select) (of_name name xs) (of_name name ys)

-- one column of a name, where a list shows it, and where not
pub shown-none : (select : List ColRef) (name : List ℕ) (s : Scope) → of_name name s ≡ [] → shown_of_name s select name ≡ []
shown-none select name s none = ap (filter (λ v. list_any (is_column v.column) select)) none

shown-by : (select : List ColRef) (xs : Scope) (x : ColRef) → columns_in_scope xs ≡ x ∷ [] → list_any (is_column x) select ≡ true → columns_in_scope (filter (λ v. list_any (is_column v.column) select) xs) ≡ x ∷ []
shown-by select [] x is shows = absurd (cc (is))
shown-by select (v ∷ []) x is shows = let same : v.column ≡ x = cc (is) in rw (ap (λ c. list_any (is_column c) select) same ∙ shows) is
shown-by select (v ∷ w ∷ xs) x is shows = absurd (cc (is))

hidden-by : (select : List ColRef) (xs : Scope) (x : ColRef) → columns_in_scope xs ≡ x ∷ [] → list_any (is_column x) select ≡ false → filter (λ v. list_any (is_column v.column) select) xs ≡ []
hidden-by select [] x is hides = absurd (cc (is))
hidden-by select (v ∷ []) x is hides = let same : v.column ≡ x = cc (is) in rw (ap (λ c. list_any (is_column c) select) same ∙ hides) refl
hidden-by select (v ∷ w ∷ xs) x is hides = absurd (cc (is))

pub shown-one : (select : List ColRef) (name : List ℕ) (s : Scope) (x : ColRef) → columns_in_scope (of_name name s) ≡ x ∷ [] → list_any (is_column x) select ≡ true → columns_in_scope (shown_of_name s select name) ≡ x ∷ []
shown-one select name s x is shows = shown-by select (of_name name s) x is shows

pub hidden-one : (select : List ColRef) (name : List ℕ) (s : Scope) (x : ColRef) → columns_in_scope (of_name name s) ≡ x ∷ [] → list_any (is_column x) select ≡ false → shown_of_name s select name ≡ []
hidden-one select name s x is hides = hidden-by select (of_name name s) x is hides

-- what is found first
pub sought-first : (xs : Scope) (f elsewhere : Found) → f ≡ the_one xs → f ≡ NoColumn → elsewhere ≡ first_among xs elsewhere
sought-first [] f elsewhere is none = refl
sought-first (v ∷ []) f elsewhere is none = absurd (cc (is, none))
sought-first (v ∷ w ∷ xs) f elsewhere is none = absurd (cc (is, none))

pub found-first : (xs : Scope) (f elsewhere : Found) → f ≡ the_one xs → (f ≡ NoColumn → ⊥) → f ≡ first_among xs elsewhere
found-first [] f elsewhere is some = absurd (some is)
found-first (v ∷ xs) f elsewhere is some = is

-- no relation under another alias
under-none : (q : List ℕ) (c : Contents) (k : ℕ) (rs : Range) → All (λ r. bytes_eq q r.1 ≡ false) rs → under q (relations_from c k rs) ≡ []
under-none q c k [] other = refl
under-none q c k ((t, alias) ∷ rs) other =
    filter-append (λ v. bytes_eq q v.alias) (columns_from alias (record { 0 = k }) 0 (table_at c t).names) (relations_from c (k + 1) rs) ∙
    (ap (λ x. x ++ under q (relations_from c (k + 1) rs)) (under-other alias (record { 0 = k }) q 0 (table_at c t).names (other 0 (t, alias) (omega arith))) ∙
    under-none q c (k + 1) rs (λ i d lt. other (suc i) d (omega (arith, lt))))

module _ (s : Sight) (q : List ℕ) where
  -- the columns under the alias from a relation on
  abbrev pub sought : ℕ → Scope
  sought k = under q (relations_from s.contents k (drop k s.range))

  sought-parts : (k : ℕ) → k < length s.range → sought k ≡ under q (own_columns s k) ++ sought (k + 1)
  sought-parts k lt =
      ap (under q) (relations-more s.contents s.range k (record { 0 = 0 }, []) lt) ∙
      filter-append (λ v. bytes_eq q v.alias) (own_columns s k) (relations_from s.contents (k + 1) (drop (k + 1) s.range))

  pub other-more : (k : ℕ) (whole : Scope) → k < length s.range → bytes_eq q (relation_at s.range (record { 0 = k })).1 ≡ false → sought k ≡ whole → sought (k + 1) ≡ whole
  other-more k whole lt other so =
      sym (sought-parts k lt ∙ ap (λ x. x ++ sought (k + 1)) (under-other (relation_at s.range (record { 0 = k })).1 (record { 0 = k }) q 0 (table_at s.contents (relation_at s.range (record { 0 = k })).0).names other)) ∙ so

  pub none-under : (k : ℕ) (whole : Scope) → length s.range ≤ k → sought k ≡ whole → whole ≡ []
  none-under k whole le so = sym so ∙ ap (under q) (relations-end s.contents s.range k le)

-- the aliases behind a relation's differ from its own
later-differ : (range : Range) (k : ℕ) (q : List ℕ) → AreDistinct (aliases range) → k < length range → q ≡ (relation_at range (record { 0 = k })).1 → All (λ r. bytes_eq q r.1 ≡ false) (drop (k + 1) range)
later-differ range k q apart lt is = λ i d within.
    let far : k + 1 + i < length range = omega (arith, within, length-drop (k + 1) range) in
    let there : (get_or (drop (k + 1) range) i d).1 ≡ get_or (aliases range) (k + 1 + i) [] =
    ap (λ (r : TableNo × List ℕ). r.1) (get_or-drop (k + 1) range i d) ∙ sym (get_or-map (λ (r : TableNo × List ℕ). r.1) range (k + 1 + i) d [] far) in
    let here : q ≡ get_or (aliases range) k [] = is ∙ sym (get_or-map (λ (r : TableNo × List ℕ). r.1) range k (record { 0 = 0 }, []) [] lt) in
    differs q (get_or (drop (k + 1) range) i d).1
    (λ same. apart k (k + 1 + i) [] (omega arith) (omega (arith, far, length-map range (λ (r : TableNo × List ℕ). r.1))) (sym here ∙ (same ∙ there)))

-- the one relation under an alias
pub this-one : (s : Sight) (q : List ℕ) (k : ℕ) (whole : Scope) → AreDistinct (aliases s.range) → k < length s.range → bytes_eq q (relation_at s.range (record { 0 = k })).1 ≡ true → sought s q k ≡ whole → whole ≡ own_columns s k
this-one s q k whole apart lt same so =
    let is : q ≡ (relation_at s.range (record { 0 = k })).1 = (bytes_eq-Decides q (relation_at s.range (record { 0 = k })).1).0 same in
    sym so ∙ (sought-parts s q k lt ∙
    (ap (λ x. x ++ sought s q (k + 1)) (under-same (relation_at s.range (record { 0 = k })).1 (record { 0 = k }) q 0 (table_at s.contents (relation_at s.range (record { 0 = k })).0).names same) ∙
    (ap (λ x. own_columns s k ++ x) (under-none q s.contents (k + 1) (drop (k + 1) s.range) (later-differ s.range k q apart lt is)) ∙ append-nil (own_columns s k))))

-- there is a first one
pub record Filled (scope : Scope) : Type 0 where
  pub first : Visible
  pub more : Scope
  pub is : scope ≡ first ∷ more

filled-names : (alias : List ℕ) (rel : RelNo) (names : List (List ℕ)) → 0 < length names → Filled (columns_from alias rel 0 names)
filled-names alias rel [] some = absurd (omega (arith, some))
filled-names alias rel (n ∷ ns) some = record { first = record { alias = alias; name = n; column = record { rel = rel; col = record { 0 = 0 } } }; more = columns_from alias rel 1 ns; is = refl }

-- each relation has a column
pub filled : (s : Sight) (k : ℕ) → AreRelations s.contents s.range → k < length s.range → Filled (own_columns s k)
filled s k are lt =
    let lawful : IsLawfulTable (table_at s.contents (relation_at s.range (record { 0 = k })).0) = are.lawful k (record { 0 = 0 }, []) lt in
    filled-names (relation_at s.range (record { 0 = k })).1 (record { 0 = k }) (table_at s.contents (relation_at s.range (record { 0 = k })).0).names (omega (arith, lawful.some, lawful.width))

pub all-there : (scope : Scope) (q : Token) → Filled scope → found_relation scope q ≡ Ok (columns_in_scope scope)
all-there scope q f = rw f.is refl

among-there : (scope : Scope) (name : List ℕ) → Filled scope → among name scope ≡ the_one (of_name name scope)
among-there scope name f = rw f.is refl

-- what a name means under an alias
pub no-relation : (scope : Scope) (q name : List ℕ) → under q scope ≡ [] → NoTable ≡ look_up scope (Some q) name
no-relation scope q name none = sym (ap (among name) none)

pub under-one : (scope own : Scope) (q name : List ℕ) (f : Found) → under q scope ≡ own → Filled own → the_one (of_name name own) ≡ f → f ≡ look_up scope (Some q) name
under-one scope own q name f is full found = sym found ∙ (sym (among-there own name full) ∙ sym (ap (among name) is))

-- columns of a table, added one by one
pub column-more : (alias : List ℕ) (rel : RelNo) (names : List (List ℕ)) (k : ℕ) → k < length names →
    columns_in_scope (columns_from alias rel k (drop k names)) ≡ record { rel = rel; col = record { 0 = k } } ∷ columns_in_scope (columns_from alias rel (k + 1) (drop (k + 1) names))
column-more alias rel names k lt = ap (λ ns. columns_in_scope (columns_from alias rel k ns)) (drop_more names k [] lt)

pub column-end : (alias : List ℕ) (rel : RelNo) (names : List (List ℕ)) (k : ℕ) → length names ≤ k → columns_in_scope (columns_from alias rel k (drop k names)) ≡ []
column-end alias rel names k le = ap (λ ns. columns_in_scope (columns_from alias rel k ns)) (nil_from_length (drop k names) (omega (arith, length-drop k names)))

pub column-added : (old now : List ColRef) (x : ColRef) (more rest whole : List ColRef) → now ≡ old ++ x ∷ [] → more ≡ x ∷ rest → old ++ more ≡ whole → now ++ rest ≡ whole
column-added old now x more rest whole grown is so = rw (grown, append_assoc) (ap (λ l. old ++ l) (sym is) ∙ so)

pub columns-done : (now rest whole : List ColRef) → rest ≡ [] → now ++ rest ≡ whole → now ≡ whole
columns-done now rest whole none so = sym (append-nil now) ∙ (ap (λ l. now ++ l) (sym none) ∙ so)

-- the columns of the relations from one on, added relation by relation
pub relation-added : (s : Sight) (k : ℕ) (old now whole : List ColRef) → k < length s.range → now ≡ old ++ columns_in_scope (own_columns s k) →
    old ++ columns_in_scope (relations_from s.contents k (drop k s.range)) ≡ whole → now ++ columns_in_scope (relations_from s.contents (k + 1) (drop (k + 1) s.range)) ≡ whole
relation-added s k old now whole lt grown so =
    let later = relations_from s.contents (k + 1) (drop (k + 1) s.range) in
    ap (λ l. l ++ columns_in_scope later) grown ∙ (append_assoc old (columns_in_scope (own_columns s k)) (columns_in_scope later) ∙
    (ap (λ l. old ++ l) (sym (map-append (λ (v : Visible). v.column) (own_columns s k) later) ∙
    sym (ap columns_in_scope (relations-more s.contents s.range k (record { 0 = 0 }, []) lt))) ∙ so))

pub relations-done : (s : Sight) (k : ℕ) (now whole : List ColRef) → length s.range ≤ k → now ++ columns_in_scope (relations_from s.contents k (drop k s.range)) ≡ whole → now ≡ whole
relations-done s k now whole le so = columns-done now (columns_in_scope (relations_from s.contents k (drop k s.range))) whole (ap columns_in_scope (relations-end s.contents s.range k le)) so

-- relations as they are lent, and what contracts see of them
module _ (s : Sight) (c : Contents) (range : Range) (first : ℕ) (is : record { contents = c; range = range; first = first } ≡ s) (are : AreRelations c range) where
  pub lawful-relations : AreRelations s.contents s.range
  lawful-relations = subst (λ (x : Sight). AreRelations x.contents x.range) is are

  pub within : (k : ℕ) → k < length range → k < length s.range
  within k lt = subst (λ (x : Sight). k < length x.range) is lt

  pub inside : (k : ℕ) → k < length s.range → k < length range
  inside k lt = subst (λ (x : Sight). k < length x.range) (sym is) lt

  at-place : (k : ℕ) (d : TableNo × List ℕ) → k < length range → relation_at range (record { 0 = k }) ≡ get_or range k d
  at-place k d lt = get_or_default range k (record { 0 = 0 }, []) d lt

  -- a relation's columns
  pub own-of : (k : ℕ) (d : TableNo × List ℕ) → k < length range → columns_from (get_or range k d).1 (record { 0 = k }) 0 (table_at c (get_or range k d).0).names ≡ own_columns s k
  own-of k d lt =
      ap (λ (r : TableNo × List ℕ). columns_from r.1 (record { 0 = k }) 0 (table_at c r.0).names) (sym (at-place k d lt)) ∙ ap (λ (y : Sight). own_columns y k) is

  pub lawful-own : (k : ℕ) (d : TableNo × List ℕ) → k < length range → IsLawfulTable (table_at c (get_or range k d).0)
  lawful-own k d lt = subst (λ (r : TableNo × List ℕ). IsLawfulTable (table_at c r.0)) (at-place k d lt) (are.lawful k (record { 0 = 0 }, []) lt)

  named-at : (k : ℕ) (d : TableNo × List ℕ) → k < length range → (name : List ℕ) → the_one (of_name name (own_columns s k)) ≡ found_number (record { 0 = k }) (column_named c (get_or range k d).0 name)
  named-at k d lt name = ap (λ y. the_one (of_name name y)) (sym (own-of k d lt)) ∙ named-own c (get_or range k d).0 (get_or range k d).1 (record { 0 = k }) (lawful-own k d lt) name

  -- a name that is that of no column there, or of one
  pub unnamed : (k : ℕ) (d : TableNo × List ℕ) → k < length range → (name : List ℕ) → column_named c (get_or range k d).0 name ≡ None → of_name name (own_columns s k) ≡ []
  unnamed k d lt name none = none-there (of_name name (own_columns s k)) (named-at k d lt name ∙ ap (found_number (record { 0 = k })) none)

  pub named-so : (k : ℕ) (d : TableNo × List ℕ) → k < length range → (name : List ℕ) (col : ColNo) → column_named c (get_or range k d).0 name ≡ Some col → columns_in_scope (of_name name (own_columns s k)) ≡ record { rel = record { 0 = k }; col = col } ∷ []
  named-so k d lt name col one = one-there (of_name name (own_columns s k)) (record { rel = record { 0 = k }; col = col }) (named-at k d lt name ∙ ap (found_number (record { 0 = k })) one)

  alias-at : (q bytes : List ℕ) (b : Bool) (k : ℕ) (d : TableNo × List ℕ) → k < length range → bytes ≡ (get_or range k d).1 → b ≡ bytes_eq q bytes → bytes_eq q (relation_at s.range (record { 0 = k })).1 ≡ b
  alias-at q bytes b k d lt named same =
      ap (λ (y : Sight). bytes_eq q (relation_at y.range (record { 0 = k })).1) (sym is) ∙ (ap (λ (r : TableNo × List ℕ). bytes_eq q r.1) (at-place k d lt) ∙ (ap (bytes_eq q) (sym named) ∙ sym same))

  -- a relation under the alias, or under another one
  pub hit : (q bytes : List ℕ) (k : ℕ) (d : TableNo × List ℕ) (whole : Scope) → k < length range → bytes ≡ (get_or range k d).1 → true ≡ bytes_eq q bytes → sought s q k ≡ whole → (k < length s.range) × (whole ≡ own_columns s k)
  hit q bytes k d whole lt named same so = (within k lt, this-one s q k whole lawful-relations.distinct (within k lt) (alias-at q bytes true k d lt named same) so)

  pub miss : (q bytes : List ℕ) (k : ℕ) (d : TableNo × List ℕ) (whole : Scope) → k < length range → bytes ≡ (get_or range k d).1 → false ≡ bytes_eq q bytes → sought s q k ≡ whole → sought s q (k + 1) ≡ whole
  miss q bytes k d whole lt named same so = other-more s q k whole (within k lt) (alias-at q bytes false k d lt named same) so
