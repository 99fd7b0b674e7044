-- The text of a key tells its class.
use Rattle.std.proofs.Common.{◌≡◌, ◌<◌, ◌==◌, ◌&&◌, ℕ, Bool, true, false, not, cond, List, [], ◌∷◌, ◌++◌, codes, get_or, drop, length, map, refl, sym, ◌∙◌, ap, ap₂, subst, append_assoc, inl, inr, arith}
use Rattle.std.specs.Prelude.{Option, None, Some, Contains, filter, filter_map, nat_eq}
use Rattle.std.specs.List.{AllByRecursion}
use Rattle.std.proofs.lemmas.Bool.{and_from, lt-ltb}
use Rattle.std.proofs.lemmas.List.{append_cancel_left, get_or_default}
use Rattle.pg_base.specs.Names.{IsName}
use Rattle.pg_base.specs.declared.numbers.ColNo.{ColNo}
use Rattle.pg_base.specs.declared.numbers.RelNo.{RelNo}
use Rattle.pg_value.specs.declared.operators.Family.{Family}
use Rattle.pg_value.specs.declared.operators.Family.TheVariants as families
use Rattle.pg_value.specs.declared.value.SqlType.{SqlType}
use Rattle.pg_expr.specs.declared.operand.ColRef.{ColRef}
use Rattle.catalog.specs.Contents.{Contents, IsColumn, IsLawful, name_at}
use Rattle.catalog.specs.Range.{relation_at, table_of, type_in}
use Rattle.eq_classes.specs.declared.order.OrderItem.{OrderItem}
use Rattle.catalog.specs.opfamily_Answers.{is_family, takes}
use Rattle.eq_classes.specs.Classes.{Class, has_member, in_family, is_abs}
use Rattle.eq_classes.specs.Clauses.{Set, ClassTable, first_in}
use Rattle.eq_classes.specs.Listing.{blank, class_at}
use Rattle.eq_classes.proofs.EqualLemmas.{family_self}
use Rattle.eq_classes.proofs.ListLemmas.{IsIn, all_at, any_from, found_in, in_filter_map, in_from_contains}
use Rattle.eq_classes.proofs.PlainLemmas.{plain_class_default}
use Rattle.eq_classes.proofs.SoundLemmas.{in_member, member_in, member_takes}
use Rattle.eq_classes.proofs.WrittenLemmas.{in_typed}
use Rattle.plan_laws.proofs.PartLemmas.{apart_at}
use Rattle.sql_query.specs.Queries.{Query, all_of_query, width}
use Rattle.sql_query.specs.WellBound.{IsColumnOf, IsWellBound, given_with}
use Rattle.pathkeys.specs.Keys.{Keys, class_of, is_constant, once, order_class, order_keys}
use Rattle.plan_laws.specs.sort_rows_ColumnLemmas.{member_is}
use Rattle.plan_laws.proofs.IndexOrderLemmas.{class_found}
use Rattle.eq_classes.proofs.DefaultLemmas.{one_family}
use Rattle.plan_laws.proofs.KeyLemmas.{find_more}
use Rattle.explain.specs.Texts.{column_text, direction_text, family_text, key_text, keys_text, with_commas, member_text}
use Rattle.explain_laws.proofs.NameLemmas.{alias-name, alias-same, column-name, column-same, relation-table}
use Rattle.explain_laws.proofs.SplitLemmas.{split, stops}
use Rattle.pg_base.proofs.NameLemmas.{name-word}

-- what stands behind the column of a key
abbrev pub tail_text : Class → List ℕ
tail_text k = family_text k.family ++ direction_text k.descending k.nulls_first

stops-direction : (d n : Bool) (s : List ℕ) → stops s ≡ true → stops (direction_text d n ++ s) ≡ true
stops-direction true true s h = refl
stops-direction true false s h = refl
stops-direction false true s h = refl
stops-direction false false s h = h

stops-tail : (f : Family) (d n : Bool) (s : List ℕ) → stops s ≡ true → stops ((family_text f ++ direction_text d n) ++ s) ≡ true
stops-tail families.IntAbs d n s h = refl
stops-tail f d n s h = stops-direction d n s h

-- a text begins as the family of a key does: with a space before `i`
abbrev pub begins_family : List ℕ → Bool
begins_family text = get_or text 0 0 == 32 && get_or text 1 0 == 105

direction-family : (d n : Bool) (s : List ℕ) → begins_family s ≡ false → begins_family (direction_text d n ++ s) ≡ false
direction-family true true s h = refl
direction-family true false s h = refl
direction-family false true s h = refl
direction-family false false s h = h

tail-family : (f : Family) (d n : Bool) (s : List ℕ) → begins_family s ≡ false → begins_family ((family_text f ++ direction_text d n) ++ s) ≡ is_abs f
tail-family families.IntAbs d n s h = refl
tail-family f d n s h = direction-family d n s h

-- what may stand behind a key: a text that goes on no name and begins no family, as a comma or two spaces
pub record IsNext (s : List ℕ) : Type 0 where
  pub stops_name : stops s ≡ true
  pub no_family : begins_family s ≡ false

-- a class of a table with a first member inside a set
pub record IsShownKey (t : ClassTable) (set : Set) (n : ℕ) : Type 0 where
  pub low : n < length t.classes
  pub member : ColRef
  pub first : first_in (class_at t.classes n) set ≡ Some member

abbrev pub AreShownKeys : Query → Set → Keys → Type 0
AreShownKeys q set keys = AllByRecursion (IsShownKey q.classes set) keys

module _ (c : Contents) (q : Query) (lawful : IsLawful c) (bound : IsWellBound c q) where
  abbrev type_of : ColRef → SqlType
  type_of = type_in c q.range

  class-in : (n : ℕ) → n < length q.classes.classes → IsIn (class_at q.classes.classes n) q.classes.classes
  class-in n lt = in_from_contains q.classes.classes (class_at q.classes.classes n) (n, lt, get_or_default q.classes.classes n (class_at q.classes.classes n) blank lt)

  member-takes : (n : ℕ) (x : ColRef) → n < length q.classes.classes → IsIn x (class_at q.classes.classes n).members → takes (class_at q.classes.classes n).family (type_of x) ≡ true
  member-takes n x lt i = member_takes (given_with c q bound.items) (in_typed type_of q.where_all bound.typed) q.classes.classes bound.classes.classes (class_at q.classes.classes n) (class-in n lt) x i

  class-same : (n m : ℕ) (x : ColRef) → n < length q.classes.classes → m < length q.classes.classes → IsIn x (class_at q.classes.classes n).members → IsIn x (class_at q.classes.classes m).members →
      is_abs (class_at q.classes.classes n).family ≡ is_abs (class_at q.classes.classes m).family → n ≡ m
  class-same n m x ln lm i j e =
      let k = class_at q.classes.classes n in
      let l = class_at q.classes.classes m in
      let same = one_family (type_of x) k.family l.family (member-takes n x ln i) (member-takes m x lm j) e in
      apart_at (given_with c q bound.items) q.classes bound.classes (in_family x k.family) n m ln lm
      (and_from (is_family k.family k.family) (has_member k x) (family_self k.family) (in_member k x i))
      (and_from (is_family l.family k.family) (has_member l x) (ap (λ (f : Family). is_family f k.family) (sym same) ∙ family_self k.family) (in_member l x j))

  shown-in : (set : Set) (n : ℕ) (k : IsShownKey q.classes set n) → IsIn k.member (class_at q.classes.classes n).members
  shown-in set n k = found_in (λ (y : ColRef). set y.rel.0) (class_at q.classes.classes n).members k.member k.first

  shown-column : (set : Set) (n : ℕ) (k : IsShownKey q.classes set n) → IsColumnOf c q.range k.member
  shown-column set n k = member_is c q bound (class_at q.classes.classes n) (class-in n k.low) k.member (shown-in set n k)

  abbrev alias_at : ColRef → List ℕ
  alias_at x = (relation_at q.range x.rel).1

  abbrev name_of : ColRef → List ℕ
  name_of x = name_at c (table_of q.range x) x.col

  key-is : (set : Set) (n : ℕ) (k : IsShownKey q.classes set n) (s : List ℕ) → key_text c q set n ++ s ≡ alias_at k.member ++ 46 ∷ (name_of k.member ++ (tail_text (class_at q.classes.classes n) ++ s))
  key-is set n k s =
      let x = k.member in
      let T = tail_text (class_at q.classes.classes n) in
      ap (λ (o : Option ColRef). (member_text c q o ++ T) ++ s) k.first
      ∙ append_assoc (column_text c q x) T s
      ∙ append_assoc (alias_at x) (46 ∷ name_of x) (T ++ s)

  pub key-split : (a b : Set) (n m : ℕ) → IsShownKey q.classes a n → IsShownKey q.classes b m → (s t : List ℕ) → IsNext s → IsNext t → key_text c q a n ++ s ≡ key_text c q b m ++ t → (n ≡ m) × (s ≡ t)
  key-split a b n m k l s t hs ht e =
      let x = k.member in
      let y = l.member in
      let cx = shown-column a n k in
      let cy = shown-column b m l in
      let K = class_at q.classes.classes n in
      let L = class_at q.classes.classes m in
      let tx = relation-table c q.range bound.range x.rel cx.relation in
      let ty = relation-table c q.range bound.range y.rel cy.relation in
      let whole = sym (key-is a n k s) ∙ e ∙ key-is b m l t in
      let one = split (alias_at x) (alias_at y) (46 ∷ (name_of x ++ (tail_text K ++ s))) (46 ∷ (name_of y ++ (tail_text L ++ t)))
      (name-word (alias_at x) (alias-name c q.range bound.range x.rel cx.relation)) (name-word (alias_at y) (alias-name c q.range bound.range y.rel cy.relation)) refl refl whole in
      let two = split (name_of x) (name_of y) (tail_text K ++ s) (tail_text L ++ t)
      (name-word (name_of x) (column-name c lawful (table_of q.range x) x.col tx cx.column)) (name-word (name_of y) (column-name c lawful (table_of q.range y) y.col ty cy.column))
      (stops-tail K.family K.descending K.nulls_first s hs.stops_name) (stops-tail L.family L.descending L.nulls_first t ht.stops_name)
      (ap (λ (z : List ℕ). drop 1 z) one.1) in
      let rel : x.rel ≡ y.rel = alias-same c q.range bound.range x.rel y.rel cx.relation cy.relation one.0 in
      let same : x ≡ y = same-column x y rel cx cy two.0 in
      let abs : is_abs K.family ≡ is_abs L.family =
      sym (tail-family K.family K.descending K.nulls_first s hs.no_family) ∙ ap begins_family two.1 ∙ tail-family L.family L.descending L.nulls_first t ht.no_family in
      let P : ColRef → Type 0 = λ z. IsIn z K.members in
      let number : n ≡ m = class-same n m y k.low l.low (subst P same (shown-in a n k)) (shown-in b m l) abs in
      (number, append_cancel_left (tail_text L) s t (sym (ap (λ (j : ℕ). tail_text (class_at q.classes.classes j) ++ s) number) ∙ two.1))
    where
      same-column : (x y : ColRef) → x.rel ≡ y.rel → IsColumnOf c q.range x → IsColumnOf c q.range y → name_of x ≡ name_of y → x ≡ y
      same-column x y rel hx hy names =
          let P : RelNo → Type 0 = λ r. IsColumn c (relation_at q.range r).0 y.col in
          let named : name_of x ≡ name_at c (table_of q.range x) y.col = names ∙ ap (λ (r : RelNo). name_at c (relation_at q.range r).0 y.col) (sym rel) in
          let col : x.col ≡ y.col = column-same c lawful (table_of q.range x) x.col y.col (relation-table c q.range bound.range x.rel hx.relation) hx.column (subst P (sym rel) hy.column) named in
          ap₂ (λ (r : RelNo) (k : ColNo). let z : ColRef = record { rel = r; col = k } in z) rel col

  -- no key begins where a name stops
  pub key-begins : (set : Set) (n : ℕ) (s t : List ℕ) → IsShownKey q.classes set n → stops s ≡ true → s ≡ key_text c q set n ++ t → ⊥
  key-begins set n s t k hs e =
      let x = k.member in
      let alias = alias-name c q.range bound.range x.rel (shown-column set n k).relation in
      let one = split [] (alias_at x) s (46 ∷ (name_of x ++ (tail_text (class_at q.classes.classes n) ++ t))) refl (name-word (alias_at x) alias) hs refl (e ∙ key-is set n k t) in
      subst IsName (sym one.0) alias

  next-keys : (a : Set) (ks : Keys) (s : List ℕ) → IsNext (with_commas (codes ", ") (map (key_text c q a) ks) ++ 32 ∷ 32 ∷ s)
  next-keys a [] s = record { stops_name = refl; no_family = refl }
  next-keys a (k ∷ ks) s = record { stops_name = refl; no_family = refl }

  more-keys : (a b : Set) (ks ls : Keys) (s t : List ℕ) → AreShownKeys q a ks → AreShownKeys q b ls →
      with_commas (codes ", ") (map (key_text c q a) ks) ++ 32 ∷ 32 ∷ s ≡ with_commas (codes ", ") (map (key_text c q b) ls) ++ 32 ∷ 32 ∷ t → (ks ≡ ls) × (s ≡ t)
  more-keys a b [] [] s t h g e = (refl, ap (λ (z : List ℕ). drop 2 z) e)
  more-keys a b [] (l ∷ ls) s t h g e = let bad : 32 ≡ 44 = ap (λ (z : List ℕ). get_or z 0 0) e in absurd (omega (arith, bad))
  more-keys a b (k ∷ ks) [] s t h g e = let bad : 44 ≡ 32 = ap (λ (z : List ℕ). get_or z 0 0) e in absurd (omega (arith, bad))
  more-keys a b (k ∷ ks) (l ∷ ls) s t h g e =
      let A = with_commas (codes ", ") (map (key_text c q a) ks) in
      let B = with_commas (codes ", ") (map (key_text c q b) ls) in
      let one : (key_text c q a k ++ A) ++ 32 ∷ 32 ∷ s ≡ (key_text c q b l ++ B) ++ 32 ∷ 32 ∷ t = ap (λ (z : List ℕ). drop 2 z) e in
      let two = key-split a b k l h.0 g.0 (A ++ 32 ∷ 32 ∷ s) (B ++ 32 ∷ 32 ∷ t) (next-keys a ks s) (next-keys b ls t)
      (sym (append_assoc (key_text c q a k) A (32 ∷ 32 ∷ s)) ∙ one ∙ append_assoc (key_text c q b l) B (32 ∷ 32 ∷ t)) in
      let rest = more-keys a b ks ls s t h.1 g.1 two.1 in
      (ap₂ (λ (j : ℕ) (js : List ℕ). j ∷ js) two.0 rest.0, rest.1)

  pub keys-split : (a b : Set) (ks ls : Keys) (s t : List ℕ) → 0 < length ks → 0 < length ls → AreShownKeys q a ks → AreShownKeys q b ls →
      keys_text c q a ks ++ 32 ∷ 32 ∷ s ≡ keys_text c q b ls ++ 32 ∷ 32 ∷ t → (ks ≡ ls) × (s ≡ t)
  keys-split a b [] ls s t some more h g e = absurd (omega (arith, some))
  keys-split a b (k ∷ ks) [] s t some more h g e = absurd (omega (arith, more))
  keys-split a b (k ∷ ks) (l ∷ ls) s t some more h g e =
      let A = with_commas (codes ", ") (map (key_text c q a) ks) in
      let B = with_commas (codes ", ") (map (key_text c q b) ls) in
      let two = key-split a b k l h.0 g.0 (A ++ 32 ∷ 32 ∷ s) (B ++ 32 ∷ 32 ∷ t) (next-keys a ks s) (next-keys b ls t)
      (sym (append_assoc (key_text c q a k) A (32 ∷ 32 ∷ s)) ∙ e ∙ append_assoc (key_text c q b l) B (32 ∷ 32 ∷ t)) in
      let rest = more-keys a b ks ls s t h.1 g.1 two.1 in
      (ap₂ (λ (j : ℕ) (js : List ℕ). j ∷ js) two.0 rest.0, rest.1)

  -- the order keys are such keys of the whole query
  of-family : (x : ColRef) (f : Family) (n : ℕ) → x.rel.0 < width q → class_of q.classes x f ≡ Some n → IsShownKey q.classes (all_of_query q) n
  of-family x f n lt h =
      let of = class_found q.classes x f n h in
      let all = all_of_query q in
      let k = class_at q.classes.classes n in
      let first = find_more (λ y. all y.rel.0) (λ y. all y.rel.0) (λ y is. is) k.members (any_from (λ y. all y.rel.0) k.members x (member_in k x of.member) (lt-ltb x.rel.0 (width q) lt)) in
      record { low = of.low; member = first.0; first = first.1 }

  of-order : (x : ColRef) (n : ℕ) → x.rel.0 < width q → order_class q.classes x ≡ Some n → IsShownKey q.classes (all_of_query q) n
  of-order x n lt h =
      let by = plain_class_default (given_with c q bound.items) (in_typed type_of q.where_all bound.typed) q.classes.classes bound.classes.classes x n h in
      of-family x by.0 n lt by.2

  in-filtered : (p : ℕ → Bool) (ns : List ℕ) (n : ℕ) → IsIn n (filter p ns) → IsIn n ns
  in-filtered p [] n h = h
  in-filtered p (m ∷ ms) n h = by (p m) (in-filtered p ms n) h
    where
      by : (b : Bool) → (IsIn n (filter p ms) → IsIn n ms) → IsIn n (cond b (m ∷ filter p ms) (filter p ms)) → IsIn n (m ∷ ms)
      by true f (inl same) = inl same
      by true f (inr later) = inr (f later)
      by false f later = inr (f later)

  in-once : (ns : List ℕ) (n : ℕ) → IsIn n (once ns) → IsIn n ns
  in-once [] n h = h
  in-once (m ∷ ms) n (inl same) = inl same
  in-once (m ∷ ms) n (inr later) = inr (in-once ms n (in-filtered (λ j. not (nat_eq m j)) (once ms) n later))

  each-shown : (keys : Keys) → ((n : ℕ) → IsIn n keys → IsShownKey q.classes (all_of_query q) n) → AreShownKeys q (all_of_query q) keys
  each-shown [] f = tt
  each-shown (n ∷ ns) f = (f n (inl refl), each-shown ns (λ m i. f m (inr i)))

  pub order-shown : AreShownKeys q (all_of_query q) (order_keys q.classes q.order)
  order-shown = each-shown (order_keys q.classes q.order) each
    where
      each : (n : ℕ) → IsIn n (order_keys q.classes q.order) → IsShownKey q.classes (all_of_query q) n
      each n i =
          let class_by : OrderItem → Option ℕ = λ item. order_class q.classes item.col in
          let found = filter_map class_by q.order in
          let w = in_filter_map class_by q.order n (in-filtered (λ m. not (is_constant q.classes m)) found n (in-once (filter (λ m. not (is_constant q.classes m)) found) n i)) in
          of-order w.0.col n
          (all_at (IsColumnOf c q.range) q.used bound.used w.0.col (in_from_contains q.used w.0.col (all_at (λ (o : OrderItem). Contains q.used o.col) q.order bound.order w.0 w.1))).relation
          w.2
