-- The rows of a hash index at which its condition is True: those of the entries whose value equals the one compared with.
use Rattle.std.proofs.Common.{◌≡◌, ◌<◌, ◌≤◌, ◌+◌, ℕ, zero, suc, Bool, true, false, cond, ◌&&◌, List, [], ◌∷◌, length, map, filter, refl, sym, ap, ◌∙◌, subst, arith, ⊎_elim, ◌⊎◌, inl, inr, Ordering, Less, Equal, Greater, not, ◌||◌}
use Rattle.std.specs.Prelude.{IsFalse, is_some, nat_eq, slice_index_or}
use Rattle.std.specs.List.{range_with_len}
use Rattle.std.specs.Ordering.{is_eq, is_gt, nat_cmp, ordering_reverse, ordering_then}
use Rattle.std.proofs.lemmas.Bool.{and_parts, and_from, lt-ltb, true≢false}
use Rattle.pg_base.specs.declared.numbers.ColNo.{ColNo}
use Rattle.pg_value.specs.declared.operators.Family.{Family}
use Rattle.pg_value.specs.declared.operators.Family.TheVariants.{Integer, IntAbs, Text as TextFamily, Bool as BoolFamily, Uuid as UuidFamily, Date as DateFamily, Timestamp as TimestampFamily, TimestampTz as TimestampTzFamily, Numeric as NumericFamily}
use Rattle.pg_value.specs.declared.operators.Op.{Op}
use Rattle.pg_value.specs.declared.operators.Op.TheVariants.{Eq}
use Rattle.pg_value.specs.declared.value.SqlType.{SqlType}
use Rattle.pg_value.specs.declared.value.Value.{Value}
use Rattle.pg_value.specs.declared.value.Value.TheVariants.{Null, Int, Bool as Flag, Text as String}
use Rattle.pg_value.specs.work.Order.{IsOfFamily}
use Rattle.pg_value.specs.Sorting.{IsInOrder, in_order}
use Rattle.pg_value.specs.Truths.{is_true, truth_of_op}
use Rattle.pg_value.proofs.SortingLemmas.{in_order_fixed}
use Rattle.opfamily.specs.Answers.{number_in, op_place}
use Rattle.opfamily.specs.KeyOrder.{IndexEntry, key_family, key_order}
use Rattle.opfamily.specs.declared.classes.IndexKey.{IndexKey}
use Rattle.opfamily.specs.declared.classes.Method.{Method}
use Rattle.opfamily.specs.declared.classes.Method.TheVariants.{Btree, Hash}
use Rattle.opfamily.proofs.KeyOrderLemmas.{key_total}
use Rattle.pg_expr.specs.declared.operand.ColRef.{ColRef}
use Rattle.pg_expr.specs.Cond.{Cond, compare, is_null, is_not_null, bool_col, const, all_of, any_of, negation}
use Rattle.pg_expr.specs.Truths.{truth_at}
use Rattle.pg_expr.specs.Typed.{some_value}
use Rattle.pg_expr.proofs.PushedLaws.{IsDefined}
use Rattle.eq_classes.proofs.HoldLemmas.{in_map}
use Rattle.eq_classes.proofs.ListLemmas.{IsIn, Before, all_from, before_filter, earlier_in, in_filter, later_in, pairs_all}
use Rattle.btree_index.specs.work.Bounds as tree
use Rattle.btree_index.specs.declared.bounds.Probe.{Probe}
use Rattle.btree_index.specs.declared.bounds.Probe.TheVariants.{Bound}
use Rattle.hash_index.specs.work.Held as held
use Rattle.hash_index.specs.work.Held.{Held, IsKnown, held_order, rows_equal}
use Rattle.hash_index.proofs.HeldLemmas.{held_total, none_equal, ties_equal}
use Rattle.index_match.specs.Conditions.{has_key_form, is_key_side, is_outside}
use Rattle.catalog.specs.Indexes.{Index}
use Rattle.heap.specs.Stored.{Values}
use Rattle.plan_tree.specs.Entries.{entries_over, entry, meets_predicate, ordered}
use Rattle.store.specs.work.Kept.{held_of}
use Rattle.store.proofs.OrderLemmas.{filter-in_order}
use Rattle.scan_probes.specs.work.Values.{Given, value_beside}
use Rattle.scan_probes.specs.work.Probes.{column_of, compared_with, probe_of}
use Rattle.scan_probes.proofs.MeetLemmas.{meets_true, stands}
use Rattle.opfamily.proofs.TableLemmas.{every_pair, implied}

-- `=` is known by its place among the operators
at_equality : (op : Op) → nat_eq (op_place op) (op_place Eq) ≡ true → op ≡ Eq
at_equality Eq h = refl
at_equality op h = absurd (true≢false (sym h))

-- a hash index has `=` alone, which is an operator of a B-tree too
hash_only : (f : Family) (op : Op) → is_some (number_in f Hash op) ≡ true → op ≡ Eq
hash_only f op h = at_equality op (implied (is_some (number_in f Hash op)) (nat_eq (op_place op) (op_place Eq)) (every_pair (λ g o. not (is_some (number_in g Hash o)) || nat_eq (op_place o) (op_place Eq)) (λ scale. refl) f op) h)

ordered_too : (f : Family) → is_some (number_in f Hash Eq) ≡ true → is_some (number_in f Btree Eq) ≡ true
ordered_too Integer h = refl
ordered_too IntAbs h = absurd (true≢false (sym h))
ordered_too TextFamily h = refl
ordered_too BoolFamily h = refl
ordered_too UuidFamily h = refl
ordered_too DateFamily h = refl
ordered_too TimestampFamily h = refl
ordered_too TimestampTzFamily h = refl
ordered_too (NumericFamily scale) h = refl

module _ (r : ℕ) (k : IndexKey) (given : Given) where
  -- a condition of a hash index as one of a B-tree, and what it compares the key with
  pub as_ordered : (e : Cond) → has_key_form Hash r k e ≡ true → has_key_form Btree r k e ≡ true
  as_ordered (compare op a b) h =
      let parts = and_parts (is_some (number_in (key_family k) Hash op)) _ h in
      let same = hash_only (key_family k) op parts.0 in
      and_from _ _ (subst (λ (x : Op). is_some (number_in (key_family k) Btree x) ≡ true) (sym same) (ordered_too (key_family k) (subst (λ (x : Op). is_some (number_in (key_family k) Hash x) ≡ true) same parts.0))) parts.1
  as_ordered (is_null x) h = absurd (true≢false (sym h))
  as_ordered (is_not_null x) h = absurd (true≢false (sym h))
  as_ordered (bool_col x) h = absurd (true≢false (sym h))
  as_ordered (const t) h = absurd (true≢false (sym h))
  as_ordered (all_of es) h = absurd (true≢false (sym h))
  as_ordered (any_of es) h = absurd (true≢false (sym h))
  as_ordered (negation e) h = absurd (true≢false (sym h))

  pub equal_probe : (e : Cond) → has_key_form Hash r k e ≡ true → probe_of r k 0 given e ≡ Bound (record { col = 0; op = Eq; value = compared_with r k given e })
  equal_probe (compare op a b) h =
      let same = hash_only (key_family k) op (and_parts (is_some (number_in (key_family k) Hash op)) _ h).0 in
      subst (λ (x : Op). probe_of r k 0 given (compare x a b) ≡ Bound (record { col = 0; op = Eq; value = compared_with r k given (compare x a b) })) (sym same)
      (by (is_key_side r k a && is_outside r b) _ _)
    where
      by : (x : Bool) (v u : Value) → cond x (Bound (record { col = 0; op = Eq; value = v })) (Bound (record { col = 0; op = Eq; value = u })) ≡ Bound (record { col = 0; op = Eq; value = cond x v u })
      by true v u = refl
      by false v u = refl
  equal_probe (is_null x) h = absurd (true≢false (sym h))
  equal_probe (is_not_null x) h = absurd (true≢false (sym h))
  equal_probe (bool_col x) h = absurd (true≢false (sym h))
  equal_probe (const t) h = absurd (true≢false (sym h))
  equal_probe (all_of es) h = absurd (true≢false (sym h))
  equal_probe (any_of es) h = absurd (true≢false (sym h))
  equal_probe (negation e) h = absurd (true≢false (sym h))

  -- the value compared with is of the key's family
  pub fits_key : (type_of : ColRef → SqlType) (e : Cond) → IsOfFamily (key_family k) (some_value (type_of (column_of r k.col))) → has_key_form Hash r k e ≡ true
      → IsDefined (value_beside r (λ c. some_value (type_of (column_of r c))) given) e → IsOfFamily (key_family k) (compared_with r k given e)
  fits_key type_of e key form defined =
      fits_bound (compared_with r k given e) (subst (tree.IsOn 0 k) (equal_probe e form) (stands r k given 0 type_of key e (as_ordered e form) defined))
    where
      fits_bound : (v : Value) → tree.IsOn 0 k (Bound (record { col = 0; op = Eq; value = v })) → IsOfFamily (key_family k) v
      fits_bound v on = on.fits.1

  -- a value equals it where the condition is True
  pub equals_true : (own : ColNo → Value) (v : Value) → v ≡ own k.col → (e : Cond) → has_key_form Hash r k e ≡ true → IsDefined (value_beside r own given) e
      → is_true (truth_of_op Eq v (compared_with r k given e)) ≡ is_true (truth_at (value_beside r own given) e)
  equals_true own v at e form defined =
      ap (λ (p : Probe). tree.meets p (v ∷ [])) (sym (equal_probe e form))
      ∙ meets_true r k given 0 own (v ∷ []) at e (as_ordered e form) defined

-- values that are equal tie in the order of the key
module _ (k : IndexKey) (hashes : is_some (number_in (key_family k) Hash Eq) ≡ true) (v : Value) (fits : IsOfFamily (key_family k) v) where
  abbrev equals : Held → Bool
  equals h = is_true (truth_of_op Eq h.value v)

  known_or_null : (u : Value) → (u ≡ Null) ⊎ IsKnown u
  known_or_null Null = inl refl
  known_or_null (Int n) = inr tt
  known_or_null (Flag b) = inr tt
  known_or_null (String t) = inr tt

  alone : (h : Held) → IsOfFamily (key_family k) h.value → held.IsLawfulHash (record { key = k; held = h ∷ [] })
  alone h fh = record {
    hashes = hashes;
    fits = all_from (λ (x : Held). IsOfFamily (key_family k) x.value) (h ∷ []) (λ x i. only x i);
    order = pairs_all (λ x y. IsFalse (is_gt (held_order k x y))) (h ∷ []) (λ x y b. ⊎_elim (λ (two : (x ≡ h) × IsIn y []). absurd two.1) (λ (none : ⊥). absurd none) b);
  }
    where
      only : (x : Held) → IsIn x (h ∷ []) → IsOfFamily (key_family k) x.value
      only x (inl same) = subst (λ (y : Held). IsOfFamily (key_family k) y.value) (sym same) fh
      only x (inr none) = absurd none

  taken : (h : Held) (b : Bool) → map (λ (x : Held). x.row) (cond b (h ∷ []) []) ≡ h.row ∷ [] → b ≡ true
  taken h true e = refl
  taken h false e = cc

  is_equal : (x : Ordering) → is_eq x ≡ true → x ≡ Equal
  is_equal Less h = absurd (true≢false (sym h))
  is_equal Equal h = refl
  is_equal Greater h = absurd (true≢false (sym h))

  tie : (h : Held) → IsOfFamily (key_family k) h.value → equals h ≡ true → key_order k h.value v ≡ Equal
  tie h fh t = ⊎_elim
      (λ (null : v ≡ Null). let e : [] ≡ h.row ∷ [] = none_equal v null (h ∷ []) ∙ ap (λ (b : Bool). map (λ (x : Held). x.row) (cond b (h ∷ []) [])) t in cc)
      (λ (known : IsKnown v).
      is_equal (key_order k h.value v)
      (taken h (is_eq (key_order k h.value v)) (ties_equal (record { key = k; held = h ∷ [] }) (alone h fh) v fits known ∙ ap (λ (b : Bool). map (λ (x : Held). x.row) (cond b (h ∷ []) [])) t)))
      (known_or_null v)

  not_after : (x y : Ordering) (m n : ℕ) → x ≡ Equal → m < n → is_gt (ordering_then x (nat_cmp m n)) ≡ false
  not_after x y m n e lt = ap (λ (z : Ordering). is_gt (ordering_then z (nat_cmp m n))) e ∙ ap (λ (b : Bool). is_gt (cond b Less (cond (nat_eq m n) Equal Greater))) (lt-ltb m n lt)

  module _ (hs : List Held) (rising : (x y : Held) → Before x y hs → x.row < y.row) (all : (x : Held) → IsIn x hs → IsOfFamily (key_family k) x.value) where
    kept_in_order : IsInOrder (held_order k) (filter equals hs)
    kept_in_order = pairs_all (λ x y. IsFalse (is_gt (held_order k x y))) (filter equals hs) (λ x y b.
        let xi = in_filter equals hs x (earlier_in x y (filter equals hs) b) in
        let yi = in_filter equals hs y (later_in x y (filter equals hs) b) in
        let values : key_order k x.value y.value ≡ Equal =
        (key_total k).congr x.value v y.value (tie x (all x xi.0) xi.1) ∙ (key_total k).antisymm v y.value ∙ ap ordering_reverse (tie y (all y yi.0) yi.1) in
        not_after (key_order k x.value y.value) Equal x.row y.row values (rising x y (before_filter equals hs x y b)))

    pub equal_rows : rows_equal v (in_order (held_order k) hs) ≡ map (λ (x : Held). x.row) (filter equals hs)
    equal_rows = ap (map (λ (x : Held). x.row)) (filter-in_order (held_order k) (held_total k) equals hs ∙ in_order_fixed (held_order k) (held_total k) (filter equals hs) kept_in_order)

-- the entries of a hash index stand by row
before_map : {A B : Type 0} (f : A → B) (xs : List A) (x y : B) → Before x y (map f xs) → (a : A) × (b : A) × Before a b xs × (x ≡ f a) × (y ≡ f b)
before_map f [] x y h = absurd h
before_map f (z ∷ zs) x y (inl h) = let w = in_map f zs y h.1 in (z, w.0, inl (refl, w.1), h.0, w.2)
before_map f (z ∷ zs) x y (inr h) = let w = before_map f zs x y h in (w.0, w.1, inr w.2, w.3, w.4)

before_range : (a m x y : ℕ) → Before x y (range_with_len a m) → (a ≤ x) × (x < y)
before_range a zero x y h = absurd h
before_range a (suc m) x y (inl h) = let later = from_range (a + 1) m y h.1 in let e = h.0 in (omega (arith, e), omega (arith, e, later))
  where
    from_range : (a m n : ℕ) → IsIn n (range_with_len a m) → a ≤ n
    from_range a zero n i = absurd i
    from_range a (suc m) n (inl same) = omega (arith, same)
    from_range a (suc m) n (inr i) = let later = from_range (a + 1) m n i in omega (arith, later)
before_range a (suc m) x y (inr h) = let w = before_range (a + 1) m x y h in let low = w.0 in (omega (arith, low), w.1)

pub entries_rise : (d : Index) (rows : List Values) → d.method ≡ Hash → (x y : Held) → Before x y (map held_of (entries_over d rows)) → x.row < y.row
entries_rise d rows is x y b =
    let listed = filter (λ n. meets_predicate d.predicate (slice_index_or rows n [])) (range_with_len 0 (length rows)) in
    let plain : entries_over d rows ≡ map (entry d rows) listed = ap (λ (m : Method). ordered m d.keys (map (entry d rows) listed)) is in
    let one = before_map held_of (map (entry d rows) listed) x y (subst (λ (l : List IndexEntry). Before x y (map held_of l)) plain b) in
    let two = before_map (entry d rows) listed one.0 one.1 one.2 in
    let numbers = before_range 0 (length rows) two.0 two.1 (before_filter (λ n. meets_predicate d.predicate (slice_index_or rows n [])) (range_with_len 0 (length rows)) two.0 two.1 two.2) in
    let lt = numbers.1 in
    let left : x.row ≡ two.0 = ap (λ (h : Held). h.row) one.3 ∙ ap (λ (e : IndexEntry). e.row) two.3 in
    let right : y.row ≡ two.1 = ap (λ (h : Held). h.row) one.4 ∙ ap (λ (e : IndexEntry). e.row) two.4 in
    omega (arith, left, right, lt)
