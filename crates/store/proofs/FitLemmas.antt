-- What an index has of lawful rows: values that are of its keys' families.
use Rattle.std.proofs.Common.{cond as when, ◌≡◌, ◌<◌, ◌≤◌, ◌+◌, ◌-◌, ◌&&◌, ◌||◌, ℕ, zero, suc, Bool, true, false, List, [], ◌∷◌, Option, Some, length, get_or, map, refl, sym, subst, arith, All}
use Rattle.std.specs.Prelude.{IsTrue, is_some, nat_eq, nat_lt}
use Rattle.std.specs.List.{AllByRecursion}
use Rattle.std.proofs.lemmas.Bool.{and_from, and_parts, false≢true}
use Rattle.std.proofs.lemmas.List.{length-map}
use Rattle.std.proofs.lemmas.List.Elements.{All-from_recursion, recursion_from_All}
use Rattle.std.proofs.lemmas.Slice.Zip.{AllZip-long}
use Rattle.pg_value.specs.declared.columns.Column.{Column}
use Rattle.pg_value.specs.declared.operators.Op.TheVariants.{Eq}
use Rattle.pg_value.specs.declared.value.SqlType.{SqlType}
use Rattle.pg_value.specs.work.Order.{IsOfFamily}
use Rattle.opfamily.specs.Answers.{accepted, family_of, number_in}
use Rattle.opfamily.specs.Table.{class}
use Rattle.opfamily.specs.KeyOrder.{IndexEntry, family_or_integer, first_value, key_family}
use Rattle.opfamily.specs.work.KeyOrder.{AreKeyValues}
use Rattle.opfamily.specs.declared.classes.IndexKey.{IndexKey}
use Rattle.opfamily.specs.declared.classes.Method.{Method}
use Rattle.opfamily.specs.declared.classes.Method.TheVariants.{Hash}
use Rattle.opfamily.specs.declared.classes.OpClass.{OpClass}
use Rattle.opfamily.specs.declared.classes.OpClass.TheVariants.{Int2Ops, Int4Ops, Int8Ops, TextOps, BoolOps, Int2AbsOps, Int4AbsOps, Int8AbsOps, UuidOps, DateOps, TimestampOps, TimestampTzOps, NumericOps}
use Rattle.pg_expr.specs.declared.operand.ColRef.{ColRef}
use Rattle.std.specs.Option.{option_map}
use Rattle.pg_expr.specs.declared.expr.Expr.{Expr}
use Rattle.pg_expr.specs.work.View.{cond}
use Rattle.pg_expr.specs.Columns.{each_column}
use Rattle.pg_expr.specs.Cond.{Cond}
use Rattle.pg_expr.specs.work.Typed.{FitsTypes}
use Rattle.pg_expr.proofs.ColumnLaws.{weaker-each}
use Rattle.eq_classes.proofs.SideLemmas.{type_fits}
use Rattle.heap.specs.Stored.{IsRowOf, IsColumnValue, Values}
use Rattle.catalog.specs.Indexes.{FitsColumns, Index, IsConditionOf, IsKeyOf, IsLawfulIndex, IsPredicateOf, no_column, type_at}
use Rattle.btree_index.specs.work.Tree.{IsEntryOf}
use Rattle.hash_index.specs.work.Held.{Held}
use Rattle.plan_tree.specs.Entries.{cell, entry, meets_predicate}
use Rattle.store.specs.work.Kept.{first_key, found, held_of}
use Rattle.store.proofs.FoundLemmas.{among, among-suc}
use Rattle.pg_base.proofs.ListLemmas.{each-map as each-mapped}
use Rattle.heap.proofs.FitsLemmas.{fits-at}
use Rattle.eq_classes.proofs.DefaultLemmas.{class_fits}

module _ (columns : List Column) (row : Values) (is : IsRowOf columns row) where
  pub wide : length row ≡ length columns
  wide = AllZip-long IsColumnValue columns row is

  -- the columns that the row binds, as those of relation 0
  abbrev binds : ColRef → Bool
  binds x = nat_lt x.col.0 (length columns) && nat_lt x.col.0 (length row)

  columns-bound : (e : Cond) → IsConditionOf columns e → IsTrue (each_column binds e)
  columns-bound e h =
      weaker-each (λ x. nat_eq x.rel.0 0 && nat_lt x.col.0 (length columns)) binds
      (λ x within. let low = (and_parts (nat_eq x.rel.0 0) (nat_lt x.col.0 (length columns)) within).1 in
      and_from (nat_lt x.col.0 (length columns)) (nat_lt x.col.0 (length row)) low (subst (λ n. IsTrue (nat_lt x.col.0 n)) (sym wide) low))
      e h.within

  pub predicate-bound : (p : Option Expr) (e : Expr) → p ≡ Some e → IsPredicateOf columns (option_map cond p) → IsTrue (each_column binds (cond e))
  predicate-bound p e is h = columns-bound (cond e) (subst (λ (q : Option Expr). IsPredicateOf columns (option_map cond q)) is h)

  pub values-fit : FitsTypes (λ x. type_at columns x.col) binds (λ x. cell row x.col)
  values-fit x h = fits-at columns row is x.col.0 no_column

-- the type that a class accepts
or-false : (b : Bool) → b || false ≡ true → b ≡ true
or-false true h = refl
or-false false h = h

pub key-fits : (columns : List Column) (m : Method) (k : IndexKey) (row : Values) → IsKeyOf columns m k → IsRowOf columns row → IsOfFamily (key_family k) (cell row k.col)
unfolding key_family
key-fits columns m k row of is =
    type_fits (family_or_integer (family_of k.class)) (type_at columns k.col) (cell row k.col) (class_fits k.class m (type_at columns k.col) of.class) (fits-at columns row is k.col.0 no_column)

class-hashes : (t : SqlType) (c : OpClass) → accepted c Hash t ≡ true → is_some (number_in (family_or_integer (family_of c)) Hash Eq) ≡ true
class-hashes t Int2Ops h = refl
class-hashes t Int4Ops h = refl
class-hashes t Int8Ops h = refl
class-hashes t TextOps h = refl
class-hashes t BoolOps h = refl
class-hashes t UuidOps h = refl
class-hashes t DateOps h = refl
class-hashes t TimestampOps h = refl
class-hashes t TimestampTzOps h = refl
class-hashes t (NumericOps scale) h = refl
class-hashes t Int2AbsOps h = absurd (false≢true h)
class-hashes t Int4AbsOps h = absurd (false≢true h)
class-hashes t Int8AbsOps h = absurd (false≢true h)

-- a class that accepts a type for hash has `=` for it
pub key-hashes : (t : SqlType) (k : IndexKey) → accepted k.class Hash t ≡ true → is_some (number_in (key_family k) Hash Eq) ≡ true
unfolding key_family
key-hashes t k h = class-hashes t k.class h

-- the values of a lawful row are those of an entry
keys-fit : (columns : List Column) (m : Method) (row : Values) → IsRowOf columns row → (ks : List IndexKey) → AllByRecursion (IsKeyOf columns m) ks → AreKeyValues ks (map (λ (k : IndexKey). cell row k.col) ks)
keys-fit columns m row is [] of = tt
keys-fit columns m row is (k ∷ ks) of = (key-fits columns m k row of.0 is, keys-fit columns m row is ks of.1)

pub entry-fits : (columns : List Column) (d : Index) (rows : List Values) (n : ℕ) → FitsColumns columns d → IsRowOf columns (get_or rows n []) → IsEntryOf d.keys d.include (entry d rows n)
entry-fits columns d rows n fits is = record {
  keys = keys-fit columns d.method (get_or rows n []) is d.keys (recursion_from_All (IsKeyOf columns d.method) d.keys fits.keys);
  include = length-map d.include (cell (get_or rows n []));
}

each-cond : {A : Type 0} (P : A → Type 0) (b : Bool) (x : A) (l : List A) → P x → AllByRecursion P l → AllByRecursion P (when b (x ∷ l) l)
each-cond P true x l p h = (p, h)
each-cond P false x l p h = h

each-among : (P : IndexEntry → Type 0) (d : Index) (rows : List Values) (a n : ℕ) → ((k : ℕ) → k < a + n → P (entry d rows k)) → AllByRecursion P (among d rows a n)
each-among P d rows a zero h = tt
each-among P d rows a (suc n) h =
    subst (AllByRecursion P) (sym (among-suc d rows a n))
    (each-cond P (meets_predicate d.predicate (get_or rows a [])) (entry d rows a) (among d rows (a + 1) n) (h a (omega arith)) (each-among P d rows (a + 1) n (λ k lt. h k (omega arith))))

module _ (columns : List Column) (d : Index) (lawful : IsLawfulIndex columns d) (rows : List Values) (each : All (IsRowOf columns) rows) (from : ℕ) (le : from ≤ length rows) where
  pub found-fits : All (IsEntryOf d.keys d.include) (found d rows from)
  found-fits =
      All-from_recursion (IsEntryOf d.keys d.include) (found d rows from)
      (each-among (IsEntryOf d.keys d.include) d rows from (length rows - from) (λ k lt. entry-fits columns d rows k lawful.fits (each k [] (omega arith))))

-- the values that a hash index holds
key-of-one : (ks : List IndexKey) (row : Values) → 0 < length ks → first_value (map (λ (k : IndexKey). cell row k.col) ks) ≡ cell row (first_key ks).col
key-of-one [] row lt = absurd (omega (arith, lt))
key-of-one (k ∷ ks) row lt = refl

first-of-all : (P : IndexKey → Type 0) (ks : List IndexKey) → 0 < length ks → All P ks → P (first_key ks)
first-of-all P [] lt h = absurd (omega (arith, lt))
first-of-all P (k ∷ ks) lt h = h 0 k (omega arith)

module _ (columns : List Column) (d : Index) (lawful : IsLawfulIndex columns d) where
  pub first-key-is : IsKeyOf columns d.method (first_key d.keys)
  first-key-is = first-of-all (IsKeyOf columns d.method) d.keys lawful.fits.some lawful.fits.keys

  module _ (rows : List Values) (each : All (IsRowOf columns) rows) (from : ℕ) (le : from ≤ length rows) where
    pub held-fits : All (λ (h : Held). IsOfFamily (key_family (first_key d.keys)) h.value) (map held_of (found d rows from))
    held-fits =
        let P : Held → Type 0 = λ (h : Held). IsOfFamily (key_family (first_key d.keys)) h.value in
        All-from_recursion P (map held_of (found d rows from))
        (each-mapped P held_of (found d rows from)
        (each-among (λ (e : IndexEntry). P (held_of e)) d rows from (length rows - from)
        (λ k lt. subst (IsOfFamily (key_family (first_key d.keys))) (sym (key-of-one d.keys (get_or rows k []) lawful.fits.some))
        (key-fits columns d.method (first_key d.keys) (get_or rows k []) first-key-is (each k [] (omega arith))))))

  -- a hash index may be built by the one key
  pub hash-builds : (k : IndexKey) → d.method ≡ Hash → k ≡ get_or d.keys 0 k → is_some (number_in (key_family k) Hash Eq) ≡ true
  hash-builds k hash first =
      let here : IsKeyOf columns d.method k = subst (IsKeyOf columns d.method) (sym first) (lawful.fits.keys 0 k lawful.fits.some) in
      key-hashes (type_at columns k.col) k (subst (λ (m : Method). accepted k.class m (type_at columns k.col) ≡ true) hash here.class)
