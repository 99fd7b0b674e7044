-- The value of a column among the values of some columns, found from the left.
use Rattle.std.proofs.Common.{Some, slice_get, drop_of_length-le, ◌≡◌, ◌+◌, ◌≤◌, ◌<◌, ℕ, Bool, true, false, cond, ◌||◌, nat_eq, List, [], ◌∷◌, drop, length, get_or, refl, sym, ap, ◌∙◌, subst, arith}
use Rattle.std.specs.List.{list_any}
use Rattle.std.proofs.lemmas.Bool.{eq-eqb, ne_eqb, true≢false}
use Rattle.std.proofs.lemmas.List.{drop_more, get_or-map, length-map}
use Rattle.std.proofs.lemmas.Option.{get_or_from_slice_get}
use Rattle.opfamily.specs.declared.classes.IndexKey.{IndexKey}
use Rattle.pg_base.specs.declared.numbers.ColNo.{ColNo}
use Rattle.pg_value.specs.declared.value.Value.{Value}
use Rattle.pg_value.specs.declared.value.Value.TheVariants.{Null}
use Rattle.opfamily.specs.KeyOrder.{IndexEntry}
use Rattle.catalog.specs.Indexes.{Index}
use Rattle.scan_probes.specs.work.Values.{HasEntryValue, key_columns, value_among, value_in_entry}

abbrev is_same : ColNo → ColNo → Bool
is_same c n = nat_eq c.0 n.0

-- from a place on
pub record IsSought (ns : List ColNo) (vs : List Value) (other : Value) (c : ColNo) (k : ℕ) (rest : Bool) (found : Value) : Type 0 where
  pub value : value_among (drop k ns) (drop k vs) other c ≡ found
  pub held : list_any (is_same c) (drop k ns) || rest ≡ true

module _ (ns : List ColNo) (vs : List Value) (other : Value) (c : ColNo) (k : ℕ) (rest : Bool) (found : Value) (n : ColNo) (v : Value) (in_ns : k < length ns) (in_vs : k < length vs) where
  -- one step: at the column its value is found, else it is sought among those behind
  pub sought_here : IsSought ns vs other c k rest found → n ≡ get_or ns k n → nat_eq c.0 n.0 ≡ true → v ≡ get_or vs k v → v ≡ found
  sought_here s is same at =
      let split : value_among (get_or ns k n ∷ drop (k + 1) ns) (get_or vs k v ∷ drop (k + 1) vs) other c ≡ found = subst (λ (xs : List ColNo). value_among xs (get_or vs k v ∷ drop (k + 1) vs) other c ≡ found) (drop_more ns k n in_ns) (subst (λ (xs : List Value). value_among (drop k ns) xs other c ≡ found) (drop_more vs k v in_vs) s.value) in
      let test : nat_eq c.0 (get_or ns k n).0 ≡ true = ap (λ (m : ColNo). nat_eq c.0 m.0) (sym is) ∙ same in
      at ∙ ap (λ (b : Bool). cond b (get_or vs k v) (value_among (drop (k + 1) ns) (drop (k + 1) vs) other c)) (sym test) ∙ split

  pub sought_next : IsSought ns vs other c k rest found → n ≡ get_or ns k n → nat_eq c.0 n.0 ≡ false → IsSought ns vs other c (k + 1) rest found
  sought_next s is differ =
      let test : nat_eq c.0 (get_or ns k n).0 ≡ false = ap (λ (m : ColNo). nat_eq c.0 m.0) (sym is) ∙ differ in
      let split : value_among (get_or ns k n ∷ drop (k + 1) ns) (get_or vs k v ∷ drop (k + 1) vs) other c ≡ found = subst (λ (xs : List ColNo). value_among xs (get_or vs k v ∷ drop (k + 1) vs) other c ≡ found) (drop_more ns k n in_ns) (subst (λ (xs : List Value). value_among (drop k ns) xs other c ≡ found) (drop_more vs k v in_vs) s.value) in
      let any : (nat_eq c.0 (get_or ns k n).0 || list_any (is_same c) (drop (k + 1) ns)) || rest ≡ true = subst (λ (xs : List ColNo). list_any (is_same c) xs || rest ≡ true) (drop_more ns k n in_ns) s.held in
      record {
        value = ap (λ (b : Bool). cond b (get_or vs k v) (value_among (drop (k + 1) ns) (drop (k + 1) vs) other c)) (sym test) ∙ split;
        held = ap (λ (b : Bool). (b || list_any (is_same c) (drop (k + 1) ns)) || rest) (sym test) ∙ any;
      }

module _ (d : Index) (e : IndexEntry) (c : ColNo) (has : HasEntryValue d e c) where
  abbrev any_included : Bool
  any_included = list_any (is_same c) d.include

  abbrev included : Value
  included = value_among d.include e.include Null c

  abbrev IsKeySought : ℕ → Type 0
  IsKeySought n = IsSought (key_columns d) e.keys included c n any_included (value_in_entry d e c)

  abbrev IsIncludedSought : ℕ → Type 0
  IsIncludedSought n = IsSought d.include e.include Null c n false (value_in_entry d e c)

  pub keys_begin : IsKeySought 0
  keys_begin = record { value = refl; held = has.held }

  module _ (n : ℕ) (k : IndexKey) (lt : n < length d.keys) (is : k ≡ get_or d.keys n k) (s : IsKeySought n) where
    in_columns : n < length (key_columns d)
    in_columns = let long = length-map d.keys (λ (k : IndexKey). k.col) in omega (arith, long, lt)

    in_values : n < length e.keys
    in_values = let long = has.keys in omega (arith, long, lt)

    column_is : k.col ≡ get_or (key_columns d) n k.col
    column_is = ap (λ (k : IndexKey). k.col) is ∙ sym (get_or-map (λ (k : IndexKey). k.col) d.keys n k k.col lt)

    pub key_found : (v : Value) → slice_get e.keys n ≡ Some v → k.col.0 ≡ c.0 → v ≡ value_in_entry d e c
    key_found v at same =
        sought_here (key_columns d) e.keys included c n any_included (value_in_entry d e c) k.col v in_columns in_values s column_is (eq-eqb c.0 k.col.0 (sym same)) (sym (get_or_from_slice_get e.keys n v v at))

    pub key_passed : (k.col.0 ≡ c.0 → ⊥) → IsKeySought (n + 1)
    key_passed differ =
        sought_next (key_columns d) e.keys included c n any_included (value_in_entry d e c) k.col Null in_columns in_values s column_is (ne_eqb c.0 k.col.0 (λ same. differ (sym same)))

  none_left : (n : ℕ) → length (key_columns d) ≤ n → IsKeySought n → IsIncludedSought 0
  none_left n le s =
      let none : drop n (key_columns d) ≡ [] = drop_of_length-le (key_columns d) le in
      record {
        value = subst (λ (xs : List ColNo). value_among xs (drop n e.keys) included c ≡ value_in_entry d e c) none s.value;
        held = or_false any_included (subst (λ (xs : List ColNo). list_any (is_same c) xs || any_included ≡ true) none s.held);
      }
    where
      or_false : (b : Bool) → b ≡ true → b || false ≡ true
      or_false true h = refl
      or_false false h = h

  pub keys_end : (n : ℕ) → length d.keys ≤ n → IsKeySought n → IsIncludedSought 0
  keys_end n le s = none_left n (let long = length-map d.keys (λ (k : IndexKey). k.col) in omega (arith, long, le)) s

  module _ (n : ℕ) (m : ColNo) (lt : n < length d.include) (is : m ≡ get_or d.include n m) (s : IsIncludedSought n) where
    in_included : n < length e.include
    in_included = let long = has.include in omega (arith, long, lt)

    pub included_found : (v : Value) → slice_get e.include n ≡ Some v → m.0 ≡ c.0 → v ≡ value_in_entry d e c
    included_found v at same =
        sought_here d.include e.include Null c n false (value_in_entry d e c) m v lt in_included s is (eq-eqb c.0 m.0 (sym same)) (sym (get_or_from_slice_get e.include n v v at))

    pub included_passed : (m.0 ≡ c.0 → ⊥) → IsIncludedSought (n + 1)
    included_passed differ =
        sought_next d.include e.include Null c n false (value_in_entry d e c) m Null lt in_included s is (ne_eqb c.0 m.0 (λ same. differ (sym same)))

  pub never_ends : (n : ℕ) → length d.include ≤ n → IsIncludedSought n → ⊥
  never_ends n le s =
      let none : drop n d.include ≡ [] = drop_of_length-le d.include le in
      true≢false (sym (subst (λ (xs : List ColNo). list_any (is_same c) xs || false ≡ true) none s.held))
