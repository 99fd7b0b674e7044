-- Built indexes, one after another with the entries of more rows of their table, or without them again.
use Rattle.std.proofs.Common.{◌≡◌, ◌<◌, ◌≤◌, ◌+◌, ◌*◌, ℕ, Bool, true, false, cond, nat_eq, zero, suc, List, [], ◌∷◌, Result, Ok, Err, length, get_or, map, set, take, subst, sym, ap, ◌∙◌, arith}
use Rattle.std.proofs.Math.ListN as list
use Rattle.std.proofs.Math.Nat.{mul-le-mul_left}
use Rattle.std.proofs.Math.Seq.{map-set_same}
use Rattle.std.proofs.lemmas.Bool.{eqb-false, eqb-true, false≢true, true≢false}
use Rattle.std.proofs.lemmas.List.{get_or-set_other, get_or-set_same, length-append, length-map, length-take-le, map-set, take_all, take_more}
use Rattle.pg_base.specs.declared.numbers.IndexNo.{IndexNo}
use Rattle.pg_base.specs.declared.numbers.TableNo.{TableNo}
use Rattle.heap.specs.Stored.{Stored, Values}
use Rattle.std.specs.Result.{OnErr, OnOk, is_err}
use Rattle.pg_value.specs.declared.columns.Column.{Column}
use Rattle.catalog.specs.Contents.{Contents, IsLawful, NamedIndex, no_index, no_table, numbers_from, table_at}
use Rattle.catalog.specs.Indexes.{Index, IsLawfulIndex}
use Rattle.catalog.proofs.NumberLemmas.{numbers-same, numbers-other}
use Rattle.sql_query.specs.Worlds.{nothing_stored}
use Rattle.store.specs.declared.built.BuiltIndex.{BuiltIndex}
use Rattle.store.specs.work.Kept.{Built, below, built_of, built_over, cut_back, first_rows}
use Rattle.store.specs.work.View.{built}
use Rattle.store.proofs.BuiltLemmas.{below-built}
use Rattle.store.proofs.SwapLemmas.{swapped, swapped-at, set-swapped, same-swapped, cut-at, cut-own, cut-other, cut-swapped}

-- whether the index of a number is of a table
pub of-table : (xs : List NamedIndex) (n : ℕ) (t : TableNo) (d : Index) → d ≡ (get_or xs n no_index).index → d.table.0 ≡ t.0 → (get_or xs n no_index).index.table.0 ≡ t.0
of-table xs n t d is same = sym (ap (λ (x : Index). x.table.0) is) ∙ same

pub of-other : (xs : List NamedIndex) (n : ℕ) (t : TableNo) (d : Index) → d ≡ (get_or xs n no_index).index → (d.table.0 ≡ t.0 → ⊥) → (get_or xs n no_index).index.table.0 ≡ t.0 → ⊥
of-other xs n t d is other same = other (ap (λ (x : Index). x.table.0) is ∙ same)

module _ {C F L : Type 0} where
  -- the element that is read
  read : (is : List (BuiltIndex C F L)) (n : ℕ) (old : BuiltIndex C F L) → old ≡ get_or is n old → built old ≡ get_or (map built is) n (built old)
  read is n old at = ap built at ∙ sym (list.get_or-map built is n old)

  -- cut back one after another
  module _ (t : TableNo) (n : ℕ) (xs : List NamedIndex) (bs : List Built) (is : List (BuiltIndex C F L)) (j : ℕ) (lt : j < length xs) (cut : map built is ≡ cut_back t n (take j xs) bs) where
    pub cut-one : (get_or xs j no_index).index.table.0 ≡ t.0 → (old new : BuiltIndex C F L) → old ≡ get_or is j old → built new ≡ below n (built old) → map built (set is j new) ≡ cut_back t n (take (j + 1) xs) bs
    cut-one same old new at shorter =
        let here : built old ≡ get_or bs j (built old) = read is j old at ∙ ap (λ l. get_or l j (built old)) cut ∙ cut-at t n xs bs j (built old) in
        map-set built is j new
        ∙ ap (λ l. set l j (built new)) cut
        ∙ ap (set (cut_back t n (take j xs) bs) j) (shorter ∙ ap (below n) here)
        ∙ cut-own t n xs bs j no_index (built old) lt same

    pub cut-none : ((get_or xs j no_index).index.table.0 ≡ t.0 → ⊥) → map built is ≡ cut_back t n (take (j + 1) xs) bs
    cut-none other = cut ∙ cut-other t n xs bs j no_index lt other

-- grown one after another
module _ (t : TableNo) (before : ℕ) (stored : List Stored) (within : t.0 < length stored) (le : before ≤ length (get_or stored t.0 nothing_stored).rows) where
  abbrev full : NamedIndex → Built
  full x = built_over stored x

  abbrev part : NamedIndex → Built
  part x = built_over (first_rows before t stored) x

  abbrev rows : List Values
  rows = (get_or stored t.0 nothing_stored).rows

  full-is : (x : NamedIndex) → x.index.table.0 ≡ t.0 → full x ≡ built_of x.index rows
  full-is x same = ap (λ k. built_of x.index (get_or stored k nothing_stored).rows) same

  part-is : (x : NamedIndex) → x.index.table.0 ≡ t.0 → part x ≡ built_of x.index (take before rows)
  part-is x same =
      ap (λ k. built_of x.index (get_or (first_rows before t stored) k nothing_stored).rows) same
      ∙ ap (λ (s : Stored). built_of x.index s.rows) (get_or-set_same stored t.0 _ nothing_stored within)

  other-is : (x : NamedIndex) → (x.index.table.0 ≡ t.0 → ⊥) → full x ≡ part x
  other-is x other = ap (λ (s : Stored). built_of x.index s.rows) (sym (get_or-set_other stored t.0 x.index.table.0 _ nothing_stored other))

  cut-full : (x : NamedIndex) → x.index.table.0 ≡ t.0 → below before (full x) ≡ part x
  cut-full x same = ap (below before) (full-is x same) ∙ below-built x.index rows before le ∙ sym (part-is x same)

  cut-part : (x : NamedIndex) → x.index.table.0 ≡ t.0 → below before (part x) ≡ part x
  cut-part x same =
      let long : length (take before rows) ≡ before = length-take-le before rows le in
      ap (below before) (part-is x same) ∙ below-built x.index (take before rows) before (omega arith)
      ∙ ap (built_of x.index) (take_all before (take before rows) (omega arith)) ∙ sym (part-is x same)

  -- what a refused growth leaves is cut back to what was there
  pub cut-all : (xs : List NamedIndex) (k : ℕ) (bs : List Built) → bs ≡ swapped full part xs k → cut_back t before xs bs ≡ map part xs
  cut-all xs k bs is =
      ap (cut_back t before xs) is
      ∙ cut-swapped t before full part (λ x e. let same = eqb-true x.index.table.0 t.0 e in (cut-full x same, cut-part x same)) (λ x e. other-is x (eqb-false x.index.table.0 t.0 e)) xs k

  module _ {C F L : Type 0} (xs : List NamedIndex) (is : List (BuiltIndex C F L)) (n : ℕ) (lt : n < length xs) (sofar : map built is ≡ swapped full part xs n) where
    pub next-other : ((get_or xs n no_index).index.table.0 ≡ t.0 → ⊥) → map built is ≡ swapped full part xs (n + 1)
    next-other other = sofar ∙ same-swapped full part xs n no_index lt (sym (other-is (get_or xs n no_index) other))

    module _ (same : (get_or xs n no_index).index.table.0 ≡ t.0) (d : Index) (is-index : d ≡ (get_or xs n no_index).index) (heap : Stored) (is-heap : heap ≡ get_or stored t.0 nothing_stored) where
      pub index-before : (old : BuiltIndex C F L) → old ≡ get_or is n old → built old ≡ built_of d (take before heap.rows)
      index-before old at =
          read is n old at ∙ ap (λ l. get_or l n (built old)) sofar ∙ swapped-at full part xs n no_index (built old) lt ∙ part-is (get_or xs n no_index) same
          ∙ ap (λ (x : Index). built_of x (take before rows)) (sym is-index) ∙ ap (λ (s : Stored). built_of d (take before s.rows)) (sym is-heap)

      pub next-own : (new : BuiltIndex C F L) → built new ≡ built_of d heap.rows → map built (set is n new) ≡ swapped full part xs (n + 1)
      next-own new grown =
          map-set built is n new
          ∙ ap (λ l. set l n (built new)) sofar
          ∙ ap (set (swapped full part xs n) n) (grown ∙ ap (λ (s : Stored). built_of d s.rows) is-heap ∙ ap (λ (x : Index). built_of x rows) is-index ∙ sym (full-is (get_or xs n no_index) same))
          ∙ set-swapped full part xs n no_index lt

    pub not-grown : (old new : BuiltIndex C F L) → old ≡ get_or is n old → built new ≡ built old → map built (set is n new) ≡ swapped full part xs n
    not-grown old new at kept = map-set_same built is n new old (kept ∙ ap built at) ∙ sofar

-- how many indexes of the table there are so far
pub count-own : (xs : List NamedIndex) (t : TableNo) (n : ℕ) → n < length xs → (get_or xs n no_index).index.table.0 ≡ t.0 → length (numbers_from 0 (take (n + 1) xs) t) ≡ length (numbers_from 0 (take n xs) t) + 1
count-own xs t n lt same =
    ap (λ l. length (numbers_from 0 l t)) (take_more xs n no_index lt)
    ∙ ap (λ l. length l) (numbers-same 0 (take n xs) (get_or xs n no_index) t same)
    ∙ length-append (numbers_from 0 (take n xs) t) _

pub count-other : (xs : List NamedIndex) (t : TableNo) (n : ℕ) → n < length xs → ((get_or xs n no_index).index.table.0 ≡ t.0 → ⊥) → length (numbers_from 0 (take (n + 1) xs) t) ≡ length (numbers_from 0 (take n xs) t)
count-other xs t n lt other =
    ap (λ l. length (numbers_from 0 l t)) (take_more xs n no_index lt)
    ∙ ap (λ l. length l) (numbers-other 0 (take n xs) (get_or xs n no_index) t other)

pub looks-more : (a b c m p k : ℕ) → b ≡ a + m * k → c ≡ b + k → p ≡ m + 1 → c ≡ a + p * k
looks-more a b c m p k e f g =
    let step : (m + 1) * k ≡ m * k + k = omega arith in
    let all : p * k ≡ (m + 1) * k = ap (λ (x : ℕ). x * k) g in
    omega arith

-- fewer indexes of the table stand among the first than among all
own-within : (b : Bool) (i : IndexNo) (is js : List IndexNo) → length is ≤ length js → length (cond b (i ∷ is) is) ≤ length (cond b (i ∷ js) js)
own-within true i is js le = omega (arith, le)
own-within false i is js le = le

pub counts-within : (n : ℕ) (xs : List NamedIndex) (t : TableNo) (k : ℕ) → length (numbers_from n (take k xs) t) ≤ length (numbers_from n xs t)
counts-within n [] t zero = omega arith
counts-within n [] t (suc k) = omega arith
counts-within n (x ∷ xs) t zero = omega arith
counts-within n (x ∷ xs) t (suc k) =
    own-within (nat_eq x.index.table.0 t.0) (record { 0 = n }) (numbers_from (n + 1) (take k xs) t) (numbers_from (n + 1) xs t) (counts-within (n + 1) xs t k)

-- looks that stop at an index are no more than those at all
pub looks-within : (a b c m p k : ℕ) → b ≡ a + m * k → c ≤ b + k → m + 1 ≤ p → c ≤ a + p * k
looks-within a b c m p k e f g =
    let step : k * (m + 1) ≡ m * k + k = omega arith in
    let all = mul-le-mul_left k g in
    let same : k * p ≡ p * k = omega arith in
    omega (arith, e, f, step, all, same)

-- two lists with the same images are as long
pub mapped-long : {A B D : Type 0} (f : A → D) (g : B → D) (xs : List A) (ys : List B) → map f xs ≡ map g ys → length xs ≡ length ys
mapped-long f g xs ys e = sym (length-map xs f) ∙ ap (λ l. length l) e ∙ length-map ys g

-- an index of a lawful catalogue
pub lawful-index : (c : Contents) → IsLawful c → (n : ℕ) (t : TableNo) (d : Index) → n < length c.indexes → d ≡ (get_or c.indexes n no_index).index → d.table.0 ≡ t.0 → (columns : List Column) → columns ≡ (table_at c t).columns
    → IsLawfulIndex columns d
lawful-index c h n t d lt is same columns of =
    let here = subst (λ (x : Index). IsLawfulIndex (table_at c x.table).columns x) (sym is) (h.indexes n no_index lt).index in
    subst (λ (cs : List Column). IsLawfulIndex cs d) (sym of) (subst (λ k. IsLawfulIndex (get_or c.tables k no_table).columns d) same here)

pub at_err : {T E : Type 0} (P : Type 0) (r : Result T E) → is_err r ≡ true → OnErr r P → P
at_err P (Ok x) e h = absurd (false≢true e)
at_err P (Err x) e h = h
