-- The rows whose value equals one: those of its slot, none where it has no slot.
use Rattle.std.proofs.Common.{◌≡◌, ◌≢◌, ℕ, zero, suc, ◌<◌, Bool, true, false, cond, List, [], ◌∷◌, ◌++◌, length, map, filter, get_or, refl, sym, subst, ap, ap₂, ◌∙◌, arith, Ordering, Equal}
use Rattle.std.specs.Prelude.{IsFalse}
use Rattle.std.specs.Ordering.{is_eq, is_gt, nat_cmp, ordering_then}
use Rattle.std.proofs.lemmas.List.{append-nil, get_or-map, length-map}
use Rattle.std.proofs.lemmas.List.Elements.{filter-append}
use Rattle.pg_base.specs.declared.numbers.Tid.{Tid}
use Rattle.pg_value.specs.declared.value.Value.{Value}
use Rattle.pg_value.specs.work.Order.{IsOfFamily}
use Rattle.pg_value.specs.Sorting.{IsInOrder, in_order}
use Rattle.pg_value.proofs.SortingLemmas.{in_order_fixed, in_order_is, All-in_order}
use Rattle.opfamily.specs.declared.classes.IndexKey.{IndexKey}
use Rattle.opfamily.specs.KeyOrder.{key_family, key_order}
use Rattle.hash_index.specs.work.Held.{Held, held_order, IsKnown, IsLawfulHash, rows_equal}
use Rattle.hash_index.specs.work.Groups.{AreRising, RowsOf, group_at, held_by, held_in, held_of, value_at}
use Rattle.hash_index.specs.work.Chains.{AreChained}
use Rattle.hash_index.proofs.ChainLemmas.{sorted_filter}
use Rattle.hash_index.proofs.GroupLemmas.{held}
use Rattle.hash_index.proofs.HeldLemmas.{held_total, key_same, ties_equal}
use Rattle.hash_index.proofs.PlaceLemmas.{Fits, held_fit}
use Rattle.hash_index.proofs.TieLemmas.{same_values}

abbrev tied : IndexKey → Value → Held → Bool
tied k v h = is_eq (key_order k h.value v)

-- a value's rows all tie, or none does
all_of : (k : IndexKey) (v w : Value) (ts : List Tid) → is_eq (key_order k w v) ≡ true → filter (tied k v) (map (held w) ts) ≡ map (held w) ts
all_of k v w [] e = refl
all_of k v w (t ∷ ts) e = ap (λ b. cond b (held w t ∷ filter (tied k v) (map (held w) ts)) (filter (tied k v) (map (held w) ts))) e ∙ ap (λ l. held w t ∷ l) (all_of k v w ts e)

none_of : (k : IndexKey) (v w : Value) (ts : List Tid) → is_eq (key_order k w v) ≡ false → filter (tied k v) (map (held w) ts) ≡ []
none_of k v w [] e = refl
none_of k v w (t ∷ ts) e = ap (λ b. cond b (held w t ∷ filter (tied k v) (map (held w) ts)) (filter (tied k v) (map (held w) ts))) e ∙ none_of k v w ts e

none_by : (k : IndexKey) (v : Value) (gs : List RowsOf) → ((s : ℕ) → is_eq (key_order k (value_at gs s) v) ≡ false) → filter (tied k v) (held_by gs) ≡ []
none_by k v [] none = refl
none_by k v (g ∷ gs) none = filter-append (tied k v) (held_of g) (held_by gs) ∙ ap₂ (λ a b. a ++ b) (none_of k v g.value g.tids (none 0)) (none_by k v gs (λ s. none (suc s)))

one_by : (k : IndexKey) (v : Value) (gs : List RowsOf) (s : ℕ) → s < length gs → is_eq (key_order k (value_at gs s) v) ≡ true → ((t : ℕ) → t ≢ s → is_eq (key_order k (value_at gs t) v) ≡ false) → filter (tied k v) (held_by gs) ≡ held_of (group_at gs s)
one_by k v [] s lt e other = absurd (omega arith)
one_by k v (g ∷ gs) zero lt e other =
    filter-append (tied k v) (held_of g) (held_by gs)
    ∙ ap₂ (λ a b. a ++ b) (all_of k v g.value g.tids e) (none_by k v gs (λ t. other (suc t) (λ same. absurd (omega (arith, same)))))
    ∙ append-nil (held_of g)
one_by k v (g ∷ gs) (suc s) lt e other =
    filter-append (tied k v) (held_of g) (held_by gs)
    ∙ ap₂ (λ a b. a ++ b) (none_of k v g.value g.tids (other 0 (λ same. absurd (omega (arith, same))))) (one_by k v gs s (omega arith) e (λ t ne. other (suc t) (λ same. ne (omega (arith, same)))))

-- a value's rows stand in order
then_second : (o r : Ordering) → o ≡ Equal → is_gt r ≡ false → is_gt (ordering_then o r) ≡ false
then_second o r e f = ap (λ p. is_gt (ordering_then p r)) e ∙ f

pub of_in_order : (k : IndexKey) (g : RowsOf) → AreRising g.tids → IsInOrder (held_order k) (held_of g)
of_in_order k g rising i j d lt within =
    let many : length (held_of g) ≡ length g.tids = length-map g.tids (held g.value) in
    let t : Tid = record { 0 = d.row } in
    subst (λ (h : Held). IsFalse (is_gt (held_order k h (get_or (held_of g) j d)))) (sym (get_or-map (held g.value) g.tids i t d (omega arith)))
    (subst (λ (h : Held). IsFalse (is_gt (held_order k (held g.value (get_or g.tids i t)) h))) (sym (get_or-map (held g.value) g.tids j t d (omega arith)))
    (then_second (key_order k g.value g.value) (nat_cmp (get_or g.tids i t).0 (get_or g.tids j t).0) (key_same k g.value) (rising i j t lt (omega arith))))

-- what contracts see is lawful
pub lawful : (k : IndexKey) (heads : List ℕ) (gs : List RowsOf) (lists : List (List ℕ)) → AreChained k heads gs lists → IsLawfulHash (record { key = k; held = held_in k gs })
lawful k heads gs lists chained = record {
  hashes = chained.hashes;
  fits = All-in_order (held_order k) (held_total k) (Fits k) (held_by gs) (held_fit k gs chained.fits);
  order = in_order_is (held_order k) (held_total k) (held_by gs);
}

abbrev rows_of : List Held → List ℕ
rows_of hs = map (λ (h : Held). h.row) hs

numbers_of : (v : Value) (ts : List Tid) → map (λ (t : Tid). t.0) ts ≡ rows_of (map (held v) ts)
numbers_of v [] = refl
numbers_of v (t ∷ ts) = ap (λ l. t.0 ∷ l) (numbers_of v ts)

module _ (k : IndexKey) (heads : List ℕ) (gs : List RowsOf) (lists : List (List ℕ)) (chained : AreChained k heads gs lists) (v : Value) (known : IsKnown v) (fits : IsOfFamily (key_family k) v) where
  equal_rows : (hs : List Held) → filter (tied k v) (held_by gs) ≡ hs → IsInOrder (held_order k) hs → rows_of hs ≡ rows_equal v (held_in k gs)
  equal_rows hs e order =
      ap rows_of (sym (in_order_fixed (held_order k) (held_total k) hs order) ∙ ap (in_order (held_order k)) (sym e) ∙ sym (sorted_filter (held_order k) (held_total k) (tied k v) (held_by gs)))
      ∙ ties_equal (record { key = k; held = held_in k gs }) (lawful k heads gs lists chained) v fits known

  -- a value whose slot is another one does not tie
  other_ties : (s t : ℕ) → value_at gs s ≡ v → t ≢ s → (b : Bool) → is_eq (key_order k (value_at gs t) v) ≡ b → b ≡ false
  other_ties s t same ne true e =
      absurd (ne (sym (chained.apart s t (subst IsKnown (sym same) known) (same ∙ sym (same_values k chained.hashes (value_at gs t) v (chained.fits t) fits e)))))
  other_ties s t same ne false e = refl

  none_ties : (t : ℕ) → value_at gs t ≢ v → (b : Bool) → is_eq (key_order k (value_at gs t) v) ≡ b → b ≡ false
  none_ties t ne true e = absurd (ne (same_values k chained.hashes (value_at gs t) v (chained.fits t) fits e))
  none_ties t ne false e = refl

  self_ties : (s : ℕ) → value_at gs s ≡ v → is_eq (key_order k (value_at gs s) v) ≡ true
  self_ties s same = ap (λ w. is_eq (key_order k w v)) same ∙ ap is_eq (key_same k v)

  pub found : (s : ℕ) → s < length gs → value_at gs s ≡ v → AreRising (group_at gs s).tids → map (λ (t : Tid). t.0) (group_at gs s).tids ≡ rows_equal v (held_in k gs)
  found s lt same rising =
      numbers_of (value_at gs s) (group_at gs s).tids
      ∙ equal_rows (held_of (group_at gs s)) (one_by k v gs s lt (self_ties s same) (λ t ne. other_ties s t same ne (is_eq (key_order k (value_at gs t) v)) refl)) (of_in_order k (group_at gs s) rising)

  pub not_found : ((s : ℕ) → value_at gs s ≢ v) → [] ≡ rows_equal v (held_in k gs)
  not_found none = equal_rows [] (none_by k v gs (λ t. none_ties t (none t) (is_eq (key_order k (value_at gs t) v)) refl)) (λ i j d lt within. absurd (omega arith))
