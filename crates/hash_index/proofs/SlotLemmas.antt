-- Slots made one after the other, and the chains of the values that they hold.
use Rattle.std.proofs.Common.{◌≡◌, ◌≢◌, ℕ, zero, suc, ◌+◌, ◌-◌, ◌^◌, ◌%◌, ◌<◌, ◌≤◌, Bool, true, false, eqb, List, [], ◌∷◌, ◌++◌, length, Result, Ok, Err, refl, sym, subst, ap, ◌∙◌, arith}
use Rattle.std.specs.Prelude.{All, OnErr}
use Rattle.std.proofs.lemmas.Bool.{eqb-true, eqb-false}
use Rattle.std.proofs.lemmas.List.{get_or_append_left, length-append}
use Rattle.std.proofs.lemmas.List.Elements.{All-append, All-push, All-weaker}
use Rattle.std.proofs.lemmas.Nat.{mod_below}
use Rattle.pg_value.specs.declared.value.Value.{Value}
use Rattle.pg_value.specs.declared.value.Value.TheVariants.{Null}
use Rattle.pg_value.specs.work.Order.{IsOfFamily}
use Rattle.opfamily.specs.declared.classes.IndexKey.{IndexKey}
use Rattle.opfamily.specs.KeyOrder.{key_family}
use Rattle.linked.specs.work.Lists.{AreLists, has, list_of, behind}
use Rattle.hash_index.specs.work.Hash.{hash_of}
use Rattle.hash_index.specs.work.Held.{IsKnown}
use Rattle.hash_index.specs.work.Groups.{RowsOf, blank, value_at}
use Rattle.hash_index.specs.work.Chains.{AreSlots, AreChained, IsWider, head_for, stands_behind}
use Rattle.hash_index.proofs.GroupLemmas.{push_kept, push_last, push_null, push_other, wider_on, wider_push, wider_same}

-- what holds holds of an error
pub on_err : {T E : Type 0} (r : Result T E) (P : Type 0) → P → OnErr r P
on_err (Ok x) P p = tt
on_err (Err e) P p = p

abbrev pub IsBlankAt : List RowsOf → ℕ → Type 0
IsBlankAt gs s = (s < length gs) × (value_at gs s ≡ Null)

pub known_differs : (v : Value) → IsKnown v → v ≡ Null → ⊥
known_differs v known e = subst IsKnown e known

-- a value that is not NULL stands at a slot
pub known_within : (gs : List RowsOf) (s : ℕ) → IsKnown (value_at gs s) → s < length gs
known_within [] s known = absurd known
known_within (g ∷ gs) zero known = omega arith
known_within (g ∷ gs) (suc s) known = omega (arith, known_within gs s known)

-- the slot of a value's bucket
pub head_blank : (heads : List ℕ) (gs : List RowsOf) (lists : List (List ℕ)) (v : Value) → AreSlots heads gs lists → 0 < length heads → IsBlankAt gs (head_for heads v)
head_blank heads gs lists v slots some = slots.heads_are (hash_of v % length heads) 0 (mod_below (hash_of v) (length heads) some)

pub head_differs : (gs : List RowsOf) (h s : ℕ) → value_at gs h ≡ Null → IsKnown (value_at gs s) → h ≢ s
head_differs gs h s null known e = known_differs (value_at gs s) known (ap (value_at gs) (sym e) ∙ null)

blank_more : (gs new : List RowsOf) (heads : List ℕ) → length gs ≤ length new → ((s : ℕ) → s < length gs → value_at new s ≡ value_at gs s) → All (IsBlankAt gs) heads → All (IsBlankAt new) heads
blank_more gs new heads le same h = All-weaker (IsBlankAt gs) (IsBlankAt new) (λ s both. (omega (arith, both.0), same s both.0 ∙ both.1)) heads h

-- one slot more
pub slots_push : (heads : List ℕ) (gs new : List RowsOf) (lists made : List (List ℕ)) (v : Value) → AreSlots heads gs lists → new ≡ gs ++ (record { value = v; tids = [] }) ∷ [] → made ≡ lists ++ (length lists ∷ []) ∷ [] → AreLists made → length new ≤ 2 ^ 32 - 1 → AreSlots heads new made
slots_push heads gs new lists made v slots e f lawful few =
    let one : List RowsOf = (record { value = v; tids = [] }) ∷ [] in
    let many : length new ≡ length gs + 1 = ap (λ (l : List RowsOf). length l) e ∙ length-append gs one in
    let same : (s : ℕ) → s < length gs → value_at new s ≡ value_at gs s = λ s lt. ap (λ l. value_at l s) e ∙ push_kept gs one s lt in
    record {
      as_many = omega (arith, slots.as_many, many, ap (λ (l : List (List ℕ)). length l) f, length-append lists ((length lists ∷ []) ∷ []));
      few = few;
      lawful = lawful;
      null = omega (arith, slots.null);
      null_first = same 0 slots.null ∙ slots.null_first;
      heads_are = blank_more gs new heads (omega arith) same slots.heads_are;
    }

pub slots_same : (heads : List ℕ) (gs new : List RowsOf) (lists made : List (List ℕ)) → AreSlots heads gs lists → new ≡ gs → made ≡ lists → AreSlots heads new made
slots_same heads gs new lists made slots e f = subst (λ l. AreSlots heads l made) (sym e) (subst (λ k. AreSlots heads gs k) (sym f) slots)

-- as many slots with the same values
pub slots_alike : (heads : List ℕ) (gs new : List RowsOf) (lists : List (List ℕ)) → AreSlots heads gs lists → length new ≡ length gs → ((s : ℕ) → value_at new s ≡ value_at gs s) → AreSlots heads new lists
slots_alike heads gs new lists slots many same = record {
  as_many = omega (arith, slots.as_many, many);
  few = omega (arith, slots.few, many);
  lawful = slots.lawful;
  null = omega (arith, slots.null, many);
  null_first = same 0 ∙ slots.null_first;
  heads_are = blank_more gs new heads (omega arith) (λ s lt. same s) slots.heads_are;
}

-- the slots linked otherwise
pub slots_linked : (heads : List ℕ) (gs : List RowsOf) (lists made : List (List ℕ)) → AreSlots heads gs lists → length made ≡ length lists → AreLists made → AreSlots heads gs made
slots_linked heads gs lists made slots many lawful = record {
  as_many = omega (arith, slots.as_many, many);
  few = slots.few;
  lawful = lawful;
  null = slots.null;
  null_first = slots.null_first;
  heads_are = slots.heads_are;
}

list_kept : (lists made : List (List ℕ)) (l : List ℕ) (s : ℕ) → made ≡ lists ++ l ∷ [] → s < length lists → list_of made s ≡ list_of lists s
list_kept lists made l s e lt = ap (λ (k : List (List ℕ)). list_of k s) e ∙ get_or_append_left lists (l ∷ []) [] s lt

-- the slots of more buckets, as far as they are made
pub record AreMore (old : List RowsOf) (before : List (List ℕ)) (heads : List ℕ) (now made : List ℕ) (gs : List RowsOf) (lists : List (List ℕ)) (count : ℕ) : Type 0 where
  pub slots : AreSlots now gs lists
  pub same : now ≡ heads
  pub more : All (IsBlankAt gs) made
  pub many : length made ≡ count
  pub wider : IsWider old gs
  pub values : (s : ℕ) → value_at gs s ≡ value_at old s
  pub longer : length before ≤ length lists
  pub lists_kept : (s : ℕ) → s < length before → list_of lists s ≡ list_of before s

pub none_more : (gs : List RowsOf) (lists : List (List ℕ)) (heads now made : List ℕ) → AreSlots heads gs lists → now ≡ heads → made ≡ [] → AreMore gs lists heads now made gs lists 0
none_more gs lists heads now made slots e f = record {
  slots = subst (λ l. AreSlots l gs lists) (sym e) slots;
  same = e;
  more = subst (λ l. All (IsBlankAt gs) l) (sym f) (λ i d lt. absurd (omega arith));
  many = ap (λ (l : List ℕ). length l) f;
  wider = wider_same gs gs refl;
  values = λ s. refl;
  longer = omega arith;
  lists_kept = λ s lt. refl;
}

-- one slot more, which is not noted yet
pub grown : (old : List RowsOf) (before : List (List ℕ)) (heads now made after : List ℕ) (gs new : List RowsOf) (lists links : List (List ℕ)) (count : ℕ) → AreMore old before heads now made gs lists count
    → new ≡ gs ++ blank ∷ [] → links ≡ lists ++ (length lists ∷ []) ∷ [] → AreLists links → length new ≤ 2 ^ 32 - 1 → after ≡ now → AreMore old before heads after made new links count
grown old before heads now made after gs new lists links count inv e f lawful few g =
    let many : length new ≡ length gs + 1 = ap (λ (l : List RowsOf). length l) e ∙ length-append gs (blank ∷ []) in
    let longer : length links ≡ length lists + 1 = ap (λ (l : List (List ℕ)). length l) f ∙ length-append lists ((length lists ∷ []) ∷ []) in
    record {
      slots = subst (λ l. AreSlots l new links) (sym g) (slots_push now gs new lists links Null inv.slots e f lawful few);
      same = g ∙ inv.same;
      more = blank_more gs new made (omega arith) (λ i lt. ap (λ l. value_at l i) e ∙ push_null gs i) inv.more;
      many = inv.many;
      wider = wider_on old gs new inv.wider (wider_push gs new Null e);
      values = λ i. ap (λ l. value_at l i) e ∙ push_null gs i ∙ inv.values i;
      longer = omega (arith, inv.longer, longer);
      lists_kept = λ i lt. list_kept lists links (length lists ∷ []) i f (omega (arith, inv.longer)) ∙ inv.lists_kept i lt;
    }

pub one_more : (old : List RowsOf) (before : List (List ℕ)) (heads now made after next : List ℕ) (gs new : List RowsOf) (lists links : List (List ℕ)) (count slot : ℕ) → AreMore old before heads now made gs lists count
    → new ≡ gs ++ blank ∷ [] → links ≡ lists ++ (length lists ∷ []) ∷ [] → AreLists links → length new ≤ 2 ^ 32 - 1 → after ≡ now → slot ≡ length gs → next ≡ made ++ slot ∷ [] → AreMore old before heads after next new links (count + 1)
one_more old before heads now made after next gs new lists links count slot inv e f lawful few g s n =
    let more : AreMore old before heads after made new links count = grown old before heads now made after gs new lists links count inv e f lawful few g in
    let many : length new ≡ length gs + 1 = ap (λ (l : List RowsOf). length l) e ∙ length-append gs (blank ∷ []) in
    let last : IsBlankAt new slot = (omega arith, ap (value_at new) s ∙ ap (λ l. value_at l (length gs)) e ∙ ap (λ (x : RowsOf). x.value) (push_last gs blank)) in
    record {
      slots = more.slots;
      same = more.same;
      more = subst (λ l. All (IsBlankAt new) l) (sym n) (All-push (IsBlankAt new) made slot more.more last);
      many = omega (arith, ap (λ (l : List ℕ). length l) n, length-append made (slot ∷ []), inv.many);
      wider = more.wider;
      values = more.values;
      longer = more.longer;
      lists_kept = more.lists_kept;
    }

-- the slots of more buckets, once they are all made
pub all_more : (old : List RowsOf) (before : List (List ℕ)) (heads now made after : List ℕ) (gs : List RowsOf) (lists : List (List ℕ)) (count : ℕ) → AreMore old before heads now made gs lists count → after ≡ now ++ made → AreSlots after gs lists
all_more old before heads now made after gs lists count inv e = record {
  as_many = inv.slots.as_many;
  few = inv.slots.few;
  lawful = inv.slots.lawful;
  null = inv.slots.null;
  null_first = inv.slots.null_first;
  heads_are = subst (λ l. All (IsBlankAt gs) l) (sym e) (All-append (IsBlankAt gs) now made inv.slots.heads_are inv.more);
}

-- more slots, none of them of a new value
module _ (k : IndexKey) (heads : List ℕ) (gs new : List RowsOf) (lists made : List (List ℕ)) (chained : AreChained k heads gs lists) (values : (s : ℕ) → value_at new s ≡ value_at gs s) where
  pub chained_alike : AreSlots heads new made → ((h s : ℕ) → h < length lists → value_at gs h ≡ Null → stands_behind lists h s ≡ true → stands_behind made h s ≡ true) → AreChained k heads new made
  chained_alike slots kept = record {
    slots = slots;
    some = chained.some;
    hashes = chained.hashes;
    fits = λ s. subst (IsOfFamily (key_family k)) (sym (values s)) (chained.fits s);
    chained = λ s known.
        let was : IsKnown (value_at gs s) = subst IsKnown (values s) known in
        let head = head_blank heads gs lists (value_at gs s) chained.slots chained.some in
        ap (λ v. stands_behind made (head_for heads v) s) (values s) ∙ kept (head_for heads (value_at gs s)) s (omega (arith, head.0, chained.slots.as_many)) head.1 (chained.chained s was);
    apart = λ s t known same. chained.apart s t (subst IsKnown (values s) known) (sym (values s) ∙ same ∙ values t);
  }

  -- twice as many buckets, and each value under its new one
  pub chained_doubled : (more : List ℕ) → AreSlots more new made → 0 < length more → ((s : ℕ) → IsKnown (value_at new s) → stands_behind made (head_for more (value_at new s)) s ≡ true) → AreChained k more new made
  chained_doubled more slots some all = record {
    slots = slots;
    some = some;
    hashes = chained.hashes;
    fits = λ s. subst (IsOfFamily (key_family k)) (sym (values s)) (chained.fits s);
    chained = all;
    apart = λ s t known same. chained.apart s t (subst IsKnown (values s) known) (sym (values s) ∙ same ∙ values t);
  }

pub chained_same : (k : IndexKey) (heads after : List ℕ) (gs new : List RowsOf) (lists made : List (List ℕ)) → AreChained k heads gs lists → after ≡ heads → new ≡ gs → made ≡ lists → AreChained k after new made
chained_same k heads after gs new lists made chained e f g =
    subst (λ hs. AreChained k hs new made) (sym e) (subst (λ l. AreChained k heads l made) (sym f) (subst (λ l. AreChained k heads gs l) (sym g) chained))

-- the slots where values have more rows, or fewer
pub chained_kept : (k : IndexKey) (heads : List ℕ) (gs new : List RowsOf) (lists : List (List ℕ)) → AreChained k heads gs lists → length new ≡ length gs → ((s : ℕ) → value_at new s ≡ value_at gs s) → AreChained k heads new lists
chained_kept k heads gs new lists chained many values = chained_alike k heads gs new lists lists chained values (slots_alike heads gs new lists chained.slots many values) (λ h s lt null e. e)

-- a new value
module _ (k : IndexKey) (heads : List ℕ) (gs new : List RowsOf) (lists made put : List (List ℕ)) (v : Value) (chained : AreChained k heads gs lists)
    (is : new ≡ gs ++ (record { value = v; tids = [] }) ∷ []) (links : made ≡ lists ++ (length lists ∷ []) ∷ []) where
  pub at_new : value_at new (length gs) ≡ v
  at_new = ap (λ l. value_at l (length gs)) is ∙ ap (λ (x : RowsOf). x.value) (push_last gs (record { value = v; tids = [] }))

  at_other : (s : ℕ) → s ≢ length gs → value_at new s ≡ value_at gs s
  at_other s ne = ap (λ l. value_at l s) is ∙ push_other gs (record { value = v; tids = [] }) s ne

  module _ (slots : AreSlots heads new put) (known_v : IsKnown v) (fits_v : IsOfFamily (key_family k) v) (none : (s : ℕ) → value_at gs s ≢ v)
      (stands : stands_behind put (head_for heads v) (length gs) ≡ true) (kept : (h s : ℕ) → h < length made → value_at new h ≡ Null → s ≢ length gs → stands_behind made h s ≡ true → stands_behind put h s ≡ true) where
    fits_at : (s : ℕ) (b : Bool) → eqb s (length gs) ≡ b → IsOfFamily (key_family k) (value_at new s)
    fits_at s true e = subst (IsOfFamily (key_family k)) (sym (ap (value_at new) (eqb-true s (length gs) e) ∙ at_new)) fits_v
    fits_at s false e = subst (IsOfFamily (key_family k)) (sym (at_other s (eqb-false s (length gs) e))) (chained.fits s)

    chained_at : (s : ℕ) → IsKnown (value_at new s) → (b : Bool) → eqb s (length gs) ≡ b → stands_behind put (head_for heads (value_at new s)) s ≡ true
    chained_at s known true e =
        subst (λ i. stands_behind put (head_for heads (value_at new i)) i ≡ true) (sym (eqb-true s (length gs) e)) (ap (λ w. stands_behind put (head_for heads w) (length gs)) at_new ∙ stands)
    chained_at s known false e =
        let ne : s ≢ length gs = eqb-false s (length gs) e in
        let was : value_at new s ≡ value_at gs s = at_other s ne in
        let head : IsBlankAt gs (head_for heads (value_at gs s)) = head_blank heads gs lists (value_at gs s) chained.slots chained.some in
        let within : head_for heads (value_at gs s) < length lists = omega (arith, head.0, chained.slots.as_many) in
        ap (λ w. stands_behind put (head_for heads w) s) was
        ∙ kept (head_for heads (value_at gs s)) s (omega (arith, within, ap (λ (l : List (List ℕ)). length l) links, length-append lists ((length lists ∷ []) ∷ [])))
        (at_other (head_for heads (value_at gs s)) (λ e'. omega (arith, head.0, e')) ∙ head.1) ne
        (ap (λ l. has s (behind (head_for heads (value_at gs s)) l)) (list_kept lists made (length lists ∷ []) (head_for heads (value_at gs s)) links within) ∙ chained.chained s (subst IsKnown was known))

    apart_at : (s t : ℕ) → IsKnown (value_at new s) → value_at new s ≡ value_at new t → (a : Bool) → eqb s (length gs) ≡ a → (b : Bool) → eqb t (length gs) ≡ b → s ≡ t
    apart_at s t known same true e true f = eqb-true s (length gs) e ∙ sym (eqb-true t (length gs) f)
    apart_at s t known same true e false f = absurd (none t (sym (at_other t (eqb-false t (length gs) f)) ∙ sym same ∙ ap (value_at new) (eqb-true s (length gs) e) ∙ at_new))
    apart_at s t known same false e true f = absurd (none s (sym (at_other s (eqb-false s (length gs) e)) ∙ same ∙ ap (value_at new) (eqb-true t (length gs) f) ∙ at_new))
    apart_at s t known same false e false f =
        let was : value_at new s ≡ value_at gs s = at_other s (eqb-false s (length gs) e) in
        chained.apart s t (subst IsKnown was known) (sym was ∙ same ∙ at_other t (eqb-false t (length gs) f))

    pub chained_added : AreChained k heads new put
    chained_added = record {
      slots = slots;
      some = chained.some;
      hashes = chained.hashes;
      fits = λ s. fits_at s (eqb s (length gs)) refl;
      chained = λ s known. chained_at s known (eqb s (length gs)) refl;
      apart = λ s t known same. apart_at s t known same (eqb s (length gs)) refl (eqb t (length gs)) refl;
    }

-- a new value, as calls leave the slots
pub value_added : (k : IndexKey) (heads mid after : List ℕ) (gs new last : List RowsOf) (lists made put : List (List ℕ)) (v : Value) (slot : ℕ) → AreChained k heads gs lists → IsKnown v → IsOfFamily (key_family k) v → ((s : ℕ) → value_at gs s ≢ v)
    → new ≡ gs ++ (record { value = v; tids = [] }) ∷ [] → made ≡ lists ++ (length lists ∷ []) ∷ [] → slot ≡ length gs → mid ≡ heads → after ≡ mid → last ≡ new → AreSlots after last put
    → (IsKnown (value_at new slot) → stands_behind put (head_for mid (value_at new slot)) slot ≡ true) → ((h s : ℕ) → h < length made → value_at new h ≡ Null → s ≢ slot → stands_behind made h s ≡ true → stands_behind put h s ≡ true) → AreChained k after last put
value_added k heads mid after gs new last lists made put v slot chained known fits none is links s a b f slots stands kept =
    let at : value_at new slot ≡ v = ap (value_at new) s ∙ at_new k heads gs new lists made put v chained is links in
    chained_same k heads after new last put put
    (chained_added k heads gs new lists made put v chained is links
    (subst (λ hs. AreSlots hs new put) (b ∙ a) (subst (λ l. AreSlots after l put) f slots)) known fits none
    (ap (λ i. stands_behind put (head_for heads v) i) (sym s) ∙ ap (λ w. stands_behind put (head_for heads w) slot) (sym at) ∙ ap (λ hs. stands_behind put (head_for hs (value_at new slot)) slot) (sym a) ∙ stands (subst IsKnown (sym at) known))
    (λ h i lt null ne e. kept h i lt null (λ same. ne (same ∙ s)) e))
    (b ∙ a) f refl

-- the values below a slot stand under their buckets
pub record AreUnder (first : List ℕ) (old : List RowsOf) (heads : List ℕ) (gs : List RowsOf) (lists : List (List ℕ)) (count : ℕ) : Type 0 where
  pub slots : AreSlots heads gs lists
  pub same_heads : heads ≡ first
  pub same : gs ≡ old
  pub under : (s : ℕ) → s < count → IsKnown (value_at gs s) → stands_behind lists (head_for heads (value_at gs s)) s ≡ true

pub one_under : (first : List ℕ) (old : List RowsOf) (heads after : List ℕ) (gs new : List RowsOf) (lists put : List (List ℕ)) (slot : ℕ) → AreUnder first old heads gs lists slot → 0 < length heads
    → AreSlots after new put → after ≡ heads → new ≡ gs → (IsKnown (value_at gs slot) → stands_behind put (head_for heads (value_at gs slot)) slot ≡ true)
    → ((h s : ℕ) → h < length lists → value_at gs h ≡ Null → s ≢ slot → stands_behind lists h s ≡ true → stands_behind put h s ≡ true) → AreUnder first old after new put (slot + 1)
one_under first old heads after gs new lists put slot inv some slots e f stands kept = record {
  slots = slots;
  same_heads = e ∙ inv.same_heads;
  same = f ∙ inv.same;
  under = λ s lt. subst (λ hs. IsKnown (value_at new s) → stands_behind put (head_for hs (value_at new s)) s ≡ true) (sym e)
      (subst (λ l. IsKnown (value_at l s) → stands_behind put (head_for heads (value_at l s)) s ≡ true) (sym f) (at s lt (eqb s slot) refl));
}
  where
    at : (s : ℕ) → s < slot + 1 → (b : Bool) → eqb s slot ≡ b → IsKnown (value_at gs s) → stands_behind put (head_for heads (value_at gs s)) s ≡ true
    at s lt true g known =
        let is : s ≡ slot = eqb-true s slot g in
        subst (λ i. IsKnown (value_at gs i) → stands_behind put (head_for heads (value_at gs i)) i ≡ true) (sym is) stands known
    at s lt false g known =
        let ne : s ≢ slot = eqb-false s slot g in
        let head : IsBlankAt gs (head_for heads (value_at gs s)) = head_blank heads gs lists (value_at gs s) inv.slots some in
        kept (head_for heads (value_at gs s)) s (omega (arith, head.0, inv.slots.as_many)) head.1 ne (inv.under s (omega (arith, lt, ne)) known)
