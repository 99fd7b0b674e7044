-- The way along a chain: each slot is one of the chain's, those that have a value are ahead, and fewer are left.
use Rattle.std.proofs.Common.{◌≡◌, ◌≢◌, ℕ, ◌<◌, true, false, ◌||◌, List, [], ◌∷◌, length, refl, sym, subst, ap, ◌∙◌, arith}
use Rattle.std.specs.Prelude.{Option, Some, None, IfSome}
use Rattle.std.specs.Ordering.{is_eq}
use Rattle.std.proofs.lemmas.Bool.{true≢false, false≢true, eq-eqb, ne_eqb}
use Rattle.pg_value.specs.declared.value.Value.{Value}
use Rattle.pg_value.specs.work.Order.{IsOfFamily}
use Rattle.opfamily.specs.declared.classes.IndexKey.{IndexKey}
use Rattle.opfamily.specs.KeyOrder.{key_family, key_order}
use Rattle.linked.specs.work.Lists.{AreLists, AreApart, has, list_of, first, next_in, behind}
use Rattle.linked.proofs.ListLemmas.{next_behind, behind_in, step_on}
use Rattle.hash_index.specs.work.Held.{IsKnown}
use Rattle.hash_index.specs.work.Groups.{RowsOf, value_at}
use Rattle.hash_index.specs.work.Chains.{AreChained, head_for, stands_behind}
use Rattle.hash_index.proofs.HeldLemmas.{key_same}
use Rattle.hash_index.proofs.TieLemmas.{same_values}

-- the slots from one on
abbrev pub onward : Option ℕ → List ℕ → List ℕ
onward None xs = []
onward (Some s) xs = s ∷ behind s xs

-- how far a search has come: the slots that have the value are all ahead
pub record IsOn (gs : List RowsOf) (lists : List (List ℕ)) (head : ℕ) (v : Value) (next : Option ℕ) : Type 0 where
  pub within : head < length lists
  pub one : IfSome next (λ s. has s (list_of lists head) ≡ true)
  pub ahead : (s : ℕ) → value_at gs s ≡ v → has s (onward next (list_of lists head)) ≡ true

first_in : (s : ℕ) (xs ys : List ℕ) → behind s xs ≡ ys → IfSome (first ys) (λ t. has t xs ≡ true)
first_in s xs [] e = tt
first_in s xs (t ∷ rest) e = behind_in s t xs (ap (has t) e ∙ ap (λ b. b || has t rest) (eq-eqb t t refl))

onward_is : (s : ℕ) (xs ys : List ℕ) → AreApart xs → behind s xs ≡ ys → onward (first ys) xs ≡ ys
onward_is s xs [] a e = refl
onward_is s xs (t ∷ rest) a e = ap (λ l. t ∷ l) (step_on s t rest xs a e).0

next_is : (lists : List (List ℕ)) → AreLists lists → (head s : ℕ) → head < length lists → has s (list_of lists head) ≡ true → next_in s (list_of lists s) ≡ first (behind s (list_of lists head))
next_is lists lawful head s lt h = ap (next_in s) (lawful.one head s lt h).1 ∙ next_behind s (list_of lists head)

module _ (gs : List RowsOf) (lists : List (List ℕ)) (lawful : AreLists lists) (head : ℕ) (v : Value) where
  -- from the slot behind one on
  goes_on : (s : ℕ) (next : Option ℕ) → head < length lists → has s (list_of lists head) ≡ true → next ≡ next_in s (list_of lists s) → ((t : ℕ) → value_at gs t ≡ v → stands_behind lists s t ≡ true) → IsOn gs lists head v next
  goes_on s next lt h e all =
      let xs : List ℕ = list_of lists head in
      let is : next ≡ first (behind s xs) = e ∙ next_is lists lawful head s lt h in
      record {
        within = lt;
        one = subst (λ o. IfSome o (λ t. has t xs ≡ true)) (sym is) (first_in s xs (behind s xs) refl);
        ahead = λ t f. ap (λ o. has t (onward o xs)) is ∙ ap (has t) (onward_is s xs (behind s xs) (lawful.apart head lt) refl) ∙ ap (λ l. has t (behind s l)) (sym (lawful.one head s lt h).1) ∙ all t f;
      }

  at_slot : (s : ℕ) (next : Option ℕ) → next ≡ Some s → IsOn gs lists head v next → has s (list_of lists head) ≡ true
  at_slot s next e on = subst (λ o. IfSome o (λ t. has t (list_of lists head) ≡ true)) e on.one

  -- past a slot that does not have the value
  pub past : (s : ℕ) (now next : Option ℕ) → now ≡ Some s → IsOn gs lists head v now → value_at gs s ≢ v → next ≡ next_in s (list_of lists s) → IsOn gs lists head v next
  past s now next e on ne f =
      let h : has s (list_of lists head) ≡ true = at_slot s now e on in
      goes_on s next on.within h f (λ t g.
      ap (λ l. has t (behind s l)) (lawful.one head s on.within h).1
      ∙ ap (λ b. b || has t (behind s (list_of lists head))) (sym (ne_eqb t s (λ same. ne (ap (value_at gs) (sym same) ∙ g))))
      ∙ ap (λ o. has t (onward o (list_of lists head))) (sym e) ∙ on.ahead t g)

  pub slot_in : (s : ℕ) (now : Option ℕ) → now ≡ Some s → IsOn gs lists head v now → s < length lists
  slot_in s now e on = (lawful.one head s on.within (at_slot s now e on)).0

  pub fewer : (s : ℕ) (now next : Option ℕ) → now ≡ Some s → IsOn gs lists head v now → next ≡ next_in s (list_of lists s) → length (onward next (list_of lists head)) < length (onward now (list_of lists head))
  fewer s now next e on f =
      let xs : List ℕ = list_of lists head in
      let h : has s xs ≡ true = at_slot s now e on in
      omega (
        arith,
        ap (λ o. length (onward o xs)) e,
        ap (λ o. length (onward o xs)) (f ∙ next_is lists lawful head s on.within h),
        ap (λ (l : List ℕ). length l) (onward_is s xs (behind s xs) (lawful.apart head on.within) refl),
      )

  pub at_end : (now : Option ℕ) → now ≡ None → IsOn gs lists head v now → (s : ℕ) → value_at gs s ≢ v
  at_end now e on s same = false≢true (ap (λ o. has s (onward o (list_of lists head))) (sym e) ∙ on.ahead s same)

-- the beginning of a value's chain
pub begins : (k : IndexKey) (heads : List ℕ) (gs : List RowsOf) (lists : List (List ℕ)) → AreChained k heads gs lists → (head : ℕ) (v : Value) (next : Option ℕ) → IsKnown v → head ≡ head_for heads v → head < length gs → next ≡ next_in head (list_of lists head) → IsOn gs lists head v next
begins k heads gs lists chained head v next known is lt e =
    let within : head < length lists = omega (arith, lt, chained.slots.as_many) in
    goes_on gs lists chained.slots.lawful head v head next within (chained.slots.lawful.stands head within) e (λ t f.
    ap (λ h. stands_behind lists h t) (is ∙ ap (head_for heads) (sym f)) ∙ chained.chained t (subst IsKnown (sym f) known))

-- a value ties with itself alone
pub tie_is : (k : IndexKey) (heads : List ℕ) (gs : List RowsOf) (lists : List (List ℕ)) → AreChained k heads gs lists → (v : Value) → IsOfFamily (key_family k) v → (s : ℕ) → is_eq (key_order k (value_at gs s) v) ≡ true → value_at gs s ≡ v
tie_is k heads gs lists chained v fits s e = same_values k chained.hashes (value_at gs s) v (chained.fits s) fits e

pub no_tie : (k : IndexKey) (gs : List RowsOf) (v : Value) (s : ℕ) → is_eq (key_order k (value_at gs s) v) ≡ false → value_at gs s ≢ v
no_tie k gs v s e same = true≢false (sym (ap is_eq (key_same k v)) ∙ ap (λ w. is_eq (key_order k w v)) (sym same) ∙ e)
