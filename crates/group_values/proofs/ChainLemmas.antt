-- The way along a chain, and one more slot in the chain of its hash.
use Rattle.std.proofs.Common.{◌≡◌, ◌≢◌, ℕ, ◌+◌, ◌%◌, ◌<◌, ◌≤◌, Bool, true, false, cond, ◌||◌, eqb, List, [], ◌∷◌, length, map, get_or, refl, sym, subst, ap, ◌∙◌, arith}
use Rattle.std.specs.Prelude.{Option, Some, None, IfSome}
use Rattle.std.proofs.lemmas.Bool.{true≢false, false≢true, eqb-true, eqb-false, eq-eqb, ne_eqb, or_right}
use Rattle.std.proofs.lemmas.List.{get_or-map, get_or-set_other, length-map, length-set}
use Rattle.std.proofs.lemmas.List.Elements.{All-weaker}
use Rattle.std.proofs.lemmas.Nat.{mod_below}
use Rattle.pg_value.specs.declared.value.Value.{Value}
use Rattle.linked.specs.work.Lists.{AreLists, has, list_of, first, next_in, behind, put_after, with_after}
use Rattle.linked.proofs.ListLemmas.{behind_in, next_behind, put_parts, step_on}
use Rattle.linked.proofs.ChangeLemmas.{put_has_other, put-behind}
use Rattle.group_values.specs.Groups.{same_keys}
use Rattle.group_values.specs.Shapes.{Summary}
use Rattle.group_values.specs.work.Steps.{group_at, none}
use Rattle.group_values.proofs.OrderLemmas.{same-is}
use Rattle.group_values.specs.work.Hash.{hash_of}
use Rattle.group_values.specs.work.Places.{HasNoGroup, hashes_of}
use Rattle.group_values.specs.work.Chains.{AreChained, chain_from, first_for}

below-more : (o : Option ℕ) (n m : ℕ) → n ≤ m → IfSome o (λ s. s < n) → IfSome o (λ s. s < m)
below-more None n m le h = tt
below-more (Some s) n m le h = omega arith

keep : (a b c : Bool) → (b ≡ true → c ≡ true) → (a || b) ≡ true → (a || c) ≡ true
keep true b c f g = refl
keep false b c f g = f g

-- the hash at a slot is that of its group's keys
hash-at : (hashes : List ℕ) (gs : List Summary) (s : ℕ) → hashes ≡ hashes_of gs → s < length gs → get_or hashes s 0 ≡ hash_of (group_at gs s).keys
hash-at hashes gs s is lt = ap (λ l. get_or l s 0) is ∙ get_or-map (λ (g : Summary). hash_of g.keys) gs s none 0 lt

pub hash-many : (hashes : List ℕ) (gs : List Summary) → hashes ≡ hashes_of gs → length hashes ≡ length gs
hash-many hashes gs is = ap (λ (l : List ℕ). length l) is ∙ length-map gs (λ (g : Summary). hash_of g.keys)

-- a group whose hash is another one has other keys
pub other-hash : (hashes : List ℕ) (gs : List Summary) (keys : List Value) (s hash : ℕ) → hashes ≡ hashes_of gs → s < length gs → hash ≡ hash_of keys → get_or hashes s 0 ≢ hash → same_keys (group_at gs s).keys keys ≡ false
other-hash hashes gs keys s hash is lt at ne = by (same_keys (group_at gs s).keys keys) refl
  where
    by : (b : Bool) → same_keys (group_at gs s).keys keys ≡ b → b ≡ false
    by true e = absurd (ne (hash-at hashes gs s is lt ∙ ap hash_of (same-is (group_at gs s).keys keys e) ∙ sym at))
    by false e = refl

-- the slots from the one behind a slot on
next-chain : (lists : List (List ℕ)) (s : ℕ) (next : Option ℕ) → AreLists lists → s < length lists → next ≡ next_in s (list_of lists s) → IfSome next (λ t. t < length lists) × (chain_from lists next ≡ behind s (list_of lists s))
next-chain lists s next lawful lt e =
    subst (λ o. IfSome o (λ t. t < length lists) × (chain_from lists o ≡ behind s (list_of lists s))) (sym (e ∙ next_behind s (list_of lists s))) (helper (behind s (list_of lists s)) refl)
  where
    helper : (ys : List ℕ) → behind s (list_of lists s) ≡ ys → IfSome (first ys) (λ t. t < length lists) × (chain_from lists (first ys) ≡ ys)
    helper [] f = (tt, refl)
    helper (t ∷ rest) f =
        let inside : has t (list_of lists s) ≡ true = behind_in s t (list_of lists s) (ap (has t) f ∙ ap (λ b. b || has t rest) (eq-eqb t t refl)) in
        let both = lawful.one s t lt inside in
        (both.0, ap (λ l. t ∷ l) (ap (behind t) both.1 ∙ (step_on s t rest (list_of lists s) (lawful.apart s lt) f).0))

-- how far a search has come: a group that has the keys is ahead
pub record IsOn (gs : List Summary) (lists : List (List ℕ)) (keys : List Value) (next : Option ℕ) : Type 0 where
  pub one : IfSome next (λ s. s < length lists)
  pub ahead : (s : ℕ) → s < length gs → same_keys (group_at gs s).keys keys ≡ true → has s (chain_from lists next) ≡ true

module _ (gs : List Summary) (lists : List (List ℕ)) (keys : List Value) where
  pub slot-in : (s : ℕ) (now : Option ℕ) → now ≡ Some s → IsOn gs lists keys now → s < length lists
  slot-in s now e on = subst (λ o. IfSome o (λ t. t < length lists)) e on.one

  -- past a slot whose group has other keys
  pub past : (s : ℕ) (now next : Option ℕ) → AreLists lists → now ≡ Some s → IsOn gs lists keys now → same_keys (group_at gs s).keys keys ≡ false → next ≡ next_in s (list_of lists s) → IsOn gs lists keys next
  past s now next lawful e on other f =
      let on-chain = next-chain lists s next lawful (slot-in s now e on) f in
      record {
        one = on-chain.0;
        ahead = λ t lt g.
            ap (has t) on-chain.1
            ∙ ap (λ b. b || has t (behind s (list_of lists s))) (sym (ne_eqb t s (λ same. true≢false (sym g ∙ ap (λ n. same_keys (group_at gs n).keys keys) same ∙ other))))
            ∙ ap (λ o. has t (chain_from lists o)) (sym e) ∙ on.ahead t lt g;
      }

  pub fewer : (s : ℕ) (now next : Option ℕ) → AreLists lists → now ≡ Some s → IsOn gs lists keys now → next ≡ next_in s (list_of lists s) → length (chain_from lists next) < length (chain_from lists now)
  fewer s now next lawful e on f =
      omega (
        arith,
        ap (λ o. length (chain_from lists o)) e,
        ap (λ (l : List ℕ). length l) (next-chain lists s next lawful (slot-in s now e on) f).1,
      )

  pub at-end : (now : Option ℕ) → now ≡ None → IsOn gs lists keys now → HasNoGroup gs keys
  at-end now e on s lt = by (same_keys (group_at gs s).keys keys) refl
    where
      by : (b : Bool) → same_keys (group_at gs s).keys keys ≡ b → b ≡ false
      by true f = absurd (false≢true (ap (λ o. has s (chain_from lists o)) (sym e) ∙ on.ahead s lt f))
      by false f = refl

-- the beginning of the chain of a hash
pub begins : (firsts : List (Option ℕ)) (hashes : List ℕ) (lists : List (List ℕ)) (gs : List Summary) (keys : List Value) (hash : ℕ) (next : Option ℕ) → AreChained (length hashes) firsts hashes lists → hashes ≡ hashes_of gs → hash ≡ hash_of keys
    → next ≡ first_for firsts hash → IsOn gs lists keys next
begins firsts hashes lists gs keys hash next chained is at e =
    let many : length hashes ≡ length gs = hash-many hashes gs is in
    record {
      one = subst (λ o. IfSome o (λ s. s < length lists)) (sym e) (below-more (first_for firsts hash) (length hashes) (length lists) (omega (arith, chained.as_many)) (chained.firsts_are (hash % length firsts) None (mod_below hash (length firsts) chained.some)));
      ahead = λ s lt f.
          ap (λ o. has s (chain_from lists o)) (e ∙ ap (first_for firsts) (at ∙ ap hash_of (sym (same-is (group_at gs s).keys keys f)) ∙ sym (hash-at hashes gs s is lt)))
          ∙ chained.stands s (omega (arith, lt, many));
    }

-- the last slot, put into the chain of its hash
module _ (firsts : List (Option ℕ)) (hashes : List ℕ) (lists : List (List ℕ)) (slot hash : ℕ) (others : AreChained slot firsts hashes lists) (last : length hashes ≡ slot + 1) (at : get_or hashes slot 0 ≡ hash) where
  -- behind the slot that stands first
  pub put-within : (f : ℕ) → first_for firsts hash ≡ Some f → f < slot
  put-within f e = subst (λ o. IfSome o (λ s. s < slot)) e (others.firsts_are (hash % length firsts) None (mod_below hash (length firsts) others.some))

  module _ (f : ℕ) (put : List (List ℕ)) (is : first_for firsts hash ≡ Some f) (changed : put ≡ with_after f slot lists) where
    put-many : length put ≡ length lists
    put-many = ap (λ (l : List (List ℕ)). length l) changed ∙ length-set (map (put_after f slot) lists) slot (put_after f slot (list_of lists f)) ∙ length-map lists (put_after f slot)

    put-list : (h : ℕ) → h < slot → list_of put h ≡ put_after f slot (list_of lists h)
    put-list h lt =
        ap (λ l. list_of l h) changed
        ∙ get_or-set_other (map (put_after f slot) lists) slot h (put_after f slot (list_of lists f)) [] (λ e. absurd (omega (arith, e, lt)))
        ∙ get_or-map (put_after f slot) lists h [] [] (omega (arith, lt, last, others.as_many))

    put-chain : (s : ℕ) (o : Option ℕ) → s ≢ slot → IfSome o (λ h. h < slot) → has s (chain_from lists o) ≡ true → has s (chain_from put o) ≡ true
    put-chain s None ne lt e = e
    put-chain s (Some h) ne lt e =
        keep (eqb s h) (has s (behind h (list_of lists h))) (has s (behind h (list_of put h))) (λ g. ap (λ l. has s (behind h l)) (put-list h lt) ∙ put-behind f slot h s (list_of lists h) (λ same. absurd (omega (arith, same, lt))) ne g) e

    put-last : has slot (chain_from put (Some f)) ≡ true
    put-last =
        let lt : f < slot = put-within f is in
        or_right (eqb slot f) (has slot (behind f (list_of put f)))
        (ap (λ l. has slot (behind f l)) (put-list f lt)
        ∙ ap (has slot) (put_parts f slot (list_of lists f) (others.lawful.stands f (omega (arith, lt, last, others.as_many)))).0
        ∙ ap (λ b. b || has slot (behind f (list_of lists f))) (eq-eqb slot slot refl))

    pub put-behind-first : AreLists put → AreChained (length hashes) firsts hashes put
    put-behind-first lawful = record {
      as_many = put-many ∙ others.as_many;
      few = others.few;
      some = others.some;
      room = others.room;
      lawful = lawful;
      firsts_are = All-weaker (λ o. IfSome o (λ s. s < slot)) (λ o. IfSome o (λ s. s < length hashes)) (λ o h. below-more o slot (length hashes) (omega (arith, last)) h) firsts others.firsts_are;
      stands = λ s lt. by s lt (eqb s slot) refl;
    }
      where
        by : (s : ℕ) → s < length hashes → (b : Bool) → eqb s slot ≡ b → has s (chain_from put (first_for firsts (get_or hashes s 0))) ≡ true
        by s lt true e = subst (λ n. has n (chain_from put (first_for firsts (get_or hashes n 0))) ≡ true) (sym (eqb-true s slot e)) (ap (λ o. has slot (chain_from put o)) (ap (first_for firsts) at ∙ is) ∙ put-last)
        by s lt false e =
            let ne : s ≢ slot = eqb-false s slot e in
            let h : ℕ = get_or hashes s 0 in
            put-chain s (first_for firsts h) ne (others.firsts_are (h % length firsts) None (mod_below h (length firsts) others.some)) (others.stands s (omega (arith, lt, last, ne)))
