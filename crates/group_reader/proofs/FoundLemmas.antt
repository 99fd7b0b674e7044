-- Lists made of what is found in parts, and the first thing found.
use Rattle.std.proofs.Common.{◌≡◌, ◌⊎◌, inl, inr, ⊎_elim, ℕ, nat_lt, min, ◌+◌, ◌<◌, ◌≤◌, Bool, true, false, cond, List, [], ◌∷◌, ◌++◌, length, drop, get_or, map, filter_map, Option, Some, None, Ok, Err, refl, sym, ap, ◌∙◌, arith, append_assoc, append-nil, drop_of_length-le}
use Rattle.std.proofs.lemmas.Bool.{cases_Bool, ltb-true}
use Rattle.std.proofs.lemmas.List.{drop_more}
use Rattle.std.specs.List.{cons_option}
use Rattle.std.specs.Prelude.{is_some}
use Rattle.pg_base.specs.declared.faults.Code.TheVariants.{S18}
use Rattle.pg_expr.specs.declared.operand.ColRef.{ColRef}
use Rattle.eq_classes.specs.declared.order.OrderItem.{OrderItem}
use Rattle.sql_lex.specs.declared.tokens.Token.{Token}
use Rattle.sql_grammar.specs.Faults.{fault_at}
use Rattle.query_reader.proofs.ConjunctLemmas.{kept-by}
use Rattle.group_reader.specs.declared.parts.Part.{Part}
use Rattle.group_reader.specs.declared.written.Sorting.{Sorting}
use Rattle.group_reader.specs.Binding.{is_grouped, none_of, ungrouped_items, ungrouped_part}
use Rattle.group_reader.specs.work.Meaning.{first_of, last_word}
use Rattle.group_reader.specs.work.Seen.{with_found}

by-found : (o : Option ColRef) (old rest : List ColRef) → with_found old o ++ rest ≡ old ++ cons_option o rest
by-found None old rest = refl
by-found (Some x) old rest = append_assoc old (x ∷ []) rest

module _ (f : Part → Option ColRef) where
  -- what is found in one more part
  pub found-more : (old new : List ColRef) (o : Option ColRef) (whole : List ColRef) (xs : List Part) (n : ℕ) (d : Part) → n < length xs → o ≡ f (get_or xs n d) → new ≡ with_found old o → old ++ filter_map f (drop n xs) ≡ whole →
      new ++ filter_map f (drop (n + 1) xs) ≡ whole
  found-more old new o whole xs n d lt is grown so =
      let later = filter_map f (drop (n + 1) xs) in
      ap (λ l. l ++ later) (grown ∙ ap (with_found old) is) ∙ (by-found (f (get_or xs n d)) old later ∙ (ap (λ l. old ++ filter_map f l) (sym (drop_more xs n d lt)) ∙ so))

  pub found-all : (now whole : List ColRef) (xs : List Part) (n : ℕ) → length xs ≤ n → now ++ filter_map f (drop n xs) ≡ whole → now ≡ whole
  found-all now whole xs n le so = sym (append-nil now) ∙ (ap (λ l. now ++ filter_map f l) (sym (drop_of_length-le xs le)) ∙ so)

-- the first word at which a part is wrong
module _ (keys : List ColRef) where
  first-by : (o : Option Token) (ts : List Token) → o ≡ None → first_of (cons_option o ts) ≡ first_of ts
  first-by None ts is = refl
  first-by (Some t) ts is = absurd (cc (is))

  first-here : (o : Option Token) (t : Token) (ts : List Token) → o ≡ Some t → first_of (cons_option o ts) ≡ Some t
  first-here None t ts is = absurd (cc (is))
  first-here (Some u) t ts is = is

  pub part-passed : (ps : List Part) (n : ℕ) (d : Part) (o : Option Token) (whole : Option Token) → n < length ps → o ≡ ungrouped_part keys (get_or ps n d) → o ≡ None → first_of (filter_map (ungrouped_part keys) (drop n ps)) ≡ whole →
      first_of (filter_map (ungrouped_part keys) (drop (n + 1) ps)) ≡ whole
  part-passed ps n d o whole lt is none so =
      sym (first-by (ungrouped_part keys (get_or ps n d)) (filter_map (ungrouped_part keys) (drop (n + 1) ps)) (sym is ∙ none))
      ∙ (ap (λ l. first_of (filter_map (ungrouped_part keys) l)) (sym (drop_more ps n d lt)) ∙ so)

  pub part-found : (ps : List Part) (n : ℕ) (d : Part) (o : Option Token) (t : Token) (whole : Option Token) → n < length ps → o ≡ ungrouped_part keys (get_or ps n d) → o ≡ Some t → first_of (filter_map (ungrouped_part keys) (drop n ps)) ≡ whole → o ≡ whole
  part-found ps n d o t whole lt is found so =
      found ∙ (sym (first-here (ungrouped_part keys (get_or ps n d)) t (filter_map (ungrouped_part keys) (drop (n + 1) ps)) (sym is ∙ found))
      ∙ (ap (λ l. first_of (filter_map (ungrouped_part keys) l)) (sym (drop_more ps n d lt)) ∙ so))

  pub parts-passed : (ps : List Part) (n : ℕ) (whole : Option Token) → length ps ≤ n → first_of (filter_map (ungrouped_part keys) (drop n ps)) ≡ whole → None ≡ whole
  parts-passed ps n whole le so = ap (λ l. first_of (filter_map (ungrouped_part keys) l)) (sym (drop_of_length-le ps le)) ∙ so

  -- the first word at which an item of an order is wrong: the items stand beside their words
  at-item : (items : List OrderItem) (sorts : List Sorting) (n : ℕ) (i : OrderItem) (s : Sorting) → n < length items → n < length sorts →
      ungrouped_items keys (drop n items) (map last_word (drop n sorts)) ≡ cond (is_grouped keys (get_or items n i).col) (ungrouped_items keys (drop (n + 1) items) (map last_word (drop (n + 1) sorts)))
      (last_word (get_or sorts n s) ∷ ungrouped_items keys (drop (n + 1) items) (map last_word (drop (n + 1) sorts)))
  at-item items sorts n i s low less =
      ap (λ l. ungrouped_items keys l (map last_word (drop n sorts))) (drop_more items n i low) ∙ ap (λ l. ungrouped_items keys (get_or items n i ∷ drop (n + 1) items) (map last_word l)) (drop_more sorts n s less)

  item-passed : (items : List OrderItem) (sorts : List Sorting) (n : ℕ) (i : OrderItem) (s : Sorting) (whole : Option Token) → n < length items → n < length sorts → is_grouped keys (get_or items n i).col ≡ true →
      first_of (ungrouped_items keys (drop n items) (map last_word (drop n sorts))) ≡ whole → first_of (ungrouped_items keys (drop (n + 1) items) (map last_word (drop (n + 1) sorts))) ≡ whole
  item-passed items sorts n i s whole low less is so =
      let later = ungrouped_items keys (drop (n + 1) items) (map last_word (drop (n + 1) sorts)) in
      sym (ap first_of (at-item items sorts n i s low less ∙ ap (λ (b : Bool). cond b later (last_word (get_or sorts n s) ∷ later)) is)) ∙ so

  pub pass-item : (items : List OrderItem) (sorts : List Sorting) (n : ℕ) (i : OrderItem) (whole : Option Token) → n < length items → n < length sorts → is_grouped keys (get_or items n i).col ≡ true →
      first_of (ungrouped_items keys (drop n items) (map last_word (drop n sorts))) ≡ whole → first_of (ungrouped_items keys (drop (n + 1) items) (map last_word (drop (n + 1) sorts))) ≡ whole
  pass-item items [] n i whole low less is so = absurd (omega (arith, less))
  pass-item items (s ∷ ss) n i whole low less is so = item-passed items (s ∷ ss) n i s whole low less is so

  no-items : (ts : List Token) → ungrouped_items keys [] ts ≡ []
  no-items [] = refl
  no-items (t ∷ ts) = refl

  no-words : (is : List OrderItem) → ungrouped_items keys is [] ≡ []
  no-words [] = refl
  no-words (i ∷ is) = refl

  pub items-passed : (items : List OrderItem) (sorts : List Sorting) (n : ℕ) (whole : Option Token) → (length items ≤ n) ⊎ (length sorts ≤ n) →
      first_of (ungrouped_items keys (drop n items) (map last_word (drop n sorts))) ≡ whole → None ≡ whole
  items-passed items sorts n whole (inl le) so =
      sym (ap (λ l. first_of (ungrouped_items keys l (map last_word (drop n sorts)))) (drop_of_length-le items le) ∙ ap first_of (no-items (map last_word (drop n sorts)))) ∙ so
  items-passed items sorts n whole (inr le) so =
      sym (ap (λ l. first_of (ungrouped_items keys (drop n items) (map last_word l))) (drop_of_length-le sorts le) ∙ ap first_of (no-words (drop n items))) ∙ so

-- the less of two is passed where one of them is
pub one-passed : (a b n : ℕ) → min a b ≤ n → (a ≤ n) ⊎ (b ≤ n)
one-passed a b n le = ⊎_elim
    (λ (h : nat_lt n a ≡ true). let lt : n < a = ltb-true n a h in inr (omega (arith, le, lt)))
    (λ (h : nat_lt n a ≡ false). inl (kept-by n a h))
    (cases_Bool (nat_lt n a))

-- whether something is there
pub some-from : {A : Type 0} (o : Option A) → is_some o ≡ true → (x : A) × (o ≡ Some x)
some-from None is = absurd (cc (is))
some-from (Some x) is = (x, refl)

-- the first of two lists of words
pub first-front : (xs ys : List Token) (t : Token) → first_of xs ≡ Some t → first_of (xs ++ ys) ≡ Some t
first-front [] ys t is = absurd (cc (is))
first-front (x ∷ xs) ys t is = is

pub first-back : (xs ys : List Token) → first_of xs ≡ None → first_of (xs ++ ys) ≡ first_of ys
first-back [] ys is = refl
first-back (x ∷ xs) ys is = absurd (cc (is))

-- what is told of the first one
pub told-first : {A : Type 0} (ts : List Token) (t : Token) (x : A) → first_of ts ≡ Some t → none_of ts x ≡ Err (fault_at S18 t)
told-first [] t x is = absurd (cc (is))
told-first (u ∷ ts) t x is = let same : u ≡ t = cc (is) in ap (λ (v : Token). Err (fault_at S18 v)) same

pub told-none : {A : Type 0} (ts : List Token) (x : A) → first_of ts ≡ None → none_of ts x ≡ Ok x
told-none [] x is = refl
told-none (u ∷ ts) x is = absurd (cc (is))
