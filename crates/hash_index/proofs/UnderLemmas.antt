-- A slot put behind another one: which slots stand behind which then.
use Rattle.std.proofs.Common.{◌≡◌, ◌≢◌, ℕ, ◌<◌, Bool, true, false, cond, not, ◌||◌, eqb, List, [], ◌∷◌, length, map, refl, sym, ap, ◌∙◌, arith}
use Rattle.std.proofs.lemmas.Bool.{eqb-true, ne_eqb, eq-eqb}
use Rattle.std.proofs.lemmas.List.{get_or-map, get_or-set_other, get_or-set_same, length-set, length-map}
use Rattle.linked.specs.work.Lists.{AreLists, has, list_of, behind, put_after, without, with_after, with_alone}
use Rattle.linked.proofs.ListLemmas.{put_parts}
use Rattle.linked.proofs.ChangeLemmas.{put_has_other, without_has_other, put-behind}
use Rattle.hash_index.specs.work.Chains.{stands_behind}

without_behind : (slot h s : ℕ) (xs : List ℕ) → h ≢ slot → s ≢ slot → has s (behind h xs) ≡ true → has s (behind h (without slot xs)) ≡ true
without_behind slot h s [] hs ss e = e
without_behind slot h s (x ∷ xs) hs ss e = by (eqb slot x) refl (eqb h x) refl e (without_behind slot h s xs hs ss)
  where
    by : (a : Bool) → eqb slot x ≡ a → (b : Bool) → eqb h x ≡ b → has s (cond b xs (behind h xs)) ≡ true → (has s (behind h xs) ≡ true → has s (behind h (without slot xs)) ≡ true) → has s (behind h (cond (not a) (x ∷ without slot xs) (without slot xs))) ≡ true
    by true e' true f g more = absurd (hs (eqb-true h x f ∙ sym (eqb-true slot x e')))
    by true e' false f g more = more g
    by false e' true f g more = ap (λ b. has s (cond b (without slot xs) (behind h (without slot xs)))) f ∙ without_has_other slot s ss xs ∙ g
    by false e' false f g more = ap (λ b. has s (cond b (without slot xs) (behind h (without slot xs)))) f ∙ more g

-- a slot taken out and put behind another one
module _ (lists apart put : List (List ℕ)) (at slot : ℕ) (first : apart ≡ with_alone slot lists) (then' : put ≡ with_after at slot apart) (at_in : at < length lists) (slot_in : slot < length lists) (differ : at ≢ slot) where
  pub apart_many : length apart ≡ length lists
  apart_many = ap (λ (l : List (List ℕ)). length l) first ∙ length-set (map (without slot) lists) slot (slot ∷ []) ∙ length-map lists (without slot)

  pub apart_alone : list_of apart slot ≡ slot ∷ []
  apart_alone = ap (λ l. list_of l slot) first ∙ get_or-set_same (map (without slot) lists) slot (slot ∷ []) [] (omega (arith, length-map lists (without slot)))

  pub put_many : length put ≡ length lists
  put_many = ap (λ (l : List (List ℕ)). length l) then' ∙ length-set (map (put_after at slot) apart) slot (put_after at slot (list_of apart at)) ∙ length-map apart (put_after at slot) ∙ apart_many

  apart_list : (h : ℕ) → h < length lists → h ≢ slot → list_of apart h ≡ without slot (list_of lists h)
  apart_list h lt ne = ap (λ l. list_of l h) first ∙ get_or-set_other (map (without slot) lists) slot h (slot ∷ []) [] ne ∙ get_or-map (without slot) lists h [] [] lt

  put_list : (h : ℕ) → h < length lists → h ≢ slot → list_of put h ≡ put_after at slot (list_of apart h)
  put_list h lt ne = ap (λ l. list_of l h) then' ∙ get_or-set_other (map (put_after at slot) apart) slot h (put_after at slot (list_of apart at)) [] ne ∙ get_or-map (put_after at slot) apart h [] [] (omega (arith, apart_many))

  pub put_kept : (h s : ℕ) → h < length lists → h ≢ slot → s ≢ slot → stands_behind lists h s ≡ true → stands_behind put h s ≡ true
  put_kept h s lt hs ss e =
      ap (λ l. has s (behind h l)) (put_list h lt hs)
      ∙ put-behind at slot h s (list_of apart h) hs ss (ap (λ l. has s (behind h l)) (apart_list h lt hs) ∙ without_behind slot h s (list_of lists h) hs ss e)

  pub put_stands : AreLists apart → stands_behind put at slot ≡ true
  put_stands lawful =
      ap (λ l. has slot (behind at l)) (put_list at at_in differ)
      ∙ ap (has slot) (put_parts at slot (list_of apart at) (lawful.stands at (omega (arith, apart_many)))).0
      ∙ ap (λ b. b || has slot (behind at (list_of apart at))) (eq-eqb slot slot refl)
