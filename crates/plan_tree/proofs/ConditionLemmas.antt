-- The conditions of an index, as the clauses that have their numbers.
use Rattle.std.proofs.Common.{◌≡◌, ◌<◌, ◌↔◌, ◌+◌, ℕ, suc, Bool, true, false, cond, ◌&&◌, ◌||◌, nat_lt, List, [], ◌∷◌, length, Some, None, option_map, refl, sym, ◌∙◌, ap, IsTrue, arith}
use Rattle.std.specs.List.{cons_option}
use Rattle.std.proofs.lemmas.Bool.{eq-eqb, lt-ltb, true≢false}
use Rattle.sql_query.specs.opfamily_classes_Method.{Method}
use Rattle.sql_query.specs.opfamily_classes_Method_TheVariants.{Btree, Hash}
use Rattle.pg_base.specs.declared.numbers.IndexNo.{IndexNo}
use Rattle.pg_expr.specs.Cond.{Cond}
use Rattle.sql_query.specs.catalog_Contents.{Contents, index_at}
use Rattle.eq_classes.specs.Clauses.{Clause, Set, ClassTable}
use Rattle.eq_classes.specs.Listing.{clause_at}
use Rattle.index_match.specs.Numbered.{Numbered, conditions_of, has_number}
use Rattle.index_match.specs.Conditions.{index_conditions}
use Rattle.index_match.specs.work.Slots.{chosen_from, is_found, is_number, least, numbered_at, numbered_from}
use Rattle.index_match.proofs.FoundLemmas.{btree_conditions, chosen_numbers, hash_conditions}
use Rattle.index_match.proofs.PartLemmas.{conditions_local}
use Rattle.path_cost.specs.Estimates.{conditions_from}
use Rattle.path_cost.proofs.KeptLemmas.{from-same}

-- the conditions of a chosen part
numbered-conditions : (n : ℕ) (chosen : ℕ → Bool) (ks : List Clause) → conditions_of (numbered_from n (chosen_from n chosen ks)) ≡ conditions_from n chosen ks
numbered-conditions n chosen [] = refl
numbered-conditions n chosen (k ∷ ks) = by (chosen n) (numbered-conditions (n + 1) chosen ks)
  where
    by : (b : Bool) → conditions_of (numbered_from (n + 1) (chosen_from (n + 1) chosen ks)) ≡ conditions_from (n + 1) chosen ks
        → conditions_of (cons_option (option_map (numbered_at n) (cond b (Some k.cond) None)) (numbered_from (n + 1) (chosen_from (n + 1) chosen ks))) ≡ cond b (k.cond ∷ conditions_from (n + 1) chosen ks) (conditions_from (n + 1) chosen ks)
    by true later = ap (λ (es : List Cond). k.cond ∷ es) later
    by false later = later

below-and : (n m : ℕ) (b : Bool) → n < m → nat_lt n m && b ≡ b
below-and n m b lt = ap (λ a. a && b) (lt-ltb n m lt)

-- a chosen part has the conditions of the clauses with its numbers
part-conditions : (cs : List Numbered) (chosen : ℕ → Bool) (ks : List Clause) → numbered_from 0 (chosen_from 0 chosen ks) ≡ cs → conditions_of cs ≡ conditions_from 0 (has_number cs) ks
part-conditions cs chosen ks e =
    sym (ap conditions_of e) ∙ numbered-conditions 0 chosen ks
    ∙ from-same 0 chosen (has_number cs) ks (λ i lt.
    let at : 0 + i ≡ i = omega arith in
    ap chosen at ∙ sym (below-and i (length ks) (chosen i) lt) ∙ sym (chosen_numbers chosen ks i) ∙ ap (λ xs. has_number xs i) e ∙ sym (ap (has_number cs) at))

module _ (c : Contents) (t : ClassTable) (i : IndexNo) (r : ℕ) (p : Set) where
  abbrev all : ℕ → Bool
  all j = nat_lt j (length t.clauses) && is_found (index_at c i) r p (clause_at t.clauses j)

  pub conditions-listed : conditions_of (index_conditions c t i r p) ≡ conditions_from 0 (has_number (index_conditions c t i r p)) t.clauses
  conditions-listed = by (index_at c i).method refl
    where
      by : (m : Method) → (index_at c i).method ≡ m → conditions_of (index_conditions c t i r p) ≡ conditions_from 0 (has_number (index_conditions c t i r p)) t.clauses
      by Btree is = part-conditions (index_conditions c t i r p) all t.clauses (btree_conditions (index_at c i) t r p all (λ j. refl) is)
      by Hash is = part-conditions (index_conditions c t i r p) (λ j. is_number j (least all (length t.clauses))) t.clauses
          (hash_conditions (index_at c i) t r p all (λ j. refl) is (λ j. is_number j (least all (length t.clauses))) (λ j. refl))

  -- there is a condition where some clause has the number of one
  pub some-condition : (b : Bool) (found : ℕ → Bool) → ((n : ℕ) → found n ≡ has_number (index_conditions c t i r p) n) → IsTrue b ↔ ((n : ℕ) × (n < length t.clauses) × IsTrue (found n)) →
      b ≡ nat_lt 0 (length (index_conditions c t i r p))
  some-condition b found are h = by (index_conditions c t i r p) refl b h
    where
      by : (cs : List Numbered) → index_conditions c t i r p ≡ cs → (b : Bool) → IsTrue b ↔ ((n : ℕ) × (n < length t.clauses) × IsTrue (found n)) → b ≡ nat_lt 0 (length cs)
      by [] e true h =
          let one = h.0 refl in
          absurd (true≢false (sym one.2 ∙ are one.0 ∙ ap (λ xs. has_number xs one.0) e))
      by [] e false h = refl
      by (x ∷ xs) e true h = sym (lt-ltb 0 (suc (length xs)) (omega arith))
      by (x ∷ xs) e false h =
          let there : has_number (index_conditions c t i r p) x.number ≡ true =
          ap (λ ys. has_number ys x.number) e ∙ ap (λ a. a || has_number xs x.number) (eq-eqb x.number x.number refl) in
          absurd (true≢false (sym (h.1 (x.number, (conditions_local c t i r p x.number there).0, are x.number ∙ there))))

  -- the relations that a set with the numbers of the conditions names are those that these name
  pub names-listed : (found : ℕ → Bool) → ((n : ℕ) → found n ≡ has_number (index_conditions c t i r p) n) → conditions_from 0 found t.clauses ≡ conditions_of (index_conditions c t i r p)
  names-listed found are = (λ z. conditions_from 0 (λ n. are n z) t.clauses) ∙ sym conditions-listed
