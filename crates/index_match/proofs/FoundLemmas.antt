-- The clauses of a set of numbers, as a part of the numbered list.
use Rattle.std.proofs.Common.{◌≡◌, ◌<◌, ◌≤◌, ◌+◌, ℕ, zero, suc, Bool, true, false, not, cond, ◌&&◌, nat_lt, List, [], ◌∷◌, length, map, filter, find, take, Option, Some, None, inl, inr, option_map, slice_index_or, refl, sym, ap, ap₂, ◌∙◌, arith}
use Rattle.std.specs.Prelude.{IfSome}
use Rattle.std.specs.List.{cons_option, enumerate_from, range_with_len}
use Rattle.std.proofs.lemmas.Bool.{eq-eqb, ne_eqb, lt-ltb, cases_lt, le-ltb}
use Rattle.std.proofs.lemmas.List.{get_or_default}
use Rattle.catalog.specs.opfamily_classes_Method.{Method}
use Rattle.catalog.specs.opfamily_classes_Method_TheVariants.{Btree, Hash}
use Rattle.pg_expr.specs.Cond.{Cond}
use Rattle.pg_base.specs.declared.numbers.IndexNo.{IndexNo}
use Rattle.catalog.specs.Contents.{Contents, index_at}
use Rattle.catalog.specs.Indexes.{Index}
use Rattle.eq_classes.specs.Clauses.{Clause, Set, ClassTable}
use Rattle.eq_classes.specs.Listing.{clause_at}
use Rattle.eq_classes.proofs.WordLemmas.{grown}
use Rattle.index_match.specs.Numbered.{Numbered, numbered, has_number, those, local, conditions_of}
use Rattle.index_match.specs.Conditions.{is_condition, allowed, conditions_among, index_conditions}
use Rattle.index_match.specs.Bounds.{bounds_among, index_bounds}
use Rattle.index_match.specs.work.Bounds.{index_tests}
use Rattle.index_match.specs.work.Slots.{chosen_from, placed, numbered_at, numbered_from, passes, is_found, is_number, least, bound_at}
use Rattle.index_match.proofs.SlotLemmas.{chosen_length, chosen_at}
use Rattle.index_match.proofs.BoundLemmas.{numbered_places, bounds_are, number_filter}
use Rattle.eq_classes.specs.Parts.{is_local}

pub ruleset finding = (grown)

abbrev clauses_from : (Clause → Bool) → ℕ → List Clause → List Numbered
clauses_from test n ks = map (λ (p : ℕ × Clause). numbered (p.0, p.1.cond)) (filter (λ (p : ℕ × Clause). test p.1) (enumerate_from n ks))

-- the set has the numbers of the clauses that pass a test
chosen_are : (test : Clause → Bool) (chosen : ℕ → Bool) (n : ℕ) (ks : List Clause) → ((i : ℕ) (d : Clause) → i < length ks → chosen (n + i) ≡ test (slice_index_or ks i d)) →
    numbered_from n (chosen_from n chosen ks) ≡ clauses_from test n ks
chosen_are test chosen n [] agree = refl
chosen_are test chosen n (k ∷ ks) agree =
    let here : n ≡ n + 0 = omega arith in
    by (chosen_are test chosen (n + 1) ks (λ i d lt. let next : n + 1 + i ≡ n + suc i = omega arith in ap chosen next ∙ agree (suc i) d (omega (arith, lt)))) (test k) (ap chosen here ∙ agree 0 k (omega arith))
  where
    by : numbered_from (n + 1) (chosen_from (n + 1) chosen ks) ≡ clauses_from test (n + 1) ks → (b : Bool) → chosen n ≡ b
        → cons_option (option_map (numbered_at n) (cond (chosen n) (Some k.cond) None)) (numbered_from (n + 1) (chosen_from (n + 1) chosen ks))
        ≡ map (λ (p : ℕ × Clause). numbered (p.0, p.1.cond)) (cond b ((n, k) ∷ filter (λ (p : ℕ × Clause). test p.1) (enumerate_from (n + 1) ks)) (filter (λ (p : ℕ × Clause). test p.1) (enumerate_from (n + 1) ks)))
    by later true e = ap₂ (λ (a : Bool) (cs : List Numbered). cons_option (option_map (numbered_at n) (cond a (Some k.cond) None)) cs) e later
    by later false e = ap₂ (λ (a : Bool) (cs : List Numbered). cons_option (option_map (numbered_at n) (cond a (Some k.cond) None)) cs) e later

pub those_are : (t : ClassTable) (test : Clause → Bool) (chosen : ℕ → Bool) → ((j : ℕ) → chosen j ≡ nat_lt j (length t.clauses) && test (clause_at t.clauses j)) →
    numbered_from 0 (chosen_from 0 chosen t.clauses) ≡ those t test
those_are t test chosen agree = chosen_are test chosen 0 t.clauses (λ i d lt.
    let here : 0 + i ≡ i = omega arith in
    ap chosen here ∙ agree i ∙ ap (λ (b : Bool). b && test (clause_at t.clauses i)) (lt-ltb i (length t.clauses) lt) ∙ ap test (get_or_default t.clauses i _ d lt))

filter_twice : (test : Clause → Bool) (cond_test : Cond → Bool) (n : ℕ) (ks : List Clause) →
    filter (λ (c : Numbered). cond_test c.cond) (clauses_from test n ks) ≡ clauses_from (λ k. test k && cond_test k.cond) n ks
filter_twice test cond_test n [] = refl
filter_twice test cond_test n (k ∷ ks) = by (filter_twice test cond_test (n + 1) ks) (test k)
  where
    by : filter (λ (c : Numbered). cond_test c.cond) (clauses_from test (n + 1) ks) ≡ clauses_from (λ k. test k && cond_test k.cond) (n + 1) ks → (b : Bool)
        → filter (λ (c : Numbered). cond_test c.cond) (map (λ (p : ℕ × Clause). numbered (p.0, p.1.cond)) (cond b ((n, k) ∷ filter (λ (p : ℕ × Clause). test p.1) (enumerate_from (n + 1) ks)) (filter (λ (p : ℕ × Clause). test p.1) (enumerate_from (n + 1) ks))))
        ≡ map (λ (p : ℕ × Clause). numbered (p.0, p.1.cond)) (cond (b && cond_test k.cond) ((n, k) ∷ filter (λ (p : ℕ × Clause). test p.1 && cond_test p.1.cond) (enumerate_from (n + 1) ks)) (filter (λ (p : ℕ × Clause). test p.1 && cond_test p.1.cond) (enumerate_from (n + 1) ks)))
    by later false = later
    by later true = by_cond later (cond_test k.cond)
      where
        by_cond : filter (λ (c : Numbered). cond_test c.cond) (clauses_from test (n + 1) ks) ≡ clauses_from (λ k. test k && cond_test k.cond) (n + 1) ks → (b : Bool)
            → cond b (numbered (n, k.cond) ∷ filter (λ (c : Numbered). cond_test c.cond) (clauses_from test (n + 1) ks)) (filter (λ (c : Numbered). cond_test c.cond) (clauses_from test (n + 1) ks))
            ≡ map (λ (p : ℕ × Clause). numbered (p.0, p.1.cond)) (cond b ((n, k) ∷ filter (λ (p : ℕ × Clause). test p.1 && cond_test p.1.cond) (enumerate_from (n + 1) ks)) (filter (λ (p : ℕ × Clause). test p.1 && cond_test p.1.cond) (enumerate_from (n + 1) ks)))
        by_cond later true = ap (λ (cs : List Numbered). numbered (n, k.cond) ∷ cs) later
        by_cond later false = later

-- a set that has no number from one on
nothing_chosen : (one : ℕ → Bool) (n : ℕ) (ks : List Clause) → ((j : ℕ) → n ≤ j → one j ≡ false) → numbered_from n (chosen_from n one ks) ≡ []
nothing_chosen one n [] none = refl
nothing_chosen one n (k ∷ ks) none =
    ap₂ (λ (a : Bool) (cs : List Numbered). cons_option (option_map (numbered_at n) (cond a (Some k.cond) None)) cs) (none n (omega arith)) (nothing_chosen one (n + 1) ks (λ j le. none j (omega (arith, le))))

found_from : (chosen : ℕ → Bool) (n len : ℕ) → IfSome (find chosen (range_with_len n len)) (λ m. n ≤ m)
found_from chosen n zero = tt
found_from chosen n (suc len) = by (found_from chosen (n + 1) len) (chosen n)
  where
    more : (o : Option ℕ) → IfSome o (λ m. n + 1 ≤ m) → IfSome o (λ m. n ≤ m)
    more None h = tt
    more (Some m) h = omega (arith, h)

    by : IfSome (find chosen (range_with_len (n + 1) len)) (λ m. n + 1 ≤ m) → (b : Bool) → IfSome (cond b (Some n) (find chosen (range_with_len (n + 1) len))) (λ m. n ≤ m)
    by later true = omega arith
    by later false = more (find chosen (range_with_len (n + 1) len)) later

not_yet : (n : ℕ) (o : Option ℕ) → IfSome o (λ m. n + 1 ≤ m) → is_number n o ≡ false
not_yet n None h = refl
not_yet n (Some m) h = ne_eqb n m (λ same. omega (arith, h, same))

-- the least number alone leaves the first clause
first_alone : (chosen one : ℕ → Bool) (n : ℕ) (ks : List Clause) → ((j : ℕ) → one j ≡ is_number j (find chosen (range_with_len n (length ks)))) →
    numbered_from n (chosen_from n one ks) ≡ take 1 (numbered_from n (chosen_from n chosen ks))
first_alone chosen one n [] agree = refl
first_alone chosen one n (k ∷ ks) agree = by (first_alone chosen one (n + 1) ks) (chosen n) agree
  where
    by : (((j : ℕ) → one j ≡ is_number j (find chosen (range_with_len (n + 1) (length ks)))) → numbered_from (n + 1) (chosen_from (n + 1) one ks) ≡ take 1 (numbered_from (n + 1) (chosen_from (n + 1) chosen ks)))
        → (b : Bool) → ((j : ℕ) → one j ≡ is_number j (cond b (Some n) (find chosen (range_with_len (n + 1) (length ks)))))
        → cons_option (option_map (numbered_at n) (cond (one n) (Some k.cond) None)) (numbered_from (n + 1) (chosen_from (n + 1) one ks))
        ≡ take 1 (cons_option (option_map (numbered_at n) (cond b (Some k.cond) None)) (numbered_from (n + 1) (chosen_from (n + 1) chosen ks)))
    by later true agree =
        ap₂ (λ (a : Bool) (cs : List Numbered). cons_option (option_map (numbered_at n) (cond a (Some k.cond) None)) cs) (agree n ∙ eq-eqb n n refl)
        (nothing_chosen one (n + 1) ks (λ j le. agree j ∙ ne_eqb j n (λ same. omega (arith, le, same))))
    by later false agree =
        ap (λ (a : Bool). cons_option (option_map (numbered_at n) (cond a (Some k.cond) None)) (numbered_from (n + 1) (chosen_from (n + 1) one ks)))
        (agree n ∙ not_yet n (find chosen (range_with_len (n + 1) (length ks))) (found_from chosen (n + 1) (length ks)))
        ∙ later agree

module _ (d : Index) (t : ClassTable) (r : ℕ) (p : Set) (all : ℕ → Bool) (agree : (j : ℕ) → all j ≡ nat_lt j (length t.clauses) && is_found d r p (clause_at t.clauses j)) where
  all_conditions : numbered_from 0 (chosen_from 0 all t.clauses) ≡ filter (λ (c : Numbered). is_condition d r c.cond) (local t r p)
  all_conditions = those_are t (is_found d r p) all agree ∙ sym (filter_twice (is_local r p) (is_condition d r) 0 t.clauses)

  -- the conditions of a B-tree
  pub btree_conditions : d.method ≡ Btree → numbered_from 0 (chosen_from 0 all t.clauses) ≡ conditions_among d r (local t r p)
  btree_conditions is = all_conditions ∙ ap (λ (m : Method). allowed m (filter (λ (c : Numbered). is_condition d r c.cond) (local t r p))) (sym is)

  -- the condition of a hash index
  pub hash_conditions : d.method ≡ Hash → (one : ℕ → Bool) → ((j : ℕ) → one j ≡ is_number j (least all (length t.clauses))) → numbered_from 0 (chosen_from 0 one t.clauses) ≡ conditions_among d r (local t r p)
  hash_conditions is one first =
      first_alone all one 0 t.clauses first ∙ ap (λ (cs : List Numbered). take 1 cs) all_conditions
      ∙ ap (λ (m : Method). allowed m (filter (λ (c : Numbered). is_condition d r c.cond) (local t r p))) (sym is)

-- the numbers of a chosen part
pub chosen_numbers : (chosen : ℕ → Bool) (ks : List Clause) (j : ℕ) → has_number (numbered_from 0 (chosen_from 0 chosen ks)) j ≡ nat_lt j (length ks) && chosen j
chosen_numbers chosen ks j =
    numbered_places (chosen_from 0 chosen ks) j
    ∙ ap (λ (n : ℕ). nat_lt j n && passes (λ e. true) (slice_index_or (chosen_from 0 chosen ks) j None)) (chosen_length 0 chosen ks)
    ∙ elim (cases_lt j (length ks)) [
      | inl lt ↦ ap (λ (s : Option Cond). nat_lt j (length ks) && passes (λ e. true) s) (chosen_at chosen ks j _ lt) ∙ ap (λ (b : Bool). nat_lt j (length ks) && b) (told (chosen j) (clause_at ks j).cond)
      | inr ge ↦ beyond (nat_lt j (length ks)) (le-ltb j (length ks) ge)
    ]
  where
    told : (b : Bool) (e : Cond) → passes (λ f. true) (cond b (Some e) None) ≡ b
    told true e = refl
    told false e = refl

    beyond : (b : Bool) → b ≡ false → b && passes (λ e. true) (slice_index_or (chosen_from 0 chosen ks) j None) ≡ b && chosen j
    beyond b e = ap (λ (a : Bool). a && passes (λ f. true) (slice_index_or (chosen_from 0 chosen ks) j None)) e ∙ sym (ap (λ (a : Bool). a && chosen j) e)

conditions_placed : (n : ℕ) (ss : List (Option Cond)) → conditions_of (numbered_from n ss) ≡ placed ss
conditions_placed n [] = refl
conditions_placed n (None ∷ ss) = conditions_placed (n + 1) ss
conditions_placed n (Some e ∷ ss) = ap (λ (es : List Cond). e ∷ es) (conditions_placed (n + 1) ss)

-- the conditions of a chosen part are those of its clauses
pub placed_are : (t : ClassTable) (test : Clause → Bool) (chosen : ℕ → Bool) → ((j : ℕ) → chosen j ≡ nat_lt j (length t.clauses) && test (clause_at t.clauses j)) →
    placed (chosen_from 0 chosen t.clauses) ≡ conditions_of (those t test)
placed_are t test chosen agree = sym (conditions_placed 0 (chosen_from 0 chosen t.clauses)) ∙ ap conditions_of (those_are t test chosen agree)

-- the answers of a match, from the conditions found
module _ (c : Contents) (t : ClassTable) (i : IndexNo) (r : ℕ) (p : Set) (d : Index) (at : d ≡ index_at c i)
    (found : ℕ → Bool) (conditions : numbered_from 0 (chosen_from 0 found t.clauses) ≡ conditions_among d r (local t r p))
    (bounds : ℕ → Bool) (bound : (j : ℕ) → bounds j ≡ bound_at d.method r d.keys (chosen_from 0 found t.clauses) j) where
  conditions_are : numbered_from 0 (chosen_from 0 found t.clauses) ≡ index_conditions c t i r p
  conditions_are = conditions ∙ ap (λ (x : Index). conditions_among x r (local t r p)) at

  pub bounds_found : (j : ℕ) → bounds j ≡ has_number (index_bounds c t i r p) j
  bounds_found j =
      bound j ∙ sym (bounds_are d r (chosen_from 0 found t.clauses) j)
      ∙ ap₂ (λ (x : Index) (cs : List Numbered). has_number (bounds_among x r cs) j) at conditions_are

  pub tests_found : (tests : ℕ → Bool) → ((j : ℕ) → tests j ≡ nat_lt j (length t.clauses) && (found j && not (bounds j))) → (j : ℕ) → tests j ≡ has_number (index_tests c t i r p) j
  tests_found tests agree j =
      agree j ∙ and_three (nat_lt j (length t.clauses)) (found j) (not (bounds j))
      ∙ ap₂ (λ (a b : Bool). a && not b) (sym (chosen_numbers found t.clauses j) ∙ ap (λ (cs : List Numbered). has_number cs j) conditions_are) (bounds_found j)
      ∙ sym (number_filter (λ n. not (has_number (index_bounds c t i r p) n)) (index_conditions c t i r p) j)
    where
      and_three : (a b e : Bool) → a && (b && e) ≡ (a && b) && e
      and_three true b e = refl
      and_three false b e = refl
