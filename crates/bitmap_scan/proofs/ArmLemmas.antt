-- The matching index of least part for each arm of an OR clause.
use Rattle.std.proofs.Common.{◌≡◌, ◌<◌, ◌≤◌, ◌⊎◌, ℕ, suc, ◌+◌, Bool, true, false, cond, ◌||◌, nat_eq, nat_le, List, [], ◌∷◌, ◌++◌, length, drop, sum, get_or, refl, sym, ◌∙◌, ap, subst, arith, inl, inr, le_refl, true≢false}
use Rattle.std.specs.Prelude.{Option, Some, None, IfSome}
use Rattle.std.specs.List.{AllZip}
use Rattle.std.proofs.Math.ListN.{drop_of_length-le}
use Rattle.std.proofs.lemmas.Grind.{common_steps}
use Rattle.std.proofs.lemmas.List.{drop_more}
use Rattle.std.proofs.lemmas.Bool.{leb-true, eqb-true}
use Rattle.pg_base.specs.Sets.{has}
use Rattle.pg_base.specs.declared.numbers.IndexNo.{IndexNo}
use Rattle.pg_base.specs.declared.numbers.RelNo.{RelNo}
use Rattle.pg_base.specs.declared.rel_set.RelSet.{RelSet}
use Rattle.pg_expr.specs.Cond.{Cond}
use Rattle.catalog.specs.Contents.{Contents}
use Rattle.sql_query.specs.Queries.{Query}
use Rattle.cost_rules.specs.work.Costs.{capped}
use Rattle.index_match.specs.Arms.{arms_of}
use Rattle.plan_tree.specs.Plans.{BitTree, leaf, all_hold, some_arm}
use Rattle.plan_tree.specs.Bitmaps.{HasArms, MatchesArm, by_clause, condition_at, element_of}
use Rattle.plan_tree.specs.Costs.{part_of, parts_of_arms, together}
use Rattle.plan_tree.proofs.ElementLemmas.{is-listed}
use Rattle.bitmap_scan.specs.work.Arms.{AreServed, IsLeastMatch, lesser, part_for}
use Rattle.bitmap_scan.specs.work.Chosen.{IsLeastTree}
use Rattle.bitmap_scan.proofs.LeastLemmas.{capped-cons, capped-together}

above : (m n : ℕ) → nat_le m n ≡ false → n ≤ m
above m n e = grind (arith, common_steps)

-- an index among some is the first of them or among the others
first-or-later : (x j : IndexNo) (ys : List IndexNo) → is-listed j (x ∷ ys) ≡ true → (x ≡ j) ⊎ (is-listed j ys ≡ true)
first-or-later x j ys h = by (nat_eq x.0 j.0) refl h
  where
    by : (b : Bool) → nat_eq x.0 j.0 ≡ b → b || is-listed j ys ≡ true → (x ≡ j) ⊎ (is-listed j ys ≡ true)
    by true e g = inl (ap (λ (n : ℕ). let i : IndexNo = record { 0 = n } in i) (eqb-true x.0 j.0 e))
    by false e g = inr g

module _ (P : IndexNo → Type 0) (f : IndexNo → ℕ) where
  -- the best one's number is not above an index's
  abbrev pub IsBeaten : IndexNo → Option (IndexNo × ℕ) → Type 0
  IsBeaten j None = ⊥
  IsBeaten j (Some b) = b.1 ≤ f j

  -- the best of the indexes that have a property, where some are left to be looked at
  pub record BestSoFar (left : List IndexNo) (best : Option (IndexNo × ℕ)) : Type 0 where
    pub found : IfSome best (λ b. P b.0 × (b.1 ≡ f b.0))
    pub each : (j : IndexNo) → P j → (is-listed j left ≡ true) ⊎ IsBeaten j best

  pub best-none : (xs : List IndexNo) → ((j : IndexNo) → P j → is-listed j xs ≡ true) → BestSoFar xs None
  best-none xs h = record { found = tt; each = λ j p. inl (h j p) }

  passed-one : (x : IndexNo) (ys : List IndexNo) (best : Option (IndexNo × ℕ)) → ¬ P x → BestSoFar (x ∷ ys) best → BestSoFar ys best
  passed-one x ys best none h = record { found = h.found; each = λ j p. by j p (h.each j p) }
    where
      by : (j : IndexNo) → P j → (is-listed j (x ∷ ys) ≡ true) ⊎ IsBeaten j best → (is-listed j ys ≡ true) ⊎ IsBeaten j best
      by j p (inl there) = elim (first-or-later x j ys there) [ inl same ↦ absurd (none (subst P (sym same) p)) | inr later ↦ inl later ]
      by j p (inr beaten) = inr beaten

  lesser-found : (best : Option (IndexNo × ℕ)) (x : IndexNo) (n : ℕ) → IfSome best (λ b. P b.0 × (b.1 ≡ f b.0)) → P x → n ≡ f x → IfSome (lesser best x n) (λ b. P b.0 × (b.1 ≡ f b.0))
  lesser-found None x n h p e = (p, e)
  lesser-found (Some b) x n h p e = by (nat_le b.1 n)
    where
      by : (t : Bool) → IfSome (cond t (Some b) (Some (x, n))) (λ d. P d.0 × (d.1 ≡ f d.0))
      by true = h
      by false = (p, e)

  lesser-beats : (best : Option (IndexNo × ℕ)) (x j : IndexNo) (n : ℕ) → IsBeaten j best → IsBeaten j (lesser best x n)
  lesser-beats None x j n h = absurd h
  lesser-beats (Some b) x j n h = by (nat_le b.1 n) refl
    where
      by : (t : Bool) → nat_le b.1 n ≡ t → IsBeaten j (cond t (Some b) (Some (x, n)))
      by true e = h
      by false e = let le = above b.1 n e in omega (arith, le, h)

  lesser-itself : (best : Option (IndexNo × ℕ)) (x : IndexNo) (n : ℕ) → n ≡ f x → IsBeaten x (lesser best x n)
  lesser-itself None x n e = omega (arith, e)
  lesser-itself (Some b) x n e = by (nat_le b.1 n) refl
    where
      by : (t : Bool) → nat_le b.1 n ≡ t → IsBeaten x (cond t (Some b) (Some (x, n)))
      by true g = let le = leb-true b.1 n g in omega (arith, le, e)
      by false g = omega (arith, e)

  taken-one : (x : IndexNo) (ys : List IndexNo) (best : Option (IndexNo × ℕ)) (n : ℕ) → P x → n ≡ f x → BestSoFar (x ∷ ys) best → BestSoFar ys (lesser best x n)
  taken-one x ys best n is e h = record { found = lesser-found best x n h.found is e; each = λ j p. by j (h.each j p) }
    where
      by : (j : IndexNo) → (is-listed j (x ∷ ys) ≡ true) ⊎ IsBeaten j best → (is-listed j ys ≡ true) ⊎ IsBeaten j (lesser best x n)
      by j (inl there) = elim (first-or-later x j ys there) [ inl same ↦ inr (subst (λ (k : IndexNo). IsBeaten k (lesser best x n)) same (lesser-itself best x n e)) | inr later ↦ inl later ]
      by j (inr beaten) = inr (lesser-beats best x j n beaten)

  pub best-passed : (xs : List IndexNo) (k : ℕ) (d : IndexNo) (best : Option (IndexNo × ℕ)) → k < length xs → ¬ P (get_or xs k d) → BestSoFar (drop k xs) best → BestSoFar (drop (k + 1) xs) best
  best-passed xs k d best lt none h = passed-one (get_or xs k d) (drop (k + 1) xs) best none (subst (λ (ys : List IndexNo). BestSoFar ys best) (drop_more xs k d lt) h)

  pub best-taken : (xs : List IndexNo) (k : ℕ) (d : IndexNo) (best : Option (IndexNo × ℕ)) (n : ℕ) → k < length xs → P (get_or xs k d) → n ≡ f (get_or xs k d) → BestSoFar (drop k xs) best → BestSoFar (drop (k + 1) xs) (lesser best (get_or xs k d) n)
  best-taken xs k d best n lt is e h = taken-one (get_or xs k d) (drop (k + 1) xs) best n is e (subst (λ (ys : List IndexNo). BestSoFar ys best) (drop_more xs k d lt) h)

  pub best-all : (xs : List IndexNo) (k : ℕ) (best : Option (IndexNo × ℕ)) → length xs ≤ k → BestSoFar (drop k xs) best → (j : IndexNo) → P j → IsBeaten j best
  best-all xs k best le h j p = by (h.each j p)
    where
      by : (is-listed j (drop k xs) ≡ true) ⊎ IsBeaten j best → IsBeaten j best
      by (inl there) = absurd (true≢false (sym (subst (λ (ys : List IndexNo). is-listed j ys ≡ true) (drop_of_length-le xs le) there)))
      by (inr beaten) = beaten

  -- the index that is found in the end has the property, and its number is not above that of any other that has it
  pub best-found : (xs : List IndexNo) (k : ℕ) (x : IndexNo × ℕ) (best : Option (IndexNo × ℕ)) → length xs ≤ k → best ≡ Some x → BestSoFar (drop k xs) best → P x.0 × ((j : IndexNo) → P j → f x.0 ≤ f j)
  best-found xs k x best le e h =
      let last : BestSoFar (drop k xs) (Some x) = subst (λ (o : Option (IndexNo × ℕ)). BestSoFar (drop k xs) o) e h in
      (last.found.0, λ j p. let low : x.1 ≤ f j = best-all xs k (Some x) le last j p in omega (arith, last.found.1, low))

pub zip-push : {A B : Type 0} (R : A → B → Type 0) (xs : List A) (ys : List B) (x : A) (y : B) → AllZip R xs ys → R x y → AllZip R (xs ++ x ∷ []) (ys ++ y ∷ [])
zip-push R [] [] x y z h = (h, tt)
zip-push R [] (w ∷ ys) x y z h = absurd z
zip-push R (v ∷ xs) [] x y z h = absurd z
zip-push R (v ∷ xs) (w ∷ ys) x y z h = (z.0, zip-push R xs ys x y z.1 h)

module _ (c : Contents) (q : Query) (r : RelNo) (p : RelSet) where
  parts-push : (R : Cond → IndexNo → Type 0) (xs : List Cond) (is : List IndexNo) (x : Cond) (i : IndexNo) → AllZip R xs is → parts_of_arms c q r p (xs ++ x ∷ []) (is ++ i ∷ []) ≡ parts_of_arms c q r p xs is ++ part_for c q r p x i ∷ []
  parts-push R [] [] x i z = refl
  parts-push R [] (j ∷ is) x i z = absurd z
  parts-push R (y ∷ xs) [] x i z = absurd z
  parts-push R (y ∷ xs) (j ∷ is) x i z = ap (λ (ns : List ℕ). part_for c q r p y j ∷ ns) (parts-push R xs is x i z.1)

  parts-length : (R : Cond → IndexNo → Type 0) (xs : List Cond) (is : List IndexNo) → AllZip R xs is → length (parts_of_arms c q r p xs is) ≡ length is
  parts-length R [] [] z = refl
  parts-length R [] (j ∷ is) z = absurd z
  parts-length R (y ∷ xs) [] z = absurd z
  parts-length R (y ∷ xs) (j ∷ is) z = ap suc (parts-length R xs is z.1)

  -- one more arm
  pub served-more : (xs : List Cond) (is : List IndexNo) (n : ℕ) (x : Cond) (i : IndexNo) (m k : ℕ) → AreServed c q r p xs is n → IsLeastMatch c q r p x i → m ≡ capped (part_for c q r p x i) →
      ((ns : List ℕ) (l : ℕ) → n ≡ capped (together ns) → capped m ≡ capped l → length is ≡ length ns → k ≡ capped (together (ns ++ l ∷ []))) → AreServed c q r p (xs ++ x ∷ []) (is ++ i ∷ []) k
  served-more xs is n x i m k h least e joined = record {
    least = zip-push (IsLeastMatch c q r p) xs is x i h.least least;
    part = joined (parts_of_arms c q r p xs is) (part_for c q r p x i) h.part (omega (arith, e)) (sym (parts-length (IsLeastMatch c q r p) xs is h.least))
        ∙ ap (λ (ns : List ℕ). capped (together ns)) (sym (parts-push (IsLeastMatch c q r p) xs is x i h.least));
  }

  matches-of : (xs : List Cond) (is : List IndexNo) → AllZip (IsLeastMatch c q r p) xs is → AllZip (MatchesArm c q r.0) xs is
  matches-of [] [] z = tt
  matches-of [] (j ∷ is) z = absurd z
  matches-of (y ∷ xs) [] z = absurd z
  matches-of (y ∷ xs) (j ∷ is) z = (z.0.matches, matches-of xs is z.1)

  -- any other matching indexes have no lesser parts
  least-sums : (xs : List Cond) (is js : List IndexNo) → AllZip (IsLeastMatch c q r p) xs is → AllZip (MatchesArm c q r.0) xs js → capped (sum (parts_of_arms c q r p xs is)) ≤ capped (sum (parts_of_arms c q r p xs js))
  least-sums [] [] [] z w = le_refl (capped (sum (parts_of_arms c q r p [] [])))
  least-sums [] [] (k ∷ js) z w = absurd w
  least-sums [] (j ∷ is) js z w = absurd z
  least-sums (y ∷ xs) [] js z w = absurd z
  least-sums (y ∷ xs) (j ∷ is) [] z w = absurd w
  least-sums (y ∷ xs) (j ∷ is) (k ∷ js) z w =
      capped-cons (part_for c q r p y j) (part_for c q r p y k) (parts_of_arms c q r p xs is) (parts_of_arms c q r p xs js) (z.0.least k w.0) (least-sums xs is js z.1 w.1)

  least-parts : (xs : List Cond) (is js : List IndexNo) → AllZip (IsLeastMatch c q r p) xs is → AllZip (MatchesArm c q r.0) xs js → capped (together (parts_of_arms c q r p xs is)) ≤ capped (together (parts_of_arms c q r p xs js))
  least-parts xs is js z w =
      capped-together (parts_of_arms c q r p xs is) (parts_of_arms c q r p xs js)
      (parts-length (IsLeastMatch c q r p) xs is z ∙ sym (same-many xs is (matches-of xs is z)) ∙ same-many xs js w ∙ sym (parts-length (MatchesArm c q r.0) xs js w)) (least-sums xs is js z w)
    where
      same-many : (ys : List Cond) (ks : List IndexNo) → AllZip (MatchesArm c q r.0) ys ks → length ys ≡ length ks
      same-many [] [] v = refl
      same-many [] (k ∷ ks) v = absurd v
      same-many (y ∷ ys) [] v = absurd v
      same-many (y ∷ ys) (k ∷ ks) v = ap suc (same-many ys ks v.1)

  clause-other : (n : ℕ) (is : List IndexNo) → AllZip (IsLeastMatch c q r p) (arms_of (condition_at q n)) is → (other : BitTree) → element_of c q r.0 (has p.0) other ≡ Some (by_clause n) → HasArms c q r.0 (has p.0) other →
      capped (part_of c q r p (some_arm n is)) ≤ capped (part_of c q r p other)
  clause-other n is z (leaf i) e w = absurd (cc)
  clause-other n is z (all_hold bs) e w = absurd w
  clause-other n is z (some_arm m js) e w =
      let same : n ≡ m = cc in
      subst (λ (k : ℕ). capped (part_of c q r p (some_arm n is)) ≤ capped (part_of c q r p (some_arm k js))) same
      (least-parts (arms_of (condition_at q n)) is js z (subst (λ (k : ℕ). AllZip (MatchesArm c q r.0) (arms_of (condition_at q k)) js) (sym same) w))

  -- an OR clause with the matching index of least part for each arm
  pub clause-least : (n : ℕ) (xs : List Cond) (is : List IndexNo) (m : ℕ) → arms_of (condition_at q n) ≡ xs → AreServed c q r p xs is m → IsLeastTree c q r p (by_clause n) (some_arm n is)
  clause-least n xs is m e h =
      let z : AllZip (IsLeastMatch c q r p) (arms_of (condition_at q n)) is = subst (λ (ys : List Cond). AllZip (IsLeastMatch c q r p) ys is) (sym e) h.least in
      record { element = refl; arms = matches-of (arms_of (condition_at q n)) is z; least = clause-other n is z }

  pub clause-part : (n : ℕ) (xs : List Cond) (is : List IndexNo) (m : ℕ) → arms_of (condition_at q n) ≡ xs → AreServed c q r p xs is m → m ≡ capped (part_of c q r p (some_arm n is))
  clause-part n xs is m e h = h.part ∙ ap (λ (ys : List Cond). capped (together (parts_of_arms c q r p ys is))) (sym e)
