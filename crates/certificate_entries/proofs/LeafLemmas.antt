-- Lists of indexes read one after the other.
use Rattle.std.proofs.Common.{◌≡◌, ◌≤◌, ℕ, true, List, [], ◌∷◌, ◌++◌, codes, length, map, refl, sym, subst, arith}
use Rattle.std.specs.Prelude.{All, Option, Some, None}
use Rattle.std.proofs.lemmas.List.{length-append}
use Rattle.std.proofs.lemmas.List.Elements.{All-cons, All-push}
use Rattle.pg_base.specs.declared.numbers.IndexNo.{IndexNo}
use Rattle.catalog.specs.Contents.{Contents, IsIndex}
use Rattle.certificate_text.specs.explain_Texts.{with_commas}
use Rattle.certificate_text.specs.work.Words.{stops}
use Rattle.certificate_text.specs.Texts.{leaf_text}
use Rattle.certificate_entries.specs.work.Parts.{Reads, has_no_comma}
use Rattle.certificate_entries.proofs.ListLemmas.{IsListLeft, all-taken, first-none, first-taken, next-none, next-taken}

module _ (c : Contents) where
  pub comma : (l : List ℕ) → stops (44 ∷ l) ≡ true
  comma l = refl

  -- the indexes read so far
  pub record AreLeaves (old : List ℕ) (indexes : List IndexNo) (left : List ℕ) : Type 0 where
    pub has : All (IsIndex c) indexes
    pub some : 1 ≤ length indexes
    pub list : IsListLeft (IsIndex c) (leaf_text c) (λ r. stops r ≡ true) comma old indexes left
    pub shorter : length left ≤ length old

  pub leaves-first : (old new : List ℕ) (o : Option IndexNo) (i : IndexNo) (indexes : List IndexNo) → Reads (IsIndex c) (leaf_text c) old new o → o ≡ Some i → IsIndex c i → indexes ≡ i ∷ [] → length new ≤ length old → AreLeaves old indexes new
  leaves-first old new o i indexes item found has is less = subst (λ (l : List IndexNo). AreLeaves old l new) (sym is) (record {
    has = All-cons (IsIndex c) i [] has (λ k d lt. absurd (omega (arith, lt)));
    some = omega arith;
    list = first-taken (IsIndex c) (leaf_text c) (λ r. stops r ≡ true) comma old new o i item.only found;
    shorter = less;
  })

  pub leaves-none : (old new : List ℕ) (o : Option IndexNo) → Reads (IsIndex c) (leaf_text c) old new o → o ≡ None → (is : List IndexNo) (rest : List ℕ) → All (IsIndex c) is → 1 ≤ length is → stops rest ≡ true → old ≡ with_commas [] (map (leaf_text c) is) ++ rest → ⊥
  leaves-none old new o item none = first-none (IsIndex c) (leaf_text c) (λ r. stops r ≡ true) comma old new o item.only none

  pub leaves-next : (old left mid new : List ℕ) (indexes more : List IndexNo) (o : Option IndexNo) (i : IndexNo) → AreLeaves old indexes left → left ≡ codes ", " ++ mid → Reads (IsIndex c) (leaf_text c) mid new o → o ≡ Some i → IsIndex c i → more ≡ indexes ++ i ∷ [] →
      length mid ≤ length left → length new ≤ length mid → AreLeaves old more new
  leaves-next old left mid new indexes more o i before is item found has all less least = subst (λ (l : List IndexNo). AreLeaves old l new) (sym all) (record {
    has = All-push (IsIndex c) indexes i before.has has;
    some = let long = length-append indexes (i ∷ []) in omega (arith, long);
    list = next-taken (IsIndex c) (leaf_text c) (λ r. stops r ≡ true) comma old left mid new indexes o i before.list is item.only found;
    shorter = let first = before.shorter in omega (arith, first, less, least);
  })

  pub leaves-broken : (old left mid new : List ℕ) (indexes : List IndexNo) (o : Option IndexNo) → AreLeaves old indexes left → left ≡ codes ", " ++ mid → Reads (IsIndex c) (leaf_text c) mid new o → o ≡ None →
      (is : List IndexNo) (rest : List ℕ) → All (IsIndex c) is → 1 ≤ length is → stops rest ≡ true → has_no_comma rest ≡ true → old ≡ with_commas [] (map (leaf_text c) is) ++ rest → ⊥
  leaves-broken old left mid new indexes o before is item none = next-none (IsIndex c) (leaf_text c) (λ r. stops r ≡ true) comma old left mid new indexes o before.list is item.only none

  pub leaves-done : (old left new : List ℕ) (indexes : List IndexNo) → AreLeaves old indexes left → ((r : List ℕ) → left ≡ codes ", " ++ r → ⊥) → new ≡ left →
      (is : List IndexNo) (rest : List ℕ) → All (IsIndex c) is → 1 ≤ length is → stops rest ≡ true → has_no_comma rest ≡ true → old ≡ with_commas [] (map (leaf_text c) is) ++ rest → (indexes ≡ is) × (new ≡ rest)
  leaves-done old left new indexes before other same = all-taken (IsIndex c) (leaf_text c) (λ r. stops r ≡ true) comma old left new indexes before.list other same
