-- The keys of an index scan, column by column, and that they are a key list.
use Rattle.std.proofs.Common.{◌≡◌, ◌≢◌, ◌<◌, ℕ, Bool, true, false, cond, ◌||◌, nat_eq, List, [], ◌∷◌, ◌++◌, length, All, Option, Some, None, refl, sym, ap, ◌∙◌, subst, arith}
use Rattle.std.specs.Prelude.{IfSome, option_map, slice_get}
use Rattle.std.specs.List.{list_any}
use Rattle.std.proofs.lemmas.Bool.{true≢false, eqb-true, eqb-false, ne_eqb, or_parts}
use Rattle.std.proofs.lemmas.List.Elements.{All-cons, All-nil, All-weaker}
use Rattle.std.proofs.lemmas.List.Kept.{AllPairs-cons}
use Rattle.std.proofs.lemmas.Option.{get_or_from_slice_get, slice_get_within}
use Rattle.std.proofs.lemmas.List.Folds.{list_any-append}
use Rattle.catalog.specs.opfamily_KeyOrder.{key_family}
use Rattle.catalog.specs.opfamily_classes_IndexKey.{IndexKey}
use Rattle.catalog.specs.opfamily_classes_Method.{Method}
use Rattle.catalog.specs.opfamily_classes_Method_TheVariants.{Btree, Hash}
use Rattle.eq_classes.specs.declared.classes.ClassNo.{ClassNo}
use Rattle.eq_classes.specs.Clauses.{ClassTable}
use Rattle.eq_classes.specs.Listing.{class_at}
use Rattle.pathkeys.specs.Keys.{Keys, ends, passes, gives, is_constant, has_direction, step_of, key_column, class_of_key, keys_from, keys_by}
use Rattle.pathkeys.specs.work.Keys.{IsKeyList}
use Rattle.pathkeys.specs.work.Finding.{is_class, is_of_some, step_after, keys_after}
use Rattle.pathkeys.proofs.OnceLemmas.{class_within}

-- a key list whose classes are not among those that are taken
record IsFresh (t : ClassTable) (taken keys : Keys) : Type 0 where
  list : IsKeyList t keys
  untaken : All (λ n. list_any (nat_eq n) taken ≡ false) keys

module _ (t : ClassTable) (r : ℕ) (backward : Bool) where
  nothing_fresh : (taken : Keys) → IsFresh t taken []
  nothing_fresh taken = record {
    list = record { different = λ i j d lt within. absurd (omega (arith, within)); classes = All-nil (λ n. n < length t.classes); free = All-nil (λ n. is_constant t n ≡ false) };
    untaken = All-nil (λ n. list_any (nat_eq n) taken ≡ false);
  }

  one_fresh : (n : ℕ) (taken keys : Keys) → n < length t.classes → is_constant t n ≡ false → list_any (nat_eq n) taken ≡ false → IsFresh t (n ∷ taken) keys → IsFresh t taken (n ∷ keys)
  one_fresh n taken keys within free new later = record {
    list = record {
      different = AllPairs-cons (λ a b. a ≢ b) n keys
          (All-weaker (λ m. list_any (nat_eq m) (n ∷ taken) ≡ false) (λ m. n ≢ m) (λ m h same. eqb-false m n (or_parts (nat_eq m n) (list_any (nat_eq m) taken) h).0 (sym same)) keys later.untaken)
          later.list.different;
      classes = All-cons (λ m. m < length t.classes) n keys within later.list.classes;
      free = All-cons (λ m. is_constant t m ≡ false) n keys free later.list.free;
    };
    untaken = All-cons (λ m. list_any (nat_eq m) taken ≡ false) n keys new
        (All-weaker (λ m. list_any (nat_eq m) (n ∷ taken) ≡ false) (λ m. list_any (nat_eq m) taken ≡ false) (λ m h. (or_parts (nat_eq m n) (list_any (nat_eq m) taken) h).1) keys later.untaken);
  }

  keys_fresh : (taken : Keys) (ks : List IndexKey) → IsFresh t taken (keys_from t r backward taken ks)
  keys_fresh taken [] = nothing_fresh taken
  keys_fresh taken (k ∷ ks) = by (λ more. keys_fresh more ks) (class_of_key t r k) (class_within t (key_column r k) (key_family k))
    where
      by_tests : ((more : Keys) → IsFresh t more (keys_from t r backward more ks)) → (n : ℕ) → n < length t.classes → (A B D : Bool) → is_constant t n ≡ A → list_any (nat_eq n) taken ≡ B
          → IsFresh t taken (elim (cond (A || B) passes (cond D (gives n) ends)) [ ends ↦ [] | passes ↦ keys_from t r backward taken ks | gives m ↦ m ∷ keys_from t r backward (m ∷ taken) ks ])
      by_tests later n within true B D a b = later taken
      by_tests later n within false true D a b = later taken
      by_tests later n within false false true a b = one_fresh n taken (keys_from t r backward (n ∷ taken) ks) within a b (later (n ∷ taken))
      by_tests later n within false false false a b = nothing_fresh taken

      by : ((more : Keys) → IsFresh t more (keys_from t r backward more ks)) → (o : Option ℕ) → IfSome o (λ n. n < length t.classes)
          → IsFresh t taken (elim (step_of t backward taken k o) [ ends ↦ [] | passes ↦ keys_from t r backward taken ks | gives m ↦ m ∷ keys_from t r backward (m ∷ taken) ks ])
      by later None within = nothing_fresh taken
      by later (Some n) within = by_tests later n within (is_constant t n) (list_any (nat_eq n) taken) (has_direction backward k (class_at t.classes n)) refl refl

  pub keys_by_are_keys : (m : Method) (ks : List IndexKey) → IsKeyList t (keys_by m t r backward ks)
  keys_by_are_keys Btree ks = (keys_fresh [] ks).list
  keys_by_are_keys Hash ks = (nothing_fresh []).list

  -- a class without a constant is taken exactly where one of the columns before has it
  abbrev AreAlike : List IndexKey → Keys → Type 0
  AreAlike before taken = (n : ℕ) → is_constant t n ≡ false → is_of_some t r before n ≡ list_any (nat_eq n) taken

  one_more : (before : List IndexKey) (k : IndexKey) (n : ℕ) → class_of_key t r k ≡ Some n → (m : ℕ) → is_of_some t r (before ++ k ∷ []) m ≡ is_of_some t r before m || (nat_eq m n || false)
  one_more before k n e m = list_any-append (λ j. is_class m (class_of_key t r j)) before (k ∷ []) ∙ ap (λ (o : Option ℕ). is_of_some t r before m || (is_class m o || false)) e

  -- another class that is none of the columns' passes with the same answer
  other : (b x : Bool) → x ≡ false → b || (x || false) ≡ b
  other true x e = refl
  other false x e = ap (λ (y : Bool). y || false) e

  turned_or : (b x : Bool) → b || (x || false) ≡ x || b
  turned_or true true = refl
  turned_or true false = refl
  turned_or false true = refl
  turned_or false false = refl

  alike_constant : (before : List IndexKey) (taken : Keys) (k : IndexKey) (n : ℕ) → class_of_key t r k ≡ Some n → is_constant t n ≡ true → AreAlike before taken → AreAlike (before ++ k ∷ []) taken
  alike_constant before taken k n e constant alike m free =
      one_more before k n e m ∙ other (is_of_some t r before m) (nat_eq m n) (ne_eqb m n (λ same. true≢false (sym constant ∙ ap (is_constant t) (sym same) ∙ free))) ∙ alike m free

  alike_taken : (before : List IndexKey) (taken : Keys) (k : IndexKey) (n : ℕ) → class_of_key t r k ≡ Some n → list_any (nat_eq n) taken ≡ true → AreAlike before taken → AreAlike (before ++ k ∷ []) taken
  alike_taken before taken k n e has alike m free = one_more before k n e m ∙ by (nat_eq m n) refl
    where
      by : (x : Bool) → nat_eq m n ≡ x → is_of_some t r before m || (x || false) ≡ list_any (nat_eq m) taken
      by false f = other (is_of_some t r before m) false refl ∙ alike m free
      by true f = turned_or (is_of_some t r before m) true ∙ sym (ap (λ (j : ℕ). list_any (nat_eq j) taken) (eqb-true m n f) ∙ has)

  alike_given : (before : List IndexKey) (taken : Keys) (k : IndexKey) (n : ℕ) → class_of_key t r k ≡ Some n → AreAlike before taken → AreAlike (before ++ k ∷ []) (n ∷ taken)
  alike_given before taken k n e alike m free = one_more before k n e m ∙ turned_or (is_of_some t r before m) (nat_eq m n) ∙ ap (λ (b : Bool). nat_eq m n || b) (alike m free)

  keys_after_are : (before : List IndexKey) (taken : Keys) → AreAlike before taken → (ks : List IndexKey) → keys_after t r backward before ks ≡ keys_from t r backward taken ks
  keys_after_are before taken alike [] = refl
  keys_after_are before taken alike (k ∷ ks) = by (λ more also. keys_after_are (before ++ k ∷ []) more also ks) (class_of_key t r k) refl
    where
      by_tests : ((more : Keys) → AreAlike (before ++ k ∷ []) more → keys_after t r backward (before ++ k ∷ []) ks ≡ keys_from t r backward more ks) → (n : ℕ) → class_of_key t r k ≡ Some n
          → (A B C D : Bool) → is_constant t n ≡ A → list_any (nat_eq n) taken ≡ B → is_of_some t r before n ≡ C
          → ◌≡◌ {A = List ℕ} (elim (cond (A || C) passes (cond D (gives n) ends)) [ ends ↦ [] | passes ↦ keys_after t r backward (before ++ k ∷ []) ks | gives m ↦ m ∷ keys_after t r backward (before ++ k ∷ []) ks ])
          (elim (cond (A || B) passes (cond D (gives n) ends)) [ ends ↦ [] | passes ↦ keys_from t r backward taken ks | gives m ↦ m ∷ keys_from t r backward (m ∷ taken) ks ])
      by_tests later n e true B C D a b c = later taken (alike_constant before taken k n e a alike)
      by_tests later n e false true true D a b c = later taken (alike_taken before taken k n e b alike)
      by_tests later n e false false false true a b c = ap (λ (ns : List ℕ). n ∷ ns) (later (n ∷ taken) (alike_given before taken k n e alike))
      by_tests later n e false false false false a b c = refl
      by_tests later n e false true false D a b c = absurd (true≢false (sym b ∙ sym (alike n a) ∙ c))
      by_tests later n e false false true D a b c = absurd (true≢false (sym c ∙ alike n a ∙ b))

      by : ((more : Keys) → AreAlike (before ++ k ∷ []) more → keys_after t r backward (before ++ k ∷ []) ks ≡ keys_from t r backward more ks) → (o : Option ℕ) → class_of_key t r k ≡ o
          → ◌≡◌ {A = List ℕ} (elim (step_after t r backward before k o) [ ends ↦ [] | passes ↦ keys_after t r backward (before ++ k ∷ []) ks | gives m ↦ m ∷ keys_after t r backward (before ++ k ∷ []) ks ])
          (elim (step_of t backward taken k o) [ ends ↦ [] | passes ↦ keys_from t r backward taken ks | gives m ↦ m ∷ keys_from t r backward (m ∷ taken) ks ])
      by later None e = refl
      by later (Some n) e = by_tests later n e (is_constant t n) (list_any (nat_eq n) taken) (is_of_some t r before n) (has_direction backward k (class_at t.classes n)) refl refl refl

  pub keys_after_none : (ks : List IndexKey) → keys_after t r backward [] ks ≡ keys_from t r backward [] ks
  keys_after_none ks = keys_after_are [] [] (λ n free. refl) ks

-- a class at a place of a key list is one of the table's
pub class_of_list : (t : ClassTable) (keys : Keys) (n : ℕ) (o : Option ClassNo) → IsKeyList t keys → option_map (λ (c : ClassNo). c.0) o ≡ slice_get keys n → IfSome o (λ c. c.0 < length t.classes)
class_of_list t keys n None list e = tt
class_of_list t keys n (Some c) list e =
    subst (λ (m : ℕ). m < length t.classes) (get_or_from_slice_get keys n c.0 c.0 (sym e)) (list.classes n c.0 (slice_get_within keys n c.0 (sym e)))
