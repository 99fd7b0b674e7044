-- Key lists read one key after the other.
use Rattle.std.proofs.Common.{◌≡◌, ◌≤◌, ℕ, true, List, [], ◌∷◌, ◌++◌, codes, length, refl, sym, ap, subst, arith}
use Rattle.std.specs.Prelude.{All, Option, Some, None, option_map}
use Rattle.std.proofs.lemmas.List.{length-append, map-append}
use Rattle.std.proofs.lemmas.List.Elements.{All-cons, All-push}
use Rattle.catalog.specs.Contents.{Contents}
use Rattle.eq_classes.specs.Clauses.{Set}
use Rattle.eq_classes.specs.declared.classes.ClassNo.{ClassNo}
use Rattle.certificate_text.specs.explain_Texts.{key_text, keys_text}
use Rattle.pathkeys.specs.work.Finding.{class_numbers}
use Rattle.sql_query.specs.Queries.{Query}
use Rattle.certificate_entries.specs.work.Keys.{HasKeyText, ends_key}
use Rattle.certificate_entries.specs.work.Parts.{has_no_comma}
use Rattle.certificate_entries.proofs.ListLemmas.{IsListLeft, all-taken, first-none, first-taken, next-none, next-taken}

module _ (c : Contents) (q : Query) (set : Set) where
  pub comma : (l : List ℕ) → ends_key (44 ∷ l) ≡ true
  comma l = refl

  -- the keys read so far
  pub record AreKeys (old : List ℕ) (keys : List ClassNo) (left : List ℕ) : Type 0 where
    pub has : All (HasKeyText q set) (class_numbers keys)
    pub some : 1 ≤ length keys
    pub list : IsListLeft (HasKeyText q set) (key_text c q set) (λ r. ends_key r ≡ true) comma old (class_numbers keys) left

  abbrev pub IsKeyItem : List ℕ → List ℕ → Option ClassNo → Type 0
  IsKeyItem old new o = (n : ℕ) (rest : List ℕ) → HasKeyText q set n → ends_key rest ≡ true → old ≡ key_text c q set n ++ rest → (option_map (λ (k : ClassNo). k.0) o ≡ Some n) × (new ≡ rest)

  pub keys-first : (old new : List ℕ) (o : Option ClassNo) (k : ClassNo) (keys : List ClassNo) → IsKeyItem old new o → o ≡ Some k → HasKeyText q set k.0 → keys ≡ k ∷ [] → AreKeys old keys new
  keys-first old new o k keys item found has is = subst (λ (l : List ClassNo). AreKeys old l new) (sym is) (record {
    has = All-cons (HasKeyText q set) k.0 [] has (λ i d lt. absurd (omega (arith, lt)));
    some = omega arith;
    list = first-taken (HasKeyText q set) (key_text c q set) (λ r. ends_key r ≡ true) comma old new (option_map (λ (x : ClassNo). x.0) o) k.0 item (ap (option_map (λ (x : ClassNo). x.0)) found);
  })

  pub keys-none : (old new : List ℕ) (o : Option ClassNo) → IsKeyItem old new o → o ≡ None → (keys : List ℕ) (rest : List ℕ) → All (HasKeyText q set) keys → 1 ≤ length keys → ends_key rest ≡ true → old ≡ keys_text c q set keys ++ rest → ⊥
  keys-none old new o item none = first-none (HasKeyText q set) (key_text c q set) (λ r. ends_key r ≡ true) comma old new (option_map (λ (x : ClassNo). x.0) o) item (ap (option_map (λ (x : ClassNo). x.0)) none)

  pub keys-next : (old left mid new : List ℕ) (keys more : List ClassNo) (o : Option ClassNo) (k : ClassNo) → AreKeys old keys left → left ≡ codes ", " ++ mid → IsKeyItem mid new o → o ≡ Some k → HasKeyText q set k.0 → more ≡ keys ++ k ∷ [] → AreKeys old more new
  keys-next old left mid new keys more o k before is item found has all = subst (λ (l : List ClassNo). AreKeys old l new) (sym all) (record {
    has = subst (All (HasKeyText q set)) (sym (map-append (λ (x : ClassNo). x.0) keys (k ∷ []))) (All-push (HasKeyText q set) (class_numbers keys) k.0 before.has has);
    some = let long = length-append keys (k ∷ []) in omega (arith, long);
    list = subst (λ (l : List ℕ). IsListLeft (HasKeyText q set) (key_text c q set) (λ r. ends_key r ≡ true) comma old l new) (sym (map-append (λ (x : ClassNo). x.0) keys (k ∷ [])))
        (next-taken (HasKeyText q set) (key_text c q set) (λ r. ends_key r ≡ true) comma old left mid new (class_numbers keys) (option_map (λ (x : ClassNo). x.0) o) k.0 before.list is item (ap (option_map (λ (x : ClassNo). x.0)) found));
  })

  pub keys-broken : (old left mid new : List ℕ) (keys : List ClassNo) (o : Option ClassNo) → AreKeys old keys left → left ≡ codes ", " ++ mid → IsKeyItem mid new o → o ≡ None →
      (all : List ℕ) (rest : List ℕ) → All (HasKeyText q set) all → 1 ≤ length all → ends_key rest ≡ true → has_no_comma rest ≡ true → old ≡ keys_text c q set all ++ rest → ⊥
  keys-broken old left mid new keys o before is item none =
      next-none (HasKeyText q set) (key_text c q set) (λ r. ends_key r ≡ true) comma old left mid new (class_numbers keys) (option_map (λ (x : ClassNo). x.0) o) before.list is item (ap (option_map (λ (x : ClassNo). x.0)) none)

  pub keys-done : (old left new : List ℕ) (keys : List ClassNo) → AreKeys old keys left → ((r : List ℕ) → left ≡ codes ", " ++ r → ⊥) → new ≡ left →
      (all : List ℕ) (rest : List ℕ) → All (HasKeyText q set) all → 1 ≤ length all → ends_key rest ≡ true → has_no_comma rest ≡ true → old ≡ keys_text c q set all ++ rest → (class_numbers keys ≡ all) × (new ≡ rest)
  keys-done old left new keys before other same = all-taken (HasKeyText q set) (key_text c q set) (λ r. ends_key r ≡ true) comma old left new (class_numbers keys) before.list other same
