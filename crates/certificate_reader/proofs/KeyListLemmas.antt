-- Key lists up to the parenthesis that ends a line: an empty one has nothing before it, and no other one begins with it.
use Rattle.std.proofs.Common.{◌≡◌, ◌<◌, ℕ, true, List, [], ◌∷◌, ◌++◌, codes, length, map, refl, sym, ap, ◌∙◌, arith}
use Rattle.std.specs.Prelude.{None, Some}
use Rattle.std.specs.List.{list_all}
use Rattle.std.proofs.lemmas.Bool.{and_parts, true≢false}
use Rattle.std.proofs.lemmas.List.{append_assoc}
use Rattle.std.proofs.lemmas.List.Elements.{All-head}
use Rattle.pg_base.specs.Names.{is_in_name}
use Rattle.catalog.specs.Contents.{Contents, IsLawful}
use Rattle.eq_classes.specs.Clauses.{Set, first_in}
use Rattle.eq_classes.specs.Listing.{class_at}
use Rattle.certificate_entries.specs.explain_Texts.{key_text, keys_text, with_commas}
use Rattle.pathkeys.specs.Keys.{Keys}
use Rattle.sql_query.specs.Queries.{Query}
use Rattle.sql_query.specs.WellBound.{IsWellBound}
use Rattle.certificate_entries.specs.certificate_text_HasText.{HasKeysText}
use Rattle.certificate_entries.specs.work.Keys.{HasKeyText, ends_key, family_if}
use Rattle.certificate_entries.proofs.KeyLemmas.{words-read}

-- a name before a point does not begin with a parenthesis
no-parenthesis : (alias name tail rest : List ℕ) → list_all is_in_name alias ≡ true → 41 ∷ rest ≡ (alias ++ (codes "." ++ name)) ++ tail → ⊥
no-parenthesis [] name tail rest h e = let wrong : 41 ≡ 46 = ap first e in absurd (omega (arith, wrong))
  where
    first : List ℕ → ℕ
    first [] = 0
    first (b ∷ bs) = b
no-parenthesis (a ∷ alias) name tail rest h e = true≢false (sym (and_parts (is_in_name a) (list_all is_in_name alias) h).0 ∙ ap is_in_name (sym (ap first e)))
  where
    first : List ℕ → ℕ
    first [] = 0
    first (b ∷ bs) = b

module _ (c : Contents) (q : Query) (s : Set) where
  -- what stands behind the first key
  abbrev more-text : List ℕ → List ℕ
  more-text ks = with_commas (codes ", ") (map (key_text c q s) ks) ++ codes ")"

  more-ends : (ks : List ℕ) → ends_key (more-text ks) ≡ true
  more-ends [] = refl
  more-ends (k ∷ ks) = refl

  key-has : (k : ℕ) (ks : List ℕ) → HasKeysText q s (k ∷ ks) → HasKeyText q s k
  key-has k ks has = record {
    class = All-head (λ n. n < length q.classes.classes) k ks has.classes;
    member = All-head (λ n. ¬ (first_in (class_at q.classes.classes n) s ≡ None)) k ks has.members;
  }

  -- a list of one key or more does not begin with a parenthesis
  pub no-keys : IsWellBound c q → IsLawful c → (k : ℕ) (ks rest : List ℕ) → HasKeysText q s (k ∷ ks) → codes ")" ++ rest ≡ keys_text c q s (k ∷ ks) ++ codes ")" → ⊥
  no-keys bound lawful k ks rest has e =
      let text : codes ")" ++ rest ≡ key_text c q s k ++ more-text ks = e ∙ append_assoc (key_text c q s k) (with_commas (codes ", ") (map (key_text c q s) ks)) (codes ")") in
      (words-read c q bound lawful s k (more-text ks) (codes ")" ++ rest) [] None (key-has k ks has) (more-ends ks)
      (λ alias name tail abs word other ends is. absurd (no-parenthesis alias name (family_if abs ++ tail) rest word is)) text).words

  -- where the parenthesis comes first, the list is empty
  pub empty-read : IsWellBound c q → IsLawful c → (made : Keys) (old new : List ℕ) → made ≡ [] → old ≡ codes ")" ++ new →
      (keys : List ℕ) → HasKeysText q s keys → old ≡ keys_text c q s keys ++ codes ")" → Some made ≡ Some keys
  empty-read bound lawful made old new none is [] has e = ap (λ (l : Keys). Some l) none
  empty-read bound lawful made old new none is (k ∷ ks) has e = absurd (no-keys bound lawful k ks new has (sym is ∙ e))
