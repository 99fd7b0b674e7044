-- A search for a spelling, word by word.
use Rattle.std.proofs.Common.{◌≡◌, ℕ, ◌+◌, ◌<◌, Bool, true, false, List, length, drop, get_or, map, Some, refl, sym, ◌∙◌, drop-cons, add-one, IsTrue}
use Rattle.std.specs.List.{find}
use Rattle.std.specs.Str.{bytes_eq}
use Rattle.std.specs.Char.{to_ascii_lowercase}
use Rattle.std.proofs.lemmas.Slice.Eq.{bytes_eq-Decides}
use Rattle.std.proofs.lemmas.Bool.{false_from_ne_true}
use Rattle.sql_grammar.specs.declared.class.Word.{Word}
use Rattle.sql_grammar.specs.declared.class.Word.TheVariants.{And}
use Rattle.sql_grammar.specs.declared.class.Free.{Free}
use Rattle.sql_grammar.specs.declared.class.Free.TheVariants.{Advise}
use Rattle.sql_grammar.specs.Reading.{spelling_of, free_spelling_of}

-- the spellings are in small letters
pub small_words : (w : Word) → map to_ascii_lowercase (spelling_of w) ≡ spelling_of w
small_words And = refl
small_words _ = refl

pub small_free_words : (w : Free) → map to_ascii_lowercase (free_spelling_of w) ≡ free_spelling_of w
small_free_words Advise = refl
small_free_words _ = refl

module _ (W : Type 0) (spelling : W → List ℕ) (words : List W) (small : (w : W) → map to_ascii_lowercase (spelling w) ≡ spelling w) (bytes : List ℕ) where
  abbrev test : W → Bool
  test w = bytes_eq (map to_ascii_lowercase bytes) (spelling w)

  pub hit : (k : ℕ) (d : W) → k < length words → map to_ascii_lowercase bytes ≡ map to_ascii_lowercase (spelling (get_or words k d)) →
      find test (drop k words) ≡ Some (get_or words k d)
  hit k d lt same =
      let yes : test (get_or words k d) ≡ true = (bytes_eq-Decides _ _).1 (same ∙ small _) in
      rw (drop-cons words k d lt, yes) refl

  pub miss : (k : ℕ) (d : W) → k < length words → (map to_ascii_lowercase bytes ≡ map to_ascii_lowercase (spelling (get_or words k d)) → IsTrue false) →
      find test (drop k words) ≡ find test (drop (k + 1) words)
  miss k d lt differ =
      let no : test (get_or words k d) ≡ false = false_from_ne_true _ (λ e. let impossible : false ≡ true = differ ((bytes_eq-Decides _ _).0 e ∙ sym (small _)) in absurd (cc)) in
      rw (drop-cons words k d lt, no, add-one) refl
