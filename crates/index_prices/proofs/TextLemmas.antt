-- Lines of the candidates of a set, one after another.
use Rattle.std.proofs.Common.{◌≡◌, ◌<◌, ◌≤◌, ◌+◌, ◌++◌, ℕ, Bool, true, false, List, [], ◌∷◌, length, take, get_or, sym, ap, ◌∙◌}
use Rattle.std.proofs.lemmas.Grind.{flat_map-append}
use Rattle.std.proofs.lemmas.List.{take_all, append-nil}
use Rattle.catalog.specs.Contents.{NamedIndex}
use Rattle.plan_laws.specs.Moved.{added_from}
use Rattle.index_prices.specs.Replies.{use_line, use_lines}
use Rattle.index_prices.proofs.AddingLemmas.{added-one, append-none}

abbrev lines-before : (ℕ → Bool) → List NamedIndex → ℕ → List ℕ
lines-before s xs j = use_lines (added_from 0 s (take j xs))

module _ (s : ℕ → Bool) (xs : List NamedIndex) (j : ℕ) (x : NamedIndex) (lt : j < length xs) (is : x ≡ get_or xs j x) where
  -- one more line
  pub line-more : s j ≡ true → lines-before s xs j ++ use_line x ≡ lines-before s xs (j + 1)
  line-more e =
      ap (λ (ys : List ℕ). lines-before s xs j ++ ys) (sym (append-nil (use_line x)))
      ∙ sym (flat_map-append use_line (added_from 0 s (take j xs)) (x ∷ []))
      ∙ ap use_lines (sym (added-one xs s j x lt is true e))

  pub line-none : s j ≡ false → lines-before s xs j ≡ lines-before s xs (j + 1)
  line-none e = ap use_lines (sym (append-none (added_from 0 s (take j xs))) ∙ sym (added-one xs s j x lt is false e))

-- all lines
pub lines-all : (s : ℕ → Bool) (xs : List NamedIndex) (j : ℕ) → length xs ≤ j → lines-before s xs j ≡ use_lines (added_from 0 s xs)
lines-all s xs j le = ap (λ (ys : List NamedIndex). use_lines (added_from 0 s ys)) (take_all j xs le)
