use Rattle.std.proofs.Common.{◌≡◌, ◌∙◌, ◌++◌, ◌∷◌, ◌-◌, ap, drop, length, take, List, ℕ}
use Rattle.check_reply.proofs.TellLemmas.{number-off, rest-whole}
use Rattle.check_reply.proofs.told.entry_text.Goals as goal

pub returns : goal.returns
returns c =
    let put : c.extend_from_slice.new.self.items ≡ c.in_ok-text.text.items ++ take (length c.items.result.now - 2) (drop 2 c.items.result.now) = c.in_ok-extend_from_slice.ensures.items in
    put
    ∙ ap (λ (xs : List ℕ). c.in_ok-text.text.items ++ xs) (rest-whole 2 c.items.result.now)
    ∙ ap (λ (xs : List ℕ). xs ++ drop 2 c.items.result.now) c.in_ok-text.ensures.items
    ∙ ap (λ (xs : List ℕ). 67 ∷ 52 ∷ 32 ∷ drop 2 xs) (c.items.ensures ∙ c.in_ok-line.ensures.line)
    ∙ ap (λ (xs : List ℕ). 67 ∷ 52 ∷ 32 ∷ xs) (number-off _)
