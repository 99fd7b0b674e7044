-- The words between two tokens.
use Rattle.std.proofs.Common.{◌≡◌, ◌≤◌, ◌+◌, ℕ, List, ◌∷◌, ◌++◌, length, drop, take, sym, ap, ◌∙◌, arith}
use Rattle.std.proofs.Math.Seq.{take-append_seam}
use Rattle.std.proofs.lemmas.List.{drop-take, length-drop, length-append}
use Rattle.sql_lex.specs.declared.tokens.Token.{Token}

-- the tokens from the first up to the end are those by which the end was found
pub between : (first end : ℕ) (before after : List Token) (token : Token) (tokens : List Token) → drop first tokens ≡ before ++ token ∷ after → end ≡ first + length before → drop first (take end tokens) ≡ before
between first end before after token tokens split place =
    ap (λ n. drop first (take n tokens)) place ∙ (drop-take first (length before) tokens ∙ (ap (take (length before)) split ∙ take-append_seam before (token ∷ after)))

-- the end is one of the tokens
pub end-within : (first end : ℕ) (before after : List Token) (token : Token) (tokens : List Token) → drop first tokens ≡ before ++ token ∷ after → end ≡ first + length before → end ≤ length tokens
end-within first end before after token tokens split place =
    let many = sym (length-drop first tokens) ∙ (ap length split ∙ length-append before (token ∷ after)) in
    omega (arith, many, place)
