-- Parts that stand each after a comma, and the word that closes them, are spelled in one way.
use Rattle.std.proofs.Common.{◌≡◌, Bool, true, List, [], ◌∷◌, ◌++◌, drop, refl, sym, ap, ◌∙◌}
use Rattle.sql_lex.specs.declared.tokens.Token.{Token}
use Rattle.sql_grammar.specs.declared.class.Symbol.TheVariants.{Comma}
use Rattle.sql_grammar.specs.Terminals.{Terminal, t_mark}
use Rattle.sql_grammar.specs.Syntax.{Mark}

-- parts by their words, further ones by theirs, and the word that closes them, which is no comma; a part has one spelling before words that do not go on it
module _ (A : Type 0) (words : A → List Terminal) (more : List (Mark × A) → List Terminal) (close : Token → Terminal) (ends : List Terminal → Bool)
    (last : (m : Token) (x : List Terminal) → more [] ++ close m ∷ x ≡ close m ∷ x)
    (next : (t : Mark) (a : A) (ps : List (Mark × A)) (m : Token) (x : List Terminal) → more ((t, a) ∷ ps) ++ close m ∷ x ≡ t_mark Comma t ∷ (words a ++ (more ps ++ close m ∷ x)))
    (same : (m n : Token) (x y : List Terminal) → close m ∷ x ≡ close n ∷ y → m ≡ n)
    (apart : (m t : Token) (x y : List Terminal) → close m ∷ x ≡ t_mark Comma t ∷ y → ⊥)
    (after : (ps : List (Mark × A)) (m : Token) (x : List Terminal) → ends (more ps ++ close m ∷ x) ≡ true)
    (one : (a b : A) (x y : List Terminal) → ends x ≡ true → ends y ≡ true → words a ++ x ≡ words b ++ y → (a ≡ b) × (x ≡ y)) where
  pub one_list : (ps qs : List (Mark × A)) (m n : Token) (x y : List Terminal) → more ps ++ close m ∷ x ≡ more qs ++ close n ∷ y → (ps ≡ qs) × (m ≡ n) × (x ≡ y)
  one_list [] [] m n x y e =
      let whole = sym (last m x) ∙ (e ∙ last n y) in
      (refl, same m n x y whole, ap (drop 1) whole)
  one_list [] ((u, b) ∷ qs) m n x y e = absurd (apart m u x (words b ++ (more qs ++ close n ∷ y)) (sym (last m x) ∙ (e ∙ next u b qs n y)))
  one_list ((t, a) ∷ ps) [] m n x y e = absurd (apart n t y (words a ++ (more ps ++ close m ∷ x)) (sym (last n y) ∙ (sym e ∙ next t a ps m x)))
  one_list ((t, a) ∷ ps) ((u, b) ∷ qs) m n x y e =
      let whole = sym (next t a ps m x) ∙ (e ∙ next u b qs n y) in
      let comma : t ≡ u = cc (whole) in
      let (first, others) = one a b (more ps ++ close m ∷ x) (more qs ++ close n ∷ y) (after ps m x) (after qs n y) (ap (drop 1) whole) in
      let (rest, mark, left) = one_list ps qs m n x y others in
      (cc (comma, first, rest), mark, left)
