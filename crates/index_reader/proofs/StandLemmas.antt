-- Words that stand from a token of a statement on.
use Rattle.std.proofs.Common.{◌≡◌, ◌<◌, ◌≤◌, ◌+◌, ◌-◌, ◌^◌, ℕ, List, [], ◌∷◌, ◌++◌, length, drop, take, None, Result, Ok, Err, refl, sym, ap, subst, ◌∙◌, arith, length-append}
use Rattle.std.proofs.lemmas.List.{drop-drop, drop-map, drop-take, drop_at, length-drop, length-map, take-map, take_at}
use Rattle.std.proofs.lemmas.List.Elements.{All-drop, All-take}
use Rattle.pg_base.specs.declared.faults.Fault.{Fault}
use Rattle.sql_lex.specs.declared.tokens.Token.{Token}
use Rattle.sql_lex.specs.Words.{AreWords}
use Rattle.sql_grammar.specs.Reading.{terminal_of}
use Rattle.sql_grammar.specs.Terminals.{Terminal}
use Rattle.sql_grammar.specs.Faults.{AreWithinLimits, limit_of, terminals}
use Rattle.sql_grammar.proofs.StatementWords.{words-are-tokens}
use Rattle.index_reader.specs.work.Walk.{Stands}

module _ (text : List ℕ) (tokens : List Token) (first : ℕ) where
  -- as many tokens are left as words
  many-left : (ws : List Terminal) → terminals text (drop first tokens) ≡ ws → length ws ≡ length tokens - first
  many-left ws is = ap length (sym is) ∙ (length-map (drop first tokens) (terminal_of text) ∙ length-drop first tokens)

  -- the words behind the first ones
  pub behind : (ws xs : List Terminal) → terminals text (drop first tokens) ≡ ws ++ xs → terminals text (drop (first + length ws) tokens) ≡ xs
  behind ws xs is =
      ap (terminals text) (sym (drop-drop (length ws) first tokens)) ∙ (sym (drop-map (terminal_of text) (length ws) (drop first tokens)) ∙
      (ap (drop (length ws)) is ∙ drop_at ws xs (length ws) refl))

  -- the first ones, between two tokens
  pub front : (ws xs : List Terminal) → terminals text (drop first tokens) ≡ ws ++ xs → ws ≡ terminals text (drop first (take (first + length ws) tokens))
  front ws xs is =
      sym (take_at ws xs (length ws) refl) ∙ (ap (take (length ws)) (sym is) ∙ (take-map (terminal_of text) (length ws) (drop first tokens) ∙
      ap (terminals text) (sym (drop-take first (length ws) tokens))))

  -- words before others end before the last token
  pub ends-within : (ws : List Terminal) (x : Terminal) (xs : List Terminal) → terminals text (drop first tokens) ≡ ws ++ x ∷ xs → first + length ws < length tokens
  ends-within ws x xs is = let many = sym (length-append ws (x ∷ xs)) ∙ many-left (ws ++ x ∷ xs) is in omega (arith, many)

  -- words before others are within the limits
  pub limits-of : (ws xs : List Terminal) → AreWithinLimits (terminals text tokens) → terminals text (drop first tokens) ≡ ws ++ xs → AreWithinLimits ws
  limits-of ws xs within is =
      subst AreWithinLimits (ap (take (length ws)) (drop-map (terminal_of text) first tokens ∙ is) ∙ take_at ws xs (length ws) refl)
      (All-take (λ t. limit_of t ≡ None) (length ws) (drop first (terminals text tokens)) (All-drop (λ t. limit_of t ≡ None) first (terminals text tokens) within))

pub stands-within : (text : List ℕ) (tokens : List Token) (first : ℕ) (ws : List Terminal) (next : Terminal) (rest : List Terminal) → Stands text tokens first ws next rest → first + length ws < length tokens
stands-within text tokens first ws next rest s = ends-within text tokens first ws next rest s.are

-- two answers that are one
abbrev ok : ℕ → Result ℕ Fault
ok n = Ok n

pub err-no : (f : Fault) (n : ℕ) → Err f ≡ Ok n → ⊥
err-no f n is = cc (is)

pub ok-same : (m n : ℕ) → ok m ≡ ok n → m ≡ n
ok-same m n is = cc (is)

-- the tokens of a text can be counted
pub few-tokens : (text : List ℕ) (tokens : List Token) → ((from : ℕ) × AreWords text from tokens) → length text ≤ 2 ^ 31 → length tokens < 2 ^ 32
few-tokens text tokens (from, words) short = let t = words-are-tokens text from tokens words short in t.few
