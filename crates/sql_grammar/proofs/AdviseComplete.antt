-- The walk takes every statement that is in the grammar by a constant.
use Rattle.std.proofs.Common.{◌≡◌, ℕ, ◌+◌, ◌≤◌, Bool, true, false, List, [], ◌∷◌, ◌++◌, Some, None, refl, ◌∙◌, arith, cond}
use Rattle.sql_lex.specs.declared.tokens.Token.{Token}
use Rattle.sql_grammar.specs.Terminals.{Terminal, Ident, Said, free, t_mark, t_name, t_number, t_semicolon}
use Rattle.sql_grammar.specs.declared.class.Free.TheVariants.{Plan}
use Rattle.sql_grammar.specs.declared.class.Symbol.TheVariants.{Open, Close}
use Rattle.sql_grammar.specs.declared.table.Item.{Item}
use Rattle.sql_grammar.specs.declared.table.Item.TheVariants.{Sign, FreeWord, Label, Digits, Ends, Stop, Query, MaybeOrder, MaybeLimit, MaybeOffset, Candidate, MoreCands, AdvisedSelect, MoreAdvised}
use Rattle.sql_grammar.specs.Syntax.{Mark, IsOffered, Select, OrderBy, WindowedSelect, Cand, Advised, advised, Ending, semicolon, text_end}
use Rattle.sql_grammar.specs.Words.{words_of_select, words_of_order, words_of_windowed, words_of_cand, words_of_cands, words_of_advised, words_of_more_advised, words_of_ending, levels_of_select, levels_of_windowed, levels_of_cand, levels_of_cands, levels_of_advised, levels_of_more_advised}
use Rattle.sql_grammar.specs.work.Machine.{depth_of, by_row, takes_then, takes_all}
use Rattle.sql_grammar.proofs.Complete.{apart, ending}
use Rattle.sql_grammar.proofs.WindowComplete.{ending-window, parenthesis-window}
use Rattle.sql_grammar.proofs.OrderComplete.{windowed-select, ordered-select}
use Rattle.sql_grammar.proofs.IndexComplete.{EndsCand, candidate}

after-cand : (cs : List (Mark × Cand)) (m : Mark) (ts : List Terminal) → EndsCand (words_of_cands cs ++ t_mark Close m ∷ ts)
after-cand [] m ts = record { include = refl; condition = refl; expr = record { conj = record { atom = refl; ands = refl }; ors = refl } }
after-cand (c ∷ cs) m ts = record { include = refl; condition = refl; expr = record { conj = record { atom = refl; ands = refl }; ors = refl } }

module _ (limit : ℕ) where
  candidates : (c : Cand) (cs : List (Mark × Cand)) (m : Mark) (s : List Item) (ts : List Terminal) → levels_of_cand c + depth_of s ≤ limit → levels_of_cands cs + depth_of s ≤ limit →
      takes_all limit (words_of_cand c ++ (words_of_cands cs ++ t_mark Close m ∷ ts)) (Candidate ∷ MoreCands ∷ s) ≡ takes_all limit ts s
  candidates c [] m s ts low more = candidate limit c (MoreCands ∷ s) (t_mark Close m ∷ ts) (omega (arith, low)) (after-cand [] m ts)
  candidates c ((k, d) ∷ ds) m s ts low more =
      candidate limit c (MoreCands ∷ s) (words_of_cands ((k, d) ∷ ds) ++ t_mark Close m ∷ ts) (omega (arith, low)) (after-cand ((k, d) ∷ ds) m ts) ∙
      (apart limit (words_of_cand d) (words_of_cands ds) (t_mark Close m ∷ ts) (Candidate ∷ MoreCands ∷ s) ∙ candidates d ds m s ts (omega (arith, more)) (omega (arith, more)))

  -- a SELECT and what closes it
  closed-select : (x : WindowedSelect) (m : Mark) (s : List Item) (ts : List Terminal) → levels_of_windowed x + depth_of s ≤ limit →
      takes_all limit ((words_of_windowed x ++ t_mark Close m ∷ []) ++ ts) (Query ∷ MaybeOrder ∷ MaybeLimit ∷ MaybeOffset ∷ Sign Close ∷ s) ≡ takes_all limit ts s
  closed-select x m s ts low =
      apart limit (words_of_windowed x) (t_mark Close m ∷ []) ts (Query ∷ MaybeOrder ∷ MaybeLimit ∷ MaybeOffset ∷ Sign Close ∷ s) ∙
      windowed-select limit x (Sign Close ∷ s) (t_mark Close m ∷ ts) (omega (arith, low)) (parenthesis-window m ts)

  asked : (x : Advised) (s : List Item) (ts : List Terminal) → levels_of_advised x + depth_of s ≤ limit → takes_all limit (words_of_advised x ++ ts) (AdvisedSelect ∷ s) ≡ takes_all limit ts s
  asked (advised o x m) s ts low = closed-select x m s ts low

  more-asked : (xs : List Advised) (e : Ending) → levels_of_more_advised xs ≤ limit → takes_all limit (words_of_more_advised xs ++ words_of_ending e) (MoreAdvised ∷ Ends ∷ []) ≡ true
  more-asked [] (semicolon t) low = refl
  more-asked [] (text_end t) low = refl
  more-asked (advised o x m ∷ xs) e low =
      apart limit (words_of_advised (advised o x m)) (words_of_more_advised xs) (words_of_ending e) (MoreAdvised ∷ Ends ∷ []) ∙
      (closed-select x m (MoreAdvised ∷ Ends ∷ []) (words_of_more_advised xs ++ words_of_ending e) (omega (arith, low)) ∙ more-asked xs e (omega (arith, low)))

  pub analyzed : (b : Bool) → IsOffered b → (n : Ident) (e : Ending) →
      takes_then (by_row limit (cond b (Some (Label ∷ Ends ∷ [])) None) false [] None) (takes_all limit (t_name n ∷ words_of_ending e)) ≡ true
  analyzed true p n e = ending limit e
  analyzed false p n e = absurd p

  pub advises : (b : Bool) → IsOffered b → (n : Said) (o : Mark) (c : Cand) (cs : List (Mark × Cand)) (m : Mark) (x : Advised) (xs : List Advised) (e : Ending) →
      levels_of_cand c ≤ limit → levels_of_cands cs ≤ limit → levels_of_advised x ≤ limit → levels_of_more_advised xs ≤ limit →
      takes_then (by_row limit (cond b (Some (Digits ∷ Sign Open ∷ Candidate ∷ MoreCands ∷ AdvisedSelect ∷ MoreAdvised ∷ Ends ∷ [])) None) false [] None)
      (takes_all limit (t_number n ∷ t_mark Open o ∷ (words_of_cand c ++ (words_of_cands cs ++ t_mark Close m ∷ (words_of_advised x ++ (words_of_more_advised xs ++ words_of_ending e)))))) ≡ true
  advises true p n o c cs m x xs e first others low more =
      candidates c cs m (AdvisedSelect ∷ MoreAdvised ∷ Ends ∷ []) (words_of_advised x ++ (words_of_more_advised xs ++ words_of_ending e)) (omega (arith, first)) (omega (arith, others)) ∙
      (asked x (MoreAdvised ∷ Ends ∷ []) (words_of_more_advised xs ++ words_of_ending e) (omega (arith, low)) ∙ more-asked xs e more)
  advises false p n o c cs m x xs e first others low more = absurd p

  pub checks : (b : Bool) → IsOffered b → (x : WindowedSelect) (t : Token) → levels_of_windowed x ≤ limit →
      takes_then (by_row limit (cond b (Some (Query ∷ MaybeOrder ∷ MaybeLimit ∷ MaybeOffset ∷ Stop ∷ [])) None) false [] None) (takes_all limit (words_of_windowed x ++ t_semicolon t ∷ [])) ≡ true
  checks true p x t low = windowed-select limit x (Stop ∷ []) (t_semicolon t ∷ []) (omega (arith, low)) (ending-window (semicolon t))
  checks false p x t low = absurd p

  pub plans : (b : Bool) → IsOffered b → (k : Token) (q : Select) (y : OrderBy) (t : Token) → levels_of_select q ≤ limit →
      takes_then (by_row limit (cond b (Some (FreeWord Plan ∷ Query ∷ MaybeOrder ∷ Stop ∷ [])) None) false [] None)
      (takes_all limit (t_name (free Plan k) ∷ (words_of_select q ++ (words_of_order y ++ t_semicolon t ∷ [])))) ≡ true
  plans true p k q y t low = ordered-select limit q y (Stop ∷ []) (t_semicolon t ∷ []) (omega (arith, low)) (ending-window (semicolon t)).order
  plans false p k q y t low = absurd p
