-- The rows of the statements that are in the grammar by a constant are rules of the grammar.
use Rattle.std.proofs.Common.{◌≡◌, ℕ, ◌≤◌, Bool, true, false, List, [], ◌∷◌, ◌++◌, Some, None, refl, ap, subst, arith, append_assoc, cond}
use Rattle.sql_lex.specs.declared.tokens.Token.{Token}
use Rattle.sql_grammar.specs.Terminals.{Terminal, t_key, t_mark, t_name, t_number, t_semicolon, free}
use Rattle.sql_grammar.specs.declared.class.Free.TheVariants.{Advise as AdviseWord, Analyze, Check, Plan, Use}
use Rattle.sql_grammar.specs.declared.class.Word.TheVariants.{Table}
use Rattle.sql_grammar.specs.declared.class.Symbol.TheVariants.{Open, Close}
use Rattle.sql_grammar.specs.declared.offered.TheConstants.{READS_ADVISE, READS_ANALYZE, READS_CHECK, READS_PLAN, READS_TABLE}
use Rattle.sql_grammar.specs.declared.table.Item.{Item}
use Rattle.sql_grammar.specs.declared.table.Item.TheVariants.{Keyword, Sign, FreeWord, Label, Digits, Whole, Ends, Stop, Query, MaybeOrder, MaybeLimit, MaybeOffset, AfterExplain, Candidate, MoreCands, AdvisedSelect, MoreAdvised}
use Rattle.sql_grammar.specs.Syntax.{IsOffered, window, windowed_select, explain_table, ordered_select, advise_of, query, analyze, advise, check, use_plan}
use Rattle.sql_grammar.specs.Words.{words_of_select, words_of_order, words_of_limit, words_of_offset, words_of_cand, words_of_cands, words_of_advised, words_of_more_advised, words_of_ending}
use Rattle.sql_grammar.specs.work.Machine.{depth_of}
use Rattle.sql_grammar.proofs.Forest.{words_of_parts, IsRule}

-- the words of a SELECT with its order and its window, of a word behind them and of what follows
pub windowed-words : (q y l o e x : List Terminal) → ((q ++ (y ++ (l ++ o))) ++ e) ++ x ≡ q ++ (y ++ (l ++ (o ++ (e ++ x))))
windowed-words q y l o e x = simp append_assoc

-- the words of a SELECT with its order and its window that ends a statement, and of what follows
select-words : (q y l o e x : List Terminal) → (q ++ (y ++ ((l ++ o) ++ e))) ++ x ≡ q ++ (y ++ (l ++ (o ++ (e ++ x))))
select-words q y l o e x = simp append_assoc

-- the words of ADVISE, from its first candidate on, and of what follows
advise-words : (c cs x xs e w : List Terminal) (m : Terminal) → (c ++ (cs ++ m ∷ (x ++ (xs ++ e)))) ++ w ≡ c ++ ((cs ++ m ∷ []) ++ (x ++ (xs ++ (e ++ w))))
advise-words c cs x xs e w m = simp append_assoc

module _ (limit : ℕ) (s : List Item) where
  pub table : (b : Bool) (o : Token) → b ≡ READS_TABLE →
      IsRule limit s AfterExplain (t_mark Open o) (cond b (Some (Keyword Table ∷ Sign Close ∷ Query ∷ MaybeOrder ∷ MaybeLimit ∷ MaybeOffset ∷ Ends ∷ [])) None)
  table true o is = λ (t, (m, ((q, low), (y, (l, (u, (e, f))))))). (
    (
      (
        t_mark Open o ∷ t_key Table t ∷ t_mark Close m ∷ (words_of_select q ++ (words_of_order y ++ ((words_of_limit l ++ words_of_offset u) ++ words_of_ending e))),
        λ k. (query (ordered_select (explain_table (subst IsOffered is tt) k o t m) q y (window l u) e), refl, omega arith),
      ),
      f,
    ),
    ap (λ v. t_mark Open o ∷ t_key Table t ∷ t_mark Close m ∷ v)
        (select-words (words_of_select q) (words_of_order y) (words_of_limit l) (words_of_offset u) (words_of_ending e) (words_of_parts limit s f)),
  )
  table false o is = tt

  module _ (shallow : depth_of s ≤ limit) where
    pub analyze_rule : (b : Bool) (k : Token) → b ≡ READS_ANALYZE → IsRule limit s Whole (t_name (free Analyze k)) (cond b (Some (Label ∷ Ends ∷ [])) None)
    analyze_rule true k is = λ (n, (e, f)). (((analyze (subst IsOffered is tt) k n e, omega arith), f), refl)
    analyze_rule false k is = tt

    pub advise_rule : (b : Bool) (k : Token) → b ≡ READS_ADVISE →
        IsRule limit s Whole (t_name (free AdviseWord k)) (cond b (Some (Digits ∷ Sign Open ∷ Candidate ∷ MoreCands ∷ AdvisedSelect ∷ MoreAdvised ∷ Ends ∷ [])) None)
    advise_rule true k is = λ (n, (o, ((c, first), ((cs, others, m), ((x, asked), ((xs, more), (e, f))))))). (
      ((advise (advise_of (subst IsOffered is tt) k n o c cs m x xs e), omega arith), f),
      ap (λ v. t_name (free AdviseWord k) ∷ t_number n ∷ t_mark Open o ∷ v)
          (advise-words (words_of_cand c) (words_of_cands cs) (words_of_advised x) (words_of_more_advised xs) (words_of_ending e) (words_of_parts limit s f) (t_mark Close m)),
    )
    advise_rule false k is = tt

    pub check_rule : (b : Bool) (k : Token) → b ≡ READS_CHECK → IsRule limit s Whole (t_name (free Check k)) (cond b (Some (Query ∷ MaybeOrder ∷ MaybeLimit ∷ MaybeOffset ∷ Stop ∷ [])) None)
    check_rule true k is = λ ((q, low), (y, (l, (u, (e, f))))). (
      ((check (subst IsOffered is tt) k (windowed_select q y (window l u)) e, omega arith), f),
      ap (λ v. t_name (free Check k) ∷ v) (windowed-words (words_of_select q) (words_of_order y) (words_of_limit l) (words_of_offset u) (t_semicolon e ∷ []) (words_of_parts limit s f)),
    )
    check_rule false k is = tt

    pub plan_rule : (b : Bool) (k : Token) → b ≡ READS_PLAN → IsRule limit s Whole (t_name (free Use k)) (cond b (Some (FreeWord Plan ∷ Query ∷ MaybeOrder ∷ Stop ∷ [])) None)
    plan_rule true k is = λ (p, ((q, low), (y, (e, f)))). (((use_plan (subst IsOffered is tt) k p q y e, omega arith), f), simp append_assoc)
    plan_rule false k is = tt
