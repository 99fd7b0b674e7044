-- The walk takes every CREATE INDEX.
use Rattle.std.proofs.Common.{◌≡◌, ℕ, ◌+◌, ◌≤◌, true, List, [], ◌∷◌, ◌++◌, refl, sym, ap, ◌∙◌, arith, append_assoc, append-nil}
use Rattle.sql_grammar.specs.Terminals.{Terminal, Ident, free, t_mark, t_name}
use Rattle.sql_grammar.specs.declared.class.Free.TheVariants.{Nulls}
use Rattle.sql_grammar.specs.declared.class.Symbol.TheVariants.{Open, Close}
use Rattle.sql_grammar.specs.declared.table.Item.{Item}
use Rattle.sql_grammar.specs.declared.table.Item.TheVariants.{Sign, Label, Ends, MaybeWhere, MaybeDirection, MaybeNulls, Whole, MaybeUsing, MaybeClass, MoreKeys, MaybeInclude, MoreNames, Candidate}
use Rattle.sql_grammar.specs.Syntax.{Mark, Where, no_where, where_expr, Ending, semicolon, text_end}
use Rattle.sql_grammar.specs.Words.{words_of_where, words_of_ending, levels_of_where}
use Rattle.sql_grammar.specs.Syntax.{Direction, no_direction, ascending, descending, NullsEnd, no_nulls_end, nulls_first, nulls_last}
use Rattle.sql_grammar.specs.Words.{words_of_direction, words_of_nulls_end}
use Rattle.sql_grammar.specs.Syntax.{IsClassName, no_class, op_class, KeyTree, index_key, Using, no_using, using_method, Include, no_include, include_columns, CreateIndex, index_on, Cand, cand_on}
use Rattle.sql_grammar.specs.Words.{words_of_key, words_of_keys, words_of_using, words_of_names, words_of_include, words_of_index, words_of_cand, levels_of_index, levels_of_cand}
use Rattle.sql_grammar.specs.work.Machine.{depth_of, takes_all}
use Rattle.sql_grammar.proofs.Complete.{Passes, EndsExpr, skip, apart, condition, ending}
use Rattle.sql_grammar.proofs.OrderComplete.{sorted}

-- what follows a key
pub record EndsKey (ts : List Terminal) : Type 0 where
  pub op_class : Passes MaybeClass ts
  pub direction : Passes MaybeDirection ts
  pub nulls : Passes MaybeNulls ts

after-column : (d : Direction) (z : NullsEnd) (ts : List Terminal) → Passes MaybeClass ts → Passes MaybeClass ((words_of_direction d ++ words_of_nulls_end z) ++ ts)
after-column no_direction no_nulls_end ts p = p
after-column no_direction (nulls_first n f) ts p = refl
after-column no_direction (nulls_last n l) ts p = refl
after-column (ascending k) z ts p = refl
after-column (descending k) z ts p = refl

after-key : (ks : List (Mark × KeyTree)) (m : Mark) (ts : List Terminal) → EndsKey (words_of_keys ks ++ t_mark Close m ∷ ts)
after-key [] m ts = record { op_class = refl; direction = refl; nulls = refl }
after-key (k ∷ ks) m ts = record { op_class = refl; direction = refl; nulls = refl }

after-include : (w : Where) (ts : List Terminal) → Passes MaybeInclude ts → Passes MaybeInclude (words_of_where w ++ ts)
after-include no_where ts p = p
after-include (where_expr k c) ts p = refl

-- what follows a candidate for an index
pub record EndsCand (ts : List Terminal) : Type 0 where
  pub include : Passes MaybeInclude ts
  pub condition : Passes MaybeWhere ts
  pub expr : EndsExpr ts

ending-cand : (e : Ending) → EndsCand (words_of_ending e)
ending-cand (semicolon t) = record { include = refl; condition = refl; expr = record { conj = record { atom = refl; ands = refl }; ors = refl } }
ending-cand (text_end t) = record { include = refl; condition = refl; expr = record { conj = record { atom = refl; ands = refl }; ors = refl } }

-- the words of CREATE INDEX from its method on, and those behind them
pub cand-words : (u k ks c w ts : List Terminal) (p m : Terminal) → (u ++ p ∷ (k ++ (ks ++ m ∷ (c ++ w)))) ++ ts ≡ u ++ p ∷ (k ++ (ks ++ m ∷ (c ++ (w ++ ts))))
cand-words u k ks c w ts p m = simp append_assoc

module _ (limit : ℕ) where
  named : (n : Ident) → IsClassName n → (s : List Item) (ts : List Terminal) → takes_all limit (t_name n ∷ ts) (MaybeClass ∷ s) ≡ takes_all limit ts s
  named (free Nulls k) p s ts = absurd p
  named _ p s ts = refl

  key : (x : KeyTree) (s : List Item) (ts : List Terminal) → EndsKey ts →
      takes_all limit (words_of_key x ++ ts) (Label ∷ MaybeClass ∷ MaybeDirection ∷ MaybeNulls ∷ s) ≡ takes_all limit ts s
  key (index_key n no_class d z) s ts p =
      skip limit MaybeClass (MaybeDirection ∷ MaybeNulls ∷ s) ((words_of_direction d ++ words_of_nulls_end z) ++ ts) refl (after-column d z ts p.op_class) ∙
      sorted limit d z s ts p.direction p.nulls
  key (index_key n (op_class c named') d z) s ts p =
      named c named' (MaybeDirection ∷ MaybeNulls ∷ s) ((words_of_direction d ++ words_of_nulls_end z) ++ ts) ∙ sorted limit d z s ts p.direction p.nulls

  keys : (x : KeyTree) (xs : List (Mark × KeyTree)) (m : Mark) (s : List Item) (ts : List Terminal) →
      takes_all limit (words_of_key x ++ (words_of_keys xs ++ t_mark Close m ∷ ts)) (Label ∷ MaybeClass ∷ MaybeDirection ∷ MaybeNulls ∷ MoreKeys ∷ s) ≡ takes_all limit ts s
  keys x [] m s ts = key x (MoreKeys ∷ s) (t_mark Close m ∷ ts) (after-key [] m ts)
  keys x ((c, y) ∷ ys) m s ts =
      key x (MoreKeys ∷ s) (words_of_keys ((c, y) ∷ ys) ++ t_mark Close m ∷ ts) (after-key ((c, y) ∷ ys) m ts) ∙
      (apart limit (words_of_key y) (words_of_keys ys) (t_mark Close m ∷ ts) (Label ∷ MaybeClass ∷ MaybeDirection ∷ MaybeNulls ∷ MoreKeys ∷ s) ∙ keys y ys m s ts)

  using : (u : Using) (p : Mark) (s : List Item) (ts : List Terminal) → takes_all limit (words_of_using u ++ t_mark Open p ∷ ts) (MaybeUsing ∷ Sign Open ∷ s) ≡ takes_all limit ts s
  using no_using p s ts = refl
  using (using_method k n) p s ts = refl

  names : (ns : List (Mark × Ident)) (m : Mark) (s : List Item) (ts : List Terminal) → takes_all limit (words_of_names ns ++ t_mark Close m ∷ ts) (MoreNames ∷ s) ≡ takes_all limit ts s
  names [] m s ts = refl
  names ((c, n) ∷ ns) m s ts = names ns m s ts

  include : (c : Include) (s : List Item) (ts : List Terminal) → Passes MaybeInclude ts → takes_all limit (words_of_include c ++ ts) (MaybeInclude ∷ s) ≡ takes_all limit ts s
  include no_include s ts p = skip limit MaybeInclude s ts refl p
  include (include_columns k o n ns m) s ts p = apart limit (words_of_names ns) (t_mark Close m ∷ []) ts (MoreNames ∷ s) ∙ names ns m s ts

  -- from the method on
  behind : (u : Using) (p : Mark) (x : KeyTree) (xs : List (Mark × KeyTree)) (m : Mark) (c : Include) (w : Where) (s : List Item) (ts : List Terminal) →
      levels_of_where w + depth_of s ≤ limit → EndsCand ts →
      takes_all limit (words_of_using u ++ t_mark Open p ∷ (words_of_key x ++ (words_of_keys xs ++ t_mark Close m ∷ (words_of_include c ++ (words_of_where w ++ ts)))))
      (MaybeUsing ∷ Sign Open ∷ Label ∷ MaybeClass ∷ MaybeDirection ∷ MaybeNulls ∷ MoreKeys ∷ MaybeInclude ∷ MaybeWhere ∷ s) ≡ takes_all limit ts s
  behind u p x xs m c w s ts low ends =
      using u p (Label ∷ MaybeClass ∷ MaybeDirection ∷ MaybeNulls ∷ MoreKeys ∷ MaybeInclude ∷ MaybeWhere ∷ s)
      (words_of_key x ++ (words_of_keys xs ++ t_mark Close m ∷ (words_of_include c ++ (words_of_where w ++ ts)))) ∙
      (keys x xs m (MaybeInclude ∷ MaybeWhere ∷ s) (words_of_include c ++ (words_of_where w ++ ts)) ∙
      (include c (MaybeWhere ∷ s) (words_of_where w ++ ts) (after-include w ts ends.include) ∙ condition limit w s ts low ends.condition ends.expr))

  pub index : (x : CreateIndex) → levels_of_index x ≤ limit → takes_all limit (words_of_index x) (Whole ∷ []) ≡ true
  index (index_on k i n o t u p x xs m c w e) low = behind u p x xs m c w (Ends ∷ []) (words_of_ending e) (omega (arith, low)) (ending-cand e) ∙ ending limit e

  pub candidate : (x : Cand) (s : List Item) (ts : List Terminal) → levels_of_cand x + depth_of s ≤ limit → EndsCand ts →
      takes_all limit (words_of_cand x ++ ts) (Candidate ∷ s) ≡ takes_all limit ts s
  candidate (cand_on n o t u p x xs m c w) s ts low ends =
      ap (λ l. takes_all limit l (MaybeUsing ∷ Sign Open ∷ Label ∷ MaybeClass ∷ MaybeDirection ∷ MaybeNulls ∷ MoreKeys ∷ MaybeInclude ∷ MaybeWhere ∷ s))
      (cand-words (words_of_using u) (words_of_key x) (words_of_keys xs) (words_of_include c) (words_of_where w) ts (t_mark Open p) (t_mark Close m)) ∙ behind u p x xs m c w s ts low ends

  pub cand : (x : Cand) → levels_of_cand x ≤ limit → takes_all limit (words_of_cand x) (Candidate ∷ []) ≡ true
  cand x low = ap (λ l. takes_all limit l (Candidate ∷ [])) (sym (append-nil (words_of_cand x))) ∙
      candidate x [] [] (omega (arith, low)) (record { include = tt; condition = tt; expr = record { conj = record { atom = tt; ands = tt }; ors = tt } })
