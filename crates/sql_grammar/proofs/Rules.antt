-- Each row of the table is a rule of the grammar: from parts for what stands for an item after a token, a part for the item.
use Rattle.std.proofs.Common.{◌≡◌, ℕ, ◌≤◌, Bool, true, false, List, [], ◌∷◌, ◌++◌, Some, None, refl, sym, ap, ◌∙◌, arith, append_assoc, append-nil, cond, nat_eq, drop}
use Rattle.sql_lex.specs.declared.tokens.Token.{Token}
use Rattle.sql_lex.specs.declared.tokens.Kind.TheVariants.{End}
use Rattle.sql_grammar.specs.Terminals.{Terminal, Ident, Said, t_key, t_mark, t_name, t_number, t_quoted, t_operator, t_semicolon, t_end, free, other}
use Rattle.sql_grammar.specs.work.Terminals.{class_of}
use Rattle.sql_grammar.specs.declared.class.Free.TheVariants.{Between, Character, Common, Copy, Distinct, Explain, Full, Histogram, In, Left, Natural, Outer, Right, Last, Nulls, Pages, Rows, Statistics, Include as IncludeWord, Index as IndexWord, By, First, Advise as AdviseWord, Analyze, Check, Time, Timestamp, Use, Varying, Without, Zone}
use Rattle.sql_grammar.specs.declared.class.Free.{Free as FreeT}
use Rattle.sql_grammar.specs.declared.class.Word.{Word}
use Rattle.sql_grammar.specs.declared.class.Word.TheVariants.{And, As, Create, False, Is, Not, Null, Or, Select, Table, True, Where, Using as UsingKey, Asc, Desc, Cross, Inner, On, Limit, Offset, From, Group as GroupKey, Join, With}
use Rattle.sql_grammar.specs.declared.class.Symbol.{Symbol}
use Rattle.sql_grammar.specs.declared.class.Symbol.TheVariants.{Open, Close, Comma, Dot, Minus, Star}
use Rattle.sql_grammar.specs.declared.table.Item.{Item}
use Rattle.sql_grammar.specs.declared.table.Item.TheVariants.{Keyword, Sign, FreeWord, Label, Digits, QuotedText, Whole, Ends, Stop, Query, ColumnType, MaybeVarying, MaybeModifiers, MoreModifiers, MaybeZone, Nullness, MoreColumns, Result, MoreResults, AfterResult, StarOrLabel, MaybeAlias, MoreJoins, MoreGroups, MaybeWhere, Figures, MaybeCommon, MoreShares, MaybeHistogram, MoreBounds, Literal, Negation, MoreAnds, MoreOrs, Closes, NotEnds, AfterName, AfterColumn, AfterNot, AfterIs, AfterLiteral, AfterTruth, Side, AfterSide, AfterQualifier, MaybeOrder, MoreOrderings, MaybeLimit, MaybeOffset, MaybeDirection, MaybeNulls, FirstOrLast, AfterCreate, MaybeUsing, MaybeClass, MoreKeys, MaybeInclude, MoreNames, AfterExplain, Candidate, MoreCands, AdvisedSelect, MoreAdvised, FirstItem, AfterDistinct, PlainItem, AfterPlain, PlainNext, PlainTail, GroupedItem, AfterGroupedName, MoreGroupedItems, Argument, MaybeGroup, MoreGroupColumns}
use Rattle.sql_grammar.specs.Syntax.{bare, qualified, yes, no, unknown, number, negative, quoted, constant, column, literal, typed, either_of, no_or, or_conj, both_of, no_and, and_neg, no_not, not_before, negated, plain, parens, compare, is_null, is_not_null, in_list, between, column_alone, constant_alone, unwritten, not_null, nullable, no_modifiers, modifiers, named_type, character_varying, timestamp_with_zone, timestamp_without_zone, coldef, every, every_of, one, no_alias, bare_alias, as_alias, relation, group_of, no_where, where_expr, select_from, share, no_common, common, no_histogram, histogram, semicolon, text_end, empty, create_table, copy, sizes, column_statistics, op_class, using_method, include_columns, index_on, create_index, ascending, descending, nulls_first, ordering, no_inner, inner, join_on, cross_join, of_col, call, group_by}
use Rattle.sql_grammar.specs.Words.{words_of_lit, words_of_bounds, words_of_operand, words_of_ending, words_of_common, words_of_histogram, words_of_coldef, words_of_modifiers, words_of_columns, words_of_index, words_of_direction, words_of_nulls_end, words_of_orderings, words_of_alias, words_of_joins, words_of_neg, words_of_ands, words_of_ors, words_of_select, words_of_order, words_of_limit, words_of_offset, words_of_more_advised, words_of_argument, words_of_group_columns}
use Rattle.sql_grammar.specs.Syntax.{no_direction, no_nulls_end, nulls_last, no_order, no_limit, no_offset, window, windowed_select, unexplained, explained, all_rows, plain_item, no_group_by}
use Rattle.sql_grammar.specs.Syntax.{no_class, index_key, no_using, no_include, cand_on, advised}
use Rattle.sql_grammar.proofs.Codes.{same_word, same_sign, same_free}
use Rattle.sql_grammar.specs.work.Table.{word_code, sign_code, free_code, Expansion, takes_of, is_optional}
use Rattle.sql_grammar.specs.work.Machine.{depth_of}
use Rattle.sql_grammar.proofs.Forest.{Atom_after, Part, words_of_part, Parts, words_of_parts, IsRule}
use Rattle.sql_grammar.proofs.FromRules as froms
use Rattle.sql_grammar.proofs.OrderRules as orders
use Rattle.sql_grammar.proofs.WindowRules as windows
use Rattle.sql_grammar.proofs.AdviseRules as offers
use Rattle.sql_grammar.proofs.GroupRules as groupings
use Rattle.sql_grammar.specs.declared.offered.TheConstants.{READS_WINDOW, READS_ADVISE, READS_ANALYZE, READS_CHECK, READS_PLAN, READS_TABLE}

-- where a word stands that is not there
abbrev no_place : Token
no_place = record { kind = End; start = 0; end = 0 }

abbrev a_name : Ident
a_name = other (97 ∷ []) no_place

abbrev saying : List ℕ → Said
saying value = record { value = value; token = no_place }

module _ (limit : ℕ) (s : List Item) (shallow : depth_of s ≤ limit) where
  -- parts for what stands for i after t give parts for i that begin with t
  abbrev pub Rule : Item → Terminal → Expansion → Type 0
  Rule i t e = IsRule limit s i t e

  -- an atom that opens no level, after its first words
  atom_rule : (t : Terminal) (ws : List Terminal) (f : Parts limit s) → Atom_after (t ∷ []) ws →
      (g : Parts limit (Negation ∷ s)) × (words_of_parts limit (Negation ∷ s) g ≡ t ∷ (ws ++ words_of_parts limit s f))
  atom_rule t ws f (a, is, flat) = (((plain a, omega arith), f), ap (λ l. l ++ words_of_parts limit s f) is)

  word_tested : (v w : Word) (k : Token) (b : Bool) → (b ≡ true → v ≡ w) → Rule (Keyword w) (t_key v k) (cond b (Some []) None)
  word_tested v w k true is = λ f. ((k, f), ap (λ x. t_key x k ∷ words_of_parts limit s f) (sym (is refl)))
  word_tested v w k false is = tt

  sign_tested : (v w : Symbol) (m : Token) (b : Bool) → (b ≡ true → v ≡ w) → Rule (Sign w) (t_mark v m) (cond b (Some []) None)
  sign_tested v w m true is = λ f. ((m, f), ap (λ x. t_mark x m ∷ words_of_parts limit s f) (sym (is refl)))
  sign_tested v w m false is = tt

  free_tested : (v w : FreeT) (t : Token) (b : Bool) → (b ≡ true → v ≡ w) → Rule (FreeWord w) (t_name (free v t)) (cond b (Some []) None)
  free_tested v w t true is = λ f. ((t, f), ap (λ x. t_name (free x t) ∷ words_of_parts limit s f) (sym (is refl)))
  free_tested v w t false is = tt

  -- the rows
  pub rule : (i : Item) (t : Terminal) → Rule i t (takes_of i (class_of t))
  rule (Keyword w) (t_key v k) = word_tested v w k (nat_eq (word_code v) (word_code w)) (same_word v w)
  rule (Sign w) (t_mark v m) = sign_tested v w m (nat_eq (sign_code v) (sign_code w)) (same_sign v w)
  rule (FreeWord w) (t_name (free v t)) = free_tested v w t (nat_eq (free_code v) (free_code w)) (same_free v w)
  rule Label (t_name n) = λ f. ((n, f), refl)
  rule Digits (t_number n) = λ f. ((n, f), refl)
  rule QuotedText (t_quoted q) = λ f. ((q, f), refl)
  rule Whole (t_key Create k) = λ ((ts, after'), f). let (x, is, low) = after' k in (((x, low), f), ap (λ l. l ++ words_of_parts limit s f) is)
  rule Whole (t_key Select k) = λ ((ts, after'), f). let (x, is, low) = after' unexplained k in (((x, low), f), ap (λ l. l ++ words_of_parts limit s f) is)
  rule Whole (t_name (free Explain k)) = λ ((ts, after'), f). let (x, is, low) = after' k in (((x, low), f), ap (λ l. l ++ words_of_parts limit s f) is)
  rule Whole (t_name (free Copy k)) = λ (n, (from_at, (stdin, (with_at, (open_at, (format, (csv, (comma, (null, (text, (close_at, (stop, f)))))))))))).
      (((copy (record { copy = k; from_at = from_at; stdin = stdin; with_at = with_at; open_at = open_at; format = format; csv = csv; comma = comma; null = null; close_at = close_at; stop = stop }) n text, omega arith), f), refl)
  rule Whole (t_name (free Statistics k)) = λ (n, ((ts, after'), (e, f))).
      let (x, is, flat) = after' k n e in
      (((x, omega (arith, flat)), f), ap (λ l. l ++ words_of_parts limit s f) is ∙ ap (λ l. t_name (free Statistics k) ∷ t_name n ∷ l) (append_assoc ts (words_of_ending e) (words_of_parts limit s f)))
  rule Whole (t_name (free AdviseWord k)) = offers.advise_rule limit s shallow READS_ADVISE k refl
  rule Whole (t_name (free Analyze k)) = offers.analyze_rule limit s shallow READS_ANALYZE k refl
  rule Whole (t_name (free Check k)) = offers.check_rule limit s shallow READS_CHECK k refl
  rule Whole (t_name (free Use k)) = offers.plan_rule limit s shallow READS_PLAN k refl
  rule Whole (t_semicolon t) = λ f. (((empty (semicolon t), omega arith), f), refl)
  rule Whole (t_end t) = λ f. (((empty (text_end t), omega arith), f), refl)
  rule Ends (t_semicolon t) = λ f. ((semicolon t, f), refl)
  rule Ends (t_end t) = λ f. ((text_end t, f), refl)
  rule Stop (t_semicolon t) = λ f. ((t, f), refl)
  rule Query (t_key Select k) = λ (o, (os, (from, (n, (a, ((js, ejs), ((gs, egs), ((w, low), f)))))))). (((select_from k o os from (group_of (relation n a) js) gs w, omega arith), f), simp append_assoc)
  rule ColumnType (t_name (free Character k)) = λ ((ts, after'), (m, f)). (
    ((after' k m).0, f),
    ap (λ l. l ++ words_of_parts limit s f) (after' k m).1 ∙ ap (λ l. t_name (free Character k) ∷ l) (append_assoc ts (words_of_modifiers m) (words_of_parts limit s f)),
  )
  rule ColumnType (t_name (free Timestamp k)) = λ (m, ((ts, after'), f)). (
    ((after' k m).0, f),
    ap (λ l. l ++ words_of_parts limit s f) (after' k m).1 ∙ ap (λ l. t_name (free Timestamp k) ∷ l) (append_assoc (words_of_modifiers m) ts (words_of_parts limit s f)),
  )
  rule ColumnType (t_name n) = λ (m, f). ((named_type n m, f), refl)
  rule MaybeVarying (t_name (free Varying v)) = λ f. (((t_name (free Varying v) ∷ [], λ k m. (character_varying k v m, refl)), f), refl)
  rule MaybeModifiers (t_mark Open o) = λ (n, ((ns, m), f)). ((modifiers o n ns m, f), simp append_assoc)
  rule MoreModifiers (t_mark Comma c) = λ (n, ((ns, m), f)). ((((c, n) ∷ ns, m), f), refl)
  rule MoreModifiers (t_mark Close m) = λ f. ((([], m), f), refl)
  rule MaybeZone (t_key With w) = λ (t, (z, f)). (((t_key With w ∷ t_name (free Time t) ∷ t_name (free Zone z) ∷ [], λ k m. (timestamp_with_zone k m w t z, refl)), f), refl)
  rule MaybeZone (t_name (free Without w)) = λ (t, (z, f)). (((t_name (free Without w) ∷ t_name (free Time t) ∷ t_name (free Zone z) ∷ [], λ k m. (timestamp_without_zone k m w t z, refl)), f), refl)
  rule Nullness (t_key Not n) = λ (k, f). ((not_null n k, f), refl)
  rule Nullness (t_key Null k) = λ f. ((nullable k, f), refl)
  rule MoreColumns (t_mark Comma m) = λ (c, (y, (nulls, ((cs, close), f)))). ((((m, coldef c y nulls) ∷ cs, close), f), simp append_assoc)
  rule MoreColumns (t_mark Close m) = λ f. ((([], m), f), refl)
  rule Negation (t_key Not k) = λ ((n, en), (_, f)). (((negated k n, omega arith), f), refl)
  rule Negation (t_mark Open m) = λ ((n, en), ((ns, ens), ((os, eos), (close, f)))). (((plain (parens m (either_of (both_of n ns) os) close), omega arith), f), simp append_assoc)
  rule Negation (t_name n) = λ ((ws, after'), f). atom_rule (t_name n) ws f (after' n)
  rule Negation (t_number n) = λ ((ws, after'), f). atom_rule (t_number n) ws f (after' (literal (number n)))
  rule Negation (t_quoted q) = λ ((ws, after'), f). atom_rule (t_quoted q) ws f (after' (literal (quoted q)))
  rule Negation (t_mark Minus m) = λ (n, ((ws, after'), f)). atom_rule (t_mark Minus m) (t_number n ∷ ws) f (after' (literal (negative m n)))
  rule Negation (t_key True k) = λ ((ws, after'), f). atom_rule (t_key True k) ws f (after' yes k)
  rule Negation (t_key False k) = λ ((ws, after'), f). atom_rule (t_key False k) ws f (after' no k)
  rule Negation (t_key Null k) = λ ((ws, after'), f). atom_rule (t_key Null k) ws f (after' unknown k)
  rule MoreAnds (t_key And k) = λ ((n, en), ((ns, ens), f)). (((and_neg k n ns, omega arith), f), simp append_assoc)
  rule MoreOrs (t_key Or k) = λ ((n, en), ((ns, ens), ((os, eos), f))). (((or_conj k (both_of n ns) os, omega arith), f), simp append_assoc)
  rule Closes (t_mark Close m) = λ f. ((m, f), refl)
  rule AfterName (t_mark Dot m) = λ (n, ((ws, after'), f)). (((t_mark Dot m ∷ t_name n ∷ ws, λ q. after' (qualified q m n)), f), refl)
  rule AfterName (t_quoted q) = λ ((ws, after'), f). (((t_quoted q ∷ ws, λ n. after' (typed n q)), f), refl)
  rule AfterName (t_key Is k) = λ ((ws, after'), f). (((t_key Is k ∷ ws, λ n. after' (bare n) k), f), refl)
  rule AfterName (t_operator op) = λ (r, f). (((t_operator op ∷ words_of_operand r, λ n. (compare (column (bare n)) op r, refl, refl)), f), refl)
  rule AfterName (t_key Not k) = λ ((ws, after'), f). (((t_key Not k ∷ ws, λ n. after' (bare n) k), f), refl)
  rule AfterName (t_name (free In w)) = λ (o, (l, ((ls, m), f))). (((t_name (free In w) ∷ t_mark Open o ∷ (words_of_lit l ++ (words_of_bounds ls ++ t_mark Close m ∷ [])), λ n. (in_list tt (bare n) no_not w o l ls m, refl, refl)), f), simp append_assoc)
  rule AfterName (t_name (free Between w)) = λ (a, (j, (b, f))). (((t_name (free Between w) ∷ (words_of_operand a ++ t_key And j ∷ words_of_operand b), λ n. (between tt (column (bare n)) no_not w a j b, refl, refl)), f), simp append_assoc)
  rule AfterColumn (t_key Is k) = λ ((ws, after'), f). (((t_key Is k ∷ ws, λ c. after' c k), f), refl)
  rule AfterColumn (t_operator op) = λ (r, f). (((t_operator op ∷ words_of_operand r, λ c. (compare (column c) op r, refl, refl)), f), refl)
  rule AfterColumn (t_key Not k) = λ ((ws, after'), f). (((t_key Not k ∷ ws, λ c. after' c k), f), refl)
  rule AfterColumn (t_name (free In w)) = λ (o, (l, ((ls, m), f))). (((t_name (free In w) ∷ t_mark Open o ∷ (words_of_lit l ++ (words_of_bounds ls ++ t_mark Close m ∷ [])), λ c. (in_list tt c no_not w o l ls m, refl, refl)), f), simp append_assoc)
  rule AfterColumn (t_name (free Between w)) = λ (a, (j, (b, f))). (((t_name (free Between w) ∷ (words_of_operand a ++ t_key And j ∷ words_of_operand b), λ c. (between tt (column c) no_not w a j b, refl, refl)), f), simp append_assoc)
  rule AfterNot (t_name (free In w)) = λ (o, (l, ((ls, m), f))). (((t_name (free In w) ∷ t_mark Open o ∷ (words_of_lit l ++ (words_of_bounds ls ++ t_mark Close m ∷ [])), λ c k. (in_list tt c (not_before k) w o l ls m, refl, refl)), f), simp append_assoc)
  rule AfterNot (t_name (free Between w)) = λ (a, (j, (b, f))). (((t_name (free Between w) ∷ (words_of_operand a ++ t_key And j ∷ words_of_operand b), λ c k. (between tt (column c) (not_before k) w a j b, refl, refl)), f), simp append_assoc)
  rule AfterIs (t_key Not n) = λ (k, f). (((t_key Not n ∷ t_key Null k ∷ [], λ c i. (is_not_null c i n k, refl, refl)), f), refl)
  rule AfterIs (t_key Null k) = λ f. (((t_key Null k ∷ [], λ c i. (is_null c i k, refl, refl)), f), refl)
  rule AfterLiteral (t_operator op) = λ (r, f). (((t_operator op ∷ words_of_operand r, λ l. (compare l op r, refl, refl)), f), refl)
  rule AfterLiteral (t_key Not k) = λ (w, (a, (j, (b, f)))). (((t_key Not k ∷ t_name (free Between w) ∷ (words_of_operand a ++ t_key And j ∷ words_of_operand b), λ l. (between tt l (not_before k) w a j b, refl, refl)), f), simp append_assoc)
  rule AfterLiteral (t_name (free Between w)) = λ (a, (j, (b, f))). (((t_name (free Between w) ∷ (words_of_operand a ++ t_key And j ∷ words_of_operand b), λ l. (between tt l no_not w a j b, refl, refl)), f), simp append_assoc)
  rule AfterTruth (t_operator op) = λ (r, f). (((t_operator op ∷ words_of_operand r, λ c k. (compare (literal (constant c k)) op r, refl, refl)), f), refl)
  rule AfterTruth (t_key Not k) = λ (w, (a, (j, (b, f)))). (((t_key Not k ∷ t_name (free Between w) ∷ (words_of_operand a ++ t_key And j ∷ words_of_operand b), λ c i. (between tt (literal (constant c i)) (not_before k) w a j b, refl, refl)), f), simp append_assoc)
  rule AfterTruth (t_name (free Between w)) = λ (a, (j, (b, f))). (((t_name (free Between w) ∷ (words_of_operand a ++ t_key And j ∷ words_of_operand b), λ c i. (between tt (literal (constant c i)) no_not w a j b, refl, refl)), f), simp append_assoc)
  rule Side (t_name n) = λ ((ws, after'), f). (((after' n).0, f), ap (λ l. l ++ words_of_parts limit s f) (after' n).1)
  rule Side (t_number n) = λ f. ((literal (number n), f), refl)
  rule Side (t_quoted q) = λ f. ((literal (quoted q), f), refl)
  rule Side (t_mark Minus m) = λ (n, f). ((literal (negative m n), f), refl)
  rule Side (t_key True k) = λ f. ((literal (constant yes k), f), refl)
  rule Side (t_key False k) = λ f. ((literal (constant no k), f), refl)
  rule Side (t_key Null k) = λ f. ((literal (constant unknown k), f), refl)
  rule AfterSide (t_mark Dot m) = λ (n, f). (((t_mark Dot m ∷ t_name n ∷ [], λ q. (column (qualified q m n), refl)), f), refl)
  rule AfterSide (t_quoted q) = λ f. (((t_quoted q ∷ [], λ n. (typed n q, refl)), f), refl)
  rule AfterQualifier (t_mark Dot m) = λ (n, f). (((t_mark Dot m ∷ t_name n ∷ [], λ q. (qualified q m n, refl)), f), refl)
  rule Result (t_mark Star m) = λ f. ((every m, f), refl)
  rule Result (t_name n) = λ ((ws, after'), f). (((after' n).0, f), ap (λ l. l ++ words_of_parts limit s f) (after' n).1)
  rule MoreResults (t_mark Comma m) = λ (o, (os, f)). (((m, o) ∷ os, f), simp append_assoc)
  rule AfterResult (t_mark Dot m) = λ ((ws, after'), f). (((t_mark Dot m ∷ ws, λ n. after' n m), f), refl)
  rule StarOrLabel (t_mark Star m) = λ f. (((t_mark Star m ∷ [], λ n d. (every_of n d m, refl)), f), refl)
  rule StarOrLabel (t_name m) = λ f. (((t_name m ∷ [], λ n d. (one (qualified n d m), refl)), f), refl)
  rule MaybeAlias (t_key As k) = λ (n, f). ((as_alias k n, f), refl)
  rule MaybeAlias (t_name (free Full k)) = tt
  rule MaybeAlias (t_name (free Left k)) = tt
  rule MaybeAlias (t_name (free Natural k)) = tt
  rule MaybeAlias (t_name (free Outer k)) = tt
  rule MaybeAlias (t_name (free Right k)) = tt
  rule MaybeAlias (t_name n) = λ f. ((bare_alias n tt, f), refl)
  rule MoreJoins (t_key Join k) = λ (n, (a, (on, ((c, low), ((ns, more), ((os, others), ((js, rest), f))))))). (
    ((join_on no_inner k (relation n a) on (either_of (both_of c ns) os) ∷ js, omega arith), f),
    ap (λ l. t_key Join k ∷ t_name n ∷ l) (froms.on-words (words_of_alias a) (words_of_neg c) (words_of_ands ns) (words_of_ors os) (words_of_joins js) (words_of_parts limit s f) (t_key On on)),
  )
  rule MoreJoins (t_key Inner i) = λ (k, (n, (a, (on, ((c, low), ((ns, more), ((os, others), ((js, rest), f)))))))). (
    ((join_on (inner i) k (relation n a) on (either_of (both_of c ns) os) ∷ js, omega arith), f),
    ap (λ l. t_key Inner i ∷ t_key Join k ∷ t_name n ∷ l) (froms.on-words (words_of_alias a) (words_of_neg c) (words_of_ands ns) (words_of_ors os) (words_of_joins js) (words_of_parts limit s f) (t_key On on)),
  )
  rule MoreJoins (t_key Cross c) = λ (k, (n, (a, ((js, rest), f)))). (((cross_join c k (relation n a) ∷ js, omega arith), f), simp append_assoc)
  rule MoreGroups (t_mark Comma m) = λ (n, (a, ((js, low), ((gs, rest), f)))). ((((m, group_of (relation n a) js) ∷ gs, omega arith), f), simp append_assoc)
  rule MaybeWhere (t_key Where k) = λ ((n, en), ((ns, ens), ((os, eos), f))). (((where_expr k (either_of (both_of n ns) os), omega arith), f), simp append_assoc)
  rule Figures (t_name (free Rows k)) = λ (r, (pages, (p, f))). (
    (
      (
        t_name (free Rows k) ∷ t_number r ∷ t_name (free Pages pages) ∷ t_number p ∷ [],
        λ i n e. (sizes (record { statistics = i; rows = k; pages = pages }) n r p e, refl, refl),
      ),
      f,
    ),
    refl,
  )
  rule Figures (t_mark Dot m) = λ (c, (distinct, (d, (nulls, (z, (v, (h, f))))))). (
    (
      (
        t_mark Dot m ∷ t_name c ∷ t_name (free Distinct distinct) ∷ t_number d ∷ t_name (free Nulls nulls) ∷ t_number z ∷ (words_of_common v ++ words_of_histogram h),
        λ i n e. (column_statistics (record { statistics = i; dot = m; distinct = distinct; nulls = nulls }) n c d z v h e, simp append_assoc, refl),
      ),
      f,
    ),
    simp append_assoc,
  )
  rule MaybeCommon (t_name (free Common k)) = λ (o, (l, (n, ((ss, m), f)))). ((common k o (share l n) ss m, f), simp append_assoc)
  rule MoreShares (t_mark Comma m) = λ (l, (n, ((ss, close), f))). ((((m, share l n) ∷ ss, close), f), simp append_assoc)
  rule MoreShares (t_mark Close m) = λ f. ((([], m), f), refl)
  rule MaybeHistogram (t_name (free Histogram k)) = λ (o, (l, ((ls, m), f))). ((histogram k o l ls m, f), simp append_assoc)
  rule MoreBounds (t_mark Comma m) = λ (l, ((ls, close), f)). ((((m, l) ∷ ls, close), f), simp append_assoc)
  rule MoreBounds (t_mark Close m) = λ f. ((([], m), f), refl)
  rule Literal (t_number n) = λ f. ((number n, f), refl)
  rule Literal (t_quoted q) = λ f. ((quoted q, f), refl)
  rule Literal (t_mark Minus m) = λ (n, f). ((negative m n, f), refl)
  rule Literal (t_key True k) = λ f. ((constant yes k, f), refl)
  rule Literal (t_key False k) = λ f. ((constant no k, f), refl)
  rule Literal (t_key Null k) = λ f. ((constant unknown k, f), refl)
  rule MaybeOrder t = orders.order_rule limit s t
  rule MoreOrderings (t_mark Comma m) = λ (n, ((ts, after'), (d, (z, (os, f))))). (
    ((m, ordering (after' n).0 d z) ∷ os, f),
    ap (λ l. t_mark Comma m ∷ ((l ++ (words_of_direction d ++ words_of_nulls_end z)) ++ words_of_orderings os) ++ words_of_parts limit s f) (after' n).1 ∙ simp append_assoc,
  )
  rule MaybeLimit (t_key Limit k) = windows.most limit s READS_WINDOW k refl
  rule MaybeOffset (t_key Offset k) = windows.skipped limit s READS_WINDOW k refl
  rule MaybeDirection (t_key Asc k) = λ f. ((ascending k, f), refl)
  rule MaybeDirection (t_key Desc k) = λ f. ((descending k, f), refl)
  rule MaybeNulls (t_name (free Nulls k)) = λ ((ts, after'), f). (((after' k).0, f), ap (λ l. l ++ words_of_parts limit s f) (after' k).1)
  rule FirstOrLast (t_name (free First k)) = λ f. (((t_name (free First k) ∷ [], λ n. (nulls_first n k, refl)), f), refl)
  rule FirstOrLast (t_name (free Last k)) = λ f. (((t_name (free Last k) ∷ [], λ n. (nulls_last n k, refl)), f), refl)
  rule AfterCreate (t_key Table t) = λ (n, (o, (c, (y, (nulls, ((cs, m), (e, f))))))). (
    (
      (
        t_key Table t ∷ t_name n ∷ t_mark Open o ∷ (words_of_coldef (coldef c y nulls) ++ (words_of_columns cs ++ t_mark Close m ∷ words_of_ending e)),
        λ k. (create_table k t n o (coldef c y nulls) cs m e, refl, omega (arith, shallow)),
      ),
      f,
    ),
    simp append_assoc,
  )
  rule AfterCreate (t_name (free IndexWord i)) = λ (n, (o, (t, (u, (p, (x, (c, (d, (z, ((ks, m), (inc, ((w, low), (e, f))))))))))))). (
    (
      (
        drop 1 (words_of_index (index_on i i n o t u p (index_key x c d z) ks m inc w e)),
        λ k. (create_index (index_on k i n o t u p (index_key x c d z) ks m inc w e), refl, omega (arith, low)),
      ),
      f,
    ),
    simp append_assoc,
  )
  rule MaybeUsing (t_key UsingKey k) = λ (n, f). ((using_method k n, f), refl)
  rule MaybeClass (t_name (free Nulls k)) = tt
  rule MaybeClass (t_name n) = λ f. ((op_class n tt, f), refl)
  rule MoreKeys (t_mark Comma m) = λ (n, (c, (d, (z, ((ks, close), f))))). ((((m, index_key n c d z) ∷ ks, close), f), simp append_assoc)
  rule MoreKeys (t_mark Close m) = λ f. ((([], m), f), refl)
  rule MaybeInclude (t_name (free IncludeWord k)) = λ (o, (n, ((ns, m), f))). ((include_columns k o n ns m, f), simp append_assoc)
  rule MoreNames (t_mark Comma m) = λ (n, ((ns, close), f)). ((((m, n) ∷ ns, close), f), refl)
  rule MoreNames (t_mark Close m) = λ f. ((([], m), f), refl)
  rule AfterExplain (t_key Select k) = λ ((ts, after'), f). (((t_key Select k ∷ ts, λ j. after' (explained j) k), f), refl)
  rule AfterExplain (t_mark Open o) = offers.table limit s READS_TABLE o refl
  rule Candidate (t_name n) = λ (o, (t, (u, (p, (x, (c, (d, (z, ((ks, m), (inc, ((w, low), f))))))))))). (((cand_on n o t u p (index_key x c d z) ks m inc w, omega arith), f), simp append_assoc)
  rule MoreCands (t_mark Comma k) = λ ((c, low), ((cs, others, m), f)). ((((k, c) ∷ cs, omega arith, m), f), simp append_assoc)
  rule MoreCands (t_mark Close m) = λ f. ((([], omega arith, m), f), refl)
  rule AdvisedSelect (t_mark Open o) = λ ((q, low), (y, (l, (u, (m, f))))). (
    ((advised o (windowed_select q y (window l u)) m, omega arith), f),
    ap (λ v. t_mark Open o ∷ v) (offers.windowed-words (words_of_select q) (words_of_order y) (words_of_limit l) (words_of_offset u) (t_mark Close m ∷ []) (words_of_parts limit s f)),
  )
  rule MoreAdvised (t_mark Open o) = λ ((q, low), (y, (l, (u, (m, ((xs, others), f)))))). (
    ((advised o (windowed_select q y (window l u)) m ∷ xs, omega arith), f),
    ap (λ v. t_mark Open o ∷ v)
        (append_assoc ((words_of_select q ++ (words_of_order y ++ (words_of_limit l ++ words_of_offset u))) ++ t_mark Close m ∷ []) (words_of_more_advised xs) (words_of_parts limit s f) ∙
        offers.windowed-words (words_of_select q) (words_of_order y) (words_of_limit l) (words_of_offset u) (t_mark Close m ∷ []) (words_of_more_advised xs ++ words_of_parts limit s f)),
  )
  rule FirstItem (t_mark Star m) = λ ((ts, whole), f). (((t_mark Star m ∷ ts, λ x k. whole x k [] (every m)), f), refl)
  rule FirstItem (t_name (free Distinct d)) = λ ((ts, after'), f). (((t_name (free Distinct d) ∷ ts, λ x k. after' x k d), f), refl)
  rule FirstItem (t_name n) = λ ((ts, whole), f). (((t_name n ∷ ts, λ x k. whole x k [] n), f), refl)
  rule AfterDistinct t = groupings.after_distinct_rule limit s t
  rule PlainItem (t_mark Star m) = λ ((ts, whole), f). (((t_mark Star m ∷ ts, λ x k led. whole x k led (every m)), f), refl)
  rule PlainItem (t_name n) = λ ((ts, whole), f). (((t_name n ∷ ts, λ x k led. whole x k led n), f), refl)
  rule AfterPlain t = groupings.after_plain_rule limit s t
  rule PlainNext t = groupings.plain_next_rule limit s t
  rule PlainTail t = groupings.plain_tail_rule limit s t
  rule GroupedItem (t_mark Star m) = λ f. ((plain_item (every m), f), refl)
  rule GroupedItem (t_name n) = λ ((ts, after'), f). (((after' n).0, f), ap (λ l. l ++ words_of_parts limit s f) (after' n).1)
  rule AfterGroupedName (t_mark Dot m) = λ ((ws, after'), f). (((t_mark Dot m ∷ ws, λ n. let (o, is) = after' n m in (plain_item o, is)), f), refl)
  rule AfterGroupedName (t_mark Open m) = λ (a, (c, f)). (
    ((t_mark Open m ∷ (words_of_argument a ++ t_mark Close c ∷ []), λ n. (call n m a c, refl)), f),
    ap (λ l. t_mark Open m ∷ l) (append_assoc (words_of_argument a) (t_mark Close c ∷ []) (words_of_parts limit s f)),
  )
  rule MoreGroupedItems (t_mark Comma m) = λ (i, ((is, from), f)). ((((m, i) ∷ is, from), f), simp append_assoc)
  rule MoreGroupedItems (t_key From k) = λ f. ((([], k), f), refl)
  rule Argument (t_mark Star m) = λ f. ((all_rows m, f), refl)
  rule Argument (t_name n) = λ ((ts, after'), f). ((of_col (after' n).0, f), ap (λ l. l ++ words_of_parts limit s f) (after' n).1)
  rule MaybeGroup (t_key GroupKey k) = λ (t, (n, ((ts, after'), (cs, f)))). (
    (group_by k t (after' n).0 cs, f),
    ap (λ l. t_key GroupKey k ∷ t_name (free By t) ∷ ((l ++ words_of_group_columns cs) ++ words_of_parts limit s f)) (after' n).1 ∙ simp append_assoc,
  )
  rule MoreGroupColumns (t_mark Comma m) = λ (n, ((ts, after'), (cs, f))). (
    ((m, (after' n).0) ∷ cs, f),
    ap (λ l. t_mark Comma m ∷ ((l ++ words_of_group_columns cs) ++ words_of_parts limit s f)) (after' n).1 ∙ simp append_assoc,
  )
  rule _ _ = tt

  -- an optional item stands for nothing
  empty_part : (i : Item) → is_optional i ≡ true → (p : Part limit (depth_of s) i) × (words_of_part limit (depth_of s) i p ≡ [])
  empty_part MaybeVarying o = (([], λ k m. (named_type (free Character k) m, refl)), refl)
  empty_part MaybeModifiers o = (no_modifiers, refl)
  empty_part MaybeZone o = (([], λ k m. (named_type (free Timestamp k) m, ap (λ l. t_name (free Timestamp k) ∷ l) (sym (append-nil (words_of_modifiers m))))), refl)
  empty_part Nullness o = (unwritten, refl)
  empty_part MoreAnds o = ((no_and, omega arith), refl)
  empty_part MoreOrs o = ((no_or, omega arith), refl)
  empty_part NotEnds o = (tt, refl)
  empty_part AfterName o = (([], λ n. (column_alone (bare n), refl, refl)), refl)
  empty_part AfterColumn o = (([], λ c. (column_alone c, sym (append-nil _), refl)), refl)
  empty_part AfterTruth o = (([], λ c k. (constant_alone c k, refl, refl)), refl)
  empty_part AfterSide o = (([], λ n. (column (bare n), refl)), refl)
  empty_part AfterQualifier o = (([], λ n. (bare n, refl)), refl)
  empty_part MoreResults o = ([], refl)
  empty_part AfterResult o = (([], λ n. (one (bare n), refl)), refl)
  empty_part MaybeAlias o = (no_alias, refl)
  empty_part MoreJoins o = (([], omega arith), refl)
  empty_part MoreGroups o = (([], omega arith), refl)
  empty_part MaybeWhere o = ((no_where, omega arith), refl)
  empty_part MaybeCommon o = (no_common, refl)
  empty_part MaybeHistogram o = (no_histogram, refl)
  empty_part MaybeOrder o = (no_order, refl)
  empty_part MoreOrderings o = ([], refl)
  empty_part MaybeLimit o = (no_limit, refl)
  empty_part MaybeOffset o = (no_offset, refl)
  empty_part MaybeDirection o = (no_direction, refl)
  empty_part MaybeNulls o = (no_nulls_end, refl)
  empty_part MaybeUsing o = (no_using, refl)
  empty_part MaybeClass o = (no_class, refl)
  empty_part MaybeInclude o = (no_include, refl)
  empty_part MoreAdvised o = (([], omega arith), refl)
  empty_part AfterGroupedName o = (([], λ n. (plain_item (one (bare n)), refl)), refl)
  empty_part MaybeGroup o = (no_group_by, refl)
  empty_part MoreGroupColumns o = ([], refl)
  empty_part _ o = absurd (cc)

  pub nothing : (i : Item) → is_optional i ≡ true → (f : Parts limit s) → (g : Parts limit (i ∷ s)) × (words_of_parts limit (i ∷ s) g ≡ words_of_parts limit s f)
  nothing i o f = let (p, none) = empty_part i o in ((p, f), ap (λ l. l ++ words_of_parts limit s f) none)

  -- any other item stands for something
  needed_part : (i : Item) → is_optional i ≡ false → Part limit (depth_of s) i
  needed_part (Keyword w) o = no_place
  needed_part (Sign w) o = no_place
  needed_part (FreeWord w) o = no_place
  needed_part Label o = a_name
  needed_part Digits o = saying (48 ∷ [])
  needed_part QuotedText o = saying []
  needed_part Whole o = (empty (semicolon no_place), omega arith)
  needed_part Ends o = semicolon no_place
  needed_part Stop o = no_place
  needed_part Query o = (select_from no_place (every no_place) [] no_place (group_of (relation a_name no_alias) []) [] no_where, omega arith)
  needed_part ColumnType o = named_type a_name no_modifiers
  needed_part MoreModifiers o = ([], no_place)
  needed_part MoreColumns o = ([], no_place)
  needed_part Negation o = (plain (constant_alone yes no_place), omega arith)
  needed_part Closes o = no_place
  needed_part AfterNot o = (
    t_name (free Between no_place) ∷ t_number (saying (48 ∷ [])) ∷ t_key And no_place ∷ t_number (saying (48 ∷ [])) ∷ [],
    λ c k. (between tt (column c) (not_before k) no_place (literal (number (saying (48 ∷ [])))) no_place (literal (number (saying (48 ∷ [])))), refl, refl),
  )
  needed_part AfterIs o = (t_key Null no_place ∷ [], λ c k. (is_null c k no_place, refl, refl))
  needed_part AfterLiteral o = (t_operator (saying (61 ∷ [])) ∷ t_number (saying (48 ∷ [])) ∷ [], λ l. (compare l (saying (61 ∷ [])) (literal (number (saying (48 ∷ [])))), refl, refl))
  needed_part Side o = literal (number (saying (48 ∷ [])))
  needed_part Result o = every no_place
  needed_part StarOrLabel o = (t_mark Star no_place ∷ [], λ n d. (every_of n d no_place, refl))
  needed_part Figures o = (
    t_name (free Rows no_place) ∷ t_number (saying (48 ∷ [])) ∷ t_name (free Pages no_place) ∷ t_number (saying (48 ∷ [])) ∷ [],
    λ i n e. (sizes (record { statistics = i; rows = no_place; pages = no_place }) n (saying (48 ∷ [])) (saying (48 ∷ [])) e, refl, refl),
  )
  needed_part MoreShares o = ([], no_place)
  needed_part MoreBounds o = ([], no_place)
  needed_part Literal o = number (saying (48 ∷ []))
  needed_part FirstOrLast o = (t_name (free Last no_place) ∷ [], λ k. (nulls_last k no_place, refl))
  needed_part AfterCreate o = (
    t_key Table no_place ∷ t_name a_name ∷ t_mark Open no_place ∷ t_name a_name ∷ t_name a_name ∷ t_mark Close no_place ∷ t_semicolon no_place ∷ [],
    λ k. (create_table k no_place a_name no_place (coldef a_name (named_type a_name no_modifiers) unwritten) [] no_place (semicolon no_place), refl, omega arith),
  )
  needed_part MoreKeys o = ([], no_place)
  needed_part MoreNames o = ([], no_place)
  needed_part AfterExplain o = let (ts, whole) = groupings.some-item limit (depth_of s) shallow a_name no_place in (t_key Select no_place ∷ ts, λ k. whole (explained k) no_place [])
  needed_part Candidate o = (cand_on a_name no_place a_name no_using no_place (index_key a_name no_class no_direction no_nulls_end) [] no_place no_include no_where, omega arith)
  needed_part MoreCands o = ([], omega arith, no_place)
  needed_part AdvisedSelect o = (
    advised no_place (windowed_select (select_from no_place (every no_place) [] no_place (group_of (relation a_name no_alias) []) [] no_where) no_order (window no_limit no_offset)) no_place,
    omega arith,
  )
  needed_part FirstItem o = let (ts, whole) = groupings.some-item limit (depth_of s) shallow a_name no_place in (ts, λ x k. whole x k [])
  needed_part AfterDistinct o = let (ts, whole) = groupings.some-after limit (depth_of s) shallow a_name no_place in (ts, λ x k d. whole x k [] (free Distinct d))
  needed_part PlainItem o = groupings.some-item limit (depth_of s) shallow a_name no_place
  needed_part AfterPlain o = groupings.some-after limit (depth_of s) shallow a_name no_place
  needed_part PlainNext o = groupings.some-next limit (depth_of s) shallow a_name no_place
  needed_part PlainTail o = groupings.some-tail limit (depth_of s) no_place
  needed_part GroupedItem o = plain_item (every no_place)
  needed_part MoreGroupedItems o = ([], no_place)
  needed_part Argument o = all_rows no_place
  needed_part _ o = absurd (cc)

  something_by : (i : Item) (b : Bool) → is_optional i ≡ b → Part limit (depth_of s) i
  something_by i true o = (empty_part i o).0
  something_by i false o = needed_part i o

  pub something : (i : Item) → Part limit (depth_of s) i
  something i = something_by i (is_optional i) refl
