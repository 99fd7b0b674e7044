-- What a statement that is read in a lawful world does may be done, and what it asks is well bound.
use Rattle.std.proofs.Common.{◌≡◌, ℕ, List, [], ◌∷◌, ◌++◌, append_assoc, sym, ap, subst, ◌∙◌}
use Rattle.std.specs.Prelude.{slice_range}
use Rattle.sql_lex.specs.declared.tokens.Token.{Token}
use Rattle.sql_lex.specs.Ends.{token_at}
use Rattle.sql_lex.specs.Words.{AreWords}
use Rattle.sql_grammar.specs.Faults.{terminals}
use Rattle.sql_grammar.specs.Spelled.{IsSpelled}
use Rattle.sql_grammar.specs.Syntax.{MaybeExplain, unexplained, explained, ordered_select, windowed_select, window, no_limit, no_offset, Statement, empty, create_table, create_index, query, copy, sizes, column_statistics, analyze, advise as advise_tree, check, use_plan, grouped}
use Rattle.sql_grammar.specs.Terminals.{Terminal, t_semicolon}
use Rattle.sql_grammar.specs.Words.{words_of, words_of_ending, words_of_explaining, words_of_order, words_of_select, words_of_window}
use Rattle.catalog.specs.Contents.{Contents}
use Rattle.expr_reader.proofs.Named.{AreNamed, named-from}
use Rattle.heap.specs.Loading.{records_of}
use Rattle.ddl_reader.specs.Tables.{Definition, table, sizes_for, statistics_for, data_for, analysis_of}
use Rattle.query_reader.specs.Binding.{query_with}
use Rattle.query_reader.specs.Wanted.{wanted_by}
use Rattle.query_reader.specs.declared.wanted.Wanted.{Wanted}
use Rattle.query_reader.specs.declared.wanted.Wanted.TheVariants as wanted
use Rattle.query_reader.proofs.AliasLemmas.{after-words}
use Rattle.sql_query.specs.Grouped.{GroupedQuery}
use Rattle.sql_query.specs.Queries.{Query}
use Rattle.sql_query.specs.WellBound.{IsWellBound}
use Rattle.sql_query.specs.Worlds.{World}
use Rattle.store.specs.Actions.{Action}
use Rattle.statements.specs.Accepted.{Carries, Defines, Does, IsRead, asked_as, asked_of_groups}
use Rattle.world_laws.specs.work.Definitions.{Comes}
use Rattle.world_laws.specs.LawfulWorlds.{IsLawfulWorld}
use Rattle.world_laws.specs.work.LawfulWorlds.{MayBeDone}
use Rattle.world_laws.proofs.BoundLemmas.{part-bound}
use Rattle.world_laws.proofs.DefinedLemmas.{definition-may, index-may}
use Rattle.script_laws.specs.Reached.{IsBoundIn}
use Rattle.script_laws.proofs.AdviseLemmas.{advise-bound}

pub carried : (w : World) (text : List ℕ) (tokens : List Token) (d : Definition) (action : Action) (next : ℕ) → Carries w text tokens d action next → Comes w d action
carried w text tokens (table name names columns) action next h = (h.0, h.1)
carried w text tokens (sizes_for t rows pages) action next h = (h.0, h.1, h.2)
carried w text tokens (statistics_for t column s) action next h = (h.0, h.1)
carried w text tokens (data_for t start) action next h = (h.1, records_of (slice_range text start h.0), h.3, h.4)
carried w text tokens (analysis_of t) action next h = h.0

asked-may : (w : World) (how : Wanted) (q : Query) → MayBeDone w (asked_as how q)
asked-may w wanted.Rows q = tt
asked-may w wanted.Plan q = tt
asked-may w wanted.Table q = tt

groups-may : (w : World) (e : MaybeExplain) (g : GroupedQuery) → MayBeDone w (asked_of_groups e g)
groups-may w unexplained g = tt
groups-may w (explained t) g = tt

comes-bound : (w : World) (d : Definition) (action : Action) → Comes w d action → IsBoundIn w.contents action
comes-bound w (table name names columns) action h = subst (IsBoundIn w.contents) (sym h.1) tt
comes-bound w (sizes_for t rows pages) action h = subst (IsBoundIn w.contents) (sym h.2) tt
comes-bound w (statistics_for t column s) action h = subst (IsBoundIn w.contents) (sym h.1) tt
comes-bound w (data_for t start) action h = subst (IsBoundIn w.contents) (sym h.3) tt
comes-bound w (analysis_of t) action h = subst (IsBoundIn w.contents) (sym h) tt

asked-bound : (c : Contents) (how : Wanted) (q : Query) → IsWellBound c q → IsBoundIn c (asked_as how q)
asked-bound c wanted.Rows q h = h
asked-bound c wanted.Plan q h = h
asked-bound c wanted.Table q h = h

groups-bound : (c : Contents) (e : MaybeExplain) (g : GroupedQuery) → IsBoundIn c (asked_of_groups e g)
groups-bound c unexplained g = tt
groups-bound c (explained t) g = tt

-- the words of a SELECT with its window among others
four : (a b d e : List Terminal) → (a ++ (b ++ d)) ++ e ≡ a ++ (b ++ (d ++ e))
four a b d e = append_assoc a (b ++ d) e ∙ ap (λ (l : List Terminal). a ++ l) (append_assoc b d e)

module _ (w : World) (text : List ℕ) (from : ℕ) (tokens : List Token) (words : AreWords text from tokens) (h : IsLawfulWorld w) where
  defines-may : (x : Statement) (action : Action) (next : ℕ) → IsSpelled x text tokens → Defines w text tokens x action next → MayBeDone w action
  defines-may x action next spelled d = definition-may w text from tokens x d.0 action h.contents words spelled d.1 (carried w text tokens d.0.definition action next d.2)

  does-may : (x : Statement) (action : Action) (next : ℕ) → IsSpelled x text tokens → Does w text tokens x action next → MayBeDone w action
  does-may (empty e) action next spelled d = subst (MayBeDone w) (sym d.0) tt
  does-may (create_index y) action next spelled d = index-may w text from tokens y d.0 action h.contents words spelled d.1 d.2 d.3
  does-may (query x) action next spelled d = subst (MayBeDone w) (sym d.2.2) (asked-may w (wanted_by (terminals text tokens)) (query_with d.2.0 d.0))
  does-may (create_table k t n o c cs m e) action next spelled d = defines-may (create_table k t n o c cs m e) action next spelled d
  does-may (sizes k n r p e) action next spelled d = defines-may (sizes k n r p e) action next spelled d
  does-may (column_statistics k n c z nulls commons bounds e) action next spelled d = defines-may (column_statistics k n c z nulls commons bounds e) action next spelled d
  does-may (copy k n null) action next spelled d = defines-may (copy k n null) action next spelled d
  does-may (analyze p k n e) action next spelled d = defines-may (analyze p k n e) action next spelled d
  does-may (advise_tree x) action next spelled d = subst (MayBeDone w) (sym d.0.3) tt
  does-may (check p k x s) action next spelled d = subst (MayBeDone w) (sym d.acts) tt
  does-may (use_plan p k l q y s) action next spelled d = subst (MayBeDone w) (sym d.acts) tt
  does-may (grouped p e k q) action next spelled d = subst (MayBeDone w) (sym d.2.asks) (groups-may w e _)

  named : (x : Statement) → IsSpelled x text tokens → AreNamed (words_of x)
  named x spelled = subst AreNamed (sym spelled.words) (named-from text from tokens 0 words spelled.limits)

  defines-bound : (x : Statement) (action : Action) (next : ℕ) → Defines w text tokens x action next → IsBoundIn w.contents action
  defines-bound x action next d = comes-bound w d.0.definition action (carried w text tokens d.0.definition action next d.2)

  does-bound : (x : Statement) (action : Action) (next : ℕ) → IsSpelled x text tokens → Does w text tokens x action next → IsBoundIn w.contents action
  does-bound (empty e) action next spelled d = subst (IsBoundIn w.contents) (sym d.0) tt
  does-bound (create_index y) action next spelled d = subst (IsBoundIn w.contents) (sym d.3) tt
  does-bound (query (ordered_select e q y v end)) action next spelled d =
      let all = after-words (words_of_explaining e) _ (named (query (ordered_select e q y v end)) spelled) in
      let of = subst AreNamed (sym (four (words_of_select q) (words_of_order y) (words_of_window v) (words_of_ending end))) all in
      let bound = part-bound w.contents h.contents (token_at tokens 0) (windowed_select q y v) (words_of_ending end) d.0 of d.1 d.2.0 d.2.1 in
      subst (IsBoundIn w.contents) (sym d.2.2) (asked-bound w.contents (wanted_by (terminals text tokens)) (query_with d.2.0 d.0) bound.well_bound)
  does-bound (create_table k t n o c cs m e) action next spelled d = defines-bound (create_table k t n o c cs m e) action next d
  does-bound (sizes k n r p e) action next spelled d = defines-bound (sizes k n r p e) action next d
  does-bound (column_statistics k n c z nulls commons bounds e) action next spelled d = defines-bound (column_statistics k n c z nulls commons bounds e) action next d
  does-bound (copy k n null) action next spelled d = defines-bound (copy k n null) action next d
  does-bound (analyze p k n e) action next spelled d = defines-bound (analyze p k n e) action next d
  does-bound (advise_tree x) action next spelled d = subst (IsBoundIn w.contents) (sym d.0.3) (advise-bound w.contents tokens x d.0.0 h.contents (named (advise_tree x) spelled) d.0.1 d.0.2)
  does-bound (check p k x s) action next spelled d =
      let bound = part-bound w.contents h.contents (token_at tokens 0) x (t_semicolon s ∷ []) d.meant ((named (check p k x s) spelled).1) d.means d.classes d.own in
      subst (IsBoundIn w.contents) (sym d.acts) bound.well_bound
  does-bound (use_plan p k l q y s) action next spelled d =
      let of = subst AreNamed (sym (four (words_of_select q) (words_of_order y) [] (t_semicolon s ∷ []))) ((named (use_plan p k l q y s) spelled).1.1) in
      let bound = part-bound w.contents h.contents (token_at tokens 0) (windowed_select q y (window no_limit no_offset)) (t_semicolon s ∷ []) d.meant of d.means d.classes d.own in
      subst (IsBoundIn w.contents) (sym d.acts) bound.well_bound
  does-bound (grouped p e k q) action next spelled d = subst (IsBoundIn w.contents) (sym d.2.asks) (groups-bound w.contents e _)

module _ (w : World) (text : List ℕ) (from : ℕ) (action : Action) (next : ℕ) (h : IsLawfulWorld w) (r : IsRead w text from action next) where
  pub read-may : MayBeDone w action
  read-may = does-may w text from r.0 r.1 h r.2.statement action next r.2.spelled r.2.does

  pub read-bound : IsBoundIn w.contents action
  read-bound = does-bound w text from r.0 r.1 h r.2.statement action next r.2.spelled r.2.does
