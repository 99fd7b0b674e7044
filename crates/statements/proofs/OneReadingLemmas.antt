-- A statement has one reading from each place on.
use Rattle.std.proofs.Common.{◌≡◌, ℕ, inl, inr, List, ◌∷◌, drop, sym, ap, ap₂, ◌∙◌, subst, slice_range, Some, Result, Ok, Err}
use Rattle.pg_base.specs.declared.faults.Fault.{Fault}
use Rattle.sql_lex.specs.Ends.{token_at}
use Rattle.sql_lex.specs.declared.tokens.Token.{Token}
use Rattle.pg_base.specs.Faults.{syntax_fault}
use Rattle.sql_lex.proofs.UniqueLaws.{one_list, one_fault, no_fault}
use Rattle.sql_grammar.specs.Terminals.{token_of}
use Rattle.sql_grammar.specs.CopyLine.{IsDataStart}
use Rattle.sql_grammar.specs.Syntax.{Advise, CreateIndex, GroupedSelect, MaybeExplain, unexplained, explained, OrderedSelect, WindowedSelect, windowed_select, no_limit, no_offset, window, Statement, empty, create_table, create_index, query, copy, sizes, column_statistics, analyze, advise as advise_tree, check, use_plan, grouped}
use Rattle.sql_grammar.specs.Faults.{bytes_of, IsStatement, terminals}
use Rattle.catalog.specs.Contents.{Contents}
use Rattle.catalog.specs.Tables.{IsIndexRefusal, table_named}
use Rattle.eq_classes.specs.Holding.{IsClassTable}
use Rattle.eq_classes.specs.Clauses.{ClassTable}
use Rattle.ddl_reader.specs.Block.{HaveNoMark, IsBlockEnd, lines_of}
use Rattle.ddl_reader.specs.Statements.{Means}
use Rattle.ddl_reader.specs.Tables.{Definition, table, sizes_for, statistics_for, data_for, analysis_of, Reading, data_after}
use Rattle.heap.specs.Loading.{records_of, loaded}
use Rattle.index_reader.specs.Meaning.{IndexMeant as IndexReading}
use Rattle.query_reader.specs.Binding.{Bound, query_with}
use Rattle.query_reader.specs.Wanted.{wanted_by}
use Rattle.query_reader.specs.declared.wanted.Wanted.{Wanted}
use Rattle.query_reader.specs.declared.wanted.Wanted.TheVariants as wanted
use Rattle.group_reply.specs.group_explain_Plans.{HasNoGroupPlan}
use Rattle.group_query.specs.Grouping.{given_groups}
use Rattle.group_reader.specs.Binding.{BoundGroups, bound_groups, grouped_with}
use Rattle.sql_query.specs.Grouped.{GroupedQuery}
use Rattle.sql_query.specs.Queries.{Query}
use Rattle.sql_query.specs.WellBound.{given_of}
use Rattle.eq_classes.proofs.UniqueLemmas.{table_one}
use Rattle.sql_query.specs.Worlds.{World, stored_at}
use Rattle.store.specs.Actions.{Action, advise, build, fill, follow, verify}
use Rattle.statements.specs.Accepted.{Advises, Answers, Carries, Does, Groups, Indexes, IsReadOver, IsRead, Takes, action_asked, asked_as, asked_of_groups}
use Rattle.statements.specs.Faults.{endless_fault, index_fault, word_ends, IsCheckFault, in_line, in_select, without_end, rows_fault, IsRefused, IsAdviseFault, IsDefinitionFault, IsGroupFault, IsIndexFault, IsQueryFault, IsMeaningFault, IsFaultOver, in_syntax, in_meaning, IsFault, in_words, after_words}
use Rattle.group_reply.specs.reply_Replies.{Reply}
use Rattle.statements.specs.Replies.{IsReply}
use Rattle.index_reader.specs.AdviseMeaning.{Asked}
use Rattle.index_prices.specs.Replies.{HasNoAdviceFor}
use Rattle.statements.proofs.OneAdviceLemmas.{no-advice-told, one-advice}
use Rattle.statements.proofs.OneIndexLemmas.{one_index_refusal, no_index_refusal}
use Rattle.sql_grammar.proofs.StatementTrees.{one_tree}
use Rattle.statements.proofs.FirstFaultLemmas.{one_first, no_first}
use Rattle.statements.proofs.OneEndLemmas.{one_end, no_end, one_start, some-one, one_refusal, no_refusal, one_size_refusal, one_statistics_refusal, no_size_refusal, no_statistics_refusal}
use Rattle.plan_tree.specs.Least.{HasNoPlan}

-- a definition means one thing
one_meaning : (c : Contents) (text : List ℕ) (x : Statement) (r s : Result Reading Fault) → Means c text x r → Means c text x s → r ≡ s
one_meaning c text (empty e) r s h k = absurd h
one_meaning c text (create_index x) r s h k = absurd h
one_meaning c text (query x) r s h k = absurd h
one_meaning c text (advise_tree x) r s h k = absurd h
one_meaning c text (check p t x e) r s h k = absurd h
one_meaning c text (use_plan p t u q y e) r s h k = absurd h
one_meaning c text (grouped p t u q) r s h k = absurd h
one_meaning c text (create_table a t n o d ds m e) r s h k = h ∙ sym k
one_meaning c text (sizes k n d p e) r s h l = h ∙ sym l
one_meaning c text (column_statistics k n d i nulls commons bounds e) r s h l = h ∙ sym l
one_meaning c text (analyze p k n e) r s h l = h ∙ sym l
one_meaning c text (copy words n null) r s (a, p, h) (b, q, k) =
    h ∙ (ap (λ i. data_after (table_named c (bytes_of n)) (token_of n) null.value null.token i) (one_start text words.stop.end a b p q) ∙ sym k)

module _ (w : World) (text : List ℕ) (tokens : List Token) where
  one_carried : (d : Definition) (a b : Action) (m n : ℕ) → Carries w text tokens d a m → Carries w text tokens d b n → (a ≡ b) × (m ≡ n)
  one_carried (table name names columns) a b m n h k = (h.1 ∙ sym k.1, h.2 ∙ sym k.2)
  one_carried (sizes_for t rows pages) a b m n h k = (h.2 ∙ sym k.2, h.3 ∙ sym k.3)
  one_carried (statistics_for t col s) a b m n h k = (h.1 ∙ sym k.1, h.2 ∙ sym k.2)
  one_carried (analysis_of t) a b m n h k = (h.0 ∙ sym k.0, h.1 ∙ sym k.1)
  one_carried (data_for t start) a b m n (x, s, p, h, i) (y, u, q, k, j) =
      let (end, next) = one_end text start x m y n p q in
      let both : Ok s ≡ Ok u = sym h ∙ (ap (λ e. loaded (stored_at w t) (records_of (slice_range text start e))) end ∙ k) in
      let same : s ≡ u = cc in
      (i ∙ (ap (λ e. fill t e) same ∙ sym j), next)

  one_defined : (x : Statement) (a b : Action) (m n : ℕ) (r s : Reading) → Means w.contents text x (Ok r) → Means w.contents text x (Ok s)
      → Carries w text tokens r.definition a m → Carries w text tokens s.definition b n → (a ≡ b) × (m ≡ n)
  one_defined x a b m n r s h k i j =
      let both = one_meaning w.contents text x (Ok r) (Ok s) h k in
      let same : s ≡ r = cc in
      one_carried r.definition a b m n i (subst (λ e. Carries w text tokens e.definition b n) same j)

  -- a query has one table of classes
  one_answer : (p : Bound) (a b : Action) → Answers w text tokens p a → Answers w text tokens p b → a ≡ b
  one_answer p a b (t, h, i) (u, k, j) =
      i ∙ (ap (λ z. action_asked text tokens (query_with z p)) (table_one (given_of w.contents (query_with t p)) t u h k) ∙ sym j)

  one_index : (x : CreateIndex) (a b : Action) (m n : ℕ) → Indexes w tokens x a m → Indexes w tokens x b n → (a ≡ b) × (m ≡ n)
  one_index x a b m n (r, h, accepted, i, p) (s, k, accepted', j, q) =
      let both : Ok r ≡ Ok s = sym h ∙ k in
      let same : r ≡ s = cc in
      (i ∙ (ap (λ (y : IndexReading). build y.name y.index) same ∙ sym j), p ∙ sym q)

  -- ADVISE tells one thing
  one_advised : (x : Advise) (a b : Action) → Advises w tokens x a → Advises w tokens x b → a ≡ b
  one_advised x a b (p, h, left, i) (q, k, right, j) =
      i ∙ (ap (λ (y : Asked). advise y.most y.candidates y.queries) (one-advice w.contents tokens x (Ok p) (Ok q) h k left right) ∙ sym j)

  -- the classes of a query are one table
  one_query_of : (p q : Bound) (t u : ClassTable) → q ≡ p → IsClassTable (given_of w.contents (query_with t p)) t → IsClassTable (given_of w.contents (query_with u q)) u → query_with t p ≡ query_with u q
  one_query_of p q t u same left right =
      let there : IsClassTable (given_of w.contents (query_with u p)) u = subst (λ (z : Bound). IsClassTable (given_of w.contents (query_with u z)) u) same right in
      let one : t ≡ u = table_one (given_of w.contents (query_with t p)) t u left there in
      ap (λ (z : ClassTable). query_with z p) one ∙ ap (query_with u) (sym same)

  -- the classes of a grouped query are one table
  one_groups_of : (p q : BoundGroups) (t u : ClassTable) → q ≡ p → IsClassTable (given_groups w.contents (grouped_with t p)) t → IsClassTable (given_groups w.contents (grouped_with u q)) u → grouped_with t p ≡ grouped_with u q
  one_groups_of p q t u same left right =
      let there : IsClassTable (given_groups w.contents (grouped_with u p)) u = subst (λ (z : BoundGroups). IsClassTable (given_groups w.contents (grouped_with u z)) u) same right in
      let one : t ≡ u = table_one (given_groups w.contents (grouped_with t p)) t u left there in
      ap (λ (z : ClassTable). grouped_with z p) one ∙ ap (grouped_with u) (sym same)

  one_grouping : (e : MaybeExplain) (p q : BoundGroups) (a b : Action) → q ≡ p → Groups w e p a → Groups w e q b → a ≡ b
  one_grouping e p q a b same h k = h.asks ∙ (ap (asked_of_groups e) (one_groups_of p q h.classes k.classes same h.own k.own) ∙ sym k.asks)

  started : (stop : Token) (s t : ℕ) → IsDataStart text stop.end (Ok s) → IsDataStart text stop.end (Ok t) → s ≡ t
  started stop s t h k = let both : Ok s ≡ Ok t = one_start text stop.end (Ok s) (Ok t) h k in cc

  -- a SELECT and the lines behind it are taken as one thing
  one_taken : (x : WindowedSelect) (stop : Token) (act : Query → List ℕ → Action) (a b : Action) (m n : ℕ) → Takes w text tokens x stop act a m → Takes w text tokens x stop act b n → (a ≡ b) × (m ≡ n)
  one_taken x stop act a b m n h k =
      let start = started stop h.start k.start h.begins k.begins in
      let (end, next) = one_end text h.start h.end m k.end n h.ends (subst (λ (s : ℕ). IsBlockEnd text s k.end n) (sym start) k.ends) in
      let both : Ok h.meant ≡ Ok k.meant = sym h.means ∙ k.means in
      let same : k.meant ≡ h.meant = cc in
      let action_asked = one_query_of h.meant k.meant h.classes k.classes same h.own k.own in
      let bytes : slice_range text h.start h.end ≡ slice_range text k.start k.end = ap₂ (slice_range text) start end in
      (h.acts ∙ (ap₂ act action_asked bytes ∙ sym k.acts), next)

  one_done : (x : Statement) (a b : Action) (m n : ℕ) → Does w text tokens x a m → Does w text tokens x b n → (a ≡ b) × (m ≡ n)
  one_done (empty e) a b m n h k = (h.0 ∙ sym k.0, h.1 ∙ sym k.1)
  one_done (create_index x) a b m n h k = one_index x a b m n h k
  one_done (query q) a b m n (p, h, i, x) (s, k, j, y) =
      let both : Ok p ≡ Ok s = sym h ∙ k in
      let same : s ≡ p = cc in
      (one_answer p a b i (subst (λ z. Answers w text tokens z b) same j), x ∙ sym y)
  one_done (sizes c i d p e) a b m n (r, h, u) (s, k, v) = one_defined (sizes c i d p e) a b m n r s h k u v
  one_done (column_statistics c i d p nulls commons bounds e) a b m n (r, h, u) (s, k, v) = one_defined (column_statistics c i d p nulls commons bounds e) a b m n r s h k u v
  one_done (create_table c t i o d ds z e) a b m n (r, h, p) (s, k, q) = one_defined (create_table c t i o d ds z e) a b m n r s h k p q
  one_done (analyze v c i e) a b m n (r, h, p) (s, k, q) = one_defined (analyze v c i e) a b m n r s h k p q
  one_done (advise_tree x) a b m n (h, i) (k, j) = (one_advised x a b h k, i ∙ sym j)
  one_done (check p c x s) a b m n h k = one_taken x s verify a b m n h k
  one_done (use_plan p c d q y s) a b m n h k = one_taken (windowed_select q y (window no_limit no_offset)) s follow a b m n h k
  one_done (grouped p e c q) a b m n (r, h, i, x) (s, k, j, y) =
      let both : Ok r ≡ Ok s = sym h ∙ k in
      let same : s ≡ r = cc in
      (one_grouping e r s a b same i j, x ∙ sym y)
  one_done (copy c i null) a b m n (r, h, p) (s, k, q) = one_defined (copy c i null) a b m n r s h k p q

  one_over : (a b : Action) (m n : ℕ) → IsReadOver w text tokens a m → IsReadOver w text tokens b n → (a ≡ b) × (m ≡ n)
  one_over a b m n p q =
      let same = one_tree q.statement p.statement (q.spelled.words ∙ sym p.spelled.words) in
      one_done p.statement a b m n p.does (subst (λ x. Does w text tokens x b n) same q.does)

  one_refused : (d : Definition) (at : List ℕ) (f g : Fault) → IsRefused w text d at f → IsRefused w text d at g → f ≡ g
  one_refused (table name names columns) at f g (d, h, i) (e, k, j) = one_refusal w.contents name names at (word_ends at (name ∷ names)) d e f g h k i j
  one_refused (sizes_for t rows pages) at f g (d, h, i) (e, k, j) = one_size_refusal rows pages at d e f g h k i j
  one_refused (statistics_for t col s) at f g (d, h, i) (e, k, j) = one_statistics_refusal s at d e f g h k i j
  one_refused (analysis_of t) at f g h k = absurd h
  one_refused (data_for t start) at f g (inl (h, i)) (inl (k, j)) = i ∙ sym j
  one_refused (data_for t start) at f g (inl (h, i)) (inr (y, n, e, q, k, j)) = absurd (no_end text start y n q h)
  one_refused (data_for t start) at f g (inr (x, m, d, p, h, i)) (inl (k, j)) = absurd (no_end text start x m p k)
  one_refused (data_for t start) at f g (inr (x, m, d, p, h, i)) (inr (y, n, e, q, k, j)) =
      let (end, next) = one_end text start x m y n p q in
      let both : Err d ≡ Err e = sym h ∙ (ap (λ l. loaded (stored_at w t) (records_of (slice_range text start l))) end ∙ k) in
      let same : d ≡ e = cc in
      some-one f g (sym (subst (λ l. rows_fault l t start ≡ Some f) same i) ∙ j)

  -- a definition that is carried out is not refused
  not_refused : (d : Definition) (a : Action) (n : ℕ) (at : List ℕ) (f : Fault) → Carries w text tokens d a n → IsRefused w text d at f → ⊥
  not_refused (table name names columns) a n at f h (e, k, j) = no_refusal w.contents name names at (word_ends at (name ∷ names)) e f h.0 k j
  not_refused (sizes_for t rows pages) a n at f h (e, k, j) = no_size_refusal rows pages e h.0 h.1 k
  not_refused (statistics_for t col s) a n at f h (e, k, j) = no_statistics_refusal s e h.0 k
  not_refused (analysis_of t) a n at f h k = k
  not_refused (data_for t start) a n at f (x, s, p, h, i) (inl (k, j)) = no_end text start x n p k
  not_refused (data_for t start) a n at f (x, s, p, h, i) (inr (y, m, e, q, k, j)) =
      let (end, next) = one_end text start x n y m p q in
      let both : Ok s ≡ Err e = sym h ∙ (ap (λ l. loaded (stored_at w t) (records_of (slice_range text start l))) end ∙ k) in
      absurd (cc)

  one_definition : (x : Statement) (f g : Fault) → IsDefinitionFault w text x f → IsDefinitionFault w text x g → f ≡ g
  one_definition x f g (inl h) (inl k) = let both = one_meaning w.contents text x (Err f) (Err g) h k in cc
  one_definition x f g (inl h) (inr (s, k, j)) = let both = one_meaning w.contents text x (Err f) (Ok s) h k in absurd (cc)
  one_definition x f g (inr (r, h, i)) (inl k) = let both = one_meaning w.contents text x (Ok r) (Err g) h k in absurd (cc)
  one_definition x f g (inr (r, h, i)) (inr (s, k, j)) =
      let both = one_meaning w.contents text x (Ok r) (Ok s) h k in
      let same : s ≡ r = cc in
      one_refused r.definition r.at f g i (subst (λ e. IsRefused w text e.definition e.at g) same j)

  no_definition : (x : Statement) (a : Action) (n : ℕ) (r : Reading) (f : Fault) → Means w.contents text x (Ok r) → Carries w text tokens r.definition a n → IsDefinitionFault w text x f → ⊥
  no_definition x a n r f h i (inl k) = let both = one_meaning w.contents text x (Ok r) (Err f) h k in absurd (cc)
  no_definition x a n r f h i (inr (s, k, j)) =
      let both = one_meaning w.contents text x (Ok r) (Ok s) h k in
      let same : s ≡ r = cc in
      not_refused r.definition a n r.at f i (subst (λ e. IsRefused w text e.definition e.at f) same j)

  one_indexed : (x : CreateIndex) (f g : Fault) → IsIndexFault w tokens x f → IsIndexFault w tokens x g → f ≡ g
  one_indexed x f g (inl h) (inl k) = let both : Err f ≡ Err g = sym h ∙ k in cc
  one_indexed x f g (inl h) (inr (s, e, k, j, v)) = let both : Err f ≡ Ok s = sym h ∙ k in absurd (cc)
  one_indexed x f g (inr (r, d, h, i, u)) (inl k) = let both : Ok r ≡ Err g = sym h ∙ k in absurd (cc)
  one_indexed x f g (inr (r, d, h, i, u)) (inr (s, e, k, j, v)) =
      let both : Ok r ≡ Ok s = sym h ∙ k in
      let same : s ≡ r = cc in
      one_index_refusal w.contents r.name r.index r.at r.method tokens d e f g i (subst (λ (y : IndexReading). IsIndexRefusal w.contents y.name y.index e) same j) u
      (subst (λ (y : IndexReading). index_fault e y.at y.method tokens ≡ Some g) same v)

  not_indexed : (x : CreateIndex) (a : Action) (n : ℕ) (f : Fault) → Indexes w tokens x a n → IsIndexFault w tokens x f → ⊥
  not_indexed x a n f (r, h, accepted, i, p) (inl k) = let both : Ok r ≡ Err f = sym h ∙ k in absurd (cc)
  not_indexed x a n f (r, h, accepted, i, p) (inr (s, e, k, j, v)) =
      let both : Ok r ≡ Ok s = sym h ∙ k in
      let same : s ≡ r = cc in
      no_index_refusal w.contents r.name r.index r.at r.method tokens e f accepted (subst (λ (y : IndexReading). IsIndexRefusal w.contents y.name y.index e) same j)
      (subst (λ (y : IndexReading). index_fault e y.at y.method tokens ≡ Some f) same v)

  one_query : (x : OrderedSelect) (f g : Fault) → IsQueryFault w text tokens x f → IsQueryFault w text tokens x g → f ≡ g
  one_query x f g (inl h) (inl k) = let both : Err f ≡ Err g = sym h ∙ k in cc
  one_query x f g (inl h) (inr (b, k, (t, of, none, at))) = let both : Err f ≡ Ok b = sym h ∙ k in absurd (cc)
  one_query x f g (inr (b, h, (t, of, none, at))) (inl k) = let both : Ok b ≡ Err g = sym h ∙ k in absurd (cc)
  one_query x f g (inr (b, h, (t, of, none, at))) (inr (d, k, (u, of', none', at'))) = at ∙ sym at'

  -- a query with a reply has a plan
  has-plan : (x : Wanted) (q : Query) (r : Reply) → IsReply w (asked_as x q) r → HasNoPlan w.contents q → ⊥
  has-plan wanted.Rows q r reply none = none reply.plan reply.answer.best.finished reply.answer.best.admissible
  has-plan wanted.Plan q r reply none = none reply.plan reply.explanation.best.finished reply.explanation.best.admissible
  has-plan wanted.Table q r reply none = none reply.text.plan reply.text.tabled.best.finished reply.text.tabled.best.admissible

  not_queried : (x : OrderedSelect) (a : Action) (n : ℕ) (r : Reply) (f : Fault) → Does w text tokens (query x) a n → IsReply w a r → IsQueryFault w text tokens x f → ⊥
  not_queried x a n r f (p, h, i, y) reply (inl k) = let both : Ok p ≡ Err f = sym h ∙ k in absurd (cc)
  not_queried x a n r f (p, h, (t, of, is), y) reply (inr (b, k, (u, of', none, at))) =
      let both : Ok p ≡ Ok b = sym h ∙ k in
      let same : b ≡ p = cc in
      let there : IsClassTable (given_of w.contents (query_with u p)) u = subst (λ (z : Bound). IsClassTable (given_of w.contents (query_with u z)) u) same of' in
      let one : u ≡ t = sym (table_one (given_of w.contents (query_with t p)) t u of there) in
      let plans = subst (λ (z : Bound). HasNoPlan w.contents (query_with u z)) same none in
      has-plan (wanted_by (terminals text tokens)) (query_with t p) r (subst (λ (z : Action). IsReply w z r) is reply) (subst (λ z. HasNoPlan w.contents (query_with z p)) one plans)

  one_ungrouped : (x : GroupedSelect) (f g : Fault) → IsGroupFault w text tokens x f → IsGroupFault w text tokens x g → f ≡ g
  one_ungrouped x f g (inl h) (inl k) = let both : Err f ≡ Err g = sym h ∙ k in cc
  one_ungrouped x f g (inl h) (inr (b, k, none)) = let both : Err f ≡ Ok b = sym h ∙ k in absurd (cc)
  one_ungrouped x f g (inr (b, h, none)) (inl k) = let both : Ok b ≡ Err g = sym h ∙ k in absurd (cc)
  one_ungrouped x f g (inr (b, h, none)) (inr (d, k, none')) = none.is ∙ sym none'.is

  -- a grouped query with a reply has a plan that groups
  has-group-plan : (e : MaybeExplain) (g : GroupedQuery) (r : Reply) → IsReply w (asked_of_groups e g) r → HasNoGroupPlan w.contents g → ⊥
  has-group-plan unexplained g r reply none = none reply.form reply.plan reply.explanation.least.is
  has-group-plan (explained t) g r reply none = none reply.form reply.plan reply.explanation.least.is

  not_grouped : (e : MaybeExplain) (x : GroupedSelect) (b : BoundGroups) (a : Action) (r : Reply) (f : Fault) → bound_groups w.contents (token_at tokens 0) x ≡ Ok b → Groups w e b a → IsReply w a r → IsGroupFault w text tokens x f → ⊥
  not_grouped e x b a r f h is reply (inl k) = let both : Ok b ≡ Err f = sym h ∙ k in absurd (cc)
  not_grouped e x b a r f h is reply (inr (d, k, un)) =
      let both : Ok b ≡ Ok d = sym h ∙ k in
      let same : d ≡ b = cc in
      let one = one_groups_of b d is.classes un.classes same is.own un.own in
      has-group-plan e (grouped_with is.classes b) r (subst (λ (z : Action). IsReply w z r) is.asks reply) (subst (HasNoGroupPlan w.contents) (sym one) un.none)

  one_unadvised : (x : Advise) (f g : Fault) → IsAdviseFault w tokens x f → IsAdviseFault w tokens x g → f ≡ g
  one_unadvised x f g (inl h) (inl k) = one-advice w.contents tokens x (Err f) (Err g) h k
  one_unadvised x f g (inl h) (inr (q, k, unadvised)) = absurd (one-advice w.contents tokens x (Err f) (Ok q) h k)
  one_unadvised x f g (inr (p, h, unadvised)) (inl k) = absurd (one-advice w.contents tokens x (Ok p) (Err g) h k)
  one_unadvised x f g (inr (p, h, (left, none, at))) (inr (q, k, (right, none', at'))) = at ∙ sym at'

  -- what is printed is an advice
  has-advice : (x : Advise) (a : Action) (n : ℕ) (r : Reply) (f : Fault) → Does w text tokens (advise_tree x) a n → IsReply w a r → IsAdviseFault w tokens x f → ⊥
  has-advice x a n r f ((p, h, left, i), y) reply (inl k) = one-advice w.contents tokens x (Ok p) (Err f) h k
  has-advice x a n r f ((p, h, left, i), y) reply (inr (q, k, (right, none, at))) =
      let same : p ≡ q = one-advice w.contents tokens x (Ok p) (Ok q) h k left right in
      let told : IsReply w (advise p.most p.candidates p.queries) r = subst (λ (z : Action). IsReply w z r) i reply in
      let less : HasNoAdviceFor w.contents p.candidates p.queries p.most = subst (λ (z : Asked). HasNoAdviceFor w.contents z.candidates z.queries z.most) (sym same) none in
      no-advice-told w.contents p.candidates p.queries p.most r.bytes told.0 less

  one_check_fault : (x : WindowedSelect) (stop : Token) (f g : Fault) → IsCheckFault w text tokens x stop f → IsCheckFault w text tokens x stop g → f ≡ g
  one_check_fault x stop f g (in_line h) (in_line k) = let both : Err f ≡ Err g = one_start text stop.end (Err f) (Err g) h k in cc
  one_check_fault x stop f g (in_line h) (in_select t k j) = let both : Err f ≡ Ok t = one_start text stop.end (Err f) (Ok t) h k in absurd (cc)
  one_check_fault x stop f g (in_line h) (without_end t d k j none at) = let both : Err f ≡ Ok t = one_start text stop.end (Err f) (Ok t) h k in absurd (cc)
  one_check_fault x stop f g (in_select s h i) (in_line k) = let both : Ok s ≡ Err g = one_start text stop.end (Ok s) (Err g) h k in absurd (cc)
  one_check_fault x stop f g (in_select s h i) (in_select t k j) = let both : Err f ≡ Err g = sym i ∙ j in cc
  one_check_fault x stop f g (in_select s h i) (without_end t d k j none at) = let both : Err f ≡ Ok d = sym i ∙ j in absurd (cc)
  one_check_fault x stop f g (without_end s b h i none at) (in_line k) = let both : Ok s ≡ Err g = one_start text stop.end (Ok s) (Err g) h k in absurd (cc)
  one_check_fault x stop f g (without_end s b h i none at) (in_select t k j) = let both : Ok b ≡ Err g = sym i ∙ j in absurd (cc)
  one_check_fault x stop f g (without_end s b h i none at) (without_end t d k j none' at') = at ∙ (ap endless_fault (started stop s t h k) ∙ sym at')

  not_taken : (x : WindowedSelect) (stop : Token) (act : Query → List ℕ → Action) (a : Action) (n : ℕ) (f : Fault) → Takes w text tokens x stop act a n → IsCheckFault w text tokens x stop f → ⊥
  not_taken x stop act a n f h (in_line k) = let both : Ok h.start ≡ Err f = one_start text stop.end (Ok h.start) (Err f) h.begins k in absurd (cc)
  not_taken x stop act a n f h (in_select t k j) = let both : Ok h.meant ≡ Err f = sym h.means ∙ j in absurd (cc)
  not_taken x stop act a n f h (without_end t d k j none at) =
      no_end text h.start h.end n h.ends (subst (λ (s : ℕ). HaveNoMark (lines_of (drop s text))) (sym (started stop h.start t h.begins k)) none)

  one_meant : (x : Statement) (f g : Fault) → IsMeaningFault w text tokens x f → IsMeaningFault w text tokens x g → f ≡ g
  one_meant (empty e) f g h k = absurd h
  one_meant (create_index x) f g h k = one_indexed x f g h k
  one_meant (query x) f g h k = one_query x f g h k
  one_meant (create_table c t n o d ds m e) f g h k = one_definition (create_table c t n o d ds m e) f g h k
  one_meant (sizes c n r p e) f g h k = one_definition (sizes c n r p e) f g h k
  one_meant (column_statistics c n d i nulls commons bounds e) f g h k = one_definition (column_statistics c n d i nulls commons bounds e) f g h k
  one_meant (analyze p c n e) f g h k = one_definition (analyze p c n e) f g h k
  one_meant (advise_tree x) f g h k = one_unadvised x f g h k
  one_meant (check p c x s) f g h k = one_check_fault x s f g h k
  one_meant (use_plan p c d q y s) f g h k = one_check_fault (windowed_select q y (window no_limit no_offset)) s f g h k
  one_meant (grouped p c d q) f g h k = one_ungrouped q f g h k
  one_meant (copy c n null) f g h k = one_definition (copy c n null) f g h k

  not_meant : (x : Statement) (a : Action) (n : ℕ) (r : Reply) (f : Fault) → Does w text tokens x a n → IsReply w a r → IsMeaningFault w text tokens x f → ⊥
  not_meant (empty e) a n r f h reply k = absurd k
  not_meant (create_index x) a n r f h reply k = not_indexed x a n f h k
  not_meant (query x) a n r f h reply k = not_queried x a n r f h reply k
  not_meant (create_table c t i o d ds m e) a n r f (s, h, p) reply k = no_definition (create_table c t i o d ds m e) a n s f h p k
  not_meant (sizes c i d p e) a n r f (s, h, u) reply k = no_definition (sizes c i d p e) a n s f h u k
  not_meant (column_statistics c i d p nulls commons bounds e) a n r f (s, h, u) reply k = no_definition (column_statistics c i d p nulls commons bounds e) a n s f h u k
  not_meant (analyze v c i e) a n r f (s, h, p) reply k = no_definition (analyze v c i e) a n s f h p k
  not_meant (advise_tree x) a n r f h reply k = has-advice x a n r f h reply k
  not_meant (check p c x s) a n r f h reply k = not_taken x s verify a n f h k
  not_meant (use_plan p c d q y s) a n r f h reply k = not_taken (windowed_select q y (window no_limit no_offset)) s follow a n f h k
  not_meant (grouped p e c q) a n r f (b, h, is, y) reply k = not_grouped e q b a r f h is reply k
  not_meant (copy c i null) a n r f (s, h, p) reply k = no_definition (copy c i null) a n s f h p k

  one_fault_over : (f g : Fault) → IsFaultOver w text tokens f → IsFaultOver w text tokens g → f ≡ g
  one_fault_over f g (in_syntax p) (in_syntax q) = one_first IsStatement text tokens f g p q
  one_fault_over f g (in_syntax p) (in_meaning y is k) = absurd (no_first text tokens y f is p)
  one_fault_over f g (in_meaning x is h) (in_syntax q) = absurd (no_first text tokens x g is q)
  one_fault_over f g (in_meaning x is h) (in_meaning y so k) =
      let same = one_tree y x (so.words ∙ sym is.words) in
      one_meant x f g h (subst (λ z. IsMeaningFault w text tokens z g) same k)

  no_fault_over : (a : Action) (n : ℕ) (r : Reply) (f : Fault) → IsReadOver w text tokens a n → IsReply w a r → IsFaultOver w text tokens f → ⊥
  no_fault_over a n r f p reply (in_syntax q) = no_first text tokens p.statement f p.spelled q
  no_fault_over a n r f p reply (in_meaning y so k) =
      let same = one_tree y p.statement (so.words ∙ sym p.spelled.words) in
      not_meant p.statement a n r f p.does reply (subst (λ x. IsMeaningFault w text tokens x f) same k)

-- one action and one end
pub one_read : (w : World) (text : List ℕ) (from m n : ℕ) (a b : Action) → IsRead w text from a m → IsRead w text from b n → (a ≡ b) × (m ≡ n)
one_read w text from m n a b (ts, h, p) (us, k, q) = one_over w text ts a b m n p (subst (λ l. IsReadOver w text l b n) (one_list text from us ts k h) q)

-- one fault
pub one_first_fault : (w : World) (text : List ℕ) (from : ℕ) (f g : Fault) → IsFault w text from f → IsFault w text from g → f ≡ g
one_first_fault w text from f g (in_words h (ts, p)) (in_words k (us, q)) = h ∙ (ap syntax_fault (one_fault text from ts us f.at g.at p q) ∙ sym k)
one_first_fault w text from f g (in_words h (ts, p)) (after_words us k q) = absurd (no_fault text from us ts f.at k p)
one_first_fault w text from f g (after_words ts h p) (in_words k (us, q)) = absurd (no_fault text from ts us g.at h q)
one_first_fault w text from f g (after_words ts h p) (after_words us k q) = one_fault_over w text ts f g p (subst (λ l. IsFaultOver w text l g) (one_list text from us ts k h) q)

-- not both, where there is a reply
pub read_apart : (w : World) (text : List ℕ) (from n : ℕ) (a : Action) (r : Reply) (f : Fault) → IsRead w text from a n → IsReply w a r → IsFault w text from f → ⊥
read_apart w text from n a r f (ts, h, p) reply (in_words k (us, q)) = no_fault text from ts us f.at h q
read_apart w text from n a r f (ts, h, p) reply (after_words us k q) = no_fault_over w text ts a n r f p reply (subst (λ l. IsFaultOver w text l f) (one_list text from us ts k h) q)
