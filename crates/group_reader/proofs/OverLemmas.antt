-- What a grouped SELECT means over the relations of its FROM, step by step.
use Rattle.std.proofs.Common.{◌≡◌, ℕ, ◌≤◌, Bool, true, false, List, [], ◌∷◌, ◌++◌, length, map, drop, All, Option, Some, None, Result, Ok, Err, IfOk, IsErrAnd, refl, sym, ap, subst, ◌∙◌, arith, length-append}
use Rattle.std.proofs.lemmas.List.Elements.{All-nil}
use Rattle.std.proofs.lemmas.Bool.{true≢false}
use Rattle.pg_base.specs.Names.{IsName}
use Rattle.pg_base.specs.declared.faults.Code.TheVariants.{S15}
use Rattle.pg_base.specs.declared.faults.Fault.{Fault}
use Rattle.pg_base.specs.declared.faults.Limit.{Limit}
use Rattle.pg_base.specs.declared.faults.Refusal.{Refusal}
use Rattle.pg_base.specs.declared.faults.Refusal.TheVariants as refusal
use Rattle.pg_base.specs.declared.numbers.TableNo.{TableNo}
use Rattle.pg_expr.specs.declared.operand.ColRef.{ColRef}
use Rattle.pg_expr.specs.Cond.{Cond}
use Rattle.catalog.specs.Contents.{Contents}
use Rattle.catalog.specs.Range.{Range, type_in}
use Rattle.eq_classes.specs.Clauses.{ClassTable}
use Rattle.eq_classes.specs.declared.order.OrderItem.{OrderItem}
use Rattle.sql_lex.specs.Words.{AreWords}
use Rattle.sql_lex.specs.declared.tokens.Token.{Token}
use Rattle.sql_grammar.specs.Faults.{AreWithinLimits, fault_at, terminals}
use Rattle.sql_grammar.specs.FromParts.{groups_after}
use Rattle.sql_grammar.specs.Syntax.{Mark, Col, Group, GroupBy, no_group_by, group_by, GroupedItem, plain_item, call, GroupedSelect, distinct_select, grouped_select, Output, every, every_of, one, bare, qualified, OrderBy, no_order, order_by, Where, no_where, where_expr, Ending, semicolon, text_end, no_limit, no_offset, window}
use Rattle.sql_grammar.specs.Terminals.{Terminal, Ident, free, other, t_key, t_mark, t_name, t_semicolon, t_end}
use Rattle.sql_grammar.specs.declared.class.Free.TheVariants.{Distinct}
use Rattle.sql_grammar.specs.declared.class.Symbol.TheVariants.{Close, Comma, Dot, Open, Star}
use Rattle.sql_grammar.specs.declared.class.Word.TheVariants.{From}
use Rattle.sql_grammar.specs.Words.{words_of_argument, words_of_col, words_of_ending, words_of_group, words_of_group_by, words_of_group_columns, words_of_grouped, words_of_grouped_item, words_of_grouped_items, words_of_groups, words_of_order, words_of_output, words_of_outputs, words_of_where}
use Rattle.expr_reader.specs.Lists.{further_parts}
use Rattle.expr_reader.specs.work.Reading.{BeginsNot, free_name}
use Rattle.expr_reader.proofs.Named.{AreNamed, named-from}
use Rattle.expr_reader.specs.Conditions.{next}
use Rattle.expr_reader.proofs.StepLemmas.{step, stop}
use Rattle.sql_query.specs.Grouped.{GroupedQuery}
use Rattle.sql_query.specs.declared.grouped.Item.{Item}
use Rattle.query_reader.specs.Binding.{conjuncts_written, limited, past_limit}
use Rattle.query_reader.specs.work.Ends.{ends_from, ends_order, ends_where, ends_window}
use Rattle.query_reader.specs.From.{Joined, nothing_joined, with_groups}
use Rattle.query_reader.specs.Scope.{scope_of}
use Rattle.query_reader.specs.work.Scope.{Sight, visible_in}
use Rattle.query_reader.proofs.AliasLemmas.{HasNames, all-named}
use Rattle.query_reader.proofs.JoinLemmas.{behind-from}
use Rattle.query_reader.proofs.ReadingLemmas.{ends-order, ends-where}
use Rattle.group_reader.specs.declared.group.Ready.{Ready}
use Rattle.group_reader.specs.declared.written.Column.{Column}
use Rattle.group_reader.specs.declared.written.Listed.{Listed}
use Rattle.group_reader.specs.declared.written.Sorting.{Sorting}
use Rattle.group_reader.specs.Binding.{BoundGroups, BoundLists, Grouper, shown, bound_groups, grouped_with, groups_over, item_in, lists_bound, named_in_lists}
use Rattle.group_reader.specs.work.Binding.{grouper}
use Rattle.group_reader.specs.work.Ends.{ends_columns}
use Rattle.group_reader.specs.work.Meaning.{lists_said}
use Rattle.group_reader.specs.work.Reads.{begins_distinct, begins_items, behind_distinct}
use Rattle.group_reader.specs.work.Seen.{IsReady, grouped_of}
use Rattle.group_reader.specs.work.Selected.{IsGroupedAs}
use Rattle.group_reader.specs.work.Written.{column_written, columns_written, listed_of, sorts_written}
use Rattle.group_reader.proofs.AddLemmas.{conveys-memory, conveys-stopped}
use Rattle.group_reader.proofs.MeaningLemmas.{lists-same}

-- what stands behind the parts
pub window-order : (rest : List Terminal) → ends_window rest ≡ true → ends_order rest ≡ true
window-order rest ends = ends-order (window no_limit no_offset) rest ends

pub order-columns : (y : OrderBy) (rest : List Terminal) → ends_window rest ≡ true → ends_columns (words_of_order y ++ rest) ≡ true
order-columns (order_by k b o os) rest ends = refl
order-columns no_order [] ends = refl
order-columns no_order (t_semicolon t ∷ rest) ends = refl
order-columns no_order (t_end t ∷ rest) ends = refl
order-columns no_order _ ends = absurd (cc (ends))

pub groups-where : (b : GroupBy) (y : OrderBy) (rest : List Terminal) → ends_window rest ≡ true → ends_where (words_of_group_by b ++ (words_of_order y ++ rest)) ≡ true
groups-where no_group_by y rest ends = ends-where y rest (window-order rest ends)
groups-where (group_by k t c cs) y rest ends = refl

pub groups-from : (w : Where) (b : GroupBy) (y : OrderBy) (rest : List Terminal) → ends_window rest ≡ true → ends_from (words_of_where w ++ (words_of_group_by b ++ (words_of_order y ++ rest))) ≡ true
groups-from (where_expr k e) b y rest ends = refl
groups-from no_where no_group_by y rest ends = behind-from no_where y rest (window-order rest ends)
groups-from no_where (group_by k t c cs) y rest ends = refl

pub ending-window : (e : Ending) → ends_window (words_of_ending e) ≡ true
ending-window (semicolon t) = refl
ending-window (text_end t) = refl

-- a limit that is passed is told of whatever is within it
limited-err : {A B : Type 0} (m : Result A Fault) (start : Token) (o : Option Limit) (F : A → B) (f : Fault) → next m (limited start o) ≡ Err f → next m (λ l. limited start o (F l)) ≡ Err f
limited-err (Ok l) start None F f is = absurd (cc (is))
limited-err (Ok l) start (Some x) F f is = let same : fault_at (S15 x) start ≡ f = cc (is) in ap Err same
limited-err (Err e) start o F f is = let same : e ≡ f = cc (is) in ap Err same

limited-ok : {A B : Type 0} (m : Result A Fault) (start : Token) (o : Option Limit) (F : A → B) (x : A) → next m (limited start o) ≡ Ok x → next m (λ l. limited start o (F l)) ≡ Ok (F x)
limited-ok {A} (Ok l) start None F x is = let same : l ≡ x = cc (is) in ap (λ (z : A). Ok (F z)) same
limited-ok (Ok l) start (Some k) F x is = absurd (cc (is))
limited-ok (Err e) start o F x is = absurd (cc (is))

-- what a grouped SELECT means over the relations of FROM
module _ (c : Contents) (range : Range) (joined : List Cond) (start : Token) (is : List GroupedItem) (w : Where) (d : Bool) (b : GroupBy) (y : OrderBy) where
  abbrev pub over_these : Joined
  over_these = record { contents = c; range = range; conjuncts = joined }

  module _ (s : Sight) (look : s ≡ record { contents = c; range = range; first = 0 }) where
    pub conjuncts-wrong : (f : Fault) → conjuncts_written (visible_in s) (type_in s.contents s.range) w ≡ Err f → groups_over start is w (grouper d b) y over_these ≡ Err f
    conjuncts-wrong f wrong = stop (conjuncts_written (scope_of c range) (type_in c range) w) _ f (subst (λ (x : Sight). conjuncts_written (visible_in x) (type_in x.contents x.range) w ≡ Err f) look wrong)

    module _ (ks : List Cond) (conjuncts : conjuncts_written (visible_in s) (type_in s.contents s.range) w ≡ Ok ks) (listed : List Listed) (distinct : Bool) (columns : List Column) (sorts : List Sorting) (l_is : listed ≡ map listed_of is)
        (d_is : distinct ≡ d) (c_is : columns ≡ columns_written b) (s_is : sorts ≡ sorts_written y) where
      abbrev said : Result BoundLists Fault
      said = lists_said (visible_in s) (type_in s.contents s.range) listed distinct columns sorts

      own-conjuncts : conjuncts_written (scope_of c range) (type_in c range) w ≡ Ok ks
      own-conjuncts = subst (λ (x : Sight). conjuncts_written (visible_in x) (type_in x.contents x.range) w ≡ Ok ks) look conjuncts

      own-lists : said ≡ lists_bound (scope_of c range) (type_in c range) is (grouper d b) y
      own-lists =
          ap (λ (x : Sight). lists_said (visible_in x) (type_in x.contents x.range) listed distinct columns sorts) look
          ∙ (ap (λ (l : List Listed). lists_said (scope_of c range) (type_in c range) l distinct columns sorts) l_is
          ∙ (ap (λ (x : Bool). lists_said (scope_of c range) (type_in c range) (map listed_of is) x columns sorts) d_is
          ∙ (ap (λ (l : List Column). lists_said (scope_of c range) (type_in c range) (map listed_of is) d l sorts) c_is
          ∙ (ap (λ (l : List Sorting). lists_said (scope_of c range) (type_in c range) (map listed_of is) d (columns_written b) l) s_is ∙ lists-same (scope_of c range) (type_in c range) is d b y))))

      abbrev pub with_lists : BoundLists → BoundGroups
      with_lists l = record { range = range; where_all = joined ++ ks; lists = l }

      up-to : groups_over start is w (grouper d b) y over_these ≡ next said (λ l. limited start (past_limit (joined ++ ks)) (with_lists l))
      up-to =
          step (conjuncts_written (scope_of c range) (type_in c range) w) _ ks own-conjuncts
          ∙ ap (λ (m : Result BoundLists Fault). next m (λ l. limited start (past_limit (joined ++ ks)) (with_lists l))) (sym own-lists)

      pub lists-wrong : (f : Fault) → next said (limited start (past_limit (joined ++ ks))) ≡ Err f → groups_over start is w (grouper d b) y over_these ≡ Err f
      lists-wrong f wrong = up-to ∙ limited-err said start (past_limit (joined ++ ks)) with_lists f wrong

      pub lists-meant : (l : BoundLists) → next said (limited start (past_limit (joined ++ ks))) ≡ Ok l → groups_over start is w (grouper d b) y over_these ≡ Ok (with_lists l)
      lists-meant l meant = up-to ∙ limited-ok said start (past_limit (joined ++ ks)) with_lists l meant

-- lists within the limits
pub record Within (m : Result BoundLists Fault) (o : Option Limit) (l : BoundLists) : Type 0 where
  pub meant : m ≡ Ok l
  pub kept : o ≡ None

pub within : (m : Result BoundLists Fault) (start : Token) (o : Option Limit) (l : BoundLists) → next m (limited start o) ≡ Ok l → Within m o l
within (Ok k) start None l is = record { meant = is; kept = refl }
within (Ok k) start (Some x) l is = absurd (cc (is))
within (Err f) start o l is = absurd (cc (is))

-- a grouped query is the one with the classes that it has
pub own-classes : (g : GroupedQuery) (t : ClassTable) (b : BoundGroups) → g ≡ grouped_with t b → g ≡ grouped_with g.base.classes b
own-classes g t b is = is ∙ ap (λ (x : ClassTable). grouped_with x b) (sym (ap (λ (x : GroupedQuery). x.base.classes) is))

-- the query that is put together is what is meant
pub made-so : (s : Sight) (range : Range) (ws : List Cond) (l : BoundLists) (r : Ready) → IsReady s ws l r → grouped_of range ws r ≡ grouped_with r.classes (record { range = range; where_all = ws; lists = l })
made-so s range ws l r at =
    let P : List ColRef → List ColRef → List Item → List OrderItem → GroupedQuery = λ u k i o. record {
      base = record { range = range; classes = r.classes; select = []; order = []; used = u; where_all = ws; window = None };
      keys = k;
      items = i;
      order = o;
    } in
    ap (λ (u : List ColRef). P u r.lists.keys.items r.items.items r.lists.order.items) at.used
    ∙ (ap (λ (i : List Item). P (named_in_lists l ws) r.lists.keys.items i r.lists.order.items) at.items
    ∙ ap (λ (m : BoundLists). P (named_in_lists l ws) m.keys (map (item_in l.keys) l.parts) m.order) at.lists)

pub read-so : (m : Result BoundGroups Fault) (b : BoundGroups) (g : GroupedQuery) → m ≡ Ok b → g ≡ grouped_with g.base.classes b → IsGroupedAs m (Ok g)
read-so m b g is same = subst (λ (x : Result BoundGroups Fault). IsGroupedAs x (Ok g)) (sym is) same

pub stopped : (m : Result BoundGroups Fault) (e : Refusal) (r : Result GroupedQuery Refusal) → ((f : Fault) → e ≡ refusal.Fault f → m ≡ Err f) → IsErrAnd r (λ d. d ≡ e) → IsGroupedAs m r
stopped m e r wrong told = conveys-stopped BoundGroups GroupedQuery (λ meant read. read ≡ grouped_with read.base.classes meant) m e r wrong told

pub stopped-short : (m : Result BoundGroups Fault) (r : Result GroupedQuery Refusal) → IsErrAnd r (λ d. d ≡ refusal.Memory) → IsGroupedAs m r
stopped-short m r told = conveys-memory BoundGroups GroupedQuery (λ meant read. read ≡ grouped_with read.base.classes meant) m r told

pub at-joined : (i j : Joined) (start : Token) (is : List GroupedItem) (w : Where) (b : Grouper) (y : OrderBy) (r : Result GroupedQuery Refusal) → i ≡ j → IsGroupedAs (groups_over start is w b y i) r → IsGroupedAs (groups_over start is w b y j) r
at-joined i j start is w b y r same told = subst (λ (x : Joined). IsGroupedAs (groups_over start is w b y x) r) same told

-- there are no more columns than words
more-columns : (cs : List (Mark × Col)) → length (further_parts column_written cs) ≤ length (words_of_group_columns cs)
more-columns [] = omega arith
more-columns ((m, c) ∷ cs) = omega (arith, more-columns cs, length-append (words_of_col c) (words_of_group_columns cs))

pub few-columns : (b : GroupBy) → length (columns_written b) ≤ length (words_of_group_by b)
few-columns no_group_by = omega arith
few-columns (group_by k t c cs) = omega (arith, more-columns cs, length-append (words_of_col c) (words_of_group_columns cs))

more-items : (is : List (Mark × GroupedItem)) → length (further_parts listed_of is) ≤ length (words_of_grouped_items is)
more-items [] = omega arith
more-items ((m, i) ∷ is) = omega (arith, more-items is, length-append (words_of_grouped_item i) (words_of_grouped_items is))

-- there are no more items than words, with the word FROM
pub few-items : (i : GroupedItem) (is : List (Mark × GroupedItem)) (f : Terminal) (rest : List Terminal) → length (listed_of i ∷ further_parts listed_of is) ≤ length (words_of_grouped_item i ++ (words_of_grouped_items is ++ f ∷ rest))
few-items i is f rest = omega (arith, more-items is, length-append (words_of_grouped_item i) (words_of_grouped_items is ++ f ∷ rest), length-append (words_of_grouped_items is) (f ∷ rest))

-- the items of a list, the first one apart
pub each-listed : (is : List (Mark × GroupedItem)) → further_parts listed_of is ≡ map listed_of (further_parts (λ (i : GroupedItem). i) is)
each-listed [] = refl
each-listed ((m, i) ∷ is) = ap (λ l. listed_of i ∷ l) (each-listed is)

-- the relations of a grouped query are those that FROM names
limited-range : (start : Token) (o : Option Limit) (b : BoundGroups) (g : GroupedQuery) → IsGroupedAs (limited start o b) (Ok g) → g.base.range ≡ b.range
limited-range start None b g h = ap (λ (x : GroupedQuery). x.base.range) h
limited-range start (Some l) b g h = absurd h

next-range : {A : Type 0} (m : Result A Fault) (more : A → Result BoundGroups Fault) (range : Range) (g : GroupedQuery) → ((a : A) → IsGroupedAs (more a) (Ok g) → g.base.range ≡ range) → IsGroupedAs (next m more) (Ok g) → g.base.range ≡ range
next-range (Ok a) more range g later h = later a h
next-range (Err f) more range g later h = absurd h

over-range : (start : Token) (is : List GroupedItem) (w : Where) (b : Grouper) (y : OrderBy) (j : Joined) (g : GroupedQuery) → IsGroupedAs (groups_over start is w b y j) (Ok g) → g.base.range ≡ j.range
over-range start is w b y j g h =
    next-range (conjuncts_written (scope_of j.contents j.range) (type_in j.contents j.range) w) _ j.range g
    (λ ks. next-range (lists_bound (scope_of j.contents j.range) (type_in j.contents j.range) is b y) _ j.range g (λ l. limited-range start (past_limit (j.conjuncts ++ ks)) _ g)) h

names-by : (m : Result Joined Fault) (start : Token) (is : List GroupedItem) (w : Where) (b : Grouper) (y : OrderBy) (g : GroupedQuery) → ((j : Joined) → m ≡ Ok j → HasNames j) → IsGroupedAs (next m (groups_over start is w b y)) (Ok g) → All (λ r. IsName r.1) g.base.range
names-by (Ok j) start is w b y g has h = subst (λ (r : Range). All (λ x. IsName x.1) r) (sym (over-range start is w b y j g h)) (has j refl)
names-by (Err f) start is w b y g has h = absurd h

-- a grouped query whose statement has names within the limits
pub named-groups : (c : Contents) (start : Token) (is : List GroupedItem) (g : Group) (gs : List (Mark × Group)) (w : Where) (b : Grouper) (y : OrderBy) (rest : List Terminal) (P : GroupedQuery → Type 0) (r : Result GroupedQuery Refusal) →
    AreNamed (words_of_group g ++ (words_of_groups gs ++ rest)) → IsGroupedAs (next (with_groups (nothing_joined c) (g ∷ groups_after gs)) (groups_over start is w b y)) r → IfOk r (λ q. All (λ x. IsName x.1) q.base.range → P q) → IfOk r P
named-groups c start is g gs w b y rest P (Ok q) words read has =
    has (names-by (with_groups (nothing_joined c) (g ∷ groups_after gs)) start is w b y q (λ j. all-named (nothing_joined c) j g gs rest words (All-nil (λ (r : TableNo × List ℕ). IsName r.1))) read)
named-groups c start is g gs w b y rest P (Err e) words read has = tt

-- the names among the words behind SELECT
behind-one : (ts : List Terminal) → AreNamed ts → AreNamed (drop 1 ts)
behind-one [] h = tt
behind-one (w ∷ ws) h = h.1

pub left-named : (text : List ℕ) (tokens : List Token) (first : ℕ) (old left : List Terminal) → old ≡ terminals text (drop first tokens) → left ≡ drop 1 old → AreWithinLimits (terminals text (drop first tokens)) → (from : ℕ) → AreWords text from tokens → AreNamed left
left-named text tokens first old left is skipped limits from words =
    subst AreNamed (sym (skipped ∙ ap (drop 1) is)) (behind-one (terminals text (drop first tokens)) (named-from text from tokens first words limits))

-- DISTINCT is not next
pub no-distinct : (ts : List Terminal) → BeginsNot (free_name Distinct) ts → false ≡ begins_distinct ts
no-distinct [] none = refl
no-distinct (t_name (free Distinct t) ∷ rest) none = absurd (none rest (t, refl))
no-distinct (_ ∷ rest) none = refl

-- what is left behind DISTINCT
pub behind-named : (d : Bool) (ts left : List Terminal) → left ≡ behind_distinct d ts → AreNamed ts → AreNamed left
behind-named true ts left is named = subst AreNamed (sym is) (behind-one ts named)
behind-named false ts left is named = subst AreNamed (sym is) named

drop-length : (ts : List Terminal) → length (drop 1 ts) ≤ length ts
drop-length [] = omega arith
drop-length (t ∷ ts) = omega arith

pub behind-length : (d : Bool) (ts left : List Terminal) → left ≡ behind_distinct d ts → length left ≤ length ts
behind-length true ts left is = omega (arith, ap length is, drop-length ts)
behind-length false ts left is = omega (arith, ap length is)

-- the parts of a SELECT that groups whose words are left after SELECT
pub record Parted (x : GroupedSelect) (d : Bool) (left : List Terminal) : Type 0 where
  pub first : GroupedItem
  pub more : List (Mark × GroupedItem)
  pub from_at : Token
  pub group : Group
  pub groups : List (Mark × Group)
  pub condition : Where
  pub by : GroupBy
  pub order : OrderBy
  pub ending : Ending
  pub split : left ≡ words_of_grouped_item first ++ (words_of_grouped_items more ++ t_key From from_at ∷
      (words_of_group group ++ (words_of_groups groups ++ (words_of_where condition ++ (words_of_group_by by ++ (words_of_order order ++ words_of_ending ending))))))
  pub means : (c : Contents) (start : Token) →
      next (with_groups (nothing_joined c) (group ∷ groups_after groups)) (groups_over start (first ∷ further_parts (λ (i : GroupedItem). i) more) condition (grouper d by) order) ≡ bound_groups c start x

-- the items of a list in which there is no call
abbrev plain_items : List (Mark × Output) → List (Mark × GroupedItem)
plain_items [] = []
plain_items ((m, o) ∷ os) = (m, plain_item o) ∷ plain_items os

plain-words : (os : List (Mark × Output)) → words_of_outputs os ≡ words_of_grouped_items (plain_items os)
plain-words [] = refl
plain-words ((m, o) ∷ os) = ap (λ l. t_mark Comma m ∷ (words_of_output o ++ l)) (plain-words os)

plain-parts : (os : List (Mark × Output)) → further_parts (λ (i : GroupedItem). i) (plain_items os) ≡ map plain_item (further_parts (λ (o : Output). o) os)
plain-parts [] = refl
plain-parts ((m, o) ∷ os) = ap (λ l. plain_item o ∷ l) (plain-parts os)

-- no item of a list is DISTINCT before a list
outputs-go : (is : List (Mark × GroupedItem)) (f : Token) (rest : List Terminal) → begins_items (words_of_grouped_items is ++ t_key From f ∷ rest) ≡ false
outputs-go [] f rest = refl
outputs-go ((m, i) ∷ is) f rest = refl

first-named : (n : Ident) (ts : List Terminal) → begins_items ts ≡ false → begins_distinct (t_name n ∷ ts) ≡ false
first-named (free Distinct t) ts no_list = no_list
first-named (free _ t) ts no_list = refl
first-named (other s t) ts no_list = refl

not-distinct : (i : GroupedItem) (is : List (Mark × GroupedItem)) (f : Token) (rest : List Terminal) → begins_distinct (words_of_grouped_item i ++ (words_of_grouped_items is ++ t_key From f ∷ rest)) ≡ false
not-distinct (plain_item (every m)) is f rest = refl
not-distinct (plain_item (every_of q d m)) is f rest = first-named q (t_mark Dot d ∷ t_mark Star m ∷ (words_of_grouped_items is ++ t_key From f ∷ rest)) refl
not-distinct (plain_item (one (bare n))) is f rest = first-named n (words_of_grouped_items is ++ t_key From f ∷ rest) (outputs-go is f rest)
not-distinct (plain_item (one (qualified q d n))) is f rest = first-named q (t_mark Dot d ∷ t_name n ∷ (words_of_grouped_items is ++ t_key From f ∷ rest)) refl
not-distinct (call n o a m) is f rest = first-named n (t_mark Open o ∷ ((words_of_argument a ++ t_mark Close m ∷ []) ++ (words_of_grouped_items is ++ t_key From f ∷ rest))) refl

is-distinct : (o : Output) (rest : List Terminal) → begins_items (words_of_output o ++ rest) ≡ true
is-distinct (every m) rest = refl
is-distinct (every_of q d m) rest = refl
is-distinct (one (bare n)) rest = refl
is-distinct (one (qualified q d n)) rest = refl

pub parted : (x : GroupedSelect) (behind left : List Terminal) (d : Bool) → behind ≡ words_of_grouped x → d ≡ begins_distinct behind → left ≡ behind_distinct d behind → Parted x d left
parted (grouped_select i is f g gs w b p y e) behind left true words so at = absurd (true≢false (so ∙ (ap begins_distinct words ∙ not-distinct i is f (words_of_group g ++ (words_of_groups gs ++ (words_of_where w ++ (words_of_group_by b ++ (words_of_order y ++ words_of_ending e))))))))
parted (grouped_select i is f g gs w b p y e) behind left false words so at = record {
  first = i;
  more = is;
  from_at = f;
  group = g;
  groups = gs;
  condition = w;
  by = b;
  order = y;
  ending = e;
  split = at ∙ words;
  means = λ c start. refl;
}
parted (distinct_select u k o os f g gs w y e) behind left false words so at = absurd (true≢false (sym (so ∙ (ap begins_distinct words ∙ is-distinct o (words_of_outputs os ++ t_key From f ∷ (words_of_group g ++ (words_of_groups gs ++ (words_of_where w ++ (words_of_order y ++ words_of_ending e)))))))))
parted (distinct_select u k o os f g gs w y e) behind left true words so at = record {
  first = plain_item o;
  more = plain_items os;
  from_at = f;
  group = g;
  groups = gs;
  condition = w;
  by = no_group_by;
  order = y;
  ending = e;
  split = at ∙ (ap (drop 1) words ∙ ap (λ l. words_of_output o ++ (l ++ t_key From f ∷ (words_of_group g ++ (words_of_groups gs ++ (words_of_where w ++ (words_of_order y ++ words_of_ending e)))))) (plain-words os));
  means = λ c start. ap (λ l. next (with_groups (nothing_joined c) (g ∷ groups_after gs)) (groups_over start (plain_item o ∷ l) w shown y)) (plain-parts os);
}
