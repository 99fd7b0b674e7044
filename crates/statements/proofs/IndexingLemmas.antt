-- CREATE INDEX: what it does, or why it is refused.
use Rattle.std.proofs.Common.{◌≡◌, ◌≢◌, ◌≤◌, ◌+◌, ℕ, Bool, true, false, cond, List, [], ◌∷◌, length, drop, Option, Some, None, Result, Ok, Err, refl, sym, arith, ap, subst, ◌∙◌, inl, inr}
use Rattle.pg_base.specs.declared.numbers.TableNo.{TableNo}
use Rattle.pg_base.specs.declared.faults.Code.TheVariants.{S8}
use Rattle.pg_base.specs.declared.faults.Fault.{Fault}
use Rattle.pg_base.specs.declared.faults.Refusal.{Refusal}
use Rattle.pg_base.specs.declared.faults.Refusal.TheVariants as refusal
use Rattle.pg_base.specs.declared.limits.TheConstants.{MOST_COLUMNS}
use Rattle.pg_expr.specs.Cond.{Cond}
use Rattle.pg_value.specs.declared.value.SqlType.{SqlType}
use Rattle.opfamily.specs.declared.classes.Method.{Method}
use Rattle.opfamily.specs.declared.classes.OpClass.{OpClass}
use Rattle.opfamily.specs.Answers.{accepted, class_of_name}
use Rattle.sql_lex.specs.declared.tokens.Token.{Token}
use Rattle.sql_lex.specs.Ends.{end_of}
use Rattle.sql_grammar.specs.Terminals.{Ident, token_of}
use Rattle.sql_grammar.specs.Syntax.{Where, no_where, where_expr, ClassTree, no_class, op_class, KeyTree, index_key, Using, no_using, using_method, Cand, cand_on, CreateIndex, index_on, create_index}
use Rattle.sql_grammar.specs.Faults.{bytes_of}
use Rattle.expr_reader.specs.Lists.{bound_each}
use Rattle.catalog.specs.declared.fault.CatalogFault.{CatalogFault}
use Rattle.catalog.specs.declared.fault.CatalogFault.TheVariants as refused
use Rattle.catalog.specs.Contents.{Contents, table_at}
use Rattle.catalog.specs.Indexes.{Index, columns_of, type_at}
use Rattle.catalog.specs.Tables.{IsAcceptableIndex, IsIndexRefusal}
use Rattle.expr_reader.specs.Conditions.{meaning_of_expr}
use Rattle.ddl_reader.specs.Statistics.{known, table_of_name, column_of_name}
use Rattle.index_reader.specs.declared.keys.KeyRead.{KeyRead}
use Rattle.index_reader.specs.declared.names.NamedColumn.{NamedColumn}
use Rattle.index_reader.specs.declared.methods.MethodRead.{MethodRead}
use Rattle.index_reader.specs.Keys.{class_bound, class_has_method, class_known, key_bound, all_key_trees, method_bound, method_of_name, name_bound, include_names}
use Rattle.index_reader.specs.Meaning.{IndexMeant, condition_bound, has_many_atoms, index_reading, limited_names, meaning_of_index, meaning_of_cand, name_tokens, within_limits}
use Rattle.index_reader.specs.work.Statements.{IsIndexMeaning, IsCreateRefusal}
use Rattle.index_reader.specs.Visible.{Sight, visible_in, sight_type}
use Rattle.sql_query.specs.Worlds.{World, stored_at}
use Rattle.statements.specs.declared.end.End.{End}
use Rattle.statements.specs.declared.end.End.TheVariants as ends
use Rattle.store.specs.Actions.{after, build}
use Rattle.statements.specs.work.Ending.{IsPlaceAmong, end_by, end_of_refusal}
use Rattle.statements.specs.Faults.{in_syntax, in_meaning, index_fault}
use Rattle.statements.specs.work.Steps.{IsCarrying, IsDefined, Refuses}
use Rattle.statements.proofs.PlainLemmas.{IsPlain, column-name-plain, each-plain, expr-plain, known-plain, next-plain, plain-field, table-name-plain}

-- the faults of names, classes and limits are in no record of data
accepted-plain : (has fits : Bool) (token : Token) (c : OpClass) (code other : Fault) → code.rec ≡ 0 → other.rec ≡ 0 → IsPlain (cond has (cond fits (Ok c) (Err code)) (Err other))
accepted-plain true true token c code other p q = tt
accepted-plain true false token c code other p q = p
accepted-plain false fits token c code other p q = q

class-plain : (token : Token) (m : Method) (t : SqlType) (o : Option OpClass) → IsPlain (class_known token m t o)
class-plain token m t None = refl
class-plain token m t (Some c) = accepted-plain (class_has_method c m) (accepted c m t) token c _ _ refl refl

class-bound-plain : (m : Method) (t : SqlType) (c : ClassTree) → IsPlain (class_bound m t c)
class-bound-plain m t no_class = tt
class-bound-plain m t (op_class n named) = class-plain (token_of n) m t (class_of_name (bytes_of n) t)

method-plain : (u : Using) → IsPlain (method_bound u)
method-plain no_using = tt
method-plain (using_method k n) = next-plain (known S8 (token_of n) (method_of_name (bytes_of n))) _ (known-plain S8 (token_of n) (method_of_name (bytes_of n))) (λ m. tt)

key-plain : (cat : Contents) (t : TableNo) (m : Method) (k : KeyTree) → IsPlain (key_bound cat t m k)
key-plain cat t m (index_key n c d z) =
    next-plain (column_of_name cat t n) _ (column-name-plain cat t n)
    (λ col. next-plain (class_bound m (type_at (table_at cat t).columns col) c) _ (class-bound-plain m (type_at (table_at cat t).columns col) c) (λ class. tt))

include-plain : (cat : Contents) (t : TableNo) (n : Ident) → IsPlain (name_bound cat t n)
include-plain cat t n = next-plain (column_of_name cat t n) _ (column-name-plain cat t n) (λ col. tt)

condition-plain : (s : Sight) (w : Where) → IsPlain (condition_bound s w)
condition-plain s no_where = tt
condition-plain s (where_expr k e) = next-plain (meaning_of_expr (visible_in s) (sight_type s) e) _ (expr-plain (visible_in s) (sight_type s) e) (λ c. tt)

either-plain : {A : Type 0} (b : Bool) (f : Fault) (x : A) → f.rec ≡ 0 → IsPlain (cond b (Err f) (Ok x))
either-plain true f x none = none
either-plain false f x none = tt

limited-plain : {A : Type 0} (ts : List Token) (r : Result A Fault) → IsPlain r → IsPlain (limited_names ts r)
limited-plain [] r h = h
limited-plain (t ∷ ts) r h = refl

limits-plain : (start : Token) (n : Ident) (t : TableNo) (m : MethodRead) (keys : List KeyRead) (names : List NamedColumn) (predicate : Option Cond) → IsPlain (within_limits start n t m keys names predicate)
limits-plain start n t m keys names predicate =
    limited-plain (drop MOST_COLUMNS (name_tokens keys names)) _ (either-plain (has_many_atoms predicate) _ (index_reading n t m keys names predicate) refl)

pub cand-plain : (cat : Contents) (start : Token) (x : Cand) → IsPlain (meaning_of_cand cat start x)
cand-plain cat start (cand_on n o of u p x xs m c w) =
    next-plain (table_of_name cat of) _ (table-name-plain cat of) (λ t.
    next-plain (method_bound u) _ (method-plain u) (λ by.
    next-plain (bound_each (key_bound cat t by.method) (all_key_trees x xs)) _ (each-plain (key_bound cat t by.method) (all_key_trees x xs) (key-plain cat t by.method)) (λ keys.
    next-plain (bound_each (name_bound cat t) (include_names c)) _ (each-plain (name_bound cat t) (include_names c) (include-plain cat t)) (λ names.
    next-plain (condition_bound (record { contents = cat; table = t; alias = bytes_of of }) w) _ (condition-plain (record { contents = cat; table = t; alias = bytes_of of }) w) (λ predicate.
    limits-plain start n t by keys names predicate)))))

meaning-plain : (cat : Contents) (x : CreateIndex) → IsPlain (meaning_of_index cat x)
meaning-plain cat (index_on start i n o of u p x xs m c w e) = cand-plain cat start (cand_on n o of u p x xs m c w)

fault-plain : (cat : Contents) (x : CreateIndex) (f : Fault) → meaning_of_index cat x ≡ Err f → f.rec ≡ 0
fault-plain cat x f is = subst IsPlain is (meaning-plain cat x)

-- a column in error has its place
pub place-among : (cat : Contents) (name : List ℕ) (x : Index) (e : CatalogFault) (count : ℕ) → IsIndexRefusal cat name x e → count ≡ length (columns_of x) + 1 → IsPlaceAmong e count
place-among cat name x (refused.ColumnTwice place) count h many = omega (arith, h.1.within, many)
place-among cat name x refused.NameTaken count h many = tt
place-among cat name x refused.TooMany count h many = tt
place-among cat name x (refused.BadNumber place) count h many = tt
place-among cat name x refused.Memory count h many = tt

module _ (w : World) (text : List ℕ) (tokens : List Token) where
  -- what the reader refuses
  pub read-refused : (looked : ℕ) (r : Refusal) → IsCreateRefusal w.contents text tokens r → Refuses (end_of_refusal r) w text tokens looked looked
  read-refused looked (refusal.Fault f) (inl first) = (in_syntax first, plain-field w.contents f (ap (λ (g : Fault). g.rec) first.place), refl)
  read-refused looked (refusal.Fault f) (inr m) = (in_meaning (create_index m.statement) m.spelled (inl m.means), plain-field w.contents f (fault-plain w.contents m.statement f m.means), refl)
  read-refused looked refusal.Memory h = inl refl

  module _ (r : IndexMeant) (m : IsIndexMeaning w.contents text tokens (Ok r)) where
    -- what the catalogue accepts
    carrying : (looked looked' : ℕ) → IsAcceptableIndex w.contents r.name r.index → looked' ≤ looked + length (stored_at w r.index.table).rows → IsCarrying w text tokens (build r.name r.index) (end_of tokens) looked looked'
    carrying looked looked' accepted within = record {
      read = record { statement = create_index m.statement; spelled = m.spelled; does = (r, m.means, accepted, refl, refl) };
      looks = length (stored_at w r.index.table).rows;
      reply = refl;
      within = within;
    }

    pub made : (w' : World) (next looked looked' : ℕ) → next ≡ end_of tokens → IsAcceptableIndex w.contents r.name r.index → looked' ≤ looked + length (stored_at w r.index.table).rows → w' ≡ after w (build r.name r.index) →
        IsDefined w w' text tokens next looked looked'
    made w' next looked looked' at accepted within is =
        (build r.name r.index, subst (λ n. IsCarrying w text tokens (build r.name r.index) n looked looked') (sym at) (carrying looked looked' accepted within), is)

    -- what it refuses
    fault-by : (looked looked' : ℕ) (e : CatalogFault) (f : Fault) → IsIndexRefusal w.contents r.name r.index e → index_fault e r.at r.method tokens ≡ Some f → f.rec ≡ 0 → looked' ≡ looked → Refuses (ends.Fault f) w text tokens looked looked'
    fault-by looked looked' e f h told none same = (in_meaning (create_index m.statement) m.spelled (inr (r, e, m.means, h, told)), plain-field w.contents f none, same)

    told : (looked looked' : ℕ) (e : CatalogFault) → IsIndexRefusal w.contents r.name r.index e → (e ≢ refused.Memory → looked' ≡ looked) → looked' ≤ looked + length (stored_at w r.index.table).rows →
        Refuses (end_by (index_fault e r.at r.method tokens)) w text tokens looked looked'
    told looked looked' refused.NameTaken h unread within = fault-by looked looked' refused.NameTaken _ h refl refl (unread (λ e. cc (e)))
    told looked looked' (refused.ColumnTwice place) h unread within = fault-by looked looked' (refused.ColumnTwice place) _ h refl refl (unread (λ e. cc (e)))
    told looked looked' refused.TooMany h unread within = fault-by looked looked' refused.TooMany _ h refl refl (unread (λ e. cc (e)))
    told looked looked' (refused.BadNumber place) h unread within = fault-by looked looked' (refused.BadNumber place) _ h refl refl (unread (λ e. cc (e)))
    told looked looked' refused.Memory h unread within = inr (build r.name r.index, end_of tokens, carrying looked looked' h within)

    pub refused-as : (looked looked' : ℕ) (e : CatalogFault) (at : List ℕ) (end : End) → IsIndexRefusal w.contents r.name r.index e → (e ≢ refused.Memory → looked' ≡ looked) → looked' ≤ looked + length (stored_at w r.index.table).rows →
        at ≡ r.at → end ≡ end_by (index_fault e at r.method tokens) → Refuses end w text tokens looked looked'
    refused-as looked looked' e at end h unread within same is =
        subst (λ (x : End). Refuses x w text tokens looked looked') (sym (is ∙ ap (λ (l : List ℕ). end_by (index_fault e l r.method tokens)) same)) (told looked looked' e h unread within)
