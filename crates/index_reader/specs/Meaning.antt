-- What CREATE INDEX means over a catalogue, or its first fault: names from the left, then the condition, then the limits of
-- columns and of atoms (PostgreSQL manual, CREATE INDEX; codes: appendix Error Codes; the limits are own).
use Rattle.std.specs.Prelude.{ℕ, Bool, false, cond, nat_lt, List, [], ◌∷◌, ◌++◌, drop, map, Option, Some, None, Result, Ok, Err}
use Rattle.pg_base.specs.declared.numbers.TableNo.{TableNo}
use Rattle.pg_base.specs.declared.faults.Code.TheVariants.{S15}
use Rattle.pg_base.specs.declared.faults.Limit.TheVariants.{Atoms, Columns}
use Rattle.pg_base.specs.declared.faults.Fault.{Fault}
use Rattle.pg_base.specs.declared.limits.TheConstants.{MOST_ATOMS, MOST_COLUMNS}
use Rattle.pg_expr.specs.Columns.{atom_count}
use Rattle.pg_expr.specs.Cond.{Cond}
use Rattle.pg_expr.specs.Pushed.{pushed}
use Rattle.sql_lex.specs.declared.tokens.Token.{Token}
use Rattle.sql_grammar.specs.Terminals.{Ident, token_of}
use Rattle.sql_grammar.specs.Syntax.{Where, no_where, where_expr, Cand, cand_on, CreateIndex, index_on}
use Rattle.sql_grammar.specs.Faults.{bytes_of, fault_at}
use Rattle.catalog.specs.Contents.{Contents}
use Rattle.catalog.specs.Indexes.{Index}
use Rattle.expr_reader.specs.Conditions.{meaning_of_expr, next}
use Rattle.expr_reader.specs.Lists.{bound_each}
use Rattle.ddl_reader.specs.Statistics.{table_of_name}
use Rattle.index_reader.specs.declared.keys.KeyRead.{KeyRead}
use Rattle.index_reader.specs.declared.names.NamedColumn.{NamedColumn}
use Rattle.index_reader.specs.declared.methods.MethodRead.{MethodRead}
use Rattle.index_reader.specs.Keys.{method_bound, key_bound, all_key_trees, name_bound, include_names}
use Rattle.index_reader.specs.Visible.{Sight, visible_in, sight_type}

-- a new index by its name, with the offsets of the words at which the catalogue's refusals stand
pub record IndexMeant : Type 0 where
  pub name : List ℕ
  pub index : Index
  pub at : List ℕ
  pub method : ℕ

-- the condition, in pushed form, over the columns of the table alone
abbrev pub condition_bound : Sight → Where → Result (Option Cond) Fault
condition_bound s no_where = Ok None
condition_bound s (where_expr _ e) = next (meaning_of_expr (visible_in s) (sight_type s) e) (λ c. Ok (Some (pushed false c)))

-- the tokens of the key columns' names, and then of those of INCLUDE
abbrev pub name_tokens : List KeyRead → List NamedColumn → List Token
name_tokens keys names = map (λ k. k.token) keys ++ map (λ n. n.token) names

-- the first name too many is an error
abbrev pub limited_names : {A : Type 0} → List Token → Result A Fault → Result A Fault
limited_names [] r = r
limited_names (token ∷ _) r = Err (fault_at (S15 Columns) token)

-- the condition has more atoms than a statement may have
abbrev pub has_many_atoms : Option Cond → Bool
has_many_atoms None = false
has_many_atoms (Some c) = nat_lt MOST_ATOMS (atom_count c)

-- a new index, all of whose words are bound
abbrev pub index_reading : Ident → TableNo → MethodRead → List KeyRead → List NamedColumn → Option Cond → IndexMeant
index_reading n t m keys names predicate = record {
  name = bytes_of n;
  index = record { table = t; method = m.method; keys = map (λ k. k.key) keys; include = map (λ x. x.col) names; predicate = predicate };
  at = (token_of n).start ∷ map (λ u. u.start) (name_tokens keys names);
  method = m.at;
}

-- within the limits: of columns, at the first name too many, then of atoms, at the statement's first token
abbrev pub within_limits : Token → Ident → TableNo → MethodRead → List KeyRead → List NamedColumn → Option Cond → Result IndexMeant Fault
within_limits start n t m keys names predicate =
    limited_names (drop MOST_COLUMNS (name_tokens keys names))
    (cond (has_many_atoms predicate) (Err (fault_at (S15 Atoms) start)) (Ok (index_reading n t m keys names predicate)))

-- what a candidate for an index means, in a statement that begins at this token
abbrev pub meaning_of_cand : Contents → Token → Cand → Result IndexMeant Fault
meaning_of_cand cat start (cand_on n _ of u _ x xs _ c w) =
    next (table_of_name cat of) (λ t.
    next (method_bound u) (λ m.
    next (bound_each (key_bound cat t m.method) (all_key_trees x xs)) (λ keys.
    next (bound_each (name_bound cat t) (include_names c)) (λ names.
    next (condition_bound (record { contents = cat; table = t; alias = bytes_of of }) w) (λ predicate.
    within_limits start n t m keys names predicate)))))

-- what CREATE INDEX means: what stands behind its first two words, in a statement that begins at its first one
abbrev pub meaning_of_index : Contents → CreateIndex → Result IndexMeant Fault
meaning_of_index cat (index_on start _ n o of u p x xs m c w _) = meaning_of_cand cat start (cand_on n o of u p x xs m c w)
