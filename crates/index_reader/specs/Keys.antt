-- The key columns of CREATE INDEX bound to a table (PostgreSQL manual, CREATE INDEX, and chapter Indexes, Operator Classes and
-- Operator Families; codes: appendix Error Codes).
use Rattle.std.specs.Prelude.{ℕ, Bool, true, false, ◌&&◌, cond, codes, find, bytes_eq, nat_eq, List, [], ◌∷◌, option_map, Option, Some, None, Result, Ok, Err}
use Rattle.std.specs.List.{list_any}
use Rattle.pg_base.specs.declared.numbers.TableNo.{TableNo}
use Rattle.pg_base.specs.declared.faults.Code.TheVariants.{S8, S10}
use Rattle.pg_base.specs.declared.faults.Fault.{Fault}
use Rattle.pg_value.specs.declared.value.SqlType.{SqlType}
use Rattle.opfamily.specs.declared.classes.Method.{Method}
use Rattle.opfamily.specs.declared.classes.Method.TheVariants.{Btree, Hash}
use Rattle.opfamily.specs.declared.classes.OpClass.{OpClass}
use Rattle.opfamily.specs.declared.classes.OpClass.TheVariants.{TextOps}
use Rattle.opfamily.specs.Answers.{accepted, class_of_name, class_place, class_scale, classes, default_class_of, has_method}
use Rattle.sql_lex.specs.declared.tokens.Token.{Token}
use Rattle.sql_grammar.specs.Terminals.{Ident, token_of}
use Rattle.sql_grammar.specs.Faults.{bytes_of, fault_at}
use Rattle.sql_grammar.specs.Syntax.{Mark, ClassTree, no_class, op_class, KeyTree, index_key, Using, no_using, using_method, Include, no_include, include_columns}
use Rattle.catalog.specs.Contents.{Contents, table_at}
use Rattle.catalog.specs.Indexes.{type_at}
use Rattle.expr_reader.specs.Conditions.{next}
use Rattle.expr_reader.specs.Lists.{further_parts}
use Rattle.expr_reader.specs.Sorts.{is_descending, has_nulls_first}
use Rattle.ddl_reader.specs.Statistics.{known, column_of_name}
use Rattle.index_reader.specs.declared.keys.KeyRead.{KeyRead}
use Rattle.index_reader.specs.declared.names.NamedColumn.{NamedColumn}
use Rattle.index_reader.specs.declared.methods.MethodRead.{MethodRead}

-- the access methods by their names
abbrev pub methods : List (List ℕ × Method)
methods = (codes "btree", Btree) ∷ (codes "hash", Hash) ∷ []

-- the access method of a name behind USING: none but these two is known
abbrev pub method_of_name : List ℕ → Option Method
method_of_name name = option_map (λ row. row.1) (find (λ row. bytes_eq row.0 name) methods)

-- the access method with the offset of its word: btree, at 0, where none is named; an unknown one is an error
abbrev pub method_bound : Using → Result MethodRead Fault
method_bound no_using = Ok (record { method = Btree; at = 0 })
method_bound (using_method k n) = next (known S8 (token_of n) (method_of_name (bytes_of n))) (λ m. Ok (record { method = m; at = (token_of n).start }))

-- the class has the method, for columns of some type
abbrev pub class_has_method : OpClass → Method → Bool
class_has_method c m = list_any (λ listed. nat_eq (class_place listed.class) (class_place c) && has_method listed m) (classes (class_scale c))

-- a class that is named: one that is unknown or has not the method is an error as an unknown one, any other that does not
-- accept the column's type as a wrong type
abbrev pub class_known : Token → Method → SqlType → Option OpClass → Result OpClass Fault
class_known token m t None = Err (fault_at S8 token)
class_known token m t (Some c) = cond (class_has_method c m) (cond (accepted c m t) (Ok c) (Err (fault_at S10 token))) (Err (fault_at S8 token))

-- the class where none is named: that of the type's default family, which each type has for each method
abbrev pub given : Option OpClass → OpClass
given None = TextOps
given (Some c) = c

-- the class of a key column of this type: the one that is named, else the default one
abbrev pub class_bound : Method → SqlType → ClassTree → Result OpClass Fault
class_bound m t no_class = Ok (given (default_class_of t m))
class_bound m t (op_class n _) = class_known (token_of n) m t (class_of_name (bytes_of n) t)

-- a key column with its name's token: its column is bound, then its operator class
abbrev pub key_bound : Contents → TableNo → Method → KeyTree → Result KeyRead Fault
key_bound cat t m (index_key n c d z) =
    next (column_of_name cat t n) (λ col.
    next (class_bound m (type_at (table_at cat t).columns col) c) (λ class. Ok (record {
      key = record { col = col; class = class; descending = is_descending d; nulls_first = has_nulls_first (is_descending d) z };
      token = token_of n;
    })))

-- all key columns
abbrev pub all_key_trees : KeyTree → List (Mark × KeyTree) → List KeyTree
all_key_trees x xs = x ∷ further_parts (λ k. k) xs

-- an INCLUDE column with its name's token
abbrev pub name_bound : Contents → TableNo → Ident → Result NamedColumn Fault
name_bound cat t n = next (column_of_name cat t n) (λ col. Ok (record { col = col; token = token_of n }))

-- all INCLUDE columns
abbrev pub include_names : Include → List Ident
include_names no_include = []
include_names (include_columns _ _ n ns _) = n ∷ further_parts (λ x. x) ns
