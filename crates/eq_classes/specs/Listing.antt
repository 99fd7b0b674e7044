-- What a `Classes` stands for: the clause of an entry, the relations that it names, and the table of them all. Own.
use Rattle.std.specs.Prelude.{Option, Some, None, ℕ, false, List, [], slice_index_or}
use Rattle.opfamily.specs.pg_value_operators_Family_TheVariants.{Integer}
use Rattle.opfamily.specs.pg_value_operators_Truth_TheVariants.{True}
use Rattle.pg_expr.specs.Cond.{const}
use Rattle.eq_classes.specs.Classes.{Class}
use Rattle.eq_classes.specs.Clauses.{ClauseSource, by_conjunct, by_pair, Clause, clause}

-- a class of no columns: what stands where a number is none of a class
abbrev pub blank : Class
blank = record { family = Integer; members = []; constants = []; descending = false; nulls_first = false }

-- the class of a number
abbrev pub class_at : List Class → ℕ → Class
class_at cs n = slice_index_or cs n blank

-- the clause of a number
abbrev pub clause_at : List Clause → ℕ → Clause
clause_at ks n = slice_index_or ks n (clause (const True) (by_conjunct 0))

-- the conjunct of a clause, or none where a class makes it
abbrev pub conjunct_of : ClauseSource → Option ℕ
conjunct_of (by_conjunct n) = Some n
conjunct_of s = None

-- the class of which a clause is a pair clause, or none
abbrev pub pair_class_of : ClauseSource → Option ℕ
pair_class_of (by_pair n c l h) = Some n
pair_class_of s = None
