-- What a condition implies, by these rules alone. Own, in the manner of PostgreSQL's predtest.c (predicate_implied_by).
use Rattle.std.specs.Prelude.{◌≡◌, true, false, List, IsTrue}
use Rattle.pg_value.specs.declared.columns.Column.{Column}
use Rattle.pg_value.specs.declared.operators.Op.{Op}
use Rattle.pg_value.specs.declared.value.Value.{Value}
use Rattle.pg_expr.specs.declared.operand.ColRef.{ColRef}
use Rattle.pg_expr.specs.declared.operand.Operand.{Operand}
use Rattle.pg_expr.specs.declared.operand.Operand.TheVariants.{Col, Lit}
use Rattle.pg_expr.specs.Columns.{some_column}
use Rattle.pg_expr.specs.Cond.{Cond, compare, is_not_null, all_of, any_of, Conds, no_conds, cond_and, conds_of}
use Rattle.predicate_proof.specs.Atoms.{is_any, is_atom, has_column_number, SameAtom, TableGives}

mutual
  -- the clause implies the predicate, over these columns
  pub data Implies (columns : List Column) : Cond → Cond → Type 0 where
    -- an AND predicate: the clause implies each part
    each_part : (c : Cond) (ps : Conds) → ImpliesAll columns c ps → Implies columns c (all_of ps)
    -- an OR clause against a predicate that is no OR: each of its parts implies the predicate
    each_arm : (cs : Conds) (p : Cond) → is_any p ≡ false → AllImply columns cs p → Implies columns (any_of cs) p
    -- an OR clause against an OR: each part of the clause implies some part of the predicate
    arm_by_arm : (cs ps : Conds) → EachImpliesSome columns cs ps → Implies columns (any_of cs) (any_of ps)
    -- an atom against an OR: it implies some part
    atom_to_part : (c : Cond) (ps : Conds) → is_atom c ≡ true → ImpliesSome columns c ps → Implies columns c (any_of ps)
    -- an AND against an atom: some part of the AND implies it
    part_to_atom : (cs : Conds) (p : Cond) → is_atom p ≡ true → SomeImplies columns cs p → Implies columns (all_of cs) p
    -- an AND against an OR: the AND implies some part of the OR
    all_to_part : (cs ps : Conds) → ImpliesSome columns (all_of cs) ps → Implies columns (all_of cs) (any_of ps)
    -- an AND against an OR: some part of the AND implies the whole OR
    part_to_any : (cs ps : Conds) → SomeImplies columns cs (any_of ps) → Implies columns (all_of cs) (any_of ps)
    -- equal atoms
    same : (c p : Cond) → SameAtom c p → Implies columns c p
    -- a comparison implies IS NOT NULL of each column in it
    not_null : (op : Op) (l r : Operand) (d : ColRef) → IsTrue (some_column (has_column_number d.col) (compare op l r)) → Implies columns (compare op l r) (is_not_null d)
    -- the table of operators
    by_table : (op : Op) (c : ColRef) (v : Value) (other : Op) (d : ColRef) (w : Value) → TableGives columns op c.col v other d.col w → Implies columns (compare op (Col c) (Lit v)) (compare other (Col d) (Lit w))

  -- the clause implies each predicate of a list
  pub data ImpliesAll (columns : List Column) : Cond → Conds → Type 0 where
    no_part : (c : Cond) → ImpliesAll columns c no_conds
    part_and : (c p : Cond) (ps : Conds) → Implies columns c p → ImpliesAll columns c ps → ImpliesAll columns c (cond_and p ps)

  -- the clause implies one predicate of a list
  pub data ImpliesSome (columns : List Column) : Cond → Conds → Type 0 where
    this_part : (c p : Cond) (ps : Conds) → Implies columns c p → ImpliesSome columns c (cond_and p ps)
    later_part : (c p : Cond) (ps : Conds) → ImpliesSome columns c ps → ImpliesSome columns c (cond_and p ps)

  -- each clause of a list implies the predicate
  pub data AllImply (columns : List Column) : Conds → Cond → Type 0 where
    no_arm : (p : Cond) → AllImply columns no_conds p
    arm_and : (c p : Cond) (cs : Conds) → Implies columns c p → AllImply columns cs p → AllImply columns (cond_and c cs) p

  -- one clause of a list implies the predicate
  pub data SomeImplies (columns : List Column) : Conds → Cond → Type 0 where
    this_clause : (c p : Cond) (cs : Conds) → Implies columns c p → SomeImplies columns (cond_and c cs) p
    later_clause : (c p : Cond) (cs : Conds) → SomeImplies columns cs p → SomeImplies columns (cond_and c cs) p

  -- each clause of a list implies one predicate of another
  pub data EachImpliesSome (columns : List Column) : Conds → Conds → Type 0 where
    no_choice : (ps : Conds) → EachImpliesSome columns no_conds ps
    choice_and : (c : Cond) (cs ps : Conds) → ImpliesSome columns c ps → EachImpliesSome columns cs ps → EachImpliesSome columns (cond_and c cs) ps

-- a list of clauses, which is an AND, implies the predicate
abbrev pub IsImplied : List Column → List Cond → Cond → Type 0
IsImplied columns clauses p = Implies columns (all_of (conds_of clauses)) p
