use Rattle.std.proofs.Common.{◌≡◌, List, true, refl}
use Rattle.pg_value.specs.declared.columns.Column.{Column}
use Rattle.pg_expr.specs.Cond.{Cond, all_of, any_of, Conds, no_conds, cond_and}
use Rattle.predicate_proof.specs.Derivation.{Implies, each_part, atom_to_part, part_to_atom, all_to_part, part_to_any, same, ImpliesAll, part_and, ImpliesSome, this_part, later_part, SomeImplies}
use Rattle.predicate_proof.specs.work.Derivation.{IsFilled, AreFilled}
use Rattle.predicate_proof.specs.Atoms.{is_atom}
use Rattle.predicate_proof.proofs.Lists.{no_some_clause}
use Rattle.predicate_proof.proofs.implication.no_clauses_imply_nothing.Goals as goal

module _ (columns : List Column) where
  -- by which rules nothing could imply a condition
  all_of_them : (ps : Conds) → Implies columns (all_of no_conds) (all_of ps) → ImpliesAll columns (all_of no_conds) ps
  all_of_them ps (each_part _ _ all) = all
  all_of_them ps (part_to_atom _ _ atom one) = cc
  all_of_them ps (same _ _ equal) = absurd equal

  some_of_them : (ps : Conds) → Implies columns (all_of no_conds) (any_of ps) → ImpliesSome columns (all_of no_conds) ps
  some_of_them ps (atom_to_part _ _ atom part) = cc
  some_of_them ps (part_to_atom _ _ atom one) = cc
  some_of_them ps (all_to_part _ _ part) = part
  some_of_them ps (part_to_any _ _ one) = absurd (no_some_clause columns _ one)
  some_of_them ps (same _ _ equal) = absurd equal

  atom_of_them : (p : Cond) → is_atom p ≡ true → Implies columns (all_of no_conds) p → SomeImplies columns no_conds p
  atom_of_them p atom (each_part _ _ all) = cc
  atom_of_them p atom (atom_to_part _ _ kind part) = cc
  atom_of_them p atom (part_to_atom _ _ kind one) = one
  atom_of_them p atom (all_to_part _ _ part) = cc
  atom_of_them p atom (part_to_any _ _ one) = cc
  atom_of_them p atom (same _ _ equal) = absurd equal

  filled_any : (ps : Conds) → IsFilled (any_of ps) → AreFilled ps
  filled_any no_conds filled = absurd filled
  filled_any (cond_and p ps) filled = filled

  mutual
    nothing : (p : Cond) → IsFilled p → Implies columns (all_of no_conds) p → ⊥
    nothing (all_of ps) filled d = nothing_all ps filled (all_of_them ps d)
    nothing (any_of ps) filled d = nothing_some ps (filled_any ps filled) (some_of_them ps d)
    nothing p filled d = no_some_clause columns p (atom_of_them p refl d)

    nothing_all : (ps : Conds) → IsFilled (all_of ps) → ImpliesAll columns (all_of no_conds) ps → ⊥
    nothing_all no_conds filled all = filled
    nothing_all (cond_and p ps) filled (part_and _ _ _ one more) = nothing p filled.0 one

    nothing_some : (ps : Conds) → AreFilled ps → ImpliesSome columns (all_of no_conds) ps → ⊥
    nothing_some no_conds filled d = elim d [ ]
    nothing_some (cond_and p ps) filled (this_part _ _ _ one) = nothing p filled.0 one
    nothing_some (cond_and p ps) filled (later_part _ _ _ more) = nothing_some ps filled.1 more

pub returns : goal.returns
returns c = nothing
