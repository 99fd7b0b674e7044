-- By which rules a condition can be implied, by the kinds of the clause and of the predicate.
use Rattle.std.proofs.Common.{◌≡◌, Bool, true, false, IsTrue, List, refl}
use Rattle.std.specs.Prelude.{◌↔◌}
use Rattle.pg_value.specs.declared.columns.Column.{Column}
use Rattle.pg_expr.specs.declared.operand.Operand.TheVariants.{Col, Lit}
use Rattle.pg_expr.specs.Cond.{Cond, compare, is_null, is_not_null, bool_col, const, all_of, any_of, negation, Conds}
use Rattle.predicate_proof.specs.Atoms.{is_any, is_atom, SameAtom}
use Rattle.predicate_proof.specs.work.Atoms.{is_all, ComparisonGives}
use Rattle.predicate_proof.specs.Derivation.{Implies, each_part, each_arm, arm_by_arm, atom_to_part, part_to_atom, all_to_part, part_to_any, same, not_null, by_table, ImpliesAll, ImpliesSome, AllImply, SomeImplies, EachImpliesSome}

pub atom_of_kind : (c : Cond) → is_any c ≡ false → is_all c ≡ false → is_atom c ≡ true
atom_of_kind (all_of cs) h k = cc
atom_of_kind (any_of cs) h k = cc
atom_of_kind (compare op l r) h k = refl
atom_of_kind (is_null c) h k = refl
atom_of_kind (is_not_null c) h k = refl
atom_of_kind (bool_col c) h k = refl
atom_of_kind (const t) h k = refl
atom_of_kind (negation c) h k = refl

no_group : (c : Cond) (ps : Conds) → SameAtom c (all_of ps) → ⊥
no_group (compare op l r) ps h = h
no_group (is_null c) ps h = h
no_group (is_not_null c) ps h = h
no_group (bool_col c) ps h = h
no_group (const t) ps h = h
no_group (all_of cs) ps h = h
no_group (any_of cs) ps h = h
no_group (negation c) ps h = h

no_or_group : (c : Cond) (ps : Conds) → SameAtom c (any_of ps) → ⊥
no_or_group (compare op l r) ps h = h
no_or_group (is_null c) ps h = h
no_or_group (is_not_null c) ps h = h
no_or_group (bool_col c) ps h = h
no_or_group (const t) ps h = h
no_or_group (all_of cs) ps h = h
no_or_group (any_of cs) ps h = h
no_or_group (negation c) ps h = h

no_or_of_atom : (c : Cond) → is_atom c ≡ true → is_any c ≡ false
no_or_of_atom (all_of cs) h = refl
no_or_of_atom (any_of cs) h = cc
no_or_of_atom (compare op l r) h = refl
no_or_of_atom (is_null c) h = refl
no_or_of_atom (is_not_null c) h = refl
no_or_of_atom (bool_col c) h = refl
no_or_of_atom (const t) h = refl
no_or_of_atom (negation c) h = refl

module _ (columns : List Column) where
  -- against an AND
  all-from_any : (r : Bool) (cs ps : Conds) → (IsTrue false ↔ ImpliesAll columns (any_of cs) ps) → (IsTrue r ↔ AllImply columns cs (all_of ps)) →
      Implies columns (any_of cs) (all_of ps) → IsTrue r
  all-from_any r cs ps never arms (each_part _ _ all) = absurd (cc (never.1 all))
  all-from_any r cs ps never arms (each_arm _ _ _ all) = arms.1 all
  all-from_any r cs ps never arms (same _ _ equal) = absurd equal

  all-from_other : (c : Cond) (ps : Conds) → is_any c ≡ false → Implies columns c (all_of ps) → ImpliesAll columns c ps
  all-from_other c ps other (each_part _ _ all) = all
  all-from_other c ps other (each_arm _ _ _ all) = cc
  all-from_other c ps other (part_to_atom _ _ atom some) = cc
  all-from_other c ps other (same _ _ equal) = absurd (no_group c ps equal)

  pub all-each : (c g : Cond) (ps : Conds) → g ≡ all_of ps → (IsTrue true ↔ ImpliesAll columns c ps) → (IsTrue true ↔ Implies columns c g)
  all-each c g ps e all = rw e (λ h. each_part c ps (all.0 h), λ d. refl)

  pub all-arms : (r : Bool) (c g : Cond) (cs ps : Conds) → c ≡ any_of cs → g ≡ all_of ps → (IsTrue false ↔ ImpliesAll columns c ps) → (IsTrue r ↔ AllImply columns cs g) →
      (IsTrue r ↔ Implies columns c g)
  all-arms r c g cs ps f e never arms = rw (f, e) (λ h. each_arm cs (all_of ps) refl ((rw e at arms).0 h), all-from_any r cs ps (rw f at never) (rw e at arms))

  pub all-never : (c g : Cond) (ps : Conds) → is_any c ≡ false → g ≡ all_of ps → (IsTrue false ↔ ImpliesAll columns c ps) → (IsTrue false ↔ Implies columns c g)
  all-never c g ps other e never = rw e (λ h. absurd (cc h), λ d. never.1 (all-from_other c ps other d))

  -- against an OR
  any-from_any : (cs ps : Conds) → Implies columns (any_of cs) (any_of ps) → EachImpliesSome columns cs ps
  any-from_any cs ps (each_arm _ _ never all) = cc
  any-from_any cs ps (arm_by_arm _ _ each) = each
  any-from_any cs ps (atom_to_part _ _ atom some) = cc
  any-from_any cs ps (same _ _ equal) = absurd equal

  any-from_all : (r : Bool) (cs ps : Conds) → (IsTrue false ↔ ImpliesSome columns (all_of cs) ps) → (IsTrue r ↔ SomeImplies columns cs (any_of ps)) →
      Implies columns (all_of cs) (any_of ps) → IsTrue r
  any-from_all r cs ps never some (atom_to_part _ _ atom part) = cc
  any-from_all r cs ps never some (part_to_atom _ _ atom one) = cc
  any-from_all r cs ps never some (all_to_part _ _ part) = absurd (cc (never.1 part))
  any-from_all r cs ps never some (part_to_any _ _ one) = some.1 one
  any-from_all r cs ps never some (same _ _ equal) = absurd equal

  any-from_atom : (c : Cond) (ps : Conds) → is_any c ≡ false → is_all c ≡ false → Implies columns c (any_of ps) → ImpliesSome columns c ps
  any-from_atom c ps no_or no_and (each_arm _ _ never all) = cc
  any-from_atom c ps no_or no_and (arm_by_arm _ _ each) = cc
  any-from_atom c ps no_or no_and (atom_to_part _ _ atom part) = part
  any-from_atom c ps no_or no_and (part_to_atom _ _ atom one) = cc
  any-from_atom c ps no_or no_and (all_to_part _ _ part) = cc
  any-from_atom c ps no_or no_and (part_to_any _ _ one) = cc
  any-from_atom c ps no_or no_and (same _ _ equal) = absurd (no_or_group c ps equal)

  some-gives : (c : Cond) (ps : Conds) → is_any c ≡ false → ImpliesSome columns c ps → Implies columns c (any_of ps)
  some-gives (all_of cs) ps other part = all_to_part cs ps part
  some-gives (any_of cs) ps other part = cc
  some-gives (compare op l r) ps other part = atom_to_part (compare op l r) ps refl part
  some-gives (is_null c) ps other part = atom_to_part (is_null c) ps refl part
  some-gives (is_not_null c) ps other part = atom_to_part (is_not_null c) ps refl part
  some-gives (bool_col c) ps other part = atom_to_part (bool_col c) ps refl part
  some-gives (const t) ps other part = atom_to_part (const t) ps refl part
  some-gives (negation c) ps other part = atom_to_part (negation c) ps refl part

  pub any-arms : (r : Bool) (c g : Cond) (cs ps : Conds) → c ≡ any_of cs → g ≡ any_of ps → (IsTrue r ↔ EachImpliesSome columns cs ps) → (IsTrue r ↔ Implies columns c g)
  any-arms r c g cs ps f e each = rw (f, e) (λ h. arm_by_arm cs ps (each.0 h), λ d. each.1 (any-from_any cs ps d))

  pub any-some : (c g : Cond) (ps : Conds) → is_any c ≡ false → g ≡ any_of ps → (IsTrue true ↔ ImpliesSome columns c ps) → (IsTrue true ↔ Implies columns c g)
  any-some c g ps other e some = rw e (λ h. some-gives c ps other (some.0 h), λ d. refl)

  pub any-parts : (r : Bool) (c g : Cond) (cs ps : Conds) → c ≡ all_of cs → g ≡ any_of ps → (IsTrue false ↔ ImpliesSome columns c ps) → (IsTrue r ↔ SomeImplies columns cs g) →
      (IsTrue r ↔ Implies columns c g)
  any-parts r c g cs ps f e never some = rw (f, e) (λ h. part_to_any cs ps ((rw e at some).0 h), any-from_all r cs ps (rw f at never) (rw e at some))

  pub any-never : (c g : Cond) (ps : Conds) → is_any c ≡ false → is_all c ≡ false → g ≡ any_of ps → (IsTrue false ↔ ImpliesSome columns c ps) → (IsTrue false ↔ Implies columns c g)
  any-never c g ps no_or no_and e never = rw e (λ h. absurd (cc h), λ d. never.1 (any-from_atom c ps no_or no_and d))

  -- against an atom
  atom-from_any : (cs : Conds) (g : Cond) → is_atom g ≡ true → Implies columns (any_of cs) g → AllImply columns cs g
  atom-from_any cs g atom (each_part _ _ all) = cc
  atom-from_any cs g atom (each_arm _ _ _ all) = all
  atom-from_any cs g atom (arm_by_arm _ _ each) = cc
  atom-from_any cs g atom (atom_to_part _ _ never part) = cc
  atom-from_any cs g atom (same _ _ equal) = absurd equal

  atom-from_all : (cs : Conds) (g : Cond) → is_atom g ≡ true → Implies columns (all_of cs) g → SomeImplies columns cs g
  atom-from_all cs g atom (each_part _ _ all) = cc
  atom-from_all cs g atom (atom_to_part _ _ never part) = cc
  atom-from_all cs g atom (part_to_atom _ _ _ one) = one
  atom-from_all cs g atom (all_to_part _ _ part) = cc
  atom-from_all cs g atom (part_to_any _ _ one) = cc
  atom-from_all cs g atom (same _ _ equal) = absurd equal

  atom-from_atom : (r : Bool) (c g : Cond) → is_any c ≡ false → is_all c ≡ false → is_atom g ≡ true → (IsTrue false ↔ SameAtom c g) → (IsTrue r ↔ ComparisonGives columns c g) →
      Implies columns c g → IsTrue r
  atom-from_atom r c g no_or no_and atom never other (each_part _ _ all) = cc
  atom-from_atom r c g no_or no_and atom never other (each_arm _ _ _ all) = cc
  atom-from_atom r c g no_or no_and atom never other (arm_by_arm _ _ each) = cc
  atom-from_atom r c g no_or no_and atom never other (atom_to_part _ _ _ part) = cc
  atom-from_atom r c g no_or no_and atom never other (part_to_atom _ _ _ one) = cc
  atom-from_atom r c g no_or no_and atom never other (all_to_part _ _ part) = cc
  atom-from_atom r c g no_or no_and atom never other (part_to_any _ _ one) = cc
  atom-from_atom r c g no_or no_and atom never other (same _ _ equal) = absurd (cc (never.1 equal))
  atom-from_atom r c g no_or no_and atom never other (not_null _ _ _ _ names) = other.1 names
  atom-from_atom r c g no_or no_and atom never other (by_table _ _ _ _ _ _ table) = other.1 table

  comparison-gives : (c g : Cond) → ComparisonGives columns c g → Implies columns c g
  comparison-gives (compare op l r) (is_not_null d) h = not_null op l r d h
  comparison-gives (compare op (Col c) (Lit v)) (compare other (Col d) (Lit w)) h = by_table op c v other d w h
  comparison-gives c g h = absurd h

  pub atom-arms : (r : Bool) (c g : Cond) (cs : Conds) → c ≡ any_of cs → is_atom g ≡ true → (IsTrue r ↔ AllImply columns cs g) → (IsTrue r ↔ Implies columns c g)
  atom-arms r c g cs f atom all = rw f (λ h. each_arm cs g (no_or_of_atom g atom) (all.0 h), λ d. all.1 (atom-from_any cs g atom d))

  pub atom-parts : (r : Bool) (c g : Cond) (cs : Conds) → c ≡ all_of cs → is_atom g ≡ true → (IsTrue r ↔ SomeImplies columns cs g) → (IsTrue r ↔ Implies columns c g)
  atom-parts r c g cs f atom some = rw f (λ h. part_to_atom cs g atom (some.0 h), λ d. some.1 (atom-from_all cs g atom d))

  pub atom-same : (c g : Cond) → (IsTrue true ↔ SameAtom c g) → (IsTrue true ↔ Implies columns c g)
  atom-same c g equal = (λ h. same c g (equal.0 h), λ d. refl)

  pub atom-comparison : (r : Bool) (c g : Cond) → is_any c ≡ false → is_all c ≡ false → is_atom g ≡ true → (IsTrue false ↔ SameAtom c g) → (IsTrue r ↔ ComparisonGives columns c g) →
      (IsTrue r ↔ Implies columns c g)
  atom-comparison r c g no_or no_and atom never other = (λ h. comparison-gives c g (other.0 h), atom-from_atom r c g no_or no_and atom never other)

  -- an AND against each kind
  pub list-all : (r : Bool) (cs : Conds) (g : Cond) (ps : Conds) → g ≡ all_of ps → (IsTrue r ↔ ImpliesAll columns (all_of cs) ps) → (IsTrue r ↔ Implies columns (all_of cs) g)
  list-all r cs g ps e all = rw e (λ h. each_part (all_of cs) ps (all.0 h), λ d. all.1 (all-from_other (all_of cs) ps refl d))

  list-gives-at : (cs : Conds) (g : Cond) → is_all g ≡ false → SomeImplies columns cs g → Implies columns (all_of cs) g
  list-gives-at cs (all_of ps) other one = cc
  list-gives-at cs (any_of ps) other one = part_to_any cs ps one
  list-gives-at cs (compare op l r) other one = part_to_atom cs (compare op l r) refl one
  list-gives-at cs (is_null c) other one = part_to_atom cs (is_null c) refl one
  list-gives-at cs (is_not_null c) other one = part_to_atom cs (is_not_null c) refl one
  list-gives-at cs (bool_col c) other one = part_to_atom cs (bool_col c) refl one
  list-gives-at cs (const t) other one = part_to_atom cs (const t) refl one
  list-gives-at cs (negation c) other one = part_to_atom cs (negation c) refl one

  pub list-gives : (cs : Conds) (g : Cond) → is_all g ≡ false → (IsTrue true ↔ SomeImplies columns cs g) → (IsTrue true ↔ Implies columns (all_of cs) g)
  list-gives cs g other one = (λ h. list-gives-at cs g other (one.0 h), λ d. refl)

  list-from_any : (r : Bool) (cs ps : Conds) → (IsTrue false ↔ SomeImplies columns cs (any_of ps)) → (IsTrue r ↔ ImpliesSome columns (all_of cs) ps) → Implies columns (all_of cs) (any_of ps) → IsTrue r
  list-from_any r cs ps never some (atom_to_part _ _ atom part) = cc
  list-from_any r cs ps never some (part_to_atom _ _ atom one) = cc
  list-from_any r cs ps never some (all_to_part _ _ part) = some.1 part
  list-from_any r cs ps never some (part_to_any _ _ one) = absurd (cc (never.1 one))
  list-from_any r cs ps never some (same _ _ equal) = absurd equal

  pub list-some : (r : Bool) (cs : Conds) (g : Cond) (ps : Conds) → g ≡ any_of ps → (IsTrue false ↔ SomeImplies columns cs g) → (IsTrue r ↔ ImpliesSome columns (all_of cs) ps) → (IsTrue r ↔ Implies columns (all_of cs) g)
  list-some r cs g ps e never some = rw e (λ h. all_to_part cs ps (some.0 h), list-from_any r cs ps (rw e at never) some)

  pub list-never : (cs : Conds) (g : Cond) → is_all g ≡ false → is_any g ≡ false → (IsTrue false ↔ SomeImplies columns cs g) → (IsTrue false ↔ Implies columns (all_of cs) g)
  list-never cs g no_and no_or never = (λ h. absurd (cc h), λ d. never.1 (atom-from_all cs g (atom_of_kind g no_or no_and) d))
