-- Clauses of a table with their numbers, in the order of these. Own.
use Rattle.std.specs.Prelude.{ℕ, Bool, ◌||◌, nat_eq, List, map, filter}
use Rattle.std.specs.List.{list_any, enumerate_from}
use Rattle.pg_expr.specs.Cond.{Cond}
use Rattle.eq_classes.specs.Clauses.{Set, Clause, ClassTable}
use Rattle.eq_classes.specs.Parts.{is_base, is_param}

-- a condition with its number
pub record Numbered : Type 0 where
  pub number : ℕ
  pub cond : Cond

-- a condition with the number that stands before it in a pair
abbrev pub numbered : ℕ × Cond → Numbered
numbered p = record { number = p.0; cond = p.1 }

-- conditions numbered from 0
abbrev pub numbered_from_0 : List Cond → List Numbered
numbered_from_0 es = map numbered (enumerate_from 0 es)

-- the clauses that pass a test
abbrev pub those : ClassTable → (Clause → Bool) → List Numbered
those t test = map (λ (p : ℕ × Clause). numbered (p.0, p.1.cond)) (filter (λ (p : ℕ × Clause). test p.1) (enumerate_from 0 t.clauses))

-- a number is that of a condition of a list
abbrev pub has_number : List Numbered → ℕ → Bool
has_number cs n = list_any (λ (c : Numbered). nat_eq n c.number) cs

-- a condition is one of the chosen, by its number alone
abbrev pub is_one_of_chosen : List Numbered → Numbered → Bool
is_one_of_chosen chosen c = has_number chosen c.number

-- numbered conditions without their numbers
abbrev pub conditions_of : List Numbered → List Cond
conditions_of cs = map (λ (c : Numbered). c.cond) cs

-- the clauses over a relation alone; those and the clauses with the relations of a parameterisation
abbrev pub base : ClassTable → ℕ → List Numbered
base t r = those t (is_base r)

-- all clauses that a scan of a relation tests, where it is given rows of the relations of a set
abbrev pub local : ClassTable → ℕ → Set → List Numbered
local t r p = those t (λ k. is_base r k || is_param r p k)
