-- Kept paths, and entries for them. Own.
use Rattle.std.specs.Prelude.{◌≡◌, ℕ, true, List, [], ◌∷◌, ◌++◌, All, AllPairs, Contains, Option, Some}
use Rattle.catalog.specs.Contents.{Contents}
use Rattle.sql_query.specs.Queries.{Query, width}
use Rattle.plan_tree.specs.Plans.{Plan}
use Rattle.plan_tree.specs.Least.{IsAdmissible, Dominates}
use Rattle.plan_tree.specs.work.Paths.{Path, IsPathOf}
use Rattle.plan_check.specs.plan_laws_Closed.{AreKeptSides, IsUndercut, is_scan}
use Rattle.plan_tree.specs.Space.{IsBuilt}
use Rattle.plan_check.specs.Certificates.{Entry, Certificate, plan_of}

-- the plan of one of some paths
pub record IsPlanOfSome (paths : List Path) (p : Plan) : Type 0 where
  pub path : Path
  pub is_there : Contains paths path
  pub is_plan : path.tree ≡ p

module _ (c : Contents) (q : Query) where
  -- an admissible path of the query
  pub record IsKeptPath (x : Path) : Type 0 where
    pub is_path : IsPathOf c q x
    pub admissible : IsAdmissible c q x.tree

  -- admissible paths, of which none dominates another, and which dominate each admissible scan and each admissible join of
  -- their plans
  pub record AreKept (paths : List Path) : Type 0 where
    pub paths_are : All IsKeptPath paths
    pub apart : AllPairs (λ a b. ¬ Dominates c q a.tree b.tree × ¬ Dominates c q b.tree a.tree) paths
    pub scans : (p : Plan) → is_scan p ≡ true → IsBuilt c q p → IsAdmissible c q p → IsUndercut c q (IsPlanOfSome paths) p
    pub joins : (p : Plan) → AreKeptSides c q (IsPlanOfSome paths) p → IsBuilt c q p → IsAdmissible c q p → IsUndercut c q (IsPlanOfSome paths) p

-- an entry says what a path does, and stands for its plan over the plans of the entries before it
pub record IsEntryOf (n : ℕ) (before : List (Option Plan)) (e : Entry) (x : Path) : Type 0 where
  pub set : e.set ≡ x.set
  pub param : e.param ≡ x.param
  pub startup : e.startup ≡ x.startup
  pub cost : e.cost ≡ x.cost
  pub rows : e.rows ≡ x.rows
  pub keys : e.keys ≡ x.keys
  pub plan : plan_of n before e ≡ Some x.tree

-- entries for paths, one for each in order
abbrev pub AreEntriesOf : ℕ → List (Option Plan) → List Entry → List Path → Type 0
AreEntriesOf n before [] [] = Unit {0}
AreEntriesOf n before (e ∷ es) (x ∷ xs) = IsEntryOf n before e x × AreEntriesOf n (before ++ Some x.tree ∷ []) es xs
AreEntriesOf n before _ _ = ⊥

-- a certificate has exactly an entry for each of some paths, in their order
abbrev pub AreOf : Query → Certificate → List Path → Type 0
AreOf q t paths = AreEntriesOf (width q) [] t.entries paths
