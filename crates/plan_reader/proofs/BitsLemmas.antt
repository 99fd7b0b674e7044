-- A bitmap tree from its first line on.
use Rattle.std.proofs.Common.{◌≡◌, ◌+◌, ℕ, List, ◌++◌, Ok, Err}
use Rattle.std.specs.Prelude.{Option, Some, Result, IfOk, option_map}
use Rattle.catalog.specs.Contents.{Contents, IsLawful}
use Rattle.sql_query.specs.Queries.{Query}
use Rattle.plan_tree.specs.Plans.{BitTree}
use Rattle.plan_tree.specs.work.Views.{bits}
use Rattle.plan_tree.specs.declared.bits.BitTree.{BitTree as Bits}
use Rattle.plan_lines.specs.explain_Texts.{bits_text}
use Rattle.plan_lines.specs.work.Parts.{IsShallow}
use Rattle.plan_lines.specs.HasText.{HasBits}
use Rattle.plan_lines.specs.work.Lines.{beneath, tree_title}
use Rattle.plan_lines.specs.Stands.{Stands}
use Rattle.plan_lines.proofs.TreeLemmas.{IsNext, tree-item}

pub bits-read : {E : Type 0} (c : Contents) (q : Query) (lawful : IsLawful c) (d : ℕ) (left mid new line : List ℕ) (next : Option (List ℕ)) (r : Result (Option Bits) E) → IsNext (d + 1) left next mid → next ≡ Some line →
    IfOk r (λ o. (b : BitTree) (rest : List ℕ) → HasBits c q b → Stands (d + 1) b → IsShallow (d + 1) rest → line ≡ tree_title c q b → mid ≡ beneath c q (d + 1) b ++ rest → (option_map bits o ≡ Some b) × (new ≡ rest)) →
    IfOk r (λ o. (b : BitTree) (rest : List ℕ) → HasBits c q b → Stands (d + 1) b → IsShallow (d + 1) rest → left ≡ bits_text c q (d + 1) b ++ rest → (option_map bits o ≡ Some b) × (new ≡ rest))
bits-read c q lawful d left mid new line next (Ok o) step found reads = λ b rest has stands shallow e. tree-item c q lawful d left mid new line next (option_map bits o) step found reads b rest (has, stands) shallow e
bits-read c q lawful d left mid new line next (Err x) step found reads = tt
