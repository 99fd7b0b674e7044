-- Words that are one command are no other one.
use Rattle.std.proofs.Common.{◌≡◌, ◌↔◌, ℕ, List, Option, Some, sym, ◌∙◌}
use Rattle.pgplan.specs.declared.command.Command.{Command}
use Rattle.pgplan.specs.declared.command.Command.TheVariants.{Run, Sample}
use Rattle.pgplan.specs.Commands.{IsRunCommand, IsSampleCommand}

module _ (r : Option Command) (words : List (List ℕ)) where
  pub run-is-no-sample : r ≡ Some Run → ((n : ℕ) → (r ≡ Some (Sample n)) ↔ IsSampleCommand n words) → (n : ℕ) → IsSampleCommand n words → ⊥
  run-is-no-sample is sample n command = let e : Some Run ≡ Some (Sample n) = sym is ∙ (sample n).1 command in cc (e)

  pub sample-is-no-run : (n : ℕ) → r ≡ Some (Sample n) → ((r ≡ Some Run) ↔ IsRunCommand words) → IsRunCommand words → ⊥
  sample-is-no-run n is run command = let e : Some (Sample n) ≡ Some Run = sym is ∙ run.1 command in cc (e)

  pub same-number : (n m : ℕ) → r ≡ Some (Sample n) → ((k : ℕ) → (r ≡ Some (Sample k)) ↔ IsSampleCommand k words) → IsSampleCommand m words → n ≡ m
  same-number n m is sample command = let e : Some (Sample n) ≡ Some (Sample m) = sym is ∙ (sample m).1 command in cc (e)
