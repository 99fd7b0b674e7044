use Rattle.std.proofs.Common.{◌≡◌, ◌++◌, drop}
use Rattle.pathkeys.specs.work.Finding.{class_numbers}
use Rattle.plan_check.specs.Plains.{keys_in}
use Rattle.check_reply.proofs.shapes.classes_in.Given as goal

abbrev pub invariant-loop-place : goal.invariant-loop-place
invariant-loop-place l = class_numbers l.classes.items ++ keys_in (drop l.place-index l.places) ≡ keys_in l.places
