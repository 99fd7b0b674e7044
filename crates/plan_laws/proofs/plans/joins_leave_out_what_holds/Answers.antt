use Rattle.plan_tree.specs.Plans.{set_of}
use Rattle.plan_tree.specs.Run.{joined_tuples, run}
use Rattle.plan_laws.specs.work.Meant.{meant, joined_with}
use Rattle.plan_laws.proofs.GivingLemmas.{merge_tests, nest_rows, nest_tests, outer_holds}
use Rattle.plan_laws.proofs.PermLemmas.{to_std}
use Rattle.plan_laws.proofs.plans.joins_leave_out_what_holds.Goals as goal

pub returns-clause-nest : goal.returns-clause-nest
returns-clause-nest c = λ w q outer inner t world bound is holds. nest_tests w q world bound outer inner is t holds

pub returns-clause-merge : goal.returns-clause-merge
returns-clause-merge c = λ w q keys outer inner t world bound is holds. merge_tests w q world bound keys outer inner is t holds

pub returns-clause-rows : goal.returns-clause-rows
returns-clause-rows c = λ w q outer inner t world bound is holds.
    to_std (joined_tuples w q outer inner t (run w q inner t)) (joined_with w q (set_of outer) (set_of inner) t (meant w q (set_of inner))) (nest_rows w q world bound outer inner is t holds)

pub returns-clause-outer : goal.returns-clause-outer
returns-clause-outer c = λ w q p o world bound is none. outer_holds w q world bound p is none o
