use Rattle.pathkeys.specs.work.Finding.{class_numbers}
use Rattle.plan_check.specs.work.Views.{certificate}
use Rattle.scan_cover.proofs.ToldLemmas.{told-none, told-open}
use Rattle.scan_cover.proofs.numbers.open_with.Goals as goal

pub returns-clause-none : goal.returns-clause-none
returns-clause-none c = told-none c.args.j.now.q.now (certificate c.args.j.now.t.now) c.args.set c.args.param (class_numbers c.args.keys.now) c.args.own c.open_candidate.result c.open_candidate.ensures.none

pub returns-clause-some : goal.returns-clause-some
returns-clause-some c = told-open c.args.j.now.q.now (certificate c.args.j.now.t.now) c.args.set c.args.param (class_numbers c.args.keys.now) c.args.own c.open_candidate.result c.open_candidate.ensures.some
