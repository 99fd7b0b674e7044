use Rattle.std.proofs.Common.{◌≡◌, ◌∷◌, ◌++◌, ◌∙◌, [], List, length, sym, ap, rules}
use Rattle.pg_base.specs.declared.numbers.Tid.{Tid}
use Rattle.sql_query.specs.Queries.{Query}
use Rattle.plan_tree.specs.work.Views.{plan}
use Rattle.scan_exec.specs.Coming.{Coming}
use Rattle.scan_exec.specs.work.Coming.{rows_to_come}
use Rattle.executor.specs.work.Numbers.{numbers}
use Rattle.executor.proofs.DrawLemmas.{found_left, none_left, none_behind, rises}
use Rattle.executor.proofs.ScanLemmas.{scan_long, scan_step}
use Rattle.executor.proofs.scanning.next_scanned.Goals as goal

pub returns-in_ok-push-in-Some-clause-some : goal.returns-in_ok-push-in-Some-clause-some
returns-in_ok-push-in-Some-clause-some g c = λ (q : Query).
    let row : c.from_vec.result ≡ c.in-Some.tid ∷ [] = search rules in
    scan_step q (plan c.args.scanning.now.plan.now) c.from_vec.result (rows_to_come c.args.scanning.now.rows) (rows_to_come c.next.new.self) c.requires.good.scan (ap length row)
    (found_left c.args.scanning.now.rows c.in-Some.tid.0 c.in-Some.ensures.row
    ∙ ap (λ (cs : List Coming). c.in-Some.tid.0 ∷ rows_to_come cs) (sym c.in-Some.ensures.rest)
    ∙ ap (λ (t : List Tid). numbers t ++ rows_to_come c.next.new.self) (sym row))

pub returns-in_ok-push-in-Some-clause-len : goal.returns-in_ok-push-in-Some-clause-len
returns-in_ok-push-in-Some-clause-len g c =
    let row : c.from_vec.result ≡ c.in-Some.tid ∷ [] = search rules in
    scan_long (plan c.args.scanning.now.plan.now) (length c.from_vec.result) c.requires.good.scan c.requires.good.below (ap length row)

pub returns-in-None-clause-none : goal.returns-in-None-clause-none
returns-in-None-clause-none g c = (none_left c.args.scanning.now.rows c.in-None.ensures.row, c.in-None.ensures.rest ∙ none_behind c.args.scanning.now.rows c.in-None.ensures.row)

pub returns-in_err-push-in-Some-clause-rise : goal.returns-in_err-push-in-Some-clause-rise
returns-in_err-push-in-Some-clause-rise g c = rises c.args.scanning.now.rows c.next.new.self c.args.fetches.now c.next.new.fetches c.in-Some.ensures.rest c.in-Some.ensures.exact

pub returns-in_ok-push-in-Some-clause-rise : goal.returns-in_ok-push-in-Some-clause-rise
returns-in_ok-push-in-Some-clause-rise g c = rises c.args.scanning.now.rows c.next.new.self c.args.fetches.now c.next.new.fetches c.in-Some.ensures.rest c.in-Some.ensures.exact

pub returns-in-None-clause-rise : goal.returns-in-None-clause-rise
returns-in-None-clause-rise g c = rises c.args.scanning.now.rows c.next.new.self c.args.fetches.now c.next.new.fetches c.in-None.ensures.rest c.in-None.ensures.exact
