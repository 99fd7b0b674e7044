use Rattle.std.proofs.Common.{◌∙◌, ℕ, Some, ap, subst, sym}
use Rattle.pgplan.specs.Script.{script}
use Rattle.pgplan.specs.Runs.{HasNoFault, ReachesFault}
use Rattle.pgplan.specs.Summaries.{IsSummedInPart, IsSummedUp, TellsFaultAlone}
use Rattle.pgplan.proofs.CommandLemmas.{same-number}
use Rattle.pgplan.proofs.SampleLemmas.{sum_complete, sum_reached}
use Rattle.pgplan.proofs.top.pgplan.Goals as goal

pub returns-in-None-clause-sample_statuses : goal.returns-in-None-clause-sample_statuses
returns-in-None-clause-sample_statuses g c = λ n command. absurd ((c.read_command.ensures.none.0 c.in-None.is).1 n command)

pub returns-in-None-clause-usage : goal.returns-in-None-clause-usage
returns-in-None-clause-usage g c = (λ usage. c.read_command.ensures.none.0 c.in-None.is, λ none. c.tell.ensures.number)

pub returns-in-None-clause-sample_complete : goal.returns-in-None-clause-sample_complete
returns-in-None-clause-sample_complete g c = λ n command sound. absurd ((c.read_command.ensures.none.0 c.in-None.is).1 n command)

pub returns-in-None-clause-sample_reached : goal.returns-in-None-clause-sample_reached
returns-in-None-clause-sample_reached g c = λ n command reached. absurd ((c.read_command.ensures.none.0 c.in-None.is).1 n command)

pub returns-in-Some-Sample-clause-summed : goal.returns-in-Some-Sample-clause-summed
returns-in-Some-Sample-clause-summed g c = λ m command done.
    let held = g.K.Sink.held c.args.out.now in
    let held' = g.K.Sink.held c.sample.new.out in
    let same = same-number c.read_command.result _ c.in-Some-Sample.n m (c.in-Some-Sample.is ∙ ap Some c.in-Some-Sample.field-0-is) c.read_command.ensures.sample command in
    subst (λ (k : ℕ). IsSummedUp (script k) held held') same (c.sample.ensures.sums.done done)

pub returns-in-Some-Sample-clause-sample_refused : goal.returns-in-Some-Sample-clause-sample_refused
returns-in-Some-Sample-clause-sample_refused g c = λ m command refused.
    let held = g.K.Sink.held c.args.out.now in
    let held' = g.K.Sink.held c.sample.new.out in
    let errs = g.E.Sink.held c.args.errors.now in
    let errs' = g.E.Sink.held c.sample.new.errors in
    let before = g.E.Sink.faults c.args.errors.now in
    let now = g.E.Sink.faults c.sample.new.errors in
    let same = same-number c.read_command.result _ c.in-Some-Sample.n m (c.in-Some-Sample.is ∙ ap Some c.in-Some-Sample.field-0-is) c.read_command.ensures.sample command in
    subst (λ (k : ℕ). TellsFaultAlone (script k) held held' errs errs' before now) same (c.sample.ensures.sums.refused refused)

pub returns-in-Some-Sample-clause-sample_cut_off : goal.returns-in-Some-Sample-clause-sample_cut_off
returns-in-Some-Sample-clause-sample_cut_off g c = λ m command cut.
    let held = g.K.Sink.held c.args.out.now in
    let held' = g.K.Sink.held c.sample.new.out in
    let same = same-number c.read_command.result _ c.in-Some-Sample.n m (c.in-Some-Sample.is ∙ ap Some c.in-Some-Sample.field-0-is) c.read_command.ensures.sample command in
    subst (λ (k : ℕ). IsSummedInPart (script k) held held') same (c.sample.ensures.sums.cut cut)

pub returns-in-Some-Sample-clause-sample_complete : goal.returns-in-Some-Sample-clause-sample_complete
returns-in-Some-Sample-clause-sample_complete g c = λ m command sound.
    let same = same-number c.read_command.result _ c.in-Some-Sample.n m (c.in-Some-Sample.is ∙ ap Some c.in-Some-Sample.field-0-is) c.read_command.ensures.sample command in
    sum_complete c.sample.result (script c.in-Some-Sample.n) _ _ _ _ _ _ c.sample.ensures.sums (subst (λ (k : ℕ). HasNoFault (script k)) (sym same) sound)

pub returns-in-Some-Sample-clause-sample_reached : goal.returns-in-Some-Sample-clause-sample_reached
returns-in-Some-Sample-clause-sample_reached g c = λ m command reached.
    let same = same-number c.read_command.result _ c.in-Some-Sample.n m (c.in-Some-Sample.is ∙ ap Some c.in-Some-Sample.field-0-is) c.read_command.ensures.sample command in
    sum_reached c.sample.result (script c.in-Some-Sample.n) _ _ _ _ _ _ c.sample.ensures.sums (subst (λ (k : ℕ). ReachesFault (script k)) (sym same) reached)
