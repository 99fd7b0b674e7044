use Rattle.std.proofs.Common.{refl, sym, ◌∙◌}
use Rattle.query_reader.proofs.WhereLemmas.{there}
use Rattle.index_reader.proofs.ConditionLemmas.{no-condition, condition-stopped, condition-read}
use Rattle.index_reader.proofs.predicate.predicate.Goals as goal

pub returns-then-not-takes : goal.returns-then-not-takes
returns-then-not-takes c = λ w rest ends is. no-condition c.args.scope.now w rest c.args.from.now c.takes.new.self (c.if-not-takes.ensures.left refl) (c.if-not-takes.ensures.other refl) is

pub returns-in_err-condition : goal.returns-in_err-condition
returns-in_err-condition c = λ w rest ends is.
    let (key, took) = c.if-not-takes.ensures.took refl in
    condition-stopped c.args.scope.now w rest c.takes.new.self _ _ _ (there w rest c.takes.new.self key ends (sym took ∙ is)) c.in_err-condition.ensures.read c.from_residual.ensures.1

pub returns : goal.returns
returns c = λ w rest ends is.
    let (key, took) = c.if-not-takes.ensures.took refl in
    condition-read c.args.scope.now w rest c.takes.new.self _ c.in_ok-condition.condition _ (there w rest c.takes.new.self key ends (sym took ∙ is)) c.in_ok-condition.ensures.read c.in_ok-push_not.ensures.tree
