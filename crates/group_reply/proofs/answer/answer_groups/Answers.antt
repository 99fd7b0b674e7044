use Rattle.std.proofs.Common.{◌∙◌, ap}
use Rattle.sql_query.specs.Grouped.{GroupedQuery}
use Rattle.sql_query.specs.Worlds.{world}
use Rattle.group_explain.specs.reply_Replies.{traces}
use Rattle.group_explain.specs.reply_ReplyLemmas.{broken-has-plan}
use Rattle.group_reply.specs.Replies.{IsGroupedAnswerTo}
use Rattle.group_reply.proofs.AnswerLemmas.{answered, answering, caused-by, input-is}
use Rattle.group_explain.proofs.ReplyLemmas.{leaves}
use Rattle.group_reply.proofs.answer.answer_groups.Goals as goal

pub answer_by-requires-clause-input : goal.answer_by-requires-clause-input
answer_by-requires-clause-input g c =
    input-is (world c.args.cat.now c.args.store.now.stored) c.args.g c.requires.store.world c.requires.bound c.in_ok-chosen.chosen c.in_ok-chosen.ensures.chosen c.g.inside.base c.choose_groups.new.g
    (ap (λ (h : GroupedQuery). h.base) (c.g.view_is ∙ c.in_ok-chosen.ensures.base)) c.in_ok-chosen.ensures.base

pub returns-in_err-answer_by-clause-stopped : goal.returns-in_err-answer_by-clause-stopped
returns-in_err-answer_by-clause-stopped g c =
    leaves c.from_residual-in_err-answer_by.result _ (IsGroupedAnswerTo (world c.args.cat.now c.args.store.now.stored) c.args.g) (traces (g.K.Sink.held c.args.out.now) c.args.fetches.now c.args.reads.now)
    (traces (g.K.Sink.held c.answer_by.new.out) c.answer_by.new.fetches c.answer_by.new.reads) c.from_residual-in_err-answer_by.ensures.1
    (answering (world c.args.cat.now c.args.store.now.stored) c.args.g c.requires.store.world c.requires.bound c.in_ok-chosen.chosen c.in_ok-chosen.ensures.chosen c.g.inside.base
    (ap (λ (h : GroupedQuery). h.base) (c.g.view_is ∙ c.in_ok-chosen.ensures.base)) (traces (g.K.Sink.held c.args.out.now) c.args.fetches.now c.args.reads.now)
    (traces (g.K.Sink.held c.answer_by.new.out) c.answer_by.new.fetches c.answer_by.new.reads) (c.in_err-answer_by.ensures.err c.args.g c.in_ok-chosen.ensures.base))

pub returns-in_err-answer_by-clause-no_plan : goal.returns-in_err-answer_by-clause-no_plan
returns-in_err-answer_by-clause-no_plan g c = broken-has-plan c.from_residual-in_err-answer_by.result _ _ c.from_residual-in_err-answer_by.ensures.1

pub returns-in_err-answer_by-clause-cause : goal.returns-in_err-answer_by-clause-cause
returns-in_err-answer_by-clause-cause g c = caused-by c.from_residual-in_err-answer_by.result _ _ _ c.from_residual-in_err-answer_by.ensures.1 c.in_err-answer_by.ensures.cause

pub returns-clause-answered : goal.returns-clause-answered
returns-clause-answered g c =
    answered (world c.args.cat.now c.args.store.now.stored) c.args.g c.requires.store.world c.requires.bound c.in_ok-chosen.chosen c.in_ok-chosen.ensures.chosen c.g.inside.base
    (ap (λ (h : GroupedQuery). h.base) (c.g.view_is ∙ c.in_ok-chosen.ensures.base)) (traces (g.K.Sink.held c.args.out.now) c.args.fetches.now c.args.reads.now)
    (traces (g.K.Sink.held c.answer_by.new.out) c.answer_by.new.fetches c.answer_by.new.reads) (c.in_ok-answer_by.ensures.ok c.args.g c.in_ok-chosen.ensures.base)
