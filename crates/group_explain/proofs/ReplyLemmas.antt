-- EXPLAIN of a grouped query by a chosen plan.
use Rattle.std.proofs.Common.{◌≡◌, ℕ, List, refl, arith, sym, subst, inr, Option, Result, Ok, Err, IfErr}
use Rattle.std.specs.Result.{IsErrAnd}
use Rattle.std.specs.Io.KnownBytes.{Appends}
use Rattle.pg_base.specs.Writing.{AppendsPrefix}
use Rattle.catalog.specs.Contents.{Contents}
use Rattle.sql_query.specs.Grouped.{GroupedQuery}
use Rattle.plan_tree.specs.Plans.{Plan}
use Rattle.plan_tree.specs.work.Views.{path}
use Rattle.reply.specs.Effort.{exactly}
use Rattle.reply.specs.Replies.{HasBegun, HasReplied, Reply, Traces, traces}
use Rattle.reply.specs.work.Replies.{Leaves}
use Rattle.reply.specs.work.Stops.{stop_by}
use Rattle.reply.specs.declared.stop.Broken.{Broken}
use Rattle.reply.specs.declared.stop.Broken.TheVariants.{Write, Memory}
use Rattle.reply.specs.declared.stop.Stop.{Stop}
use Rattle.group_explain.specs.Plans.{IsGroupExplanation, IsGroupedExplanationOf}
use Rattle.group_explain.specs.work.Plans.{IsChosen}
use Rattle.group_explain.specs.work.Texts.{task_text}
use Rattle.group_explain.specs.declared.chosen.Chosen.{Chosen}
use Rattle.group_explain.proofs.NumberLemmas.{text-explains}

-- what a text that is not written whole leaves
pub leaves : (r : Result (Unit {0}) Stop) (b : Broken) (IsReply : Reply → Type 0) (old new : Traces) → IsErrAnd r (λ e. e ≡ stop_by b) → HasBegun IsReply old new → IfErr r (λ stop. Leaves stop IsReply old new)
leaves (Ok u) b IsReply old new is begun = tt
leaves (Err e) b IsReply old new is begun = by b is
  where
    by : (b : Broken) → e ≡ stop_by b → Leaves e IsReply old new
    by Write same = subst (λ s. Leaves s IsReply old new) (sym same) begun
    by Memory same = subst (λ s. Leaves s IsReply old new) (sym same) (inr begun)

module _ (c : Contents) (g : GroupedQuery) (x : Chosen) (is : IsChosen c g x) where
  abbrev pub text_of : List ℕ
  text_of = task_text c g x.task x.plan (path x.input).tree

  -- a text that is printed is that of a plan that groups
  explanation : IsGroupExplanation c g x.plan.form is.least.plan text_of
  explanation =
      subst (λ (p : Plan). IsGroupExplanation c g x.plan.form is.least.plan (task_text c g x.task x.plan p)) is.input
      (text-explains c g x.task x.plan is.task is.least)

  abbrev pub reply : Reply
  reply = record { bytes = text_of; fetched = exactly 0; looked = 0 }

  is_reply : IsGroupedExplanationOf c g reply
  is_reply = record { form = x.plan.form; plan = is.least.plan; explanation = explanation; fetched = refl; looked = refl }

  pub explained : (a b : Option (List ℕ)) → Appends a b text_of → HasReplied (IsGroupedExplanationOf c g) (traces a 0 0) (traces b 0 0)
  explained a b gained = record {
    reply = reply;
    answers = is_reply;
    gained = gained;
    fetched = record { above = omega arith; within = omega arith; exact = refl };
    looked = omega arith;
  }

  pub explaining : (a b : Option (List ℕ)) → AppendsPrefix a b text_of → HasBegun (IsGroupedExplanationOf c g) (traces a 0 0) (traces b 0 0)
  explaining a b gained = record { reply = reply; answers = is_reply; gained = gained; fetched = omega arith; looked = omega arith }
