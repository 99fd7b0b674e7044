use Rattle.std.proofs.Common.{◌∙◌, ap, sym}
use Rattle.plan_tree.specs.Plans.{param_of}
use Rattle.plan_tree.specs.work.Views.{plan}
use Rattle.plan_space.proofs.JoinLemmas.{scan-param}
use Rattle.plan_space.proofs.joins.+param_of.Goals as goal

pub returns-in-Index : goal.returns-in-Index
returns-in-Index t c = record { members = λ k. scan-param c.in-Index.rel c.in-Index.param k ∙ ap (λ x. param_of (plan x) k) (sym c.in-Index.is) }

pub returns-in-IndexOnly : goal.returns-in-IndexOnly
returns-in-IndexOnly t c = record { members = λ k. scan-param c.in-IndexOnly.rel c.in-IndexOnly.param k ∙ ap (λ x. param_of (plan x) k) (sym c.in-IndexOnly.is) }

pub returns-in-Bitmap : goal.returns-in-Bitmap
returns-in-Bitmap t c = record { members = λ k. scan-param c.in-Bitmap.rel c.in-Bitmap.param k ∙ ap (λ x. param_of (plan x) k) (sym c.in-Bitmap.is) }
