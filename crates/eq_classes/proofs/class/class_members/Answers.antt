use Rattle.std.proofs.Common.{◌≡◌, true, [], sym, subst, List, AllPairs}
use Rattle.std.proofs.lemmas.Result.{IfOk-weaker}
use Rattle.pg_expr.specs.declared.operand.ColRef.{ColRef}
use Rattle.pg_expr.specs.Pushed.{is_lower}
use Rattle.eq_classes.specs.work.Building.{arranged}
use Rattle.eq_classes.proofs.MemberLemmas.{arranged_pairs}
use Rattle.eq_classes.proofs.class.class_members.Goals as goal

pub returns-in-Some-clause-rising : goal.returns-in-Some-clause-rising
returns-in-Some-clause-rising c =
    IfOk-weaker c.arrange.result (λ ms. ms.items ≡ arranged c.columns.result.now []) (λ ms. AllPairs {X = ColRef} (λ a b. is_lower a b ≡ true) ms.items)
    (λ ms is. subst (λ (l : List ColRef). AllPairs {X = ColRef} (λ a b. is_lower a b ≡ true) l) (sym is) (arranged_pairs c.columns.result.now)) c.arrange.ensures
