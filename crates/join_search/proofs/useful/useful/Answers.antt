use Rattle.std.proofs.Common.{◌≡◌, ◌≤◌, true, length, subst, sym, take}
use Rattle.std.proofs.lemmas.Result.{IfOk-weaker}
use Rattle.pathkeys.specs.Keys.{Keys, covers}
use Rattle.join_search.proofs.UseLemmas.{first-part}
use Rattle.join_search.proofs.useful.useful.Goals as goal

pub returns : goal.returns
returns c =
    let list = c.args.list.now in
    let free = c.open_classes-free.result in
    let used = c.used_classes-used.result in
    let same = c.items.ensures.list in
    let most = subst (λ (ks : Keys). covers list ks ≡ true → length ks ≤ used) c.requires.order c.used_classes-used.ensures.order in
    IfOk-weaker c.first_classes.result _ _
    (λ part e s out. first-part c.args.q.now c.args.asked s list free used part c.if-asked.false e c.used_classes-used.ensures.within c.used_classes-used.ensures.free
    (λ ks all k. subst (λ (l : Keys). covers (take free l) ks ≡ true) same (c.open_classes-free.ensures.begins s ks out all (subst (λ (l : Keys). covers l ks ≡ true) (sym same) k))) most) c.first_classes.ensures
