use Rattle.std.proofs.Common.{◌∙◌, List, [], ◌∷◌, ◌++◌, ap, refl, sym}
use Rattle.std.proofs.lemmas.Bool.{true≢false}
use Rattle.std.specs.Prelude.{Some}
use Rattle.pg_base.specs.declared.numbers.IndexNo.{IndexNo}
use Rattle.certificate_entries.proofs.LeafLemmas.{leaves-broken, leaves-done, leaves-first, leaves-next, leaves-none}
use Rattle.certificate_entries.proofs.leaves.read_leaves.Goals as goal

pub returns-in-None-clause-only : goal.returns-in-None-clause-only
returns-in-None-clause-only c = λ is rest has some ends other e.
    absurd (leaves-none c.args.cat.now c.args.at.now c.read_leaf.new.at c.read_leaf.result c.read_leaf.ensures.only c.in-None.is is rest has some ends e)

pub list-init : goal.list-init
list-init c = leaves-first c.args.cat.now c.args.at.now c.read_leaf.new.at c.read_leaf.result c.in-Some.index c.push.new.self.items c.read_leaf.ensures.only c.in-Some.is c.in-Some.ensures.has
    (c.in_ok-push-in-Some.ensures.items ∙ ap (λ (l : List IndexNo). l ++ c.in-Some.index ∷ []) c.new-indexes.ensures.items) c.read_leaf.ensures.shorter

pub list-preserved : goal.list-preserved
list-preserved c =
    leaves-next c.args.cat.now c.args.at.now c.list.at c.eat.new.self c.read_leaf-in-list.new.at c.list.indexes.items c.push-in-Some-read_leaf.new.self.items c.read_leaf-in-list.result c.in-Some-read_leaf.index
    c.list.invariant (c.list-test.ensures.is refl) c.read_leaf-in-list.ensures.only c.in-Some-read_leaf.is c.in-Some-read_leaf.ensures.has c.in_ok-push-in-Some-read_leaf.ensures.items c.eat.ensures.shorter c.read_leaf-in-list.ensures.shorter

pub returns-in-None-read_leaf-clause-only : goal.returns-in-None-read_leaf-clause-only
returns-in-None-read_leaf-clause-only c = λ is rest has some ends other e.
    absurd (leaves-broken c.args.cat.now c.args.at.now c.list.at c.eat.new.self c.read_leaf-in-list.new.at c.list.indexes.items c.read_leaf-in-list.result c.list.invariant (c.list-test.ensures.is refl)
    c.read_leaf-in-list.ensures.only c.in-None-read_leaf.is is rest has some ends other e)

pub returns-clause-only : goal.returns-clause-only
returns-clause-only c = λ is rest has some ends other e.
    let r = leaves-done c.args.cat.now c.args.at.now c.list.at c.eat.new.self c.list.indexes.items c.list.invariant (λ r same. true≢false (sym (c.list-test.ensures.took r same).0)) (c.list-test.ensures.left refl) is rest has some ends other e in
    (ap (λ l. Some l) r.0, r.1)
