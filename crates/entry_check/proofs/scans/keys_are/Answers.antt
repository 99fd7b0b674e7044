use Rattle.std.proofs.Common.{◌≡◌, ◌∙◌, ap, arith, length, refl, sym}
use Rattle.std.specs.Prelude.{slice_get}
use Rattle.std.proofs.lemmas.Bool.{false≢true}
use Rattle.std.proofs.lemmas.List.{length-map}
use Rattle.eq_classes.specs.declared.classes.ClassNo.{ClassNo}
use Rattle.pathkeys.specs.work.Finding.{class_numbers}
use Rattle.pathkeys.specs.Keys.{Keys}
use Rattle.plan_tree.specs.Keys.{keys_of}
use Rattle.plan_space.proofs.KeyLemmas.{number-at}
use Rattle.pg_base.proofs.NumberLemmas.{each-below as below-next}
use Rattle.entry_check.specs.work.Owning.{tree_of}
use Rattle.entry_check.proofs.ScanLemmas.{key-at-end, some-end, tree-few, tree-keys, tree-made}
use Rattle.entry_check.proofs.scans.keys_are.Goals as goal

pub key_at-requires-clause-index : goal.key_at-requires-clause-index
key_at-requires-clause-index c = tree-made c.args.cat.now c.args.q.now c.args.s c.requires.built

pub key_at-requires-2-clause-index : goal.key_at-requires-2-clause-index
key_at-requires-2-clause-index c = tree-made c.args.cat.now c.args.q.now c.args.s c.requires.built

pub returns-then-list-gt-MOST_COLUMNS : goal.returns-then-list-gt-MOST_COLUMNS
returns-then-list-gt-MOST_COLUMNS c =
    let few = tree-few c.args.cat.now c.args.q.now c.args.s c.lawful.ensures c.requires.built in
    let long = length-map c.args.list.now (λ (x : ClassNo). x.0) in (
      λ is. absurd (false≢true is),
      λ same. let as-long : length (class_numbers c.args.list.now) ≡ length (keys_of c.args.cat.now c.args.q.now (tree_of c.args.s)) = ap (λ (ks : Keys). length ks) same in
          absurd (omega (arith, few, long, as-long, c.if-list-gt-MOST_COLUMNS.true)),
    )

pub returns-then-not-is_key : goal.returns-then-not-is_key
returns-then-not-is_key c =
    let contents = c.args.cat.now in
    let q = c.args.q.now in
    let s = c.args.s in
    let n = c.loop-n.n in (
      λ is. absurd (false≢true is),
      λ same. absurd (false≢true (sym c.if-not-is_key.true ∙ c.is_key.ensures.1
          (c.key_at.ensures.class ∙ ap (λ (ks : Keys). slice_get ks n) (tree-keys contents q s ∙ sym same) ∙ number-at c.args.list.now n (record { 0 = 0 }) c.loop-n-test.true))),
    )

pub loop-n-preserved : goal.loop-n-preserved
loop-n-preserved c =
    let contents = c.args.cat.now in
    let q = c.args.q.now in
    let s = c.args.s in
    let n = c.loop-n.n in
    let keys = keys_of contents q (tree_of s) in
    below-next (λ k. slice_get keys k ≡ slice_get (class_numbers c.args.list.now) k) n c.loop-n.invariant
    (ap (λ (ks : Keys). slice_get ks n) (sym (tree-keys contents q s)) ∙ sym c.key_at.ensures.class ∙ c.is_key.ensures.0 c.if-not-is_key.false ∙ sym (number-at c.args.list.now n (record { 0 = 0 }) c.loop-n-test.true))

pub returns-in-Some : goal.returns-in-Some
returns-in-Some c = (λ is. absurd (false≢true is), λ same. absurd (some-end c.args.cat.now c.args.q.now c.args.s c.args.list.now c.in-Some.field-0.0 c.in-Some.ensures.class same))

pub returns-in-None : goal.returns-in-None
returns-in-None c = (
  λ is. key-at-end c.args.cat.now c.args.q.now c.args.s c.args.list.now c.loop-n.n c.loop-n.invariant c.loop-n-test.false c.in-None.ensures.class,
  λ same. refl,
)
