use Rattle.std.proofs.Common.{◌≡◌, ℕ, length, arith, append-nil, ◌++◌, ◌∷◌, [], List, drop, sym, subst, append_assoc}
use Rattle.std.proofs.Math.Seq.{drop-length}
use Rattle.opfamily.specs.pg_base_rel_set_RelSet.{RelSet}
use Rattle.eq_classes.specs.declared.clauses.Listed.{Listed}
use Rattle.eq_classes.specs.work.Listing.{AreNamed}
use Rattle.eq_classes.proofs.NamedLemmas.{named_next}
use Rattle.eq_classes.proofs.classes.relations.Goals as goal

pub loop-k-preserved : goal.loop-k-preserved
loop-k-preserved c = λ rest h.
    let clauses = c.args.clauses.now in
    let s = c.rels.result in
    let old = c.loop-k.named.items in
    subst (λ (l : List RelSet). AreNamed (l ++ rest) clauses) (sym c.in_ok-push.ensures.items)
    (subst (λ (l : List RelSet). AreNamed l clauses) (sym (append_assoc old (s ∷ []) rest))
    (c.loop-k.invariant (s ∷ rest) (named_next clauses c.loop-k.k-index c.k-item.result s rest c.loop-k-test.true c.k-item.is c.rels.ensures h)))

pub returns : goal.returns
returns c =
    let clauses = c.args.clauses.now in
    let last : length clauses ≡ c.loop-k.k-index = omega (arith, c.loop-k-test.false, c.loop-k.auto.k-index-end) in
    let none : AreNamed [] (drop c.loop-k.k-index clauses) = subst (λ (n : ℕ). AreNamed [] (drop n clauses)) last (subst (λ (l : List Listed). AreNamed [] l) (sym (drop-length clauses)) tt) in
    subst (λ (l : List RelSet). AreNamed l clauses) (append-nil c.loop-k.named.items) (c.loop-k.invariant [] none)
