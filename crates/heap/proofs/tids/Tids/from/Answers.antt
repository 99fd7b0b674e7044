use Rattle.std.proofs.Common.{◌+◌, ◌∷◌, ℕ, List, length, sym, ap, subst, ◌∙◌, arith}
use Rattle.heap.specs.work.TidSets.{IsTidSet, TidSet, is_marked, not_below}
use Rattle.heap.proofs.MemberLemmas.{rest-first, rest-none, tid_set}
use Rattle.heap.proofs.tids.Tids.from.Goals as goal

pub first_mark-requires : goal.first_mark-requires
first_mark-requires c = omega (arith, c.self.invariant, ap (λ (l : List ℕ). length l) c.deref.ensures.value)

pub returns-in-Some-clause-some : goal.returns-in-Some-clause-some
returns-in-Some-clause-some c =
    let self = c.self.inside in
    let m = c.in-Some.mark in
    let found = rw c.deref.ensures.value at c.in-Some.ensures.some in
    ap (λ (s : TidSet). not_below c.args.t s.members) (sym c.self.view_is)
    ∙ rest-first (is_marked self.words.items) c.args.t m self.len found.0 found.1 found.2 (omega (arith, c.if-mark-len.true, c.from-len.ensures))
    ∙ ap (λ (s : TidSet). m ∷ not_below (m + 1) s.members) c.self.view_is

pub returns-in-Some-clause-ordered : goal.returns-in-Some-clause-ordered
returns-in-Some-clause-ordered c = subst IsTidSet c.self.view_is (tid_set c.self.inside.len (is_marked c.self.inside.words.items))

pub returns-in_default-clause-none : goal.returns-in_default-clause-none
returns-in_default-clause-none c =
    let self = c.self.inside in
    let found = rw c.deref.ensures.value at c.in-Some.ensures.some in
    ap (λ (s : TidSet). not_below c.args.t s.members) (sym c.self.view_is)
    ∙ rest-none (is_marked self.words.items) c.args.t self.len (λ n le lt. found.2 n le (omega (arith, lt, c.if-mark-len.false, c.from-len.ensures)))

pub returns-in_default-clause-ordered : goal.returns-in_default-clause-ordered
returns-in_default-clause-ordered c = subst IsTidSet c.self.view_is (tid_set c.self.inside.len (is_marked c.self.inside.words.items))

pub returns-in_default-2-clause-none : goal.returns-in_default-2-clause-none
returns-in_default-2-clause-none c =
    let self = c.self.inside in
    let none = rw c.deref.ensures.value at c.in_default.ensures.none in
    ap (λ (s : TidSet). not_below c.args.t s.members) (sym c.self.view_is)
    ∙ rest-none (is_marked self.words.items) c.args.t self.len (λ n le lt. none n le)

pub returns-in_default-2-clause-ordered : goal.returns-in_default-2-clause-ordered
returns-in_default-2-clause-ordered c = subst IsTidSet c.self.view_is (tid_set c.self.inside.len (is_marked c.self.inside.words.items))
