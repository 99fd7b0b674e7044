use Rattle.std.proofs.Common.{◌<◌, ℕ, ◌/◌, ◌%◌, ◌||◌, Bool, nat_eq, length, sym, ap, ◌∙◌, arith}
use Rattle.std.proofs.lemmas.Grind.{get_or_default_zero}
use Rattle.pg_base.specs.Sets.{has}
use Rattle.heap.specs.work.TidSets.{TidSet, is_marked, is_member, rows_passing}
use Rattle.heap.proofs.MarkLemmas.{marked-more}
use Rattle.heap.proofs.MemberLemmas.{member-those, set_of, those-same}
use Rattle.heap.proofs.tids.Tids.add.Goals as goal

pub returns : goal.returns
returns c =
    let self = c.self.inside in
    let t = c.args.t.0 in
    let inside : t / 64 < length self.words.items = omega (arith, c.self.invariant, c.requires, ap (λ (s : TidSet). s.bound) c.self.view_is) in
    let old = c.index.ensures ∙ get_or_default_zero self.words.items (t / 64) c.index.result.now inside in
    let bits = λ (k : ℕ). c.with_bit.ensures k ∙ ap (λ (x : ℕ). nat_eq k (t % 64) || has x k) old in
    ap (set_of self.len) (those-same self.len _ (λ n. nat_eq n t || is_member (rows_passing self.len (is_marked self.words.items)) n)
    (λ n lt. marked-more self.words.items t c.with_bit.result inside bits n ∙ ap (λ (b : Bool). nat_eq n t || b) (sym (member-those self.len (is_marked self.words.items) n lt))))
    ∙ ap (λ (s : TidSet). set_of s.bound (rows_passing s.bound (λ n. nat_eq n t || is_member s.members n))) c.self.view_is
