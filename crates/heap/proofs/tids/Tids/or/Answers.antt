use Rattle.std.proofs.Common.{◌≡◌, ◌||◌, ℕ, List, Bool, length, sym, ap, ap₂, ◌∙◌, arith}
use Rattle.std.proofs.lemmas.List.{with_items_is}
use Rattle.heap.specs.work.TidSets.{TidSet, is_marked, is_member, rows_passing}
use Rattle.heap.proofs.MarkLemmas.{marked-either}
use Rattle.heap.proofs.MemberLemmas.{member-those, set_of, those-same}
use Rattle.heap.proofs.tids.Tids.or.Goals as goal

pub returns : goal.returns
returns c =
    let self = c.self.inside in
    let other = c.o.inside in
    let a = self.words.items in
    let b = other.words.items in
    let bits = rw (c.deref_mut.ensures.value, c.deref.ensures.value) at c.join.ensures.bits in
    let long : length c.join.new.words ≡ self.words.len = omega (arith, c.join.auto.words, c.deref_mut.ensures.len) in
    let bounds : other.len ≡ self.len = ap (λ (s : TidSet). s.bound) c.o.view_is ∙ c.requires ∙ sym (ap (λ (s : TidSet). s.bound) c.self.view_is) in
    ap (λ (l : List ℕ). set_of self.len (rows_passing self.len (is_marked l))) (with_items_is self.words c.join.new.words long)
    ∙ ap (set_of self.len) (those-same self.len (is_marked c.join.new.words) (λ n. is_member (rows_passing self.len (is_marked a)) n || is_member (rows_passing other.len (is_marked b)) n)
    (λ n lt. marked-either a b c.join.new.words n bits
    ∙ ap₂ (λ (x y : Bool). x || y) (sym (member-those self.len (is_marked a) n lt)) (sym (member-those other.len (is_marked b) n (omega (arith, bounds, lt))))))
    ∙ ap (λ (s : TidSet). set_of self.len (rows_passing self.len (λ n. is_member (rows_passing self.len (is_marked a)) n || is_member s.members n))) c.o.view_is
    ∙ ap (λ (s : TidSet). set_of s.bound (rows_passing s.bound (λ n. is_member s.members n || is_member c.args.o.now.members n))) c.self.view_is
