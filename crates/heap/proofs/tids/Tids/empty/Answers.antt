use Rattle.std.proofs.Common.{◌+◌, ◌/◌, ap, ◌∙◌, List, ℕ}
use Rattle.heap.specs.work.TidSets.{is_marked}
use Rattle.heap.proofs.MarkLemmas.{none-marked}
use Rattle.heap.proofs.MemberLemmas.{set_of, those-none}
use Rattle.heap.proofs.tids.Tids.empty.Goals as goal

pub returns : goal.returns
returns c =
    let zeros = c.in_ok-words.ensures.items_if_clones_equal (λ y e. e) in
    ap (set_of c.args.len) (those-none (is_marked c.in_ok-words.words.items) c.args.len (λ n lt. ap (λ (l : List ℕ). is_marked l n) zeros ∙ none-marked (c.args.len / 64 + 1) n))
