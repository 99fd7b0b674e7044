use Rattle.explain.proofs.KeyLemmas.{two-parts}
use Rattle.explain.proofs.bits.put_leaf_title.Goals as goal

pub returns : goal.returns
returns c =
    two-parts c.args.text.now.items c.extend_from_slice.new.self.items c.extend_from_slice-2.new.self.items _ _ _ c.in_ok-extend_from_slice.ensures.items c.in_ok-extend_from_slice-2.ensures.items
    c.index_name.ensures.value
