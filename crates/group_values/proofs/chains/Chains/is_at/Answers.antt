use Rattle.std.proofs.Common.{sym, ◌∙◌, arith}
use Rattle.std.proofs.lemmas.Grind.{get_or_default_zero}
use Rattle.group_values.proofs.ChainLemmas.{hash-many, other-hash}
use Rattle.group_values.proofs.chains.Chains.is_at.Goals as goal

pub returns-then-index-hash : goal.returns-then-index-hash
returns-then-index-hash c =
    let hashes = c.args.self.now.hashes.items in
    let gs = c.args.groups.now in
    sym (other-hash hashes gs c.args.keys.now c.args.slot c.args.hash c.requires.hashes c.requires.slot c.requires.hash
    (λ e. c.if-index-hash.true (c.index.ensures ∙ get_or_default_zero hashes c.args.slot c.index.result.now (omega (arith, c.requires.slot, hash-many hashes gs c.requires.hashes)) ∙ e)))
