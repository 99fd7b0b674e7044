use Rattle.std.proofs.Common.{sym, ◌∙◌, arith}
use Rattle.std.proofs.lemmas.Grind.{get_or_default_zero}
use Rattle.group_values.proofs.ChainLemmas.{put-behind-first}
use Rattle.group_values.proofs.chains.Chains.link.Goals as goal

pub returns-in-Some-clause-chained : goal.returns-in-Some-clause-chained
returns-in-Some-clause-chained c =
    let s = c.args.self.now in
    let hash = c.index-hash.result.now in
    let at = sym (c.index-hash.ensures ∙ get_or_default_zero s.hashes.items c.args.slot hash (omega (arith, c.requires.last))) in
    put-behind-first s.firsts.items s.hashes.items s.links c.args.slot hash c.requires.others c.requires.last at c.in-Some.first c.insert_after.new.self (sym c.in-Some.ensures) c.insert_after.ensures.put c.insert_after.ensures.lawful
