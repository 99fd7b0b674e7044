use Rattle.std.proofs.Common.{◌∙◌, sym}
use Rattle.statements.proofs.QueryLemmas.{are-no-other}
use Rattle.statements.proofs.replying.tally_reply.Goals as goal

pub measure_query-requires : goal.measure_query-requires
measure_query-requires g c =
    let kind = c.requires.kind in
    record {
      short = c.requires.short;
      words = c.requires.words;
      some = kind.some;
      kind = are-no-other c.args.text.now c.requires.words.0 c.args.tokens.now c.requires.words.1 c.requires.short kind.some kind.no_ddl kind.no_index
          (sym c.is_advise.ensures ∙ c.if-is_advise.false) (sym c.is_check.ensures ∙ c.if-is_check.false) (sym c.is_use.ensures ∙ c.if-is_use.false);
      store = c.requires.store;
    }
