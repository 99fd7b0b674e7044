use Rattle.index_reader.proofs.StatementLemmas.{advises}
use Rattle.index_reader.proofs.ReadLemmas.{its, read-as, refused-as}
use Rattle.index_reader.proofs.advise.read_advise.Goals as goal

pub parts-requires : goal.parts-requires
parts-requires c =
    let t = advises c.args.text.now c.args.tokens.now c.in_default.ensures c.requires.opens in
    let i = its c.args.cat.now c.args.text.now c.args.tokens.now t in
    record { short = c.requires.short; words = c.requires.words; there = (i.number, i.row, i.queries, i.stands) }

pub returns-clause-read : goal.returns-clause-read
returns-clause-read c =
    let t = advises c.args.text.now c.args.tokens.now c.in_default.ensures c.requires.opens in
    let i = its c.args.cat.now c.args.text.now c.args.tokens.now t in
    read-as c.args.cat.now c.args.text.now c.args.tokens.now t c.parts.result (c.parts.ensures.told i.number i.row i.queries i.start i.later i.begins i.stands)

pub returns-clause-refused : goal.returns-clause-refused
returns-clause-refused c =
    let t = advises c.args.text.now c.args.tokens.now c.in_default.ensures c.requires.opens in
    let i = its c.args.cat.now c.args.text.now c.args.tokens.now t in
    refused-as c.args.cat.now c.args.text.now c.args.tokens.now t c.parts.result (c.parts.ensures.told i.number i.row i.queries i.start i.later i.begins i.stands)
