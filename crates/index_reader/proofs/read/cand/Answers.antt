use Rattle.std.proofs.Common.{[], List, sym, ap, subst, ◌∙◌, arith}
use Rattle.sql_lex.specs.declared.tokens.Token.{Token}
use Rattle.sql_lex.specs.Ends.{token_at}
use Rattle.expr_reader.specs.work.Reads.{Reads}
use Rattle.index_reader.specs.Meaning.{meaning_of_cand}
use Rattle.index_reader.specs.work.Reads.{index_meant}
use Rattle.index_reader.proofs.CandLemmas.{cand-goes-on}
use Rattle.index_reader.proofs.IndexLemmas.{cand-read, every-cand, parts-of}
use Rattle.index_reader.proofs.SoundLemmas.{sound-as}
use Rattle.index_reader.proofs.read.cand.Goals as goal

pub first_token-requires : goal.first_token-requires
first_token-requires c =
    let place = cand-goes-on c.args.text.now c.args.tokens.now c.args.first c.args.end c.requires.part in
    omega (arith, place.0, place.1)

pub index-requires : goal.index-requires
index-requires c = let (x, at) = c.requires.part in parts-of x c.part-from.result (c.part-from.ensures ∙ sym at.words)

pub returns-clause-meaning : goal.returns-clause-meaning
returns-clause-meaning c = λ x start later whole at.
    subst (λ (k : Token). Reads index_meant (meaning_of_cand c.args.cat.now k x) [] c.index.result []) (c.first_token.ensures ∙ ap (λ (ts : List Token). token_at ts 0) whole)
    (every-cand c.args.cat.now c.first_token.result c.part-from.result c.index.result c.index.ensures x (c.part-from.ensures ∙ sym at.words))

pub returns-clause-sound : goal.returns-clause-sound
returns-clause-sound c =
    let (x, at) = c.requires.part in
    let told = every-cand c.args.cat.now c.first_token.result c.part-from.result c.index.result c.index.ensures x (c.part-from.ensures ∙ sym at.words) in
    sound-as c.args.cat.now c.args.text.now c.lawful.ensures c.args.tokens.now c.requires.words.0 c.args.first c.args.end x c.first_token.result c.index.result c.requires.words.1 at
    (cand-read (meaning_of_cand c.args.cat.now c.first_token.result x) c.index.result told)
