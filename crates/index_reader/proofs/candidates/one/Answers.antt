use Rattle.std.proofs.Common.{arith}
use Rattle.index_reader.specs.work.Reads.{index_meant}
use Rattle.index_reader.proofs.CandidateLemmas.{cand-ahead, cand-at, cand-refused, cand-stopped, eleventh-at, made, made-wrong, read-wrong}
use Rattle.index_reader.proofs.candidates.one.Goals as goal

pub returns-then-earlier-eq-MOST_CANDIDATES-clause-told : goal.returns-then-earlier-eq-MOST_CANDIDATES-clause-told
returns-then-earlier-eq-MOST_CANDIDATES-clause-told c = λ x next rest start later whole s ends low.
    eleventh-at c.args.cat.now start c.args.tokens.now c.args.earlier.now x c.args.text.now c.args.first c.items.result.now _ c.fault_at.result next rest s c.items.ensures c.fault_at.ensures c.if-earlier-eq-MOST_CANDIDATES.true

pub read_cand-requires-clause-part : goal.read_cand-requires-clause-part
read_cand-requires-clause-part c =
    let (x, next, rest, s, ends, low) = c.requires.there in
    (x, cand-at c.args.text.now c.args.tokens.now c.args.first c.end_of_candidate-end.result x next rest s (c.end_of_candidate-end.ensures x next rest s ends low))

pub returns-in_err-read-clause-told : goal.returns-in_err-read-clause-told
returns-in_err-read-clause-told c = λ x next rest start later whole s ends low.
    let part = cand-at c.args.text.now c.args.tokens.now c.args.first c.end_of_candidate-end.result x next rest s (c.end_of_candidate-end.ensures x next rest s ends low) in
    cand-stopped c.args.cat.now start c.args.tokens.now c.args.earlier.now c.args.first x _ c.from_residual.result
    (λ f is. read-wrong c.args.cat.now start c.args.tokens.now c.args.earlier.now x f (omega (arith, c.requires.few, c.if-earlier-eq-MOST_CANDIDATES.false)) (cand-refused _ _ f is (c.in_err-read.ensures.refused x start later whole part)))
    c.from_residual.ensures.1

pub returns-in-Some-clause-told : goal.returns-in-Some-clause-told
returns-in-Some-clause-told c = λ x next rest start later whole s ends low.
    let part = cand-at c.args.text.now c.args.tokens.now c.args.first c.end_of_candidate-end.result x next rest s (c.end_of_candidate-end.ensures x next rest s ends low) in
    made-wrong c.args.cat.now start c.args.tokens.now c.args.earlier.now x (index_meant c.in_ok-read.read) c.in-Some.fault (omega (arith, c.requires.few, c.if-earlier-eq-MOST_CANDIDATES.false)) (c.in_ok-read.ensures.read x start later whole part) c.in-Some.ensures

pub returns-clause-told : goal.returns-clause-told
returns-clause-told c = λ x next rest start later whole s ends low.
    let at = c.end_of_candidate-end.ensures x next rest s ends low in
    let part = cand-at c.args.text.now c.args.tokens.now c.args.first c.end_of_candidate-end.result x next rest s at in
    (made c.args.cat.now start c.args.tokens.now c.args.earlier.now x (index_meant c.in_ok-read.read) (omega (arith, c.requires.few, c.if-earlier-eq-MOST_CANDIDATES.false)) (c.in_ok-read.ensures.read x start later whole part) c.in_default.ensures, at)

pub returns-clause-ahead : goal.returns-clause-ahead
returns-clause-ahead c =
    let (x, next, rest, s, ends, low) = c.requires.there in
    cand-ahead c.args.text.now c.args.tokens.now c.args.first c.end_of_candidate-end.result x next rest s (c.end_of_candidate-end.ensures x next rest s ends low)
