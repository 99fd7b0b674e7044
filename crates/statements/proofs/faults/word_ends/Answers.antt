use Rattle.std.proofs.Common.{ℕ, List, add-one, ◌+◌, ◌∷◌, ◌++◌, ◌<◌, ◌∙◌, [], ap, sym, length, get_or, take, arith}
use Rattle.std.proofs.lemmas.List.{get_or_default, take_all, take_more}
use Rattle.statements.specs.Faults.{word_ends as ends_of_words}
use Rattle.statements.proofs.WordEndLemmas.{ends-at, ends-length}
use Rattle.statements.proofs.faults.word_ends.Goals as goal

pub loop-n-preserved : goal.loop-n-preserved
loop-n-preserved c =
    let at = c.args.at.now in
    let words = c.args.name.now ∷ c.args.names.now in
    let n = c.loop-n.n in
    let places = c.requires.places in
    let within : n < length c.args.names.now = omega (arith, c.loop-n-test.true) in
    let same = ends-length at words (omega (arith, places)) in
    let more = take_more (ends_of_words at words) (n + 1) 0 (omega (arith, same, within)) in
    let here = ends-at at words (n + 1) (omega (arith, places, within)) (omega (arith, within)) in
    let long = ap length (c.items-in-loop-n.ensures ∙ (c.index-names-n.is ∙ get_or_default c.args.names.now n c.index-names-n.result [] within ∙ sym (ap (λ (k : ℕ). get_or words k []) (add-one n)))) in
    c.in_ok-push-2.ensures.items ∙ (ap (λ (k : ℕ). c.loop-n.ends.items ++ (get_or at (n + 1) 0 + k) ∷ []) long ∙ ap (λ (l : List ℕ). l ++ (get_or at (n + 1) 0 + length (get_or words (n + 1) [])) ∷ []) c.loop-n.invariant ∙ sym (more ∙ ap (λ (k : ℕ). take (n + 1) (ends_of_words at words) ++ k ∷ []) here))

pub returns : goal.returns
returns c =
    let at = c.args.at.now in
    let words = c.args.name.now ∷ c.args.names.now in
    let same = ends-length at words (omega (arith, c.requires.places)) in
    c.loop-n.invariant ∙ take_all (c.loop-n.n + 1) (ends_of_words at words) (omega (arith, same, c.loop-n-test.false))
