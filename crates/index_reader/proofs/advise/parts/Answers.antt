use Rattle.std.proofs.Common.{List, arith, subst}
use Rattle.catalog.specs.Contents.{NamedIndex}
use Rattle.catalog.specs.Candidates.{with_candidates}
use Rattle.index_reader.specs.work.Walk.{HaveRoom}
use Rattle.index_reader.proofs.StandLemmas.{few-tokens}
use Rattle.index_reader.proofs.StatementLemmas.{all-meant, candidates-wrong, number-wrong, queries-wrong, room-wrong}
use Rattle.index_reader.proofs.ReadLemmas.{all-room-of, candidates-fault, end-inside, first-there, number-fault, parts-stopped, queries-fault, room-of, sound-as}
use Rattle.index_reader.proofs.advise.parts.Goals as goal

pub returns-in_err-most-clause-told : goal.returns-in_err-most-clause-told
returns-in_err-most-clause-told c = λ n w q start later whole p.
    parts-stopped c.args.cat.now start c.args.text.now c.args.tokens.now n w q _ c.from_residual.result
    (λ f is. number-wrong c.args.cat.now start c.args.tokens.now n w q f (number-fault c.args.cat.now start c.args.text.now c.args.tokens.now n w q c.in_err-most.field-0.0 f is (c.in_err-most.ensures.told n p.behind-number p.number)))
    c.from_residual.ensures.1

pub returns-in_err-candidates-clause-told : goal.returns-in_err-candidates-clause-told
returns-in_err-candidates-clause-told c = λ n w q start later whole p.
    parts-stopped c.args.cat.now start c.args.text.now c.args.tokens.now n w q _ c.from_residual-in_err-candidates.result
    (λ f is. candidates-wrong c.args.cat.now start c.args.tokens.now n w q c.in_ok-most.most f (c.in_ok-most.ensures.told n p.behind-number p.number)
    (candidates-fault c.args.cat.now start c.args.text.now c.args.tokens.now n w q _ f is (c.in_err-candidates.ensures.told w start later whole p.row)))
    c.from_residual-in_err-candidates.ensures.1

pub returns-in-Some-clause-told : goal.returns-in-Some-clause-told
returns-in-Some-clause-told c = λ n w q start later whole p.
    let read = c.in_ok-candidates.field-0 in
    let told = c.in_ok-candidates.ensures.told w start later whole p.row in
    room-wrong c.args.cat.now start c.args.tokens.now n w q c.in_ok-most.most read.candidates.items c.in-Some.fault (c.in_ok-most.ensures.told n p.behind-number p.number) told.0
    (room-of c.args.cat.now start c.args.text.now c.args.tokens.now n w q read c.deref.result.now c.deref-2.result.now _ c.deref.ensures.value c.deref-2.ensures.value told c.in-Some.ensures.told)

pub overflow_add-end : goal.overflow_add-end
overflow_add-end c =
    let (n, w, q, p) = c.requires.there in
    let (start, later, whole) = first-there c.args.text.now c.args.tokens.now n w q p in
    let lt = end-inside c.args.cat.now start c.args.text.now c.args.tokens.now n w q c.in_ok-candidates.field-0 (c.in_ok-candidates.ensures.told w start later whole p.row) in
    let few = few-tokens c.args.text.now c.args.tokens.now c.requires.words c.requires.short in
    omega (arith, lt, few)

pub queries-requires-clause-there : goal.queries-requires-clause-there
queries-requires-clause-there c =
    let (n, w, q, p) = c.requires.there in
    let (start, later, whole) = first-there c.args.text.now c.args.tokens.now n w q p in
    let told = c.in_ok-candidates.ensures.told w start later whole p.row in
    (q, p.queries c.in_ok-candidates.field-0.end told.2)

pub returns-in_err-queries-clause-told : goal.returns-in_err-queries-clause-told
returns-in_err-queries-clause-told c = λ n w q start later whole p.
    let read = c.in_ok-candidates.field-0 in
    let told = c.in_ok-candidates.ensures.told w start later whole p.row in
    parts-stopped c.args.cat.now start c.args.text.now c.args.tokens.now n w q _ c.from_residual-in_err-queries.result
    (λ f is. queries-wrong c.args.cat.now start c.args.tokens.now n w q c.in_ok-most.most read.candidates.items f (c.in_ok-most.ensures.told n p.behind-number p.number) told.0
    (all-room-of c.args.cat.now start c.args.text.now c.args.tokens.now n w q read c.deref.result.now c.deref-2.result.now c.deref.ensures.value c.deref-2.ensures.value told c.in_default.ensures.told)
    (queries-fault c.args.cat.now start c.args.text.now c.args.tokens.now n w q _ f is (c.in_err-queries.ensures.told q start later whole (p.queries read.end told.2))))
    c.from_residual-in_err-queries.ensures.1

pub returns-clause-told : goal.returns-clause-told
returns-clause-told c = λ n w q start later whole p.
    let read = c.in_ok-candidates.field-0 in
    let told = c.in_ok-candidates.ensures.told w start later whole p.row in
    all-meant c.args.cat.now start c.args.tokens.now n w q c.in_ok-most.most read.candidates.items c.in_ok-queries.queries.items (c.in_ok-most.ensures.told n p.behind-number p.number) told.0
    (all-room-of c.args.cat.now start c.args.text.now c.args.tokens.now n w q read c.deref.result.now c.deref-2.result.now c.deref.ensures.value c.deref-2.ensures.value told c.in_default.ensures.told)
    (c.in_ok-queries.ensures.told q start later whole (p.queries read.end told.2))

pub returns-clause-sound : goal.returns-clause-sound
returns-clause-sound c =
    let (n, w, q, p) = c.requires.there in
    let (start, later, whole) = first-there c.args.text.now c.args.tokens.now n w q p in
    let read = c.in_ok-candidates.field-0 in
    let told = c.in_ok-candidates.ensures.told w start later whole p.row in
    sound-as c.args.cat.now start c.args.text.now c.args.tokens.now n w q c.in_ok-most.most read.candidates.items c.in_ok-queries.queries.items p c.in_ok-most.ensures.few c.in_ok-candidates.ensures.sound
    (subst (λ (l : List NamedIndex). HaveRoom (with_candidates c.args.cat.now l)) c.deref-2.ensures.value c.in_default.ensures.room) c.in_ok-queries.ensures.sound
    (c.in_ok-queries.ensures.told q start later whole (p.queries read.end told.2))
