-- Replies to blocks that are given for plans.
use Rattle.std.proofs.Common.{◌≡◌, ℕ, ◌+◌, ◌≤◌, Bool, List, ◌++◌, length, refl, arith, ap, ap₂, ◌∙◌, subst, Option, None, Result, Ok, Err, OnOk, OnErr, sym}
use Rattle.std.specs.Io.KnownBytes.{Appends}
use Rattle.pg_base.specs.Writing.{AppendsPrefix}
use Rattle.sql_query.specs.Meaning.{windowed}
use Rattle.sql_query.specs.Queries.{Query}
use Rattle.sql_query.specs.Tuples.{Tuple, no_rows}
use Rattle.sql_query.specs.WellBound.{IsWellBound}
use Rattle.sql_query.specs.Worlds.{World, IsWorld}
use Rattle.sql_query.specs.declared.window.Window.{Window}
use Rattle.plan_tree.specs.Costs.{cost, price, price_by}
use Rattle.plan_tree.specs.Counts.{fetches, looks}
use Rattle.plan_tree.specs.Plans.{Plan}
use Rattle.plan_tree.specs.work.Views.{plan}
use Rattle.reply.specs.scan_exec_Coming.{Coming, coming}
use Rattle.plan_laws.specs.Closed.{is_scan}
use Rattle.executor.specs.Opening.{opening_fetches}
use Rattle.executor.specs.work.Reading.{Reading}
use Rattle.reply.specs.explain_Texts.{plan_text}
use Rattle.reply.specs.plan_laws_FinishedLemmas.{finished_is_meaning}
use Rattle.reply.specs.plan_laws_FinishedOrderLemmas.{finished_is_ordered}
use Rattle.plan_space.specs.Numbered.{CostAndRows}
use Rattle.plan_reader.specs.Written.{written_text}
use Rattle.plan_reader.proofs.OwnLemmas.{own-plan}
use Rattle.reply.specs.Answers.{result_text, tuples_of}
use Rattle.reply.specs.Effort.{HasRisen, Rise, answer_fetches, answer_looks, exactly, fetched_by, last_in, looked_by}
use Rattle.reply.specs.Replies.{HasBegun, HasReplied, Reply, traces}
use Rattle.plan_reply.specs.Told.{IsGoodPlan, IsPlanAnswer, IsPlanReplyTo, IsRefusedPlan, planned, refused}
use Rattle.plan_reply.specs.work.Told.{IsTold}
use Rattle.plan_reply.specs.declared.told.Told.{Told}
use Rattle.plan_reply.specs.declared.told.Told.TheVariants as tellings

-- a line alone
module _ (w : World) (q : Query) (block line : List ℕ) (is : IsRefusedPlan w.contents q block line) where
  abbrev pub line_reply : Reply
  line_reply = record { bytes = line; fetched = exactly 0; looked = 0 }

  pub line-answers : IsPlanReplyTo w q block line_reply
  line-answers = refused is refl refl

  module _ (a b : Option (List ℕ)) (f l : ℕ) where
    pub line-replied : {E : Type 0} (result : Result (Unit {0}) E) (text : List ℕ) → text ≡ line → OnOk result (Appends a b text) → OnOk result (HasReplied (IsPlanReplyTo w q block) (traces a f l) (traces b f l))
    line-replied (Ok u) text same gained =
        let P : List ℕ → Type 0 = λ x. Appends a b x in
        record { reply = line_reply; answers = line-answers; gained = subst P same gained; fetched = record { above = omega arith; within = omega arith; exact = omega arith }; looked = omega arith }
    line-replied (Err e) text same gained = tt

    pub line-begun : {E : Type 0} (result : Result (Unit {0}) E) (text : List ℕ) → text ≡ line → OnErr result (AppendsPrefix a b text) → OnErr result (HasBegun (IsPlanReplyTo w q block) (traces a f l) (traces b f l))
    line-begun (Ok u) text same gained = tt
    line-begun (Err e) text same gained =
        let P : List ℕ → Type 0 = λ x. AppendsPrefix a b x in
        record { reply = line_reply; answers = line-answers; gained = subst P same gained; fetched = omega arith; looked = omega arith }

-- the answer by a good plan
module _ (w : World) (q : Query) (block : List ℕ) (p : Plan) (world : IsWorld w) (bound : IsWellBound w.contents q) (none : q.window ≡ None) (is : IsGoodPlan w.contents q block p) where
  pub block-is : block ≡ plan_text w.contents q p
  block-is = is.read.written ∙ ap (λ (ns : List CostAndRows). written_text w.contents q p ns) is.good.numbers ∙ sym (own-plan w.contents q p none)

  abbrev pub answer_bytes : List ℕ
  answer_bytes = block ++ result_text w q (tuples_of w q p)

  abbrev pub answer_reply : Reply
  answer_reply = record { bytes = answer_bytes; fetched = answer_fetches w q p; looked = answer_looks w q p }

  priced : price w.contents q p ≡ (cost w.contents q p).total
  priced = ap (λ (o : Option Window). price_by w.contents q o p) none

  plan-answer : IsPlanAnswer w q p answer_bytes
  plan-answer = record {
    finished = is.good.finished;
    dearer = λ best least. let le = least.least p is.good.finished is.good.admissible in let total = priced in omega (arith, le, total);
    meant = finished_is_meaning w q world bound p is.good.finished;
    ordered = finished_is_ordered w q p world bound is.good.finished;
    printed = ap (λ (x : List ℕ). x ++ result_text w q (tuples_of w q p)) block-is;
  }

  pub answers : IsPlanReplyTo w q block answer_reply
  answers = planned (record { plan = p; good = is; same = block-is; answer = plan-answer; fetched = refl; looked = refl })

  -- nothing is done
  pub begun-none : (a : Option (List ℕ)) (f l : ℕ) → AppendsPrefix a a answer_bytes → HasBegun (IsPlanReplyTo w q block) (traces a f l) (traces a f l)
  begun-none a f l gained = record { reply = answer_reply; answers = answers; gained = gained; fetched = omega arith; looked = omega arith }

  -- what a call did that printed the block and the tuples of a reading, where these are the plan's
  module _ (r : Reading) (a b : Option (List ℕ)) (f f' l l' : ℕ) (left : r.left ≡ tuples_of w q p) (owed : r.owed ≡ fetches w q p (no_rows q)) (opening : r.opening ≡ opening_fetches w q p) (allowed : r.allowed ≡ looks w q p (no_rows q))
      (one : r.one ≡ is_scan p) (come : r.coming ≡ coming w q p (no_rows q)) where
    abbrev rise : Rise
    rise = fetched_by (last_in q.window) (length r.left) r.owed r.opening r.one r.coming

    abbrev most_looks : ℕ
    most_looks = looked_by (last_in q.window) r.allowed (length (windowed q.window r.left))

    bytes-are : block ++ result_text w q (windowed q.window r.left) ≡ answer_bytes
    bytes-are = ap₂ (λ (o : Option Window) (ts : List Tuple). block ++ result_text w q (windowed o ts)) none left

    rise-is : rise ≡ answer_fetches w q p
    rise-is =
        ap₂ (λ (ts : List Tuple) (n : ℕ). fetched_by (last_in q.window) (length ts) n r.opening r.one r.coming) left owed
        ∙ ap (λ (n : ℕ). fetched_by (last_in q.window) (length (tuples_of w q p)) (fetches w q p (no_rows q)) n r.one r.coming) opening
        ∙ ap₂ (λ (x : Bool) (cs : List Coming). fetched_by (last_in q.window) (length (tuples_of w q p)) (fetches w q p (no_rows q)) (opening_fetches w q p) x cs) one come

    looks-are : most_looks ≡ answer_looks w q p
    looks-are = ap₂ (λ (n : ℕ) (ts : List Tuple). looked_by (last_in q.window) n (length (windowed q.window ts))) allowed left

    pub replied-on : {E : Type 0} (result : Result (Unit {0}) E) → OnOk result (Appends a b (block ++ result_text w q (windowed q.window r.left))) → OnOk result (HasRisen rise f f') → l' ≤ l + most_looks →
        OnOk result (HasReplied (IsPlanReplyTo w q block) (traces a f l) (traces b f' l'))
    replied-on (Ok u) gained fetched looked =
        let P : List ℕ → Type 0 = λ x. Appends a b x in
        let R : Rise → Type 0 = λ x. HasRisen x f f' in
        let same = looks-are in
        record { reply = answer_reply; answers = answers; gained = subst P bytes-are gained; fetched = subst R rise-is fetched; looked = omega (arith, looked, same) }
    replied-on (Err e) gained fetched looked = tt

    pub begun-on : {E : Type 0} (result : Result (Unit {0}) E) → OnErr result (AppendsPrefix a b (block ++ result_text w q (windowed q.window r.left))) → f' ≤ f + rise.most → l' ≤ l + most_looks →
        OnErr result (HasBegun (IsPlanReplyTo w q block) (traces a f l) (traces b f' l'))
    begun-on (Ok u) gained fetched looked = tt
    begun-on (Err e) gained fetched looked =
        let P : List ℕ → Type 0 = λ x. AppendsPrefix a b x in
        let R : Rise → Type 0 = λ x. f' ≤ f + x.most in
        let same = looks-are in
        record { reply = answer_reply; answers = answers; gained = subst P bytes-are gained; fetched = subst R rise-is fetched; looked = omega (arith, looked, same) }

-- whatever is told, there is a reply
pub told-answers : (w : World) (q : Query) (block : List ℕ) (t : Told) → IsWorld w → IsWellBound w.contents q → q.window ≡ None → IsTold w.contents q block t → (r : Reply) × IsPlanReplyTo w q block r
told-answers w q block (tellings.Line bytes) world bound none is = (line_reply w q block bytes.items is, line-answers w q block bytes.items is)
told-answers w q block (tellings.Plan x) world bound none is = (answer_reply w q block (plan x) world bound none is, answers w q block (plan x) world bound none is)
