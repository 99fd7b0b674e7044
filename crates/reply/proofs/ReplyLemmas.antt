-- Replies, by a best plan.
use Rattle.std.proofs.Common.{◌≡◌, ℕ, ◌+◌, ◌≤◌, Bool, List, ◌++◌, length, refl, arith, ap, ap₂, ◌∙◌, subst, Option, Result, Ok, Err, IfErr, OnOk, OnErr, IsPermutation}
use Rattle.std.specs.Result.{IsErrAnd}
use Rattle.std.specs.Io.KnownBytes.{Appends}
use Rattle.pg_base.specs.Writing.{AppendsPrefix}
use Rattle.catalog.specs.Contents.{Contents}
use Rattle.sql_query.specs.Meaning.{IsOrdered, meaning, windowed}
use Rattle.sql_query.specs.Queries.{Query}
use Rattle.sql_query.specs.Tuples.{Tuple, no_rows}
use Rattle.sql_query.specs.Worlds.{World}
use Rattle.plan_tree.specs.Counts.{fetches, looks}
use Rattle.plan_tree.specs.Least.{IsBestPlan}
use Rattle.plan_tree.specs.Plans.{Plan}
use Rattle.executor.specs.scan_exec_Coming.{Coming, coming}
use Rattle.executor.specs.Opening.{opening_fetches}
use Rattle.executor.specs.plan_laws_Closed.{is_scan}
use Rattle.executor.specs.work.Reading.{Reading}
use Rattle.explain.specs.Texts.{explained_text}
use Rattle.reply.specs.Answers.{result_text, tuples_of}
use Rattle.reply.specs.Effort.{HasRisen, Rise, answer_fetches, answer_looks, exactly, fetched_by, last_in, looked_by}
use Rattle.reply.specs.Replies.{HasBegun, HasReplied, IsAnswerTo, IsExplanationOf, Reply, traces}
use Rattle.reply.specs.work.Stops.{stop_by}
use Rattle.reply.specs.declared.stop.Broken.{Broken}
use Rattle.reply.specs.declared.stop.Broken.TheVariants.{Write, Memory}
use Rattle.reply.specs.declared.stop.Stop.{Stop}
use Rattle.reply.specs.declared.stop.Stop.TheVariants as stops

-- a text that is not written whole is of a query that has a plan
pub broken-has-plan : (r : Result (Unit {0}) Stop) (b : Broken) (P : Type 0) → IsErrAnd r (λ e. e ≡ stop_by b) → IfErr r (λ e. e ≡ stops.NoPlan → P)
broken-has-plan (Ok u) b P is = tt
broken-has-plan (Err e) b P is = by b is
  where
    by : (b : Broken) → e ≡ stop_by b → e ≡ stops.NoPlan → P
    by Write same none = absurd (cc (same, none))
    by Memory same none = absurd (cc (same, none))

module _ (c : Contents) (q : Query) (p : Plan) (a b : Option (List ℕ)) (best : IsBestPlan c q p) where
  abbrev explanation : Reply
  explanation = record { bytes = explained_text c q p; fetched = exactly 0; looked = 0 }

  abbrev is_explanation : IsExplanationOf c q explanation
  is_explanation = record { plan = p; explanation = record { best = best; printed = refl }; fetched = refl; looked = refl }

  pub explained : Appends a b (explained_text c q p) → HasReplied (IsExplanationOf c q) (traces a 0 0) (traces b 0 0)
  explained gained = record {
    reply = explanation;
    answers = is_explanation;
    gained = gained;
    fetched = record { above = omega arith; within = omega arith; exact = refl };
    looked = omega arith;
  }

  pub explaining : AppendsPrefix a b (explained_text c q p) → HasBegun (IsExplanationOf c q) (traces a 0 0) (traces b 0 0)
  explaining gained = record { reply = explanation; answers = is_explanation; gained = gained; fetched = omega arith; looked = omega arith }

-- an answer by a best plan whose tuples are the query's meaning, in its order
module _ (w : World) (q : Query) (p : Plan) (best : IsBestPlan w.contents q p) (meant : IsPermutation (tuples_of w q p) (meaning w q)) (ordered : IsOrdered w q (tuples_of w q p)) where
  abbrev pub answer_bytes : List ℕ
  answer_bytes = explained_text w.contents q p ++ result_text w q (windowed q.window (tuples_of w q p))

  abbrev pub answer_reply : Reply
  answer_reply = record { bytes = answer_bytes; fetched = answer_fetches w q p; looked = answer_looks w q p }

  abbrev pub is_answer : IsAnswerTo w q answer_reply
  is_answer = record { plan = p; answer = record { best = best; meant = meant; ordered = ordered; printed = refl }; fetched = refl; looked = refl }

  pub answered : (a b : Option (List ℕ)) (f f' l l' : ℕ) → Appends a b answer_bytes → HasRisen (answer_fetches w q p) f f' → l' ≤ l + answer_looks w q p
      → HasReplied (IsAnswerTo w q) (traces a f l) (traces b f' l')
  answered a b f f' l l' gained fetched looked = record { reply = answer_reply; answers = is_answer; gained = gained; fetched = fetched; looked = looked }

  pub answering : (a b : Option (List ℕ)) (f f' l l' : ℕ) → AppendsPrefix a b answer_bytes → f' ≤ f + (answer_fetches w q p).most → l' ≤ l + answer_looks w q p
      → HasBegun (IsAnswerTo w q) (traces a f l) (traces b f' l')
  answering a b f f' l l' gained fetched looked = record { reply = answer_reply; answers = is_answer; gained = gained; fetched = fetched; looked = looked }

  -- what a call did that printed a text and the tuples of a reading, where these are the plan's
  module _ (text : List ℕ) (r : Reading) (a b : Option (List ℕ)) (f f' l l' : ℕ) (of_text : text ≡ explained_text w.contents q p) (left : r.left ≡ tuples_of w q p) (owed : r.owed ≡ fetches w q p (no_rows q)) (opening : r.opening ≡ opening_fetches w q p)
      (allowed : r.allowed ≡ looks w q p (no_rows q)) (one : r.one ≡ is_scan p) (come : r.coming ≡ coming w q p (no_rows q)) where
    abbrev rise : Rise
    rise = fetched_by (last_in q.window) (length r.left) r.owed r.opening r.one r.coming

    abbrev most_looks : ℕ
    most_looks = looked_by (last_in q.window) r.allowed (length (windowed q.window r.left))

    bytes_are : text ++ result_text w q (windowed q.window r.left) ≡ answer_bytes
    bytes_are = ap₂ (λ (x : List ℕ) (ts : List Tuple). x ++ result_text w q (windowed q.window ts)) of_text left

    rise_is : rise ≡ answer_fetches w q p
    rise_is =
        ap₂ (λ (ts : List Tuple) (n : ℕ). fetched_by (last_in q.window) (length ts) n r.opening r.one r.coming) left owed
        ∙ ap (λ (n : ℕ). fetched_by (last_in q.window) (length (tuples_of w q p)) (fetches w q p (no_rows q)) n r.one r.coming) opening
        ∙ ap₂ (λ (b : Bool) (cs : List Coming). fetched_by (last_in q.window) (length (tuples_of w q p)) (fetches w q p (no_rows q)) (opening_fetches w q p) b cs) one come

    looks_are : most_looks ≡ answer_looks w q p
    looks_are = ap₂ (λ (n : ℕ) (ts : List Tuple). looked_by (last_in q.window) n (length (windowed q.window ts))) allowed left

    pub answered_on : {E : Type 0} (result : Result (Unit {0}) E) → OnOk result (Appends a b (text ++ result_text w q (windowed q.window r.left))) → OnOk result (HasRisen rise f f')
        → l' ≤ l + most_looks → OnOk result (HasReplied (IsAnswerTo w q) (traces a f l) (traces b f' l'))
    answered_on (Ok u) gained fetched looked =
        let P : List ℕ → Type 0 = λ x. Appends a b x in
        let R : Rise → Type 0 = λ x. HasRisen x f f' in
        answered a b f f' l l' (subst P bytes_are gained) (subst R rise_is fetched) (omega (arith, looked, looks_are))
    answered_on (Err e) gained fetched looked = tt

    pub answering_on : {E : Type 0} (result : Result (Unit {0}) E) → OnErr result (AppendsPrefix a b (text ++ result_text w q (windowed q.window r.left))) → f' ≤ f + rise.most
        → l' ≤ l + most_looks → OnErr result (HasBegun (IsAnswerTo w q) (traces a f l) (traces b f' l'))
    answering_on (Ok u) gained fetched looked = tt
    answering_on (Err e) gained fetched looked =
        let P : List ℕ → Type 0 = λ x. AppendsPrefix a b x in
        let R : Rise → Type 0 = λ x. f' ≤ f + x.most in
        answering a b f f' l l' (subst P bytes_are gained) (subst R rise_is fetched) (omega (arith, looked, looks_are))
