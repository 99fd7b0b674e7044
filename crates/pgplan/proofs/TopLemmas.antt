-- What the top call tells of a run.
use Rattle.std.proofs.Common.{◌≡◌, ◌⊎◌, ℕ, ◌+◌, ◌<◌, ◌≤◌, List, [], ◌∷◌, ◌++◌, length, refl, sym, ◌∙◌, ap, subst, arith, append-nil, inl, inr, Option, Some, None, Result, Ok, Err, OnOk, OnErr, IfErr}
use Rattle.std.proofs.lemmas.List.{take_all, length-append}
use Rattle.std.specs.Io.KnownBytes.{Appends, Consumes, IsAtEnd}
use Rattle.pg_base.specs.Causes.{HasCause}
use Rattle.pg_base.specs.Writing.{AppendsPrefix}
use Rattle.pg_base.specs.declared.faults.Fault.{Fault}
use Rattle.reply_text.specs.Lines.{fault_line}
use Rattle.catalog.specs.Contents.{Contents}
use Rattle.sql_query.specs.Worlds.{World, empty_world}
use Rattle.statements.specs.declared.end.End.{End}
use Rattle.statements.specs.declared.end.End.TheVariants as ends
use Rattle.store.specs.Actions.{Action, after}
use Rattle.statements.specs.reply_Putting.{HasWriteCause}
use Rattle.statements.specs.Faults.{IsFault}
use Rattle.reply_text.specs.Tells.{IsFieldOf}
use Rattle.statements.specs.work.Steps.{HasField}
use Rattle.statements.specs.Scripts.{Worked, AreWorked, world_after, place_after}
use Rattle.pgplan.specs.Statuses.{IsTold}
use Rattle.pgplan.specs.work.Statuses.{line_of_work, number_of, status_of_work}
use Rattle.pgplan.specs.Runs.{IsAnswered, HasNoFault, ReachesFault, IsCutShort}
use Rattle.pgplan.specs.work.Runs.{Ends, IsRunOver, HasStatusCause}
use Rattle.statements.proofs.OneReadingLemmas.{one_read, read_apart}

-- a line that was written, or stopped by a fault
told : {E : Type 0} (r : Result (Unit {0}) E) (old new : Option (List ℕ)) (before now : ℕ) (line : List ℕ) → OnOk r (Appends old new line) →
    OnErr r (AppendsPrefix old new line) → HasCause before now r → IsTold old new before now line
told (Ok u) old new before now line ok err cause = record { some = (length line, omega arith, rw (take_all (length line) line (omega arith)) ok); whole = λ quiet. ok }
told (Err e) old new before now line ok err cause = record { some = err; whole = λ quiet. absurd (quiet cause.failed) }

-- a fault's line is that of the run that ends in it
pub told_fault : {E : Type 0} (r : Result (Unit {0}) E) (ended : Result (Unit {0}) End) (c : Contents) (text : List ℕ) (f : Fault) (errs errs' : Option (List ℕ)) (before now : ℕ) → ended ≡ Err (ends.Fault f) →
    OnOk r (Appends errs errs' (fault_line c text f)) → OnErr r (AppendsPrefix errs errs' (fault_line c text f)) → HasCause before now r → IsTold errs errs' before now (line_of_work c text ended)
told_fault r ended c text f errs errs' before now is ok err cause = subst (λ e. IsTold errs errs' before now (line_of_work c text e)) (sym is) (told r errs errs' before now (fault_line c text f) ok err cause)

-- how statements end, by the world that is left
abbrev pub Ended : Result (Unit {0}) End → List ℕ → World → (held held' : Option (List ℕ)) → Type 0
Ended ended text w held held' = OnOk ended (IsAnswered text held held') × IfErr ended (λ e. Ends e text w held held')

-- a fault that ends them has its field
pub has_field : (ended : Result (Unit {0}) End) (text : List ℕ) (w : World) (c : Contents) (held held' : Option (List ℕ)) → IfErr ended (λ e. Ends e text w held held') → c ≡ w.contents → IfErr ended (HasField c)
has_field (Ok u) text w c held held' is same = tt
has_field (Err (ends.Fault f)) text w c held held' is same = subst (λ (k : Contents). IsFieldOf k f) (sym same) is.2
has_field (Err ends.Write) text w c held held' is same = tt
has_field (Err ends.Memory) text w c held held' is same = tt

-- what the status and the line tell of a run
pub run_over : (ended : Result (Unit {0}) End) (status : ℕ) (text : List ℕ) (w : World) (c : Contents) (held held' errs errs' : Option (List ℕ)) (before now : ℕ) →
    Ended ended text w held held' → c ≡ w.contents → status ≡ number_of (status_of_work ended) → IsTold errs errs' before now (line_of_work c text ended) → IsRunOver status text held held' errs errs' before now
run_over (Ok u) status text w c held held' errs errs' before now is same number told = record {
  among = inl number;
  done = λ e. is.0;
  refused = λ e. absurd (omega (arith, e, number));
  cut = λ e. absurd (omega (arith, e, number));
  paused = λ e. absurd (omega (arith, e, number));
  line = λ other. rw number told;
}
run_over (Err (ends.Fault f)) status text w c held held' errs errs' before now (_, (statements, left, field, is)) same number told =
    let contents : c ≡ (world_after empty_world statements).contents = same ∙ ap (λ (v : World). v.contents) left in
    record {
      among = inr (inl number);
      done = λ e. absurd (omega (arith, e, number));
      refused = λ e. (statements, f, is, subst (λ k. IsTold errs errs' before now (fault_line k text f)) contents told);
      cut = λ e. absurd (omega (arith, e, number));
      paused = λ e. absurd (omega (arith, e, number));
      line = λ other. absurd (other number);
    }
run_over (Err ends.Write) status text w c held held' errs errs' before now is same number told = record {
  among = inr (inr (inl number));
  done = λ e. absurd (omega (arith, e, number));
  refused = λ e. absurd (omega (arith, e, number));
  cut = λ e. is.1;
  paused = λ e. absurd (omega (arith, e, number));
  line = λ other. rw number told;
}
run_over (Err ends.Memory) status text w c held held' errs errs' before now is same number told = record {
  among = inr (inr (inr number));
  done = λ e. absurd (omega (arith, e, number));
  refused = λ e. absurd (omega (arith, e, number));
  cut = λ e. absurd (omega (arith, e, number));
  paused = λ e. is.1;
  line = λ other. rw number told;
}

-- a failed out is reported, and nothing else is reported as one
pub cause_over : (ended : Result (Unit {0}) End) (status before now : ℕ) → status ≡ number_of (status_of_work ended) → HasWriteCause ends.Write before now ended → HasStatusCause status before now
cause_over (Ok u) status before now number cause = record { write = λ e. absurd (omega (arith, e, number)); quiet = λ other. cause.quiet (λ wrong. cc) }
cause_over (Err (ends.Fault f)) status before now number cause = record { write = λ e. absurd (omega (arith, e, number)); quiet = λ other. cause.quiet (λ wrong. cc) }
cause_over (Err ends.Write) status before now number cause = record { write = λ e. cause.write refl; quiet = λ other. absurd (other number) }
cause_over (Err ends.Memory) status before now number cause = record { write = λ e. absurd (omega (arith, e, number)); quiet = λ other. cause.quiet (λ wrong. cc) }

-- what was taken of a source to its end is all that it had
pub taken_is : (left left' : Option (List ℕ)) (taken text : List ℕ) → left ≡ Some text → Consumes left left' taken → IsAtEnd left' → taken ≡ text
taken_is left None taken text e took ended = let P : Option (List ℕ) → Type 0 = λ l. Consumes l None taken in absurd (subst P e took)
taken_is left (Some rest) taken text e took ended =
    let P : Option (List ℕ) → Type 0 = λ l. Consumes l (Some rest) taken in
    let whole : text ≡ taken ++ rest = subst P e took in
    let none : rest ≡ [] = ended in
    sym (append-nil taken) ∙ ap (λ (r : List ℕ). taken ++ r) (sym none) ∙ sym whole

-- what was taken of a source is no longer than what it had
pub taken_short : (left left' : Option (List ℕ)) (taken text : List ℕ) → left ≡ Some text → Consumes left left' taken → length taken ≤ length text
taken_short left None taken text e took = let P : Option (List ℕ) → Type 0 = λ l. Consumes l None taken in absurd (subst P e took)
taken_short left (Some rest) taken text e took =
    let P : Option (List ℕ) → Type 0 = λ l. Consumes l (Some rest) taken in
    let whole : text ≡ taken ++ rest = subst P e took in
    let long : length text ≡ length taken + length rest = ap length whole ∙ length-append taken rest in
    omega (arith, long)

-- where all statements can be worked, no fault is reached
pub none_reached_from : (w : World) (text : List ℕ) (from : ℕ) (all first : List Worked) (f : Fault) → AreWorked w text from all → place_after from all ≡ length text → AreWorked w text from first →
    place_after from first < length text → IsFault (world_after w first) text (place_after from first) f → ⊥
none_reached_from w text from [] [] f h ended k more fault = omega (arith, ended, more)
none_reached_from w text from [] (s ∷ ss) f h ended k more fault = let open_at = k.0 in omega (arith, ended, open_at)
none_reached_from w text from (s ∷ ss) [] f h ended k more fault = read_apart w text from s.next s.action s.reply f h.1 h.2 fault
none_reached_from w text from (s ∷ ss) (t ∷ ts) f h ended k more fault =
    let (action, next) = one_read w text from s.next t.next s.action t.action h.1 k.1 in
    let P : Action → ℕ → Type 0 = λ a n. AreWorked (after w a) text n ss × (place_after n ss ≡ length text) in
    let rest : P t.action t.next = subst (λ a. P a t.next) action (subst (P s.action) next (h.3, ended)) in
    none_reached_from (after w t.action) text t.next ss ts f rest.0 rest.1 k.3 more fault

pub none_reached : (text : List ℕ) (held held' : Option (List ℕ)) → IsAnswered text held held' → ReachesFault text → ⊥
none_reached text held held' is reached = none_reached_from empty_world text 0 is.statements reached.statements reached.fault is.all.first is.all.ended reached.first reached.more reached.is

module _ (status : ℕ) (text : List ℕ) (held held' errs errs' : Option (List ℕ)) (before now : ℕ) (is : IsRunOver status text held held' errs errs' before now) where
  -- a run over a text without a fault answers all, unless it is cut short
  over_complete : HasNoFault text → (status ≡ 0) ⊎ IsCutShort status
  over_complete sound = elim is.among [
    | inl done ↦ inl done
    | inr (inl refused) ↦
        let (statements, fault, ended, line) = is.refused refused in
        absurd (sound (record { statements = statements; first = ended.first; more = ended.more; fault = fault; is = ended.fault }))
    | inr (inr (inl cut)) ↦ inr (inr (inl cut))
    | inr (inr (inr memory)) ↦ inr (inr (inr memory))
  ]

  -- a run over a text in which a fault is reached prints it, unless it is cut short
  over_reached : ReachesFault text → (status ≡ 3) ⊎ IsCutShort status
  over_reached reached = elim is.among [
    | inl done ↦ absurd (none_reached text held held' (is.done done) reached)
    | inr (inl refused) ↦ inl refused
    | inr (inr (inl cut)) ↦ inr (inr (inl cut))
    | inr (inr (inr memory)) ↦ inr (inr (inr memory))
  ]

module _ (status : ℕ) (left left' held held' errs errs' : Option (List ℕ)) (taken text : List ℕ) (before now : ℕ) (e : left ≡ Some text) (took : Consumes left left' taken) (ended : IsAtEnd left')
    (is : IsRunOver status taken held held' errs errs' before now) where
  pub complete_run : HasNoFault text → (status ≡ 0) ⊎ IsCutShort status
  complete_run sound = over_complete status taken held held' errs errs' before now is (subst HasNoFault (sym (taken_is left left' taken text e took ended)) sound)

  pub reached_run : ReachesFault text → (status ≡ 3) ⊎ IsCutShort status
  reached_run reached = over_reached status taken held held' errs errs' before now is (subst ReachesFault (sym (taken_is left left' taken text e took ended)) reached)
