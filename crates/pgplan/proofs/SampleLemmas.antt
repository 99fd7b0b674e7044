-- What the top call tells of a script that is summed up.
use Rattle.std.proofs.Common.{◌≡◌, ◌⊎◌, ℕ, List, refl, sym, ◌∙◌, ap, subst, arith, inl, inr, Option, Result, Ok, Err, OnOk, IfErr, IsErrAnd}
use Rattle.pg_base.specs.declared.faults.Fault.{Fault}
use Rattle.catalog.specs.Contents.{Contents}
use Rattle.reply_text.specs.Lines.{fault_line}
use Rattle.reply_text.specs.Tells.{IsFieldOf}
use Rattle.sql_query.specs.Worlds.{World, empty_world}
use Rattle.statements.specs.declared.end.End.{End}
use Rattle.statements.specs.declared.end.End.TheVariants as ends
use Rattle.pgplan.specs.Runs.{HasNoFault, ReachesFault}
use Rattle.statements.specs.Scripts.{world_after}
use Rattle.pgplan.specs.Statuses.{IsTold, line_of}
use Rattle.pgplan.specs.work.Statuses.{line_of_work, number_of, status_of_work}
use Rattle.statements.specs.work.Steps.{HasField}
use Rattle.pgplan.specs.Summaries.{AreSummed, IsSummedUp}
use Rattle.pgplan.specs.work.Summaries.{EndsTally, EndsUnsummed, IsSumOver}
use Rattle.pgplan.proofs.TopLemmas.{none_reached_from}

-- a text that was not summed up
pub unsummed : (e : End) (text : List ℕ) (w : World) (held : Option (List ℕ)) → EndsTally e text w → EndsUnsummed e text w held held
unsummed (ends.Fault f) text w held is = (is, refl)
unsummed ends.Write text w held is = absurd is
unsummed ends.Memory text w held is = refl

pub never-writes : (e : End) (text : List ℕ) (w : World) → EndsTally e text w → e ≡ ends.Write → ⊥
never-writes (ends.Fault f) text w is same = cc (same)
never-writes ends.Write text w is same = is
never-writes ends.Memory text w is same = cc (same)

-- what a `?` hands on
pub unsummed-by : {A : Type 0} (r : Result A End) (e : End) (text : List ℕ) (w : World) (held held' : Option (List ℕ)) → EndsUnsummed e text w held held' → IsErrAnd r (λ x. x ≡ e) → IfErr r (λ x. EndsUnsummed x text w held held')
unsummed-by (Ok u) e text w held held' ends is = tt
unsummed-by (Err x) e text w held held' ends is = subst (λ (y : End). EndsUnsummed y text w held held') (sym is) ends

-- how a run that sums up ends, by the world that is left
abbrev pub Summed : Result (Unit {0}) End → List ℕ → World → (held held' : Option (List ℕ)) → Type 0
Summed ended text w held held' = OnOk ended (IsSummedUp text held held') × IfErr ended (λ e. EndsUnsummed e text w held held')

-- a fault that ends it has its field
pub sum_has_field : (ended : Result (Unit {0}) End) (text : List ℕ) (w : World) (c : Contents) (held held' : Option (List ℕ)) → IfErr ended (λ e. EndsUnsummed e text w held held') → c ≡ w.contents → IfErr ended (HasField c)
sum_has_field (Ok u) text w c held held' is same = tt
sum_has_field (Err (ends.Fault f)) text w c held held' ((reached, at, left, field), still) same = subst (λ (k : Contents). IsFieldOf k f) (sym same) field
sum_has_field (Err ends.Write) text w c held held' is same = tt
sum_has_field (Err ends.Memory) text w c held held' is same = tt

-- what the status and the line tell of it
pub sum_over : (ended : Result (Unit {0}) End) (status : ℕ) (text : List ℕ) (w : World) (c : Contents) (held held' errs errs' : Option (List ℕ)) (before now : ℕ) →
    Summed ended text w held held' → c ≡ w.contents → status ≡ number_of (status_of_work ended) → IsTold errs errs' before now (line_of_work c text ended) → IsSumOver status text held held' errs errs' before now
sum_over (Ok u) status text w c held held' errs errs' before now is same number told = record {
  among = inl number;
  done = λ e. is.0;
  refused = λ e. absurd (omega (arith, e, number));
  cut = λ e. absurd (omega (arith, e, number));
  unwritten = λ e. absurd (omega (arith, e, number));
  line = λ other. rw number told;
}
sum_over (Err (ends.Fault f)) status text w c held held' errs errs' before now (_, ((reached, at, left, field), still)) same number told =
    let contents : c ≡ (world_after empty_world reached.statements).contents = same ∙ ap (λ (v : World). v.contents) left in
    record {
      among = inr (inl number);
      done = λ e. absurd (omega (arith, e, number));
      refused = λ e. record {
        reached = reached;
        told =
            subst (λ (g : Fault). IsTold errs errs' before now (fault_line (world_after empty_world reached.statements).contents text g)) (sym at)
            (subst (λ (k : Contents). IsTold errs errs' before now (fault_line k text f)) contents told);
        unwritten = still;
      };
      cut = λ e. absurd (omega (arith, e, number));
      unwritten = λ e. absurd (omega (arith, e, number));
      line = λ other. absurd (other number);
    }
sum_over (Err ends.Write) status text w c held held' errs errs' before now is same number told = record {
  among = inr (inr (inl number));
  done = λ e. absurd (omega (arith, e, number));
  refused = λ e. absurd (omega (arith, e, number));
  cut = λ e. is.1;
  unwritten = λ e. absurd (omega (arith, e, number));
  line = λ other. rw number told;
}
sum_over (Err ends.Memory) status text w c held held' errs errs' before now is same number told = record {
  among = inr (inr (inr number));
  done = λ e. absurd (omega (arith, e, number));
  refused = λ e. absurd (omega (arith, e, number));
  cut = λ e. absurd (omega (arith, e, number));
  unwritten = λ e. is.1;
  line = λ other. rw number told;
}

-- there was no memory for the script
pub sum_without_memory : (status : ℕ) (text : List ℕ) (held errs errs' : Option (List ℕ)) (before now : ℕ) → status ≡ 5 → IsTold errs errs' before now (line_of 5) → IsSumOver status text held held errs errs' before now
sum_without_memory status text held errs errs' before now number told = record {
  among = inr (inr (inr number));
  done = λ e. absurd (omega (arith, e, number));
  refused = λ e. absurd (omega (arith, e, number));
  cut = λ e. absurd (omega (arith, e, number));
  unwritten = λ e. refl;
  line = λ other. rw number told;
}

-- where all statements were worked, no fault is reached
summed_apart : (text : List ℕ) (q r c : ℕ) → AreSummed text q r c → ReachesFault text → ⊥
summed_apart text q r c summed reached =
    none_reached_from empty_world text 0 summed.statements reached.statements reached.fault summed.all.first summed.all.ended reached.first reached.more reached.is

module _ (status : ℕ) (text : List ℕ) (held held' errs errs' : Option (List ℕ)) (before now : ℕ) (is : IsSumOver status text held held' errs errs' before now) where
  pub sum_complete : HasNoFault text → (status ≡ 0) ⊎ ((status ≡ 4) ⊎ (status ≡ 5))
  sum_complete sound = elim is.among [
    | inl done ↦ inl done
    | inr (inl refused) ↦ absurd (sound (is.refused refused).reached)
    | inr (inr (inl cut)) ↦ inr (inl cut)
    | inr (inr (inr memory)) ↦ inr (inr memory)
  ]

  pub sum_reached : ReachesFault text → (status ≡ 3) ⊎ (status ≡ 5)
  sum_reached reached = elim is.among [
    | inl done ↦ let s = (is.done done).summary in absurd (summed_apart text s.queries s.rows s.cost s.summed reached)
    | inr (inl refused) ↦ inl refused
    | inr (inr (inl cut)) ↦ let s = (is.cut cut).summary in absurd (summed_apart text s.queries s.rows s.cost s.summed reached)
    | inr (inr (inr memory)) ↦ inr memory
  ]
