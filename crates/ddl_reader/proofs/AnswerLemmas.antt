-- What a call answers, by its answer.
use Rattle.std.proofs.Common.{◌≡◌, List, [], ◌∷◌, ◌++◌, map, ap, ◌∙◌, refl, Option, Some, None, Result, Ok, Err, MatchOption}
use Rattle.std.proofs.lemmas.List.{map-append}
use Rattle.pg_base.specs.declared.faults.Fault.{Fault}
use Rattle.pg_base.specs.declared.faults.Refusal.{Refusal}
use Rattle.pg_base.specs.declared.faults.Refusal.TheVariants as refusal
use Rattle.ddl_reader.specs.work.AsMeant.{IsAsMeant, Tells}

module _ (T : Type 0) (A : Type 0) (B : T → Type 0) where
  pub none-of : (o : Option T) → ((x : T) → o ≡ Some x → ⊥) → MatchOption o A B → A
  none-of None other m = m
  none-of (Some x) other m = absurd (other x refl)

-- a refusal that is handed on
pub err-reads : {T V U W : Type 0} (view : T → V) (views : U → W) (e : Refusal) (m : Result V Fault) (ms : Result W Fault) → IsAsMeant T V view (Err e) m → ((f : Fault) → m ≡ Err f → ms ≡ Err f) → IsAsMeant U W views (Err e) ms
err-reads view views (refusal.Fault f) m ms r on = on f r
err-reads view views refusal.Memory m ms r on = tt

-- what takes no memory
pub told-reads : (T V : Type 0) (view : T → V) (r : Result T Refusal) (m : Result V Fault) → Tells T V view r m → IsAsMeant T V view r m
told-reads T V view (Ok x) m is = is
told-reads T V view (Err (refusal.Fault f)) m is = is
told-reads T V view (Err refusal.Memory) m is = tt

-- one more, seen so
pub grown : {T V : Type 0} (view : T → V) (old now : List T) (d : T) (bs : List V) → now ≡ old ++ d ∷ [] → map view old ≡ bs → map view now ≡ bs ++ view d ∷ []
grown view old now d bs e so = ap (map view) e ∙ (map-append view old (d ∷ []) ∙ ap (λ l. l ++ view d ∷ []) so)
