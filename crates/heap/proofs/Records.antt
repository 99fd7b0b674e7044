-- The records of a block, as a reader reaches them one by one.
use Rattle.std.proofs.Common.{◌≡◌, ℕ, zero, suc, ◌<◌, ◌≤◌, ◌+◌, ◌-◌, Bool, true, false, List, [], ◌∷◌, ◌++◌, length, refl, sym, ap, subst, ◌∙◌, arith, Some, None, append-nil}
use Rattle.std.proofs.lemmas.Option.{same_Some}
use Rattle.std.specs.Prelude.{if◌then◌else◌, ◌==◌, ◌||◌}
use Rattle.csv.specs.declared.parser.Terminator.TheVariants as term
use Rattle.csv.specs.Machine.{after_end, in_field, start_field, start_record, Read, next_record, step, is_end, ends_at_end, fields_after, field_after}
use Rattle.csv.specs.Reading.{Reached, records, records_from, records_next, default_config}
use Rattle.csv.specs.declared.parser.Config.{Config}
use Rattle.csv.specs.declared.parser.State.{State}
use Rattle.csv.specs.declared.parser.Action.{Action}
use Rattle.csv.specs.declared.parser.State.TheVariants as st
use Rattle.csv.specs.declared.parser.Action.TheVariants as act

records-one : (cfg : Config) (n : ℕ) (s : State) (xs : List ℕ) (p : Read) → next_record cfg s [] [] xs ≡ Some p → records_from cfg (suc n) s xs ≡ p.0 ∷ records_from cfg n p.1 p.2
unfolding records_from
records-one cfg n s xs p h = ap (records_next (records_from cfg n)) h

-- the records that were reached come first
records-first : (cfg : Config) (n : ℕ) (s s2 : State) (xs ys : List ℕ) (rs : List (List (List ℕ))) → Reached cfg s xs rs s2 ys → records_from cfg (length rs + n) s xs ≡ rs ++ records_from cfg n s2 ys
unfolding Reached
records-first cfg n s s2 xs ys [] h =
    ap (λ (m : ℕ). records_from cfg m s xs) (omega arith) ∙ ap (λ (t : State). records_from cfg n t xs) h.0 ∙ ap (records_from cfg n s2) h.1
records-first cfg n s s2 xs ys (r ∷ rs) h =
    ap (λ (m : ℕ). records_from cfg m s xs) (omega arith)
    ∙ records-one cfg (length rs + n) s xs h.0 h.1
    ∙ ap (λ (q : List (List ℕ)). q ∷ records_from cfg (length rs + n) h.0.1 h.0.2) (sym h.2)
    ∙ ap (λ (l : List (List (List ℕ))). r ∷ l) (records-first cfg n h.0.1 s2 h.0.2 ys rs h.3)

-- where no record follows, there are none from there on
pub none-after : (cfg : Config) (n : ℕ) (s : State) (ys : List ℕ) → next_record cfg s [] [] ys ≡ None → records_from cfg n s ys ≡ []
unfolding records_from
none-after cfg zero s ys h = refl
none-after cfg (suc n) s ys h = ap (records_next (records_from cfg n)) h

-- an action that ends a record leaves the machine between records
abbrev IsBetween : State × Action → Type 0
IsBetween x = is_end x.1 ≡ true → ends_at_end x.0 ≡ false

by_test : (b : Bool) (x y : State × Action) → IsBetween x → IsBetween y → IsBetween (if b then x else y)
by_test true x y f g = f
by_test false x y f g = g

no_end : (s : State) (a : Action) → is_end a ≡ false → IsBetween (s, a)
no_end s a h e = cc

by_return : (b : Bool) → ends_at_end (if b then st.AfterCr else st.StartRecord) ≡ false
by_return true = refl
by_return false = refl

end_between : (c : ℕ) → IsBetween (after_end term.CRLF c, act.EndRecord)
end_between c = λ e. by_return (c == 13)

field_between : (c : ℕ) → IsBetween (in_field default_config c)
field_between c = by_test (c == 44) _ _ (no_end st.StartField act.EndField refl) (by_test ((c == 13) || (c == 10)) _ _ (end_between c) (no_end st.InField act.Copy refl))

start_between : (c : ℕ) → IsBetween (start_field default_config c)
start_between c = by_test (c == 34) _ _ (no_end st.InQuoted act.Skip refl) (field_between c)

record_between : (c : ℕ) → IsBetween (start_record default_config c)
record_between c = by_test ((c == 13) || (c == 10)) _ _ (no_end st.StartRecord act.Skip refl) (start_between c)

step_between : (s : State) (c : ℕ) → IsBetween (step default_config s c)
step_between st.StartRecord c = record_between c
step_between st.StartField c = start_between c
step_between st.InField c = field_between c
step_between st.InQuoted c = by_test (c == 34) _ _ (no_end st.AfterQuote act.Skip refl) (no_end st.InQuoted act.Copy refl)
step_between st.InEscape c = no_end st.InQuoted act.Copy refl
step_between st.AfterQuote c = by_test (c == 34) _ _ (no_end st.InQuoted act.Copy refl) (field_between c)
step_between st.InComment c = by_test (c == 10) _ _ (no_end st.StartRecord act.Skip refl) (no_end st.InComment act.Skip refl)
step_between st.AfterCr c = by_test (c == 10) _ _ (no_end st.StartRecord act.Skip refl) (record_between c)

-- a record takes a byte at least, and ends between records
pub record Shortens (xs : List ℕ) (p : Read) : Type 0 where
  pub shorter : length p.2 < length xs
  pub between : ends_at_end p.1 ≡ false

module _ (s : State) (fields : List (List ℕ)) (field : List ℕ) (c : ℕ) (xs : List ℕ) (p : Read) where
  abbrev next_state : State
  next_state = (step default_config s c).0

  abbrev next_fields : List (List ℕ)
  next_fields = fields_after (step default_config s c).1 fields field

  abbrev next_field : List ℕ
  next_field = field_after (step default_config s c).1 c field

  by_end : (b : Bool) → is_end (step default_config s c).1 ≡ b → (next_record default_config next_state next_fields next_field xs ≡ Some p → Shortens (c ∷ xs) p)
      → (if b then Some (next_fields, next_state, xs) else next_record default_config next_state next_fields next_field xs) ≡ Some p → Shortens (c ∷ xs) p
  by_end true e rest h =
      let same : (next_fields, next_state, xs) ≡ p = same_Some (next_fields, next_state, xs) p h in
      subst (λ (q : Read). Shortens (c ∷ xs) q) same (record { shorter = omega arith; between = step_between s c e })
  by_end false e rest h = rest h

  at_end : (b : Bool) → (if b then Some (next_fields ++ (next_field ∷ []), st.StartRecord, []) else None) ≡ Some p → Shortens (c ∷ xs) p
  at_end true h = subst (λ (q : Read). Shortens (c ∷ xs) q) (same_Some (next_fields ++ (next_field ∷ []), st.StartRecord, []) p h) (record { shorter = omega arith; between = refl })
  at_end false h = cc

pub read_shortens : (s : State) (fields : List (List ℕ)) (field : List ℕ) (c : ℕ) (xs : List ℕ) (p : Read) → next_record default_config s fields field (c ∷ xs) ≡ Some p → Shortens (c ∷ xs) p
unfolding next_record
read_shortens s fields field c [] p h =
    by_end s fields field c [] p (is_end (step default_config s c).1) refl (at_end s fields field c [] p (ends_at_end (next_state s fields field c [] p))) h
read_shortens s fields field c (d ∷ ds) p h =
    by_end s fields field c (d ∷ ds) p (is_end (step default_config s c).1) refl
    (λ g.
    let r = read_shortens (next_state s fields field c (d ∷ ds) p) (next_fields s fields field c (d ∷ ds) p) (next_field s fields field c (d ∷ ds) p) d ds p g in
    record { shorter = omega (arith, r.shorter); between = r.between })
    h

none_at_end : (s : State) (p : Read) → ends_at_end s ≡ false → next_record default_config s [] [] [] ≡ Some p → ⊥
unfolding next_record
none_at_end s p e h = let none : next_record default_config s [] [] [] ≡ None = ap (λ (b : Bool). if b then Some ((([] ++ ([] ∷ [])), st.StartRecord, [])) else None) e in cc

few_records : (s s2 : State) (xs ys : List ℕ) (rs : List (List (List ℕ))) → ends_at_end s ≡ false → Reached default_config s xs rs s2 ys → length rs ≤ length xs
unfolding Reached
few_records s s2 xs ys [] e h = omega arith
few_records s s2 [] ys (r ∷ rs) e h = absurd (none_at_end s h.0 e h.1)
few_records s s2 (c ∷ xs) ys (r ∷ rs) e h =
    let one = read_shortens s [] [] c xs h.0 h.1 in
    omega (arith, one.shorter, few_records h.0.1 s2 h.0.2 ys rs one.between h.3)

module _ (xs ys : List ℕ) (s : State) (rs : List (List (List ℕ))) (reached : Reached default_config st.StartRecord xs rs s ys) where
  pub more_records : records default_config xs ≡ rs ++ records_from default_config (length xs + 1 - length rs) s ys
  more_records =
      let few = few_records st.StartRecord s xs ys rs refl reached in
      ap (λ (n : ℕ). records_from default_config n st.StartRecord xs) (omega (arith, few)) ∙ records-first default_config (length xs + 1 - length rs) st.StartRecord s xs ys rs reached

  pub all_records : next_record default_config s [] [] ys ≡ None → records default_config xs ≡ rs
  all_records none = more_records ∙ ap (λ (l : List (List (List ℕ))). rs ++ l) (none-after default_config (length xs + 1 - length rs) s ys none) ∙ append-nil rs
