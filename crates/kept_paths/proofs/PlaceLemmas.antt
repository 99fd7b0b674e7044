-- A path that takes the place of one that it is at most, or stands behind the others.
use Rattle.std.proofs.Common.{◌≡◌, ◌≢◌, ◌<◌, ◌⊎◌, ℕ, true, false, nat_eq, List, [], ◌∷◌, ◌++◌, length, get_or, set, inl, inr, ⊎_elim, refl, sym, ◌∙◌, subst}
use Rattle.std.specs.Prelude.{All, Contains, IsTrue}
use Rattle.std.proofs.lemmas.Bool.{cases_Bool, eq-eqb, eqb-true, false≢true}
use Rattle.std.proofs.lemmas.List.{get_or-set_other, get_or-set_same, get_or_default, length-set}
use Rattle.std.proofs.lemmas.List.Elements.{All-contains, All-contains_itself, All-from_get_or, All-push, All-set, All-weaker, Contains-append_left}
use Rattle.pareto.specs.work.Front.{AreKeptOr, IsCovered}
use Rattle.plan_tree.specs.work.Ranks.{at-most-refl, at-most-trans}
use Rattle.plan_tree.specs.work.Views.{is_path_at_most, path}
use Rattle.plan_tree.specs.declared.path.Path.{Path as Costed}
use Rattle.plan_tree.proofs.FrontLemmas.{keeps-itself}

-- a path of a list is covered by itself
pub covers-there : (xs : List Costed) (x : Costed) → Contains xs x → IsCovered is_path_at_most xs x
covers-there xs x h = record { by' = x; is_kept = h; covers = at-most-refl (path x) }

module _ (old : List Costed) (made : Costed) where
  pub push-keeps : AreKeptOr old made (old ++ made ∷ [])
  push-keeps = All-push (λ x. Contains old x ⊎ (x ≡ made)) old made (keeps-itself old made) (inr refl)

  pub push-covers : All (IsCovered is_path_at_most (old ++ made ∷ [])) old
  push-covers =
      All-weaker (Contains old) (IsCovered is_path_at_most (old ++ made ∷ []))
      (λ x h. covers-there (old ++ made ∷ []) x (Contains-append_left old (made ∷ []) x h)) old (All-contains_itself old)

  module _ (at : ℕ) (lt : at < length old) where
    pub set-keeps : AreKeptOr old made (set old at made)
    set-keeps = All-set (λ x. Contains old x ⊎ (x ≡ made)) old at made (inr refl) (keeps-itself old made)

    pub set-has : Contains (set old at made) made
    set-has = (at, subst (λ n. at < n) (sym (length-set old at made)) lt, get_or-set_same old at made made lt)

    pub set-covers : IsTrue (is_path_at_most made (get_or old at made)) → All (IsCovered is_path_at_most (set old at made)) old
    set-covers most = All-from_get_or (IsCovered is_path_at_most (set old at made)) old made (λ i within. by i within (cases_Bool (nat_eq i at)))
      where
        here : (i : ℕ) → i ≡ at → IsCovered is_path_at_most (set old at made) (get_or old i made)
        here i same = record { by' = made; is_kept = set-has; covers = subst (λ n. IsTrue (is_path_at_most made (get_or old n made))) (sym same) most }

        other : (i : ℕ) → i < length old → i ≢ at → IsCovered is_path_at_most (set old at made) (get_or old i made)
        other i within ne =
            covers-there (set old at made) (get_or old i made)
            (i, subst (λ n. i < n) (sym (length-set old at made)) within, get_or-set_other old at i made (get_or old i made) ne ∙ same-default i within)
          where
            same-default : (i : ℕ) → i < length old → get_or old i (get_or old i made) ≡ get_or old i made
            same-default i within = get_or_default old i _ _ within

        by : (i : ℕ) → i < length old → (nat_eq i at ≡ true) ⊎ (nat_eq i at ≡ false) → IsCovered is_path_at_most (set old at made) (get_or old i made)
        by i within (inl is-so) = here i (eqb-true i at is-so)
        by i within (inr is-not) = other i within (λ same. false≢true (sym is-not ∙ eq-eqb i at same))

-- a front of some of the paths, to which one more of them was offered
pub some-more : (paths front new : List Costed) (made : Costed) → AreKeptOr front made new → All (Contains paths) front → Contains paths made → All (Contains paths) new
some-more paths front new made kept some there =
    All-weaker (λ x. Contains front x ⊎ (x ≡ made)) (Contains paths)
    (λ x. ⊎_elim (All-contains (Contains paths) front x some) (λ is. subst (Contains paths) (sym is) there)) new kept

pub covered-more : (front new yielded : List Costed) (made : Costed) → All (IsCovered is_path_at_most new) front → IsCovered is_path_at_most new made →
    All (IsCovered is_path_at_most front) yielded → All (IsCovered is_path_at_most new) (yielded ++ made ∷ [])
covered-more front new yielded made still offered covered =
    All-push (IsCovered is_path_at_most new) yielded made (All-weaker (IsCovered is_path_at_most front) (IsCovered is_path_at_most new) later yielded covered) offered
  where
    later : (x : Costed) → IsCovered is_path_at_most front x → IsCovered is_path_at_most new x
    later x k =
        let n = All-contains (IsCovered is_path_at_most new) front k.by' still k.is_kept in
        record { by' = n.by'; is_kept = n.is_kept; covers = at-most-trans (path n.by') (path k.by') (path x) n.covers k.covers }
