-- What a front has after the bitmap scans over some sets of elements were offered to it.
use Rattle.std.proofs.Common.{◌≡◌, ◌<◌, ◌≤◌, ◌⊎◌, ℕ, ◌+◌, List, subst, arith, inl, inr, ◌∙◌, ap, sym, refl, le_refl, le_trans}
use Rattle.std.proofs.lemmas.Bool.{cases_lt}
use Rattle.std.proofs.lemmas.List.Elements.{All-contains}
use Rattle.pg_base.specs.Sets.{has}
use Rattle.pg_base.specs.declared.numbers.RelNo.{RelNo}
use Rattle.pg_base.specs.declared.rel_set.RelSet.{RelSet}
use Rattle.catalog.specs.Contents.{Contents}
use Rattle.eq_classes.specs.Clauses.{one}
use Rattle.sql_query.specs.Queries.{Query}
use Rattle.plan_tree.specs.Plans.{BitTree, bitmap}
use Rattle.plan_tree.specs.Space.{IsPlanOf}
use Rattle.plan_tree.specs.Least.{IsAdmissible}
use Rattle.plan_tree.specs.work.Paths.{IsPathOf, Path}
use Rattle.cost_rules.specs.work.Costs.{capped}
use Rattle.plan_tree.specs.Costs.{cost, part_of}
use Rattle.plan_tree.specs.work.Costs.{HaveRows}
use Rattle.plan_tree.proofs.BoundLemmas.{startup-most}
use Rattle.plan_tree.proofs.WindowLemmas.{startup-from}
use Rattle.plan_tree.specs.work.Fronts.{AreOldOrOffers, ArePathsOf, HasDominating, StayDominated, is_bitmap}
use Rattle.plan_tree.proofs.FrontLemmas.{old-stay}
use Rattle.bitmap_scan.specs.work.Chosen.{combined, marked}
use Rattle.bitmap_scan.specs.work.ElementTrees.{HasCheaper}
use Rattle.bitmap_scan.specs.declared.element_tree.Place.{Place}
use Rattle.bitmap_scan.proofs.ScanLemmas.{MarkIsDominated, offers-trans}

capped-from : (n m t : ℕ) → n ≡ capped m → m ≤ t → n ≤ t
capped-from n m t e h = omega (arith, e, h)

-- a path that costs no more in all than the parts of a scan dominates it: these come before its first row
pub cheaper-dominates : (c : Contents) (q : Query) → HaveRows c q → (at : Place) (paths : List Path) (n : ℕ) (b : BitTree) → ArePathsOf c q paths → HasCheaper at n paths → n ≡ capped (part_of c q at.rel at.param b) →
    IsPlanOf c q (one at.rel.0) (has at.param.0) (bitmap at.rel at.param b) → HasDominating c q paths (bitmap at.rel at.param b)
cheaper-dominates c q some at paths n b are h e of =
    let x = h.path in
    let is : IsPathOf c q x = All-contains (IsPathOf c q) paths x are h.is_there in
    let scan = bitmap at.rel at.param b in
    let part = part_of c q at.rel at.param b in
    let under : n ≤ part = capped-from n part part e (le_refl part) in
    let total : (cost c q x.tree).total ≤ part = subst (λ (k : ℕ). k ≤ part) is.numbers.cost (le_trans h.cheaper.cheap under) in
    let before : part ≤ (cost c q scan).startup = le_refl part in
    record {
      path = x;
      is_there = h.is_there;
      dominates = record {
        like = record {
          set = λ k. is.plan.set_is k ∙ h.cheaper.set k ∙ sym (of.set_is k);
          param = λ k. is.plan.param_is k ∙ ap (λ (s : RelSet). has s.0 k) h.cheaper.param ∙ sym (of.param_is k);
        };
        total = le_trans total (le_trans before (startup-most c q some scan));
        startup = startup-from q.window (cost c q x.tree).startup (cost c q scan).startup (le_trans (startup-most c q some x.tree) (le_trans total before));
        keys = refl;
      };
    }

module _ (c : Contents) (q : Query) (r : RelNo) (p : RelSet) (ts : List BitTree) (old : List Path) where
  -- the scans of all marks below a number were offered
  pub record AreOffered (new : List Path) (n : ℕ) : Type 0 where
    pub paths : ArePathsOf c q new
    pub kept : AreOldOrOffers c q is_bitmap (one r.0) (has p.0) old new
    pub still : StayDominated c q old new
    pub each : (m : ℕ) → m < n → MarkIsDominated c q r p ts new m

  pub none-offered : ArePathsOf c q old → AreOffered old 0
  none-offered h = record { paths = h; kept = old-stay c q is_bitmap (one r.0) (has p.0) old; still = λ t d. d; each = λ m lt. absurd (omega (arith, lt)) }

  pub one-offered : (mid new : List Path) (n : ℕ) (ds : List BitTree) → AreOffered mid n → ds ≡ marked n ts → ArePathsOf c q new → AreOldOrOffers c q is_bitmap (one r.0) (has p.0) mid new → StayDominated c q mid new →
      (IsPlanOf c q (one r.0) (has p.0) (bitmap r p (combined ds)) → IsAdmissible c q (bitmap r p (combined ds)) → HasDominating c q new (bitmap r p (combined ds))) → AreOffered new (n + 1)
  one-offered mid new n ds h same paths kept still this = record {
    paths = paths;
    kept = offers-trans c q is_bitmap (one r.0) (has p.0) old mid new h.kept kept;
    still = λ t d. still t (h.still t d);
    each = λ m lt. by m lt (cases_lt m n);
  }
    where
      by : (m : ℕ) → m < n + 1 → (m < n) ⊎ (n ≤ m) → MarkIsDominated c q r p ts new m
      by m lt (inl less) = λ plan admissible. still (bitmap r p (combined (marked m ts))) (h.each m less plan admissible)
      by m lt (inr more) =
          let at : n ≡ m = omega (arith, lt, more) in
          subst (MarkIsDominated c q r p ts new) at
          (subst (λ (xs : List BitTree). IsPlanOf c q (one r.0) (has p.0) (bitmap r p (combined xs)) → IsAdmissible c q (bitmap r p (combined xs)) → HasDominating c q new (bitmap r p (combined xs))) same this)
