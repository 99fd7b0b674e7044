-- What the paths that were offered cost, and what is known of them.
use Rattle.std.proofs.Common.{◌≡◌, ◌≤◌, ◌⊎◌, ◌&&◌, ◌||◌, ℕ, Bool, true, false, nat_le, List, map, Option, None, Some, ⊎_elim, refl, sym, ◌∙◌, ap, subst, le_refl, le_trans, arith}
use Rattle.std.specs.Prelude.{All, Contains}
use Rattle.std.proofs.lemmas.Bool.{and_from, and_parts, false≢true, or_cases, leb-true, or_right}
use Rattle.std.proofs.lemmas.Grind.{common_steps}
use Rattle.std.proofs.lemmas.List.Elements.{All-contains, All-map, All-weaker}
use Rattle.pareto.specs.work.Front.{AreKeptOr, IsCovered}
use Rattle.pathkeys.specs.Keys.{Keys, covers}
use Rattle.pathkeys.proofs.CoveringLemmas.{covers-trans}
use Rattle.plan_tree.specs.work.Paths.{Path}
use Rattle.plan_tree.specs.work.Ranks.{parts-of}
use Rattle.plan_tree.specs.work.Views.{is_path_at_most, path}
use Rattle.plan_tree.specs.declared.path.Path.{Path as Costed}
use Rattle.plan_tree.proofs.FrontLemmas.{contains-mapped, contains-source}
use Rattle.cost_rules.specs.Costs.{pair}
use Rattle.cost_rules.specs.declared.pair.Pair.{Pair}
use Rattle.kept_paths.specs.work.Bounds.{AreBounds, AreEarly, AreTold, Bounds, EarlierEach, IsBeaten, IsPreceded, KeepsEarly, beats, early_at, either_beats, is_first, is_told, is_within, least_at, pair_of}

no-more : (m n : ℕ) → m ≤ n → nat_le m n ≡ true
no-more m n e = grind (arith, common_steps)

-- what comes no later than a cost that comes no later than another, comes no later than that one
first-trans : (s m t n u o : ℕ) → is_first (pair s m) (pair t n) ≡ true → is_first (pair t n) (pair u o) ≡ true → is_first (pair s m) (pair u o) ≡ true
first-trans s m t n u o e f = grind (arith, common_steps)

first-from : (s m t n : ℕ) → s ≤ t → m ≤ n → is_first (pair s m) (pair t n) ≡ true
first-from s m t n h k = grind (arith, common_steps)

pub first-refl : (s m : ℕ) → is_first (pair s m) (pair s m) ≡ true
first-refl s m = grind (arith, common_steps)

-- of two costs of which each comes no later neither has more
first-same : (s m t n : ℕ) → is_first (pair s m) (pair t n) ≡ true → is_first (pair t n) (pair s m) ≡ true → (s ≤ t) × (m ≤ n)
first-same s m t n e f = (grind (arith, common_steps), grind (arith, common_steps))

first-total : (s m t n : ℕ) → is_first (pair s m) (pair t n) ≡ true → m ≤ n
first-total s m t n e = grind (arith, common_steps)

-- what costs more, with keys that those begin with, is preceded too
preceded-more : (ps : List Path) (m n : Pair) (ks ls : Keys) → is_first m n ≡ true → covers ks ls ≡ true → IsPreceded ps m ks → IsPreceded ps n ls
preceded-more ps m n ks ls le e b = record {
  path = b.path;
  is_there = b.is_there;
  first = first-trans b.path.startup b.path.cost m.startup m.total n.startup n.total b.first le;
  covers = covers-trans b.path.keys ks ls b.covers e;
}

made-preceded : (new : List Costed) (x : Costed) → IsCovered is_path_at_most new x → IsPreceded (map path new) (pair_of (path x)) x.keys
made-preceded new x k =
    let p = parts-of (path k.by') (path x) k.covers in
    record { path = path k.by'; is_there = contains-mapped path new k.by' k.is_kept; first = first-from k.by'.startup k.by'.cost x.startup x.cost p.startup p.cost; covers = p.keys }

-- what covers some paths precedes what they precede
preceded-later : (old new : List Costed) (n : Pair) (ks : Keys) → All (IsCovered is_path_at_most new) old → IsPreceded (map path old) n ks → IsPreceded (map path new) n ks
preceded-later old new n ks covered b =
    let P : Path → Type 0 = λ (x : Path). IsPreceded (map path new) (pair_of x) x.keys in
    let all : All P (map path old) = All-map P path old (All-weaker (IsCovered is_path_at_most new) (λ (x : Costed). P (path x)) (λ x k. made-preceded new x k) old covered) in
    preceded-more (map path new) (pair_of b.path) n b.path.keys ks b.first b.covers (All-contains P (map path old) b.path all b.is_there)

made-beaten : (new : List Costed) (x : Costed) → IsCovered is_path_at_most new x → IsBeaten (map path new) (pair_of (path x)) x.keys
made-beaten new x k =
    let p = parts-of (path k.by') (path x) k.covers in
    record { path = path k.by'; is_there = contains-mapped path new k.by' k.is_kept; early = p.startup; cheap = p.cost; covers = p.keys }

-- what covers some paths beats what they beat
beaten-later : (old new : List Costed) (n : Pair) (ks : Keys) → All (IsCovered is_path_at_most new) old → IsBeaten (map path old) n ks → IsBeaten (map path new) n ks
beaten-later old new n ks covered b =
    let P : Path → Type 0 = λ (x : Path). IsBeaten (map path new) (pair_of x) x.keys in
    let all : All P (map path old) = All-map P path old (All-weaker (IsCovered is_path_at_most new) (λ (x : Costed). P (path x)) (λ x k. made-beaten new x k) old covered) in
    let x = All-contains P (map path old) b.path all b.is_there in
    record { path = x.path; is_there = x.is_there; early = le_trans x.early b.early; cheap = le_trans x.cheap b.cheap; covers = covers-trans x.path.keys b.path.keys ks x.covers b.covers }

-- bounds that know no other costs of paths that start first
pub early-same : (ps : List Path) (m n : Bounds) → KeepsEarly m n → AreEarly ps m → AreEarly ps n
early-same ps m n same h ks e is = h ks e (same ks e is)

-- one more path was kept, and its cost noted of each list that its keys begin with
pub early-kept : (old new : List Costed) (made : Costed) (m n : Bounds) → All (IsCovered is_path_at_most new) old → Contains new made →
    EarlierEach m n made.keys (pair_of (path made)) → AreEarly (map path old) m → AreEarly (map path new) n
early-kept old new made m n covered there each h ks e is = ⊎_elim
    (λ was. beaten-later old new e ks covered (h ks e was))
    (λ (k : (covers made.keys ks ≡ true) × (e ≡ pair_of (path made))). subst (λ (c : Pair). IsBeaten (map path new) c ks) (sym k.1) (record { path = path made; is_there = contains-mapped path new made there; early = le_refl made.startup; cheap = le_refl made.cost; covers = k.0 }))
    (each ks e is)

-- bounds that tell the same
pub told-same : (ps : List Path) (m n : Bounds) → ((ks : Keys) (c : Pair) → is_told n ks c ≡ is_told m ks c) → AreTold ps m → AreTold ps n
told-same ps m n same h ks c = ((λ is-so. (h ks c).0 (sym (same ks c) ∙ is-so)), (λ b. same ks c ∙ (h ks c).1 b))

or-left : (a b : Bool) → a ≡ true → (a || b) ≡ true
or-left true b e = refl
or-left false b e = absurd cc

-- one more path was kept, and its cost noted of each list that its keys begin with
pub told-kept : (old new : List Costed) (made : Costed) (m n : Bounds) → AreKeptOr old made new → All (IsCovered is_path_at_most new) old → Contains new made →
    ((ks : Keys) (c : Pair) → is_told n ks c ≡ (is_told m ks c || (covers made.keys ks && is_first (pair_of (path made)) c))) →
    AreTold (map path old) m → AreTold (map path new) n
told-kept old new made m n kept covered there same h ks c = (preceded, told)
  where
    now : Bool
    now = covers made.keys ks && is_first (pair_of (path made)) c

    by-made : now ≡ true → IsPreceded (map path new) c ks
    by-made e =
        let parts = and_parts (covers made.keys ks) (is_first (pair_of (path made)) c) e in
        record { path = path made; is_there = contains-mapped path new made there; first = parts.1; covers = parts.0 }

    preceded : is_told n ks c ≡ true → IsPreceded (map path new) c ks
    preceded is-so = ⊎_elim (λ before. preceded-later old new c ks covered ((h ks c).0 before)) by-made (or_cases (is_told m ks c) now (sym (same ks c) ∙ is-so))

    from-old : (x : Costed) → Contains old x → is_first (pair_of (path x)) c ≡ true → covers x.keys ks ≡ true → is_told n ks c ≡ true
    from-old x at first e =
        same ks c ∙ or-left (is_told m ks c) now ((h ks c).1 (record { path = path x; is_there = contains-mapped path old x at; first = first; covers = e }))

    from-made : (x : Costed) → x ≡ made → is_first (pair_of (path x)) c ≡ true → covers x.keys ks ≡ true → is_told n ks c ≡ true
    from-made x is first e =
        let is-first : is_first (pair_of (path made)) c ≡ true = subst (λ (y : Costed). is_first (pair_of (path y)) c ≡ true) is first in
        let is-covered : covers made.keys ks ≡ true = subst (λ (y : Costed). covers y.keys ks ≡ true) is e in
        same ks c ∙ or_right (is_told m ks c) now (and_from (covers made.keys ks) (is_first (pair_of (path made)) c) is-covered is-first)

    told : IsPreceded (map path new) c ks → is_told n ks c ≡ true
    told b =
        let s = contains-source path new b.path b.is_there in
        let first : is_first (pair_of (path s.0)) c ≡ true = subst (λ (p : Path). is_first (pair_of p) c ≡ true) (sym s.2) b.first in
        let e : covers s.0.keys ks ≡ true = subst (λ (p : Path). covers p.keys ks ≡ true) (sym s.2) b.covers in
        ⊎_elim (λ at. from-old s.0 at first e) (λ is. from-made s.0 is first e) (All-contains (λ x. Contains old x ⊎ (x ≡ made)) new s.0 kept s.1)

-- the least cost that is known of a list is that of a path
record IsLeastCost (ps : List Path) (ks : Keys) (least : Pair) : Type 0 where
  path : Path
  is_there : Contains ps path
  covers : covers path.keys ks ≡ true
  early : path.startup ≤ least.startup
  late : least.startup ≤ path.startup
  cheap : path.cost ≤ least.total

module _ (ps : List Path) (m : Bounds) (h : AreTold ps m) (ks : Keys) where
  least-cost : (least : Pair) → least_at m ks ≡ Some least → IsLeastCost ps ks least
  least-cost least e =
      let b = (h ks least).0 (ap (λ o. is_within o least) e ∙ first-refl least.startup least.total) in
      let back : is_first least (pair_of b.path) ≡ true =
      sym (ap (λ o. is_within o (pair_of b.path)) e) ∙ (h ks (pair_of b.path)).1 (record { path = b.path; is_there = b.is_there; first = first-refl b.path.startup b.path.cost; covers = b.covers }) in
      let one = first-same b.path.startup b.path.cost least.startup least.total b.first back in
      let two = first-same least.startup least.total b.path.startup b.path.cost back b.first in
      record { path = b.path; is_there = b.is_there; covers = b.covers; early = one.0; late = two.0; cheap = one.1 }

  -- where the least cost beats another, a path does
  beats-by : (o : Option Pair) → least_at m ks ≡ o → (c : Pair) → beats o c ≡ true → IsBeaten ps c ks
  beats-by None e c is-so = absurd (false≢true is-so)
  beats-by (Some least) e c is-so =
      let x = least-cost least e in
      let parts = and_parts (nat_le least.startup c.startup) (nat_le least.total c.total) is-so in
      record {
        path = x.path;
        is_there = x.is_there;
        early = le_trans x.early (leb-true least.startup c.startup parts.0);
        cheap = le_trans x.cheap (leb-true least.total c.total parts.1);
        covers = x.covers;
      }

  pub beats-sound : (c : Pair) → beats (least_at m ks) c ≡ true → IsBeaten ps c ks
  beats-sound c is-so = beats-by (least_at m ks) refl c is-so

  -- where no path has a startup, the least cost beats what one of them does
  beaten-by : All (λ p. p.startup ≡ 0) ps → (o : Option Pair) → least_at m ks ≡ o → (c : Pair) (b : IsBeaten ps c ks) → is_told m ks (pair_of b.path) ≡ true → beats o c ≡ true
  beaten-by none None e c b told = absurd (false≢true (sym (ap (λ o. is_within o (pair_of b.path)) e) ∙ told))
  beaten-by none (Some least) e c b told =
      let x = least-cost least e in
      let zero = All-contains (λ (p : Path). p.startup ≡ 0) ps x.path none x.is_there in
      let first : is_first least (pair_of b.path) ≡ true = sym (ap (λ o. is_within o (pair_of b.path)) e) ∙ told in
      let total = first-total least.startup least.total b.path.startup b.path.cost first in
      and_from (nat_le least.startup c.startup) (nat_le least.total c.total) (no-more least.startup c.startup (omega (arith, zero, x.late))) (no-more least.total c.total (le_trans total b.cheap))

  pub beats-exact : All (λ p. p.startup ≡ 0) ps → (c : Pair) → IsBeaten ps c ks → beats (least_at m ks) c ≡ true
  beats-exact none c b =
      beaten-by none (least_at m ks) refl c b ((h ks (pair_of b.path)).1 (record { path = b.path; is_there = b.is_there; first = first-refl b.path.startup b.path.cost; covers = b.covers }))

-- where the cost of the path that starts first beats another, a path does
early-beats : (ps : List Path) (m : Bounds) → AreEarly ps m → (ks : Keys) (o : Option Pair) → early_at m ks ≡ o → (c : Pair) → beats o c ≡ true → IsBeaten ps c ks
early-beats ps m h ks None e c is-so = absurd (false≢true is-so)
early-beats ps m h ks (Some least) e c is-so =
    let x = h ks least e in
    let parts = and_parts (nat_le least.startup c.startup) (nat_le least.total c.total) is-so in
    record {
      path = x.path;
      is_there = x.is_there;
      early = le_trans x.early (leb-true least.startup c.startup parts.0);
      cheap = le_trans x.cheap (leb-true least.total c.total parts.1);
      covers = x.covers;
    }

-- paths and bounds as they are found: where a cost of theirs beats another, a path does
module _ (now items : List Costed) (m : Bounds) (list by' : Keys) (c : Pair) (b : Bool) (view : items ≡ now) (h : AreBounds (map path items) m) (same : list ≡ by')
    (is : b ≡ either_beats m list c) where
  as-found : b ≡ either_beats m by' c
  as-found = is ∙ ap (λ (l : Keys). either_beats m l c) same

  pub found-sound : b ≡ true → IsBeaten (map path now) c by'
  found-sound is-so = subst (λ (xs : List Costed). IsBeaten (map path xs) c by') view
      (⊎_elim (λ k. beats-sound (map path items) m h.told by' c k) (λ k. early-beats (map path items) m h.early by' (early_at m by') refl c k)
      (or_cases (beats (least_at m by') c) (beats (early_at m by') c) (sym as-found ∙ is-so)))

  pub found-exact : All (λ p. p.startup ≡ 0) (map path now) → IsBeaten (map path now) c by' → b ≡ true
  found-exact none beaten =
      let back = sym view in
      as-found ∙ or-left (beats (least_at m by') c) (beats (early_at m by') c) (beats-exact (map path items) m h.told by' (subst (λ (xs : List Costed). All (λ (p : Path). p.startup ≡ 0) (map path xs)) back none) c (subst (λ (xs : List Costed). IsBeaten (map path xs) c by') back beaten))
