-- Domination is a preorder, and a plan that dominates another may stand in its place.
use Rattle.std.proofs.Common.{◌≡◌, ◌≤◌, ℕ, true, false, ◌||◌, refl, sym, ◌∙◌, ap₂, le_refl, le_trans, ◌↔◌, subst₂, true≢false}
use Rattle.std.specs.Prelude.{Option, Some, None}
use Rattle.sql_query.specs.catalog_Contents.{Contents}
use Rattle.sql_query.specs.Queries.{Query}
use Rattle.sql_query.specs.declared.window.Window.{Window}
use Rattle.pathkeys.specs.Keys.{Keys, covers}
use Rattle.plan_tree.specs.Plans.{Plan, seq, index, index_only, bitmap, sort, nest, merge, is_sort}
use Rattle.plan_tree.specs.Keys.{keys_of}
use Rattle.plan_tree.specs.Costs.{cost}
use Rattle.plan_tree.specs.Space.{IsLike, IsBuilt, IsNest, IsMerge, IsMergeList, HasKeys}
use Rattle.plan_tree.specs.Least.{Dominates, IsStartupAtMost}
use Rattle.plan_tree.specs.work.Least.{StandsFor}
use Rattle.pathkeys.proofs.CoveringLemmas.{covers-refl, covers-trans}
use Rattle.plan_tree.proofs.ReplacingLemmas.{nest-replaced, nest-totals, merge-replaced, merge-totals, sort-totals}
use Rattle.plan_tree.proofs.LikeLemmas.{set-like}
use Rattle.plan_tree.proofs.WindowLemmas.{startup-from}

pub startup-refl : (w : Option Window) (n : ℕ) → IsStartupAtMost w n n
startup-refl None n = tt
startup-refl (Some w) n = le_refl n

pub startup-trans : (w : Option Window) (l m n : ℕ) → IsStartupAtMost w l m → IsStartupAtMost w m n → IsStartupAtMost w l n
startup-trans None l m n h k = tt
startup-trans (Some w) l m n h k = le_trans h k

module _ (c : Contents) (q : Query) where
  pub dominates-refl : (p : Plan) → Dominates c q p p
  dominates-refl p = record {
    like = record { set = λ k. refl; param = λ k. refl };
    total = le_refl (cost c q p).total;
    startup = startup-refl q.window (cost c q p).startup;
    keys = covers-refl (keys_of c q p);
  }

  pub dominates-trans : (a b d : Plan) → Dominates c q a b → Dominates c q b d → Dominates c q a d
  dominates-trans a b d h k = record {
    like = record { set = λ n. h.like.set n ∙ k.like.set n; param = λ n. h.like.param n ∙ k.like.param n };
    total = le_trans h.total k.total;
    startup = startup-trans q.window (cost c q a).startup (cost c q b).startup (cost c q d).startup h.startup k.startup;
    keys = covers-trans (keys_of c q a) (keys_of c q b) (keys_of c q d) h.keys k.keys;
  }

  -- of a plan that is no sort, to have keys is that its keys begin with them
  has-plain : (p : Plan) (keys : Keys) → is_sort p ≡ false → HasKeys c q p keys ↔ (covers (keys_of c q p) keys ≡ true)
  has-plain (seq r) keys e = (λ h. h, λ h. h)
  has-plain (index r i backward p) keys e = (λ h. h, λ h. h)
  has-plain (index_only r i backward p) keys e = (λ h. h, λ h. h)
  has-plain (bitmap r p bits) keys e = (λ h. h, λ h. h)
  has-plain (sort ks input) keys e = absurd (true≢false e)
  has-plain (nest outer inner) keys e = (λ h. h, λ h. h)
  has-plain (merge ks outer inner) keys e = (λ h. h, λ h. h)

  pub plain-stands : (p o : Plan) → is_sort p ≡ false → is_sort o ≡ false → Dominates c q p o → StandsFor c q p o
  plain-stands p o e f h = record {
    like = h.like;
    total = h.total;
    startup = h.startup;
    covered = h.keys;
    has = λ keys k. (has-plain p keys e).1 (covers-trans (keys_of c q p) (keys_of c q o) keys h.keys ((has-plain o keys f).0 k));
  }

  pub sort-stands : (ks : Keys) (p o : Plan) → Dominates c q p o → StandsFor c q (sort ks p) (sort ks o)
  sort-stands ks p o h = record {
    like = record { set = h.like.set; param = h.like.param };
    total = (sort-totals c q ks p o h.like h.total).total;
    startup = startup-from q.window (cost c q (sort ks p)).startup (cost c q (sort ks o)).startup (sort-totals c q ks p o h.like h.total).startup;
    covered = covers-refl ks;
    has = λ keys k. k;
  }

  pub stands-dominates : (p o : Plan) → StandsFor c q p o → Dominates c q p o
  stands-dominates p o h = record { like = h.like; total = h.total; startup = h.startup; keys = h.covered }

  -- a nested loop of o and i stays one where p stands for o and j for i
  nest-stands : (o p i j : Plan) → IsLike p o → IsLike j i → is_sort p ≡ false → is_sort j ≡ false → IsNest o i → IsNest p j
  nest-stands o p i j h k e f n = record {
    sides = record {
      apart = λ x e. k.set x ∙ n.sides.apart x (sym (h.set x) ∙ e);
      outer_whole = λ x. h.param x ∙ n.sides.outer_whole x;
    };
    given = λ x g. h.set x ∙ n.given x (sym (k.param x) ∙ g);
    outer_plain = e;
    inner_plain = f;
  }

  nest-startups : (w : Option Window) (o p i j : Plan) → IsLike p o → IsLike j i → (cost c q p).total ≤ (cost c q o).total → (cost c q j).total ≤ (cost c q i).total →
      IsStartupAtMost w (cost c q p).startup (cost c q o).startup → IsStartupAtMost w (cost c q j).startup (cost c q i).startup → IsStartupAtMost w (cost c q (nest p j)).startup (cost c q (nest o i)).startup
  nest-startups None o p i j h k l m s t = tt
  nest-startups (Some w) o p i j h k l m s t = (nest-replaced c q p o j i h k (record { startup = s; total = l }) (record { startup = t; total = m })).startup

  -- a nested loop of plans that dominate the sides of another loop stands, and dominates that loop
  pub nest-dominates : (o p i j : Plan) → IsBuilt c q p → IsBuilt c q j → is_sort p ≡ false → is_sort j ≡ false → Dominates c q p o → Dominates c q j i → IsBuilt c q (nest o i) →
      IsBuilt c q (nest p j) × Dominates c q (nest p j) (nest o i)
  nest-dominates o p i j a b e f h k n = (
    (a, b, nest-stands o p i j h.like k.like e f n.2),
    record {
      like = record { set = λ x. ap₂ (λ s t. s || t) (h.like.set x) (k.like.set x); param = λ x. refl };
      total = nest-totals c q p o j i h.like k.like h.total k.total;
      startup = nest-startups q.window o p i j h.like k.like h.total k.total h.startup k.startup;
      keys = h.keys;
    },
  )

  merge-stands : (keys : Keys) (o p i j : Plan) → StandsFor c q p o → StandsFor c q j i → IsMerge c q keys o i → IsMerge c q keys p j
  merge-stands keys o p i j h k n = record {
    sides = record {
      apart = λ x e. k.like.set x ∙ n.sides.apart x (sym (h.like.set x) ∙ e);
      outer_whole = λ x. h.like.param x ∙ n.sides.outer_whole x;
    };
    inner_whole = λ x. k.like.param x ∙ n.inner_whole x;
    list = subst₂ (λ a b. IsMergeList c q a b keys) (sym (set-like p o h.like)) (sym (set-like j i k.like)) n.list;
    outer_keys = h.has keys n.outer_keys;
    inner_keys = k.has keys n.inner_keys;
  }

  merge-startups : (w : Option Window) (keys : Keys) (o p i j : Plan) → IsLike p o → IsLike j i → (cost c q p).total ≤ (cost c q o).total → (cost c q j).total ≤ (cost c q i).total →
      IsStartupAtMost w (cost c q p).startup (cost c q o).startup → IsStartupAtMost w (cost c q j).startup (cost c q i).startup → IsStartupAtMost w (cost c q (merge keys p j)).startup (cost c q (merge keys o i)).startup
  merge-startups None keys o p i j h k l m s t = tt
  merge-startups (Some w) keys o p i j h k l m s t = (merge-replaced c q keys p o j i h k (record { startup = s; total = l }) (record { startup = t; total = m })).startup

  -- a merge join stays one where its sides are replaced, and dominates the other
  pub merge-dominates : (keys : Keys) (o p i j : Plan) → IsBuilt c q p → IsBuilt c q j → StandsFor c q p o → StandsFor c q j i → IsBuilt c q (merge keys o i) →
      IsBuilt c q (merge keys p j) × Dominates c q (merge keys p j) (merge keys o i)
  merge-dominates keys o p i j a b h k n = (
    (a, b, merge-stands keys o p i j h k n.2),
    record {
      like = record { set = λ x. ap₂ (λ s t. s || t) (h.like.set x) (k.like.set x); param = λ x. refl };
      total = merge-totals c q keys p o j i h.like k.like h.total k.total;
      startup = merge-startups q.window keys o p i j h.like k.like h.total k.total h.startup k.startup;
      keys = h.covered;
    },
  )
