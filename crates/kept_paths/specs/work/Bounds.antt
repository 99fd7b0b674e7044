-- Paths that would not be kept beside others, and bounds that tell so (PostgreSQL, src/backend/optimizer/util/pathnode.c,
-- add_path_precheck; that bounds stand beside the paths is own).
use Rattle.std.specs.Prelude.{◌≡◌, ◌≤◌, ◌↔◌, ◌⊎◌, ◌&&◌, ◌||◌, ℕ, Bool, true, false, nat_eq, nat_le, nat_lt, List, Option, None, Some, Vec, Contains, ◌≢◌, All, IsSome, IsTrue, map}
use Rattle.std.specs.BTreeMap.{BTreeMap, get_by}
use Rattle.std.specs.Global.{Global}
use Rattle.std.specs.Cmp.Lexicographic.{slice_cmp}
use Rattle.std.specs.Ordering.{nat_cmp}
use Rattle.cost_rules.specs.Costs.{pair}
use Rattle.cost_rules.specs.declared.pair.Pair.{Pair}
use Rattle.pathkeys.specs.Keys.{Keys, covers}
use Rattle.plan_tree.specs.work.Paths.{Path}
use Rattle.kept_paths.specs.declared.bounds.Known.{Known}
use Rattle.plan_tree.specs.work.Views.{path}
use Rattle.plan_tree.specs.declared.path.Path.{Path as Costed}

-- a path of a list costs no more, neither before its first row nor in all, and its keys begin with these
pub record IsBeaten (paths : List Path) (cost : Pair) (keys : Keys) : Type 0 where
  pub path : Path
  pub is_there : Contains paths path
  pub early : path.startup ≤ cost.startup
  pub cheap : path.cost ≤ cost.total
  pub covers : covers path.keys keys ≡ true

-- one cost comes no later than another by the totals, and where these are equal by the startups
abbrev pub is_first : Pair → Pair → Bool
is_first a b = nat_lt a.total b.total || (nat_eq a.total b.total && nat_le a.startup b.startup)

-- what a path says that it costs, before its first row and in all
abbrev pub pair_of : Path → Pair
pair_of p = pair p.startup p.cost

-- a path of a list costs no more so, and its keys begin with these
pub record IsPreceded (paths : List Path) (cost : Pair) (keys : Keys) : Type 0 where
  pub path : Path
  pub is_there : Contains paths path
  pub first : is_first (pair_of path) cost ≡ true
  pub covers : covers path.keys keys ≡ true

-- for each list of classes that was met, the least cost that is known of paths whose keys begin with it
abbrev pub Bounds : Type 0
Bounds = BTreeMap (Vec ℕ Global) Known

-- what is known of a list of classes
abbrev pub known_at : Bounds → Keys → Option Known
known_at bounds keys = get_by (λ k. slice_cmp nat_cmp keys k.items) bounds

-- the least cost that is known of a list of classes; none where nothing is
abbrev pub least_in : Option Known → Option Pair
least_in None = None
least_in (Some known) = known.least

-- the least cost of a list, where one is known
abbrev pub least_at : Bounds → Keys → Option Pair
least_at bounds keys = least_in (known_at bounds keys)

-- a least cost that comes no later than another cost
abbrev pub is_within : Option Pair → Pair → Bool
is_within None cost = false
is_within (Some least) cost = is_first least cost

-- a list is known with a least cost that comes no later
abbrev pub is_told : Bounds → Keys → Pair → Bool
is_told bounds keys cost = is_within (least_at bounds keys) cost

-- a least cost that is no more than another cost, neither before the first row nor in all
abbrev pub beats : Option Pair → Pair → Bool
beats None cost = false
beats (Some least) cost = nat_le least.startup cost.startup && nat_le least.total cost.total

-- the cost that is known of a list as that of the path that starts first; none where nothing is
abbrev pub early_in : Option Known → Option Pair
early_in None = None
early_in (Some known) = known.early

-- the cost of the path of a list that starts first, where one is known
abbrev pub early_at : Bounds → Keys → Option Pair
early_at bounds keys = early_in (known_at bounds keys)

-- either of the costs that are known of a list is no more than another cost
abbrev pub either_beats : Bounds → Keys → Pair → Bool
either_beats bounds keys cost = beats (least_at bounds keys) cost || beats (early_at bounds keys) cost

-- for each list and cost the bounds say just whether a path costs no more by its total, then by its startup, with keys that
-- begin with the list
abbrev pub AreTold : List Path → Bounds → Type 0
AreTold paths bounds = (keys : Keys) (cost : Pair) → (is_told bounds keys cost ≡ true) ↔ IsPreceded paths cost keys

-- each cost that is known as that of the path that starts first is one of a path, or more, with keys that begin with the list
abbrev pub AreEarly : List Path → Bounds → Type 0
AreEarly paths bounds = (keys : Keys) (e : Pair) → early_at bounds keys ≡ Some e → IsBeaten paths e keys

-- what bounds know is of the paths
pub record AreBounds (paths : List Path) (bounds : Bounds) : Type 0 where
  pub told : AreTold paths bounds
  pub early : AreEarly paths bounds

-- bounds tell the same of each list and cost
abbrev pub TellTheSame : Bounds → Bounds → Type 0
TellTheSame old new = (keys : Keys) (n : Pair) → is_told new keys n ≡ is_told old keys n

-- no cost is known as that of the path that starts first but those that were
abbrev pub KeepsEarly : Bounds → Bounds → Type 0
KeepsEarly old new = (keys : Keys) (e : Pair) → early_at new keys ≡ Some e → early_at old keys ≡ Some e

-- each list that was known still is
abbrev pub KeepsRooms : Bounds → Bounds → Type 0
KeepsRooms old new = (keys : Keys) → IsSome (known_at old keys) → IsSome (known_at new keys)

-- the least cost that is known was lowered to another, where that comes first
abbrev pub IsLowered : Known → Pair → Known → Type 0
IsLowered old cost new = (n : Pair) → is_within new.least n ≡ (is_within old.least n || is_first cost n)

-- the cost of the path that starts first is as it was, or another
abbrev pub IsEarlier : Known → Pair → Known → Type 0
IsEarlier old cost new = (e : Pair) → new.early ≡ Some e → (old.early ≡ Some e) ⊎ (e ≡ cost)

-- for one list the cost of the path that starts first is as it was, or another
abbrev pub EarlierAt : Bounds → Bounds → Keys → Pair → Type 0
EarlierAt old new list cost = (e : Pair) → early_at new list ≡ Some e → (early_at old list ≡ Some e) ⊎ (e ≡ cost)

-- for each list it is as it was, or one with which another list begins has another
abbrev pub EarlierEach : Bounds → Bounds → Keys → Pair → Type 0
EarlierEach old new list cost =
    (keys : Keys) (e : Pair) → early_at new keys ≡ Some e → (early_at old keys ≡ Some e) ⊎ ((covers list keys ≡ true) × (e ≡ cost))

-- the least cost was lowered for one list
abbrev pub LowersAt : Bounds → Bounds → Keys → Pair → Type 0
LowersAt old new list cost = (n : Pair) → is_told new list n ≡ (is_told old list n || is_first cost n)

-- what is known of other lists stays as it is
abbrev pub ChangesOnlyList : Bounds → Bounds → Keys → Type 0
ChangesOnlyList old new list = (keys : Keys) → keys ≢ list → known_at new keys ≡ known_at old keys

-- for each list with which one begins the least cost was lowered
abbrev pub LowersEach : Bounds → Bounds → Keys → Pair → Type 0
LowersEach old new list cost =
    (keys : Keys) (n : Pair) → is_told new keys n ≡ (is_told old keys n || covers list keys && is_first cost n)

-- the bounds are those of the paths of the program
abbrev pub AreToldOf : List Costed → Bounds → Type 0
AreToldOf paths bounds = AreTold (map path paths) bounds

-- the bounds have the costs of those paths of the program that start first
abbrev pub AreEarlyOf : List Costed → Bounds → Type 0
AreEarlyOf paths bounds = AreEarly (map path paths) bounds

-- where no path costs anything before its first row, a test tells each cost and list that a path beats
abbrev pub TellsBeaten : List Costed → Pair → Keys → Bool → Type 0
TellsBeaten paths cost keys told = All (λ p. p.startup ≡ 0) (map path paths) → IsBeaten (map path paths) cost keys → IsTrue told
