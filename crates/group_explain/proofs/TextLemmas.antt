-- The text of a chosen plan, made while the base is in the order that the chosen input is asked in.
use Rattle.std.proofs.Common.{◌≡◌, ℕ, ◌<◌, Bool, true, false, List, [], ◌++◌, codes, length, map, refl, sym, ap, ap₂, ◌∙◌, append_assoc}
use Rattle.std.specs.Prelude.{All, Option, Some, None}
use Rattle.std.specs.Fmt.{decimal}
use Rattle.catalog.specs.Contents.{Contents}
use Rattle.pg_expr.specs.declared.operand.ColRef.{ColRef}
use Rattle.eq_classes.specs.Clauses.{Set, first_in}
use Rattle.eq_classes.specs.Listing.{class_at}
use Rattle.eq_classes.specs.declared.order.OrderItem.{OrderItem}
use Rattle.reply.specs.explain_Texts.{direction_text, family_text, figures_text, key_text, lead, member_text, text_at, with_commas}
use Rattle.pathkeys.specs.Keys.{Keys}
use Rattle.pathkeys.proofs.OnceLemmas.{order_keys_are_keys}
use Rattle.plan_tree.specs.Costs.{cost}
use Rattle.plan_tree.specs.Plans.{Plan}
use Rattle.plan_tree.specs.work.Views.{path}
use Rattle.sql_query.specs.Grouped.{GroupedQuery}
use Rattle.sql_query.specs.Queries.{all_of_query, in_order_of}
use Rattle.group_values.specs.declared.form.Form.{Form}
use Rattle.group_values.specs.work.GroupCosts.{group_cost}
use Rattle.group_values.specs.declared.task.GroupPlan.{GroupPlan}
use Rattle.group_values.specs.declared.task.GroupTask.{GroupTask}
use Rattle.group_explain.specs.GroupPlans.{group_keys, line_keys}
use Rattle.group_explain.specs.work.Plans.{IsReady, input_base, over_base}
use Rattle.group_explain.specs.Texts.{all_keys_text, form_name, group_query, group_title, input_depth, sort_line, title_by}
use Rattle.group_explain.specs.work.Texts.{input_total, task_lines, task_text}
use Rattle.group_explain.specs.declared.chosen.Chosen.{Chosen}
use Rattle.group_explain.proofs.OrderLemmas.{asked, base-for, order_for, same-input}

-- the keys are classes of the query
pub groups-within : (g : GroupedQuery) → All (λ n. n < length g.base.classes.classes) (group_keys (group_query g))
groups-within g = (order_keys_are_keys g.base.classes (group_query g).groups).classes

pub lines-within : (g : GroupedQuery) → All (λ n. n < length g.base.classes.classes) (line_keys (group_query g))
lines-within g = (order_keys_are_keys g.base.classes g.order).classes

module _ (c : Contents) (g : GroupedQuery) (o : List OrderItem) where
  same-member : (x : Option ColRef) → member_text c (in_order_of g.base o) x ≡ member_text c g.base x
  same-member None = refl
  same-member (Some x) = refl

  same-key : (set : Set) (n : ℕ) → key_text c (in_order_of g.base o) set n ≡ key_text c g.base set n
  same-key set n =
      let k = class_at g.base.classes.classes n in
      ap (λ (m : List ℕ). m ++ (family_text k.family ++ direction_text k.descending k.nulls_first)) (same-member (first_in k set))

  same-keys-text : (ks : Keys) → all_keys_text c (asked c g o) ks ≡ all_keys_text c g ks
  same-keys-text ks = ap (λ (f : ℕ → List ℕ). with_commas [] (map f ks)) (λ i n. same-key (all_of_query g.base) n i)

  same-title : (f : Form) → group_title c (asked c g o) f ≡ group_title c g f
  same-title f = ap (λ (t : List ℕ). title_by (group_keys (group_query g)) (form_name f ++ t)) (same-keys-text (group_keys (group_query g)))

  same-sort : (x : GroupPlan) → sort_line c (asked c g o) x.cost x.rows ≡ sort_line c g x.cost x.rows
  same-sort x = ap (λ (t : List ℕ). lead 0 ++ ((codes "Sort by " ++ t) ++ figures_text (decimal x.cost) x.rows)) (same-keys-text (line_keys (group_query g)))

  same-input-total : (f : Form) (p : Plan) → input_total c (asked c g o) f p ≡ input_total c g f p
  same-input-total f p = ap (λ q. (cost c q p).total) (same-input c g o f)

  same-above : (t : GroupTask) (x : GroupPlan) (p : Plan) (b : Bool) → task_lines c (asked c g o) t x p b ≡ task_lines c g t x p b
  same-above t x p true =
      ap₂ (λ (l m : List ℕ). l ++ m) (same-sort x)
      (ap₂ (λ (title : List ℕ) (n : ℕ). lead 1 ++ (title ++ figures_text (decimal (group_cost x.form t n)) x.rows)) (same-title x.form) (same-input-total x.form p))
  same-above t x p false = ap (λ (title : List ℕ). lead 0 ++ (title ++ figures_text (decimal x.cost) x.rows)) (same-title x.form)

  same-text : (t : GroupTask) (x : GroupPlan) (p : Plan) → task_text c (asked c g o) t x p ≡ task_text c g t x p
  same-text t x p = ap₂ (λ (l m : List ℕ). l ++ m) (same-above t x p x.sort_after) (ap (λ q. text_at c q (input_depth x.sort_after) p) (same-input c g o x.form))

-- the text that is made of the query as it is left is that of the query as it was
pub text-of : (c : Contents) (left first : GroupedQuery) (x : Chosen) (p : Plan) → left ≡ over_base (input_base x.plan.form first) first → task_text c left x.task x.plan p ≡ task_text c first x.task x.plan p
text-of c left first x p e =
    ap (λ h. task_text c h x.task x.plan p) (e ∙ ap (λ q. over_base q first) (base-for x.plan.form first))
    ∙ same-text c first (order_for x.plan.form first) x.task x.plan p

-- the line of the sort, and that of the node that groups beneath
pub both-lines : (c : Contents) (g : GroupedQuery) (x : Chosen) (p : Plan) (old one two new : List ℕ) (total : ℕ) → one ≡ old ++ sort_line c g x.plan.cost x.plan.rows → two ≡ one ++ codes "  ->  "
    → total ≡ group_cost x.plan.form x.task (input_total c g x.plan.form p) → new ≡ two ++ (group_title c g x.plan.form ++ figures_text (decimal total) x.plan.rows) → new ≡ old ++ task_lines c g x.task x.plan p true
both-lines c g x p old one two new total first arrow cost e =
    let s = sort_line c g x.plan.cost x.plan.rows in
    let last : ℕ → List ℕ = λ n. group_title c g x.plan.form ++ figures_text (decimal n) x.plan.rows in
    e ∙ ap₂ (λ (l : List ℕ) (n : ℕ). l ++ last n) (arrow ∙ ap (λ (l : List ℕ). l ++ codes "  ->  ") first) cost
    ∙ append_assoc (old ++ s) (codes "  ->  ") (last (group_cost x.plan.form x.task (input_total c g x.plan.form p)))
    ∙ append_assoc old s (codes "  ->  " ++ last (group_cost x.plan.form x.task (input_total c g x.plan.form p)))

-- which lines stand above goes by the sort on top
pub above-by : (c : Contents) (g : GroupedQuery) (x : Chosen) (p : Plan) (b : Bool) (old new : List ℕ) → x.plan.sort_after ≡ b → new ≡ old ++ task_lines c g x.task x.plan p b
    → new ≡ old ++ task_lines c g x.task x.plan p x.plan.sort_after
above-by c g x p b old new e is = is ∙ ap (λ (d : Bool). old ++ task_lines c g x.task x.plan p d) (sym e)

-- the lines above and the input's lines are the whole text
pub whole-text : (c : Contents) (g : GroupedQuery) (x : Chosen) → IsReady c g x → (above text input : List ℕ) (depth : ℕ) → above ≡ [] ++ task_lines c g x.task x.plan (path x.input).tree x.plan.sort_after
    → depth ≡ input_depth x.plan.sort_after → input ≡ text_at c g.base depth (path x.input).tree → text ≡ above ++ input → text ≡ task_text c g x.task x.plan (path x.input).tree
whole-text c g x ready above text input depth first deep second e =
    e ∙ ap₂ (λ (l m : List ℕ). l ++ m) first (second ∙ ap₂ (λ q n. text_at c q n (path x.input).tree) ready.asked deep)
