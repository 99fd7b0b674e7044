use Rattle.std.proofs.Common.{◌≡◌, ◌++◌, ◌∙◌, List, ℕ, cond, ap, sym, append_assoc, codes}
use Rattle.std.specs.Result.{OnOk, is_ok}
use Rattle.std.proofs.Common.{Result, Ok, Err}
use Rattle.std.proofs.lemmas.Result.{on_ok_weaker}
use Rattle.plan_tree.specs.work.Views.{plan}
use Rattle.explain.specs.Texts.{title}
use Rattle.explain.specs.work.Texts.{node_keys}
use Rattle.explain.proofs.nodes.put_title.Goals as goal

-- what a call leaves that appends some bytes, or fails
alone : {X E : Type 0} (r : Result X E) (new old bytes : List ℕ) → new ≡ cond (is_ok r) (old ++ bytes) old → OnOk r (new ≡ old ++ bytes)
alone (Ok x) new old bytes e = e
alone (Err x) new old bytes e = tt

-- what a call leaves that appends some bytes behind others
behind : (new mid old first rest : List ℕ) → new ≡ mid ++ rest → mid ≡ old ++ first → new ≡ old ++ (first ++ rest)
behind new mid old first rest e f = e ∙ ap (λ xs. xs ++ rest) f ∙ append_assoc old first rest

pub returns-in_ok-extend_from_slice-in-Bitmap : goal.returns-in_ok-extend_from_slice-in-Bitmap
returns-in_ok-extend_from_slice-in-Bitmap c =
    on_ok_weaker c.put_scanned.result
    (λ e. behind c.put_scanned.new.text.items c.extend_from_slice-in-Bitmap.new.self.items c.args.text.now.items _ _ e c.in_ok-extend_from_slice-in-Bitmap.ensures.items
    ∙ ap (λ t. c.args.text.now.items ++ title c.args.cat.now c.args.q.now t) (sym (ap plan c.in-Bitmap.is))) c.put_scanned.ensures

pub returns-in-Nest : goal.returns-in-Nest
returns-in-Nest c =
    on_ok_weaker c.extend_from_slice-in-Nest.result
    (λ e. e ∙ ap (λ t. c.args.text.now.items ++ title c.args.cat.now c.args.q.now t) (sym (ap plan c.in-Nest.is)))
    (alone c.extend_from_slice-in-Nest.result c.extend_from_slice-in-Nest.new.self.items c.args.text.now.items _ c.extend_from_slice-in-Nest.ensures.items)

pub returns-in_ok-extend_from_slice-in-Merge : goal.returns-in_ok-extend_from_slice-in-Merge
returns-in_ok-extend_from_slice-in-Merge c =
    on_ok_weaker c.put_node_keys-in-Merge.result
    (λ e. behind c.put_node_keys-in-Merge.new.text.items c.extend_from_slice-in-Merge.new.self.items c.args.text.now.items (codes "Merge Join by ") (node_keys c.args.cat.now c.args.q.now (plan c.args.p.now) c.in-Merge.keys) e
    c.in_ok-extend_from_slice-in-Merge.ensures.items
    ∙ ap (λ t. c.args.text.now.items ++ (codes "Merge Join by " ++ node_keys c.args.cat.now c.args.q.now t c.in-Merge.keys)) (ap plan c.in-Merge.is)
    ∙ ap (λ t. c.args.text.now.items ++ title c.args.cat.now c.args.q.now t) (sym (ap plan c.in-Merge.is))) c.put_node_keys-in-Merge.ensures
