-- The text of a plan is what is written with its own numbers.
use Rattle.std.proofs.Common.{◌≡◌, ◌+◌, ℕ, List, ◌++◌, take, drop, sym, ap, ap₂, ◌∙◌}
use Rattle.std.specs.Prelude.{Option, None}
use Rattle.std.proofs.Math.Seq.{take-append_seam, drop-append_seam}
use Rattle.std.proofs.lemmas.List.{append-nil}
use Rattle.catalog.specs.Contents.{Contents}
use Rattle.sql_query.specs.Queries.{Query}
use Rattle.sql_query.specs.declared.window.Window.{Window}
use Rattle.plan_tree.specs.Costs.{cost, estimate}
use Rattle.plan_tree.specs.Plans.{Plan, seq, index, index_only, bitmap, sort, nest, merge}
use Rattle.plan_lines.specs.explain_Texts.{bits_text, first_depth, lead, node_line, numbers_text, plan_text, text_at, title}
use Rattle.plan_space.proofs.PartLemmas.{own-count}
use Rattle.plan_space.specs.Numbered.{nodes, own_numbers, own_pair}
use Rattle.plan_reader.specs.Written.{line_with, written_at, written_text}

module _ (c : Contents) (q : Query) where
  front : (outer inner : Plan) → take (nodes outer) (own_numbers c q outer ++ own_numbers c q inner) ≡ own_numbers c q outer
  front outer inner = ap (λ (n : ℕ). take n (own_numbers c q outer ++ own_numbers c q inner)) (sym (own-count c q outer)) ∙ take-append_seam (own_numbers c q outer) (own_numbers c q inner)

  back : (outer inner : Plan) → drop (nodes outer) (own_numbers c q outer ++ own_numbers c q inner) ≡ own_numbers c q inner
  back outer inner = ap (λ (n : ℕ). drop n (own_numbers c q outer ++ own_numbers c q inner)) (sym (own-count c q outer)) ∙ drop-append_seam (own_numbers c q outer) (own_numbers c q inner)

  module _ (none : q.window ≡ None) where
    own-line : (d : ℕ) (p : Plan) → node_line c q d p ≡ line_with c q d p (own_pair c q p)
    own-line d p = ap (λ (w : Option Window). lead d ++ (title c q p ++ numbers_text w (cost c q p) (estimate c q p))) none

    own-text : (d : ℕ) (p : Plan) → text_at c q d p ≡ written_at c q d p (own_numbers c q p)
    own-text d (seq r) = own-line d (seq r) ∙ sym (append-nil (line_with c q d (seq r) (own_pair c q (seq r))))
    own-text d (index r i backward p) = own-line d (index r i backward p) ∙ sym (append-nil (line_with c q d (index r i backward p) (own_pair c q (index r i backward p))))
    own-text d (index_only r i backward p) = own-line d (index_only r i backward p) ∙ sym (append-nil (line_with c q d (index_only r i backward p) (own_pair c q (index_only r i backward p))))
    own-text d (bitmap r p bits) = ap (λ (l : List ℕ). l ++ bits_text c q (d + 1) bits) (own-line d (bitmap r p bits))
    own-text d (sort keys input) = ap₂ (λ (l m : List ℕ). l ++ m) (own-line d (sort keys input)) (own-text (d + 1) input)
    own-text d (nest outer inner) =
        ap₂ (λ (l m : List ℕ). l ++ m) (own-line d (nest outer inner))
        (ap₂ (λ (s t : List ℕ). s ++ t) (own-text (d + 1) outer ∙ ap (written_at c q (d + 1) outer) (sym (front outer inner))) (own-text (d + 1) inner ∙ ap (written_at c q (d + 1) inner) (sym (back outer inner))))
    own-text d (merge keys outer inner) =
        ap₂ (λ (l m : List ℕ). l ++ m) (own-line d (merge keys outer inner))
        (ap₂ (λ (s t : List ℕ). s ++ t) (own-text (d + 1) outer ∙ ap (written_at c q (d + 1) outer) (sym (front outer inner))) (own-text (d + 1) inner ∙ ap (written_at c q (d + 1) inner) (sym (back outer inner))))

pub own-plan : (c : Contents) (q : Query) (p : Plan) → q.window ≡ None → plan_text c q p ≡ written_text c q p (own_numbers c q p)
own-plan c q p none = ap (λ (w : Option Window). text_at c q (first_depth w) p) none ∙ own-text c q none 0 p
