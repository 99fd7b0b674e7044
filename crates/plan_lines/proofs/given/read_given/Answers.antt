use Rattle.std.proofs.Common.{◌≡◌, ◌+◌, ℕ, List, ◌||◌, Bool, length, ap, sym, ◌∙◌, subst, arith}
use Rattle.std.proofs.lemmas.Bool.Decides.{Decides-eqb}
use Rattle.std.proofs.lemmas.Slice.Eq.{slice_eq-Decides}
use Rattle.std.proofs.lemmas.Bool.{true≢false}
use Rattle.pg_base.specs.Sets.{has}
use Rattle.pg_base.specs.declared.numbers.TableNo.{TableNo}
use Rattle.catalog.specs.Range.{Range}
use Rattle.certificate_entries.proofs.SetLemmas.{split-at}
use Rattle.plan_lines.proofs.GivenLemmas.{IsReading, moved, reading-begun, reading-done, reading-passed, reading-taken}
use Rattle.plan_lines.proofs.given.read_given.Goals as goal
use Rattle.plan_lines.proofs.given.read_given.Goals.{then-eq, else-eq}

pub loop-n-init : goal.loop-n-init
loop-n-init c = reading-begun c.args.cat.now c.args.q.now c.requires.bound c.args.text.now c.next_word-word.result.now c.next_word-word.new.at c.empty-set.result (λ xs ws e. c.next_word-word.ensures.next xs ws (c.new-at.ensures ∙ e)) c.empty-set.ensures

pub loop-n-preserved : goal.loop-n-preserved
loop-n-preserved c =
    let q = c.args.q.now in
    let n = c.loop-n.n in
    let r = c.index-relations-n.result in
    let at = split-at c.items-relations.result.now q.range n r (c.items-relations.ensures ∙ c.range_of.ensures) c.index-relations-n.is c.loop-n-test.true in
    let same = slice_eq-Decides Decides-eqb c.loop-n.word.now c.items.result.now c.eq.result c.eq.ensures in
    elim c.if-eq.branch [
      | then-eq w ↦
          moved q c.args.text.now (n + 1) w.union-set.result c.if-eq.set w.next_word-word-then-eq.result.now c.if-eq.word.now w.next_word-word-then-eq.new.at c.if-eq.at w.set-is (ap (λ b. b.now) w.word-is) w.at-is
          (reading-taken c.args.cat.now q c.requires.bound n r at.0 at.1 c.args.text.now c.loop-n.word.now c.loop-n.at w.next_word-word-then-eq.result.now w.next_word-word-then-eq.new.at c.loop-n.set w.union-set.result c.loop-n.invariant
          (same.0 w.if-eq.true ∙ (c.items.ensures ∙ ap (λ (x : TableNo × List ℕ). x.1) (sym c.index-relations-n.is))) (λ k. w.union-set.ensures k ∙ ap (λ (b : Bool). has c.loop-n.set.0 k || b) (w.one.ensures k)) w.next_word-word-then-eq.ensures.next)
      | else-eq w ↦
          moved q c.args.text.now (n + 1) c.loop-n.set c.if-eq.set c.loop-n.word.now c.if-eq.word.now c.loop-n.at c.if-eq.at w.set-is (ap (λ b. b.now) w.word-is) w.at-is
          (reading-passed c.args.cat.now q c.requires.bound n r at.0 at.1 c.args.text.now c.loop-n.word.now c.loop-n.at c.loop-n.set c.loop-n.invariant
          (λ e. true≢false (sym (same.1 (e ∙ (ap (λ (x : TableNo × List ℕ). x.1) c.index-relations-n.is ∙ sym c.items.ensures))) ∙ w.if-eq.false)))
    ]

pub returns-clause-only : goal.returns-clause-only
returns-clause-only c =
    let q = c.args.q.now in
    let all = c.items-relations.ensures ∙ c.range_of.ensures in
    let long : length c.items-relations.result.now ≡ length q.range = ap (λ (l : Range). length l) all in
    let low = c.loop-n-test.false in
    let most = c.loop-n.auto.n-end in
    let end : c.loop-n.n ≡ length q.range = omega (arith, long, low, most) in
    reading-done c.args.cat.now q c.requires.bound c.args.text.now c.loop-n.word.now c.loop-n.at c.loop-n.set (subst (λ (m : ℕ). IsReading q c.args.text.now m c.loop-n.set c.loop-n.word.now c.loop-n.at) end c.loop-n.invariant)
