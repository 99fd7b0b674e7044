use Rattle.explain.proofs.nodes.+lead_at.Given as goal

-- proposed from what the function passes where it calls itself
abbrev pub decreases-lead_at : goal.decreases-lead_at
decreases-lead_at l = l.depth
