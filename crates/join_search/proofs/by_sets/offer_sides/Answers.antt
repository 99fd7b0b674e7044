use Rattle.join_search.proofs.by_sets.offer_sides.Goals as goal

pub offer_split-requires-clause-over : goal.offer_split-requires-clause-over
offer_split-requires-clause-over c = record {
  query = c.requires.at.query;
  whole = c.requires.at.whole;
  order = c.requires.at.order;
  placed = c.requires.at.placed;
  split = record {
    divided = c.requires.divided;
    rows = c.requires.at.rows;
    outer_rows = c.rows_by-outer_rows.ensures.rows;
    inner_rows = c.rows_by-inner_rows.ensures.rows;
    outer_estimate = c.rows_by-outer_rows.ensures.estimate;
    inner_estimate = c.rows_by-inner_rows.ensures.estimate;
    outside = c.requires.at.outside;
  };
  outers = c.requires.outers;
  inners = c.paths-inners.ensures;
}
