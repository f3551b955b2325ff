use Rattle.delays.proofs.text.rows_of_spans.Goals as goal

pub returns : goal.returns
returns c = rw (c.as_slice.ensures.value, c.span_name-name.ensures.items, c.as_slice-2.ensures.value, c.to_row-to.ensures.items) at
    c.best_row.ensures
