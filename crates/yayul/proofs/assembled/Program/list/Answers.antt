use Rattle.std.specs.Prelude.{◌++◌, flat_map}
use Rattle.std.proofs.lemmas.Result.{err_from_is_err_and}
use Rattle.words.proofs.Texts.{Writes-after, beginning-longer}
use Rattle.yayul.specs.Listing.{listing, symbol_row, symbols_head}
use Rattle.yayul.proofs.assembled.Program.list.Goals as goal

pub returns-clause-written : goal.returns-clause-written
unfolding listing
returns-clause-written g c = λ told.
    rw (← c.self.view_is) (Writes-after _ _ _ _ _ c.write_symbols.result (c.in_ok-write.ensures.written told)
    (c.write_symbols.ensures.written told))

pub returns-in_err-write-clause-written : goal.returns-in_err-write-clause-written
unfolding listing
returns-in_err-write-clause-written g c = λ told.
    let p = err_from_is_err_and c.from_residual.result c.from_residual.ensures.1 in
    rw p.1 (rw (← c.self.view_is) (beginning-longer _ _ _ (symbols_head c.self.inside.symbols ++ flat_map symbol_row c.self.inside.symbols)
    (c.in_err-write.ensures.written told)))
