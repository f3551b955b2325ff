use Rattle.yayul.proofs.assembly.complete.Given as goal

abbrev pub ghost-complete : goal.ghost-complete
ghost-complete g a = g.laid_out.requests
