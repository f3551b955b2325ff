use Rattle.std.proofs.Common.{◌≡◌, ◌∙◌, true, ap, refl}
use Rattle.std.proofs.lemmas.Result.{err_from_is_err_and}
use Rattle.words.specs.Devices.{WritesBeginning}
use Rattle.access.specs.AccessText.{access_text}
use Rattle.access.proofs.Texts.{text_is}
use Rattle.workshop.proofs.AccessCounts.{adds_up_in}
use Rattle.workshop.proofs.accessing.count.Goals as goal

pub returns-in_err-write_accesses-clause-counts : goal.returns-in_err-write_accesses-clause-counts
returns-in_err-write_accesses-clause-counts g c =
    let p = err_from_is_err_and c.from_residual.result c.from_residual.ensures.1 in
    let text = text_is c.args.tally.now.view c.args.names.now c.args.processor.now.scenario c.args.steps c.count_all.new.counting
    c.rope.result.now
    c.count_all.ensures.stands (c.rope.ensures ∙ ap (λ s. s.rope) c.count_all.ensures.scenario) in
    let breaks : g.W.Write.told ≡ true → WritesBeginning (g.W.Write.written c.args.out.now) (g.W.Write.written c.write_accesses.new.out)
    (access_text c.args.tally.now.view c.args.names.now c.args.processor.now.scenario c.args.steps) = λ told.
    rw text at (c.in_err-write_accesses.ensures.written told) in
    rw (p.1, p.2) ((breaks, c.in_err-write_accesses.ensures.failures), tt, adds_up_in _ _ _ _ c.count_all.ensures.stands)

pub returns-clause-counts : goal.returns-clause-counts
returns-clause-counts g c =
    let text = text_is c.args.tally.now.view c.args.names.now c.args.processor.now.scenario c.args.steps c.count_all.new.counting
    c.rope.result.now
    c.count_all.ensures.stands (c.rope.ensures ∙ ap (λ s. s.rope) c.count_all.ensures.scenario) in (
      (λ told. rw text at (c.in_ok-write_accesses.ensures.written told), c.in_ok-write_accesses.ensures.failures),
      refl,
      adds_up_in _ _ _ _ c.count_all.ensures.stands,
    )

pub returns-in_err-write_accesses-clause-progress : goal.returns-in_err-write_accesses-clause-progress
returns-in_err-write_accesses-clause-progress g c =
    let p = err_from_is_err_and c.from_residual.result c.from_residual.ensures.1 in
    let all = c.count_all.ensures.progress in
    rw (p.1, p.2) all
