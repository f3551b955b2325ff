use Rattle.std.proofs.Common.{◌≡◌, ◌∙◌, true, ap, inr, refl}
use Rattle.std.proofs.lemmas.Result.{err_from_is_err_and}
use Rattle.words.specs.Devices.{WritesBeginning}
use Rattle.cover.specs.CoverText.{cover_text}
use Rattle.cover.proofs.Counting.{adds_up, shown_add_up}
use Rattle.workshop.proofs.Profiles.{text_is}
use Rattle.workshop.proofs.covering.cover.Goals as goal

pub returns-in_err-write_profile-clause-covers : goal.returns-in_err-write_profile-clause-covers
returns-in_err-write_profile-clause-covers g c =
    let p = err_from_is_err_and c.from_residual.result c.from_residual.ensures.1 in
    let text = text_is c.args.notation c.args.processor.now.scenario c.args.steps c.count_all-cycles.new.counting
    (record { count = c.args.steps; cycles = c.count_all-cycles.result }) c.rope.result.now c.args.rows.now
    c.count_all-cycles.ensures.stands (ap (λ k. record { count = c.args.steps; cycles = k }) c.count_all-cycles.ensures.cycles)
    (c.rope.ensures ∙ ap (λ s. s.rope) c.count_all-cycles.ensures.scenario) in
    let breaks : g.W.Write.told ≡ true → WritesBeginning (g.W.Write.written c.args.out.now) (g.W.Write.written c.write_profile.new.out)
    (cover_text c.args.notation c.args.rows.now c.args.processor.now.scenario c.args.steps) = λ told.
    rw text at (c.in_err-write_profile.ensures.written told) in
    rw (p.1, p.2) (inr (
      (breaks, c.in_err-write_profile.ensures.failures),
      adds_up _ _ _ c.count_all-cycles.ensures.stands,
      shown_add_up _ _ _ c.count_all-cycles.ensures.stands,
    ))

pub returns-clause-covers : goal.returns-clause-covers
returns-clause-covers g c =
    let text = text_is c.args.notation c.args.processor.now.scenario c.args.steps c.count_all-cycles.new.counting
    (record { count = c.args.steps; cycles = c.count_all-cycles.result }) c.rope.result.now c.args.rows.now
    c.count_all-cycles.ensures.stands (ap (λ k. record { count = c.args.steps; cycles = k }) c.count_all-cycles.ensures.cycles)
    (c.rope.ensures ∙ ap (λ s. s.rope) c.count_all-cycles.ensures.scenario) in
    inr (
      (λ told. rw text at (c.in_ok-write_profile.ensures.written told), c.in_ok-write_profile.ensures.failures),
      adds_up _ _ _ c.count_all-cycles.ensures.stands,
      shown_add_up _ _ _ c.count_all-cycles.ensures.stands,
    )

pub returns-in_default-clause-progress : goal.returns-in_default-clause-progress
returns-in_default-clause-progress g c = refl

pub returns-in_err-write_profile-clause-progress : goal.returns-in_err-write_profile-clause-progress
returns-in_err-write_profile-clause-progress g c =
    let p = err_from_is_err_and c.from_residual.result c.from_residual.ensures.1 in
    let all = c.count_all-cycles.ensures.progress in
    rw (p.1, p.2) all
