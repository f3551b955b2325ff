use Rattle.std.proofs.Common.{◌≡◌, ℕ, ◌+◌, ◌-◌, Some, None, ◌∙◌, ap, arith}
use Rattle.cpu.proofs.RunLaws.{run-add-one}
use Rattle.replay.specs.Found.{first_found, found_if}
use Rattle.replay.proofs.FoundLemmas.{first_after}
use Rattle.replay.proofs.session.Session.seek_on.Goals as goal

pub returns-in-Some-clause-first : goal.returns-in-Some-clause-first
returns-in-Some-clause-first g c = λ is_hit answers.
    let find = (λ (t : ℕ). found_if (is_hit (t + 1))) in
    let found : Some (c.in-Some.step, c.in-Some.field-0-1) ≡ first_found find (c.args.from - 1) c.args.count = c.in-Some.ensures.first find
    (λ t r below told. told.2 ∙ ap found_if (answers (t + 1) told.0 (omega (arith, below, c.requires.begun))
    (rw (run-add-one c.args.self.now.scenario t) told.1))) in
    first_after is_hit c.args.from c.args.count (Some (c.in-Some.step, c.in-Some.field-0-1)) c.requires.begun found

pub returns-clause-first : goal.returns-clause-first
returns-clause-first g c = λ is_hit answers.
    let find = (λ (t : ℕ). found_if (is_hit (t + 1))) in
    let found : None ≡ first_found find (c.args.from - 1) c.args.count = c.in-None.ensures.first find
    (λ t r below told. told.2 ∙ ap found_if (answers (t + 1) told.0 (omega (arith, below, c.requires.begun))
    (rw (run-add-one c.args.self.now.scenario t) told.1))) in
    first_after is_hit c.args.from c.args.count None c.requires.begun found
