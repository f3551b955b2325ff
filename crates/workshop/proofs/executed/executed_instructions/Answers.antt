use Rattle.std.proofs.Common.{◌∙◌, ap, sym}
use Rattle.cpu.proofs.RunLaws.{run-zero}
use Rattle.rope.specs.Places.{fixed_places}
use Rattle.cover.specs.Tallies.{profile_of}
use Rattle.cover.proofs.Counting.{profile_is}
use Rattle.instructions.specs.Places.{instructions}
use Rattle.yayul.specs.declared.language.Language.TheVariants.{Standard}
use Rattle.workshop.specs.Executed.{executed_before}
use Rattle.workshop.proofs.executed.executed_instructions.Goals as goal

pub returns-clause-count : goal.returns-clause-count
returns-clause-count c =
    c.executed_of.ensures
    ∙ ap (λ f. executed_before f c.in-Some.instructions fixed_places)
    (profile_is c.args.processor.now.scenario c.args.steps c.make_steps.new.self c.make_steps.ensures.counts)
    ∙ ap (λ w. executed_before (profile_of c.args.processor.now.scenario c.args.steps) w fixed_places)
    (c.in-Some.ensures ∙ ap (λ w. instructions Standard c.args.rows.now w) c.rope.ensures)

pub make_steps-requires-clause-state : goal.make_steps-requires-clause-state
make_steps-requires-clause-state c = c.start-machine.ensures.start ∙ sym (run-zero c.args.processor.now.scenario)
