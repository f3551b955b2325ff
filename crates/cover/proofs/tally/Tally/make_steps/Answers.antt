use Rattle.cover.proofs.Counting.{adds_up, shown_add_up}
use Rattle.cover.proofs.tally.Tally.make_steps.Goals as goal

pub returns-clause-adds_up : goal.returns-clause-adds_up
returns-clause-adds_up c = adds_up c.args.processor.now.scenario c.args.stop c.record_steps.new.profiler c.record_steps.ensures.stands

pub returns-clause-shown_add_up : goal.returns-clause-shown_add_up
returns-clause-shown_add_up c =
    shown_add_up c.args.processor.now.scenario c.args.stop c.record_steps.new.profiler c.record_steps.ensures.stands
