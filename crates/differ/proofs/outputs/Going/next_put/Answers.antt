use Rattle.std.proofs.Common.{◌++◌, ◌-◌, ◌∙◌, List, ap, sym}
use Rattle.differ.specs.declared.outputs.Put.{Put}
use Rattle.differ.specs.Outputs.{put_of, puts}
use Rattle.differ.proofs.Puts.{puts_on}
use Rattle.differ.proofs.outputs.Going.next_put.Goals as goal

pub returns-clause-puts : goal.returns-clause-puts
returns-clause-puts c =
    let n = c.run_on-done.result.0 in
    let scenario = c.args.processor.now.scenario in
    puts_on scenario c.args.self.now.done n c.args.steps c.run_on-done.ensures.past c.run_on-done.ensures.within
    c.run_on-done.ensures.silent
    ∙ ap (λ (xs : List Put). xs ++ puts scenario n (c.args.steps - n))
    (ap (put_of n) (sym c.run_on-done.ensures.put) ∙ sym c.put_of.ensures)
