use Rattle.std.proofs.Common.{◌∙◌, ◌+◌, sym, ap, refl, arith}
use Rattle.commands.specs.declared.command.Breakpoint.TheVariants.{Outside}
use Rattle.debugger.specs.History.{sight}
use Rattle.debugger.specs.Growth.{holds, lowest_hit}
use Rattle.debugger.specs.Stopping.{noted_step}
use Rattle.debugger.proofs.Breaking.{first_found, none_found}
use Rattle.debugger.proofs.breakpoints.lowest_hit.Goals as goal

pub returns-then-holds : goal.returns-then-holds
unfolding lowest_hit
returns-then-holds c = λ rope step tells.
    let i = c.loop-index.index in
    let item = c.index-breakpoints-index.result in
    let seen = sight rope c.args.machine.now in
    first_found (holds step seen) c.args.breakpoints.now i (i + 1) item c.loop-index-test.true refl
    (λ k below. sym (tells k item seen (omega (arith, below, c.loop-index-test.true))) ∙ c.loop-index.invariant rope k item below)
    (sym (tells i item seen c.loop-index-test.true)
    ∙ ap (holds (noted_step c.args.noted.now i c.args.machine.now) seen) (sym c.index-breakpoints-index.is)
    ∙ sym (c.if-holds.ensures rope))

pub returns : goal.returns
unfolding lowest_hit
returns c = λ rope step tells.
    let seen = sight rope c.args.machine.now in
    none_found (holds step seen) c.args.breakpoints.now c.loop-index.index Outside
    (omega (arith, c.loop-index-test.false, c.loop-index.auto.index-end))
    (λ k below. sym (tells k Outside seen (omega (arith, below, c.loop-index.auto.index-end)))
    ∙ c.loop-index.invariant rope k Outside below)
