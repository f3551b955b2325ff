use Rattle.std.proofs.Common.{rules}
use Rattle.cpu.proofs.ByValue.{ticks_as_one}
use Rattle.cpu.proofs.laws.timers_tick_as_one.Goals as goal

pub returns : goal.returns
returns c = λ series. ticks_as_one c.args.processor.now.scenario c.args.machine.now c.args.time_1 c.args.time_2 series (search rules)
    (search rules)
