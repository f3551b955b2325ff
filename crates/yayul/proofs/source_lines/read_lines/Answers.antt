use Rattle.std.proofs.Common.{◌∙◌, ◌+◌, ◌-◌, arith}
use Rattle.agc_text.specs.Lines.{lines}
use Rattle.yayul.specs.Flight.{most_lines}
use Rattle.yayul.proofs.LinesRead.{read_step}
use Rattle.yayul.proofs.source_lines.read_lines.Goals as goal

pub loop-preserved : goal.loop-preserved
loop-preserved c =
    let most = most_lines c.args.language + 1 in
    read_step c.args.language c.loop.lines.items c.push.new.self.items c.of.result (most - c.loop.counter) (most - (c.loop.counter + 1))
    (lines c.loop.rest.now) (lines c.in-Some.after.now) c.in-Some.text.now (omega arith) c.in-Some.ensures.lines
    c.in_ok-push.ensures.items c.of.ensures ∙ c.loop.invariant
