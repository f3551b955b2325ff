use Rattle.std.proofs.Common.{◌<◌, [], ◌∷◌, ◌++◌, ◌∙◌, sym, ap, arith, length, List, false, ◌≡◌}
use Rattle.feed.specs.Feed.{most_inputs, is_late}
use Rattle.feed.specs.declared.entry.Plain.{Plain}
use Rattle.feed.proofs.LineSteps.{gathered_push}
use Rattle.feed.proofs.reading.Gathered.take_input.Goals as goal

pub returns-in-Ok-clause-gathered : goal.returns-in-Ok-clause-gathered
returns-in-Ok-clause-gathered c =
    let value = c.deref.ensures.value in
    let in_time : is_late c.args.self.now.plain.items c.args.cycle
    ≡ false = ap (λ (l : List Plain). is_late l c.args.cycle) (sym value) ∙ sym c.is_late.ensures ∙ c.if-is_late.false in
    let long = ap length c.as_slice.ensures.value in
    let few : length c.args.self.now.plain.items < most_inputs = omega (arith, long, c.if-as_slice-ge-MOST_INPUTS.false) in
    gathered_push c.args.self.now.plain.items c.push.new.self.items c.args.self.now.sources.items c.args.self.now.line c.args.cycle
    c.args.input c.requires in_time few
    (c.in-Ok.ensures.items ∙ ap (λ n. c.args.self.now.plain.items ++ record { cycle = c.args.cycle; line = n; input = c.args.input } ∷ [])
    c.from-line.ensures)
