use Rattle.std.proofs.Common.{◌<◌, arith, length, sym, ap, ◌∙◌, subst}
use Rattle.std.proofs.lemmas.Bool.Decides.{nat_tests}
use Rattle.feed.specs.Heads.{IsRule}
use Rattle.feed.specs.declared.entry.Series.{Series}
use Rattle.feed.proofs.LineSteps.{gathered_series}
use Rattle.feed.proofs.reading.Gathered.take_rule.Goals as goal

pub new-requires : goal.new-requires
new-requires c = subst (λ (s : Series). IsRule s) (sym c.on_line.ensures) (c.requires.rule c.from-line.result)

pub returns-clause-gathered : goal.returns-clause-gathered
returns-clause-gathered c =
    let now = c.args.self.now in
    let is = c.new.ensures ∙ c.on_line.ensures in
    let few = c.requires.gathered.few in
    let room : length now.sources.items < 16 = grind (arith, nat_tests, few, c.is_full.ensures.value, c.if-is_full.false) in
    gathered_series now.plain.items now.sources.items c.push.new.self.items now.line c.new.result c.requires.gathered
    (ap (λ (s : Series). s.line) is ∙ c.from-line.ensures)
    (subst (λ (s : Series). IsRule s) (sym is) (c.requires.rule c.from-line.result)) room c.push.ensures.items
