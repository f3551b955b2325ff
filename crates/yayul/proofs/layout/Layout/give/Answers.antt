use Rattle.std.proofs.Common.{◌∙◌, refl, sym}
use Rattle.yayul.proofs.LineAgrees.{agreed_asks}
use Rattle.yayul.proofs.layout.Layout.give.Goals as goal

pub returns : goal.returns
returns c = λ s agrees.
    agreed_asks c.args.line s c.args.self.now c.args.placing.now c.args.label c.args.content agrees c.define.new.self c.ask.new.self
    c.ask.new.placing c.in-Some.place.0 c.in-Some.place.1 _ c.ask.result c.requires (sym c.word_place.ensures ∙ c.in-Some.is)
    c.in_ok-define.ensures refl c.ask.ensures.layout c.ask.ensures.words
