use Rattle.std.proofs.Common.{◌≡◌, get_or, ap, ◌∙◌, arith}
use Rattle.space.proofs.CellLemmas.{view-place, IsStored-word, number_by-word, word_here, word_others}
use Rattle.space.specs.Stored.{number_by, held_at}
use Rattle.words.specs.Numbers.{extend}
use Rattle.space.proofs.store.Store.keep.Goals as goal

pub invariant_of-self : goal.invariant_of-self
invariant_of-self c =
    let r = c.self.inside.registers in
    let old = c.self.inside.erasable in
    let new = c.set.new.numbers in
    let p = c.from-index.result in
    let wide : get_or new p 0 ≡ extend c.args.word = cc in
    let here = word_here r new p (extend c.args.word) (omega arith) wide in
    let others = word_others r old new p c.set.ensures.others in
    record {
      numbers = IsStored-word (held_at r old) (held_at r new) c.self.inside.channels p c.args.word c.self.invariant.numbers (omega arith)
          (omega arith) (omega arith) here others;
      selects = c.self.invariant.selects;
    }

pub returns : goal.returns
returns c =
    let r = c.self.inside.registers in
    let old = c.self.inside.erasable in
    let new = c.set.new.numbers in
    let p = c.from-index.result in
    let wide : get_or new p 0 ≡ extend c.args.word = cc in
    let here = word_here r new p (extend c.args.word) (omega arith) wide in
    let others = word_others r old new p c.set.ensures.others in
    let held = number_by-word p c.args.word (omega arith) (omega arith) in
    let view = view-place (held_at r old) (held_at r new) c.self.inside.channels p c.args.word (omega arith) (λ e. omega arith)
    (λ e. omega arith) (ap (number_by p) here ∙ held) others in
    let same : p ≡ c.args.place = cc in
    cc (view, c.self.view_is, same)
