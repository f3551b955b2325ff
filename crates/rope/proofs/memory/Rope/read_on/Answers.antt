use Rattle.std.proofs.Common.{◌≡◌, ◌∙◌, ◌+◌, refl, arith}
use Rattle.std.proofs.lemmas.Result.{err_from_is_err_and}
use Rattle.rope.proofs.ReadSteps.{with_position, goes_word, all_stand-more, fault_goes}
use Rattle.rope.proofs.memory.Rope.read_on.Goals as goal
use Rattle.rope.proofs.memory.Rope.read_on.Goals.{After-set_slot}
use Rattle.rope.proofs.memory.Rope.read_on.Given.{Over}

-- the word stands at the place of its position
set_there : (g : Over) (c : After-set_slot g) → c.set_slot.new.self
    ≡ with_position c.take_ready-count.new.self c.args.position c.in_ok-word.word
set_there g c = c.set_slot.ensures ∙ rw (c.bank_at.ensures, c.offset_at.ensures) refl

pub returns-clause-goes : goal.returns-clause-goes
returns-clause-goes g c = λ told old before.
    let none : c.args.position + c.take_ready-count.result ≡ c.args.position = omega (arith, c.if-count-gt0.false) in
    rw (set_there g c)
    (goes_word c.args.version (g.R.Read.left c.take_ready-count.new.reader) (g.R.Read.left c.read_word.new.reader)
    c.take_ready-count.new.self c.args.position c.in_ok-word.word c.requires (c.in_ok-word.ensures.word told) old
    (rw none at (c.take_ready-count.ensures.goes told old before)))

pub returns-clause-stand : goal.returns-clause-stand
returns-clause-stand g c = λ stand.
    let none : c.args.position + c.take_ready-count.result ≡ c.args.position = omega (arith, c.if-count-gt0.false) in
    rw (set_there g c) (all_stand-more c.take_ready-count.new.self c.args.position c.in_ok-word.word c.requires
    (rw none at (c.take_ready-count.ensures.stand stand)))

pub returns-in_err-word-clause-fault : goal.returns-in_err-word-clause-fault
returns-in_err-word-clause-fault g c = λ told.
    let p = err_from_is_err_and c.from_residual.result c.from_residual.ensures.1 in
    let none : c.args.position + c.take_ready-count.result ≡ c.args.position = omega (arith, c.if-count-gt0.false) in
    rw (p.1, p.2) (λ old before.
    fault_goes c.args.version (g.R.Read.left c.take_ready-count.new.reader) (g.R.Read.left c.read_word.new.reader)
    c.take_ready-count.new.self c.args.position c.in_err-word.field-0.0 c.requires (c.in_err-word.ensures.word told) old
    (rw none at (c.take_ready-count.ensures.goes told old before)))
