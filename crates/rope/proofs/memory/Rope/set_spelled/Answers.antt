use Rattle.std.proofs.Common.{◌≡◌, ◌<◌, ◌∙◌, ◌+◌, ◌/◌, ◌%◌, ℕ, refl, sym, arith}
use Rattle.rope.specs.Places.{bank_words, fixed_places}
use Rattle.rope.proofs.ReadSteps.{with_position, goes_word, goes_kept, two_next, none_next, all_stand-more}
use Rattle.rope.proofs.memory.Rope.set_spelled.Goals as goal
use Rattle.rope.proofs.memory.Rope.set_spelled.Goals.{After-set_slot}

pub loop-number-init : goal.loop-number-init
loop-number-init c =
    let same : c.args.position + 0 ≡ c.args.position = omega arith in
    record {
      goes = λ version rest spell old before. rw same before;
      kept = λ version rest old before. before;
      stand = λ stand. rw same stand;
    }

-- the word stands at the place of its position
set_there : (c : After-set_slot) → c.set_slot.new.self
    ≡ with_position c.loop-number.self (c.args.position + c.loop-number.number) c.half-word.result
set_there c =
    let entry : (c.args.position + c.loop-number.number) / bank_words
    ≡ c.args.position / bank_words = omega (arith, c.requires.room, c.loop-number-test.true) in
    let offset : (c.args.position + c.loop-number.number) % bank_words
    ≡ (c.args.position % bank_words + c.loop-number.number) % bank_words = omega arith in
    c.set_slot.ensures ∙ rw (c.bank_at-bank.ensures, c.offset_at.ensures, entry, offset) refl

pub loop-number-preserved : goal.loop-number-preserved
loop-number-preserved c =
    let position : ℕ = c.args.position + c.loop-number.number in
    let more : c.args.position + (c.loop-number.number + 1) ≡ position + 1 = omega arith in
    let below : position < fixed_places = omega (arith, c.requires.room, c.requires.place, c.loop-number-test.true) in
    let next = set_there c in
    record {
      goes = λ version rest spell old before. rw (more, next)
          (goes_word version _ _ c.loop-number.self position c.half-word.result below
          (two_next version c.args.bytes.now rest c.loop-number.number c.half-word.result
          (omega (arith, c.requires.bytes, c.loop-number-test.true))
          (c.half-word.ensures version (spell c.loop-number.number (omega (arith, c.loop-number-test.true)))))
          old (c.loop-number.invariant.goes version rest spell old before));
      kept = λ version rest old before. rw next (goes_kept version rest c.loop-number.self c.args.position position c.half-word.result
          (omega arith) old (c.loop-number.invariant.kept version rest old before));
      stand = λ stand. rw (more, next) (all_stand-more c.loop-number.self position c.half-word.result below
          (c.loop-number.invariant.stand stand));
    }

pub returns-clause-goes : goal.returns-clause-goes
returns-clause-goes c = λ version rest spell old before.
    let all : c.loop-number.number ≡ c.args.count = omega (arith, c.loop-number.auto.number-end, c.loop-number-test.false) in
    rw (sym (none_next c.args.bytes.now rest c.args.count c.requires.bytes))
    (rw all at (c.loop-number.invariant.goes version rest spell old before))
