use Rattle.notes.specs.Counted.{told_of}
use Rattle.notes.proofs.Booked.{takes_from, tells_from}
use Rattle.notes.proofs.Counting.{of_kinds}
use Rattle.notes.proofs.notebook.Notebook.take_step.Goals as goal
use Rattle.std.proofs.Common.{refl}

pub returns-clause-takes : goal.returns-clause-takes
returns-clause-takes c =
    takes_from c.args.processor.now.scenario c.args.machine.now c.args.step.now _ _ c.self.view_is c.requires.step c.account_of.result
    c.number_of-number.result c.account_of.ensures c.number_of-number.ensures.number _ c.number_of-number.ensures.known
    (of_kinds _ (rw c.happens-divides.ensures at c.take-quotients.ensures.left)
    (rw c.happens-is_skipping.ensures at c.take-skips.ensures.left) (rw c.happens-has_no_word.ensures at c.take-no_words.ensures.left)
    (rw c.happens-is_in_erasable.ensures at c.take-in_erasable.ensures.left)
    (rw c.happens-has_no_handler.ensures at c.take-no_handlers.ensures.left)
    (rw c.happens-reaches_other.ensures at c.take-other_banks.ensures.left) (rw c.happens-loses.ensures at c.take-not_kept.ensures.left)
    (rw c.happens-parts_zeros.ensures at c.take-minus_zeros.ensures.left)
    (rw c.happens-overwrites.ensures at c.take-overwritten.ensures.left) (rw c.happens-shares.ensures at c.take-shared.ensures.left)
    (rw c.happens-reaches_fixed.ensures at c.take-fixed_banks.ensures.left))
    refl refl c.note.ensures

pub returns-clause-told : goal.returns-clause-told
returns-clause-told c =
    tells_from c.args.processor.now.scenario c.args.machine.now c.args.step.now _ _ c.self.view_is c.requires.step c.account_of.result
    c.number_of-number.result c.account_of.ensures c.number_of-number.ensures.number (told_of _)
    (of_kinds _ (rw c.happens-divides.ensures at c.take-quotients.ensures.out)
    (rw c.happens-is_skipping.ensures at c.take-skips.ensures.out) (rw c.happens-has_no_word.ensures at c.take-no_words.ensures.out)
    (rw c.happens-is_in_erasable.ensures at c.take-in_erasable.ensures.out)
    (rw c.happens-has_no_handler.ensures at c.take-no_handlers.ensures.out)
    (rw c.happens-reaches_other.ensures at c.take-other_banks.ensures.out) (rw c.happens-loses.ensures at c.take-not_kept.ensures.out)
    (rw c.happens-parts_zeros.ensures at c.take-minus_zeros.ensures.out)
    (rw c.happens-overwrites.ensures at c.take-overwritten.ensures.out) (rw c.happens-shares.ensures at c.take-shared.ensures.out)
    (rw c.happens-reaches_fixed.ensures at c.take-fixed_banks.ensures.out))
