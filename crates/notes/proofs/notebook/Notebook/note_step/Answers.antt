use Rattle.std.proofs.Common.{◌∙◌, ap, sym, refl}
use Rattle.notes.specs.declared.kind.Kind.TheVariants.{Quotient, Skip, NoWord, InErasable, NoHandler, OtherBank, NotKept, MinusZero}
use Rattle.notes.specs.declared.kind.Kind.TheVariants.{Overwritten, Shared, FixedBank}
use Rattle.notes.specs.Counted.{counts_of, is_first}
use Rattle.notes.proofs.Booked.{notes_from}
use Rattle.notes.proofs.Counting.{of_kinds, small_at}
use Rattle.notes.proofs.notebook.Notebook.note_step.Goals as goal

pub count-first_quotient-requires-clause-small : goal.count-first_quotient-requires-clause-small
count-first_quotient-requires-clause-small c =
    small_at _ c.args.self.now _ _ Quotient (ap (λ book. counts_of book Quotient) c.self.view_is) c.requires.small
    c.number_of-number.ensures.known c.number_of-number.ensures.number

pub count-first_skip-requires-clause-small : goal.count-first_skip-requires-clause-small
count-first_skip-requires-clause-small c =
    small_at _ c.args.self.now _ _ Skip (ap (λ book. counts_of book Skip) c.self.view_is) c.requires.small c.number_of-number.ensures.known
    c.number_of-number.ensures.number

pub count-first_no_word-requires-clause-small : goal.count-first_no_word-requires-clause-small
count-first_no_word-requires-clause-small c =
    small_at _ c.args.self.now _ _ NoWord (ap (λ book. counts_of book NoWord) c.self.view_is) c.requires.small
    c.number_of-number.ensures.known c.number_of-number.ensures.number

pub count-first_in_erasable-requires-clause-small : goal.count-first_in_erasable-requires-clause-small
count-first_in_erasable-requires-clause-small c =
    small_at _ c.args.self.now _ _ InErasable (ap (λ book. counts_of book InErasable) c.self.view_is) c.requires.small
    c.number_of-number.ensures.known c.number_of-number.ensures.number

pub count-first_no_handler-requires-clause-small : goal.count-first_no_handler-requires-clause-small
count-first_no_handler-requires-clause-small c =
    small_at _ c.args.self.now _ _ NoHandler (ap (λ book. counts_of book NoHandler) c.self.view_is) c.requires.small
    c.number_of-number.ensures.known c.number_of-number.ensures.number

pub count-first_other_bank-requires-clause-small : goal.count-first_other_bank-requires-clause-small
count-first_other_bank-requires-clause-small c =
    small_at _ c.args.self.now _ _ OtherBank (ap (λ book. counts_of book OtherBank) c.self.view_is) c.requires.small
    c.number_of-number.ensures.known c.number_of-number.ensures.number

pub count-first_not_kept-requires-clause-small : goal.count-first_not_kept-requires-clause-small
count-first_not_kept-requires-clause-small c =
    small_at _ c.args.self.now _ _ NotKept (ap (λ book. counts_of book NotKept) c.self.view_is) c.requires.small
    c.number_of-number.ensures.known c.number_of-number.ensures.number

pub count-first_minus_zero-requires-clause-small : goal.count-first_minus_zero-requires-clause-small
count-first_minus_zero-requires-clause-small c =
    small_at _ c.args.self.now _ _ MinusZero (ap (λ book. counts_of book MinusZero) c.self.view_is) c.requires.small
    c.number_of-number.ensures.known c.number_of-number.ensures.number

pub count-first_overwritten-requires-clause-small : goal.count-first_overwritten-requires-clause-small
count-first_overwritten-requires-clause-small c =
    small_at _ c.args.self.now _ _ Overwritten (ap (λ book. counts_of book Overwritten) c.self.view_is) c.requires.small
    c.number_of-number.ensures.known c.number_of-number.ensures.number

pub count-first_shared-requires-clause-small : goal.count-first_shared-requires-clause-small
count-first_shared-requires-clause-small c =
    small_at _ c.args.self.now _ _ Shared (ap (λ book. counts_of book Shared) c.self.view_is) c.requires.small
    c.number_of-number.ensures.known c.number_of-number.ensures.number

pub count-first_fixed_bank-requires-clause-small : goal.count-first_fixed_bank-requires-clause-small
count-first_fixed_bank-requires-clause-small c =
    small_at _ c.args.self.now _ _ FixedBank (ap (λ book. counts_of book FixedBank) c.self.view_is) c.requires.small
    c.number_of-number.ensures.known c.number_of-number.ensures.number

pub returns : goal.returns
returns c =
    let number = c.number_of-number.result in
    notes_from c.args.processor.now.scenario c.args.machine.now c.args.step.now _ _ c.self.view_is c.requires.step c.account_of.result
    number c.account_of.ensures c.number_of-number.ensures.number _ _ _ c.number_of-number.ensures.known
    (of_kinds _ (rw c.happens-divides.ensures at c.count-first_quotient.ensures.counted)
    (rw c.happens-is_skipping.ensures at c.count-first_skip.ensures.counted)
    (rw c.happens-has_no_word.ensures at c.count-first_no_word.ensures.counted)
    (rw c.happens-is_in_erasable.ensures at c.count-first_in_erasable.ensures.counted)
    (rw c.happens-has_no_handler.ensures at c.count-first_no_handler.ensures.counted)
    (rw c.happens-reaches_other.ensures at c.count-first_other_bank.ensures.counted)
    (rw c.happens-loses.ensures at c.count-first_not_kept.ensures.counted)
    (rw c.happens-parts_zeros.ensures at c.count-first_minus_zero.ensures.counted)
    (rw c.happens-overwrites.ensures at c.count-first_overwritten.ensures.counted)
    (rw c.happens-shares.ensures at c.count-first_shared.ensures.counted)
    (rw c.happens-reaches_fixed.ensures at c.count-first_fixed_bank.ensures.counted))
    refl c.note.ensures c.note-2.ensures refl
    c.list.ensures c.has_some-is_first.ensures c.latest-self-inside.ensures (of_kinds _
    (ap (λ b. is_first c.self.inside.quotients number b) (sym c.happens-divides.ensures) ∙ sym c.count-first_quotient.ensures.first)
    (ap (λ b. is_first c.self.inside.skips number b) (sym c.happens-is_skipping.ensures) ∙ sym c.count-first_skip.ensures.first)
    (ap (λ b. is_first c.self.inside.no_words number b) (sym c.happens-has_no_word.ensures) ∙ sym c.count-first_no_word.ensures.first)
    (ap (λ b. is_first c.self.inside.in_erasable number b) (sym c.happens-is_in_erasable.ensures)
    ∙ sym c.count-first_in_erasable.ensures.first)
    (ap (λ b. is_first c.self.inside.no_handlers number b) (sym c.happens-has_no_handler.ensures)
    ∙ sym c.count-first_no_handler.ensures.first)
    (ap (λ b. is_first c.self.inside.other_banks number b) (sym c.happens-reaches_other.ensures)
    ∙ sym c.count-first_other_bank.ensures.first)
    (ap (λ b. is_first c.self.inside.not_kept number b) (sym c.happens-loses.ensures) ∙ sym c.count-first_not_kept.ensures.first)
    (ap (λ b. is_first c.self.inside.minus_zeros number b) (sym c.happens-parts_zeros.ensures) ∙ sym c.count-first_minus_zero.ensures.first)
    (ap (λ b. is_first c.self.inside.overwritten number b) (sym c.happens-overwrites.ensures)
    ∙ sym c.count-first_overwritten.ensures.first)
    (ap (λ b. is_first c.self.inside.shared number b) (sym c.happens-shares.ensures) ∙ sym c.count-first_shared.ensures.first)
    (ap (λ b. is_first c.self.inside.fixed_banks number b) (sym c.happens-reaches_fixed.ensures)
    ∙ sym c.count-first_fixed_bank.ensures.first))
