use Rattle.std.proofs.Common.{◌≤◌, ◌^◌, get_or, refl, subst, sym}
use Rattle.notes.specs.declared.kind.Kind.TheVariants.{OtherBank, FixedBank}
use Rattle.notes.specs.Counted.{Book, counts_of}
use Rattle.notes.proofs.Booked.{counts_reached}
use Rattle.notes.proofs.Counting.{of_kinds}
use Rattle.notes.proofs.notebook.Notebook.count_reached.Goals as goal

pub count-first_other_bank-requires-clause-small : goal.count-first_other_bank-requires-clause-small
count-first_other_bank-requires-clause-small c =
    subst (λ (book : Book). get_or (counts_of book OtherBank) c.args.number 0 ≤ 2 ^ 62) (sym c.self.view_is) c.requires.erasable

pub count-first_fixed_bank-requires-clause-small : goal.count-first_fixed_bank-requires-clause-small
count-first_fixed_bank-requires-clause-small c =
    subst (λ (book : Book). get_or (counts_of book FixedBank) c.args.number 0 ≤ 2 ^ 62) (sym c.self.view_is) c.requires.fixed

pub returns : goal.returns
returns c =
    counts_reached _ _ _ c.args.number c.args.is_erasable _ _ c.self.view_is
    (of_kinds _ refl refl refl refl refl c.count-first_other_bank.ensures.counted refl refl refl refl
    c.count-first_fixed_bank.ensures.counted)
    refl refl refl refl
    c.list.ensures c.has_some-is_first.ensures c.latest-self-inside.ensures (of_kinds _ refl refl refl refl refl
    (sym c.count-first_other_bank.ensures.first) refl refl refl refl
    (sym c.count-first_fixed_bank.ensures.first))
