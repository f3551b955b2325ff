use Rattle.std.proofs.Common.{◌≤◌, ◌^◌, ℕ, get_or, subst, sym}
use Rattle.cpu.specs.declared.account.Account.TheVariants.{Place}
use Rattle.notes.specs.declared.kind.Kind.TheVariants.{OtherBank, FixedBank}
use Rattle.notes.specs.Counted.{counts_of}
use Rattle.notes.proofs.notebook.Notebook.count_reach.Goals as goal

pub count_reached-requires-clause-erasable : goal.count_reached-requires-clause-erasable
count_reached-requires-clause-erasable c =
    subst (λ (n : ℕ). get_or (counts_of c.args.self.now OtherBank) n 0 ≤ 2 ^ 62) (sym c.number_of-number.ensures.number)
    (c.requires.small.counts OtherBank (Place c.args.place) c.number_of-number.ensures.known)

pub count_reached-requires-clause-fixed : goal.count_reached-requires-clause-fixed
count_reached-requires-clause-fixed c =
    subst (λ (n : ℕ). get_or (counts_of c.args.self.now FixedBank) n 0 ≤ 2 ^ 62) (sym c.number_of-number.ensures.number)
    (c.requires.small.counts FixedBank (Place c.args.place) c.number_of-number.ensures.known)
