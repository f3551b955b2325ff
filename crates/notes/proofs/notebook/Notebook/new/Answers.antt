use Rattle.std.proofs.Common.{refl}
use Rattle.notes.proofs.Counting.{none_counted, of_kinds}
use Rattle.notes.proofs.Recalled.{nothing_is_known}
use Rattle.notes.proofs.notebook.Notebook.new.Goals as goal

pub invariant_of-result : goal.invariant_of-result
invariant_of-result c = nothing_is_known c.args.named _ c.in_ok-nothing.ensures

pub returns : goal.returns
returns c = λ scenario.
    none_counted c.args.named scenario _ refl
    (of_kinds _ c.in_ok-new.ensures c.in_ok-new-2.ensures c.in_ok-new-3.ensures c.in_ok-new-4.ensures c.in_ok-new-5.ensures
    c.in_ok-new-6.ensures c.in_ok-new-7.ensures c.in_ok-new-8.ensures c.in_ok-new-9.ensures c.in_ok-new-10.ensures c.in_ok-new-11.ensures)
    c.none.ensures
    c.none-2.ensures refl refl c.in_ok-new-12.ensures
