use Rattle.std.proofs.Common.{refl}
use Rattle.cpu.proofs.RequestLemmas.{none_asked}
use Rattle.cpu.proofs.machine.Machine.start.Goals as goal

pub invariant_of-result : goal.invariant_of-result
invariant_of-result c = record { unasked = λ _. none_asked; no_sum = λ _. refl; no_word = λ _. refl }
