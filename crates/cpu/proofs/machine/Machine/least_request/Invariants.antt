use Rattle.std.proofs.Common.{◌≡◌, ◌≤◌, ◌-◌, find}
use Rattle.std.specs.List.{range_with_len}
use Rattle.std.specs.FinSet.{contains}
use Rattle.cpu.specs.Next.{least_request}
use Rattle.cpu.proofs.machine.Machine.least_request.Given as goal

abbrev pub invariant-loop-number : goal.invariant-loop-number
invariant-loop-number l = (1 ≤ l.number) × (find (λ k. contains l.self.requests k) (range_with_len l.number (11 - l.number))
    ≡ least_request l.self.requests)
