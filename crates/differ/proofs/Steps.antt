-- A run, step by step.
use Rattle.std.proofs.Common.{◌≡◌, ℕ, sym, ◌∙◌}
use Rattle.cpu.specs.Run.{run}
use Rattle.cpu.specs.State.{Scenario, State, start}
use Rattle.cpu.proofs.RunLaws.{run-zero}

pub run_zero : (scenario : Scenario) (s : State) (n : ℕ) → s ≡ start → n ≡ 0 → s ≡ run scenario n
run_zero scenario s n is none = rw none (is ∙ sym (run-zero scenario))
