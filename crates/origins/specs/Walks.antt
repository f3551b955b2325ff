-- What a walk back executes and holds.
use Rattle.std.specs.Prelude.{◌≡◌, ℕ, ◌+◌, ◌*◌, ◌^◌, ◌≤◌}
use Rattle.cpu.specs.Run.{run}
use Rattle.cpu.specs.State.{Scenario}
use Rattle.origins.specs.Served.{served}
use Rattle.origins.specs.declared.image.Image.{Image}

-- an image is the state of a run at its step, with the interrupt that is served there
pub record IsOfRun (scenario : Scenario) (image : Image) : Type 0 where
  pub machine : image.machine ≡ run scenario image.step
  pub served : image.served ≡ served scenario image.step

-- where so many steps are at most a power of two, half as many are executed for each as the power says
abbrev pub IsCheap : ℕ → ℕ → ℕ → Type 0
IsCheap count old new = (level : ℕ) → count ≤ 2 ^ level → 2 * new ≤ 2 * old + count * level

-- and so many machines are held at most, beside one
abbrev pub AreFew : ℕ → ℕ → Type 0
AreFew count images = (level : ℕ) → count ≤ 2 ^ level → images ≤ level
