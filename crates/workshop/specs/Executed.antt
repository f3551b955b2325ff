-- How many instructions of a program a run has executed.
use Rattle.std.specs.Prelude.{ℕ, zero, suc, ◌+◌, ◌/◌, ◌%◌, ◌&&◌, nat_lt, Bool, List, if◌then◌else◌}
use Rattle.space.specs.declared.place.Linear.TheVariants.{Fixed}
use Rattle.rope.specs.Places.{bank_words, fixed_places}
use Rattle.cpu.specs.declared.account.Account.TheVariants.{Place}
use Rattle.cpu.specs.State.{Scenario}
use Rattle.cover.specs.Tallies.{Profile, profile_of}
use Rattle.instructions.specs.Places.{instructions, is_marked}
use Rattle.yayul.specs.declared.language.Language.TheVariants.{Standard}
use Rattle.yayul.specs.Program.{Source}

-- whether the word at a place of fixed memory is one of some instructions, and was executed
abbrev pub is_executed : Profile → List Bool → ℕ → ℕ → Bool
is_executed profile marks bank offset = is_marked marks bank offset && nat_lt 0 (profile (Place (Fixed bank offset))).count

-- the same of the place of a number, bank by bank: 1 where it was, else 0
abbrev pub executed_at : Profile → List Bool → ℕ → ℕ
executed_at profile marks k = if is_executed profile marks (k / bank_words) (k % bank_words) then 1 else 0

-- of the first so many places
unfoldable pub executed_before : Profile → List Bool → ℕ → ℕ
executed_before profile marks zero = 0
executed_before profile marks (suc k) = executed_before profile marks k + executed_at profile marks k

-- of all of a source, in the first n steps of a run
abbrev pub executed : Source → Scenario → ℕ → ℕ
executed source scenario n = executed_before (profile_of scenario n) (instructions Standard source scenario.rope) fixed_places
