-- What a word tells of calls that are made, and the low eight bits of Z of calls that are over. Only the contracts of this crate's parts
-- stand on this.
use Rattle.std.specs.Prelude.{◌≡◌, ℕ, ◌%◌, ◌<◌, ◌&&◌, not, nat_le, nat_lt, Bool, true, false, List, length, get_or}
use Rattle.space.specs.declared.place.Linear.{Linear}
use Rattle.space.specs.declared.place.Linear.TheVariants.{Erasable, Fixed}
use Rattle.cpu.specs.declared.next_step.Fetched.{Fetched}
use Rattle.cpu.specs.declared.next_step.NextStep.{NextStep}
use Rattle.cpu.specs.declared.next_step.NextStep.TheVariants.{Takes, Enters, Executes}
use Rattle.delays.specs.declared.call.Call.{Call}

-- a word is TC of an address of fixed memory
abbrev pub may_be_call : Fetched → Bool
may_be_call f = not f.extra && (nat_le 0o2000 f.word && nat_lt f.word 0o10000)

abbrev pub may_call : NextStep → Bool
may_call (Takes input) = false
may_call (Enters k) = false
may_call (Executes f) = may_be_call f

-- the low eight bits of the number of a place, which are those of each address that leads there
abbrev pub low_bits : Linear → ℕ
low_bits (Erasable p) = p % 0o400
low_bits (Fixed bank offset) = offset % 0o400

-- the place to which each of some calls returns is marked by its low bits; others may be
abbrev pub AreMarked : List Bool → List Call → Type 0
AreMarked marked calls = (k : ℕ) (d : Call) → k < length calls → get_or marked (low_bits (get_or calls k d).back) false ≡ true
