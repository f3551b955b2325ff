-- Channels on which words come in a run, and that no instruction reads.
use Rattle.std.specs.Prelude.{◌≡◌, ℕ, ◌-◌, ◌<◌, ◌&&◌, Bool, true, false, nat_le, not, List, [], ◌++◌, codes, decimal, get_or, Option, Some}
use Rattle.std.specs.Prelude.{None, if◌then◌else◌, ◌↔◌}
use Rattle.std.specs.List.{flat_map, range_with_len}
use Rattle.words.specs.Numerals.{octal_text}
use Rattle.json_text.specs.declared.notation.Notation.{Notation}
use Rattle.json_text.specs.declared.notation.Notation.TheVariants.{Text, Json}
use Rattle.cpu.specs.declared.next_step.NextStep.{NextStep}
use Rattle.cpu.specs.declared.next_step.NextStep.TheVariants.{Takes, Enters, Executes}
use Rattle.cpu.specs.NextStep.{next_step}
use Rattle.cpu.specs.Run.{run}
use Rattle.cpu.specs.State.{Scenario}
use Rattle.notes.specs.declared.past.Past.{Past}
use Rattle.notes.specs.Past.{channels, comes_on, is_used_otherwise, past, reads_on}
use Rattle.notes.specs.Waits.{long_wait}

-- the line of a channel whose first word came after so many cycles, and its object
unfoldable pub unread_line : ℕ → ℕ → List ℕ
unread_line c since = codes "NOTE UNREAD CHAN " ++ octal_text 3 c ++ codes " CYCLES " ++ decimal since ++ codes "\n"

unfoldable pub unread_object : ℕ → ℕ → List ℕ
unread_object c since = codes "{\"kind\":\"UNREAD\",\"channel\":\"" ++ octal_text 3 c ++ codes "\",\"cycles\":" ++ decimal since
    ++ codes "}\n"

abbrev pub unread_in : Notation → ℕ → ℕ → List ℕ
unread_in Text c since = unread_line c since
unread_in Json c since = unread_object c since

-- it is told where that is long ago, and no word was read there
abbrev pub unread_at : Notation → ℕ → ℕ → Option ℕ → Bool → List ℕ
unread_at notation cycles c None read = []
unread_at notation cycles c (Some since) read = if not read && nat_le long_wait (cycles - since) then unread_in notation c since else []

abbrev pub unread_of : Notation → ℕ → Past → ℕ → List ℕ
unread_of notation cycles p c = unread_at notation cycles c (get_or p.came c None) (get_or p.read c false)

-- the lines of all channels
unfoldable pub unread_text : Notation → ℕ → Past → List ℕ
unread_text notation cycles p = flat_map (unread_of notation cycles p) (range_with_len 0 channels)

-- ## What a line says
-- whether a word comes on a channel in a step, and whether it is read there
abbrev pub comes : ℕ → NextStep → Bool
comes c (Takes input) = comes_on c input && not (is_used_otherwise c)
comes c (Enters k) = false
comes c (Executes f) = false

abbrev pub is_read_in : ℕ → NextStep → Bool
is_read_in c (Takes input) = false
is_read_in c (Enters k) = false
is_read_in c (Executes f) = reads_on c f

-- the first word of n steps on a channel comes after so many cycles
pub record FirstWord (scenario : Scenario) (c n since : ℕ) : Type 0 where
  pub step : ℕ
  pub within : step < n
  pub hit : comes c (next_step scenario (run scenario step)) ≡ true
  pub first : (u : ℕ) → u < step → comes c (next_step scenario (run scenario u)) ≡ false
  pub cycles : (run scenario step).cycles ≡ since

-- some step of n reads it
pub record SomeReads (scenario : Scenario) (c n : ℕ) : Type 0 where
  pub step : ℕ
  pub within : step < n
  pub reads : is_read_in c (next_step scenario (run scenario step)) ≡ true

-- the cycles are told of the first word exactly, and that a channel is read exactly where some step does
pub record HeardExactly (scenario : Scenario) (c n : ℕ) : Type 0 where
  pub first : (since : ℕ) → (get_or (past scenario n).came c None ≡ Some since) ↔ FirstWord scenario c n since
  pub read : (get_or (past scenario n).read c false ≡ true) ↔ SomeReads scenario c n

abbrev pub UnreadIsExact : Type 0
UnreadIsExact = (scenario : Scenario) (c n : ℕ) → c < channels → HeardExactly scenario c n
