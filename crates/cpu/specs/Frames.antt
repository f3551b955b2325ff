-- What each instruction, an input and an entry may change, and that they leave all else as it was.
use Rattle.std.specs.Prelude.{◌≡◌, ◌≢◌, ℕ, true, false, List, [], ◌∷◌, Option, None, if◌then◌else◌, nat_le, ◌&&◌}
use Rattle.std.specs.FinSet as set
use Rattle.std.specs.List.{flat_map}
use Rattle.space.specs.Cells.{at, accumulator, lower_accumulator, return_address, program_counter, cycle_right, edit_opcode}
use Rattle.space.specs.declared.place.Linear.{Linear}
use Rattle.space.specs.declared.place.Linear.TheVariants.{Erasable, Fixed}
use Rattle.cpu.specs.declared.instruction.Instruction.{Instruction}
use Rattle.cpu.specs.declared.instruction.Instruction.TheVariants.{Relint, Inhint, Extend, Resume, Tc, Ccs, Tcf, Das, Lxch, Incr, Ads, Ca}
use Rattle.cpu.specs.declared.instruction.Instruction.TheVariants.{Cs, Index, Dxch, Ts, Xch, Ad, Mask, Read, Write, Rand, Wand, Ror, Wor}
use Rattle.cpu.specs.declared.instruction.Instruction.TheVariants.{Rxor, Edrupt, Dv, Bzf, Msu, Qxch, Aug, Dim, Dca, Dcs, Su, Bzmf, Mp}
use Rattle.feed.specs.declared.input.Input.{Input}
use Rattle.cpu.specs.State.{State, Scenario, interrupted_address, interrupted_word}
use Rattle.cpu.specs.Codes.{Code}
use Rattle.cpu.specs.Effects.{place_in, erasable_number, first_of, greatest_short, greatest_address}
use Rattle.cpu.specs.Next.{next}
use Rattle.cpu.specs.Laws.{TakesInput, EntersInterrupt, ExecutesCode}
use Rattle.cpu.specs.Links.{place_cells, cell_of_channel, is_in}

-- a part of the machine: a register; the place of the operand, or of two places the first; either, where it edits what is read
-- there; the channel that the operand names
pub data Part : Type 0 where
  Register : (number : ℕ) → Part
  AtOperand AtFirst : Part
  Edits EditsFirst : Part
  OnChannel : Part

abbrev pub a : Part
a = Register accumulator

abbrev pub l : Part
l = Register lower_accumulator

abbrev pub q : Part
q = Register return_address

-- what each instruction may change besides Z
abbrev pub changed_by : Instruction → List Part
changed_by Relint = []
changed_by Inhint = []
changed_by Extend = []
changed_by Resume = []
changed_by Tc = q ∷ []
changed_by Ccs = a ∷ Edits ∷ []
changed_by Tcf = []
changed_by Das = AtFirst ∷ AtOperand ∷ a ∷ l ∷ []
changed_by Lxch = l ∷ AtOperand ∷ []
changed_by Incr = AtOperand ∷ []
changed_by Ads = a ∷ AtOperand ∷ []
changed_by Ca = a ∷ Edits ∷ []
changed_by Cs = a ∷ Edits ∷ []
changed_by Index = Edits ∷ []
changed_by Dxch = AtFirst ∷ AtOperand ∷ a ∷ l ∷ []
changed_by Ts = a ∷ AtOperand ∷ []
changed_by Xch = a ∷ AtOperand ∷ []
changed_by Ad = a ∷ Edits ∷ []
changed_by Mask = a ∷ Edits ∷ []
changed_by Read = a ∷ []
changed_by Write = OnChannel ∷ []
changed_by Rand = a ∷ []
changed_by Wand = a ∷ OnChannel ∷ []
changed_by Ror = a ∷ []
changed_by Wor = a ∷ OnChannel ∷ []
changed_by Rxor = a ∷ []
changed_by Edrupt = []
changed_by Dv = a ∷ l ∷ Edits ∷ []
changed_by Bzf = []
changed_by Msu = a ∷ Edits ∷ []
changed_by Qxch = q ∷ AtOperand ∷ []
changed_by Aug = AtOperand ∷ []
changed_by Dim = AtOperand ∷ []
changed_by Dca = a ∷ l ∷ EditsFirst ∷ Edits ∷ []
changed_by Dcs = a ∷ l ∷ EditsFirst ∷ Edits ∷ []
changed_by Su = a ∷ Edits ∷ []
changed_by Bzmf = []
changed_by Mp = a ∷ l ∷ Edits ∷ []

-- the cells of an editing place
abbrev pub edited_cells : Linear → List ℕ
edited_cells (Erasable p) = if nat_le cycle_right p && nat_le p edit_opcode then place_cells p else []
edited_cells (Fixed bank offset) = []

-- the cells of a part, where addresses lead to these places and the operand is k
abbrev pub part_cells : (ℕ → Linear) → ℕ → Part → List ℕ
part_cells lead k (Register r) = r ∷ []
part_cells lead k AtOperand = place_cells (erasable_number (lead k))
part_cells lead k AtFirst = place_cells (erasable_number (lead (first_of greatest_short k)))
part_cells lead k Edits = edited_cells (lead k)
part_cells lead k EditsFirst = edited_cells (lead (first_of greatest_address k))
part_cells lead k OnChannel = cell_of_channel k ∷ []

-- all cells that an instruction may change
abbrev pub row_cells : State → Code → List ℕ
row_cells s code = program_counter ∷ flat_map (part_cells (place_in s) code.operand) (changed_by code.instruction)

-- After an instruction each other cell holds what it held; RELINT and INHINT alone change whether interrupts are inhibited, and RESUME
-- whether one is served; EXTEND alone puts extracode in force, and only INDEX leaves it so; INDEX alone leaves a sum waiting, and RESUME
-- alone a word; what is asked for and the inputs taken stay.
pub record KeepsRest (s t : State) (code : Code) : Type 0 where
  pub cells : (c : ℕ) → is_in c (row_cells s code) ≡ false → at t.cells c ≡ at s.cells c
  pub inhibit : code.instruction ≢ Relint → code.instruction ≢ Inhint → t.inhibit ≡ s.inhibit
  pub inside : code.instruction ≢ Resume → t.inside ≡ s.inside
  pub extracode_begins : code.instruction ≡ Extend → t.extra ≡ true
  pub extracode_stays : code.instruction ≡ Index → t.extra ≡ s.extra
  pub extracode_ends : code.instruction ≢ Extend → code.instruction ≢ Index → t.extra ≡ false
  pub sum : code.instruction ≢ Index → t.waiting_sum ≡ None
  pub word : code.instruction ≢ Resume → t.waiting_word ≡ None
  pub requests : t.requests ≡ s.requests
  pub taken : t.taken ≡ s.taken
  pub counts : t.counts ≡ s.counts

abbrev pub ChangesItsRow : Scenario → State → Type 0
ChangesItsRow scenario s = (code : Code) → ExecutesCode scenario s code → KeepsRest s (next scenario s).0 code

-- An input leaves the flags, and what waits goes on waiting. (Of the cells it writes those that are told of it, and of the interrupts it
-- withdraws none.)
pub record InputKeepsRest (s t : State) : Type 0 where
  pub extra : t.extra ≡ s.extra
  pub inhibit : t.inhibit ≡ s.inhibit
  pub inside : t.inside ≡ s.inside
  pub sum : t.waiting_sum ≡ s.waiting_sum
  pub word : t.waiting_word ≡ s.waiting_word
  pub requests : (k : ℕ) → set.contains s.requests k ≡ true → set.contains t.requests k ≡ true

-- An entry changes Z, ZRUPT and BRUPT, that an interrupt is served, and that this one is asked for, and leaves all else.
pub record EntryKeepsRest (s t : State) (k : ℕ) : Type 0 where
  pub cells : (c : ℕ) → is_in c (program_counter ∷ interrupted_address ∷ interrupted_word ∷ []) ≡ false → at t.cells c ≡ at s.cells c
  pub extra : t.extra ≡ s.extra
  pub inhibit : t.inhibit ≡ s.inhibit
  pub inside : t.inside ≡ true
  pub sum : t.waiting_sum ≡ s.waiting_sum
  pub word : t.waiting_word ≡ s.waiting_word
  pub requests : t.requests ≡ set.remove s.requests k
  pub taken : t.taken ≡ s.taken
  pub counts : t.counts ≡ s.counts

abbrev pub InputsKeepRest : Scenario → State → Type 0
InputsKeepRest scenario s = (given : Input × Option ℕ) → TakesInput scenario s given → InputKeepsRest s (next scenario s).0

abbrev pub EntriesKeepRest : Scenario → State → Type 0
EntriesKeepRest scenario s = (k : ℕ) → EntersInterrupt scenario s k → EntryKeepsRest s (next scenario s).0 k
