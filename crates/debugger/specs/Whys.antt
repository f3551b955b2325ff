-- How a word came to be what it is, as text: the steps of a chain, the last first, each with what it wrote and what it read.
use Rattle.std.specs.Prelude.{ℕ, suc, zero, ◌+◌, ◌==◌, not, Bool, true, false, Option, None, Some, List, [], ◌∷◌, ◌++◌, map}
use Rattle.std.specs.Prelude.{length, unwrap_or, codes, decimal, if◌then◌else◌}
use Rattle.std.specs.List.{flat_map}
use Rattle.words.specs.Numerals.{octal_text}
use Rattle.space.specs.Cells.{Cells}
use Rattle.space.specs.declared.place.Linear.TheVariants.{Fixed}
use Rattle.rope.specs.Places.{Words, word_at}
use Rattle.symbols.specs.Values.{SymbolTable}
use Rattle.yayul.specs.Listing.{place_text}
use Rattle.cpu.specs.State.{State, Scenario, start}
use Rattle.cpu.specs.Run.{run}
use Rattle.cpu.specs.Codes.{code_of}
use Rattle.cpu.specs.Effects.{place_in}
use Rattle.cpu.specs.Operands.{address_of}
use Rattle.cpu.specs.Links.{Link, targets, spots, place_spots, channel_spots}
use Rattle.cpu.specs.Beside.{is_instruction}
use Rattle.cpu.specs.Chains.{cells_among, link_at, before_step, chain_origins}
use Rattle.cpu.specs.NextStep.{next_step}
use Rattle.cpu.specs.declared.spot.Spot.{Spot}
use Rattle.cpu.specs.declared.spot.Spot.TheVariants.{Cell, InRope}
use Rattle.cpu.specs.declared.next_step.NextStep.{NextStep}
use Rattle.cpu.specs.declared.next_step.NextStep.TheVariants.{Takes, Enters, Executes}
use Rattle.replay.specs.LastHit.{last_hit}
use Rattle.replay.specs.Whys.{why_steps}
use Rattle.trace.specs.TraceLines.{added_text, cell_name, cell_reading, entry_place, fetched_text, input_text, place_name, word_place}
use Rattle.origins.specs.Following.{cells_of, reads, those_in}
use Rattle.commands.specs.declared.extended.IndexLines.{IndexLines}
use Rattle.commands.specs.declared.extended.IndexLines.TheVariants.{Omitted, Told}
use Rattle.commands.specs.declared.extended.LinkLines.{LinkLines}
use Rattle.commands.specs.declared.subject.Subject.{Subject}
use Rattle.commands.specs.declared.subject.Subject.TheVariants.{Place, Channel}
use Rattle.debugger.specs.Replies.{line}

-- the spots of what `why` is about
abbrev pub subject_spots : Subject → List Spot
subject_spots (Place p) = place_spots p
subject_spots (Channel c) = channel_spots c

-- a cell with what is read there, and a spot
abbrev pub cell_text : SymbolTable → Cells → ℕ → List ℕ
cell_text symbols cells c = codes " " ++ cell_name symbols c ++ codes " " ++ cell_reading cells c

abbrev pub fixed_text : SymbolTable → Words → ℕ → ℕ → List ℕ
fixed_text symbols rope bank offset =
    codes " " ++ unwrap_or (place_name symbols (Fixed bank offset)) (place_text (Fixed bank offset)) ++ codes " "
    ++ octal_text 5 (word_at rope bank offset)

abbrev pub spot_text : SymbolTable → Words → Cells → Spot → List ℕ
spot_text symbols rope cells (Cell c) = cell_text symbols cells c
spot_text symbols rope cells (InRope bank offset) = fixed_text symbols rope bank offset

-- a text, or that there is nothing
abbrev pub or_nothing : List ℕ → List ℕ
or_nothing [] = codes " NOTHING"
or_nothing text = text

-- what a step is: an input as a feed has it, the entry of an interrupt, or an instruction
abbrev pub kind_text : SymbolTable → Words → State → NextStep → List ℕ
kind_text symbols rope s (Takes input) = input_text input
kind_text symbols rope s (Enters k) = codes "INTERRUPT " ++ decimal k
kind_text symbols rope s (Executes f) = fetched_text symbols rope s f

-- of a step from one state to another: what it is; the cells that are followed, with what they hold after it; what it read for
-- them, with what stood there before
abbrev pub kind_part : SymbolTable → Scenario → State → List ℕ
kind_part symbols scenario before = kind_text symbols scenario.rope before (next_step scenario before)

abbrev pub cells_part : SymbolTable → State → List ℕ → List ℕ
cells_part symbols after cs = or_nothing (flat_map (cell_text symbols after.cells) cs)

abbrev pub reads_part : SymbolTable → Words → State → List Spot → List ℕ
reads_part symbols rope before xs = or_nothing (flat_map (spot_text symbols rope before.cells) xs)

-- the last step before p steps that no interrupt was served after
abbrev pub last_not : (ℕ → Bool) → ℕ → Option ℕ
last_not inside p = last_hit (λ t. not (inside t)) p

abbrev pub last_outside : Scenario → ℕ → Option ℕ
last_outside scenario p = last_not (λ t. (run scenario t).inside) p

-- the mark of the step after t steps: where it stands in an interrupt, the number of the step that entered this, which is the one
-- after the last outside
abbrev pub entered_mark : Option ℕ → List ℕ
entered_mark None = []
entered_mark (Some t) = codes " IN STEP " ++ decimal (t + 1)

abbrev pub mark_by : (ℕ → Bool) → ℕ → List ℕ
mark_by inside t = if inside t then entered_mark (last_not inside t) else []

abbrev pub mark_part : Scenario → ℕ → List ℕ
mark_part scenario t = mark_by (λ u. (run scenario u).inside) t

-- the line of a step, by its number, these parts and its mark
abbrev pub by_line : ℕ → List ℕ → List ℕ → List ℕ → List ℕ → List ℕ
by_line number kind cells read mark =
    line (codes "BY " ++ decimal number ++ codes " " ++ kind ++ codes " :" ++ cells ++ codes " FROM" ++ read ++ mark)

-- the line of the step after t steps, of the cells that it writes, and with a mark
abbrev pub marked_line : SymbolTable → Scenario → ℕ → List ℕ → List ℕ → List ℕ
marked_line symbols scenario t cs mark =
    by_line (t + 1) (kind_part symbols scenario (run scenario t)) (cells_part symbols (run scenario (t + 1)) cs)
    (reads_part symbols scenario.rope (run scenario t) (reads (link_at scenario t) cs)) mark

-- the same with its mark
unfoldable pub step_line : SymbolTable → Scenario → ℕ → List ℕ → List ℕ
step_line symbols scenario t cs = marked_line symbols scenario t cs (mark_part scenario t)

-- the same, of those among some spots
abbrev pub link_line : SymbolTable → Scenario → ℕ → List Spot → List ℕ
link_line symbols scenario t xs = step_line symbols scenario t (those_in (targets (link_at scenario t)) (cells_among xs))

-- what INDEX added to the instruction of a step
abbrev pub added_by : NextStep → Option ℕ
added_by (Takes input) = None
added_by (Enters k) = None
added_by (Executes f) = f.added

-- the last step before p steps that executed an instruction. Where a sum waits after p steps, it is the INDEX that left this: an
-- instruction uses up what waits, no interrupt is entered meanwhile, and an input that is taken leaves it
abbrev pub last_executed : Scenario → ℕ → Option ℕ
last_executed scenario p = last_hit (λ t. is_instruction (link_at scenario t)) p

-- what a search for it finds of a step
abbrev pub instruction_found : Link → Option ℕ
instruction_found k = if is_instruction k then Some 0 else None

-- what stands at the place that the instruction of a step names, which INDEX leaves as the sum
abbrev pub named_spots : State → Option ℕ → List Spot
named_spots s None = []
named_spots s (Some k) = spots (place_in s k)

abbrev pub operand_spots : State → NextStep → List Spot
operand_spots s (Takes input) = []
operand_spots s (Enters k) = []
operand_spots s (Executes f) = named_spots s (address_of (code_of f.extra f.word))

abbrev pub operand_part : SymbolTable → Scenario → State → List ℕ
operand_part symbols scenario before = reads_part symbols scenario.rope before (operand_spots before (next_step scenario before))

-- the line of an INDEX, by the number of its step, what this is, the sum that it left and what it read
abbrev pub index_by : ℕ → List ℕ → ℕ → List ℕ → List ℕ
index_by number kind sum read = line (codes "INDEX " ++ decimal number ++ codes " " ++ kind ++ codes " :" ++ added_text (Some sum)
    ++ codes " FROM" ++ read)

abbrev pub index_line : SymbolTable → Scenario → ℕ → Option ℕ → List ℕ
index_line symbols scenario sum None = []
index_line symbols scenario sum (Some t) = index_by (t + 1) (kind_part symbols scenario (run scenario t)) sum
    (operand_part symbols scenario (run scenario t))

-- the line of the INDEX that moved the operand of the step after t steps, if one did
abbrev pub moved_line : SymbolTable → Scenario → ℕ → Option ℕ → List ℕ
moved_line symbols scenario t None = []
moved_line symbols scenario t (Some sum) = index_line symbols scenario sum (last_executed scenario t)

-- the same, where it is to be told
abbrev pub index_part : SymbolTable → Scenario → IndexLines → ℕ → List ℕ
index_part symbols scenario Omitted t = []
index_part symbols scenario Told t = moved_line symbols scenario t (added_by (next_step scenario (run scenario t)))

-- where a step stands: an instruction at its place, or in BRUPT where its word waited; an interrupt where it is entered; an input nowhere
abbrev pub step_place : NextStep → List ℕ
step_place (Takes input) = codes "-"
step_place (Enters k) = place_text (entry_place k)
step_place (Executes f) = word_place f

-- the line of this place, by the number of the step, where it is to be told
abbrev pub placed_by : Bool → ℕ → List ℕ → List ℕ
placed_by false number place = []
placed_by true number place = line (codes "WHERE " ++ decimal number ++ codes " " ++ place)

abbrev pub place_part : Scenario → Bool → ℕ → List ℕ
place_part scenario places t = placed_by places (t + 1) (step_place (next_step scenario (run scenario t)))

-- the lines of a step
abbrev pub link_lines : SymbolTable → Scenario → LinkLines → ℕ → List Spot → List ℕ
link_lines symbols scenario lines t xs = link_line symbols scenario t xs ++ place_part scenario lines.places t
    ++ index_part symbols scenario lines.index t

-- those of a chain from some spots
abbrev pub chain_text : SymbolTable → Scenario → LinkLines → List Spot → List ℕ → List ℕ
chain_text symbols scenario lines xs [] = []
chain_text symbols scenario lines xs (t ∷ ts) = link_lines symbols scenario lines t xs
    ++ chain_text symbols scenario lines (before_step scenario t xs) ts

-- how it ends, by whether it was cut short and which cells are left: all of them were told; more may be; or what is left was
-- never written since the start, and is told with what it held there
abbrev pub end_text : SymbolTable → Bool → List ℕ → List ℕ
end_text symbols cut [] = line (codes "ALL")
end_text symbols true (c ∷ cs) = line (codes "MORE " ++ decimal (length (c ∷ cs)))
end_text symbols false (c ∷ cs) = line (codes "START" ++ flat_map (cell_text symbols start.cells) (c ∷ cs))

-- how it ends from some spots
abbrev pub end_from : SymbolTable → Bool → List Spot → List ℕ
end_from symbols cut xs = end_text symbols cut (cells_of (cells_among xs))

-- how what stands at some spots after p steps came to be, by at most k steps, which are a chain (`why_is_chain`)
abbrev pub chained_text : SymbolTable → Scenario → LinkLines → ℕ → List Spot → List ℕ → List ℕ
chained_text symbols scenario lines k xs ts = chain_text symbols scenario lines xs ts
    ++ end_from symbols (length ts == k) (chain_origins scenario xs ts)

unfoldable pub why_text : SymbolTable → Scenario → LinkLines → ℕ → ℕ → List Spot → List ℕ
why_text symbols scenario lines k p xs = chained_text symbols scenario lines k xs (why_steps scenario k p xs)

-- the spots that a step writes
abbrev pub target_spots : Scenario → ℕ → List Spot
target_spots scenario t = map (λ c. Cell c) (targets (link_at scenario t))

-- what the step did that led to p steps
unfoldable pub last_text : SymbolTable → Scenario → LinkLines → ℕ → List ℕ
last_text symbols scenario lines zero = line (codes "START")
last_text symbols scenario lines (suc t) = chained_text symbols scenario lines 1 (target_spots scenario t) (t ∷ [])
