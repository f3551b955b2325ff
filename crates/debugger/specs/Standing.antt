-- Where the next instruction stands; symbols by the beginnings of their names; and words one after another.
use Rattle.std.specs.Prelude.{ℕ, zero, suc, ◌+◌, ◌-◌, Bool, List, [], ◌∷◌, ◌++◌, length, take, min, Option, None, Some, is_some, codes}
use Rattle.std.specs.Prelude.{decimal, if◌then◌else◌}
use Rattle.std.specs.List.{flat_map, range_with_len}
use Rattle.agc_text.specs.Tables.{same_name}
use Rattle.words.specs.Numerals.{octal_text}
use Rattle.rope.specs.Places.{Words}
use Rattle.space.specs.declared.place.Linear.{Linear}
use Rattle.space.specs.declared.place.Linear.TheVariants.{Erasable, Fixed}
use Rattle.symbols.specs.declared.values.Value.{Value}
use Rattle.symbols.specs.Values.{SymbolTable, value_text}
use Rattle.yayul.specs.Listing.{place_text}
use Rattle.yayul.specs.Program.{Source}
use Rattle.cpu.specs.State.{State, Scenario}
use Rattle.cpu.specs.Next.{instruction_word}
use Rattle.cpu.specs.Run.{run}
use Rattle.trace.specs.TraceLines.{word_text}
use Rattle.names.specs.NamedLines.{distance_text, nearest_name}
use Rattle.debugger.specs.declared.rows.RowKind.{RowKind}
use Rattle.debugger.specs.History.{Sight, History, history, sight}
use Rattle.debugger.specs.Replies.{line, memory_word}
use Rattle.debugger.specs.Rows.{list_row, row_text}
use Rattle.calls.specs.Waiting.{standing_place}
use Rattle.debugger.specs.Whys.{kind_part, last_outside}

-- the symbol that stands nearest before a place, and how far before, as it is added to a line
abbrev pub nearest_text : Option (List ℕ × ℕ) → List ℕ
nearest_text None = []
nearest_text (Some symbol) = codes " " ++ symbol.0 ++ distance_text symbol.1

-- the line of a place: as a listing has it, and by a symbol
abbrev pub place_line : SymbolTable → Linear → List ℕ
place_line symbols place = line (codes "WHERE " ++ place_text place ++ nearest_text (nearest_name symbols place))

-- the line of a word that waits in BRUPT, with the instruction that it is
abbrev pub waiting_line : SymbolTable → Words → State → List ℕ
waiting_line symbols rope s =
    let word = instruction_word rope s in
    line (codes "WHERE BRUPT " ++ octal_text 5 word ++ codes " " ++ word_text symbols s s.extra word)

-- the line of the next instruction
abbrev pub where_line : SymbolTable → Words → State → List ℕ
where_line symbols rope s = if is_some s.waiting_word then waiting_line symbols rope s else place_line symbols (standing_place s)

-- the line of the interrupt that is served, and of the step that entered it: the one after that step
abbrev pub entered_line : SymbolTable → Scenario → ℕ → List ℕ
entered_line symbols scenario t = line (codes "IN " ++ kind_part symbols scenario (run scenario t) ++ codes " BY " ++ decimal (t + 1))

abbrev pub entered_text : SymbolTable → Scenario → Option ℕ → List ℕ
entered_text symbols scenario None = []
entered_text symbols scenario (Some t) = entered_line symbols scenario t

abbrev pub inside_text : SymbolTable → Scenario → ℕ → List ℕ
inside_text symbols scenario p = if (run scenario p).inside then entered_text symbols scenario (last_outside scenario p) else []

-- the row of the place where the next instruction stands, or stood before it waited
abbrev pub next_row : SymbolTable → Source → Scenario → State → List ℕ
next_row symbols source scenario s = list_row symbols source scenario.rope (history scenario) (sight scenario.rope s) (standing_place s)

-- both
abbrev pub standing_text : SymbolTable → Source → Scenario → State → List ℕ
standing_text symbols source scenario s = where_line symbols scenario.rope s ++ next_row symbols source scenario s

-- where the next instruction stands after p steps, and the interrupt that is served, if any
unfoldable pub where_text : SymbolTable → Source → Scenario → ℕ → List ℕ
where_text symbols source scenario p = standing_text symbols source scenario (run scenario p) ++ inside_text symbols scenario p

-- a name begins so
abbrev pub begins_with : List ℕ → List ℕ → Bool
begins_with text name = same_name (take (length text) name) text

-- the line of a symbol
abbrev pub found_line : List ℕ × Value → List ℕ
found_line symbol = line (codes "FIND " ++ symbol.0 ++ codes " " ++ value_text symbol.1)

-- a line for each symbol whose name begins so, in order of definition, and how many there are, counted on from so many
abbrev pub found_from : ℕ → List ℕ → SymbolTable → List ℕ
found_from n text [] = line (codes "COUNT " ++ decimal n)
found_from n text (symbol ∷ more) =
    if begins_with text symbol.0 then found_line symbol ++ found_from (n + 1) text more
    else found_from n text more

unfoldable pub found_text : SymbolTable → List ℕ → List ℕ
found_text symbols text = found_from 0 text symbols

-- how many places there are from a place on, in its bank or in erasable memory; and the place so many after it
abbrev pub places_from : Linear → ℕ
places_from (Erasable p) = 0o4000 - p
places_from (Fixed bank offset) = 0o2000 - offset

abbrev pub place_after : Linear → ℕ → Linear
place_after (Erasable p) k = Erasable (p + k)
place_after (Fixed bank offset) k = Fixed bank (offset + k)

-- the line of the word at a place, and the lines of so many from there on
abbrev pub word_there : History → Sight → Linear → List ℕ
word_there h seen place = line (codes "MEM " ++ place_text place ++ codes " " ++ octal_text 5 (memory_word h seen place))

abbrev pub words_from : History → Sight → Linear → ℕ → ℕ → List ℕ
words_from h seen place k zero = []
words_from h seen place k (suc more) = word_there h seen (place_after place k) ++ words_from h seen place (k + 1) more

-- so many words from a place on, up to the last of its bank or of erasable memory
unfoldable pub words_text : History → Sight → Linear → ℕ → List ℕ
words_text h seen place k = words_from h seen place 0 (min k (places_from place))

-- the rows of so many places from one on, up to the last of its bank or of erasable memory
unfoldable pub rows_text : RowKind → SymbolTable → Source → Words → History → Sight → Linear → ℕ → List ℕ
rows_text kind symbols source rope h seen place k =
    flat_map (λ i. row_text kind symbols source rope h seen (place_after place i)) (range_with_len 0 (min k (places_from place)))
