-- The reads and writes of a run as text: a row for each cell and level, or of one cell for each place and level.
use Rattle.std.specs.Prelude.{ℕ, zero, suc, ◌+◌, ◌-◌, ◌*◌, ◌/◌, ◌%◌, ◌==◌, ◌&&◌, ◌||◌, Bool, false, not, nat_lt, List, [], ◌++◌, codes}
use Rattle.std.specs.Prelude.{decimal, if◌then◌else◌}
use Rattle.std.specs.List.{flat_map, range_with_len}
use Rattle.space.specs.Cells.{erasable_count}
use Rattle.space.specs.declared.place.Linear.TheVariants.{Erasable}
use Rattle.rope.specs.Places.{Words, bank_words}
use Rattle.symbols.specs.Values.{SymbolTable}
use Rattle.yayul.specs.Listing.{place_text}
use Rattle.cpu.specs.State.{Scenario}
use Rattle.trace.specs.TraceLines.{field}
use Rattle.names.specs.NamedLines.{named_line}
use Rattle.cover.specs.CoverText.{column}
use Rattle.access.specs.declared.view.View.{View}
use Rattle.access.specs.declared.view.View.TheVariants.{All, One}
use Rattle.access.specs.Accesses.{row_count, slot, times}
use Rattle.access.specs.CellText.{cell_text}
use Rattle.access.specs.Levels.{allowed, level_name, levels}

-- how often each number is counted
abbrev pub Figures : Type 0
Figures = ℕ → ℕ

-- how often is read and written at a level; nothing where neither is
unfoldable pub level_row : ℕ → ℕ → ℕ → List ℕ → List ℕ
level_row reads writes level name =
    if reads == 0 && writes == 0 then [] else column (decimal reads) ++ column (decimal writes) ++ field 9 (level_name level) ++ name

abbrev pub level_row_of : Figures → ℕ → List ℕ → ℕ → List ℕ
level_row_of f row name level = level_row (f (slot row level 0)) (f (slot row level 1)) level name

abbrev pub level_rows : Figures → ℕ → List ℕ → List ℕ
level_rows f row name = flat_map (level_row_of f row name) (range_with_len 0 levels)

-- whether anything is counted of a row
abbrev pub any_from : Figures → ℕ → ℕ → Bool
any_from f i zero = false
any_from f i (suc n) = any_from f i n || not (f (i + n) == 0)

abbrev pub is_touched : Figures → ℕ → Bool
is_touched f row = any_from f (26 * row) 26

-- whether the main program reads (0) or writes (1) a cell where interrupts may come; and whether one of the first n interrupts does
abbrev pub main_does : Figures → ℕ → ℕ → Bool
main_does f c kind = not (f (slot c allowed kind) == 0)

abbrev pub some_does : Figures → ℕ → ℕ → ℕ → Bool
some_does f c kind zero = false
some_does f c kind (suc n) = some_does f c kind n || not (f (slot c (n + 1) kind) == 0)

abbrev pub interrupt_does : Figures → ℕ → ℕ → Bool
interrupt_does f c kind = some_does f c kind 10

-- a cell is shared: the main program and an interrupt that may come meanwhile use it, and one of them writes it; a register is not
abbrev pub is_shared : Figures → ℕ → Bool
is_shared f c =
    nat_lt 6 c
    && ((main_does f c 1 && (interrupt_does f c 0 || interrupt_does f c 1)) || (main_does f c 0 && interrupt_does f c 1))

-- the levels that write it
abbrev pub writer_part : Figures → ℕ → ℕ → List ℕ
writer_part f c level = if f (slot c level 1) == 0 then [] else codes " " ++ level_name level

unfoldable pub writers : Figures → ℕ → List ℕ
writers f c = flat_map (writer_part f c) (range_with_len 0 levels)

abbrev pub shared_line : Figures → ℕ → List ℕ → List ℕ
shared_line f c name = if is_shared f c then codes "SHARED " ++ name ++ codes " WRITTEN BY" ++ writers f c ++ codes "\n" else []

-- whether something at one of the first n levels reads (0) or writes (1) a cell; and whether an erasable place that is no register is
-- written and never read
abbrev pub any_does : Figures → ℕ → ℕ → ℕ → Bool
any_does f c kind zero = false
any_does f c kind (suc n) = any_does f c kind n || not (f (slot c n kind) == 0)

abbrev pub is_unread : Figures → ℕ → Bool
is_unread f c = nat_lt 6 c && nat_lt c erasable_count && any_does f c 1 levels && not (any_does f c 0 levels)

abbrev pub unread_line : Figures → ℕ → List ℕ → List ℕ
unread_line f c name = if is_unread f c then codes "UNREAD " ++ name ++ codes "\n" else []

-- what stands behind a place's figures: of fixed memory its word, as an image's words are shown with names
abbrev pub fixed_line : SymbolTable → Words → ℕ → List ℕ
fixed_line symbols words number = named_line symbols words (number / bank_words) (number % bank_words)

-- of an input, an entry, a word that waited or an erasable place: these
abbrev pub unfixed_line : ℕ → List ℕ
unfixed_line number =
    if number == 0 then codes "INPUT\n"
    else (if number == 1 then codes "ENTRY\n"
    else (if number == 2 then codes "BRUPT\n"
    else place_text (Erasable (number - 3)) ++ codes "\n"))

abbrev pub account_line : SymbolTable → Words → ℕ → List ℕ
account_line symbols words number =
    if nat_lt number (3 + erasable_count) then unfixed_line number else fixed_line symbols words (number - (3 + erasable_count))

abbrev pub row_name : View → SymbolTable → Words → ℕ → List ℕ
row_name All symbols words c = cell_text symbols c ++ codes "\n"
row_name (One d) symbols words number = account_line symbols words number

abbrev pub told_lines : Figures → ℕ → List ℕ → List ℕ
told_lines f c name = shared_line f c name ++ unread_line f c name

abbrev pub told_rows : View → SymbolTable → Figures → ℕ → List ℕ
told_rows All symbols f c = told_lines f c (cell_text symbols c)
told_rows (One d) symbols f number = []

unfoldable pub row_text : View → SymbolTable → Words → Figures → ℕ → List ℕ
row_text view symbols words f row =
    if is_touched f row then (let name = row_name view symbols words row in level_rows f row name ++ told_rows view symbols f row) else []

unfoldable pub rows_text : View → SymbolTable → Words → Figures → List ℕ
rows_text view symbols words f = flat_map (row_text view symbols words f) (range_with_len 0 (row_count view))

-- the reads and writes of the first n steps
abbrev pub access_text : View → SymbolTable → Scenario → ℕ → List ℕ
access_text view symbols scenario n = rows_text view symbols scenario.rope (times view scenario n)
