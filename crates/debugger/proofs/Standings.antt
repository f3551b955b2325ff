-- Where the next instruction stands, symbols by their beginnings, and words one after another, step by step.
use Rattle.std.proofs.Common.{◌≡◌, ℕ, zero, suc, ◌+◌, ◌-◌, ◌<◌, ◌≤◌, List, [], ◌∷◌, ◌++◌, length, drop, Option, None, Some, true, false}
use Rattle.std.proofs.Common.{refl, ap, arith, ◌∙◌, sym, append_assoc}
use Rattle.std.specs.Prelude.{codes, decimal, slice_get}
use Rattle.std.specs.Option.{option_map_or}
use Rattle.std.proofs.lemmas.List.{drop_more, drop_all}
use Rattle.std.proofs.lemmas.Option.{slice_get_within, get_or_from_slice_get}
use Rattle.space.specs.declared.place.Linear.{Linear}
use Rattle.symbols.specs.declared.values.Value.{Value}
use Rattle.symbols.specs.Values.{SymbolTable}
use Rattle.rope.specs.Places.{Words}
use Rattle.words.specs.Devices.{WritesBeginning}
use Rattle.words.proofs.Texts.{beginning-longer}
use Rattle.yayul.specs.PlaceRows.{ListedLine, line_of, place_row, row_after}
use Rattle.yayul.specs.Program.{Source}
use Rattle.cpu.specs.State.{State, Scenario}
use Rattle.debugger.specs.declared.rows.RowKind.{RowKind}
use Rattle.debugger.specs.History.{Sight, History, history, sight}
use Rattle.debugger.specs.Rows.{list_row, plain_row, row_text}
use Rattle.debugger.specs.Replies.{line, memory_word}
use Rattle.debugger.specs.Standing.{begins_with, found_line, found_from, place_after, word_there, words_from}

-- the symbols from one on
dropped : (symbols : SymbolTable) (i : ℕ) (symbol : List ℕ × Value) → Some symbol ≡ slice_get symbols i
    → drop i symbols ≡ symbol ∷ drop (i + 1) symbols
dropped symbols i symbol is =
    drop_more symbols i symbol (slice_get_within symbols i symbol (sym is))
    ∙ ap (λ (e : List ℕ × Value). e ∷ drop (i + 1) symbols) (get_or_from_slice_get symbols i symbol symbol (sym is))

pub found_yes : (text : List ℕ) (symbols : SymbolTable) (n i : ℕ) (symbol : List ℕ × Value) → Some symbol ≡ slice_get symbols i
    → begins_with text symbol.0 ≡ true
    → found_from n text (drop i symbols) ≡ found_line symbol ++ found_from (n + 1) text (drop (i + 1) symbols)
found_yes text symbols n i symbol is begins = ap (found_from n text) (dropped symbols i symbol is) ∙ rw begins refl

pub found_no : (text : List ℕ) (symbols : SymbolTable) (n i : ℕ) (symbol : List ℕ × Value) → Some symbol ≡ slice_get symbols i
    → begins_with text symbol.0 ≡ false
    → found_from n text (drop i symbols) ≡ found_from n text (drop (i + 1) symbols)
found_no text symbols n i symbol is begins = ap (found_from n text) (dropped symbols i symbol is) ∙ rw begins refl

pub found_end : (text : List ℕ) (symbols : SymbolTable) (n i : ℕ) → length symbols ≤ i
    → found_from n text (drop i symbols) ≡ line (codes "COUNT " ++ decimal n)
found_end text symbols n i past = ap (found_from n text) (drop_all i symbols past)

-- one word further on
words_more : (h : History) (seen : Sight) (place : Linear) (k more : ℕ) → 0 < more
    → words_from h seen place k more ≡ word_there h seen (place_after place k) ++ words_from h seen place (k + 1) (more - 1)
words_more h seen place k zero some = absurd (omega (arith, some))
words_more h seen place k (suc more) some = let e : suc more - 1 ≡ more = omega arith in rw e refl

pub words_pushed : (h : History) (seen : Sight) (place : Linear) (k count : ℕ) (text new whole : List ℕ) → k < count
    → text ++ words_from h seen place k (count - k) ≡ whole
    → new ≡ text ++ word_there h seen (place_after place k) → new ++ words_from h seen place (k + 1) (count - (k + 1)) ≡ whole
words_pushed h seen place k count text new whole below so_far is =
    let row = word_there h seen (place_after place k) in
    let less : count - (k + 1) ≡ count - k - 1 = omega arith in
    let later = words_from h seen place (k + 1) (count - k - 1) in
    let one : words_from h seen place k (count - k) ≡ row ++ later = words_more h seen place k (count - k) (omega (arith, below)) in
    rw less (ap (λ (x : List ℕ). x ++ later) is ∙ append_assoc text row later ∙ ap (λ (x : List ℕ). text ++ x) (sym one) ∙ so_far)

-- the row so many places after a place
abbrev pub row_at : RowKind → SymbolTable → Source → Scenario → State → Linear → ℕ → List ℕ
row_at kind symbols source scenario s place i = row_text kind symbols source scenario.rope (history scenario) (sight scenario.rope s)
    (place_after place i)

-- the row of a place was begun
pub row_begun : (symbols : SymbolTable) (source : Source) (rope : Words) (h : History) (seen : Sight) (place : Linear) (old new : List ℕ)
    → WritesBeginning old new (row_after (codes "LIST ") source rope (memory_word h seen place) place)
    → WritesBeginning old new (list_row symbols source rope h seen place)
row_begun symbols source rope h seen place old new begun = by (line_of source place) begun
  where
    by : (line : Option ListedLine) → WritesBeginning old new
        (option_map_or (λ l. codes "LIST " ++ place_row rope (memory_word h seen place) place l) line [])
        → WritesBeginning old new (option_map_or (λ l. codes "LIST " ++ place_row rope (memory_word h seen place) place l) line
        (plain_row symbols rope seen place))
    by (Some l) w = w
    by None w = beginning-longer old new [] (plain_row symbols rope seen place) w
