-- The programs and the inputs of the sessions, from a source and a feed.
use Rattle.std.proofs.Common.{◌≡◌, ℕ, List, [], ◌∷◌, ◌++◌, Ok, Err, Result, refl}
use Rattle.std.specs.Prelude.{codes}
use Rattle.agc_text.specs.Fields.{runs}
use Rattle.agc_text.specs.Lines.{lines}
use Rattle.rope.specs.Places.{Words}
use Rattle.space.specs.Places.{window, fb_of}
use Rattle.feed.specs.Feed.{inputs, first_fault, plain_from, series_from}
use Rattle.feed.specs.Merged.{merged, in_order, inserted, is_before, entries_from, entries_of}
use Rattle.feed.specs.Names.{counters, sequences}
use Rattle.feed.specs.Statements.{statement_of as feed_statement_of}
use Rattle.yayul.specs.Operators.{operators, operator_rows}
use Rattle.yayul.specs.Forms.{statement_of}
use Rattle.yayul.specs.Layout.{line_effect}
use Rattle.yayul.specs.Words.{request_words, request_faults}
use Rattle.yayul.specs.Program.{Program, program}
use Rattle.yayul.specs.Language.{Fixed}
use Rattle.yayul.specs.declared.language.Language.TheVariants.{Standard}
use Rattle.yayul.specs.declared.faults.Fault.{Fault}
use Rattle.cpu.proofs.Held.{rope}
use Rattle.cpu.proofs.FiveRun.{five_words}
use Rattle.cpu.proofs.ClockRun.{loop_words, clock}
use Rattle.symbols.specs.Values.{SymbolTable}

-- some lines, each ended
abbrev ended : List (List ℕ) → List ℕ
ended [] = []
ended (line ∷ more) = line ++ 10 ∷ ended more

-- a source assembles to words and symbols
abbrev AssemblesTo : Words → SymbolTable → Result Program Fault → Type 0
AssemblesTo words symbols (Ok p) = (p.rope ≡ words) × (p.symbols ≡ symbols)
AssemblesTo words symbols (Err fault) = ⊥

five_source : AssemblesTo (rope five_words) ((codes "FIVE", Fixed 2 5) ∷ [])
    (program Standard (ended (codes " SETLOC 4000" ∷ codes " CA FIVE" ∷ codes " AD FIVE" ∷ codes " EXTEND" ∷ codes " WRITE 10"
    ∷ codes " TCF 4000" ∷ codes "FIVE OCT 5" ∷ [])))
unfolding program runs operators operator_rows statement_of line_effect request_words request_faults lines window fb_of rope
five_source = (refl, refl)

loop_source : AssemblesTo (rope loop_words) [] (program Standard (ended (codes " SETLOC 4000" ∷ codes " TCF 4000" ∷ [])))
unfolding program runs operators operator_rows statement_of line_effect request_words request_faults lines window fb_of rope
loop_source = (refl, refl)

clock_feed : inputs (ended (codes "EVERY 3 5 2 4 TIME1 PINC" ∷ codes "5 CHAN 015 00021" ∷ [])) ≡ Ok (clock [])
unfolding inputs first_fault plain_from series_from merged in_order inserted is_before entries_from entries_of feed_statement_of runs lines
    counters sequences
clock_feed = refl
