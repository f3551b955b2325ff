-- The program of a source, or its least fault.
use Rattle.std.specs.Prelude.{◌≡◌, ℕ, ◌+◌, ◌==◌, ◌&&◌, ◌||◌, ◌⊎◌, Bool, nat_lt, List, [], ◌∷◌, flat_map, fold, Option, None, Some, Result}
use Rattle.std.specs.Prelude.{Ok, Err, if◌then◌else◌}
use Rattle.std.specs.Result.{result_unwrap_or}
use Rattle.agc_text.specs.Lines.{lines}
use Rattle.rope.specs.Places.{Words, Placed, no_words, with_words}
use Rattle.yayul.specs.Layout.{Request, Layout, start, layout_after, layout_faults}
use Rattle.yayul.specs.Later.{first_fault, with_values}
use Rattle.yayul.specs.Words.{request_words, word_faults}
use Rattle.yayul.specs.Language.{Fault, Language, Value}

-- a fault stands on a lesser line than another, or on the same line with a lesser number
abbrev pub is_before : Fault → Fault → Bool
is_before a b = nat_lt a.line b.line || (a.line == b.line && nat_lt a.number b.number)

-- the least fault
abbrev pub least : List Fault → Option Fault
least [] = None
least (f ∷ fs) = Some (fold (λ a b. if is_before b a then b else a) f fs)

-- a fault where there is one, else what follows
abbrev pub unless_fault : {A : Type 0} → Option Fault → Result A Fault → Result A Fault
unless_fault None following = following
unless_fault (Some fault) following = Err fault

-- a source: its language and its text
pub record Source : Type 0 where
  pub language : Language
  pub text : List ℕ

-- an assembled source: its words in their places, its symbols in order of definition, and the source
pub record Program : Type 0 where
  pub rope : Words
  pub symbols : List (List ℕ × Value)
  pub source : Source

-- some words of a bank, the first at an offset
abbrev pub placed_from : ℕ → ℕ → List ℕ → List Placed
placed_from bank offset [] = []
placed_from bank offset (word ∷ words) = record { bank = bank; offset = offset; word = word } ∷ placed_from bank (offset + 1) words

-- the words of a request in their places; one with a fault gives none
abbrev pub placed : List (List ℕ × Value) → Request → List Placed
placed table r = placed_from r.bank r.offset (result_unwrap_or (request_words table r) [])

-- the words of a layout, each with its bank and offset
abbrev pub image_of : Layout → List Placed
image_of s = flat_map (placed s.symbols) s.requests

-- what the layout of a source comes to: its least word fault, else its program
abbrev pub completed : Layout → Source → Result Program Fault
completed s source =
    unless_fault (least (word_faults s.symbols s.requests))
    (Ok (record { rope = with_words no_words (image_of s); symbols = s.symbols; source = source }))

-- what the layout of a source comes to, with the values of the names that wait, where each has one
abbrev pub finished : Layout → Source → Result Program Fault
finished s source = unless_fault (first_fault (with_values s).symbols s.promises) (completed (with_values s) source)

-- the least layout fault of a source, else what its layout comes to
unfoldable pub program : Language → List ℕ → Result Program Fault
program language text =
    unless_fault (least (layout_faults 1 (start language) (lines text)))
    (finished (layout_after 1 (start language) (lines text)) (record { language = language; text = text }))

-- want of memory, which stands on no line
abbrev pub no_memory : Fault
no_memory = record { line = 0; number = 2 }

-- the program or the fault that is expected, unless memory ran out
abbrev pub GivesProgram : Result Program Fault → Result Program Fault → Type 0
GivesProgram expected (Ok p) = expected ≡ Ok p
GivesProgram expected (Err fault) = (fault ≡ no_memory) ⊎ (expected ≡ Err fault)
