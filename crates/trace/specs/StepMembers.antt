-- What a step is as members of an object of JSON.
use Rattle.std.specs.Prelude.{ℕ, List, ◌++◌, codes, Option, None, Some, if◌then◌else◌}
use Rattle.words.specs.Numerals.{octal_text}
use Rattle.json_text.specs.Strings.{json_string, string_or_null}
use Rattle.rope.specs.Places.{Words}
use Rattle.symbols.specs.Values.{SymbolTable}
use Rattle.yayul.specs.Listing.{place_text}
use Rattle.cpu.specs.declared.next_step.Fetched.{Fetched}
use Rattle.cpu.specs.declared.next_step.NextStep.{NextStep}
use Rattle.cpu.specs.declared.next_step.NextStep.TheVariants.{Takes, Enters, Executes}
use Rattle.cpu.specs.State.{State}
use Rattle.trace.specs.TraceLines.{entry_place, fetched_text, interrupt_name, symbol_at, taken_text, word_place}

-- a place, the first symbol that stands for it, the word that stands there, and a text
unfoldable pub step_members : Option (List ℕ) → Option (List ℕ) → Option (List ℕ) → List ℕ → List ℕ
step_members place symbol word text =
    codes ",\"place\":" ++ (string_or_null place ++ (codes ",\"symbol\":" ++ (string_or_null symbol
    ++ (codes ",\"word\":" ++ (string_or_null word ++ (codes ",\"text\":" ++ json_string text))))))

-- the symbol of the place where the word that is executed stands: the word that RESUME brings stands in BRUPT
abbrev pub word_symbol : SymbolTable → Fetched → Option (List ℕ)
word_symbol symbols f = if f.waited then None else symbol_at symbols f.place

-- an input has neither place nor word, and the entry of an interrupt no word
abbrev pub what_members : SymbolTable → Words → State → NextStep → List ℕ
what_members symbols rope s (Takes input) = step_members None None None (taken_text s input)
what_members symbols rope s (Enters k) = step_members (Some (place_text (entry_place k))) (symbol_at symbols (entry_place k)) None
    (interrupt_name k)
what_members symbols rope s (Executes f) = step_members (Some (word_place f)) (word_symbol symbols f) (Some (octal_text 5 f.word))
    (fetched_text symbols rope s f)
