-- What the functions of the assembler answer.
use Rattle.std.specs.Prelude.{◌≡◌, ◌≢◌, ℕ, ◌+◌, ◌<◌, ◌⊎◌, nat_lt, List, [], ◌∷◌, ◌++◌, map, replicate, fold, Option, None, Some, Result, Ok}
use Rattle.std.specs.Prelude.{Err, if◌then◌else◌}
use Rattle.std.specs.List.{flat_map}
use Rattle.std.specs.Result.{result_err, result_unwrap_or}
use Rattle.rope.specs.Places.{Words, banks, no_words, with_words}
use Rattle.yayul.specs.Layout.{Request, Layout, LineEffect, start, standing, fault_if, label_faults, lacks_room, is_erasable}
use Rattle.yayul.specs.Layout.{after_words, extends, width, fault_number, line_faults, statement_on, line_effect, layout_after}
use Rattle.yayul.specs.Layout.{layout_faults, relocated, statement_effect}
use Rattle.yayul.specs.Listing.{shown}
use Rattle.yayul.specs.Program.{placed, placed_from, least, no_memory}
use Rattle.yayul.specs.Words.{extracode_of, extracode_fault, request_words, word_faults}
use Rattle.yayul.specs.Language.{Bank, BankFull, CodeInErasable, Content, Fault, FaultKind, Gives, Label, Language, NoMemory, Operation}
use Rattle.yayul.specs.Language.{PlaceTaken, Value}
use Rattle.yayul.specs.declared.layout.Layout.{Layout as Held}
use Rattle.yayul.specs.declared.layout.Placing.{Placing}
use Rattle.yayul.specs.declared.mark.Mark.{Mark}
use Rattle.yayul.specs.Inside.Representation.{promise_of, request_of, is_undefined, bank_target_by, holds_word, shown_by_mark}
use Rattle.yayul.specs.Inside.Sound.{AreEnds}
use Rattle.yayul.specs.Inside.Waiting.{Holds, AreKnown, lesser_on}

-- of two kinds of fault, the one with the lesser number
abbrev pub lesser_kind : FaultKind → FaultKind → FaultKind
lesser_kind a b = if nat_lt (fault_number b) (fault_number a) then b else a

-- the kind with the least number
abbrev pub least_kind : List FaultKind → Option FaultKind
least_kind [] = None
least_kind (kind ∷ kinds) = Some (fold lesser_kind kind kinds)

-- of two kinds that may stand, the one with the lesser number
abbrev pub lesser_if : Option FaultKind → Option FaultKind → Option FaultKind
lesser_if None other = other
lesser_if (Some a) None = Some a
lesser_if (Some a) (Some b) = Some (lesser_kind a b)

-- a layout with other requests
abbrev pub with_requests : List Request → Layout → Layout
with_requests rs s = record s { requests = rs }

-- the layout that stands after some lines, without what they ask for
abbrev pub layout_of : Held → Layout
layout_of l = record {
  language = l.language;
  location = l.location;
  symbols = l.symbols;
  promised = l.promised;
  promises = map promise_of
      l.promises.items;
  requests = [];
  extracode = l.extracode;
  eb = l.eb;
}

-- the words are held that a layout asks for, which stands before a line
pub record Keeps (line : ℕ) (s : Layout) (p : Placing) : Type 0 where
  pub holds : Holds line s.symbols s.requests (map request_of p.waiting.items) p.rope p.fault
  pub known : AreKnown s.symbols (map request_of p.waiting.items) s.requests
  pub ends : AreEnds p.ends s.requests

-- what stands before a line agrees with a layout
pub record Agrees (line : ℕ) (s : Layout) (l : Held) (p : Placing) : Type 0 where
  pub same : layout_of l ≡ with_requests [] s
  pub keeps : Keeps line s p

-- a statement of a line without a fault leads to what agrees with the layout after it; of one with faults the least is told, unless memory
-- ran out
abbrev pub LeadsOn : ℕ → LineEffect → Held → Placing → Result (Unit {0}) FaultKind → Type 0
LeadsOn line e l p (Ok x) = (e.faults ≡ []) × Agrees (line + 1) e.after l p
LeadsOn line e l p (Err kind) = kind ≢ NoMemory → least_kind e.faults ≡ Some kind

-- the same of a line of the source, its text and number included, and what it shows
abbrev pub LineLeadsOn : ℕ → Layout → List ℕ → Held → Placing → Result Mark FaultKind → Type 0
LineLeadsOn line s text l p (Ok mark) =
    (line_faults line s text ≡ []) × (Agrees (line + 1) (line_effect line s text).after l p
    × (shown_by_mark mark ≡ shown s.location (statement_on s text)))
LineLeadsOn line s text l p (Err kind) = kind ≢ NoMemory → least_kind (line_faults line s text) ≡ Some kind

-- the conditions on so many words, where these stand before them
abbrev pub words_faults : Layout → Words → ℕ → List (Option FaultKind)
words_faults s words count =
    fault_if (lacks_room count s.location) BankFull ∷ fault_if (holds_word words s.location count) PlaceTaken
    ∷ fault_if (is_erasable s.location) CodeInErasable ∷ []

-- the faults of a line that gives so many words, where these stand before it
abbrev pub tested_faults : Layout → Words → Label → ℕ → List FaultKind
tested_faults s words label count = standing (label_faults s label ++ words_faults s words count)

-- the layout faults of what a line says, by what is held before it
abbrev pub held_faults : ℕ → Held → Placing → Label → Operation → List FaultKind
held_faults line l p label (Bank taken number) = (relocated (layout_of l) label (bank_target_by p.ends taken number)).faults
held_faults line l p label (Gives (Some content)) = tested_faults (layout_of l) p.rope label (width content)
held_faults line l p label operation = (statement_effect line (layout_of l) label operation).faults

-- what stands after the words of a content, besides these
abbrev pub passed : Layout → Content → Layout
passed s content = record s { location = after_words (width content) s.location; extracode = extends content s.extracode }

-- a request is put aside where a symbol of it is not defined; else its fault is held
pub record Settles (r : Request) (words : Result (List ℕ) FaultKind) (p q : Placing) : Type 0 where
  pub waits : map request_of q.waiting.items ≡ (if is_undefined words then map request_of p.waiting.items ++ r
      ∷ [] else map request_of p.waiting.items)
  pub holds : q.fault ≡ (if is_undefined words then p.fault else lesser_on p.fault r.line
      (least_kind (standing (result_err words ∷ extracode_fault (extracode_of r.content) r.extracode ∷ []))))

-- the words of a request are placed, or zeros where it waits or has none
pub record TakesWords (table : List (List ℕ × Value)) (r : Request) (p q : Placing) : Type 0 where
  pub in_banks : r.bank < banks
  pub rope : q.rope ≡ with_words p.rope (placed_from r.bank r.offset
      (result_unwrap_or (request_words table r) (replicate (width r.content) 0)))
  pub settles : Settles r (request_words table r) p q
  pub ends : (rs : List Request) → AreEnds p.ends rs → AreEnds q.ends (rs ++ r ∷ [])

-- the fault that is expected is told, or that memory ran out
abbrev pub Tells : Option Fault → Fault → Type 0
Tells expected fault = (fault ≡ no_memory) ⊎ (expected ≡ Some fault)

-- a kind of fault is told on a line, want of memory on none
abbrev pub TellsOn : ℕ → FaultKind → Fault → Type 0
TellsOn line kind fault = (fault ≡ no_memory) ⊎ ((kind ≢ NoMemory) × (fault ≡ record { line = line; number = fault_number kind }))

-- lines without a fault are laid out; of others the least fault is told
abbrev pub LaysOut : Language → List (List ℕ) → Placing → Result Held Fault → Type 0
LaysOut language texts p (Ok l) = (layout_faults 1 (start language) texts ≡ [])
    × ((line : ℕ) × Agrees line (layout_after 1 (start language) texts) l p)
LaysOut language texts p (Err fault) = Tells (least (layout_faults 1 (start language) texts)) fault

-- words stand in their places, where no request has a fault; of others the least is told
abbrev pub PlacesWords : List (List ℕ × Value) → List Request → Result Words Fault → Type 0
PlacesWords table requests (Ok rope) = (word_faults table requests ≡ []) × (rope ≡ with_words no_words (flat_map (placed table) requests))
PlacesWords table requests (Err fault) = least (word_faults table requests) ≡ Some fault
