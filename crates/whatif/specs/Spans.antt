-- What is told of trials: those one after another that come to the same, in one line. Where they have come out is told of the first.
use Rattle.std.specs.Prelude.{ℕ, ◌+◌, ◌&&◌, nat_le, Bool, true, false, List, [], ◌∷◌, ◌++◌, length, take, codes, decimal, Option}
use Rattle.std.specs.Prelude.{None, Some, if◌then◌else◌}
use Rattle.std.specs.List.{flat_map}
use Rattle.words.specs.Numerals.{octal_text}
use Rattle.space.specs.declared.place.Linear.{Linear}
use Rattle.space.specs.declared.place.Linear.TheVariants.{Erasable}
use Rattle.yayul.specs.Listing.{place_text}
use Rattle.feed.specs.declared.entry.Plain.{Plain}
use Rattle.cpu.specs.Run.{run}
use Rattle.cpu.specs.State.{Scenario, State}
use Rattle.whatif.specs.declared.finish.Difference.{Difference}
use Rattle.whatif.specs.declared.finish.Finish.{Finish}
use Rattle.whatif.specs.declared.others.Others.{Others}
use Rattle.whatif.specs.declared.others.Others.TheVariants.{All, First}
use Rattle.whatif.specs.declared.others.Telling.{Telling}
use Rattle.whatif.specs.declared.sent.Sent.{Sent}
use Rattle.whatif.specs.declared.span.Span.{Span}
use Rattle.whatif.specs.Finishes.{finishes, next_place}
use Rattle.whatif.specs.Outcomes.{Outcome, is_same, is_same_flag, outcome}
use Rattle.whatif.specs.Together.{told_together}

-- how trials are told beside a run that has ended in a state
abbrev pub telling : Others → State → Telling
telling others s = record { others = others; end = s.cycles }

-- a trial never comes where the run without one ends at its cycle, or before
abbrev pub is_never : Telling → ℕ → Bool
is_never told cycle = nat_le told.end cycle

-- trials come to the same, or never come, as those of a span do
abbrev pub joins : Telling → Span Finish → ℕ → Finish → Bool
joins told span cycle a = is_same span.came.answer a.answer && is_same_flag (is_never told span.first) (is_never told cycle)

-- the line of a word
abbrev pub sent_line : Sent → List ℕ
sent_line w = codes "CH " ++ octal_text 3 w.channel ++ codes " " ++ octal_text 5 w.word ++ codes "\n"

abbrev pub others_text : List Sent → List ℕ
others_text others = flat_map sent_line others

-- the other words that are told: all, or the first
abbrev pub others_told : Others → List Sent → List Sent
others_told All others = others
others_told First others = take 1 others

-- what stands at the end of a line: that an instruction was executed in erasable memory, and that a trial never comes
abbrev pub stray_text : Outcome → List ℕ
stray_text a = if a.strays then codes " ERASABLE" else []

abbrev pub never_text : Telling → ℕ → List ℕ
never_text told cycle = if is_never told cycle then codes " NEVER" else []

-- the line of where a run has come out: the place of its next instruction, and the first erasable word that differs
abbrev pub difference_text : Option Difference → List ℕ
difference_text None = []
difference_text (Some d) = codes " CELL " ++ place_text (Erasable d.place) ++ codes " " ++ octal_text 5 d.word ++ codes " NOT "
    ++ octal_text 5 d.other

abbrev pub end_line : Linear → Option Difference → List ℕ
end_line place difference = codes "END " ++ place_text place ++ difference_text difference ++ codes "\n"

-- what is told of the run without a trial: how many words it puts out, and where it has come out
abbrev pub without_line : Outcome → List ℕ
without_line a = codes "WITHOUT WORDS " ++ decimal (length a.others) ++ stray_text a ++ codes "\n"

abbrev pub without_text : State → Outcome → List ℕ
without_text s a = without_line a ++ end_line (next_place s) None

-- what is told of some trials: how many of the words are those of the run without, how many others then follow, these, and where the
-- run has come out
abbrev pub span_line : Telling → Span Finish → List ℕ
span_line told s =
    codes "FROM " ++ decimal s.first ++ codes " TO " ++ decimal s.last ++ codes " COUNT " ++ decimal s.count
    ++ codes " ALIKE " ++ decimal s.came.answer.alike ++ codes " OTHERS " ++ decimal (length s.came.answer.others)
    ++ stray_text s.came.answer ++ never_text told s.first ++ codes "\n"

abbrev pub span_text : Telling → Span Finish → List ℕ
span_text told s =
    span_line told s
    ++ (others_text (others_told told.others s.came.answer.others) ++ end_line s.came.place s.came.difference)

abbrev pub spans_text : Telling → Option (Span Finish) → List (ℕ × Finish) → List ℕ
spans_text told pending list = told_together (joins told) (span_text told) pending list

-- what is told of a run of so many steps and of some trials, where its steps after so many are looked at. Beside no words a run has
-- none but others
unfoldable pub trials_text : Others → ℕ → Scenario → List Plain → ℕ → List ℕ
trials_text others from scenario trials steps =
    let s = run scenario steps in
    let without = outcome [] from scenario steps in
    without_text s without ++ spans_text (telling others s) None (finishes without.others s.cells from scenario steps trials)

-- of a whole run
unfoldable pub whatif_text : Scenario → List Plain → ℕ → List ℕ
whatif_text scenario trials steps = trials_text All 0 scenario trials steps
