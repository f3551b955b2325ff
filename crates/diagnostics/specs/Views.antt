-- Causes and tables as the code hands them out.
use Rattle.std.specs.Prelude.{ℕ, List, map}
use Rattle.std.specs.Borrow.{Bor}
use Rattle.diagnostics.specs.Causes.{Cause}
use Rattle.diagnostics.specs.declared.causes.Cause.{Cause as Told}
use Rattle.diagnostics.specs.FeedReport.{Wrong}
use Rattle.diagnostics.specs.declared.feeds.Wrong.{Wrong as Found}
use Rattle.diagnostics.specs.Mending.{Mend}
use Rattle.diagnostics.specs.declared.mending.Mend.{Mend as Edit}
use Rattle.diagnostics.specs.Objects.{Place}
use Rattle.diagnostics.specs.declared.objects.Place.{Place as Seen}
use Rattle.diagnostics.specs.declared.told.Source.{Source}

-- a cause without where its texts lie in memory
abbrev pub cause_in : Told → Cause
cause_in c = record { words = c.words.now; cure = c.cure.now; other = c.other.now; flight = c.flight }

-- a table of texts without where they lie in memory
abbrev pub entries : List (Bor (List ℕ) × Bor (List ℕ)) → List (List ℕ × List ℕ)
entries table = map (λ e. (e.0.now, e.1.now)) table

-- what is told of a line without where its texts lie in memory
abbrev pub wrong_in : Found → Wrong
wrong_in w = record { span = w.span; beside = w.beside.now; cause = cause_in w.cause }

-- an edit without where its text lies in memory
abbrev pub mend_in : Edit → Mend
mend_in m = record { at = m.at; put = m.put.now; is_sure = m.is_sure }

-- a table of edits without where their texts lie in memory
abbrev pub mends_in : List (Bor (List ℕ) × Edit) → List (List ℕ × Mend)
mends_in table = map (λ e. (e.0.now, mend_in e.1)) table

-- some bytes of a line without where it lies in memory
abbrev pub place_in : Seen → Place
place_in p = record { line = p.line; text = p.text.now; span = p.span }

-- the lines of a source without where they lie in memory
abbrev pub lines_in : Source → List (List ℕ)
lines_in s = map (λ t. t.now) s.texts.now
