-- What is reached, beside a run: of each word the kind of root from which a way leads to it, and whether the run has executed it.
use Rattle.std.specs.Prelude.{ℕ, ◌&&◌, not, Bool, List, ◌++◌, codes, Option, None, Some, if◌then◌else◌}
use Rattle.yayul.specs.Listing.{Margin, blanks}
use Rattle.reach.specs.Roots.{Rooting, roots_column}
use Rattle.reach.specs.ReachText.{at_place, column_beyond, is_executed, is_read}

-- the marks of what is reached from the vectors, of what is reached from these and all that a run executes, of what is reached from all of
-- these and the places that a program names, and of what the run executes; and the roots, where they are shown
pub record Found : Type 0 where
  pub start : List Bool
  pub run : List Bool
  pub named : List Bool
  pub done : List Bool
  pub roots : Option Rooting

-- the column of the root: START where a way leads to the word from 4000 or an entry, RUN where one leads only from what the run executes,
-- DATA where an instruction that is reached so reads it, else that of named places
unfoldable pub root_column : Found → ℕ → ℕ → List ℕ
root_column f bank offset =
    if at_place (is_executed f.start) bank offset then codes "START "
    else (if at_place (is_executed f.run) bank offset then codes "RUN   "
    else (if at_place (is_read f.run) bank offset then codes "DATA  "
    else column_beyond f.named bank offset))

-- the column of what a way leads to that the run has not executed; no run executes what only a named place leads to
abbrev pub is_idle : Found → ℕ → ℕ → Bool
is_idle f bank offset = at_place (is_executed f.run) bank offset && not (at_place (is_executed f.done) bank offset)

abbrev pub idle_column : Found → ℕ → ℕ → List ℕ
idle_column f bank offset = if is_idle f bank offset then codes "IDLE " else codes "     "

-- both, by the place of a word
abbrev pub found_columns : Found → Margin
found_columns f None = blanks 11
found_columns f (Some p) = root_column f p.0 p.1 ++ idle_column f p.0 p.1

-- what stands before a row, by the place of its word
abbrev pub found_margin : Found → Margin
found_margin f word = found_columns f word ++ roots_column f.roots word
