-- Texts that are written row by row.
use Rattle.std.proofs.Common.{◌≡◌, ℕ, ◌+◌, List, [], ◌∷◌, ◌++◌, map, refl, ap, ◌∙◌}
use Rattle.rope.specs.Places.{Words}
use Rattle.yayul.specs.Layout.{statement_on, Layout, line_effect}
use Rattle.yayul.specs.Listing.{LineText, rows, shown}
use Rattle.yayul.specs.Inside.Representation.{shown_by_mark, lines_show, rows_of}
use Rattle.yayul.specs.declared.mark.Mark.{Mark}

-- the rows of one line more
pub rows-more : (of_line : LineText) (line : ℕ) (words : Words) (texts : List (List ℕ)) (text : List ℕ) (after : List (List ℕ))
    (marks : List Mark) (mark : Mark) (more : List Mark)
    → texts ≡ text ∷ after → marks ≡ mark ∷ more
    → rows_of of_line line words texts (map shown_by_mark marks)
    ≡ of_line line words text (shown_by_mark mark) ++ rows_of of_line (line + 1) words after (map shown_by_mark more)
rows-more of_line line words texts text after marks mark more e f =
    ap (λ ts. rows_of of_line line words ts (map shown_by_mark marks)) e
    ∙ ap (λ ms. rows_of of_line line words (text ∷ after) (map shown_by_mark ms)) f

-- no rows without what lines show
pub rows-no_marks : (of_line : LineText) (line : ℕ) (words : Words) (texts : List (List ℕ)) (marks : List Mark) → marks ≡ []
    → rows_of of_line line words texts (map shown_by_mark marks) ≡ []
rows-no_marks of_line line words [] marks e = refl
rows-no_marks of_line line words (text ∷ texts) marks e = ap (λ ms. rows_of of_line line words (text ∷ texts) (map shown_by_mark ms)) e

-- the rows of lines, each with what it shows by the layout
pub rows-shown : (of_line : LineText) (line : ℕ) (s : Layout) (words : Words) (texts : List (List ℕ))
    → rows_of of_line line words texts (lines_show line s texts) ≡ rows of_line line s words texts
rows-shown of_line line s words [] = refl
rows-shown of_line line s words (text ∷ texts) =
    ap (λ more. of_line line words text (shown s.location (statement_on s text)) ++ more)
    (rows-shown of_line (line + 1) (line_effect line s text).after words texts)
