-- The lines that are warned of, row by row.
use Rattle.std.proofs.Common.{◌≡◌, ◌<◌, ◌≤◌, ◌+◌, ℕ, List, [], ◌∷◌, ◌++◌, length, map, drop, slice_get}
use Rattle.std.proofs.Common.{false, Some, refl, sym, ap, ◌∙◌, arith}
use Rattle.std.proofs.Common.{append_assoc}
use Rattle.std.specs.Prelude.{flat_map, option_and_then}
use Rattle.agc_text.specs.Lines.{lines}
use Rattle.rope.specs.Places.{Words}
use Rattle.yayul.specs.Layout.{Layout, line_effect, start, statement_on}
use Rattle.yayul.specs.Listing.{Shown, number_column, row_front, shown, word_columns}
use Rattle.yayul.specs.PlaceRows.{ListedLine, listed_lines}
use Rattle.yayul.specs.Program.{Source}
use Rattle.warnings.specs.declared.told.Warning.{Warning}
use Rattle.certain.specs.declared.doubted.WarnedLine.{WarnedLine}
use Rattle.certain.specs.Doubted.{WarnedAreUncertain, before_lines, doubt_at, doubted, doubted_by, doubted_on, doubted_rows, line_with}
use Rattle.certain.specs.Doubted.{warned_line}
use Rattle.certain.specs.Places.{UncertainWords, uncertain_words}
use Rattle.yayul.specs.PlaceMargin.{is_second, place_margin, placed_rows}
use Rattle.certain.proofs.Feeds.{lines_feed}
use Rattle.certain.proofs.Listed.{first_row, line_list, lines_are, row_list, second_row}
use Rattle.certain.proofs.Passed.{empty_shows, first_not, place_is, second_is, text_is}

-- ## Rows
-- the warning of a line for a word at a place
abbrev at_place : UncertainWords → WarnedLine → ℕ × ℕ → List Warning
at_place forms line place = doubted_by line (doubt_at forms place)

-- further words of a line
further_doubted :
    (forms : UncertainWords) (line : WarnedLine) (words : Words) (n : ℕ) (ps : List (ℕ × ℕ)) (more : List (List ℕ)) → line.number ≡ n
    → doubted_rows forms line (map (second_row n words) ps ++ more)
    ≡ flat_map (at_place forms line) ps ++ doubted_rows forms line more
further_doubted forms line words n [] more same = refl
further_doubted forms line words n (p ∷ ps) more same =
    let stays : line_with line (second_row n words p) ≡ line = rw (same, second_is n words p) refl in
    let place = place_is (Some p) (number_column n ++ word_columns words p.0 p.1) in
    rw (stays, place)
    (ap (λ (ws : List Warning). at_place forms line p ++ ws) (further_doubted forms line words n ps more same)
    ∙ sym (append_assoc (at_place forms line p) (flat_map (at_place forms line) ps) (doubted_rows forms line more)))

-- the first row of a line
first_doubted :
    (forms : UncertainWords) (line : WarnedLine) (words : Words) (n : ℕ) (text : List ℕ) (sh : Shown) (more : List (List ℕ))
    → line.number + 1 ≡ n → is_second line.number (first_row n words text sh) ≡ false
    → doubted_rows forms line (first_row n words text sh ∷ more)
    ≡ doubted_by (warned_line n text) (option_and_then (doubt_at forms) (slice_get sh.words 0))
    ++ doubted_rows forms (warned_line n text) more
first_doubted forms line words n text sh more next differs =
    let place = place_is (slice_get sh.words 0) (row_front n words sh text ++ text) in
    let here : line_with line (first_row n words text sh) ≡ warned_line n text = rw (differs, next, text_is n words text sh) refl in
    rw (here, place) refl

-- all words of a line
words_joined :
    (forms : UncertainWords) (line : WarnedLine) (ps : List (ℕ × ℕ)) (more : List Warning)
    → doubted_by line (option_and_then (doubt_at forms) (slice_get ps 0)) ++ (flat_map (at_place forms line) (drop 1 ps) ++ more)
    ≡ flat_map (at_place forms line) ps ++ more
words_joined forms line [] more = refl
words_joined forms line (p ∷ ps) more = sym (append_assoc (at_place forms line p) (flat_map (at_place forms line) ps) more)

line_doubted :
    (forms : UncertainWords) (line : WarnedLine) (words : Words) (n : ℕ) (text : List ℕ) (sh : Shown) (more : List (List ℕ))
    → line.number + 1 ≡ n → n ≤ 9999999 → (text ≡ [] → sh.words ≡ [])
    → doubted_rows forms line (line_list n words text sh ++ more)
    ≡ doubted_on forms (record { number = n; text = text; shown = sh }) ++ doubted_rows forms (warned_line n text) more
line_doubted forms line words n text sh more next lt none =
    first_doubted forms line words n text sh (map (second_row n words) (drop 1 sh.words) ++ more) next
    (first_not line.number n words text sh.place sh.words (omega (arith, lt, next)) none)
    ∙ ap
    (λ (ws : List Warning). doubted_by (warned_line n text) (option_and_then (doubt_at forms) (slice_get sh.words 0)) ++ ws)
    (further_doubted forms (warned_line n text) words n (drop 1 sh.words) more refl)
    ∙ words_joined forms (warned_line n text) sh.words (doubted_rows forms (warned_line n text) more)

-- ## All lines
all_doubted :
    (forms : UncertainWords) (line : WarnedLine) (words : Words) (n : ℕ) (s : Layout) (texts : List (List ℕ)) → line.number + 1 ≡ n
    → n + length texts ≤ 9999999
    → doubted_rows forms line (row_list n words s texts) ≡ flat_map (doubted_on forms) (listed_lines n s texts)
all_doubted forms line words n s [] next lt = refl
all_doubted forms line words n s (text ∷ texts) next lt =
    let sh : Shown = shown s.location (statement_on s text) in
    let after : Layout = (line_effect n s text).after in
    let here : ListedLine = record { number = n; text = text; shown = sh } in
    line_doubted forms line words n text sh (row_list (n + 1) words after texts) next (omega (arith, lt)) (empty_shows s text)
    ∙ ap (λ (ws : List Warning). doubted_on forms here ++ ws)
    (all_doubted forms (warned_line n text) words (n + 1) after texts refl (omega (arith, lt)))

pub warned_of_lines : (source : Source) (words : Words) → WarnedAreUncertain source words
unfolding doubted placed_rows
warned_of_lines source words = λ few.
    ap (doubted_rows (uncertain_words source words) before_lines)
    (lines_are 1 words (start source.language) (lines source.text) (omega (arith, few)) (lines_feed source.text))
    ∙ all_doubted (uncertain_words source words) before_lines words 1 (start source.language) (lines source.text) refl (omega (arith, few))
