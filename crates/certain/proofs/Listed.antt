-- The rows of a source's listing are those of its lines.
use Rattle.std.proofs.Common.{◌≡◌, ◌<◌, ◌+◌, ◌^◌, ◌==◌, ℕ, List, [], ◌∷◌, ◌++◌, length, map, drop, slice_get}
use Rattle.std.proofs.Common.{if◌then◌else◌}
use Rattle.std.proofs.Common.{Some, Bool, true, false, refl, ap, ◌∙◌, arith, append_assoc}
use Rattle.std.specs.Prelude.{codes}
use Rattle.std.specs.List.{flat_map}
use Rattle.agc_text.specs.Bytes.{line_feed}
use Rattle.agc_text.specs.Lines.{lines, HasNoFeed}
use Rattle.agc_text.proofs.LineLaws.{lines-ended, lines-none}
use Rattle.rope.specs.Places.{Words}
use Rattle.yayul.specs.Layout.{Layout, line_effect, statement_on}
use Rattle.yayul.specs.Listing.{Shown, columns, further_row, line_rows, number_column, row_front, rows, shown, word_columns}
use Rattle.yayul.specs.PlaceMargin.{place_margin}
use Rattle.certain.proofs.Feeds.{AllFeedless, columns_feed, feed_append, margin_feed, number_feed, word_feed, other}

-- the first row of a line, and that of a second word, without their line feeds
abbrev pub first_row : ℕ → Words → List ℕ → Shown → List ℕ
first_row n words text shown = place_margin (slice_get shown.words 0) ++ (row_front n words shown text ++ text)

abbrev pub second_row : ℕ → Words → ℕ × ℕ → List ℕ
second_row n words p = place_margin (Some p) ++ (number_column n ++ word_columns words p.0 p.1)

-- the rows of a line
abbrev pub line_list : ℕ → Words → List ℕ → Shown → List (List ℕ)
line_list n words text shown = first_row n words text shown ∷ map (second_row n words) (drop 1 shown.words)

-- those of some lines, the first of them with a number and what stands before it
abbrev pub row_list : ℕ → Words → Layout → List (List ℕ) → List (List ℕ)
row_list n words s [] = []
row_list n words s (text ∷ texts) =
    line_list n words text (shown s.location (statement_on s text)) ++ row_list (n + 1) words (line_effect n s text).after texts

-- ## Line feeds
gap_feed : (b : Bool) → HasNoFeed (if b then [] else codes "  ")
gap_feed true = tt
gap_feed false = (other 32 (omega arith), (other 32 (omega arith), tt))

first_feed : (n : ℕ) (words : Words) (text : List ℕ) (shown : Shown) → n < 2 ^ 64 → HasNoFeed text
    → HasNoFeed (first_row n words text shown)
first_feed n words text shown lt none =
    feed_append (place_margin (slice_get shown.words 0)) (row_front n words shown text ++ text) (margin_feed (slice_get shown.words 0))
    (feed_append (row_front n words shown text) text
    (feed_append (number_column n ++ columns words shown) (if length text == 0 then [] else codes "  ")
    (feed_append (number_column n) (columns words shown) (number_feed n lt) (columns_feed words (slice_get shown.words 0) shown.place))
    (gap_feed (length text == 0))) none)

second_feed : (n : ℕ) (words : Words) (p : ℕ × ℕ) → n < 2 ^ 64 → HasNoFeed (second_row n words p)
second_feed n words p lt =
    feed_append (place_margin (Some p)) (number_column n ++ word_columns words p.0 p.1) (margin_feed (Some p))
    (feed_append (number_column n) (word_columns words p.0 p.1) (number_feed n lt) (word_feed words p.0 p.1))

-- ## Lines
join_first : (m f t s more : List ℕ)
    → ((m ++ (f ++ t ++ line_feed ∷ [])) ++ s) ++ more ≡ (m ++ (f ++ t)) ++ line_feed ∷ (s ++ more)
join_first m f t s more = simp append_assoc

join_second : (m n w s more : List ℕ)
    → ((m ++ (n ++ w ++ line_feed ∷ [])) ++ s) ++ more ≡ (m ++ (n ++ w)) ++ line_feed ∷ (s ++ more)
join_second m n w s more = simp append_assoc

abbrev seconds : ℕ → Words → List (ℕ × ℕ) → List ℕ
seconds n words ps = flat_map (λ p. place_margin (Some p) ++ further_row n words p) ps

seconds_are : (n : ℕ) (words : Words) (ps : List (ℕ × ℕ)) (more : List ℕ) → n < 2 ^ 64
    → lines (seconds n words ps ++ more) ≡ map (second_row n words) ps ++ lines more
seconds_are n words [] more lt = refl
seconds_are n words (p ∷ ps) more lt =
    ap lines (join_second (place_margin (Some p)) (number_column n) (word_columns words p.0 p.1) (seconds n words ps) more)
    ∙ lines-ended (second_row n words p) (seconds n words ps ++ more) (second_feed n words p lt)
    ∙ ap (λ ls. second_row n words p ∷ ls) (seconds_are n words ps more lt)

pub lines_are : (n : ℕ) (words : Words) (s : Layout) (texts : List (List ℕ)) → n + length texts < 2 ^ 64 → AllFeedless texts
    → lines (rows (line_rows place_margin) n s words texts) ≡ row_list n words s texts
unfolding line_rows
lines_are n words s [] lt all = lines-none [] refl
lines_are n words s (text ∷ texts) lt all =
    let sh : Shown = shown s.location (statement_on s text) in
    let more : List ℕ = rows (line_rows place_margin) (n + 1) (line_effect n s text).after words texts in
    let small : n < 2 ^ 64 = omega (arith, lt) in
    ap lines (join_first (place_margin (slice_get sh.words 0)) (row_front n words sh text) text (seconds n words (drop 1 sh.words)) more)
    ∙ lines-ended (first_row n words text sh) (seconds n words (drop 1 sh.words) ++ more) (first_feed n words text sh small all.0)
    ∙ ap (λ ls. first_row n words text sh ∷ ls)
    (seconds_are n words (drop 1 sh.words) more small
    ∙ ap (λ ls. map (second_row n words) (drop 1 sh.words) ++ ls)
    (lines_are (n + 1) words (line_effect n s text).after texts (omega (arith, lt)) all.1))
