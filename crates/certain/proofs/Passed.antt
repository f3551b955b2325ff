-- The rows of each line hold the forms of its words at their places.
use Rattle.std.proofs.Common.{◌≡◌, ◌<◌, ◌≤◌, ◌+◌, ◌-◌, ◌*◌, ◌/◌, ◌%◌, ◌==◌, nat_lt, ℕ, suc, List, [], ◌∷◌, ◌++◌, length, map, drop}
use Rattle.std.proofs.Common.{slice_get, if◌then◌else◌, Option, Some, None, true, false, refl, sym, ap, ◌∙◌, arith, append_assoc}
use Rattle.std.proofs.Common.{length-append, inl, inr}
use Rattle.std.specs.Prelude.{codes}
use Rattle.std.proofs.Math.Seq.{drop-append_seam}
use Rattle.std.proofs.lemmas.Bool.{cases_Bool, eq-eqb}
use Rattle.std.proofs.lemmas.Bool.Decides.{nat_tests}
use Rattle.std.proofs.lemmas.Fmt.{length-decimal-le}
use Rattle.std.proofs.lemmas.List.{drop_all}
use Rattle.std.proofs.lemmas.List.Sums.{fold-append}
use Rattle.agc_text.specs.Fields.{runs}
use Rattle.agc_text.specs.Lines.{lines}
use Rattle.rope.specs.Places.{Words}
use Rattle.space.specs.declared.place.Linear.{Linear}
use Rattle.yayul.specs.Flight.{statement_in, uncounted_statement}
use Rattle.yayul.specs.Forms.{statement_of}
use Rattle.yayul.specs.declared.language.Language.{Language}
use Rattle.yayul.specs.declared.language.Language.TheVariants.{Standard, Flight}
use Rattle.yayul.specs.Layout.{Layout, line_effect, start, statement_on}
use Rattle.yayul.specs.Listing.{Shown, columns, number_column, row_front, shown, word_columns}
use Rattle.yayul.specs.PlaceRows.{listed_lines}
use Rattle.yayul.specs.Program.{Source}
use Rattle.yayul.specs.Readings.{parts_for}
use Rattle.certain.specs.Lines.{AreOfLines, further_held, line_passed, lines_passed}
use Rattle.certain.specs.Places.{Walk, all_certain, line_of, row_passed, rows_passed, start_with, uncertain_words}
use Rattle.certain.specs.Places.{with_line, with_second}
use Rattle.yayul.specs.PlaceMargin.{front_length, is_second, place_before, place_margin, placed_rows, text_on}
use Rattle.yayul.proofs.NumberColumn.{column_long}
use Rattle.certain.proofs.Feeds.{columns_long, lines_feed, margin_long, word_long}
use Rattle.certain.proofs.Listed.{first_row, line_list, lines_are, row_list, second_row}

-- ## Places
pub place_is : (place : Option (ℕ × ℕ)) (rest : List ℕ) → place_before (place_margin place ++ rest) ≡ place
place_is None rest = refl
place_is (Some p) rest =
    let low : nat_lt (64 + p.0) 64 ≡ false = grind (arith, nat_tests) in
    let long : nat_lt (suc (suc (suc (length rest)))) 3 ≡ false = grind (arith, nat_tests) in
    let bank : 64 + p.0 - 64 ≡ p.0 = omega arith in
    let offset : (64 + p.1 / 32 - 64) * 32 + (64 + p.1 % 32 - 64) ≡ p.1 = omega arith in
    rw (low, long, bank, offset) refl

-- ## Lengths
-- what stands before the text of a line
abbrev fore : ℕ → Words → Shown → List ℕ → List ℕ
fore n words shown gap = place_margin (slice_get shown.words 0) ++ ((number_column n ++ columns words shown) ++ gap)

fore_long : (n : ℕ) (words : Words) (shown : Shown) (gap : List ℕ) → length (fore n words shown gap) ≡ front_length n + length gap
fore_long n words shown gap =
    let margin = margin_long (slice_get shown.words 0) in
    let cols = columns_long words (slice_get shown.words 0) shown.place in
    let whole = length-append (place_margin (slice_get shown.words 0)) ((number_column n ++ columns words shown) ++ gap) in
    let rest = length-append (number_column n ++ columns words shown) gap in
    let front = length-append (number_column n) (columns words shown) in
    omega (arith, margin, cols, whole, rest, front)

first_split : (n : ℕ) (words : Words) (text : List ℕ) (shown : Shown)
    → first_row n words text shown ≡ fore n words shown (if length text == 0 then [] else codes "  ") ++ text
first_split n words text shown = sym (append_assoc (place_margin (slice_get shown.words 0)) (row_front n words shown text) text)

second_long : (n : ℕ) (words : Words) (p : ℕ × ℕ) → length (second_row n words p) ≡ front_length n
second_long n words p =
    let margin = margin_long (Some p) in
    let word = word_long words p.0 p.1 in
    let whole = length-append (place_margin (Some p)) (number_column n ++ word_columns words p.0 p.1) in
    let rest = length-append (number_column n) (word_columns words p.0 p.1) in
    omega (arith, margin, word, whole, rest)

-- ## Texts
gap_some : (byte : ℕ) (text : List ℕ) → (if length (byte ∷ text) == 0 then [] else codes "  ") ≡ codes "  "
gap_some byte text =
    let some : (length (byte ∷ text) == 0) ≡ false = grind (arith, nat_tests) in
    rw some refl

some_split : (n : ℕ) (words : Words) (byte : ℕ) (text : List ℕ) (sh : Shown)
    → first_row n words (byte ∷ text) sh ≡ fore n words sh (codes "  ") ++ byte ∷ text
some_split n words byte text sh =
    first_split n words (byte ∷ text) sh ∙ ap (λ gap. fore n words sh gap ++ byte ∷ text) (gap_some byte text)

pub text_is : (n : ℕ) (words : Words) (text : List ℕ) (sh : Shown) → text_on n (first_row n words text sh) ≡ text
text_is n words [] sh =
    drop_all (front_length n + 2) (first_row n words [] sh)
    (let long = fore_long n words sh [] in
    let whole = ap length (first_split n words [] sh) in
    let joined = length-append (fore n words sh []) [] in
    omega (arith, long, whole, joined))
text_is n words (byte ∷ text) sh =
    let long : length (fore n words sh (codes "  ")) ≡ front_length n + 2 = fore_long n words sh (codes "  ") in
    ap (drop (front_length n + 2)) (some_split n words byte text sh)
    ∙ ap (λ k. drop k (fore n words sh (codes "  ") ++ byte ∷ text)) (sym long)
    ∙ drop-append_seam (fore n words sh (codes "  ")) (byte ∷ text)

-- ## Which row is that of a second word
pub second_is : (n : ℕ) (words : Words) (p : ℕ × ℕ) → is_second n (second_row n words p) ≡ true
second_is n words p =
    let long : (length (second_row n words p) == front_length n) ≡ true = eq-eqb _ _ (second_long n words p) in
    let place = place_is (Some p) (number_column n ++ word_columns words p.0 p.1) in
    rw (long, place) refl

columns_near : (n m : ℕ) → n < 9999999 → length (number_column n) ≤ length (number_column m) + 2
columns_near n m lt =
    let short = length-decimal-le 7 n (omega arith) (omega (arith, lt)) (omega (arith, lt)) in
    let one = column_long n in
    let two = column_long m in
    omega (arith, short, one, two)

pub first_not : (before n : ℕ) (words : Words) (text : List ℕ) (place : Option Linear) (ws : List (ℕ × ℕ)) → before < 9999999
    → (text ≡ [] → ws ≡ []) → is_second before (first_row n words text (record { place = place; words = ws })) ≡ false
first_not before n words text place [] lt none =
    elim (cases_Bool (length (first_row n words text (record { place = place; words = [] })) == front_length before)) [
      | inl same ↦ rw same refl
      | inr differ ↦ rw differ refl
    ]
first_not before n words [] place (p ∷ ws) lt none = absurd (let e = ap length (none refl) in omega (arith, e))
first_not before n words (byte ∷ text) place (p ∷ ws) lt none =
    let sh : Shown = record { place = place; words = p ∷ ws } in
    let long = fore_long n words sh (codes "  ") in
    let whole = ap length (some_split n words byte text sh) in
    let joined = length-append (fore n words sh (codes "  ")) (byte ∷ text) in
    let near = columns_near before n lt in
    let differ : (length (first_row n words (byte ∷ text) sh) == front_length before) ≡ false = grind
    (arith, nat_tests, long, whole, joined, near) in
    rw differ refl

-- ## Rows
first_passed : (words : Words) (walk : Walk) (n : ℕ) (text : List ℕ) (sh : Shown) → walk.line.number + 1 ≡ n
    → is_second walk.line.number (first_row n words text sh) ≡ false
    → row_passed words walk (first_row n words text sh)
    ≡ with_line walk.forms (slice_get sh.words 0) (line_of n walk.line.ebank (parts_for Flight text))
unfolding row_passed
first_passed words walk n text sh next differs =
    let place = place_is (slice_get sh.words 0) (row_front n words sh text ++ text) in
    rw (differs, place, next, text_is n words text sh) refl

second_passed : (words : Words) (walk : Walk) (n : ℕ) (p : ℕ × ℕ) → walk.line.number ≡ n
    → row_passed words walk (second_row n words p) ≡ with_second words walk (Some p)
unfolding row_passed
second_passed words walk n p same =
    let place = place_is (Some p) (number_column n ++ word_columns words p.0 p.1) in
    rw (same, second_is n words p, place) refl

-- ## Lines
-- further words of a line
further_passed : (words : Words) (walk : Walk) (n : ℕ) (ps : List (ℕ × ℕ)) → walk.line.number ≡ n
    → rows_passed words walk (map (second_row n words) ps)
    ≡ record { line = walk.line; forms = further_held words walk.forms walk.line.forms ps }
further_passed words walk n [] same = refl
further_passed words walk n (p ∷ ps) same =
    ap (λ k. rows_passed words k (map (second_row n words) ps)) (second_passed words walk n p same)
    ∙ further_passed words (with_second words walk (Some p)) n ps same

line_is : (words : Words) (walk : Walk) (n : ℕ) (text : List ℕ) (sh : Shown) → walk.line.number + 1 ≡ n → n ≤ 9999999
    → (text ≡ [] → sh.words ≡ [])
    → rows_passed words walk (line_list n words text sh) ≡ line_passed words walk (record { number = n; text = text; shown = sh })
line_is words walk n text sh next lt none =
    ap (λ k. rows_passed words k (map (second_row n words) (drop 1 sh.words)))
    (first_passed words walk n text sh next (first_not walk.line.number n words text sh.place sh.words (omega (arith, lt, next)) none))
    ∙ further_passed words (with_line walk.forms (slice_get sh.words 0) (line_of n walk.line.ebank (parts_for Flight text))) n
    (drop 1 sh.words) refl

-- a text without a byte shows no word
none_shown : (language : Language) (s : Layout) → (shown s.location (statement_in language s.location [])).words ≡ []
unfolding statement_of uncounted_statement runs
none_shown Standard s = refl
none_shown Flight s = refl

pub empty_shows : (s : Layout) (text : List ℕ) → text ≡ [] → (shown s.location (statement_on s text)).words ≡ []
empty_shows s text none = ap (λ (t : List ℕ). (shown s.location (statement_on s t)).words) none ∙ none_shown s.language s

-- ## All lines
passes : (words : Words) (walk : Walk) (n : ℕ) (s : Layout) (texts : List (List ℕ)) → walk.line.number + 1 ≡ n
    → n + length texts ≤ 9999999
    → rows_passed words walk (row_list n words s texts) ≡ lines_passed words walk (listed_lines n s texts)
passes words walk n s [] next lt = refl
passes words walk n s (text ∷ texts) next lt =
    let sh : Shown = shown s.location (statement_on s text) in
    let after : Layout = (line_effect n s text).after in
    let passed : Walk = line_passed words walk (record { number = n; text = text; shown = sh }) in
    fold-append (row_passed words) walk (line_list n words text sh) (row_list (n + 1) words after texts)
    ∙ ap (λ k. rows_passed words k (row_list (n + 1) words after texts))
    (line_is words walk n text sh next (omega (arith, lt)) (empty_shows s text))
    ∙ passes words passed (n + 1) after texts refl (omega (arith, lt))

of_lines : (source : Source) (words : Words) (walk : Walk) → walk.line.number ≡ 0 → length (lines source.text) < 9999999
    → rows_passed words walk (placed_rows source words)
    ≡ lines_passed words walk (listed_lines 1 (start source.language) (lines source.text))
unfolding placed_rows
of_lines source words walk none few =
    ap (rows_passed words walk) (lines_are 1 words (start source.language) (lines source.text) (omega (arith, few))
    (lines_feed source.text))
    ∙ passes words walk 1 (start source.language) (lines source.text) (omega (arith, none)) (omega (arith, few))

-- the uncertain places of a source are those of its lines
pub words_of_lines : (source : Source) (words : Words) → AreOfLines source words
unfolding uncertain_words
words_of_lines source words = λ few. ap (λ k. k.forms) (of_lines source words (start_with all_certain) refl few)
