-- The line that shows a place, by what each line shows.
use Rattle.std.proofs.Common.{◌≡◌, ◌∙◌, ℕ, zero, suc, ◌+◌, ◌<◌, ◌≤◌, List, [], ◌∷◌, ◌++◌, length, map, get_or, Some, None, Bool, refl, ap}
use Rattle.std.proofs.Common.{sym, arith, not, cond}
use Rattle.std.specs.List.{find, position_or_len, slice_get}
use Rattle.std.proofs.lemmas.List.{get_or-map, length-map}
use Rattle.std.proofs.lemmas.List.Folds.{find_at}
use Rattle.rope.specs.Places.{Words}
use Rattle.space.specs.declared.place.Linear.{Linear}
use Rattle.yayul.specs.Layout.{Layout, statement_on, line_effect}
use Rattle.yayul.specs.Listing.{Shown, nothing, shown}
use Rattle.yayul.specs.PlaceRows.{ListedLine, listed_lines, shows, line_of, place_row, row_after}
use Rattle.yayul.specs.Program.{Source}
use Rattle.yayul.specs.Inside.Representation.{shown_by_mark, lines_show}
use Rattle.yayul.specs.declared.mark.Mark.{Mark}

-- the first that passes among what some come to
position_map : {X Y : Type 0} (p : Y → Bool) (f : X → Y) (xs : List X) → position_or_len (λ x. p (f x)) xs ≡ position_or_len p (map f xs)
position_map p f [] = refl
position_map p f (x ∷ xs) = ap (λ n. cond (not (p (f x))) (1 + n) 0) (position_map p f xs)

-- what listed lines show
listed_shows : (n : ℕ) (s : Layout) (texts : List (List ℕ)) → map (λ l. l.shown) (listed_lines n s texts) ≡ lines_show n s texts
listed_shows n s [] = refl
listed_shows n s (text ∷ texts) = ap (λ more. shown s.location (statement_on s text) ∷ more)
    (listed_shows (n + 1) (line_effect n s text).after texts)

shows_length : (n : ℕ) (s : Layout) (texts : List (List ℕ)) → length (lines_show n s texts) ≡ length texts
shows_length n s [] = refl
shows_length n s (text ∷ texts) = ap suc (shows_length (n + 1) (line_effect n s text).after texts)

-- the line after so many, and none after all
listed_at : (n : ℕ) (s : Layout) (texts : List (List ℕ)) (i number : ℕ) → i < length texts → number ≡ n + i
    → slice_get (listed_lines n s texts) i ≡ Some
    (record { number = number; text = get_or texts i []; shown = get_or (lines_show n s texts) i nothing })
listed_at n s [] i number below is = absurd (omega (arith, below))
listed_at n s (text ∷ texts) zero number below is = let same : number ≡ n = omega (arith, is) in rw same refl
listed_at n s (text ∷ texts) (suc i) number below is = listed_at (n + 1) (line_effect n s text).after texts i number (omega (arith, below))
    (omega (arith, is))

listed_past : (n : ℕ) (s : Layout) (texts : List (List ℕ)) (i : ℕ) → length texts ≤ i → slice_get (listed_lines n s texts) i ≡ None
listed_past n s [] i past = refl
listed_past n s (text ∷ texts) zero past = absurd (omega (arith, past))
listed_past n s (text ∷ texts) (suc i) past = listed_past (n + 1) (line_effect n s text).after texts i (omega (arith, past))

-- the number of the first line that shows a place, among the lines and among what they show
same_position : (place : Linear) (n : ℕ) (s : Layout) (texts : List (List ℕ)) (marks : List Mark)
    → map shown_by_mark marks ≡ lines_show n s texts
    → position_or_len (λ l. shows place l.shown) (listed_lines n s texts) ≡ position_or_len (λ mark. shows place (shown_by_mark mark)) marks
same_position place n s texts marks same =
    position_map (shows place) (λ l. l.shown) (listed_lines n s texts)
    ∙ ap (position_or_len (shows place)) (listed_shows n s texts ∙ sym same) ∙ sym (position_map (shows place) shown_by_mark marks)

same_length : (n : ℕ) (s : Layout) (texts : List (List ℕ)) (marks : List Mark) → map shown_by_mark marks ≡ lines_show n s texts
    → length texts ≡ length marks
same_length n s texts marks same = sym (shows_length n s texts) ∙ ap length (sym same) ∙ length-map marks shown_by_mark

-- the line that shows a place
pub shown_first : (place : Linear) (n : ℕ) (s : Layout) (texts : List (List ℕ)) (marks : List Mark) (i number : ℕ) (text : List ℕ)
    (mark : Mark)
    → map shown_by_mark marks ≡ lines_show n s texts → i ≡ position_or_len (λ m. shows place (shown_by_mark m)) marks → i < length marks
    → number ≡ n + i → text ≡ get_or texts i [] → mark ≡ get_or marks i mark
    → find (λ l. shows place l.shown) (listed_lines n s texts) ≡ Some (record { number = number; text = text; shown = shown_by_mark mark })
shown_first place n s texts marks i number text mark same first below numbered there is =
    let mark_there : get_or (lines_show n s texts) i nothing
    ≡ shown_by_mark mark = ap (λ xs. get_or xs i nothing) (sym same) ∙ get_or-map shown_by_mark marks i mark nothing below
    ∙ ap shown_by_mark (sym is) in
    find_at (λ l. shows place l.shown) (listed_lines n s texts)
    ∙ ap (slice_get (listed_lines n s texts)) (same_position place n s texts marks same ∙ sym first)
    ∙ listed_at n s texts i number (omega (arith, below, same_length n s texts marks same)) numbered
    ∙ ap (λ (x : Shown). Some (record { number = number; text = get_or texts i []; shown = x })) mark_there
    ∙ ap (λ (x : List ℕ). Some (record { number = number; text = x; shown = shown_by_mark mark })) (sym there)

-- no line shows a place
pub shown_nowhere : (place : Linear) (n : ℕ) (s : Layout) (texts : List (List ℕ)) (marks : List Mark)
    → map shown_by_mark marks ≡ lines_show n s texts
    → position_or_len (λ m. shows place (shown_by_mark m)) marks ≡ length marks
    → find (λ l. shows place l.shown) (listed_lines n s texts) ≡ None
shown_nowhere place n s texts marks same all =
    find_at (λ l. shows place l.shown) (listed_lines n s texts)
    ∙ ap (slice_get (listed_lines n s texts)) (same_position place n s texts marks same ∙ all)
    ∙ listed_past n s texts (length marks) (omega (arith, same_length n s texts marks same))

-- the row of a place after some bytes
pub none_after : (front : List ℕ) (source : Source) (words : Words) (word : ℕ) (place : Linear) → line_of source place ≡ None
    → row_after front source words word place ≡ []
none_after front source words word place none = rw none refl

pub line_row_after : (front : List ℕ) (source : Source) (words : Words) (word : ℕ) (place : Linear) (l : ListedLine)
    → line_of source place ≡ Some l
    → row_after front source words word place ≡ front ++ place_row words word place l
line_row_after front source words word place l some = rw some refl
