-- What is told of a source of several files, byte by byte, line by line and word by word.
use Rattle.std.proofs.Common.{◌≡◌, ℕ, suc, ◌+◌, ◌-◌, ◌<◌, ◌≤◌, Bool, true, false, List, [], ◌∷◌, ◌++◌, length, take, drop, max}
use Rattle.std.proofs.Common.{get_or, Some, None, Result, Ok, Err, OnOk, refl, sym, ap, ◌∙◌, arith, append_assoc, append-nil, take_all, length-drop}
use Rattle.std.specs.Prelude.{◌==◌, codes, if◌then◌else◌}
use Rattle.std.specs.List.{position_or_len, slice_split}
use Rattle.std.proofs.lemmas.List.{drop_all, drop_more}
use Rattle.std.proofs.lemmas.List.Splits.{slice_split_first, slice_split_none, length-slice_split}
use Rattle.std.proofs.lemmas.List.Sums.{fails_before_first}
use Rattle.words.proofs.Texts.{append-then}
use Rattle.agc_text.specs.Bytes.{space}
use Rattle.included.specs.declared.place.Place.{Place}
use Rattle.included.specs.declared.listings.Section.{Section}
use Rattle.included.specs.Included.{State}
use Rattle.included.specs.Located.{begins, folder_length, line_name, longest, mark_at, report_line, report_lines}
use Rattle.included.specs.Located.{row_in, rows_from, section_from, tells_line, word_text, words_text}

-- ## Paths
pub folder_none : (path : List ℕ) (n : ℕ) → n ≡ 0 → folder_length path n ≡ n
unfolding folder_length
folder_none path n none = rw none refl

pub folder_ends : (path : List ℕ) (n m : ℕ) → n ≡ suc m → (get_or path m 0 == 0o57) ≡ true → folder_length path n ≡ n
unfolding folder_length
folder_ends path n m e is = rw e (ap (λ (b : Bool). if b then suc m else folder_length path m) is)

pub folder_goes_on : (path : List ℕ) (n m : ℕ) → n ≡ suc m → (get_or path m 0 == 0o57) ≡ false
    → folder_length path n ≡ folder_length path m
unfolding folder_length
folder_goes_on path n m e none = rw e (ap (λ (b : Bool). if b then suc m else folder_length path m) none)

-- ## Marks
pub mark_none : (mark text : List ℕ) (n i : ℕ) → length text ≤ i → mark_at mark (drop i text) n ≡ None
unfolding mark_at
mark_none mark text n i le = rw (drop_all i text le) refl

pub mark_found : (mark text : List ℕ) (n i : ℕ) → i < length text → begins mark (drop i text) ≡ true → mark_at mark (drop i text) n ≡ Some n
unfolding mark_at
mark_found mark text n i lt is = found mark (drop i text) n (drop_more text i 0 lt) is
  where
    found : (mark rest : List ℕ) (n : ℕ) {byte : ℕ} {more : List ℕ} → rest ≡ byte ∷ more → begins mark rest ≡ true
        → mark_at mark rest n ≡ Some n
    found mark rest n e is = rw e (rw (rw e at is) refl)

pub mark_passed : (mark text : List ℕ) (n i : ℕ) → i < length text → begins mark (drop i text) ≡ false
    → mark_at mark (drop i text) n ≡ mark_at mark (drop (i + 1) text) (n + 1)
unfolding mark_at
mark_passed mark text n i lt none = passed mark (drop i text) n (drop_more text i 0 lt) none
  where
    passed : (mark rest : List ℕ) (n : ℕ) {byte : ℕ} {more : List ℕ} → rest ≡ byte ∷ more → begins mark rest ≡ false
        → mark_at mark rest n ≡ mark_at mark more (n + 1)
    passed mark rest n e none = rw e (rw (rw e at none) refl)

-- ## Names of lines
pub longest_none : (s : State) (n : ℕ) (places : List Place) (i : ℕ) → length places ≤ i → longest s n (drop i places) ≡ n
unfolding longest
longest_none s n places i le = rw (drop_all i places le) refl

pub longest_more : (s : State) (n m i all : ℕ) (items : List Place) (name : List ℕ) (d : Place) → i < length items → items ≡ s.places
    → name ≡ line_name s (get_or items i d) → m ≡ max n (length name) → longest s n (drop i s.places) ≡ all
    → longest s m (drop (i + 1) s.places) ≡ all
unfolding longest
longest_more s n m i all items name d lt same is most whole =
    ap (λ (k : ℕ). longest s k (drop (i + 1) s.places)) (most ∙ ap (λ (t : List ℕ). max n (length t)) is)
    ∙ ap (λ (p : List Place). longest s (max n (length (line_name s (get_or items i d)))) (drop (i + 1) p)) (sym same)
    ∙ sym (ap (longest s n) (drop_more items i d lt))
    ∙ ap (λ (p : List Place). longest s n (drop i p)) same
    ∙ whole

-- ## Rows
-- a row was appended
pub row_passed : (s : State) (width : ℕ) (section next : Section) (line : List ℕ) (left rest : List (List ℕ)) (before after all : List ℕ)
    → left ≡ line ∷ rest → next ≡ section_from section line → after ≡ before ++ (row_in s next width line ++ codes "\n")
    → before ++ rows_from s width section left ≡ all → after ++ rows_from s width next rest ≡ all
unfolding rows_from
row_passed s width section next line left rest before after all passed is appended whole =
    ap (λ (a : List ℕ). a ++ rows_from s width next rest) appended
    ∙ append_assoc before (row_in s next width line ++ codes "\n") (rows_from s width next rest)
    ∙ ap (λ (x : Section). before ++ ((row_in s x width line ++ codes "\n") ++ rows_from s width x rest)) is
    ∙ ap (λ (t : List (List ℕ)). before ++ rows_from s width section t) (sym passed)
    ∙ whole

pub rows_end : (s : State) (width : ℕ) (section : Section) (left : List (List ℕ)) (before all : List ℕ) → left ≡ []
    → before ++ rows_from s width section left ≡ all → before ≡ all
unfolding rows_from
rows_end s width section left before all none whole =
    sym (append-nil before) ∙ ap (λ (t : List (List ℕ)). before ++ rows_from s width section t) (sym none) ∙ whole

-- ## Lines of a report
pub line_passed : (path : List ℕ) (s : State) (line : List ℕ) (left rest : List (List ℕ)) (before after all : List ℕ)
    → left ≡ line ∷ rest → after ≡ before ++ (report_line path s line ++ codes "\n")
    → before ++ report_lines path s left ≡ all → after ++ report_lines path s rest ≡ all
unfolding report_lines
line_passed path s line left rest before after all passed appended whole =
    let told : List ℕ = report_line path s line ++ codes "\n" in
    let later : List ℕ = report_lines path s rest in
    ap (λ (a : List ℕ). a ++ later) appended
    ∙ append_assoc before told later
    ∙ ap (λ (t : List (List ℕ)). before ++ report_lines path s t) (sym passed)
    ∙ whole

pub lines_end : (path : List ℕ) (s : State) (left : List (List ℕ)) (before all : List ℕ) → left ≡ []
    → before ++ report_lines path s left ≡ all → before ≡ all
unfolding report_lines
lines_end path s left before all none whole =
    sym (append-nil before) ∙ ap (λ (t : List (List ℕ)). before ++ report_lines path s t) (sym none) ∙ whole

-- ## Words
-- a word before others
pub word_first : (path : List ℕ) (s : State) (told : Bool) (word : List ℕ) (more : List (List ℕ)) → 0 < length more
    → words_text path s told (word ∷ more) ≡ (word_text path s told word ++ codes " ") ++ words_text path s (tells_line word) more
unfolding words_text
word_first path s told word [] some = absurd (omega arith)
word_first path s told word (next ∷ more) some = refl

-- a word and a blank were appended
pub word_passed : (path : List ℕ) (s : State) (told next : Bool) (word rest : List ℕ) (left : List (List ℕ)) (before after all : List ℕ)
    → left ≡ word ∷ slice_split (λ byte. byte == space) rest → next ≡ tells_line word
    → after ≡ before ++ (word_text path s told word ++ codes " ") → before ++ words_text path s told left ≡ all
    → after ++ words_text path s next (slice_split (λ byte. byte == space) rest) ≡ all
word_passed path s told next word rest left before after all passed is appended whole =
    let one : List ℕ = word_text path s told word ++ codes " " in
    let more : List (List ℕ) = slice_split (λ byte. byte == space) rest in
    ap (λ (a : List ℕ). a ++ words_text path s next more) appended
    ∙ append_assoc before one (words_text path s next more)
    ∙ ap (λ (b : Bool). before ++ (one ++ words_text path s b more)) is
    ∙ ap (λ (t : List ℕ). before ++ t)
    (sym (word_first path s told word more (omega (arith, length-slice_split (λ byte. byte == space) rest))))
    ∙ ap (λ (t : List (List ℕ)). before ++ words_text path s told t) (sym passed)
    ∙ whole

-- the last word was appended
pub word_last : (path : List ℕ) (s : State) (told : Bool) (word : List ℕ) (left : List (List ℕ)) (before after all : List ℕ)
    → left ≡ word ∷ [] → after ≡ before ++ word_text path s told word → before ++ words_text path s told left ≡ all → after ≡ all
unfolding words_text
word_last path s told word left before after all is appended whole =
    appended ∙ ap (λ (t : List (List ℕ)). before ++ words_text path s told t) (sym is) ∙ whole

-- the words of a text with a blank, and of one without
pub split_first : (text : List ℕ) (n : ℕ) → n ≡ position_or_len (λ byte. byte == space) text → n < length text
    → slice_split (λ byte. byte == space) text
    ≡ take n text ∷ slice_split (λ byte. byte == space) (take (length text - (n + 1)) (drop (n + 1) text))
split_first text n at lt =
    let within : position_or_len (λ byte. byte == space) text < length text = omega (arith, at, lt) in
    let whole : take (length text - (n + 1)) (drop (n + 1) text) ≡ drop (n + 1) text =
    take_all _ _ (omega (arith, length-drop (n + 1) text)) in
    rw (whole, at) (slice_split_first (λ byte. byte == space) text 0 within)

pub split_none : (text : List ℕ) → length text ≤ position_or_len (λ byte. byte == space) text
    → slice_split (λ byte. byte == space) text ≡ text ∷ []
split_none text le =
    slice_split_none (λ byte. byte == space) text (λ k d hi. fails_before_first (λ byte. byte == space) text k d (omega arith))

-- what stands from a place on
pub rest_from : (text : List ℕ) (n : ℕ) → take (length text - n) (drop n text) ≡ drop n text
rest_from text n = take_all _ _ (omega (arith, length-drop n text))

-- ## Results
-- what follows where a call was made
pub on_ok : {T E P Q : Type 0} (result : Result T E) → (P → Q) → OnOk result P → OnOk result Q
on_ok (Ok x) next is = next is
on_ok (Err e) next is = is

-- four texts were appended
pub four_more : (o a b c d w x y z : List ℕ) → a ≡ o ++ w → b ≡ a ++ x → c ≡ b ++ y → d ≡ c ++ z → d ≡ o ++ (((w ++ x) ++ y) ++ z)
four_more o a b c d w x y z first second third fourth =
    append-then o c d ((w ++ x) ++ y) z (append-then o b c (w ++ x) y (append-then o a b w x first second) third) fourth

pub ruleset mark_steps = (mark_none, mark_found, mark_passed)

pub ruleset folder_steps = (folder_none, folder_ends, folder_goes_on)
