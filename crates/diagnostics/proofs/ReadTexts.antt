-- The lines of a source that were read, among all its lines.
use Rattle.std.proofs.Common.{◌≡◌, ◌∙◌, ℕ, zero, suc, ◌+◌, ◌-◌, ◌<◌, Bool, not, cond, List, [], ◌∷◌, ◌++◌, Some, None, length, map, take, drop, min}
use Rattle.std.proofs.Common.{slice_get, unwrap_or, refl, ap, sym, arith, eqb}
use Rattle.std.specs.List.{fold, position_or_len}
use Rattle.std.proofs.lemmas.Bool.Decides.{nat_tests}
use Rattle.std.proofs.lemmas.List.{drop_min, drop-map, length-map, length-take, take-append-drop}
use Rattle.std.proofs.lemmas.List.Folds.{fold-map, prefix_len-append}
use Rattle.std.proofs.lemmas.List.Sums.{fold-append}
use Rattle.agc_text.specs.Lines.{lines}
use Rattle.yayul.specs.Flight.{most_lines}
use Rattle.yayul.specs.Program.{Source}
use Rattle.yayul.specs.ReadLines.{line_of, lines_of, parts_on}
use Rattle.yayul.specs.Readings.{Parts, parts_for}
use Rattle.yayul.specs.declared.language.Language.{Language}
use Rattle.diagnostics.specs.Interpretive.{has_field, next_said}
use Rattle.diagnostics.specs.Report.{first_line, has_label, labels_of, with_label}
use Rattle.diagnostics.specs.ReadSources.{has_label_on}

same_some : {A : Type 0} (x y : A) → Some x ≡ Some y → x ≡ y
same_some x y e = cc

-- ## A line by its place
read_at :
    (n i : ℕ) (language : Language) (texts : List (List ℕ)) (line : Source) → slice_get (map (line_of language) (take n texts)) i ≡ Some line
    → (slice_get texts i ≡ Some line.text) × (line.language ≡ language)
read_at zero i language [] line e = let no : None ≡ Some line = e in absurd (cc)
read_at zero i language (text ∷ rest) line e = let no : None ≡ Some line = e in absurd (cc)
read_at (suc n) i language [] line e = let no : None ≡ Some line = e in absurd (cc)
read_at (suc n) zero language (text ∷ rest) line e =
    let is : line_of language text ≡ line = same_some (line_of language text) line e in
    (ap (λ (l : Source). Some l.text) is, ap (λ (l : Source). l.language) (sym is))
read_at (suc n) (suc i) language (text ∷ rest) line e = read_at n i language rest line e

pub read_text :
    (source line : Source) (i : ℕ) → slice_get (lines_of source) i ≡ Some line → line.text ≡ unwrap_or (slice_get (lines source.text) i) []
read_text source line i e =
    let there = read_at (most_lines source.language + 1) i source.language (lines source.text) line e in
    sym (ap (λ text. unwrap_or text []) there.0)

pub read_parts :
    (source line : Source) (i : ℕ) (parts : Parts) → slice_get (lines_of source) i ≡ Some line → parts ≡ parts_on line
    → parts ≡ parts_for source.language (unwrap_or (slice_get (lines source.text) i) [])
read_parts source line i parts e is =
    let there = read_at (most_lines source.language + 1) i source.language (lines source.text) line e in
    is ∙ ap (λ language. parts_for language line.text) there.1 ∙ ap (parts_for source.language) (read_text source line i e)

-- ## The first line that passes
drop_parts : (k : ℕ) (xs ys : List (List ℕ)) → drop k (xs ++ ys) ≡ drop k xs ++ drop (k - length xs) ys
drop_parts zero xs ys = let none : 0 - length xs ≡ 0 = omega arith in ap (λ n. xs ++ drop n ys) (sym none)
drop_parts (suc k) [] ys = let all : suc k - 0 ≡ suc k = omega arith in ap (λ n. drop n ys) (sym all)
drop_parts (suc k) (x ∷ xs) ys =
    let less : suc k - length (x ∷ xs) ≡ k - length xs = omega arith in
    drop_parts k xs ys ∙ ap (λ n. drop k xs ++ drop n ys) (sym less)

map_first :
    (language : Language) (p : List ℕ → Bool) (q : Source → Bool) → ((text : List ℕ) → q (line_of language text) ≡ p text)
    → (texts : List (List ℕ)) → position_or_len q (map (line_of language) texts) ≡ position_or_len p texts
map_first language p q same [] = refl
map_first language p q same (text ∷ rest) =
    ap (λ t. cond (not t) (1 + position_or_len q (map (line_of language) rest)) 0) (same text)
    ∙ ap (λ n. cond (not (p text)) (1 + n) 0) (map_first language p q same rest)

-- the lines after so many, by those that were read and those that were not
parted :
    (language : Language) (n k : ℕ) (texts : List (List ℕ))
    → drop k texts ≡ drop k (take n texts) ++ drop (k - length (take n texts)) (drop (length (take n texts)) texts)
parted language n k texts =
    let at : length (take n texts) ≡ min n (length texts) = length-take n texts in
    let same : drop (length (take n texts)) texts ≡ drop n texts = ap (λ m. drop m texts) at ∙ drop_min n texts in
    ap (drop k) (sym (take-append-drop n texts)) ∙ drop_parts k (take n texts) (drop n texts)
    ∙ ap (λ later. drop k (take n texts) ++ drop (k - length (take n texts)) later) (sym same)

first_of_both :
    (p : List ℕ → Bool) (a b : List (List ℕ)) → position_or_len p (a ++ b)
    ≡ cond (eqb (position_or_len p a) (length a)) (length a + position_or_len p b) (position_or_len p a)
first_of_both p a b = prefix_len-append (λ x. not (p x)) a b

inside : (m n l b : ℕ) → m < n → l ≡ cond (eqb m n) (n + b) m → l ≡ m
inside m n l b lt e = grind (arith, nat_tests)

outside : (m n l b : ℕ) → m ≡ n → l ≡ cond (eqb m n) (n + b) m → l ≡ m + b
outside m n l b is e = grind (arith, nat_tests)

found :
    (language : Language) (p : List ℕ → Bool) (q : Source → Bool) → ((text : List ℕ) → q (line_of language text) ≡ p text)
    → (n k : ℕ) (texts : List (List ℕ)) (after : List Source) → after ≡ drop k (map (line_of language) (take n texts))
    → position_or_len p (drop k texts) ≡ cond (eqb (position_or_len q after) (length after))
    (length after + position_or_len p (drop (k - length (take n texts)) (drop (length (take n texts)) texts))) (position_or_len q after)
found language p q same n k texts after is =
    let here : after ≡ map (line_of language) (drop k (take n texts)) = is ∙ drop-map (line_of language) k (take n texts) in
    let rest = drop (k - length (take n texts)) (drop (length (take n texts)) texts) in
    let first : position_or_len q after ≡ position_or_len p (drop k (take n texts)) = ap (position_or_len q) here
    ∙ map_first language p q same (drop k (take n texts)) in
    let long : length after ≡ length (drop k (take n texts)) = rw here (simp length-map) in
    ap (position_or_len p) (parted language n k texts) ∙ first_of_both p (drop k (take n texts)) rest
    ∙ ap (λ m. cond (eqb m (length (drop k (take n texts)))) (length (drop k (take n texts)) + position_or_len p rest) m) (sym first)
    ∙ ap (λ l. cond (eqb (position_or_len q after) l) (l + position_or_len p rest) (position_or_len q after)) (sym long)

lines_read : (source : Source) → length (lines_of source) ≡ length (take (most_lines source.language + 1) (lines source.text))
lines_read source = simp length-map

pub label_read :
    (source : Source) (label : List ℕ) → position_or_len (has_label_on label) (lines_of source) < length (lines_of source)
    → first_line source.language (lines source.text) label ≡ position_or_len (has_label_on label) (lines_of source) + 1
label_read source label lt =
    ap (λ n. n + 1) (inside _ _ _ _ lt (found source.language (has_label source.language label) (has_label_on label) (λ text. refl)
    (most_lines source.language + 1) 0 (lines source.text) (lines_of source) refl))

pub label_beyond :
    (source : Source) (label : List ℕ) (rest : List (List ℕ))
    → position_or_len (has_label_on label) (lines_of source) ≡ length (lines_of source)
    → rest ≡ drop (length (lines_of source)) (lines source.text)
    → first_line source.language (lines source.text) label
    ≡ position_or_len (has_label_on label) (lines_of source) + position_or_len (has_label source.language label) rest + 1
label_beyond source label rest none is =
    let n = most_lines source.language + 1 in
    let t = take n (lines source.text) in
    let zero_less : 0 - length t ≡ 0 = omega arith in
    let left : drop (0 - length t) (drop (length t) (lines source.text)) ≡ rest = ap (λ m. drop m (drop (length t) (lines source.text))) zero_less
    ∙ ap (λ m. drop m (lines source.text)) (sym (lines_read source)) ∙ sym is in
    ap (λ m. m + 1) (outside _ _ _ _ none (found source.language (has_label source.language label) (has_label_on label) (λ text. refl)
    n 0 (lines source.text) (lines_of source) refl)
    ∙ ap (λ r. position_or_len (has_label_on label) (lines_of source) + position_or_len (has_label source.language label) r) left)

pub field_read :
    (source : Source) (line : ℕ) (after : List Source) → after ≡ drop line (lines_of source)
    → position_or_len (λ (l : Source). has_field l.text) after < length after
    → next_said (lines source.text) line ≡ line + position_or_len (λ (l : Source). has_field l.text) after + 1
field_read source line after is lt =
    ap (λ n. line + n + 1) (inside _ _ _ _ lt (found source.language has_field (λ (l : Source). has_field l.text) (λ text. refl)
    (most_lines source.language + 1) line (lines source.text) after is))

pub field_beyond :
    (source : Source) (line : ℕ) (after : List Source) (rest : List (List ℕ)) → after ≡ drop line (lines_of source)
    → position_or_len (λ (l : Source). has_field l.text) after ≡ length after
    → rest ≡ drop (line - length (lines_of source)) (drop (length (lines_of source)) (lines source.text))
    → next_said (lines source.text) line ≡ line + (position_or_len (λ (l : Source). has_field l.text) after + position_or_len has_field rest) + 1
field_beyond source line after rest is none left =
    let n = most_lines source.language + 1 in
    let t = take n (lines source.text) in
    let same : drop (line - length t) (drop (length t) (lines source.text)) ≡ rest
    = ap (λ m. drop (line - m) (drop m (lines source.text))) (sym (lines_read source)) ∙ sym left in
    ap (λ m. line + m + 1) (outside _ _ _ _ none (found source.language has_field (λ (l : Source). has_field l.text) (λ text. refl)
    n line (lines source.text) after is)
    ∙ ap (λ r. position_or_len (λ (l : Source). has_field l.text) after + position_or_len has_field r) same)

-- ## Labels
pub labels_whole :
    (source : Source) (rest : List (List ℕ)) → rest ≡ drop (length (lines_of source)) (lines source.text)
    → fold (λ labels text. with_label labels (parts_for source.language text))
    (fold (λ labels line. with_label labels (parts_on line)) [] (lines_of source)) rest ≡ labels_of source.language (lines source.text)
labels_whole source rest is =
    let n = most_lines source.language + 1 in
    let texts = lines source.text in
    let adds : List (List ℕ) → List ℕ → List (List ℕ) = λ labels text. with_label labels (parts_for source.language text) in
    let read : fold (λ labels line. with_label labels (parts_on line)) [] (lines_of source) ≡ fold adds [] (take n texts)
    = fold-map (λ labels (line : Source). with_label labels (parts_on line)) (line_of source.language) [] (take n texts) in
    let later : rest ≡ drop n texts = is ∙ ap (λ m. drop m texts) (lines_read source ∙ length-take n texts) ∙ drop_min n texts in
    ap (λ held. fold adds held rest) read ∙ ap (fold adds (fold adds [] (take n texts))) later
    ∙ sym (fold-append adds [] (take n texts) (drop n texts)) ∙ ap (fold adds []) (take-append-drop n texts)
