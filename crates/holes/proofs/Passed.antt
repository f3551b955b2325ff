-- What the lines of a source come to, line by line.
use Rattle.std.proofs.Common.{◌≡◌, ℕ, Bool, true, false, List, [], ◌∷◌, ◌++◌, refl, sym, ◌∙◌, ap, append_assoc, append-nil, subst}
use Rattle.std.specs.Prelude.{codes, ◌||◌}
use Rattle.yayul.specs.Readings.{Parts, parts_for}
use Rattle.yayul.specs.declared.language.Language.TheVariants.{Flight}
use Rattle.holes.specs.HoleLines.{has_holes, inside_after, is_hole, line_with_hole, lines_with_holes, source_with_holes}
use Rattle.holes.specs.HoleLaws.{StaysWithoutHoles}

pub stays : (source : List ℕ) → StaysWithoutHoles source
unfolding source_with_holes
stays source = λ none word. rw none refl

or_first : (a b : Bool) → a ≡ true → (a || b) ≡ true
or_first a b e = rw e refl

or_second : (a b : Bool) → a ≡ false → (a || b) ≡ b
or_second a b e = rw e refl

-- a line of the interpretive language is found
pub hole_found : (inside : Bool) (text : List ℕ) (left rest : List (List ℕ)) (parts : Parts) → left ≡ text ∷ rest
    → parts ≡ parts_for Flight text → is_hole inside text parts ≡ true → has_holes inside left ≡ true
hole_found inside text left rest parts passed read hole =
    ap (has_holes inside) passed
    ∙ or_first (is_hole inside text (parts_for Flight text)) (has_holes (inside_after inside text (parts_for Flight text)) rest)
    (subst (λ (p : Parts). is_hole inside text p ≡ true) read hole)

-- a line that is none is passed
pub hole_passed : (inside : Bool) (text : List ℕ) (left rest : List (List ℕ)) (parts : Parts) → left ≡ text ∷ rest
    → parts ≡ parts_for Flight text → is_hole inside text parts ≡ false
    → has_holes (inside_after inside text parts) rest ≡ has_holes inside left
hole_passed inside text left rest parts passed read none =
    ap (λ (p : Parts). has_holes (inside_after inside text p) rest) read
    ∙ sym (or_second (is_hole inside text (parts_for Flight text)) (has_holes (inside_after inside text (parts_for Flight text)) rest)
    (subst (λ (p : Parts). is_hole inside text p ≡ false) read none))
    ∙ ap (has_holes inside) (sym passed)

-- what stands in place of a line was appended
pub line_passed : (word : List ℕ) (inside : Bool) (text : List ℕ) (left rest : List (List ℕ)) (parts : Parts) (before after all : List ℕ)
    → left ≡ text ∷ rest → parts ≡ parts_for Flight text → after ≡ before ++ (line_with_hole word inside text ++ codes "\n")
    → before ++ lines_with_holes word inside left ≡ all → after ++ lines_with_holes word (inside_after inside text parts) rest ≡ all
line_passed word inside text left rest parts before after all passed read appended whole =
    let line : List ℕ = line_with_hole word inside text ++ codes "\n" in
    let later : List ℕ = lines_with_holes word (inside_after inside text (parts_for Flight text)) rest in
    ap (λ (p : Parts). after ++ lines_with_holes word (inside_after inside text p) rest) read
    ∙ ap (λ (a : List ℕ). a ++ later) appended
    ∙ append_assoc before line later
    ∙ ap (λ (t : List (List ℕ)). before ++ lines_with_holes word inside t) (sym passed)
    ∙ whole
