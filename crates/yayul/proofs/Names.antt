-- What lines name, line by line.
use Rattle.std.proofs.Common.{◌≡◌, ℕ, ◌+◌, List, [], ◌∷◌, map, refl, ap, ◌∙◌}
use Rattle.yayul.specs.Layout.{Layout, line_effect, statement_on}
use Rattle.yayul.specs.Listing.{shown}
use Rattle.yayul.specs.Named.{Named, given_in, line_named, lines_named}
use Rattle.yayul.specs.Inside.Names.{shown_named}
use Rattle.yayul.specs.Inside.Representation.{shown_by_mark, lines_show}
use Rattle.yayul.specs.Language.{Language, Value}
use Rattle.yayul.specs.declared.mark.Mark.{Mark}

-- what is named once one line more is passed
pub named-more : (language : Language) (table : List (List ℕ × Value)) (named : Named) (texts : List (List ℕ)) (text : List ℕ)
    (after : List (List ℕ)) (marks : List Mark) (mark : Mark) (more : List Mark)
    → texts ≡ text ∷ after → marks ≡ mark ∷ more
    → shown_named language table named texts (map shown_by_mark marks)
    ≡ shown_named language table (line_named table named (shown_by_mark mark) (given_in language text)) after (map shown_by_mark more)
named-more language table named texts text after marks mark more e f =
    ap (λ ts. shown_named language table named ts (map shown_by_mark marks)) e
    ∙ ap (λ ms. shown_named language table named (text ∷ after) (map shown_by_mark ms)) f

-- nothing more without what lines show
pub named-no_marks : (language : Language) (table : List (List ℕ × Value)) (named : Named) (texts : List (List ℕ)) (marks : List Mark)
    → marks ≡ [] → shown_named language table named texts (map shown_by_mark marks) ≡ named
named-no_marks language table named [] marks e = refl
named-no_marks language table named (text ∷ texts) marks e = ap
    (λ ms. shown_named language table named (text ∷ texts) (map shown_by_mark ms)) e

-- nor without lines
pub named-no_lines : (language : Language) (table : List (List ℕ × Value)) (named : Named) (texts : List (List ℕ)) (marks : List Mark)
    → texts ≡ [] → shown_named language table named texts (map shown_by_mark marks) ≡ named
named-no_lines language table named texts marks e = ap (λ ts. shown_named language table named ts (map shown_by_mark marks)) e

-- what lines name, each with what it shows by the layout
pub named-shown : (language : Language) (table : List (List ℕ × Value)) (named : Named) (line : ℕ) (s : Layout) (texts : List (List ℕ))
    → shown_named language table named texts (lines_show line s texts) ≡ lines_named language table named line s texts
named-shown language table named line s [] = refl
named-shown language table named line s (text ∷ texts) =
    named-shown language table (line_named table named (shown s.location (statement_on s text)) (given_in language text)) (line + 1)
    (line_effect line s text).after texts
