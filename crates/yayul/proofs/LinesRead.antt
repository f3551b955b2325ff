-- The lines of a source, read one after the other.
use Rattle.std.proofs.Common.{◌≡◌, ℕ, zero, suc, arith, ◌+◌, ◌<◌, List, [], ◌∷◌, ◌++◌, length, map, take, drop, get_or, refl, ap, sym, subst, ◌∙◌}
use Rattle.std.proofs.Common.{append_assoc}
use Rattle.std.proofs.lemmas.List.{at_drop_more}
use Rattle.yayul.specs.declared.finding.Finding.{Finding}
use Rattle.yayul.specs.Survey.{Survey, looked_at, passed_line, passed_lines, told_line, told_lines}
use Rattle.yayul.specs.declared.survey.Survey.{Survey as Held}
use Rattle.yayul.specs.Inside.Surveys.{Surveys}
use Rattle.yayul.specs.Language.{Language}
use Rattle.yayul.specs.Program.{Source}
use Rattle.yayul.specs.Layout.{Layout}
use Rattle.yayul.specs.ReadLines.{line_of, lines_of, text_of}
use Rattle.yayul.proofs.SurveyByLine.{take_first}

-- one line more that is read
pub read_step :
    (language : Language) (made now : List Source) (line : Source) (n m : ℕ) (here after : List (List ℕ)) (text : List ℕ) → n ≡ m + 1
    → here ≡ text ∷ after → now ≡ made ++ line ∷ [] → line ≡ line_of language text
    → now ++ map (line_of language) (take m after) ≡ made ++ map (line_of language) (take n here)
read_step language made now line n m here after text count lines grows same =
    ap (λ (ls : List Source). ls ++ map (line_of language) (take m after)) grows
    ∙ append_assoc made (line ∷ []) (map (line_of language) (take m after))
    ∙ ap (λ (l : Source). made ++ l ∷ map (line_of language) (take m after)) same
    ∙ sym (ap (λ texts. made ++ map (line_of language) texts) (take_first n m here after text count lines))

-- the texts of lines, and their language
pub texts_back : (language : Language) (texts : List (List ℕ)) → map text_of (map (line_of language) texts) ≡ texts
texts_back language [] = refl
texts_back language (text ∷ texts) = ap (λ ts. text ∷ ts) (texts_back language texts)

pub texts_of_lines : (source : Source) (lines : List Source) → lines ≡ lines_of source
    → map text_of lines ≡ looked_at source.language source.text
texts_of_lines source lines same = ap (map text_of) same ∙ texts_back source.language (looked_at source.language source.text)

language_at : (language : Language) (texts : List (List ℕ)) (i : ℕ) (d : Source) → i < length (map (line_of language) texts)
    → (get_or (map (line_of language) texts) i d).language ≡ language
language_at language [] i d lt = absurd (omega (arith, lt))
language_at language (text ∷ texts) zero d lt = refl
language_at language (text ∷ texts) (suc i) d lt = language_at language texts i d (omega (arith, lt))

-- a line has the language of what stands before it
pub said_here : (source : Source) (lines : List Source) (i line : ℕ) (it : Source) (s : Survey) (v : Held) → lines ≡ lines_of source
    → i < length lines → it ≡ get_or lines i it → Surveys line s v → s.layout.language ≡ source.language
    → it.language ≡ v.layout.language
said_here source lines i line it s v same lt is here language =
    ap (λ (l : Source). l.language) is ∙ ap (λ (ls : List Source). (get_or ls i it).language) same
    ∙ language_at source.language (looked_at source.language source.text) i it (subst (λ (ls : List Source). i < length ls) same lt)
    ∙ sym (ap (λ (t : Layout). t.language) here.agrees.same ∙ language)

-- the lines of a survey, where one is passed
pub passed_next : (line : ℕ) (s : Survey) (lines : List Source) (i : ℕ) (it : Source) → i < length lines → it ≡ get_or lines i it
    → passed_lines line s (map text_of (drop i lines))
    ≡ passed_lines (line + 1) (passed_line line s it.text) (map text_of (drop (i + 1) lines))
passed_next line s lines i it lt is = at_drop_more (λ (ls : List Source). passed_lines line s (map text_of ls)) lines i it lt
    ∙ ap (λ (l : Source). passed_lines (line + 1) (passed_line line s l.text) (map text_of (drop (i + 1) lines))) (sym is)

-- what is told of them, where it is told of one
pub told_after : (line : ℕ) (s whole : Survey) (lines : List Source) (i : ℕ) (it : Source) (all before next : List Finding)
    → i < length lines → it ≡ get_or lines i it
    → all ≡ before ++ told_lines whole line s (map text_of (drop i lines))
    → next ≡ before ++ told_line whole line s it.text
    → all ≡ next ++ told_lines whole (line + 1) (passed_line line s it.text) (map text_of (drop (i + 1) lines))
told_after line s whole lines i it all before next lt is so_far told =
    let rest : List Finding = told_lines whole (line + 1) (passed_line line s it.text) (map text_of (drop (i + 1) lines)) in
    so_far ∙ ap (λ (f : List Finding). before ++ f)
    (at_drop_more (λ (ls : List Source). told_lines whole line s (map text_of ls)) lines i it lt
    ∙ ap (λ (l : Source). told_line whole line s l.text
    ++ told_lines whole (line + 1) (passed_line line s l.text) (map text_of (drop (i + 1) lines))) (sym is))
    ∙ sym (append_assoc before (told_line whole line s it.text) rest)
    ∙ ap (λ (f : List Finding). f ++ rest) (sym told)
