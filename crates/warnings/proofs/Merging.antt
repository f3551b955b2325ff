-- Lines that are gone through, and the warnings that are appended on the way.
use Rattle.std.proofs.Common.{◌≡◌, ◌∙◌, ℕ, ◌+◌, Bool, List, [], ◌∷◌, ◌++◌, map, take, drop, ap, refl}
use Rattle.std.proofs.Common.{sym, append_assoc}
use Rattle.symbols.specs.Values.{SymbolTable}
use Rattle.yayul.specs.declared.language.Language.{Language}
use Rattle.yayul.specs.ReadLines.{line_of, parts_on}
use Rattle.yayul.specs.Readings.{Parts, parts_for}
use Rattle.warnings.specs.declared.flow.Before.{Before}
use Rattle.warnings.specs.declared.warning.Names.{Names}
use Rattle.warnings.specs.declared.switched.Target.{Target}
use Rattle.warnings.specs.declared.told.Warning.{Warning}
use Rattle.warnings.specs.Joined.{count_before, joined}
use Rattle.warnings.specs.Warnings.{before_next, line_warnings, target_in, warned_lines}

-- a warning, after those of earlier lines of another list
pub joined_step :
    (warnings rest others : List Warning) (w : Warning) (o0 o1 o2 : List Warning) → warnings ≡ w ∷ rest
    → o1 ≡ o0 ++ take (count_before w.line others) others → o2 ≡ o1 ++ w ∷ []
    → o2 ++ joined rest (drop (count_before w.line others) others) ≡ o0 ++ joined warnings others
joined_step warnings rest others w o0 o1 o2 next e1 e2 =
    let n = count_before w.line others in
    let later = joined rest (drop n others) in
    ap (λ o. o ++ later) (e2 ∙ ap (λ o. o ++ w ∷ []) e1)
    ∙ append_assoc (o0 ++ take n others) (w ∷ []) later
    ∙ append_assoc o0 (take n others) (w ∷ later)
    ∙ ap (λ (ws : List Warning). o0 ++ joined ws others) (sym next)

-- the warnings of a line, and of those after it
pub warned_step :
    (language : Language) (unused : Bool) (table : SymbolTable) (names : Names) (before : Before) (line : ℕ) (lines rest : List Parts)
    (parts : Parts) (o0 o1 : List Warning)
    → lines ≡ parts ∷ rest → o1 ≡ o0 ++ line_warnings language unused names before (target_in language table parts) rest line parts
    → o1 ++ warned_lines language unused table names (before_next names.handlers before (target_in language table parts) parts) (line + 1)
    rest ≡ o0 ++ warned_lines language unused table names before line lines
warned_step language unused table names before line lines rest parts o0 o1 next e =
    let target : Target = target_in language table parts in
    let after : List Warning = warned_lines language unused table names (before_next names.handlers before target parts) (line + 1) rest in
    ap (λ o. o ++ after) e
    ∙ append_assoc o0 (line_warnings language unused names before target rest line parts) after
    ∙ ap (λ t. o0 ++ warned_lines language unused table names before line t) (sym next)

-- the fields of the lines that were read
pub read_apart : (language : Language) (texts : List (List ℕ)) → map parts_on (map (line_of language) texts) ≡ map (parts_for language) texts
read_apart language [] = refl
read_apart language (text ∷ rest) = ap (λ (ps : List Parts). parts_for language text ∷ ps) (read_apart language rest)
