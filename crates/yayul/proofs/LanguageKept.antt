-- What stands after a line has the language of what stands before it.
use Rattle.std.proofs.Common.{◌≡◌, ℕ, Bool, true, false, List, cond, refl, ◌∙◌}
use Rattle.yayul.specs.Layout.{statement_effect, statement_on}
use Rattle.yayul.specs.Language.{FaultKind, Label, Operation}
use Rattle.yayul.specs.Mended.{lacks_operand}
use Rattle.yayul.specs.Survey.{Survey, done_line, is_bare, is_done, is_kept, kept_label, known_after, label_passed, laid}
use Rattle.yayul.specs.Survey.{layout_kinds, noted, nowhere, operation_on, passed_line, some_stands, with_known}
use Rattle.yayul.specs.declared.doubt.Known.{Known}
use Rattle.yayul.proofs.Lines.{statement_language}

of_label : (s : Survey) (label : Label) (operation : Operation) (kept : Bool)
    → (label_passed kept s label operation).layout.language ≡ s.layout.language
of_label s label operation true = refl
of_label s label operation false = by_test (is_bare operation)
  where
    by_test : (bare : Bool) → (cond bare s.layout (record s.layout { promised = noted s.layout.promised label })).language
        ≡ s.layout.language
    by_test true = refl
    by_test false = refl

of_laid : (line : ℕ) (s : Survey) (label : Label) (operation : Operation) → (laid line s label operation).layout.language ≡ s.layout.language
of_laid line s label operation = by_test (some_stands (statement_effect line s.layout label operation).faults)
  where
    by_test : (stands : Bool) → (cond stands s.layout (statement_effect line s.layout label operation).after).language ≡ s.layout.language
    by_test true = refl
    by_test false = statement_language line s.layout label operation

of_done : (line : ℕ) (s : Survey) (label : Label) (operation : Operation) (done kept : Bool)
    → (done_line line s label operation done kept).layout.language ≡ s.layout.language
of_done line s label operation true kept = of_laid line (label_passed kept s label operation) (kept_label kept label) operation
    ∙ of_label s label operation kept
of_done line s label operation false kept = of_label s label operation kept

of_known : (s : Survey) (known : Known) → (with_known s known).layout.language ≡ s.layout.language
of_known s known = by_test known.location
  where
    by_test : (b : Bool) → (cond b s.layout (record s.layout { location = nowhere })).language ≡ s.layout.language
    by_test true = refl
    by_test false = refl

-- what stands after a line
pub language_kept : (line : ℕ) (s : Survey) (text : List ℕ) → (passed_line line s text).layout.language ≡ s.layout.language
unfolding passed_line
language_kept line s text =
    let label : Label = (statement_on s.layout text).label in
    let operation : Operation = operation_on s.layout text in
    let kinds : List FaultKind = layout_kinds line s.layout label operation in
    let done : Bool = is_done s.known (lacks_operand s.layout.language text) operation kinds in
    of_known (done_line line s label operation done (is_kept done kinds)) (known_after s.known text operation done)
    ∙ of_done line s label operation done (is_kept done kinds)
