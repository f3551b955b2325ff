use Rattle.std.proofs.Common.{◌≡◌, ◌∙◌, ◌++◌, List, ap, map}
use Rattle.yayul.specs.ReadLines.{parts_on}
use Rattle.yayul.specs.Readings.{Parts}
use Rattle.yayul.specs.Survey.{looked_at}
use Rattle.yayul.specs.declared.language.Language.{Language}
use Rattle.warnings.specs.declared.warning.Names.{Names}
use Rattle.warnings.specs.Warnings.{at_start, lines_apart, names_of, warned_lines, warnings}
use Rattle.warnings.proofs.Merging.{read_apart}
use Rattle.warnings.proofs.warning.warnings.Goals as goal

pub returns : goal.returns
unfolding warnings
returns c =
    let language = c.args.source.now.language in
    let table = c.args.symbols.now in
    let unused = c.args.unused in
    let lines : List Parts = map parts_on c.lines-lines.result.now in
    let apart : lines ≡ lines_apart language c.args.source.now.text
    = ap (map parts_on) c.lines-lines.ensures.lines ∙ read_apart language (looked_at language c.args.source.now.text) in
    c.in_ok-warn.ensures
    ∙ ap (λ before. before ++ warned_lines c.language-language.result unused table c.in_ok-names.names at_start 1 lines) c.new-found.ensures.items
    ∙ ap (λ (names : Names). warned_lines c.language-language.result unused table names at_start 1 lines) c.in_ok-names.ensures
    ∙ ap (λ (l : Language). warned_lines l unused table (names_of l table lines) at_start 1 lines) c.language-language.ensures
    ∙ ap (λ (ps : List Parts). warned_lines language unused table (names_of language table ps) at_start 1 ps) apart
