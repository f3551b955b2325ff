use Rattle.std.proofs.Common.{◌≡◌, ◌∙◌, ◌+◌, ◌++◌, ap, arith, drop, get_or, map}
use Rattle.std.proofs.lemmas.List.{drop_more}
use Rattle.yayul.specs.Program.{Source}
use Rattle.yayul.specs.ReadLines.{parts_on}
use Rattle.yayul.specs.Readings.{Parts, parts_in}
use Rattle.warnings.specs.Warnings.{before_next, line_warnings, target_in, warned_lines}
use Rattle.warnings.proofs.Merging.{warned_step}
use Rattle.warnings.proofs.warning.Names.warn.Goals as goal

pub loop-index-preserved : goal.loop-index-preserved
loop-index-preserved c =
    let index = c.loop-index.index in
    let lines = c.args.lines.now in
    let before = c.loop-index.before in
    let names = c.args.self.now in
    let language = c.args.language in
    let unused = c.args.unused in
    let table = c.args.symbols.now in
    let it : Source = c.index-lines-index.result in
    let parts = parts_on (get_or lines index it) in
    let read : Parts = parts_in c.reading-parts.result in
    let same : read ≡ parts = c.reading-parts.ensures ∙ ap parts_on c.index-lines-index.is in
    let rest = map parts_on (drop (index + 1) lines) in
    let found = c.loop-index.found.items in
    let value = c.target_in-target.ensures in
    ap (λ next. c.warn_of.new.found.items ++ warned_lines language unused table names next (index + 1 + 1) rest)
    (c.next-before.ensures ∙ ap (λ v. before_next names.handlers before v read) value
    ∙ ap (λ (p : Parts). before_next names.handlers before (target_in language table p) p) same)
    ∙ warned_step language unused table names before (index + 1) (map parts_on (drop index lines)) rest parts found
    c.warn_of.new.found.items
    (ap (map parts_on) (drop_more lines index it (omega arith)))
    (c.in_ok-warn_of.ensures
    ∙ ap (λ after. found ++ line_warnings language unused names before c.target_in-target.result (map parts_on after) (index + 1) read)
    c.lines_after-after.ensures
    ∙ ap (λ v. found ++ line_warnings language unused names before v rest (index + 1) read) value
    ∙ ap (λ (p : Parts). found ++ line_warnings language unused names before (target_in language table p) rest (index + 1) p) same)
    ∙ c.loop-index.invariant
