use Rattle.std.proofs.Common.{arith}
use Rattle.std.proofs.lemmas.Str.Pattern.{strip_prefix_char}
use Rattle.command_line.proofs.Texts.{behind_hyphen-from}
use Rattle.command_line.proofs.forms.behind_hyphen.Goals as goal

pub returns : goal.returns
returns c =
    let bytes = c.args.word.now in
    let r = c.strip_prefix.result in
    behind_hyphen-from bytes r (strip_prefix_char 45 bytes r c.strip_prefix.ensures.cases (omega arith))
