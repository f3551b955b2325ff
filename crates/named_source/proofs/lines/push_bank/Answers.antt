use Rattle.words.proofs.Texts.{append-then}
use Rattle.named_source.specs.NamedSources.{said_bank}
use Rattle.named_source.proofs.lines.push_bank.Goals as goal

pub returns : goal.returns
unfolding said_bank
returns c = append-then c.args.out.now.items _ _ _ _
    (rw (c.as_slice.ensures.value, c.bank_line.ensures) at c.in_ok-extend_from_slice.ensures.items) c.in_ok-push_words.ensures
