use Rattle.notes.proofs.Recalled.{kept_is_known}
use Rattle.notes.proofs.known.KnownWords.keep_at.Goals as goal

pub returns : goal.returns
returns c =
    kept_is_known c.args.named.now c.args.self.now _ c.args.bank c.args.offset c.number_at-number.result c.args.known c.requires.others
    c.put.ensures.put c.number_at-number.ensures.value c.number_at-number.ensures.low c.put.ensures.within c.requires.known
