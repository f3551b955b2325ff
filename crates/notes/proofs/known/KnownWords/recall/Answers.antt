use Rattle.std.proofs.Common.{◌∙◌, refl}
use Rattle.notes.proofs.Recalled.{known_plain, known_reaches}
use Rattle.notes.proofs.known.KnownWords.recall.Goals as goal

pub returns-then-is_untold-clause-plain : goal.returns-then-is_untold-clause-plain
returns-then-is_untold-clause-plain c =
    let same = c.if-is_same_word.ensures in
    known_plain c.args.named.now c.in-Fixed.bank c.in-Fixed.offset c.at-known.result c.args.processor.now.scenario.rope c.args.machine.now
    c.args.past.now c.args.fetched.now c.in-Fixed.is c.at-known.ensures (same.range refl) (same.word refl) (same.extra refl)
    (same.waited refl) (c.if-stands_at.ensures refl) (c.if-is_untold.ensures.passed refl) (c.if-is_untold.ensures.code refl)

pub returns-then-is_untold-clause-reaches : goal.returns-then-is_untold-clause-reaches
returns-then-is_untold-clause-reaches c =
    let same = c.if-is_same_word.ensures in
    c.leads_away.ensures
    ∙ known_reaches c.args.named.now c.in-Fixed.bank c.in-Fixed.offset c.at-known.result c.args.machine.now c.args.fetched.now c.in-Fixed.is
    c.at-known.ensures (same.range refl) (same.word refl) (same.extra refl) (same.waited refl) (same.added refl)
