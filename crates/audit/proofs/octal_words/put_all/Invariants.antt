use Rattle.std.proofs.Common.{◌≡◌, length}
use Rattle.agc_text.specs.Fields.{runs, texts}
use Rattle.audit.specs.OctalTexts.{put_all, state}
use Rattle.audit.proofs.octal_words.put_all.Given as goal

abbrev pub invariant-loop-field : goal.invariant-loop-field
invariant-loop-field l =
    put_all (state l.initial.words l.initial.next.0 l.initial.next.1) (texts (runs l.text))
    ≡ put_all (state l.words l.next.0 l.next.1) (texts (runs l.rest))

abbrev pub decreases-loop-field : goal.decreases-loop-field
decreases-loop-field l = length (texts (runs l.rest))
