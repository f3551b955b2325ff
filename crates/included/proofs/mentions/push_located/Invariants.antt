use Rattle.std.proofs.Common.{◌≡◌, ◌++◌, length}
use Rattle.std.specs.Prelude.{◌==◌}
use Rattle.std.specs.List.{slice_split}
use Rattle.agc_text.specs.Bytes.{space}
use Rattle.included.specs.Located.{located_words, words_text}
use Rattle.included.proofs.mentions.push_located.Given as goal

abbrev pub invariant-loop-word : goal.invariant-loop-word
invariant-loop-word l =
    l.out.items ++ words_text l.path l.joined l.told (slice_split (λ byte. byte == space) l.rest)
    ≡ l.initial.out.items ++ located_words l.path l.joined l.text

abbrev pub decreases-loop-word : goal.decreases-loop-word
decreases-loop-word l = length l.rest
