use Rattle.std.proofs.Common.{◌≡◌, drop}
use Rattle.named_source.specs.NamedSources.{labels_after, labels_of}
use Rattle.named_source.proofs.definitions.labels_of.Given as goal

abbrev pub invariant-loop-index : goal.invariant-loop-index
invariant-loop-index l = labels_after l.labels (drop l.index l.names) ≡ labels_of l.names
