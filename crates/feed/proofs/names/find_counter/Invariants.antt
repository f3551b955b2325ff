use Rattle.std.proofs.Common.{◌≡◌, drop}
use Rattle.agc_text.specs.Tables.{value_in}
use Rattle.feed.specs.Names.{by_name}
use Rattle.feed.proofs.names.find_counter.Given as goal

abbrev pub invariant-loop-counter : goal.invariant-loop-counter
invariant-loop-counter l = value_in (by_name l.counters) l.name ≡ value_in (by_name (drop l.counter-index l.counters)) l.name
