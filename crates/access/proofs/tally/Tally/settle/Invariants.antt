use Rattle.std.proofs.Common.{◌≡◌, ◌≤◌, ◌<◌, ℕ, get_or, length}
use Rattle.cover.specs.Tallies.{account_count}
use Rattle.access.specs.Accesses.{slot_count}
use Rattle.access.specs.Repeats.{no_kept}
use Rattle.access.specs.Tallies.{sum_in}
use Rattle.access.proofs.tally.Tally.settle.Given as goal

abbrev pub invariant-loop-number : goal.invariant-loop-number
invariant-loop-number l = record {
  view : l.self.view ≡ l.initial.self.view;
  last : l.self.last ≡ l.initial.self.last;
  each : length l.self.counts ≡ slot_count l.initial.self.view;
  all : length l.self.kept ≡ account_count;
  sums : (i : ℕ) → sum_in l.self i ≡ sum_in l.initial.self i;
  settled : (j : ℕ) → j < l.number → (get_or l.self.kept j no_kept).count ≤ 0;
  slots : (j : ℕ) → (get_or l.self.kept j no_kept).slots ≡ (get_or l.initial.self.kept j no_kept).slots;
  kinds : (j : ℕ) → (get_or l.self.kept j no_kept).kind ≡ (get_or l.initial.self.kept j no_kept).kind;
}
