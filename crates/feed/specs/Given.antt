-- What a line of a feed can give.
use Rattle.std.specs.Prelude.{◌≡◌, ℕ, ◌≤◌, ◌<◌, ◌^◌, true, List, None, IfOk, All}
use Rattle.feed.specs.Counters.{takes}
use Rattle.feed.specs.Feed.{inputs}
use Rattle.feed.specs.Statements.{is_input_channel, parsed}
use Rattle.feed.specs.declared.entry.Entry.{Entry}
use Rattle.feed.specs.declared.input.Input.{Input}
use Rattle.feed.specs.declared.input.Input.TheVariants.{Count, Word, Interrupt}

-- an input that a line can give: a pulse that its counter takes, a word on a channel that takes inputs, an interrupt that can be asked for
abbrev pub CanBeGiven : Input → Type 0
CanBeGiven (Count counter sequence) = takes counter sequence ≡ true
CanBeGiven (Word n w) = (n < 8 ^ 3) × (w < 8 ^ 5) × (is_input_channel n ≡ true)
CanBeGiven (Interrupt k) = (1 ≤ k) × (k ≤ 10)

-- the same at a cycle that a line can name
abbrev pub CanBeGivenAt : ℕ → Input → Type 0
CanBeGivenAt cycle input = (cycle < 10 ^ 15) × CanBeGiven input

-- an entry that lines can give: its input by one, and at its cycle where it is from no series
pub record CanStand (e : Entry) : Type 0 where
  pub input : CanBeGiven e.input
  pub plain : e.series ≡ None → e.cycle < 10 ^ 15

-- what a line by itself gives, and each input of a feed, a line can give
abbrev pub LineGives : List ℕ → Type 0
LineGives line = IfOk (parsed line) (λ timed. CanBeGivenAt timed.0 timed.1)

abbrev pub FeedGives : List ℕ → Type 0
FeedGives text = IfOk (inputs text) (λ given. All CanStand given)
