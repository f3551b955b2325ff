-- What reading a feed takes from a reader, and what it answers.
use Rattle.std.specs.Prelude.{◌≡◌, ℕ, ◌+◌, Bool, true, false, List, [], Result, Ok, Err}
use Rattle.words.specs.Readings.{TakesAtMost, Takes}
use Rattle.feed.specs.Feed.{inputs, most_bytes}
use Rattle.feed.specs.declared.entry.Entry.{Entry}
use Rattle.feed.specs.declared.fault.FeedFault.{FeedFault}
use Rattle.feed.specs.declared.fault.FeedFault.TheVariants.{NoMemory, ReadFailed, BadLine, OutOfOrder, TooMany, WrongCounter, TooLong}
use Rattle.feed.specs.declared.fault.FeedFault.TheVariants.{TooManySeries}

-- the bytes that were left give the answer, and all were read
pub record ReadsWhole (old new : List ℕ) (told : Result (List Entry) FeedFault) : Type 0 where
  pub answer : inputs old ≡ told
  pub left : new ≡ []

-- the bytes that were left are too many, and one more was read than a feed may have
pub record ReadsTooMany (old new : List ℕ) : Type 0 where
  pub answer : inputs old ≡ Err TooLong
  pub taken : Takes (most_bytes + 1) old new

-- what reading a feed answers of the bytes that were left, and which it leaves
abbrev pub ReadsFeed : List ℕ → List ℕ → Result (List Entry) FeedFault → Type 0
ReadsFeed old new (Ok list) = ReadsWhole old new (Ok list)
ReadsFeed old new (Err NoMemory) = TakesAtMost (most_bytes + 1) old new
ReadsFeed old new (Err ReadFailed) = TakesAtMost most_bytes old new
ReadsFeed old new (Err (BadLine line)) = ReadsWhole old new (Err (BadLine line))
ReadsFeed old new (Err (OutOfOrder line)) = ReadsWhole old new (Err (OutOfOrder line))
ReadsFeed old new (Err TooMany) = ReadsWhole old new (Err TooMany)
ReadsFeed old new (Err (WrongCounter line)) = ReadsWhole old new (Err (WrongCounter line))
ReadsFeed old new (Err TooLong) = ReadsTooMany old new
ReadsFeed old new (Err (TooManySeries line)) = ReadsWhole old new (Err (TooManySeries line))

-- whether a read failed
abbrev pub has_read_failed : {T : Type 0} → Result T FeedFault → Bool
has_read_failed (Ok x) = false
has_read_failed (Err NoMemory) = false
has_read_failed (Err ReadFailed) = true
has_read_failed (Err (BadLine line)) = false
has_read_failed (Err (OutOfOrder line)) = false
has_read_failed (Err TooMany) = false
has_read_failed (Err (WrongCounter line)) = false
has_read_failed (Err TooLong) = false
has_read_failed (Err (TooManySeries line)) = false
