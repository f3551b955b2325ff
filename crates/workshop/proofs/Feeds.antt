-- What is read of a feed, as an engine tells it.
use Rattle.std.proofs.Common.{◌≡◌, ◌≢◌, ℕ, ◌≤◌, true, false, List, length, Result, Ok, Err, refl, sym, ap, ◌∙◌, inl, inr, append-nil, arith}
use Rattle.std.specs.Prelude.{if◌then◌else◌}
use Rattle.std.proofs.lemmas.Bool.{cases_lt, lt-ltb}
use Rattle.words.specs.Devices.{one_more}
use Rattle.words.specs.Readings.{TakesAtMost}
use Rattle.feed.specs.Feed.{inputs, most_bytes}
use Rattle.feed.specs.Reading.{ReadsFeed, ReadsWhole, has_read_failed as has_failed}
use Rattle.feed.specs.declared.fault.FeedFault.{FeedFault}
use Rattle.feed.specs.declared.fault.FeedFault.TheVariants.{NoMemory, ReadFailed, BadLine, OutOfOrder, TooMany, WrongCounter, TooLong}
use Rattle.feed.specs.declared.fault.FeedFault.TheVariants.{TooManySeries}
use Rattle.feed.specs.declared.entry.Entry.{Entry}
use Rattle.workshop.specs.Failures.{Reader, has_read_failed, has_write_failed}
use Rattle.workshop.specs.Inputs.{of_feed}
use Rattle.workshop.specs.Loading.{Reads, ReadsInputs}

-- a feed that is not too long has no more bytes than it may have
few_bytes : (text : List ℕ) (told : Result (List Entry) FeedFault) → inputs text ≡ told → told ≢ Err TooLong → length text ≤ most_bytes
unfolding inputs
few_bytes text told e differs =
    elim (cases_lt most_bytes (length text)) [
      | inr few ↦ few
      | inl many ↦ absurd (differs (sym e ∙ rw (lt-ltb most_bytes (length text) many) refl))
    ]

-- such a feed was read whole
within : (old new : List ℕ) (told : Result (List Entry) FeedFault) → ReadsWhole old new told → told ≢ Err TooLong
    → TakesAtMost most_bytes old new
within old new told whole differs =
    record { bytes = old; front = rw whole.left (sym (append-nil old)); most = few_bytes old told whole.answer differs }

reads_inputs : (old new : List ℕ) (told : Result (List Entry) FeedFault) → ReadsFeed old new told → ReadsInputs old new (of_feed told)
reads_inputs old new (Ok is) h = record { tells = ap of_feed h.answer; whole = h.left; most = within old new _ h (λ e. cc) }
reads_inputs old new (Err NoMemory) h = record { tells = tt; whole = tt; most = h }
reads_inputs old new (Err ReadFailed) h = record { tells = tt; whole = tt; most = h }
reads_inputs old new (Err (BadLine line)) h = record { tells = ap of_feed h.answer; whole = tt; most = within old new _ h (λ e. cc) }
reads_inputs old new (Err (OutOfOrder line)) h = record { tells = ap of_feed h.answer; whole = tt; most = within old new _ h (λ e. cc) }
reads_inputs old new (Err TooMany) h = record { tells = ap of_feed h.answer; whole = tt; most = within old new _ h (λ e. cc) }
reads_inputs old new (Err (WrongCounter line)) h = record { tells = ap of_feed h.answer; whole = tt; most = within old new _ h (λ e. cc) }
reads_inputs old new (Err TooLong) h = record {
  tells = ap of_feed h.answer;
  whole = tt;
  most = record
      { bytes = h.taken.bytes; front = h.taken.front; most = omega (arith, h.taken.count) };
}
reads_inputs old new (Err (TooManySeries line)) h = record { tells = ap of_feed h.answer; whole = tt; most = within old new _ h (λ e. cc) }

same_failure : (told : Result (List Entry) FeedFault) → has_read_failed (of_feed told) ≡ has_failed told
same_failure (Ok is) = refl
same_failure (Err NoMemory) = refl
same_failure (Err ReadFailed) = refl
same_failure (Err (BadLine line)) = refl
same_failure (Err (OutOfOrder line)) = refl
same_failure (Err TooMany) = refl
same_failure (Err (WrongCounter line)) = refl
same_failure (Err TooLong) = refl
same_failure (Err (TooManySeries line)) = refl

no_write : (told : Result (List Entry) FeedFault) → has_write_failed (of_feed told) ≡ false
no_write (Ok is) = refl
no_write (Err NoMemory) = refl
no_write (Err ReadFailed) = refl
no_write (Err (BadLine line)) = refl
no_write (Err (OutOfOrder line)) = refl
no_write (Err TooMany) = refl
no_write (Err (WrongCounter line)) = refl
no_write (Err TooLong) = refl
no_write (Err (TooManySeries line)) = refl

pub reads_feed : (before after : Reader) (told : Result (List Entry) FeedFault)
    → (before.told ≡ true → ReadsFeed before.left after.left told)
    → after.failures ≡ (if has_failed told then one_more before.failures else before.failures)
    → Reads ReadsInputs before after (of_feed told)
reads_feed before after told bytes failures =
    record {
      bytes = λ t. reads_inputs before.left after.left told (bytes t);
      failures = rw (same_failure told) failures;
      writer = no_write
          told;
    }
