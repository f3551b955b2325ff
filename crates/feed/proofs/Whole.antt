-- A feed that was read to its end, or beyond what it may have.
use Rattle.std.proofs.Common.{◌≡◌, ℕ, ◌+◌, ◌<◌, ◌≤◌, List, [], ◌++◌, length, None, Some, Ok, Err, refl, sym, ap, ◌∙◌, arith}
use Rattle.std.proofs.lemmas.Bool.{lt-ltb, le-ltb}
use Rattle.std.proofs.lemmas.List.{append-nil, length-append}
use Rattle.words.specs.Readings.{Takes}
use Rattle.feed.specs.Feed.{most_bytes, statements, inputs_of, first_fault, unless_fault, inputs_by, inputs}
use Rattle.feed.specs.Gathering.{Tells}
use Rattle.feed.specs.Reading.{ReadsWhole, ReadsTooMany, ReadsFeed}
use Rattle.feed.specs.declared.fault.FeedFault.{FeedFault}
use Rattle.feed.specs.declared.fault.FeedFault.TheVariants.{NoMemory, ReadFailed, BadLine, OutOfOrder, TooMany, WrongCounter, TooLong}
use Rattle.feed.specs.declared.fault.FeedFault.TheVariants.{TooManySeries}
use Rattle.feed.specs.declared.entry.Entry.{Entry}

-- the inputs of a text that is not too long
inputs-within : (text : List ℕ) → length text ≤ most_bytes → inputs text ≡ inputs_by (statements text)
unfolding inputs
inputs-within text within = rw (le-ltb most_bytes (length text) within) refl

-- one that is too long
inputs-long : (text : List ℕ) → most_bytes < length text → inputs text ≡ Err TooLong
unfolding inputs
inputs-long text long = rw (lt-ltb most_bytes (length text) long) refl

pub reads_too_many : (old new : List ℕ) → Takes (most_bytes + 1) old new → ReadsTooMany old new
reads_too_many old new taken =
    let longer : length old ≡ length taken.bytes + length new = ap length taken.front ∙ length-append taken.bytes new in
    record { answer = inputs-long old (omega (arith, longer, taken.count)); taken = taken }

-- lines without a fault give their inputs
pub reads_inputs : (old new text : List ℕ) (list : List Entry) → old ≡ text → new ≡ [] → length text ≤ most_bytes
    → first_fault [] (statements text) ≡ None
    → list ≡ inputs_of (statements text) → ReadsWhole old new (Ok list)
reads_inputs old new text list whole end within faultless given = record {
  answer = ap inputs whole ∙ inputs-within text within ∙ ap (λ f. unless_fault f (inputs_of (statements text))) faultless
      ∙ ap (λ l. Ok l) (sym given);
  left = end;
}

refused : (old new text : List ℕ) (fault : FeedFault) → old ≡ text → new ≡ [] → length text ≤ most_bytes
    → first_fault [] (statements text) ≡ Some fault → ReadsWhole old new (Err fault)
refused old new text fault whole end within found = record {
  answer = ap inputs whole ∙ inputs-within text within ∙ ap (λ f. unless_fault f (inputs_of (statements text))) found;
  left = end;
}

-- the first fault of lines is told, unless memory runs out
pub reads_fault : (old new text : List ℕ) (fault : FeedFault) → old ≡ text → new ≡ [] → length text ≤ most_bytes
    → Tells (first_fault [] (statements text)) fault → ReadsFeed old new (Err fault)
reads_fault old new text NoMemory whole end within told = record {
  bytes = text;
  front = whole ∙ sym (append-nil text) ∙ ap (λ rest. text ++ rest) (sym end);
  most = omega (arith, within);
}
reads_fault old new text ReadFailed whole end within told = elim told [ ]
reads_fault old new text (BadLine line) whole end within told = refused old new text (BadLine line) whole end within told
reads_fault old new text (OutOfOrder line) whole end within told = refused old new text (OutOfOrder line) whole end within told
reads_fault old new text TooMany whole end within told = refused old new text TooMany whole end within told
reads_fault old new text (WrongCounter line) whole end within told = refused old new text (WrongCounter line) whole end within told
reads_fault old new text TooLong whole end within told = elim told [ ]
reads_fault old new text (TooManySeries line) whole end within told = refused old new text (TooManySeries line) whole end within told
