-- Replies to `why` with `inputs` and `interrupts`, worked out by hand.
use Rattle.std.proofs.Common.{◌≡◌, ℕ, false, true, List, [], ◌∷◌, ◌++◌, refl, replicate}
use Rattle.std.specs.Prelude.{codes}
use Rattle.std.specs.Fmt.{digits}
use Rattle.words.specs.Numerals.{octal_text}
use Rattle.space.specs.Places.{window}
use Rattle.feed.specs.declared.input.Counter.TheVariants.{Time3}
use Rattle.feed.specs.declared.input.Input.TheVariants.{Count, Word}
use Rattle.feed.specs.declared.input.Sequence.TheVariants.{Pinc}
use Rattle.rope.specs.Places.{Words, word_at}
use Rattle.symbols.specs.declared.values.Value.TheVariants as value
use Rattle.trace.specs.TraceLines.{symbol_at}
use Rattle.yayul.specs.Listing.{place_text}
use Rattle.origins.specs.Tallies.{no_steps}
use Rattle.origins.specs.declared.origin.Origin.TheVariants.{Taken, Fixed}
use Rattle.origins.specs.declared.origin.OriginLine.{OriginLine}
use Rattle.origins.specs.declared.tally.Tally.{Tally}
use Rattle.debugger.specs.OriginsTold.{levels_from, more_line, origin_lines}
use Rattle.debugger.specs.declared.origins_told.OriginKind.TheVariants.{Inputs, FixedWords}

abbrev tally : ℕ → ℕ → ℕ → Tally
tally count first last = record { count = count; first = first; last = last }

-- a fixed word, a pulse and a word on a channel
abbrev origins : List OriginLine
origins = record { origin = Fixed 2 0o122; tally = tally 1 11 11 } ∷ record { origin = Taken (Count Time3 Pinc); tally = tally 20 4 980 }
    ∷ record { origin = Taken (Word 0o15 0o21); tally = tally 2 3 7 }
    ∷ record { origin = Fixed 2 0o123; tally = tally 3 1 9 } ∷ []

-- first the inputs, then the fixed words, by their symbols or else their places
told : (rope : Words) → word_at rope 2 0o122 ≡ 0o12 → word_at rope 2 0o123 ≡ 0o24
    → origin_lines ((codes "TABLE", value.Fixed 2 0o122) ∷ []) rope Inputs origins
    ++ origin_lines ((codes "TABLE", value.Fixed 2 0o122) ∷ []) rope FixedWords origins
    ++ more_line false ++ more_line true
    ≡ codes "INPUT TIME3 PINC COUNT 20 FIRST 4 LAST 980\nINPUT CHAN 015 00021 COUNT 2 FIRST 3 LAST 7\n"
    ++ codes "FIXED TABLE 00012 COUNT 1 FIRST 11 LAST 11\nFIXED 02,4123 00024 COUNT 3 FIRST 1 LAST 9\nMORE LINES\n"
unfolding symbol_at place_text window octal_text digits
told rope first second = rw (first, second) refl

-- steps outside of interrupts, in interrupt 3 and in interrupt 10; and of a chain of no step
levels : levels_from 0 0 (tally 3 4 12 ∷ no_steps ∷ no_steps ∷ tally 1 7 7 ∷ replicate 6 no_steps ++ tally 2 8 9 ∷ [])
    ++ levels_from 0 0 (replicate 11 no_steps)
    ≡ codes "OUTSIDE COUNT 3 FIRST 4 LAST 12\nINTERRUPT 3 COUNT 1 FIRST 7 LAST 7\nINTERRUPT 10 COUNT 2 FIRST 8 LAST 9\n"
    ++ codes "COUNT 3\nCOUNT 0\n"
unfolding digits
levels = refl
