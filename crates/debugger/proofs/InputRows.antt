-- Inputs that were added, told as lines by the definitions alone.
use Rattle.std.proofs.Common.{◌≡◌, ℕ, [], ◌∷◌, Some, None, Ok, map, refl}
use Rattle.std.specs.Prelude.{codes}
use Rattle.std.specs.Fmt.{digits}
use Rattle.agc_text.specs.Fields.{runs}
use Rattle.words.specs.Numerals.{octal_text}
use Rattle.feed.specs.Merged.{inserted, is_before}
use Rattle.feed.specs.Names.{counters, sequences}
use Rattle.feed.specs.Statements.{parsed}
use Rattle.feed.specs.declared.entry.Entry.{Entry}
use Rattle.feed.specs.declared.input.Counter.TheVariants.{Time3, PipaX}
use Rattle.feed.specs.declared.input.Input.{Input}
use Rattle.feed.specs.declared.input.Input.TheVariants.{Count, Word, Interrupt}
use Rattle.feed.specs.declared.input.Sequence.TheVariants.{Pinc, Minc}
use Rattle.cpu.specs.State.{Scenario, start}
use Rattle.cpu.specs.Run.{run}
use Rattle.cpu.proofs.FiveRun.{five}
use Rattle.commands.specs.Extended.{extended_line, extended_forms}
use Rattle.yayul.specs.PlaceRows.{no_source}
use Rattle.debugger.specs.Additions.{with_added}
use Rattle.debugger.specs.Conversation.{desk_after}
use Rattle.debugger.specs.ExtendedReplies.{extended_reply}
use Rattle.debugger.specs.History.{history}
use Rattle.debugger.specs.Inputs.{inputs_text}
use Rattle.debugger.specs.Replies.{answer, reply}
use Rattle.debugger.specs.Terms.{first_added, terms_of}
use Rattle.debugger.specs.Transcript.{first_desk}
use Rattle.debugger.proofs.Scripts.{ended}

-- what runs at first: two lines of a feed, and an input of a series on the third
abbrev entry : ℕ → ℕ → Input → Entry
entry cycle line input = record { cycle = cycle; line = line; number = 0; input = input; series = None }

abbrev first : Scenario
first = record five {
  inputs = entry 5 1 (Count Time3 Pinc) ∷ record (entry 7 3 (Interrupt 8)) { series = Some 0 } ∷ entry 20 2 (Word 8 9)
      ∷ [];
}

-- three inputs more, the last before the others
abbrev more : Scenario
more = with_added 0 9 (Count PipaX Minc) (with_added 0 20 (Interrupt 5) (with_added 9 20 (Word 7 0o12) first))

none_added : inputs_text (first_added first) first ≡ codes "# COUNT 0\n"
unfolding inputs_text digits
none_added = refl

all_added : inputs_text (first_added first) more
    ≡ ended (codes "9 PIPAX MINC" ∷ codes "20 CHAN 007 00012" ∷ codes "20 RUPT 5" ∷ codes "# COUNT 3" ∷ [])
unfolding inputs_text with_added inserted is_before digits octal_text
all_added = refl

-- each line is read as the input that it tells
read_back : map parsed (codes "9 PIPAX MINC" ∷ codes "20 CHAN 007 00012" ∷ codes "20 RUPT 5" ∷ [])
    ≡ Ok (9, Count PipaX Minc) ∷ Ok (20, Word 7 0o12) ∷ Ok (20, Interrupt 5) ∷ []
unfolding parsed runs counters sequences
read_back = refl

-- where a session stands that was asked to add these, and one more by a sequence that its counter does not take
asked : (desk_after (terms_of [] no_source first) (extended_line []) (first_desk first [] (Some 9 ∷ []))
    (codes "add 20 CHAN 7 12" ∷ codes "add 20 RUPT 5" ∷ codes "add 20 TIME3 MINC" ∷ codes "add 9 PIPAX MINC" ∷ [])).scenario ≡ more
unfolding extended_line extended_forms extended_reply answer reply parsed runs counters sequences digits history run start with_added
    inserted is_before
asked = refl
