-- Inputs that were worked by hand.
use Rattle.std.proofs.Common.{None, ◌≡◌, ◌+◌, ◌∙◌, refl, ap, arith}
use Rattle.std.specs.FinSet as set
use Rattle.feed.specs.declared.input.Counter.TheVariants.{Time1, Time6, Inlink}
use Rattle.feed.specs.declared.input.Sequence.TheVariants.{Pinc, Dinc, Shanc}
use Rattle.feed.specs.declared.input.Input.TheVariants.{Count, Word}
use Rattle.space.specs.Cells.{get, put, put_channel}
use Rattle.space.proofs.CellLaws.{get-put_word, get-put_other}
use Rattle.cpu.specs.State.{State}
use Rattle.cpu.specs.Inputs.{take, counted, received}

-- the state after an input of one cycle
abbrev later : State → State
later s = record s { taken = s.taken + 1; cycles = s.cycles + 1 }

-- TIME6 at +0 stays there, and asks for interrupt 1
time_6_at_zero : (s : State) → get s.cells 0o31 ≡ 0
    → take s (Count Time6 Dinc, None) ≡ record (later s) { cells = put s.cells 0o31 0; requests = set.insert s.requests 1 }
unfolding take counted
time_6_at_zero s e = rw e refl

-- INLINK at 40000 shifts a one out and one in, and asks for interrupt 7
inlink_at_40000 : (s : State) → get s.cells 0o45 ≡ 0o140000
    → take s (Count Inlink Shanc, None) ≡ record (later s) { cells = put s.cells 0o45 1; requests = set.insert s.requests 7 }
unfolding take counted
inlink_at_40000 s e = rw e refl

-- and then holds 00001
inlink_holds_1 : (s : State) → get s.cells 0o45 ≡ 0o140000 → get (take s (Count Inlink Shanc, None)).cells 0o45 ≡ 1
inlink_holds_1 s e = ap (λ (t : State). get t.cells 0o45) (inlink_at_40000 s e) ∙ get-put_word s.cells 0o45 1 (omega arith)

-- TIME1 at 37777 begins again at +0, and TIME2 takes one more
time_2_after_time_1 : (s : State) → get s.cells 0o25 ≡ 0o37777 → get (put s.cells 0o25 0) 0o24 ≡ 5
    → take s (Count Time1 Pinc, None) ≡ record (later s) { cells = put (put s.cells 0o25 0) 0o24 6 }
unfolding take counted
time_2_after_time_1 s e f = rw (e, f) refl

time_1_at_37777 : (s : State) → get s.cells 0o25 ≡ 0o37777 → get s.cells 0o24 ≡ 5
    → take s (Count Time1 Pinc, None) ≡ record (later s) { cells = put (put s.cells 0o25 0) 0o24 6 }
time_1_at_37777 s e f =
    time_2_after_time_1 s e (get-put_other s.cells 0o25 0 0o24 (omega arith) (omega arith) (omega arith) ∙ f)

-- a word on channel 15 asks for interrupt 5, and takes no cycle
key_on_channel_15 : (s : State)
    → take s (Word 0o15 0o21, None) ≡ record s {
      cells = put_channel s.cells 0o15 0o21;
      requests = set.insert s.requests 5;
      taken = s.taken
          + 1;
    }
unfolding take received
key_on_channel_15 s = let none : s.cycles + 0 ≡ s.cycles = omega arith in rw none refl
