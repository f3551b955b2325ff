-- States whose cells are held by lists.
use Rattle.std.proofs.Common.{◌≡◌, ℕ, Bool, true, false, List, Option, Some, None, ap, ◌∙◌}
use Rattle.std.specs.Ordering.{nat_cmp}
use Rattle.std.specs.FinSet as set
use Rattle.words.specs.Numbers.{extend, correct}
use Rattle.rope.specs.Places.{Words, Placed, no_words, with_words, word_at}
use Rattle.feed.specs.Merged.{due}
use Rattle.feed.specs.declared.input.Input.{Input}
use Rattle.feed.specs.declared.entry.Entry.{Entry}
use Rattle.space.specs.Cells.{erasable_bank, fixed_bank}
use Rattle.space.specs.Places.{place}
use Rattle.space.specs.declared.place.Linear.{Linear}
use Rattle.space.specs.declared.place.Linear.TheVariants.{Erasable, Fixed}
use Rattle.cpu.specs.State.{State, Scenario}
use Rattle.cpu.specs.Codes.{code_of}
use Rattle.cpu.specs.Effects.{place_in, value_at, operand}
use Rattle.cpu.specs.Inputs.{take}
use Rattle.cpu.specs.Next.{next, next_by, entry, execute, execute_code, instruction_word}
use Rattle.cpu.proofs.Holding.{holding, held, get_held, superbank_held, at-holding, get-holding, superbank-holding, word_placed}
use Rattle.cpu.proofs.Holding.{word_at-placed}

-- a rope of some words
unfoldable pub rope : List Placed → Words
rope ps = with_words no_words ps

-- what runs
abbrev pub scenario : List Placed → List Entry → Scenario
scenario ps inputs = record { rope = rope ps; inputs = inputs }

-- a state in which interrupts are inhibited and nothing waits
pub record Held : Type 0 where
  pub cells : List (ℕ × ℕ)
  pub extra : Bool
  pub requests : set.FinSet nat_cmp
  pub taken : ℕ
  pub counts : List ℕ
  pub cycles : ℕ

abbrev pub state : Held → State
state h =
    record {
      cells = holding h.cells;
      extra = h.extra;
      inhibit = true;
      inside = false;
      waiting_sum = None;
      waiting_word = None;
      requests = h.requests;
      taken = h.taken;
      counts = h.counts;
      cycles = h.cycles;
    }

pub word_at-rope : (ps : List Placed) (bank offset : ℕ) → word_at (rope ps) bank offset ≡ word_placed ps bank offset
unfolding rope
word_at-rope ps bank offset = word_at-placed ps bank offset

-- the place of an address
abbrev pub place_held : Held → ℕ → Linear
place_held h k = place k (held h.cells erasable_bank) (held h.cells fixed_bank) (superbank_held h.cells)

pub place_in-held : (h : Held) (k : ℕ) → place_in (state h) k ≡ place_held h k
unfolding place_in
place_in-held h k = λ i. place k (at-holding h.cells erasable_bank i) (at-holding h.cells fixed_bank i) (superbank-holding h.cells i)

-- what is read at a place
abbrev pub value_held : List Placed → Held → Linear → ℕ
value_held ps h (Erasable p) = get_held h.cells p
value_held ps h (Fixed bank offset) = extend (word_placed ps bank offset)

pub value_at-held : (ps : List Placed) (h : Held) (l : Linear) → value_at (rope ps) (state h) l ≡ value_held ps h l
unfolding value_at
value_at-held ps h (Erasable p) = get-holding h.cells p
value_at-held ps h (Fixed bank offset) = ap (λ w. extend w) (word_at-rope ps bank offset)

pub operand-held : (ps : List Placed) (h : Held) (k : ℕ) → operand (rope ps) (state h) k ≡ value_held ps h (place_held h k)
operand-held ps h k = ap (value_at (rope ps) (state h)) (place_in-held h k) ∙ value_at-held ps h (place_held h k)

-- Z
abbrev pub z_held : Held → ℕ
z_held h = get_held h.cells 5

-- the word at Z
abbrev pub word_held : List Placed → Held → ℕ
word_held ps h = correct (value_held ps h (place_held h (z_held h)))

pub instruction_word-held : (ps : List Placed) (h : Held) → instruction_word (rope ps) (state h) ≡ word_held ps h
unfolding instruction_word
instruction_word-held ps h =
    ap (λ k. correct (operand (rope ps) (state h) k)) (get-holding h.cells 5) ∙ ap (λ x. correct x) (operand-held ps h (z_held h))

-- a step that takes an input
pub takes-input : (ps : List Placed) (inputs : List Entry) (h : Held) (given : Input × Option ℕ)
    → due inputs h.taken h.cycles ≡ Some given → next (scenario ps inputs) (state h) ≡ (take (state h) given, None)
unfolding next
takes-input ps inputs h given e = ap (λ o. next_by (rope ps) (state h) o (entry (state h))) e

-- a step that executes an instruction
pub executes-word : (ps : List Placed) (inputs : List Entry) (h : Held) → due inputs h.taken h.cycles ≡ None
    → next (scenario ps inputs) (state h) ≡ execute_code (rope ps) (state h) (code_of h.extra (word_held ps h))
unfolding next entry execute
executes-word ps inputs h e =
    ap (λ o. next_by (rope ps) (state h) o (entry (state h))) e
    ∙ ap (λ w. execute_code (rope ps) (state h) (code_of h.extra w)) (instruction_word-held ps h)
