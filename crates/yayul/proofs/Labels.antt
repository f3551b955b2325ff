-- What stands, or does not, on a line without a fault.
use Rattle.std.proofs.Common.{◌≡◌, ℕ, Bool, false, ◌&&◌, not, List, [], ◌∷◌, Option, Some, None, refl}
use Rattle.std.specs.Prelude.{if◌then◌else◌}
use Rattle.std.specs.Result.{result_err}
use Rattle.rope.specs.Places.{Words}
use Rattle.yayul.specs.Layout.{Layout, standing, fault_if, is_twice, is_malformed, is_missing, is_erasable, lacks_room, label_alone, erase}
use Rattle.yayul.specs.Layout.{erased_to, defined, value_here}
use Rattle.yayul.specs.Inside.Answers.{tested_faults}
use Rattle.yayul.specs.Inside.Representation.{holds_word}
use Rattle.yayul.specs.Language.{BadLabel, BankFull, CodeInErasable, FaultKind, Label, Malformed, Missing, Named, Numeral}
use Rattle.yayul.specs.Language.{PlaceTaken, TwiceDefined}
use Rattle.yayul.proofs.LineRequests.{none_stands}

one_stands : (c : Option FaultKind) → standing (c ∷ []) ≡ [] → c ≡ None
one_stands None e = refl
one_stands (Some kind) e = absurd (cc)

-- the label is new, and no other fault stands
pub is_new : (b : Bool) (s : Layout) (label : Label) (others : List (Option FaultKind))
    → standing (fault_if b BadLabel ∷ fault_if (is_twice s label) TwiceDefined ∷ others) ≡ []
    → (is_twice s label ≡ false) × (standing others ≡ [])
is_new b s label others e =
    none_stands (is_twice s label) TwiceDefined others (none_stands b BadLabel (fault_if (is_twice s label) TwiceDefined ∷ others) e).1

-- a label that stands alone has a place
pub alone_new : (s : Layout) (label : Label) → (label_alone s label).faults ≡ []
    → (is_twice s label ≡ false) × (not (is_missing label) && lacks_room 1 s.location ≡ false)
alone_new s label e =
    let full : Bool = not (is_missing label) && lacks_room 1 s.location in
    let new = is_new (is_malformed label) s label (fault_if full BankFull ∷ []) e in
    (new.0, (none_stands full BankFull [] new.1).0)

-- a label that has no place does not stand
pub alone_nowhere : (s : Layout) (label : Label) → (label_alone s label).faults ≡ []
    → (if lacks_room 1 s.location then None else Some (value_here s.location)) ≡ None → s ≡ defined s label (value_here s.location)
alone_nowhere s Missing e none = refl
alone_nowhere s Malformed e none = refl
alone_nowhere s (Named name) e none =
    let room : lacks_room 1 s.location ≡ false = (alone_new s (Named name) e).1 in
    absurd (let bad : Some (value_here s.location) ≡ None = rw room at none in cc)

-- the words that are passed come to an end
pub erase_new : (s : Layout) (label : Label) (count : Numeral) → (erase s label count).faults ≡ []
    → (is_twice s label ≡ false) × (result_err (erased_to s.location count) ≡ None)
erase_new s label count e =
    let full : Bool = not (is_missing label) && lacks_room 1 s.location in
    let end : Option FaultKind = result_err (erased_to s.location count) in
    let new = is_new (is_malformed label) s label (fault_if full BankFull ∷ end ∷ []) e in
    (new.0, one_stands end (none_stands full BankFull (end ∷ []) new.1).1)

-- so many words have room, where none stands, in fixed memory
pub words_new : (s : Layout) (words : Words) (label : Label) (count : ℕ) → tested_faults s words label count ≡ []
    → (is_twice s label ≡ false) × ((lacks_room count s.location ≡ false) × ((holds_word words s.location count ≡ false)
    × (is_erasable s.location ≡ false)))
words_new s words label count e =
    let last : List (Option FaultKind) = fault_if (is_erasable s.location) CodeInErasable ∷ [] in
    let taken : List (Option FaultKind) = fault_if (holds_word words s.location count) PlaceTaken ∷ last in
    let new = is_new (is_malformed label) s label (fault_if (lacks_room count s.location) BankFull ∷ taken) e in
    let room = none_stands (lacks_room count s.location) BankFull taken new.1 in
    let free = none_stands (holds_word words s.location count) PlaceTaken last room.1 in
    (new.0, (room.0, (free.0, (none_stands (is_erasable s.location) CodeInErasable [] free.1).0)))
