-- Lines, one after another, the bytes of a name, and a file within another.
use Rattle.std.proofs.Common.{◌≡◌, ℕ, zero, suc, ◌+◌, ◌-◌, ◌<◌, ◌≤◌, not, nat_le, Bool, true, false, List, [], ◌∷◌, ◌++◌, length, drop}
use Rattle.std.proofs.Common.{get_or, Option, Some, None, Result, Ok, Err, refl, sym, ap, ◌∙◌, if◌then◌else◌, arith}
use Rattle.std.proofs.lemmas.Bool.Decides.{nat_tests}
use Rattle.std.proofs.lemmas.List.{drop_all, drop_more}
use Rattle.agc_text.specs.Lines.{lines}
use Rattle.included.specs.declared.place.Place.{Place}
use Rattle.included.specs.declared.refusal.Refusal.{Refusal}
use Rattle.included.specs.declared.refusal.Unjoined.{Unjoined}
use Rattle.included.specs.declared.refusal.Unjoined.TheVariants as unjoined
use Rattle.included.specs.declared.refusal.Why.{Why}
use Rattle.included.specs.declared.refusal.Why.TheVariants.{Loop, Missing, Outside, TooDeep, TooLarge}
use Rattle.included.specs.Included.{Exceeds, Files, Joining, State, Tells, after_byte, bar, before_return, begun, doubles_dot, feed_after}
use Rattle.included.specs.Included.{TellsText, found, include, included_name, is_inside, is_open, join_lines, name_line, place_in, refused}
use Rattle.included.specs.Included.{take_line, text_for}

-- ## Lines
-- no line changes nothing
pub joins_none : (within : Place → State → List ℕ → Joining) (ended : Bool) (file n : ℕ) (s : State) (all : List (List ℕ)) → all ≡ []
    → join_lines within ended file n s all ≡ Ok s
unfolding join_lines
joins_none within ended file n s all e = rw e refl

-- one line more, which is refused, or is not
pub joins_refused : (within : Place → State → List ℕ → Joining) (ended : Bool) (file n : ℕ) (s : State) (all more : List (List ℕ))
    (line : List ℕ) (r : List ℕ × Refusal) → all ≡ line ∷ more
    → take_line within (place_in file (n + 1)) s (before_return line) (feed_after ended more) ≡ Err r
    → join_lines within ended file n s all ≡ Err r
unfolding join_lines
joins_refused within ended file n s all more line r e refused = rw (e, refused) refl

pub joins_next : (within : Place → State → List ℕ → Joining) (ended : Bool) (file n : ℕ) (s t : State) (all more : List (List ℕ))
    (line : List ℕ) → all ≡ line ∷ more
    → take_line within (place_in file (n + 1)) s (before_return line) (feed_after ended more) ≡ Ok t
    → join_lines within ended file n s all ≡ join_lines within ended file (n + 1) t more
unfolding join_lines
joins_next within ended file n s t all more line e some = rw (e, some) refl

-- ## Dots
pub dots_none : (before : Bool) (name : List ℕ) (i : ℕ) → length name ≤ i → doubles_dot before (drop i name) ≡ false
unfolding doubles_dot
dots_none before name i le = rw (drop_all i name le) refl

pub dots_found : (before : Bool) (name : List ℕ) (i : ℕ) → i < length name → after_byte before (get_or name i 0) ≡ None
    → doubles_dot before (drop i name) ≡ true
unfolding doubles_dot
dots_found before name i lt none = rw (drop_more name i 0 lt, none) refl

pub dots_passed : (before next : Bool) (name : List ℕ) (i : ℕ) → i < length name → after_byte before (get_or name i 0) ≡ Some next
    → doubles_dot before (drop i name) ≡ doubles_dot next (drop (i + 1) name)
unfolding doubles_dot
dots_passed before next name i lt some = rw (drop_more name i 0 lt, some) refl

-- ## Files
-- a file that is refused
pub includes_refused : (files : Files) (levels : ℕ) (around : List ℕ) (place : Place) (s : State) (name : List ℕ) (r : List ℕ × Refusal)
    → text_for files levels around place s name ≡ Err r → include files levels around place s name ≡ Err r
unfolding include
includes_refused files zero around place s name r e = rw e refl
includes_refused files (suc levels) around place s name r e = rw e refl

-- a file that is read
pub includes_lines : (files : Files) (levels : ℕ) (around : List ℕ) (place : Place) (s : State) (name text : List ℕ) → 1 ≤ levels
    → text_for files levels around place s name ≡ Ok text
    → include files levels around place s name
    ≡ join_lines (include files (levels - 1) (around ++ name_line name)) true (length s.names) 0 (begun s name text) (lines text)
unfolding include
includes_lines files zero around place s name text some e = absurd (omega (arith, some))
includes_lines files (suc levels) around place s name text some e =
    let less : suc levels - 1 ≡ levels = omega arith in
    rw (less, e) refl

-- ## Answers
-- what tells of one tells of its equal
pub tells_as : (a b : Joining) (s : State) (result : Result (Unit {0}) Unjoined) → a ≡ b → Tells b s result → Tells a s result
tells_as a b s (Ok x) e told = e ∙ told
tells_as a b s (Err unjoined.NoMemory) e told = tt
tells_as a b s (Err (unjoined.Refused refusal)) e told = e ∙ told

-- a line that is not joined
pub joins_unjoined : (within : Place → State → List ℕ → Joining) (ended : Bool) (file n : ℕ) (s t : State) (whole : Joining)
    (all more : List (List ℕ)) (line bytes feed : List ℕ) (e : Unjoined) → all ≡ line ∷ more
    → whole ≡ join_lines within ended file n s all → bytes ≡ before_return line → feed ≡ feed_after ended more
    → Tells (take_line within (place_in file (n + 1)) s bytes feed) t (Err e)
    → Tells whole t (Err e)
joins_unjoined within ended file n s t whole all more line bytes feed unjoined.NoMemory e so_far same fed told = tt
joins_unjoined within ended file n s t whole all more line bytes feed (unjoined.Refused refusal) e so_far same fed told =
    let refused_so : take_line within (place_in file (n + 1)) s (before_return line) (feed_after ended more) ≡ Err (t.names, refusal) =
    ap (λ f. take_line within (place_in file (n + 1)) s (before_return line) f) (sym fed)
    ∙ ap (λ b. take_line within (place_in file (n + 1)) s b feed) (sym same) ∙ told in
    so_far ∙ joins_refused within ended file n s all more line (t.names, refusal) e refused_so

-- ## Texts
-- a bar leaves no file where no level is left
always_barred : (inside being_read : Bool)
    → (if not inside then Some Outside else if being_read then Some Loop else Some TooDeep) ≡ None → ⊥
always_barred true true e = cc
always_barred true false e = cc
always_barred false being_read e = cc

pub some_level : (levels : ℕ) (around name : List ℕ) → bar levels around name ≡ None → 1 ≤ levels
some_level zero around name e = absurd (always_barred (is_inside name) (is_open around name) e)
some_level (suc levels) around name e = omega arith

pub text_barred : (files : Files) (levels : ℕ) (around : List ℕ) (place : Place) (s : State) (name : List ℕ) (why : Why)
    → bar levels around name ≡ Some why → text_for files levels around place s name ≡ refused s place why
text_barred files levels around place s name why e = rw e refl

pub text_missing : (files : Files) (levels : ℕ) (around : List ℕ) (place : Place) (s : State) (name : List ℕ)
    → bar levels around name ≡ None → files name ≡ None → text_for files levels around place s name ≡ refused s place Missing
text_missing files levels around place s name e none = rw (e, none) refl

pub text_there : (files : Files) (levels : ℕ) (around : List ℕ) (place : Place) (s : State) (name text : List ℕ)
    → bar levels around name ≡ None → files name ≡ Some text → length text ≤ s.left
    → text_for files levels around place s name ≡ Ok text
text_there files levels around place s name text e some le =
    let fits : nat_le (length text) s.left ≡ true = grind (arith, nat_tests) in
    rw (e, some, fits) refl

found_large : (s : State) (place : Place) (text : Option (List ℕ)) → Exceeds s.left text → found s place text ≡ refused s place TooLarge
found_large s place None exceeds = absurd exceeds
found_large s place (Some text) exceeds =
    let large : nat_le (length text) s.left ≡ false = grind (arith, nat_tests) in
    rw large refl

pub text_large : (files : Files) (levels : ℕ) (around : List ℕ) (place : Place) (s : State) (name : List ℕ)
    → bar levels around name ≡ None → Exceeds s.left (files name)
    → text_for files levels around place s name ≡ refused s place TooLarge
text_large files levels around place s name e exceeds = rw e (found_large s place (files name) exceeds)

-- ## A line that stands for a file
-- a file that is not read
pub takes_unjoined : (files : Files) (levels : ℕ) (around : List ℕ) (place : Place) (s t : State) (line feed name : List ℕ) (e : Unjoined)
    → Some name ≡ included_name line → TellsText (text_for files levels around place s name) s t name (Err e)
    → Tells (take_line (include files levels around) place s line feed) t (Err e)
takes_unjoined files levels around place s t line feed name unjoined.NoMemory named told = tt
takes_unjoined files levels around place s t line feed name (unjoined.Refused refusal) named told =
    rw (sym named, told.1) (includes_refused files levels around place s name (s.names, refusal) told.0)

-- a file that is read
pub takes_joined : (files : Files) (levels file : ℕ) (around inner : List ℕ) (place : Place) (s u t : State) (line feed name text : List ℕ)
    (result : Result (Unit {0}) Unjoined) → 1 ≤ levels → Some name ≡ included_name line
    → TellsText (text_for files levels around place s name) s u name (Ok text)
    → inner ≡ around ++ name_line name → file ≡ length s.names
    → Tells (join_lines (include files (levels - 1) inner) true file 0 u (lines text)) t result
    → Tells (take_line (include files levels around) place s line feed) t result
takes_joined files levels file around inner place s u t line feed name text result some named there inners at told =
    tells_as (take_line (include files levels around) place s line feed) (join_lines (include files (levels - 1) inner) true file 0 u (lines text)) t
    result (rw (sym named, there.1, inners, at) (includes_lines files levels around place s name text some there.0)) told

pub ruleset text_steps = (some_level, text_barred, text_missing, text_there, text_large)

pub ruleset joins_steps = (joins_none, joins_next, joins_unjoined, tells_as)

pub ruleset dots_steps = (dots_none, dots_found, dots_passed)
