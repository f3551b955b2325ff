-- Lines and fields, one after another.
use Rattle.std.proofs.Common.{◌≡◌, ℕ, ◌+◌, List, [], ◌∷◌, Some, None, Ok, Err, refl}
use Rattle.audit.specs.OctalTexts.{State, put, put_all, read_lines, take_line}

-- no field changes nothing
pub puts_none : (s : State) (all : List (List ℕ)) → all ≡ [] → put_all s all ≡ Some s
unfolding put_all
puts_none s all e = rw e refl

-- one field more, which is no word, or is
pub puts_refused : (s : State) (all more : List (List ℕ)) (field : List ℕ) → all ≡ field ∷ more → put s field ≡ None → put_all s all ≡ None
unfolding put_all
puts_refused s all more field e none = rw (e, none) refl

pub puts_next : (s t : State) (all more : List (List ℕ)) (field : List ℕ) → all ≡ field ∷ more → put s field ≡ Some t
    → put_all s all ≡ put_all t more
unfolding put_all
puts_next s t all more field e some = rw (e, some) refl

-- no line changes nothing
pub reads_none : (n : ℕ) (s : State) (all : List (List ℕ)) → all ≡ [] → read_lines n s all ≡ Ok s.words
unfolding read_lines
reads_none n s all e = rw e refl

-- one line more, which is not taken, or is
pub reads_refused : (n : ℕ) (s : State) (all more : List (List ℕ)) (line : List ℕ) → all ≡ line ∷ more → take_line s line ≡ None
    → read_lines n s all ≡ Err (n + 1)
unfolding read_lines
reads_refused n s all more line e none = rw (e, none) refl

pub reads_next : (n : ℕ) (s t : State) (all more : List (List ℕ)) (line : List ℕ) → all ≡ line ∷ more → take_line s line ≡ Some t
    → read_lines n s all ≡ read_lines (n + 1) t more
unfolding read_lines
reads_next n s t all more line e some = rw (e, some) refl

pub ruleset reads_steps = (reads_none, reads_refused, reads_next)

pub ruleset puts_steps = (puts_none, puts_refused, puts_next)
