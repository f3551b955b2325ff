-- The steps of a reader, one word after another.
use Rattle.std.proofs.Common.{◌≡◌, ◌<◌, ◌+◌, ℕ, List, ◌∷◌, length, take, drop, map, Some, None, get_or, Ok, Err, add-one, drop-cons}
use Rattle.command_line.specs.Reading.{Reading, Read, ◌>>=◌, take_word, read_on, settle, refusal_of, tried_all}
use Rattle.command_line.specs.declared.row.Row.{Row}
use Rattle.command_line.specs.declared.reader.Refusal.{Refusal}

pub map_drop_step : {X Y : Type 0} (f : X → Y) (xs : List X) (i : ℕ) (d : X) → i < length xs
    → map f (drop i xs) ≡ f (get_or xs i d) ∷ map f (drop (i + 1) xs)
map_drop_step f xs i d h = rw (add-one, drop-cons xs i d)

pub read_on_step : (rows : List Row) (word : List ℕ) (words : List (List ℕ)) (r s : Reading) → take_word rows word r ≡ Ok s
    → read_on rows (word ∷ words) r ≡ read_on rows words s
read_on_step rows word words r s e = rw e

pub read_on_stop : (rows : List Row) (word : List ℕ) (words : List (List ℕ)) (r : Reading) (refusal : Refusal)
    → take_word rows word r ≡ Err refusal → read_on rows (word ∷ words) r ≡ Err refusal
read_on_stop rows word words r refusal e = rw e

-- what follows a step that goes on, and one that stops
pub goes_on : (r : Read) (f : Reading → Read) (s : Reading) → r ≡ Ok s → (r >>= f) ≡ f s
goes_on r f s e = rw e

pub stops : (r : Read) (f : Reading → Read) (refusal : Refusal) → r ≡ Err refusal → (r >>= f) ≡ Err refusal
stops r f refusal e = rw e

-- the argument that is open is tried
pub settle_refused : (r : Reading) (row : Row) (refusal : Refusal) → r.open_row ≡ Some row
    → refusal_of row (take r.tried r.given) (drop r.tried r.given) ≡ Some refusal → settle r ≡ Err refusal
unfolding settle
settle_refused r row refusal is e = rw (is, e)

pub settle_good : (r : Reading) (row : Row) → r.open_row ≡ Some row
    → refusal_of row (take r.tried r.given) (drop r.tried r.given) ≡ None → settle r ≡ Ok (tried_all r)
unfolding settle
settle_good r row is e = rw (is, e)
