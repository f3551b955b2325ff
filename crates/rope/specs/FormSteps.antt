-- What the steps of taking bytes in a form do. Only private contracts cite these.
use Rattle.std.specs.Prelude.{◌≡◌, ℕ, List, [], ◌∷◌, Option, Some, None, Result, Ok, Err}
use Rattle.rope.specs.Forms.{taken}
use Rattle.rope.specs.declared.form.Form.{Form}
use Rattle.rope.specs.declared.form.Held.{Held}
use Rattle.rope.specs.declared.form.Held.TheVariants.{Nothing, High, Low}

-- what is left of a byte that was read before it was asked for, and of the bytes after it
abbrev pub left_in : Form → Held → List ℕ → List ℕ
left_in form Nothing bytes = taken form bytes
left_in form (High high) bytes = taken form (high ∷ bytes)
left_in form (Low low) bytes = low ∷ taken form bytes

-- the next byte was taken, where one was left
abbrev pub TakesNext : {E : Type 0} → List ℕ → List ℕ → Result (Option ℕ) E → Type 0
TakesNext old new (Ok None) = (old ≡ []) × (new ≡ [])
TakesNext old new (Ok (Some byte)) = old ≡ byte ∷ new
TakesNext old new (Err e) = new ≡ old
