-- A list stays where an element past its end is set.
use Rattle.std.proofs.Common.{◌≡◌, ◌≤◌, ℕ, length, set, sym, Option}
use Rattle.std.proofs.Math.Seq.{set_out}
use Rattle.certain.specs.declared.form.UncertainForm.{UncertainForm}
use Rattle.certain.specs.Places.{UncertainWords}

pub set_past : (forms : UncertainWords) (place : ℕ) (form : Option UncertainForm) → length forms ≤ place → forms ≡ set forms place form
set_past forms place form past = sym (set_out forms place form past)
