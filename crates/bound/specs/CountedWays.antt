-- Ways on which A and the cells hold what the words of the way leave in them.
use Rattle.std.specs.Prelude.{◌≡◌, ℕ, ◌+◌, ◌<◌, true, false, List, [], ◌∷◌, codes}
use Rattle.rope.specs.Places.{Words}
use Rattle.bound.specs.declared.site.Site.{Site}
use Rattle.bound.specs.declared.turn.Leg.{Leg}
use Rattle.bound.specs.declared.turn.Turn.TheVariants.{Through}
use Rattle.bound.specs.Bounds.{Counts, IsLeg}
use Rattle.bound.specs.Counting.{does, loads, may_write}
use Rattle.bound.specs.Turns.{turn}

-- what A holds, and what each cell does, by the address at which a program reaches it
pub record Values : Type 0 where
  pub a : ℕ
  pub cell : ℕ → ℕ

-- What an instruction leaves, where the way goes on at q: CA of a constant leaves this in A; CCS, where the way goes on at the word behind
-- it, what its cell holds less 1, which is a number above 0; TS what A holds in its cell, and the way goes on at the word behind it, where
-- A holds a number without overflow that is not below 0; TCF leaves A as it is; and each leaves a cell as it is that it may not write.
pub record Makes (words : Words) (p q : Site) (s t : Values) : Type 0 where
  pub loaded : (n : ℕ) → loads words p n ≡ true → t.a ≡ n
  pub counted : (k : ℕ) → does words p (codes "CCS") k ≡ true → q.address ≡ p.address + 1
      → (t.a + 1 ≡ s.cell k) × (s.cell k < 0o40000)
  pub stored : (k : ℕ) → does words p (codes "TS") k ≡ true → s.a < 0o40000 → (t.cell k ≡ s.a) × (q.address ≡ p.address + 1)
  pub jumped : (k : ℕ) → does words p (codes "TCF") k ≡ true → t.a ≡ s.a
  pub kept : (k : ℕ) → may_write words p k ≡ false → t.cell k ≡ s.cell k

-- A way through a routine, or the beginning of one, from a word at which A and the cells hold these values: each instruction leaves what it
-- leaves, and a routine that is called leaves anything.
pub data ValuedWay (words : Words) (kept : List ℕ) : Site → Values → List Site → Type 0 where
  Ends : (p : Site) (s : Values) → ValuedWay words kept p s (p ∷ [])
  Goes : (p : Site) (s t : Values) (l : Leg) (ps : List Site) → IsLeg l (turn words kept p) → Makes words p l.to s t
      → ValuedWay words kept l.to t ps → ValuedWay words kept p s (p ∷ ps)
  Calls : (p u : Site) (s t : Values) (l : Leg) (ps : List Site) → turn words kept p ≡ Through u l → ValuedWay words kept l.to t ps
      → ValuedWay words kept p s (p ∷ ps)

-- each such way comes to the head of a counted loop at most once more than the constant of this for each time that it enters it
abbrev pub ValuedWaysCount : Words → List ℕ → Site → Type 0
ValuedWaysCount words kept r = (s : Values) (ps : List Site) → ValuedWay words kept r s ps → Counts words kept r ps
