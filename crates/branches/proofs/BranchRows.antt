-- The ways of branches, worked out by hand.
use Rattle.std.proofs.Common.{◌≡◌, ℕ, Bool, true, false, List, [], ◌∷◌, map, refl}
use Rattle.cpu.specs.Codes.{basic_rows, code_of, extracode_rows}
use Rattle.branches.specs.Leading.{name_of, named_by}
use Rattle.branches.specs.Branches.{ways_by}
use Rattle.branches.specs.declared.stand.Stand.{Stand}

-- the addresses of the ways of a word at 4002, where A overflows or not
ways : Bool → Bool → ℕ → List ℕ
ways overflows extra word = map (λ (at : Stand). at.address) (ways_by overflows (name_of extra word) 0o4003 (named_by extra word))

-- CCS 100; TC 4100 leads back; TCF 4100, CA 4100, RETURN and TC 4002, which is TC to itself, have none; TS 100 does not skip
basic : map (ways false false) (0o10100 ∷ 0o4100 ∷ 0o14100 ∷ 0o34100 ∷ 2 ∷ 0o4002 ∷ 0o54100 ∷ [])
    ≡ (0o4003 ∷ 0o4004 ∷ 0o4005 ∷ 0o4006 ∷ []) ∷ (0o4003 ∷ []) ∷ [] ∷ [] ∷ [] ∷ [] ∷ [] ∷ []
unfolding ways basic_rows code_of
basic = refl

-- BZF 4100 and BZMF 4100; MP 4100
extracodes : map (ways false true) (0o14100 ∷ 0o64100 ∷ 0o74100 ∷ []) ≡ (0o4003 ∷ 0o4100 ∷ []) ∷ (0o4003 ∷ 0o4100 ∷ []) ∷ [] ∷ []
unfolding ways extracode_rows code_of
extracodes = refl

-- where A overflows TS 100 skips the word behind it; TCAA goes where A says, and CCS as ever
overflowing : map (ways true false) (0o54100 ∷ 0o54005 ∷ 0o10100 ∷ [])
    ≡ (0o4003 ∷ []) ∷ [] ∷ (0o4003 ∷ 0o4004 ∷ 0o4005 ∷ 0o4006 ∷ []) ∷ []
unfolding ways basic_rows code_of
overflowing = refl
