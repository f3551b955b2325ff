-- The registers and the counters by their names.
use Rattle.std.specs.Prelude.{ℕ, List, [], ◌∷◌, ◌==◌, ◌||◌, Bool, codes, map}
use Rattle.std.specs.Borrow.{Bor}

-- a table of texts without where they lie in memory
abbrev pub entries : List (Bor (List ℕ) × Bor (List ℕ)) → List (List ℕ × List ℕ)
entries table = map (λ e. (e.0.now, e.1.now)) table

-- the registers and the counters of the machine, and the octal digits of their places
abbrev pub registers : List (List ℕ × List ℕ)
registers =
    (codes "A", codes "0")
    ∷ (codes "L", codes "1")
    ∷ (codes "Q", codes "2")
    ∷ (codes "EBANK", codes "3")
    ∷ (codes "EB", codes "3")
    ∷ (codes "FBANK", codes "4")
    ∷ (codes "FB", codes "4")
    ∷ (codes "Z", codes "5")
    ∷ (codes "BBANK", codes "6")
    ∷ (codes "BB", codes "6")
    ∷ (codes "ZERO", codes "7")
    ∷ (codes "ARUPT", codes "10")
    ∷ (codes "LRUPT", codes "11")
    ∷ (codes "QRUPT", codes "12")
    ∷ (codes "ZRUPT", codes "15")
    ∷ (codes "BBRUPT", codes "16")
    ∷ (codes "BRUPT", codes "17")
    ∷ (codes "CYR", codes "20")
    ∷ (codes "SR", codes "21")
    ∷ (codes "CYL", codes "22")
    ∷ (codes "EDOP", codes "23")
    ∷ (codes "TIME2", codes "24")
    ∷ (codes "TIME1", codes "25")
    ∷ (codes "TIME3", codes "26")
    ∷ (codes "TIME4", codes "27")
    ∷ (codes "TIME5", codes "30")
    ∷ (codes "TIME6", codes "31")
    ∷ (codes "CDUX", codes "32")
    ∷ (codes "CDUY", codes "33")
    ∷ (codes "CDUZ", codes "34")
    ∷ (codes "OPTY", codes "35")
    ∷ (codes "OPTX", codes "36")
    ∷ (codes "PIPAX", codes "37")
    ∷ (codes "PIPAY", codes "40")
    ∷ (codes "PIPAZ", codes "41")
    ∷ (codes "INLINK", codes "45")
    ∷ []

-- the name of some register or counter begins with a byte
abbrev pub begins_register : ℕ → Bool
begins_register first =
    first == 0o101 || first == 0o102 || first == 0o103 || first == 0o105 || first == 0o106 || first == 0o111 || first == 0o114
    || first == 0o117 || first == 0o120 || first == 0o121 || first == 0o123 || first == 0o124 || first == 0o132
